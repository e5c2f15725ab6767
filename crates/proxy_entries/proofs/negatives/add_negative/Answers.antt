use native.Mathlib.Omega.{arith}
use Rattle.std.proofs.Common.{◌≡◌, ◌<◌, ℕ, List, None, ap, sym, subst, ◌∙◌, length, string_bytes}
use Rattle.std.specs.Prelude.{find}
use Rattle.repo_model.specs.Data.{NegativeEntry}
use Rattle.repo_model.specs.State.{is_negative_of}
use Rattle.repo_model.specs.Effect.{most_negatives, with_negative, without_negative}
use Rattle.proxy_entries.specs.Stored.{AreInTime, shown_negative, shown_negatives}
use Rattle.proxy_entries.proofs.NegativeLemmas.{free, negatives-length, there}
use Rattle.proxy_entries.proofs.MomentLemmas.{in-time-with}
use Rattle.proxy_entries.proofs.Results.{from-either, on-ok}
use Rattle.proxy_entries.proofs.RoomLemmas.{fewer, found-there, negatives-few, roomy}
use Rattle.proxy_entries.proofs.negatives.add_negative.Goals as goal
use Rattle.proxy_entries.proofs.negatives.add_negative.Goals.{then-len-lt-MOST_NEGATIVES-via-then-len-lt-MOST_NEGATIVES, then-len-lt-MOST_NEGATIVES-via-else-len-lt-MOST_NEGATIVES+then-contains_key}

pub returns-then-len-lt-MOST_NEGATIVES-clause-ok : goal.returns-then-len-lt-MOST_NEGATIVES-clause-ok
returns-then-len-lt-MOST_NEGATIVES-clause-ok c =
    let es = c.args.negatives.now.entries in
    let path = c.args.path.now in
    let negatives = shown_negatives es in
    let new : NegativeEntry = shown_negative path c.args.moment in
    let count = negatives-length es in
    let room : length (without_negative path negatives) < most_negatives =
    elim c.then-len-lt-MOST_NEGATIVES.branch [
      | then-len-lt-MOST_NEGATIVES-via-then-len-lt-MOST_NEGATIVES w ↦ omega (arith, fewer path negatives, count, w.if-len-lt-MOST_NEGATIVES.true, c.len.ensures.len)
      | then-len-lt-MOST_NEGATIVES-via-else-len-lt-MOST_NEGATIVES+then-contains_key w ↦
          let at = there path es (sym w.contains_key.ensures ∙ w.if-contains_key.true) in
          omega (arith, found-there path negatives at.0 at.1, count, c.requires.few)
    ] in
    on-ok c.set.result (λ made. subst (λ p. shown_negatives c.set.new.negatives.entries ≡ with_negative (shown_negative p c.args.moment) negatives) c.in_ok-key.ensures.ok
    (made ∙ roomy (shown_negative (string_bytes c.in_ok-key.key) c.args.moment) negatives (subst (λ p. length (without_negative p negatives) < most_negatives) (sym c.in_ok-key.ensures.ok) room)))
    c.set.ensures.ok

pub returns-then-len-lt-MOST_NEGATIVES-clause-few : goal.returns-then-len-lt-MOST_NEGATIVES-clause-few
returns-then-len-lt-MOST_NEGATIVES-clause-few c =
    let es = c.args.negatives.now.entries in
    let negatives = shown_negatives es in
    let new : NegativeEntry = shown_negative c.args.path.now c.args.moment in
    let after = c.set.new.negatives.entries in
    from-either c.set.result (returns-then-len-lt-MOST_NEGATIVES-clause-ok c) c.set.ensures.err
    (λ made. omega (arith, negatives-length es, negatives-length after, ap length made, negatives-few new negatives (omega (arith, negatives-length es, c.requires.few))))
    (λ same. omega (arith, negatives-length es, negatives-length after, ap length same, c.requires.few))

pub displace-requires-clause-free : goal.displace-requires-clause-free
displace-requires-clause-free c =
    let negatives = shown_negatives c.args.negatives.now.entries in
    subst (λ (p : List ℕ). find (is_negative_of p) negatives ≡ None) (sym c.in_ok-key.ensures.ok)
    (free c.args.path.now c.args.negatives.now.entries (sym c.contains_key.ensures ∙ c.if-contains_key.false))

pub returns-clause-few : goal.returns-clause-few
returns-clause-few c =
    let es = c.args.negatives.now.entries in
    let negatives = shown_negatives es in
    let new : NegativeEntry = shown_negative (string_bytes c.in_ok-key.key) c.args.moment in
    let after = c.displace.new.negatives.entries in
    from-either c.displace.result c.displace.ensures.ok c.displace.ensures.err
    (λ made. omega (arith, negatives-length es, negatives-length after, ap length made, negatives-few new negatives (omega (arith, negatives-length es, c.requires.few))))
    (λ same. omega (arith, negatives-length es, negatives-length after, ap length same, c.requires.few))

pub returns-then-len-lt-MOST_NEGATIVES-clause-timely : goal.returns-then-len-lt-MOST_NEGATIVES-clause-timely
returns-then-len-lt-MOST_NEGATIVES-clause-timely c =
    let negatives = shown_negatives c.args.negatives.now.entries in
    let new : NegativeEntry = shown_negative c.args.path.now c.args.moment in
    from-either c.set.result (returns-then-len-lt-MOST_NEGATIVES-clause-ok c) c.set.ensures.err
    (λ made. subst AreInTime (sym made) (in-time-with new negatives c.requires.moment c.requires.timely))
    (λ same. subst AreInTime (sym same) c.requires.timely)

pub returns-clause-timely : goal.returns-clause-timely
returns-clause-timely c =
    let negatives = shown_negatives c.args.negatives.now.entries in
    let new : NegativeEntry = shown_negative (string_bytes c.in_ok-key.key) c.args.moment in
    from-either c.displace.result c.displace.ensures.ok c.displace.ensures.err
    (λ made. subst AreInTime (sym made) (in-time-with new negatives c.requires.moment c.requires.timely))
    (λ same. subst AreInTime (sym same) c.requires.timely)
