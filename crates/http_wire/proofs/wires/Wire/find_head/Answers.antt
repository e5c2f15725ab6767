use Rattle.std.proofs.Common.{arith, append-nil, length, length-append, ◌≡◌, ◌∙◌, ◌++◌, ◌∷◌, [], ℕ, List, refl, sym, ap, subst}
use Rattle.std.proofs.lemmas.Bool.{false≢true}
use Rattle.std.specs.Prelude.{IsSome, None}
use Rattle.std.specs.Option.{is_some}
use Rattle.outside.specs.Told.{in_front}
use Rattle.http_wire.specs.Front.{head_place}
use Rattle.http_wire.specs.Search.{IsOpen}
use Rattle.http_wire.proofs.OpenLemmas.{open_more, open_start}
use Rattle.http_wire.proofs.WireLemmas.{body_gone}
use Rattle.http_wire.proofs.wires.Wire.find_head.Goals as goal

pub loop-start-init : goal.loop-start-init
loop-start-init g c = record {
  open_so_far = open_start c.args.self.now;
  unread_kept = refl;
  read_faults = refl;
  taken = refl;
  write_faults = refl;
  unasked = λ _. (refl, refl);
}

-- no head is held where none was found
is_not_held : (held looked first : List ℕ) → head_place looked ≡ None → looked ≡ held → held ≡ first → ¬ (IsSome (head_place first))
is_not_held held looked first none same kept some =
    false≢true (ap is_some (sym none ∙ ap head_place (same ∙ kept)) ∙ some)

pub loop-start-preserved : goal.loop-start-preserved
loop-start-preserved g c =
    let t = g.S.Tells in
    let before = c.loop-start.invariant in
    let e = c.in_ok-fill.ensures in
    let next = c.in-Open.next in
    let same = c.held.ensures.value in
    let opened = subst (λ (l : List ℕ). IsOpen l next.start next.line next.at) same c.in-Open.ensures.0 in
    record {
      open_so_far = subst (λ (l : List ℕ). IsOpen l next.start next.line next.at) (sym e.given.2) (open_more opened e.given.0);
      unread_kept = ap (λ (l : List ℕ). in_front l (t.left c.fill.new.source)) e.given.2
          ∙ sym (body_gone c.loop-start.self e.given.0 _ _ e.given.3) ∙ before.unread_kept;
      read_faults = e.cause ∙ before.read_faults;
      taken = e.taken ∙ before.taken;
      write_faults = e.write_faults ∙ before.write_faults;
      unasked = λ some. absurd (is_not_held _ _ _ c.in-Open.ensures.2 same (before.unasked some).1 some);
    }

pub loop-start-smaller : goal.loop-start-smaller
loop-start-smaller g c =
    let e = c.in_ok-fill.ensures in
    let more = ap (λ (l : List ℕ). length l) e.given.2 in
    let room = ap (λ (l : List ℕ). length l) c.held-in-loop-start.ensures.value in
    omega (arith, more, length-append c.loop-start.self e.given.0, e.given.1, c.if-branch-eq0.false, room, c.held-in-loop-start.ensures.room)

-- nothing was read
nothing_more : (held held_after more : List ℕ) → length more ≡ 0 → held_after ≡ held ++ more → held_after ≡ held
nothing_more held held_after [] none is = is ∙ append-nil held
nothing_more held held_after (b ∷ more) none is = absurd (omega arith)

pub returns-then-branch-eq0-clause-found : goal.returns-then-branch-eq0-clause-found
returns-then-branch-eq0-clause-found g c =
    let e = c.in_ok-fill.ensures in
    let same = nothing_more c.loop-start.self c.fill.new.self e.given.0 (e.given.1 ∙ c.if-branch-eq0.true) e.given.2 in
    let now = ap (λ (l : List ℕ). length l) same in
    let room = ap (λ (l : List ℕ). length l) c.held-in-loop-start.ensures.value in (
      omega (arith, now, room, c.held-in-loop-start.ensures.room),
      e.end c.if-branch-eq0.true,
      ap head_place (same ∙ sym c.held.ensures.value) ∙ c.in-Open.ensures.2,
    )
