use Rattle.std.proofs.Common.{◌≤◌, ap, sym, subst, ◌∙◌, length, string_bytes}
use Rattle.repo_model.specs.Data.{NegativeEntry}
use Rattle.repo_model.specs.Effect.{most_negatives, without_negative}
use Rattle.proxy_entries.specs.Stored.{shown_negative, shown_negatives}
use Rattle.proxy_entries.proofs.NegativeLemmas.{negatives-length, rising-shown}
use Rattle.proxy_entries.proofs.RoomLemmas.{displaced, never-none}
use Rattle.proxy_entries.proofs.negatives.displace.Goals as goal

pub returns-in_default-clause-ok : goal.returns-in_default-clause-ok
returns-in_default-clause-ok c =
    let es = c.args.negatives.now.entries in
    absurd (never-none (shown_negatives es) (subst (λ n. most_negatives ≤ n) (sym (negatives-length es)) c.requires.full) c.in_default.ensures)

pub returns-clause-ok : goal.returns-clause-ok
returns-clause-ok c =
    let es = c.args.negatives.now.entries in
    let new = shown_negative (string_bytes c.args.key) c.args.moment in
    let oldest : NegativeEntry = shown_negative c.in-Some.oldest.now c.in-Some.field-0-1 in
    let full : most_negatives ≤ length (shown_negatives es) = subst (λ n. most_negatives ≤ n) (sym (negatives-length es)) c.requires.full in
    c.remove_negative.ensures.shown
    ∙ ap (λ path. without_negative path (shown_negatives c.set-2.new.negatives.entries)) (c.as_str.ensures.value ∙ c.in_ok-oldest.ensures.ok)
    ∙ ap (without_negative oldest.path) c.in_ok-set.ensures.ok
    ∙ displaced new (shown_negatives es) oldest (rising-shown es c.in_ok-set.ensures.sorted) full c.requires.free (sym c.in-Some.ensures)
