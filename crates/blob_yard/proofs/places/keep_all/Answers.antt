use Rattle.std.proofs.Common.{ℕ, ◌||◌, get_or, eqb, sym, ap, ◌∙◌, subst, List}
use Rattle.std.proofs.lemmas.List.Folds.{list_any_more}
use Rattle.std.specs.Map.{keys_of}
use Rattle.repo_model.specs.State.{is_among}
use Rattle.blob_yard.specs.Places.{AreBelow, AreKept}
use Rattle.blob_yard.specs.declared.places.Place.{Place}
use Rattle.blob_yard.proofs.CountLemmas.{none_kept}
use Rattle.blob_yard.proofs.MapLemmas.{AreBelow-insert_entry, among-insert_entry}
use Rattle.blob_yard.proofs.PlaceLemmas.{AreKept-insert_entry}
use Rattle.blob_yard.proofs.places.keep_all.Goals as goal

pub loop-number-preserved : goal.loop-number-preserved
loop-number-preserved c =
    let es = c.loop-number.map.entries in
    let i = c.loop-number.number-index in
    let x = get_or c.args.numbers.now i 0 in
    let p = c.unlent.result in
    let h = c.loop-number.invariant in
    let entries = c.in_ok-insert.ensures.entries in
    record {
      below = subst (λ (es : List (ℕ × Place)). AreBelow c.args.next es) (sym entries) (AreBelow-insert_entry c.args.next x p es (c.requires i 0 c.loop-number-test.true) h.below);
      kept = subst (λ (es : List (ℕ × Place)). AreKept es) (sym entries) (AreKept-insert_entry x p es c.unlent.ensures h.kept);
      numbers = λ n.
          ap (λ (es : List (ℕ × Place)). is_among n (keys_of es)) entries
          ∙ among-insert_entry n x p es
          ∙ ap (λ b. b || eqb x n) (h.numbers n)
          ∙ sym (list_any_more (λ m. eqb m n) c.args.numbers.now i 0 c.loop-number-test.true);
    }

pub invariant_of-result : goal.invariant_of-result
invariant_of-result c = none_kept c.loop-number.map.entries c.loop-number.invariant.kept
