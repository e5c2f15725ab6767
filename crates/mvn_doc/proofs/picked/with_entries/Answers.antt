use Rattle.std.proofs.Common.{◌+◌, [], List, drop, fold, sym, ap, ◌∙◌, arith}
use Rattle.mvn_metadata.specs.Document.{with_build}
use Rattle.mvn_doc.specs.Picked.{entries_in, entry_in, onto, section}
use Rattle.mvn_doc.specs.Place.{Placed}
use Rattle.mvn_doc.proofs.PickedSteps.{cut_off, entry_step, other_step, taken_rest}
use Rattle.mvn_doc.proofs.picked.with_entries.Goals.{then-is_at+in_ok-whole, else-is_at}
use Rattle.mvn_doc.proofs.picked.with_entries.Goals as goal

pub loop-i-preserved : goal.loop-i-preserved
loop-i-preserved c =
    let before = c.loop-i.whole in
    let all : List Placed = c.args.placed.now in
    let ps : List Placed = drop (c.loop-i.i + 1) all in
    let p : Placed = c.index-placed-i.result in
    let cut = cut_off all c.loop-i.i p (omega arith) c.index-placed-i.is in
    let rest = ap (λ (qs : List Placed). record before { listing = fold with_build before.listing (entries_in qs) }) (sym cut) ∙ c.loop-i.invariant in
    elim c.if-is_at.branch [
      | then-is_at+in_ok-whole w ↦
          entry_step before c.if-is_at.whole p ps (sym c.is_at.ensures ∙ w.if-is_at.true)
          (w.whole-is ∙ w.in_ok-whole.ensures
          ∙ ap (λ (s : List Placed). record before { listing = fold with_build before.listing (onto (entry_in s) []) })
          (w.section.ensures ∙ ap section (taken_rest all (c.loop-i.i + 1)))) ∙ rest
      | else-is_at w ↦ other_step before c.if-is_at.whole p ps (sym c.is_at.ensures ∙ w.if-is_at.false) w.whole-is ∙ rest
    ]
