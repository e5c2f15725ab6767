use Rattle.std.proofs.Common.{◌≡◌, ℕ, ◌<◌, ◌≤◌, List, [], ◌∷◌, length, get_or, take, fold, Some, ap, sym, ◌∙◌, arith}
use Rattle.std.proofs.lemmas.List.{take_all}
use Rattle.std.proofs.lemmas.List.Sums.{fold_more}
use Rattle.mvn_metadata.specs.Document.{Document, merge, merged, nothing}
use Rattle.mvn_metadata.proofs.merging.merge.Goals as goal

all_merged : (docs : List Document) (first start whole : Document) (i : ℕ) → 0 < length docs → first ≡ get_or docs 0 first
    → start ≡ record first { listing = nothing first.listing } → whole ≡ fold merged start (take i docs) → length docs ≤ i → merge docs ≡ Some whole
all_merged [] first start whole i l f s w h = absurd (omega arith)
all_merged (d ∷ ds) first start whole i l f s w h =
    ap Some (sym (w ∙ ap (λ xs. fold merged start xs) (take_all i (d ∷ ds) h)
    ∙ ap (λ b. fold merged b (d ∷ ds)) (s ∙ ap (λ (e : Document). record e { listing = nothing e.listing }) f)))

pub loop-doc-preserved : goal.loop-doc-preserved
loop-doc-preserved c =
    c.in_ok-whole-2.ensures ∙ (λ k. merged (c.loop-doc.invariant k) (c.doc-item.is k))
    ∙ sym (fold_more merged c.in_ok-whole.whole c.args.docs.now c.loop-doc.doc-index c.doc-item.result (omega arith))

pub returns : goal.returns
returns c =
    all_merged c.args.docs.now c.index-docs-0.result c.in_ok-whole.whole c.loop-doc.whole c.loop-doc.doc-index c.requires
    c.index-docs-0.is c.in_ok-whole.ensures c.loop-doc.invariant c.loop-doc-test.false
