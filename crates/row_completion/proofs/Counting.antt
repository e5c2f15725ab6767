-- Whether rows are complete, one row after another.
use Rattle.std.proofs.Common.{◌≡◌, Bool, true, false, not, ◌&&◌, List, [], ◌∷◌, ◌++◌, Option, Some, None, refl, sym, ap, ◌∙◌}
use Rattle.std.specs.Prelude.{◌↔◌, is_none, is_some}
use Rattle.std.proofs.lemmas.Bool.{and_from, and_parts}
use Rattle.repo_model.specs.Prints.{lacks_further}
use Rattle.repo_model.specs.Tables.{AreComplete, RecordedRow}
use Rattle.row_completion.proofs.Behind.{complete-more}

pub none-is : {X : Type 0} (o : Option X) → is_none o ≡ not (is_some o)
none-is None = refl
none-is (Some x) = refl

not-true : (b : Bool) → not b ≡ false → b ≡ true
not-true true is = refl
not-true false is = sym is

parts-of : (rows : List RecordedRow) (r : RecordedRow) → AreComplete (rows ++ r ∷ []) → AreComplete rows × (lacks_further r.row.blob.print ≡ false)
parts-of [] r all = (tt, all.0)
parts-of (s ∷ rows) r all = let parts = parts-of rows r all.1 in ((all.0, parts.0), parts.1)

pub row-step : (b s : Bool) (rows : List RecordedRow) (r : RecordedRow) → (b ≡ true ↔ AreComplete rows) → lacks_further r.row.blob.print ≡ not s → (b && s) ≡ true ↔ AreComplete (rows ++ r ∷ [])
row-step b s rows r old is = (
  λ both. let parts = and_parts b s both in complete-more rows r (old.0 parts.0) (is ∙ ap not parts.1),
  λ all. let parts = parts-of rows r all in and_from b s (old.1 parts.0) (not-true s (sym is ∙ parts.1)),
)
