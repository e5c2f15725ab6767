use Rattle.std.proofs.Common.{◌≡◌, ◌∷◌, ◌++◌, [], Some, string_bytes, refl, sym, ap, ◌∙◌, subst}
use Rattle.std.specs.Prelude.{is_some}
use Rattle.ordered_rows.specs.Rows.{shown_rows}
use Rattle.directory_rows.specs.Walks.{IsWalkOf}
use Rattle.directory_rows.proofs.TextLemmas.{UpTo}
use Rattle.directory_rows.proofs.RowLemmas.{up_to_itself}
use Rattle.directory_rows.proofs.DocumentLemmas.{walk_begins}
use Rattle.directory_rows.proofs.documents.document_among.Goals as goal

some_same : {A : Type 0} (x y : A) → Some x ≡ Some y → x ≡ y
some_same x y h = cc

pub loop-next-init : goal.loop-next-init
loop-next-init g c =
    let d = c.args.dir.now in
    let begins = c.in_ok-with_end.ensures ∙ ap (λ t. t ++ 47 ∷ []) c.path-2.ensures.text in
    let base = c.in_ok-base.ensures ∙ ap (λ t. t ++ 47 ∷ []) c.path.ensures.text in
    let word = c.in_ok-word.ensures ∙ ap (λ t. t ++ 45 ∷ []) c.artifact.ensures in
    let walk : IsWalkOf d (string_bytes c.in_ok-with_end.field-0) (string_bytes c.in_ok-word.word) (is_some d.version) = record { base_is = begins; word_is = word; level_is = refl } in
    record {
      whole = walk_begins d (string_bytes c.in_ok-with_end.field-0) (string_bytes c.in_ok-word.word) (is_some d.version) (shown_rows c.args.rows.now.entries) walk;
      begun = λ text is. subst (UpTo (string_bytes c.in_ok-base.base)) (base ∙ sym begins ∙ some_same _ _ is) (up_to_itself (string_bytes c.in_ok-base.base));
    }
