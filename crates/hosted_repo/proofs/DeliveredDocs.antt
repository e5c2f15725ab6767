-- The documents that deployed files make, one after the other.
use Rattle.std.proofs.Common.{◌≡◌, ℕ, true, false, cond, List, [], ◌∷◌, ◌++◌, Option, Some, None, bytes_eq, Less, Equal, Greater, is_eq, nat_cmp, refl, sym, ◌∙◌, ap}
use Rattle.std.specs.Cmp.Lexicographic.{nat_list_cmp_total, slice_cmp}
use Rattle.std.specs.List.{AllByRecursion}
use Rattle.std.specs.Ordering.{match_ordering, ordering_reverse}
use Rattle.std.proofs.lemmas.Option.{none-some}
use Rattle.std.proofs.lemmas.Slice.Eq.{bytes_eq-Decides}
use Rattle.mvn_coords.specs.Layout.{Directory}
use Rattle.mvn_metadata.specs.Document.{Document}
use Rattle.repo_model.specs.Data.{Row, Session, Staged, fading, listed}
use Rattle.repo_model.specs.Deploy.{deliver_again, deliver_at}
use Rattle.repo_model.specs.Document.{document}
use Rattle.repo_model.specs.Effect.{Effect, list_again, new_row, with_row}
use Rattle.repo_model.specs.State.{change_where, is_row, row_at}
use Rattle.ordered_rows.specs.Rows.{rows_after_all}
use Rattle.ordered_rows.proofs.EachRow.{each-changed, each-with}
use Rattle.ordered_rows.proofs.MapLemmas.{same_test}
use Rattle.ordered_rows.proofs.Rising.{AreAfter, AreRising, cmp}
use Rattle.hosted_delivery.proofs.DeliveryLemmas.{AreApart, effects_by}
use Rattle.kept_docs.proofs.Beside.{document-again, document-with_row}
use Rattle.hosted_repo.specs.Delivered.{with_delivered, with_delivered_by}

-- ---- rows that rise, with one more or with one changed
after-weaker : (p q : List ℕ) (rows : List Row) → cmp p q ≡ Less → AreAfter q rows → AreAfter p rows
after-weaker p q [] below after = tt
after-weaker p q (row ∷ rows) below after = (nat_list_cmp_total.trans p q row.path below after.0, after-weaker p q rows below after.1)

after-with : (p : List ℕ) (new : Row) (rows : List Row) → cmp p new.path ≡ Less → AreAfter p rows → AreAfter p (with_row new rows)
after-with p new rows below after = each-with (λ (row : Row). cmp p row.path ≡ Less) new rows below after

after-changed : (p path : List ℕ) (now : ℕ) (rows : List Row) → AreAfter p rows → AreAfter p (change_where (is_row path) (list_again now) rows)
after-changed p path now rows after = each-changed (λ (row : Row). cmp p row.path ≡ Less) (is_row path) (list_again now) (λ row is h. h) rows after

pub rising-with : (new : Row) (rows : List Row) → row_at new.path rows ≡ None → AreRising rows → AreRising (with_row new rows)
rising-with new [] free rising = (tt, tt)
rising-with new (row ∷ rows) free rising =
    elim (slice_cmp nat_cmp new.path row.path)
    as (λ o. slice_cmp nat_cmp new.path row.path ≡ o → AreRising (match_ordering o (new ∷ row ∷ rows) (new ∷ row ∷ rows) (row ∷ with_row new rows))) [
      | Less ↦ λ is. ((is, after-weaker new.path row.path rows is rising.0), rising)
      | Equal ↦ λ is.
          let here : is_row new.path row ≡ true = sym (same_test new.path row.path) ∙ ap is_eq is in
          absurd (none-some row (sym (sym (ap (λ b. cond b (Some row) (row_at new.path rows)) here) ∙ free)))
      | Greater ↦ λ is.
          let there : is_row new.path row ≡ false = sym (same_test new.path row.path) ∙ ap is_eq is in
          let below : cmp row.path new.path ≡ Less = nat_list_cmp_total.antisymm row.path new.path ∙ ap ordering_reverse is in
          let later : row_at new.path rows ≡ None = sym (ap (λ b. cond b (Some row) (row_at new.path rows)) there) ∙ free in
          (after-with row.path new rows below rising.0, rising-with new rows later rising.1)
    ] refl

pub rising-again : (path : List ℕ) (now : ℕ) (rows : List Row) → AreRising rows → AreRising (change_where (is_row path) (list_again now) rows)
rising-again path now [] rising = tt
rising-again path now (row ∷ rows) rising =
    let rest : List Row = change_where (is_row path) (list_again now) rows in
    let after : AreAfter row.path rest = after-changed row.path path now rows rising.0 in
    (elim (is_row path row) as (λ b. AreAfter (cond b (list_again now row) row).path rest) [ true ↦ after | false ↦ after ], rising-again path now rows rising.1)

-- ---- the row at another path
row_at-with_row : (path : List ℕ) (new : Row) (rows : List Row) → bytes_eq new.path path ≡ false → row_at path (with_row new rows) ≡ row_at path rows
row_at-with_row path new [] apart = ap (λ b. cond b (Some new) None) apart
row_at-with_row path new (row ∷ rows) apart =
    let first : row_at path (new ∷ row ∷ rows) ≡ row_at path (row ∷ rows) = ap (λ b. cond b (Some new) (row_at path (row ∷ rows))) apart in
    elim (slice_cmp nat_cmp new.path row.path) as (λ o. row_at path (match_ordering o (new ∷ row ∷ rows) (new ∷ row ∷ rows) (row ∷ with_row new rows)) ≡ row_at path (row ∷ rows)) [
      | Less ↦ first
      | Equal ↦ first
      | Greater ↦ ap (λ (o : Option Row). cond (is_row path row) (Some row) o) (row_at-with_row path new rows apart)
    ]

row_at-again : (path at : List ℕ) (now : ℕ) (rows : List Row) → bytes_eq at path ≡ false → row_at path (change_where (is_row at) (list_again now) rows) ≡ row_at path rows
row_at-again path at now [] apart = refl
row_at-again path at now (row ∷ rows) apart =
    let rest : List Row = change_where (is_row at) (list_again now) rows in
    elim (is_row at row) as (λ b. is_row at row ≡ b → row_at path (cond b (list_again now row) row ∷ rest) ≡ row_at path (row ∷ rows)) [
      | true ↦ λ here.
          let other : is_row path row ≡ false = ap (λ p. bytes_eq p path) ((bytes_eq-Decides row.path at).0 here) ∙ apart in
          ap (λ b. cond b (Some (list_again now row)) (row_at path rest)) other ∙ row_at-again path at now rows apart ∙ sym (ap (λ b. cond b (Some row) (row_at path rows)) other)
      | false ↦ λ there. ap (λ (o : Option Row). cond (is_row path row) (Some row) o) (row_at-again path at now rows apart)
    ] refl

-- the rows at the paths of some files are those that others are
abbrev pub AgreeAt : List Staged → List Row → List Row → Type 0
AgreeAt files rows others = AllByRecursion (λ (file : Staged). row_at file.path rows ≡ row_at file.path others) files

pub agree-self : (files : List Staged) (rows : List Row) → AgreeAt files rows rows
agree-self [] rows = tt
agree-self (file ∷ files) rows = (refl, agree-self files rows)

agree-with : (new : Row) (files : List Staged) (rows others : List Row) → AllByRecursion (λ (other : Staged). bytes_eq new.path other.path ≡ false) files → AgreeAt files rows others → AgreeAt files (with_row new rows) others
agree-with new [] rows others apart agree = tt
agree-with new (file ∷ files) rows others apart agree = (row_at-with_row file.path new rows apart.0 ∙ agree.0, agree-with new files rows others apart.1 agree.1)

agree-again : (at : List ℕ) (now : ℕ) (files : List Staged) (rows others : List Row) → AllByRecursion (λ (other : Staged). bytes_eq at other.path ≡ false) files → AgreeAt files rows others
    → AgreeAt files (change_where (is_row at) (list_again now) rows) others
agree-again at now [] rows others apart agree = tt
agree-again at now (file ∷ files) rows others apart agree = (row_at-again file.path at now rows apart.0 ∙ agree.0, agree-again at now files rows others apart.1 agree.1)

-- ---- what files make of a document, beside the rows that stood when they were judged
abbrev pub delivered_doc : Directory → ℕ → List Row → List Staged → Option Document → Option Document
delivered_doc d now others [] doc = doc
delivered_doc d now others (file ∷ files) doc = delivered_doc d now others files (with_delivered d file.path now file.blob (row_at file.path others) doc)

pub document-delivered : (d : Directory) (s : Session) (now : ℕ) (others : List Row) (files : List Staged) (rows : List Row) → AreApart files → AreRising rows → AgreeAt files rows others
    → delivered_doc d now others files (document d rows) ≡ document d (rows_after_all (effects_by s now others files) rows)
document-delivered d s now others [] rows apart rising agree = refl
document-delivered d s now others (file ∷ files) rows apart rising agree =
    let rest : List Effect = effects_by s now others files in
    let new : Row = new_row file.path file.blob now in
    elim (row_at file.path others)
    as (λ o. row_at file.path others ≡ o → delivered_doc d now others files (with_delivered d file.path now file.blob o (document d rows)) ≡ document d (rows_after_all (deliver_at s now file o ++ rest) rows)) [
      | None ↦ λ is.
          ap (delivered_doc d now others files) (sym (document-with_row d new rows))
          ∙ document-delivered d s now others files (with_row new rows) apart.1 (rising-with new rows (agree.0 ∙ is) rising) (agree-with new files rows others apart.0 agree.1)
      | Some row ↦ λ is.
          elim (row.phase)
          as (λ p. row.phase ≡ p → delivered_doc d now others files (with_delivered_by d file.path now file.blob p (document d rows)) ≡ document d (rows_after_all (deliver_again s now file p ++ rest) rows)) [
            | listed ↦ λ visible. document-delivered d s now others files rows apart.1 rising agree.1
            | fading since ↦ λ fades.
                ap (delivered_doc d now others files) (sym (document-again d file.path now since row rows rising (agree.0 ∙ is) fades))
                ∙ document-delivered d s now others files (change_where (is_row file.path) (list_again now) rows) apart.1 (rising-again file.path now rows rising) (agree-again file.path now files rows others apart.0 agree.1)
          ] refl
    ] refl
