-- What a document named before a crash is answered in the runs after it.
use native.Mathlib.Omega.{arith}
use Rattle.std.proofs.Common.{◌≡◌, ◌≤◌, ◌+◌, ℕ, true, false, List, [], ◌∷◌, ◌++◌, inl, inr, Option, Some, None, refl, sym, ◌∙◌, ap, subst}
use Rattle.std.specs.Prelude.{nat_le, IsTrue}
use Rattle.std.specs.Option.{option_map}
use Rattle.std.specs.List.{AllByRecursion, list_any}
use Rattle.std.proofs.lemmas.Bool.{leb-true, leb-false}
use Rattle.std.proofs.lemmas.Option.{none-some}
use Rattle.mvn_coords.specs.Layout.{Directory}
use Rattle.mvn_metadata.specs.Document.{Document}
use Rattle.repo_model.specs.declared.print.Print.{Print}
use Rattle.repo_model.specs.Data.{Blob, Row}
use Rattle.repo_model.specs.Prints.{lacks_further, with_further}
use Rattle.repo_model.specs.Settings.{Settings}
use Rattle.repo_model.specs.State.{State, is_repository, row_at, rows_of}
use Rattle.repo_model.specs.Command.{is_there, is_file_path}
use Rattle.repo_model.specs.Tables.{Tables, recorded_at}
use Rattle.repo_model.specs.History.{Entry, Legal, after, end}
use Rattle.repo_laws.specs.Laws.{LastsFrom, Stands, without_bytes}
use Rattle.repo_laws.specs.Sound.{AreNamedApart, Sound, IsSound}
use Rattle.repo_laws.specs.Holds.{InOrder, Holds, StandsFor, with_items, told}
use Rattle.repo_laws.specs.Closed.{named, AnswersDocument, AnswersUpTo, StandsInTime}
use Rattle.repo_laws.specs.InRange.{Run, BeginsFrom, last_moment, Follow, Completes, IsRowSince, IsFoundSince, IsSince, IsSameBlob, AnsweredOn}
use Rattle.repo_laws.proofs.Completing.{completed-order, completed-rows}
use Rattle.repo_laws.proofs.Closed.{answers-up-to, answers-again, named-in-time}
use Rattle.repo_laws.proofs.Holding.{history-recorded}
use Rattle.repo_laws.proofs.HoldingRows.{there-by-row}
use Rattle.repo_laws.proofs.Keeping.{ends-sound}
use Rattle.repo_laws.proofs.Lists.{all-then}
use Rattle.repo_laws.proofs.Moments.{last-after}
use Rattle.repo_laws.proofs.Orderly.{there-as-set}

-- a history in two parts
legal-parts : (settings : Settings) (before more : List Entry) (s : State) → Legal settings s (before ++ more) → Legal settings s before × Legal settings (end settings s before) more
legal-parts settings [] more s legal = (tt, legal)
legal-parts settings (e ∷ before) more s legal = let (one, other) = legal-parts settings before more (after settings s e) legal.1 in ((legal.0, one), other)

end-parts : (settings : Settings) (before more : List Entry) (s : State) → end settings s (before ++ more) ≡ end settings (end settings s before) more
end-parts settings [] more s = refl
end-parts settings (e ∷ before) more s = end-parts settings before more (after settings s e)

last-end : (settings : Settings) (entries : List Entry) (s : State) (last : ℕ) → s.last ≡ last → (end settings s entries).last ≡ last_moment last entries
last-end settings [] s last is = is
last-end settings (e ∷ entries) s last is = last-end settings entries (after settings s e) e.moment (last-after settings s e)

module _ (settings : Settings) (apart : AreNamedApart settings.hosted) (t : ℕ) (repo path : List ℕ) (blob : Blob) where
  abbrev until : ℕ
  until = t + settings.grace

  -- the tables have the blob at the path, visible at the moment or later, in a repository of the settings
  abbrev IsHeld : Tables → Type 0
  IsHeld tables =
      (row : Row) × (recorded_at repo path tables.hosted ≡ Some row) × IsSameBlob row.blob blob × LastsFrom t row.phase × IsTrue (is_there repo settings)

  abbrev StandsSo : State → Type 0
  StandsSo s = (kept : Blob) × IsSameBlob kept blob × Stands path kept t (rows_of repo s)

  to-tables : (tables : Tables) (s : State) → Sound settings s → Holds tables s → StandsSo s → IsHeld tables
  to-tables tables s sound holds (kept, same, (row, found, is_kept, lasts)) =
      let there = there-by-row repo path s.hosted row found in (
        without_bytes row,
        holds.rows repo path there ∙ ap (option_map without_bytes) found,
        subst (λ (b : Blob). IsSameBlob b blob) (sym is_kept) same,
        lasts,
        sym (there-as-set settings s repo sound.rules) ∙ there,
      )

  from-tables : (tables : Tables) (s : State) → Sound settings s → Holds tables s → IsHeld tables → StandsSo s
  from-tables tables s sound holds (row, recorded, same, lasts, is_set) = by (row_at path (rows_of repo s)) refl where
    there : IsTrue (list_any (is_repository repo) s.hosted)
    there = there-as-set settings s repo sound.rules ∙ is_set

    by : (found : Option Row) → row_at path (rows_of repo s) ≡ found → StandsSo s
    by None is = absurd (none-some row (sym (holds.rows repo path there ∙ ap (option_map without_bytes) is) ∙ recorded))
    by (Some r) is =
        let both : Some (without_bytes r) ≡ Some row = sym (holds.rows repo path there ∙ ap (option_map without_bytes) is) ∙ recorded in
        let one : without_bytes r ≡ row = cc in (
          r.blob,
          (ap (λ (x : Row). x.blob.number) one ∙ same.0, subst (λ (p : Print). IsSince p blob.print) (ap (λ (x : Row). x.blob.print) (sym one)) same.1),
          (r, is, refl, subst (LastsFrom t) (ap (λ (x : Row). x.phase) (sym one)) lasts),
        )

  -- what stands in a state, where it is to be known
  known : (tables : Tables) (s : State) (m : ℕ) → Sound settings s → Holds tables s → (m ≤ until → IsHeld tables) → (kept : Blob) × IsSameBlob kept blob × (m ≤ until → Stands path kept t (rows_of repo s))
  known tables s m sound holds held =
      elim (nat_le m until) as (λ b. nat_le m until ≡ b → (kept : Blob) × IsSameBlob kept blob × (m ≤ until → Stands path kept t (rows_of repo s))) [
        | true ↦ λ is.
            let (kept, same, stands) = from-tables tables s sound holds (held (leb-true m until is)) in
            (kept, same, (λ _. stands))
        | false ↦ λ is. (blob, (refl, inl refl), (λ late. absurd (omega (arith, late, leb-false m until is))))
      ] refl

  -- a row to which further digests may have come
  since-again : (row earlier : Row) → IsRowSince row earlier → IsSameBlob earlier.blob blob → LastsFrom t earlier.phase → IsSameBlob row.blob blob × LastsFrom t row.phase
  since-again row earlier (inl same) is_blob lasts = subst (λ (r : Row). IsSameBlob r.blob blob × LastsFrom t r.phase) (sym same) (is_blob, lasts)
  since-again row earlier (inr (lacks, (further, is))) is_blob lasts =
      subst (λ (r : Row). IsSameBlob r.blob blob × LastsFrom t r.phase) (sym is) ((is_blob.0, of-print is_blob.1), lasts) where
        of-print : IsSince earlier.blob.print blob.print → IsSince (with_further further earlier.blob.print) blob.print
        of-print (inl same) = inr (ap lacks_further (sym same) ∙ lacks, (further, ap (with_further further) same))
        of-print (inr (lacked, (other, so))) = inr (lacked, (further, ap (with_further further) so))

  held-completed : (tables whole : Tables) → Completes tables whole → IsHeld tables → IsHeld whole
  held-completed tables whole completes (row, found, same, lasts, there) =
      let (row_now, is_now, since) = subst (IsFoundSince (recorded_at repo path whole.hosted)) found (completed-rows tables whole completes repo path) in
      let (same_now, lasts_now) = since-again row_now row since same lasts in
      (row_now, is_now, same_now, lasts_now, there)

  -- a run over the tables that its start has completed
  across-run : (run : Run) (tables : Tables) (m : ℕ) → StandsFor tables run.start → IsSound settings run.start → Legal settings run.start run.entries → BeginsFrom m run.entries
      → InOrder tables → IsTrue (is_file_path path) → t ≤ m → (m ≤ until → IsHeld tables)
      → ((kept : Blob) × IsSameBlob kept blob × AnswersUpTo until repo path kept settings run.start run.entries)
      × InOrder (with_items tables (told settings run.start run.entries)) × (t ≤ last_moment m run.entries)
      × (last_moment m run.entries ≤ until → IsHeld (with_items tables (told settings run.start run.entries)))
  across-run run tables m stands sound legal begins order is_file early held =
      let (kept, same, known_so) = known tables run.start m sound.order stands.holds held in
      let (recorded_so, order_then, holds_then) = history-recorded settings apart run.entries run.start tables legal sound.order sound.places sound.sessions order stands.holds in
      let (answered, early_then, held_then) = by run.entries legal begins kept same known_so holds_then in
      ((kept, same, answered), order_then, early_then, held_then) where
        by : (entries : List Entry) → Legal settings run.start entries → BeginsFrom m entries → (kept : Blob) → IsSameBlob kept blob → (m ≤ until → Stands path kept t (rows_of repo run.start))
            → Holds (with_items tables (told settings run.start entries)) (end settings run.start entries)
            → AnswersUpTo until repo path kept settings run.start entries × (t ≤ last_moment m entries) × (last_moment m entries ≤ until → IsHeld (with_items tables (told settings run.start entries)))
        by [] legal begins kept same known_so holds_then = (tt, early, held)
        by (e ∷ entries) legal begins kept same known_so holds_then =
            let (answered, in_time) = answers-again settings apart e entries run.start m t repo path kept sound.order legal begins is_file early known_so in
            let last_is : (end settings run.start (e ∷ entries)).last ≡ last_moment m (e ∷ entries) = last-end settings entries (after settings run.start e) e.moment (last-after settings run.start e) in
            let sound_then = ends-sound settings apart run.start (e ∷ entries) sound legal in (
              answered,
              omega (arith, in_time.1, last_is),
              (λ late.
                  to-tables (with_items tables (told settings run.start (e ∷ entries))) (end settings run.start (e ∷ entries)) sound_then.order holds_then
                  (kept, same, in_time.2 (omega (arith, late, last_is)))),
            )

  across : (runs : List Run) (tables : Tables) (m : ℕ) → InOrder tables → Follow settings tables m runs → IsTrue (is_file_path path) → t ≤ m → (m ≤ until → IsHeld tables) → AnsweredOn until repo path blob settings runs
  across [] tables m order follow is_file early held = tt
  across (run ∷ runs) tables m order (completes, stands, sound, legal, begins, follow) is_file early held =
      let (answered, order_then, early_then, held_then) = across-run run run.tables m stands sound legal begins (completed-order tables run.tables completes order) is_file early
      (λ late. held-completed tables run.tables completes (held late)) in
      (answered, across runs (with_items run.tables (told settings run.start run.entries)) (last_moment m run.entries) order_then follow is_file early_then held_then)

-- each file that a document names, in the runs after that one
pub closed-across : (settings : Settings) (before : List Entry) (e : Entry) (rest : List Entry) (s : State) (tables : Tables) (runs : List Run) (repo : List ℕ) (d : Directory) (served : Document)
    → AreNamedApart settings.hosted → IsSound settings s → InOrder tables → Holds tables s → Legal settings s (before ++ e ∷ rest)
    → Follow settings (with_items tables (told settings s (before ++ e ∷ rest))) (end settings s (before ++ e ∷ rest)).last runs
    → AnswersDocument settings (end settings s before) e repo d served
    → AllByRecursion (λ (row : Row). AnsweredOn (e.moment + settings.grace) repo row.path row.blob settings runs) (named d (rows_of repo (end settings s before)) served)
closed-across settings before e rest s tables runs repo d served apart sound order holds legal follow answers =
    let (legal_before, legal_then) = legal-parts settings before (e ∷ rest) s legal in
    let sound_before = ends-sound settings apart s before sound legal_before in
    let (recorded_so, order_then, holds_then) = history-recorded settings apart (before ++ e ∷ rest) s tables legal sound.order sound.places sound.sessions order holds in
    let sound_end = ends-sound settings apart s (before ++ e ∷ rest) sound legal in
    all-then (λ (row : Row). StandsInTime settings.grace e.moment repo row.path row.blob (after settings (end settings s before) e)) (λ (row : Row). AnsweredOn (e.moment + settings.grace) repo row.path row.blob settings runs)
    (λ row in_time.
    let (_, in_time_then) = answers-up-to settings apart rest (after settings (end settings s before) e) e.moment repo row.path row.blob
    (ends-sound settings apart (end settings s before) (e ∷ []) sound_before (legal_then.0, tt)).order legal_then.1 in_time in
    let at_end = subst (StandsInTime settings.grace e.moment repo row.path row.blob) (sym (end-parts settings before (e ∷ rest) s)) in_time_then in
    across settings apart e.moment repo row.path row.blob runs (with_items tables (told settings s (before ++ e ∷ rest))) (end settings s (before ++ e ∷ rest)).last order_then follow
    at_end.0 at_end.1
    (λ late. to-tables settings apart e.moment repo row.path row.blob (with_items tables (told settings s (before ++ e ∷ rest))) (end settings s (before ++ e ∷ rest)) sound_end.order holds_then
    (row.blob, (refl, inl refl), at_end.2 late)))
    (named d (rows_of repo (end settings s before)) served)
    (named-in-time settings apart (end settings s before) e repo d served legal_then.0 sound_before.order)
