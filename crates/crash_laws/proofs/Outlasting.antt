-- What stands in a state is recorded after later entries.
use Rattle.std.proofs.Common.{subst, ◌≡◌, ℕ, List, Some, inl, inr, refl, sym, ap, ◌∙◌}
use Rattle.std.specs.Option.{option_map}
use Rattle.repo_model.specs.Data.{Blob, Row}
use Rattle.repo_model.specs.History.{Entry, Legal, end}
use Rattle.repo_model.specs.Settings.{Settings}
use Rattle.repo_model.specs.State.{State, row_at, rows_of}
use Rattle.repo_model.specs.Tables.{Tables}
use Rattle.repo_laws.specs.Holds.{Holds, InOrder, told, with_items}
use Rattle.repo_laws.specs.Laws.{without_bytes}
use Rattle.repo_laws.specs.Sound.{AreNamedApart, IsSound}
use Rattle.repo_laws.proofs.Holding.{history-recorded}
use Rattle.repo_laws.proofs.Lasting.{releases-last}
use Rattle.repo_laws.proofs.HoldingRows.{there-by-row}
use Rattle.naming_laws.proofs.Kept.{history-stays}
use Rattle.crash_laws.specs.Found.{IsRecordedAs}
use Rattle.crash_laws.specs.Crashes.{IsLeft, MayNotGo}
use Rattle.crash_laws.proofs.Fronts.{is-front, may-not-go}

-- a row that none of the entries takes away stays, with its blob
pub row-stays : (settings : Settings) (s : State) (entries : List Entry) (repo path : List ℕ) (row : Row) → AreNamedApart settings.hosted → IsSound settings s → Legal settings s entries
    → MayNotGo entries path → row_at path (rows_of repo s) ≡ Some row → (kept : Row) × (row_at path (rows_of repo (end settings s entries)) ≡ Some kept) × (kept.blob ≡ row.blob)
row-stays settings s entries repo path row apart sound legal (inl none) is = history-stays settings s entries apart sound legal none repo path row is
row-stays settings s entries repo path row apart sound legal (inr release) is =
    (row, releases-last settings apart entries s sound.order sound.fading legal repo path row release is, refl)

outlasts : (settings : Settings) (s : State) (t : Tables) (entries : List Entry) (repo : List ℕ) (row : Row) → AreNamedApart settings.hosted → IsSound settings s → InOrder t → Holds t s
    → Legal settings s entries → MayNotGo entries row.path → row_at row.path (rows_of repo s) ≡ Some row → IsRecordedAs repo row (with_items t (told settings s entries))
outlasts settings s t entries repo row apart sound ordered holds legal stays is =
    let (kept, at, same) = row-stays settings s entries repo row.path row apart sound legal stays is in
    let held : Holds (with_items t (told settings s entries)) (end settings s entries) =
    (history-recorded settings apart entries s t legal sound.order sound.places sound.sessions ordered holds).2 in (
      without_bytes kept,
      held.rows repo row.path (there-by-row repo row.path (end settings s entries).hosted kept at) ∙ ap (option_map without_bytes) at,
      ap (λ (b : Blob). b.number) same,
      ap (λ (b : Blob). b.print) same,
    )

-- so in whatever a crash leaves
pub outlasts-crashes : (settings : Settings) (s : State) (t u : Tables) (entries : List Entry) (repo : List ℕ) (row : Row) → AreNamedApart settings.hosted → IsSound settings s → InOrder t
    → Holds t s → Legal settings s entries → MayNotGo entries row.path → row_at row.path (rows_of repo s) ≡ Some row → IsLeft settings s t entries u → IsRecordedAs repo row u
outlasts-crashes settings s t u entries repo row apart sound ordered holds legal stays is left =
    let front = is-front settings s t u entries legal left in
    subst (IsRecordedAs repo row) (sym front.left)
    (outlasts settings s t front.history repo row apart sound ordered holds front.legal (may-not-go settings s entries front.history row.path front.is stays) is)
