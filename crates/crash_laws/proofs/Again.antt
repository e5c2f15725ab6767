-- What a start finds recorded is answered after it.
use Rattle.std.proofs.Common.{◌≡◌, ℕ, true, false, List, [], ◌∷◌, ◌++◌, Option, Some, None, Ok, refl, sym, ap, subst, ◌∙◌, eqb-true}
use Rattle.std.specs.Prelude.{◌==◌, if◌then◌else◌, IsTrue}
use Rattle.std.specs.Option.{option_map}
use Rattle.mvn_coords.specs.Kind.{kind}
use Rattle.mvn_coords.specs.declared.kind.Kind.TheVariants.{File}
use Rattle.mvn_coords.specs.Layout.{Coordinates}
use Rattle.outside.specs.Moments.{Moments}
use Rattle.repo_model.specs.declared.print.Print.{Print}
use Rattle.repo_model.specs.Command.{is_there, look}
use Rattle.repo_model.specs.Data.{Blob, Row}
use Rattle.repo_model.specs.Effect.{lends, recorded}
use Rattle.repo_model.specs.History.{Entry, Fits, IsReply, Legal, after, end}
use Rattle.repo_model.specs.Reply.{file, spent}
use Rattle.repo_model.specs.Restart.{started, with_bytes}
use Rattle.repo_model.specs.Settings.{Settings}
use Rattle.repo_model.specs.State.{State, number_end, row_at, rows_of}
use Rattle.repo_model.specs.Tables.{Tables, recorded_at}
use Rattle.repo_model.specs.Turn.{Turn, draws_or_spent, is_file, or_nothing, says, seen_at, shows, turn}
use Rattle.repo_laws.specs.Closed.{GivesFile}
use Rattle.repo_laws.specs.Holds.{InOrder}
use Rattle.repo_laws.specs.InRange.{InRange, Completes, IsFoundSince, IsSince, IsSameBlob}
use Rattle.repo_laws.specs.Sound.{AreNamedApart, AreProxiesApart}
use Rattle.repo_laws.proofs.Closed.{look-gives}
use Rattle.repo_laws.proofs.Looks.{rows-looked}
use Rattle.repo_laws.proofs.Completing.{completed-order, completed-range, completed-rows, since-blob}
use Rattle.repo_laws.proofs.StartedSound.{started-rows, started-sound}
use Rattle.crash_laws.specs.Found.{IsRecordedAs}
use Rattle.crash_laws.specs.Runs.{IsFoundAgain}
use Rattle.crash_laws.specs.Crashes.{MayNotGo}
use Rattle.crash_laws.proofs.Outlasting.{row-stays}

pub cut : (settings : Settings) (before : List Entry) (e : Entry) (rest : List Entry) (s : State) → Legal settings s (before ++ e ∷ rest)
    → Legal settings s before × Fits settings (end settings s before) e
cut settings [] e rest s legal = (tt, legal.0)
cut settings (b ∷ before) e rest s legal = let r = cut settings before e rest (after settings s b) legal.1 in ((legal.0, r.0), r.1)

module _ (settings : Settings) (s : State) (e : Entry) (repo at tried : List ℕ) where
  gives : (c : Coordinates) (row : Row) → IsReply settings s e → e.command ≡ look repo at tried → kind at ≡ Ok (File c) → row_at at (rows_of repo s) ≡ Some row
      → GivesFile s row.blob e.reply
  gives c row is looks kind_is found =
      let next = s.yard.next_lease in
      let given : Turn = record { reply = file next row.blob; effects = lends row.blob.number ∷ [] } in
      let turn_is : turn settings s e.moment (look repo at tried) ≡ draws_or_spent next given =
      ap (shows settings s.yard) (rows-looked settings s e.moment repo tried at at row found
      ∙ ap (seen_at (rows_of repo s) at) kind_is ∙ ap (or_nothing (λ (x : Row). is_file x.blob)) found) in
      look-gives settings s e repo at tried (GivesFile s row.blob) (draws_or_spent next given) tt turn_is
      (elim (next == number_end) as (λ b. recorded (if b then says spent else given).effects ≡ []) [ true ↦ refl | false ↦ refl ])
      (elim (next == number_end) as (λ b. (next == number_end) ≡ b → GivesFile s row.blob (if b then says spent else given).reply) [ true ↦ λ last. eqb-true next number_end last | false ↦ λ _. refl ] refl)
      is looks

pub answered-again : (settings : Settings) (u : Tables) (tells : ℕ → Option (List ℕ)) (stored : List ℕ) (clock : Option Moments) (faults : ℕ) (before : List Entry) (e : Entry) (rest : List Entry)
    (repo tried : List ℕ) (row : Row) (c : Coordinates) (whole : Tables) → AreNamedApart settings.hosted → AreProxiesApart settings.proxies → InOrder u → InRange u → Completes u whole → IsTrue (is_there repo settings)
    → kind row.path ≡ Ok (File c) → IsRecordedAs repo row u → Legal settings (started settings tells stored clock faults whole) (before ++ e ∷ rest) → MayNotGo before row.path
    → e.command ≡ look repo row.path tried
    → (kept : Blob) × IsFoundAgain tells kept row.blob × GivesFile (end settings (started settings tells stored clock faults whole) before) kept e.reply
answered-again settings u tells stored clock faults before e rest repo tried row c whole apart proxies order range completes there kind_is (recorded_row, recorded_so, number, print) legal stays looks =
    let s : State = started settings tells stored clock faults whole in
    let parts = cut settings before e rest s legal in
    let (first, at, since) = subst (IsFoundSince (recorded_at repo row.path whole.hosted)) recorded_so (completed-rows u whole completes repo row.path) in
    let blob_is : IsSameBlob first.blob recorded_row.blob = since-blob first recorded_row since in
    let here : row_at row.path (rows_of repo s) ≡ Some (with_bytes tells first) =
    started-rows settings tells stored clock faults whole repo row.path
    ∙ ap (λ b. if b then option_map (with_bytes tells) (recorded_at repo row.path whole.hosted) else None) there
    ∙ ap (option_map (with_bytes tells)) at in
    let sound = started-sound settings tells stored clock faults whole apart proxies (completed-order u whole completes order) (completed-range u whole completes range) in
    let (kept, found, same) = row-stays settings s before repo row.path (with_bytes tells first) apart sound parts.0 stays here in (
      kept.blob,
      (
        (
          ap (λ (b : Blob). b.number) same ∙ blob_is.0 ∙ number,
          subst (λ (p : Print). IsSince p row.blob.print) (sym (ap (λ (b : Blob). b.print) same)) (subst (IsSince first.blob.print) print blob_is.1),
        ),
        ap (λ (b : Blob). b.bytes) same ∙ ap tells (blob_is.0 ∙ number),
      ),
      gives settings (end settings s before) e repo row.path tried c kept parts.1.reply looks kind_is found,
    )
