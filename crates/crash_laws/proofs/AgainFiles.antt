-- What a start finds recorded of a proxy's files is answered after it.
use Rattle.std.proofs.Common.{◌≡◌, ℕ, true, List, ◌∷◌, ◌++◌, Option, Some, None, Ok, refl, sym, ap, subst, ◌∙◌}
use Rattle.std.specs.Prelude.{is_some}
use Rattle.std.specs.Option.{option_map}
use Rattle.std.specs.List.{list_any}
use Rattle.std.proofs.lemmas.Option.{none-some}
use Rattle.mvn_coords.specs.Kind.{kind}
use Rattle.mvn_coords.specs.declared.kind.Kind.TheVariants.{File}
use Rattle.mvn_coords.specs.Layout.{Coordinates}
use Rattle.outside.specs.Moments.{Moments}
use Rattle.repo_model.specs.declared.print.Print.{Print}
use Rattle.repo_model.specs.Data.{Blob, Row}
use Rattle.repo_model.specs.History.{Entry, Legal, end}
use Rattle.repo_model.specs.Restart.{started}
use Rattle.repo_model.specs.Settings.{Settings}
use Rattle.repo_model.specs.State.{State, files_of, is_proxy, row_at}
use Rattle.repo_model.specs.Tables.{Tables, recorded_at}
use Rattle.repo_laws.specs.Closed.{Answers}
use Rattle.repo_laws.specs.Holds.{InOrder}
use Rattle.repo_laws.specs.InRange.{InRange, Completes, IsFoundSince, IsSince, IsSameBlob}
use Rattle.repo_laws.specs.Laws.{without_bytes}
use Rattle.repo_laws.specs.Sound.{AreNamedApart, AreProxiesApart}
use Rattle.repo_laws.proofs.Completing.{completed-files, completed-order, completed-range, since-blob}
use Rattle.repo_laws.proofs.Keeping.{ends-sound}
use Rattle.repo_laws.proofs.Landing.{proxy-there-as-set}
use Rattle.repo_laws.proofs.StartedSound.{started-sound}
use Rattle.repo_laws.proofs.StartingFiles.{started-files}
use Rattle.proxy_laws.specs.Asked.{AsksFirst, LetsThrough}
use Rattle.proxy_laws.proofs.Serving.{file-answered}
use Rattle.proxy_laws.proofs.Staying.{file-after-history}
use Rattle.crash_laws.specs.Found.{IsCachedAs}
use Rattle.crash_laws.proofs.Again.{cut}

-- a file that is told without its bytes is there
with-bytes : (first : Row) (found : Option Row) → Some first ≡ option_map without_bytes found → (kept : Row) × (found ≡ Some kept) × (without_bytes kept ≡ first)
with-bytes first None is = absurd (none-some first (sym is))
with-bytes first (Some kept) is = (kept, refl, let same : without_bytes kept ≡ first = cc in same)

pub file-answered-again : (settings : Settings) (u : Tables) (tells : ℕ → Option (List ℕ)) (stored : List ℕ) (clock : Option Moments) (faults : ℕ) (before : List Entry) (e : Entry) (rest : List Entry)
    (asked id : List ℕ) (row : Row) (c : Coordinates) (whole : Tables) → AreNamedApart settings.hosted → AreProxiesApart settings.proxies → InOrder u → InRange u → Completes u whole
    → LetsThrough settings id row.path → AsksFirst settings asked id → kind row.path ≡ Ok (File c) → IsCachedAs id row u
    → Legal settings (started settings tells stored clock faults whole) (before ++ e ∷ rest)
    → (kept : Blob) × IsSameBlob kept row.blob × Answers asked row.path kept (end settings (started settings tells stored clock faults whole) before) e
file-answered-again settings u tells stored clock faults before e rest asked id row c whole apart proxies order range completes through asks kind_is (recorded_row, recorded_so, number, print) legal =
    let s : State = started settings tells stored clock faults whole in
    let parts = cut settings before e rest s legal in
    let (first, at, since) = subst (IsFoundSince (recorded_at id row.path whole.cached)) recorded_so (completed-files u whole completes id row.path) in
    let blob_is : IsSameBlob first.blob recorded_row.blob = since-blob first recorded_row since in
    let ranged = completed-range u whole completes range in
    let sound = started-sound settings tells stored clock faults whole apart proxies (completed-order u whole completes order) ranged in
    let there : list_any (is_proxy id) s.proxies ≡ true = proxy-there-as-set settings s id sound.order.proxies ∙ ap is_some through.named in
    let (kept, found, bare) = with-bytes first (row_at row.path (files_of id s)) (sym at ∙ started-files tells whole ranged settings.proxies id row.path there) in
    let still = file-after-history settings s before id row.path kept apart sound parts.0 found in (
      kept.blob,
      (
        ap (λ (r : Row). r.blob.number) bare ∙ blob_is.0 ∙ number,
        subst (λ (p : Print). IsSince p row.blob.print) (sym (ap (λ (r : Row). r.blob.print) bare)) (subst (IsSince first.blob.print) print blob_is.1),
      ),
      file-answered settings (end settings s before) e asked id row.path kept c (ends-sound settings apart s before sound parts.0) parts.1 through asks kind_is still,
    )
