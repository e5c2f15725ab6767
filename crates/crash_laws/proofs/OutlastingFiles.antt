-- A file that a proxy keeps is recorded after later entries.
use Rattle.std.proofs.Common.{subst, ◌≡◌, ℕ, true, false, ◌||◌, cond, List, [], ◌∷◌, Some, refl, sym, ap, ◌∙◌}
use Rattle.std.specs.Prelude.{find, IsTrue}
use Rattle.std.specs.Option.{option_map, option_map_or}
use Rattle.std.specs.List.{list_any}
use Rattle.std.proofs.lemmas.Option.{none-some}
use Rattle.repo_model.specs.Data.{Proxy, Row}
use Rattle.repo_model.specs.History.{Entry, Legal, end}
use Rattle.repo_model.specs.Settings.{Settings}
use Rattle.repo_model.specs.State.{State, files_of, is_proxy, row_at}
use Rattle.repo_model.specs.Tables.{Tables}
use Rattle.repo_laws.specs.Holds.{Holds, InOrder, told, with_items}
use Rattle.repo_laws.specs.Laws.{without_bytes}
use Rattle.repo_laws.specs.Sound.{AreNamedApart, IsSound}
use Rattle.repo_laws.proofs.Holding.{history-recorded}
use Rattle.proxy_laws.proofs.Staying.{file-after-history}
use Rattle.crash_laws.specs.Found.{IsCachedAs}
use Rattle.crash_laws.specs.Crashes.{IsLeft}
use Rattle.crash_laws.proofs.Fronts.{is-front}

-- a proxy with a file is there
there : (id path : List ℕ) (row : Row) (proxies : List Proxy) → row_at path (option_map_or (λ (p : Proxy). p.files) (find (is_proxy id) proxies) []) ≡ Some row
    → IsTrue (list_any (is_proxy id) proxies)
there id path row [] is = absurd (none-some row is)
there id path row (p ∷ proxies) is =
    elim (is_proxy id p)
    as (λ b. row_at path (option_map_or (λ (q : Proxy). q.files) (cond b (Some p) (find (is_proxy id) proxies)) []) ≡ Some row → IsTrue (b || list_any (is_proxy id) proxies)) [
      | true ↦ λ _. refl
      | false ↦ λ got. there id path row proxies got
    ] is

outlasts : (settings : Settings) (s : State) (t : Tables) (entries : List Entry) (id : List ℕ) (row : Row) → AreNamedApart settings.hosted → IsSound settings s → InOrder t → Holds t s
    → Legal settings s entries → row_at row.path (files_of id s) ≡ Some row → IsCachedAs id row (with_items t (told settings s entries))
outlasts settings s t entries id row apart sound ordered holds legal is =
    let at = file-after-history settings s entries id row.path row apart sound legal is in
    let held : Holds (with_items t (told settings s entries)) (end settings s entries) =
    (history-recorded settings apart entries s t legal sound.order sound.places sound.sessions ordered holds).2 in (
      without_bytes row,
      held.files id row.path (there id row.path row (end settings s entries).proxies at) ∙ ap (option_map without_bytes) at,
      refl,
      refl,
    )

-- so in whatever a crash leaves
pub files-outlast-crashes : (settings : Settings) (s : State) (t u : Tables) (entries : List Entry) (id : List ℕ) (row : Row) → AreNamedApart settings.hosted → IsSound settings s → InOrder t
    → Holds t s → Legal settings s entries → row_at row.path (files_of id s) ≡ Some row → IsLeft settings s t entries u → IsCachedAs id row u
files-outlast-crashes settings s t u entries id row apart sound ordered holds legal is left =
    let front = is-front settings s t u entries legal left in
    subst (IsCachedAs id row) (sym front.left) (outlasts settings s t front.history id row apart sound ordered holds front.legal is)
