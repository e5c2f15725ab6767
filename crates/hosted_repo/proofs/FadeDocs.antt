-- What is drafted as paths are walked to, and what it leaves.
use Rattle.std.proofs.Common.{◌≡◌, ℕ, true, false, List, [], ◌∷◌, ◌++◌, Some, None, String, Global, string_bytes, refl, sym, ◌∙◌, ap}
use Rattle.std.specs.Prelude.{IsSome, is_some}
use Rattle.mvn_coords.specs.Layout.{Directory, text_of_directory}
use Rattle.mvn_coords.specs.Path.{IsDirectory}
use Rattle.repo_model.specs.Paths.{file_at, stands_in}
use Rattle.kept_docs.specs.Drafted.{KeepsDrafts, draft_at}
use Rattle.kept_docs.specs.declared.drafts.Drafts.{Drafts}
use Rattle.hosted_repo.specs.Fades.{AreApartFrom}

-- where nothing is drafted now, nothing was before
none_before : (old new : Drafts) (text : List ℕ) → KeepsDrafts old new → draft_at text new ≡ None → draft_at text old ≡ None
none_before old new text kept none =
    elim (draft_at text old) as (λ o. draft_at text old ≡ o → o ≡ None) [
      | None ↦ λ is. refl
      | Some x ↦ λ is. let wrong : false ≡ true = ap is_some (sym none) ∙ kept text (ap is_some is) in absurd cc
    ] refl

apart_append : (d : Directory) (paths : List (String Global)) (path : String Global) → AreApartFrom d paths → stands_in d (file_at (string_bytes path)) ≡ false → AreApartFrom d (paths ++ path ∷ [])
apart_append d [] path all one = (one, tt)
apart_append d (p ∷ paths) path all one = (all.0, apart_append d paths path all.1 one)

-- one more path
pub apart_more : (old new : Drafts) (paths : List (String Global)) (path : String Global) → KeepsDrafts old new
    → ((d : Directory) → IsDirectory d → stands_in d (file_at (string_bytes path)) ≡ true → IsSome (draft_at (text_of_directory d) new))
    → ((d : Directory) → IsDirectory d → draft_at (text_of_directory d) old ≡ None → AreApartFrom d paths)
    → (d : Directory) → IsDirectory d → draft_at (text_of_directory d) new ≡ None → AreApartFrom d (paths ++ path ∷ [])
apart_more old new paths path kept walked apart d rule none =
    apart_append d paths path (apart d rule (none_before old new (text_of_directory d) kept none))
    (elim (stands_in d (file_at (string_bytes path))) as (λ b. stands_in d (file_at (string_bytes path)) ≡ b → b ≡ false) [
      | true ↦ λ is. let wrong : false ≡ true = ap is_some (sym none) ∙ walked d rule is in absurd cc
      | false ↦ λ is. refl
    ] refl)
