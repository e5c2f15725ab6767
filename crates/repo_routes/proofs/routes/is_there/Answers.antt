use Rattle.std.proofs.Common.{◌≡◌, ◌∙◌, Bool, true, false, cond, ◌||◌, List, [], ◌∷◌, Some, is_some, refl, bytes_eq}
use Rattle.std.specs.Prelude.{find}
use Rattle.std.specs.List.{list_any}
use Rattle.repo_model.specs.Settings.{Rule}
use Rattle.repo_routes.proofs.routes.is_there.Goals as goal

any-find : {A : Type 0} (test : A → Bool) (items : List A) → list_any test items ≡ is_some (find test items)
any-find test [] = refl
any-find test (item ∷ items) = elim (test item) as (λ b. (b || list_any test items) ≡ is_some (cond b (Some item) (find test items))) [ true ↦ refl | false ↦ any-find test items ]

pub returns : goal.returns
returns c =
    let rules = rw c.hosted.ensures at c.is_listed.ensures in
    rules ∙ any-find (λ (rule : Rule). bytes_eq rule.id c.args.repo.now) c.args.settings.now.hosted
