-- The path that a request target asks for (RFC 9112, section 3.2; RFC 3986, sections 3.3 and 3.4).
use Rattle.std.specs.Prelude.{ℕ, ◌==◌, nat_eq, if◌then◌else◌, List, ◌∷◌, Option, Some, Result, codes}
use Rattle.std.specs.Option.{ok_or, option_map}
use Rattle.std.specs.List.{after_first, before_first, starts_with}
use Rattle.byte_cuts.specs.Cuts.{behind}
use Rattle.repo_routes.specs.declared.refusal.Refusal.{Refusal}
use Rattle.repo_routes.specs.declared.refusal.Refusal.TheVariants as refusal

-- the path after the authority: from the next `/` on; `/` where there is none
unfoldable pub path_after : List ℕ → List ℕ
path_after text = 47 ∷ after_first (λ b. b == 47) text

-- the target in origin form: what begins with `/`, and of `http://` the path after its authority
unfoldable pub origin_form : List ℕ → Option (List ℕ)
origin_form target =
    if starts_with nat_eq target (codes "/") then Some target
    else option_map path_after (behind (codes "http://") target)

-- a `?` and what follows it is dropped
unfoldable pub without_query : List ℕ → List ℕ
without_query target = before_first (λ b. b == 63) target

-- the path of a target
unfoldable pub target_path : List ℕ → Result (List ℕ) Refusal
target_path target = ok_or (option_map without_query (origin_form target)) refusal.BadTarget
