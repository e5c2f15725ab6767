-- Lists of ids, and the texts that they stand for.
use Rattle.std.proofs.Common.{◌≡◌, ℕ, ◌+◌, ◌<◌, Bool, ◌||◌, List, [], ◌∷◌, Bor, drop, get_or, length, map, refl, ap, sym, ◌∙◌}
use Rattle.std.proofs.lemmas.List.{drop_more}
use Rattle.std.proofs.lemmas.List.Folds.{find-append}
use Rattle.std.specs.List.{find, flat_map, list_any}
use Rattle.std.specs.Option.{option_or}
use Rattle.std.specs.Str.{bytes_eq}
use Rattle.repo_model.specs.Settings.{GroupRule}
use Rattle.settings_keys.specs.Ids.{is_among}

pub some_id : (ids : List (Bor (List ℕ))) (id : List ℕ) → is_among (map (λ id. id.now) ids) id ≡ list_any (λ other. bytes_eq other.now id) ids
some_id [] id = refl
some_id (other ∷ ids) id = ap (λ rest. bytes_eq other.now id || rest) (some_id ids id)

-- the members of one group, and of those after it
pub find-groups : (test : List ℕ → Bool) (groups : List GroupRule) (i : ℕ) (group : GroupRule) → i < length groups
    → group ≡ get_or groups i group
    → find test (flat_map (λ g. g.members) (drop i groups))
    ≡ option_or (find test group.members) (find test (flat_map (λ g. g.members) (drop (i + 1) groups)))
find-groups test groups i group lt is =
    ap (λ left. find test (flat_map (λ g. g.members) left)) (drop_more groups i group lt)
    ∙ find-append test (get_or groups i group).members (flat_map (λ g. g.members) (drop (i + 1) groups))
    ∙ ap (λ g. option_or (find test g.members) (find test (flat_map (λ g. g.members) (drop (i + 1) groups)))) (sym is)
