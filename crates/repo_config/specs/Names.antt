-- The ids of the repositories of settings, and which of them are refused because of others.
use Rattle.std.specs.Prelude.{ℕ, Bool, true, false, not, List, ◌++◌, map, Option}
use Rattle.std.specs.List.{find, flat_map}
use Rattle.repo_model.specs.Settings.{GroupRule, Settings}
use Rattle.settings_keys.specs.Ids.{is_among}

-- an id is among these, or is not, as asked
abbrev pub is_as : Bool → List (List ℕ) → List ℕ → Bool
is_as true ids id = is_among ids id
is_as false ids id = not (is_among ids id)

-- all ids: of the hosted repositories, the proxies and the groups, each as written
abbrev pub ids_of : Settings → List (List ℕ)
ids_of s = map (λ rule. rule.id) s.hosted ++ map (λ rule. rule.id) s.proxies ++ map (λ rule. rule.id) s.groups

abbrev pub members_of : List GroupRule → List (List ℕ)
members_of groups = flat_map (λ group. group.members) groups

-- the first member of a group that is none of these ids
abbrev pub no_member : List (List ℕ) → List GroupRule → Option (List ℕ)
no_member ids groups = find (is_as false ids) (members_of groups)

-- the first member of a group that is a group
abbrev pub member_is_group : List GroupRule → Option (List ℕ)
member_is_group groups = find (is_as true (map (λ group. group.id) groups)) (members_of groups)
