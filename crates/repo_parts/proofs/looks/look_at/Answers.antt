use Rattle.std.proofs.Common.{◌≡◌, ◌<◌, ℕ, List, [], Some, None, find, bytes_eq, length, get_or, sym, ap, ◌∙◌, subst, arith}
use Rattle.std.specs.List.{position}
use Rattle.std.specs.Option.{option_map_or}
use Rattle.std.specs.Prelude.{IfOk}
use Rattle.std.proofs.lemmas.List.Quantifiers.{position-Some}
use Rattle.mvn_coords.specs.Kind.{kind}
use Rattle.repo_model.specs.Command.{group_rule_of}
use Rattle.repo_model.specs.Data.{Hosted}
use Rattle.repo_model.specs.Settings.{GroupRule, Settings}
use Rattle.repo_model.specs.State.{State, hosted_of, is_repository}
use Rattle.repo_model.specs.Turn.{Seen, directory_of, group_seen, look_at, member_seen, seen_at}
use Rattle.repo_restart.proofs.PlaceLemmas.{find-at}
use Rattle.repo_parts.specs.Looks.{shown_looked}
use Rattle.repo_parts.specs.Shelves.{IsShelved}
use Rattle.repo_parts.proofs.ShelfLemmas.{as-many, shelf-at, shelf-set}
use Rattle.repo_parts.proofs.ShelfLooks.{no-place}
use Rattle.repo_parts.proofs.looks.look_at.Goals as goal

within : (id : List ℕ) (groups : List GroupRule) (place : ℕ) → Some place ≡ position (λ (rule : GroupRule). bytes_eq rule.id id) groups → place < length groups
within id groups place found = (position-Some (λ (rule : GroupRule). bytes_eq rule.id id) groups place (record { id = []; members = [] }) (sym found)).0

-- what is looked at, where no hosted repository has the id
in-group : (settings : Settings) (s : State) (now : ℕ) (id tried path : List ℕ) (group : GroupRule) → hosted_of id s ≡ None → group_rule_of id settings ≡ Some group
    → look_at settings s now id tried path ≡ group_seen s now tried path (kind path) group.members (directory_of (kind path))
in-group settings s now id tried path group none found =
    let other = member_seen s now tried path (kind path) 0 id in
    let of_group : GroupRule → Seen = λ g. group_seen s now tried path (kind path) g.members (directory_of (kind path)) in
    ap (λ h. option_map_or (λ (x : Hosted). seen_at x.rows path (kind path)) h (option_map_or of_group (group_rule_of id settings) other)) none
    ∙ ap (λ o. option_map_or of_group o other) found

in-none : (settings : Settings) (s : State) (now : ℕ) (id tried path : List ℕ) → hosted_of id s ≡ None → group_rule_of id settings ≡ None
    → look_at settings s now id tried path ≡ member_seen s now tried path (kind path) 0 id
in-none settings s now id tried path none found =
    let other = member_seen s now tried path (kind path) 0 id in
    let of_group : GroupRule → Seen = λ g. group_seen s now tried path (kind path) g.members (directory_of (kind path)) in
    ap (λ h. option_map_or (λ (x : Hosted). seen_at x.rows path (kind path)) h (option_map_or of_group (group_rule_of id settings) other)) none
    ∙ ap (λ o. option_map_or of_group o other) found

pub index_mut-requires : goal.index_mut-requires
index_mut-requires g c =
    let groups = c.args.settings.now.groups in
    let inside = within c.args.id.now groups c.in-Some-group_place.place c.in-Some-group_place.ensures in
    let many = as-many c.args.goods.now.repos.now c.args.goods.now.proxies.now groups c.args.shelves.now.items c.requires.shelved in
    omega (arith, inside, many)

pub seen_in_group-requires : goal.seen_in_group-requires
seen_in_group-requires g c =
    let groups = c.args.settings.now.groups in
    let place = c.in-Some-group_place.place in
    let group = c.index-groups-place.result in
    let shelf = c.index_mut.result.now in
    let hosted = c.args.goods.now.repos.now in
    let proxies = c.args.goods.now.proxies.now in
    let members_so : c.members.result.now ≡ (get_or groups place group).members =
    c.members.ensures ∙ ap (λ (r : GroupRule). r.members) (c.index-groups-place.is ∙ ap (λ gs. get_or gs place group) c.groups.ensures) in
    let right = shelf-at hosted proxies groups c.args.shelves.now.items place group shelf (within c.args.id.now groups place c.in-Some-group_place.ensures) c.requires.shelved in
    record {
      shelved = subst (λ ms. IsShelved hosted proxies ms shelf) (sym members_so) (subst (λ one. IsShelved hosted proxies (get_or groups place group).members one) (sym c.index_mut.ensures.value) right);
    }

pub returns-in-Some-group_place-clause-seen : goal.returns-in-Some-group_place-clause-seen
returns-in-Some-group_place-clause-seen g c = λ s goods.
    let asked = c.args.asked.now in
    let settings = c.args.settings.now in
    let id = c.args.id.now in
    let groups = settings.groups in
    let place = c.in-Some-group_place.place in
    let group = c.index-groups-place.result in
    let members_so : c.members.result.now ≡ (get_or groups place group).members =
    c.members.ensures ∙ ap (λ (r : GroupRule). r.members) (c.index-groups-place.is ∙ ap (λ gs. get_or gs place group) c.groups.ensures) in
    let none : hosted_of id s ≡ None = ap (λ hs. find (is_repository id) hs) goods.hosted_so ∙ sym c.in_default.ensures.repo in
    let found : group_rule_of id settings ≡ Some (get_or groups place group) = find-at (λ (rule : GroupRule). bytes_eq rule.id id) groups place group (sym c.in-Some-group_place.ensures) in
    subst (λ (seen : Seen). IfOk c.seen_in_group.result (λ l. shown_looked l ≡ seen))
    (ap (λ ms. group_seen s asked.moment asked.tried.now asked.path.now (kind asked.path.now) ms (directory_of (kind asked.path.now))) members_so
    ∙ sym (in-group settings s asked.moment id asked.tried.now asked.path.now (get_or groups place group) none found))
    (c.seen_in_group.ensures.seen s goods)

pub returns-in-Some-group_place-clause-shelved : goal.returns-in-Some-group_place-clause-shelved
returns-in-Some-group_place-clause-shelved g c =
    let groups = c.args.settings.now.groups in
    let place = c.in-Some-group_place.place in
    let group = c.index-groups-place.result in
    let hosted = c.args.goods.now.repos.now in
    let proxies = c.args.goods.now.proxies.now in
    let members_so : c.members.result.now ≡ (get_or groups place group).members =
    c.members.ensures ∙ ap (λ (r : GroupRule). r.members) (c.index-groups-place.is ∙ ap (λ gs. get_or gs place group) c.groups.ensures) in
    let one = subst (λ ms. IsShelved hosted proxies ms c.seen_in_group.new.shelf) members_so c.seen_in_group.ensures.shelved in
    shelf-set hosted proxies groups c.args.shelves.now.items place group c.seen_in_group.new.shelf (within c.args.id.now groups place c.in-Some-group_place.ensures) c.requires.shelved one

pub returns-in-None-clause-seen : goal.returns-in-None-clause-seen
returns-in-None-clause-seen g c = λ s goods.
    let asked = c.args.asked.now in
    let settings = c.args.settings.now in
    let id = c.args.id.now in
    let none : hosted_of id s ≡ None = ap (λ hs. find (is_repository id) hs) goods.hosted_so ∙ sym c.in_default.ensures.repo in
    let found : group_rule_of id settings ≡ None = no-place (λ (rule : GroupRule). bytes_eq rule.id id) settings.groups (sym c.in-None.ensures) in
    subst (λ (seen : Seen). IfOk c.seen_by_member.result (λ l. shown_looked l ≡ seen)) (sym (in-none settings s asked.moment id asked.tried.now asked.path.now none found))
    (c.seen_by_member.ensures s goods)
