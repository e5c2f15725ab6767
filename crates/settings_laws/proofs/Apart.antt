-- Settings name their repositories apart.
use Rattle.std.proofs.Common.{◌≡◌, ℕ, Bool, true, false, cond, ◌||◌, List, [], ◌∷◌, ◌++◌, map, Option, Some, None, refl, sym, ◌∙◌, subst}
use Rattle.std.specs.Prelude.{find, bytes_eq}
use Rattle.std.proofs.lemmas.Bool.{false≢true}
use Rattle.std.proofs.lemmas.List.{append_assoc}
use Rattle.std.proofs.lemmas.List.Folds.{list_any-append}
use Rattle.std.proofs.lemmas.Option.{none-some}
use Rattle.repo_model.specs.Settings.{GroupRule, ProxyRule, Rule, Settings}
use Rattle.repo_config.specs.Form.{IsSettings}
use Rattle.settings_keys.specs.Ids.{first_twice, is_among}
use Rattle.repo_laws.specs.Sound.{AreNamedApart, AreProxiesApart}
use Rattle.repo_laws.proofs.Releases.{same_path, is_itself}

not-yet : (b : Bool) (id : List ℕ) (more : Option (List ℕ)) → cond b (Some id) more ≡ None → (b ≡ false)
not-yet true id more is = absurd (none-some id (sym is))
not-yet false id more is = refl

goes-on : (b : Bool) (id : List ℕ) (more : Option (List ℕ)) → cond b (Some id) more ≡ None → more ≡ None
goes-on true id more is = absurd (none-some id (sym is))
goes-on false id more is = is

or-left : (a b : Bool) → a ≡ true → (a || b) ≡ true
or-left true b is = refl
or-left false b is = absurd (false≢true is)

or-right : (a b : Bool) → b ≡ true → (a || b) ≡ true
or-right true b is = refl
or-right false b is = is

still-among : (seen : List (List ℕ)) (other id : List ℕ) → is_among seen id ≡ true → is_among (seen ++ other ∷ []) id ≡ true
still-among seen other id is = list_any-append (λ o. bytes_eq o id) seen (other ∷ []) ∙ or-left (is_among seen id) (is_among (other ∷ []) id) is

now-among : (seen : List (List ℕ)) (id : List ℕ) → is_among (seen ++ id ∷ []) id ≡ true
now-among seen id = list_any-append (λ o. bytes_eq o id) seen (id ∷ []) ∙ or-right (is_among seen id) (is_among (id ∷ []) id) (or-left (bytes_eq id id) false (is_itself id))

-- none stands twice after some that were seen
behind : (seen front rest : List (List ℕ)) → first_twice seen (front ++ rest) ≡ None → (earlier : List (List ℕ)) × (first_twice earlier rest ≡ None)
behind seen [] rest none = (seen, none)
behind seen (id ∷ front) rest none = behind (seen ++ id ∷ []) front rest (goes-on (is_among seen id) id (first_twice (seen ++ id ∷ []) (front ++ rest)) none)

module _ {T : Type 0} (id_of : T → List ℕ) (rest : List (List ℕ)) where
  abbrev ids : List T → List (List ℕ)
  ids rules = map id_of rules ++ rest

  -- an id that was seen is none of those that follow
  none-later : (seen : List (List ℕ)) (rules : List T) (id : List ℕ) → first_twice seen (ids rules) ≡ None → is_among seen id ≡ true → find (λ other. bytes_eq (id_of other) id) rules ≡ None
  none-later seen [] id none among = refl
  none-later seen (rule ∷ rules) id none among =
      let first : is_among seen (id_of rule) ≡ false = not-yet (is_among seen (id_of rule)) (id_of rule) (first_twice (seen ++ id_of rule ∷ []) (ids rules)) none in
      let later = goes-on (is_among seen (id_of rule)) (id_of rule) (first_twice (seen ++ id_of rule ∷ []) (ids rules)) none in
      by (bytes_eq (id_of rule) id) refl first (none-later (seen ++ id_of rule ∷ []) rules id later (still-among seen (id_of rule) id among)) where
        by : (b : Bool) → bytes_eq (id_of rule) id ≡ b → is_among seen (id_of rule) ≡ false → find (λ other. bytes_eq (id_of other) id) rules ≡ None
            → cond b (Some rule) (find (λ other. bytes_eq (id_of other) id) rules) ≡ None
        by true same first more = absurd (false≢true (sym (subst (λ i. is_among seen i ≡ false) (same_path (id_of rule) id same) first) ∙ among))
        by false same first more = more

  -- an id is none of those after it, and none of these stands twice
  first-of : (seen : List (List ℕ)) (rule : T) (rules : List T) → first_twice seen (ids (rule ∷ rules)) ≡ None
      → (find (λ other. bytes_eq (id_of other) (id_of rule)) rules ≡ None) × (first_twice (seen ++ id_of rule ∷ []) (ids rules) ≡ None)
  first-of seen rule rules none =
      let later = goes-on (is_among seen (id_of rule)) (id_of rule) (first_twice (seen ++ id_of rule ∷ []) (ids rules)) none in
      (none-later (seen ++ id_of rule ∷ []) rules (id_of rule) later (now-among seen (id_of rule)), later)

rules-apart : (rest seen : List (List ℕ)) (rules : List Rule) → first_twice seen (ids (λ (rule : Rule). rule.id) rest rules) ≡ None → AreNamedApart rules
rules-apart rest seen [] none = tt
rules-apart rest seen (rule ∷ rules) none =
    let first = first-of (λ (other : Rule). other.id) rest seen rule rules none in
    (first.0, rules-apart rest (seen ++ rule.id ∷ []) rules first.1)

proxy-rules-apart : (rest seen : List (List ℕ)) (rules : List ProxyRule) → first_twice seen (ids (λ (rule : ProxyRule). rule.id) rest rules) ≡ None → AreProxiesApart rules
proxy-rules-apart rest seen [] none = tt
proxy-rules-apart rest seen (rule ∷ rules) none =
    let first = first-of (λ (other : ProxyRule). other.id) rest seen rule rules none in
    (first.0, proxy-rules-apart rest (seen ++ rule.id ∷ []) rules first.1)

module _ (s : Settings) (form : IsSettings s) where
  abbrev hosted_ids : List (List ℕ)
  hosted_ids = map (λ (rule : Rule). rule.id) s.hosted

  abbrev proxy_ids : List (List ℕ)
  proxy_ids = map (λ (rule : ProxyRule). rule.id) s.proxies

  abbrev group_ids : List (List ℕ)
  group_ids = map (λ (rule : GroupRule). rule.id) s.groups

  none-twice : first_twice [] (hosted_ids ++ (proxy_ids ++ group_ids)) ≡ None
  none-twice = subst (λ ids. first_twice [] ids ≡ None) (append_assoc hosted_ids proxy_ids group_ids) form.apart

  -- no two hosted repositories of settings have one id
  pub named-apart : AreNamedApart s.hosted
  named-apart = rules-apart (proxy_ids ++ group_ids) [] s.hosted none-twice

  -- and no two proxies
  pub proxies-apart : AreProxiesApart s.proxies
  proxies-apart = let later = behind [] hosted_ids (proxy_ids ++ group_ids) none-twice in proxy-rules-apart group_ids later.0 s.proxies later.1
