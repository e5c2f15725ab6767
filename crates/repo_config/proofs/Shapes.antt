-- Settings of a document without a refusal have their form.
use Rattle.std.proofs.Common.{◌≡◌, ℕ, Bool, true, false, not, cond, nat_le, List, [], ◌∷◌, length, Option, Some, None, is_none, map, codes, refl, ap, subst, sym, ◌∙◌}
use Rattle.std.proofs.lemmas.Bool.{and_parts, leb-true}
use Rattle.std.specs.List.{list_all}
use Rattle.std.specs.Option.{option_map, option_map_or, option_or}
use Rattle.toml.specs.Data.{Data, Members, get_member}
use Rattle.repo_model.specs.Settings.{Settings}
use Rattle.path_patterns.specs.Pattern.{is_pattern}
use Rattle.path_patterns.proofs.Bad.{filter-all}
use Rattle.settings_keys.specs.declared.kinds.TableKind.{TableKind}
use Rattle.settings_keys.specs.declared.kinds.TableKind.TheVariants.{Top, Hosted, Proxy, Group}
use Rattle.settings_keys.specs.declared.kinds.Walk.{Walk}
use Rattle.settings_keys.specs.declared.kinds.Walk.TheVariants as walk
use Rattle.settings_keys.specs.Keys as keys
use Rattle.settings_keys.specs.Keys.{keys_of, missing_in, unfit_in}
use Rattle.settings_keys.specs.Ids.{first_twice, is_id}
use Rattle.settings_keys.specs.Values.{number_at, tables_at, texts_in}
use Rattle.settings_keys.specs.Walks.{fault_among, fault_in, first_fault}
use Rattle.settings_keys.proofs.Fits.{all_fit, all_there, flags_on, number_within, optional_text, required_text}
use Rattle.repo_config.specs.declared.faults.SettingsFault.{SettingsFault}
use Rattle.repo_config.specs.declared.faults.SettingsFault.TheVariants as fault
use Rattle.repo_config.specs.Form.{IsSettings, is_group_rule, is_proxy_rule, is_rule}
use Rattle.repo_config.specs.Names.{ids_of, no_member}
use Rattle.repo_config.specs.Reading.{group_rule, hosted_rule, proxy_rule, settings_of}
use Rattle.repo_config.specs.Refusal.{key_refusal, name_refusal, wrong_count}

abbrev fits : (Data → Bool) → List ℕ → Members → Bool
fits test name table = keys.passes test name table

abbrev there : List ℕ → Members → Bool
there name table = not (is_none (get_member name table))

hosted_form : (table : Members) → missing_in Hosted table ≡ None → unfit_in Hosted table ≡ None → is_rule (hosted_rule table) ≡ true
hosted_form table no_missing no_unfit =
    let all = all_fit table (keys_of Hosted) no_unfit in
    let f1 = and_parts (fits (keys.is_text is_id) (codes "id") table) _ all in
    let f2 = and_parts (fits (keys.is_number 1 1000) (codes "keep_count") table) _ f1.1 in
    let f3 = and_parts (fits (keys.is_number 0 36500) (codes "keep_days") table) _ f2.1 in
    let f4 = and_parts (keys.releases_fit table) _ f3.1 in
    let f5 = and_parts (fits keys.is_flag (codes "snapshots") table) _ f4.1 in
    let needed = all_there table (keys_of Hosted) no_missing in
    let t1 = and_parts (there (codes "id") table) _ needed in
    let t2 = and_parts (there (codes "releases") table) _ t1.1 in
    let t3 = and_parts (there (codes "snapshots") table) _ t2.1 in
    let days = and_parts (nat_le 0 (number_at (codes "keep_days") 0 36500 36500 table)) _ (number_within (codes "keep_days") 0 36500 36500 table refl) in
    rw (required_text is_id (codes "id") table f1.0 t1.0, flags_on table f4.0 f5.0 t2.0 t3.0, number_within (codes "keep_count") 1 1000 1000 table refl, days.1) refl

patterns_form : (value : Option Data) (missing : List (List ℕ)) → option_map_or (keys.are_texts keys.is_pattern_list) value true ≡ true
    → keys.is_pattern_list missing ≡ true
    → keys.is_pattern_list (option_map_or (λ v. Rattle.std.specs.List.filter is_pattern (texts_in v)) value missing) ≡ true
patterns_form None missing fit m = m
patterns_form (Some value) missing fit m =
    let array = and_parts (keys.is_text_array value) _ fit in
    let few = and_parts (nat_le (length (texts_in value)) 100) _ array.1 in
    rw (filter-all is_pattern (texts_in value) few.1) array.1

proxy_form : (table : Members) → missing_in Proxy table ≡ None → unfit_in Proxy table ≡ None → is_proxy_rule (proxy_rule table) ≡ true
proxy_form table no_missing no_unfit =
    let all = all_fit table (keys_of Proxy) no_unfit in
    let f1 = and_parts (fits (keys.are_texts keys.is_pattern_list) (codes "allow") table) _ all in
    let f2 = and_parts (fits (keys.are_texts keys.is_pattern_list) (codes "block") table) _ f1.1 in
    let f3 = and_parts (fits (keys.is_text keys.is_host) (codes "host") table) _ f2.1 in
    let f4 = and_parts (fits (keys.is_text is_id) (codes "id") table) _ f3.1 in
    let f5 = and_parts (fits (keys.is_number 0 86400) (codes "negative_seconds") table) _ f4.1 in
    let f6 = and_parts (fits (keys.is_number 1 65535) (codes "port") table) _ f5.1 in
    let f7 = and_parts (fits (keys.is_text keys.is_prefix) (codes "prefix") table) _ f6.1 in
    let needed = all_there table (keys_of Proxy) no_missing in
    let t1 = and_parts (there (codes "host") table) _ needed in
    let t2 = and_parts (there (codes "id") table) _ t1.1 in
    let seconds = and_parts (nat_le 0 (number_at (codes "negative_seconds") 0 86400 3600 table)) _ (number_within (codes "negative_seconds") 0 86400 3600 table refl) in
    rw (
      required_text is_id (codes "id") table f4.0 t2.0,
      required_text keys.is_host (codes "host") table f3.0 t1.0,
      number_within (codes "port") 1 65535 80 table refl,
      optional_text keys.is_prefix (codes "prefix") table f7.0 refl,
      seconds.1,
      patterns_form (get_member (codes "allow") table) (codes "**" ∷ []) f1.0 refl,
      patterns_form (get_member (codes "block") table) [] f2.0 refl,
    ) refl

members_form : (value : Option Data) → option_map_or (keys.are_texts keys.is_member_list) value true ≡ true → not (is_none value) ≡ true
    → keys.is_member_list (Rattle.std.specs.List.filter_map Rattle.toml.specs.Data.as_str (option_map_or Rattle.settings_keys.specs.Values.items_in value [])) ≡ true
members_form None fit is = cc
members_form (Some value) fit is = (and_parts (keys.is_text_array value) _ fit).1

group_form : (table : Members) → missing_in Group table ≡ None → unfit_in Group table ≡ None → is_group_rule (group_rule table) ≡ true
group_form table no_missing no_unfit =
    let all = all_fit table (keys_of Group) no_unfit in
    let f1 = and_parts (fits (keys.is_text is_id) (codes "id") table) _ all in
    let f2 = and_parts (fits (keys.are_texts keys.is_member_list) (codes "members") table) _ f1.1 in
    let needed = all_there table (keys_of Group) no_missing in
    let t1 = and_parts (there (codes "id") table) _ needed in
    let t2 = and_parts (there (codes "members") table) _ t1.1 in
    rw (required_text is_id (codes "id") table f1.0 t1.0, members_form (get_member (codes "members") table) f2.0 t2.0) refl

neither : {A : Type 0} (a b : Option A) → option_or a b ≡ None → (a ≡ None) × (b ≡ None)
neither None b h = (refl, h)
neither (Some x) b h = cc

no_map : {A B : Type 0} (f : A → B) (a : Option A) → option_map f a ≡ None → a ≡ None
no_map f None h = refl
no_map f (Some x) h = cc

-- each table's rule has its form where the walks find nothing among the tables
rules_form : {R : Type 0} (kind : TableKind) (rule : Members → R) (test : R → Bool)
    → ((table : Members) → missing_in kind table ≡ None → unfit_in kind table ≡ None → test (rule table) ≡ true)
    → (tables : List Members) → fault_among walk.Missing kind tables ≡ None → fault_among walk.Unfit kind tables ≡ None
    → list_all test (map rule tables) ≡ true
rules_form kind rule test one [] no_missing no_unfit = refl
rules_form kind rule test one (table ∷ tables) no_missing no_unfit =
    let m = neither (missing_in kind table) _ no_missing in
    let u = neither (unfit_in kind table) _ no_unfit in
    rw (one table m.0 u.0, rules_form kind rule test one tables m.1 u.1) refl

record NoFault (w : Walk) (document : Members) : Type 0 where
  hosted : fault_among w Hosted (tables_at (codes "hosted") document) ≡ None
  proxies : fault_among w Proxy (tables_at (codes "proxy") document) ≡ None
  groups : fault_among w Group (tables_at (codes "group") document) ≡ None

no_fault : (w : Walk) (document : Members) → first_fault w document ≡ None → NoFault w document
no_fault w document h =
    let top = neither (fault_in w Top document) _ h in
    let hosted = neither (fault_among w Hosted (tables_at (codes "hosted") document)) _ top.1 in
    let proxies = neither (fault_among w Proxy (tables_at (codes "proxy") document)) _ hosted.1 in
    record { hosted = hosted.0; proxies = proxies.0; groups = proxies.1 }

counted : (b : Bool) (x : SettingsFault) → cond b None (Some x) ≡ None → b ≡ true
counted true x h = refl
counted false x h = cc

pub settings_form : (document : Members) → key_refusal document ≡ None
    → name_refusal (ids_of (settings_of document)) (settings_of document).groups ≡ None → IsSettings (settings_of document)
settings_form document no_key no_name =
    let s = settings_of document in
    let known = neither (option_map fault.Unknown (first_fault walk.Unknown document)) _ no_key in
    let kept = neither (option_map fault.Missing (first_fault walk.Missing document)) _ known.1 in
    let m = no_fault walk.Missing document (no_map fault.Missing _ kept.0) in
    let u = no_fault walk.Unfit document (no_map fault.Range _ kept.1) in
    let count = neither (wrong_count (ids_of s)) _ no_name in
    let apart = neither (option_map fault.TwiceNamed (first_twice [] (ids_of s))) _ count.1 in
    let members = neither (option_map fault.NoMember (no_member (ids_of s) s.groups)) _ apart.1 in
    let grace = and_parts (nat_le 0 (number_at (codes "grace_seconds") 0 31536000 86400 document)) _ (number_within (codes "grace_seconds") 0 31536000 86400 document refl) in
    record {
      grace = leb-true _ _ grace.1;
      clean = number_within (codes "clean_seconds") 1 86400 3600 document refl;
      max_file = number_within (codes "max_file") 1 4294967295 16777216 document refl;
      hosted = rules_form Hosted hosted_rule is_rule hosted_form (tables_at (codes "hosted") document) m.hosted u.hosted;
      proxies = rules_form Proxy proxy_rule is_proxy_rule proxy_form (tables_at (codes "proxy") document) m.proxies u.proxies;
      groups = rules_form Group group_rule is_group_rule group_form (tables_at (codes "group") document) m.groups u.groups;
      repositories = counted _ _ count.0;
      apart = no_map fault.TwiceNamed _ apart.0;
      members = no_map fault.NoMember _ members.0;
      no_group_in_group = no_map fault.MemberIsGroup _ members.1;
    }

pub form_of : (document : Members) (s : Settings) → s ≡ settings_of document → key_refusal document ≡ None
    → name_refusal (ids_of s) s.groups ≡ None → IsSettings s
form_of document s is no_key no_name =
    let P : Settings → Type 0 = λ s. IsSettings s in
    subst P (sym is) (settings_form document no_key (ap (λ s. name_refusal (ids_of s) s.groups) (sym is) ∙ no_name))
