-- The form that settings always have.
use Rattle.std.specs.Prelude.{◌≡◌, ℕ, ◌≤◌, Bool, true, ◌&&◌, ◌||◌, nat_le, [], length, None}
use Rattle.std.specs.List.{list_all}
use Rattle.repo_model.specs.Settings.{GroupRule, ProxyRule, Rule, Settings}
use Rattle.settings_keys.specs.Keys.{is_host, is_member_list, is_pattern_list, is_prefix}
use Rattle.settings_keys.specs.Ids.{first_twice, is_id}
use Rattle.repo_config.specs.Names.{ids_of, member_is_group, no_member}

-- a number from 1 on, or from 0 on, up to a limit
abbrev pub is_from_1_to : ℕ → ℕ → Bool
is_from_1_to limit n = nat_le 1 n && nat_le n limit

abbrev pub is_rule : Rule → Bool
is_rule rule =
    is_id rule.id && (rule.releases || rule.snapshots) && is_from_1_to 1000 rule.keep_count && nat_le rule.keep_days 36500

abbrev pub is_proxy_rule : ProxyRule → Bool
is_proxy_rule rule =
    is_id rule.id && is_host rule.host && is_from_1_to 65535 rule.port && is_prefix rule.prefix
    && nat_le rule.negative_seconds 86400 && is_pattern_list rule.allow && is_pattern_list rule.block

abbrev pub is_group_rule : GroupRule → Bool
is_group_rule rule = is_id rule.id && is_member_list rule.members

pub record IsSettings (s : Settings) : Type 0 where
  pub grace : s.grace ≤ 31536000
  pub clean : is_from_1_to 86400 s.clean ≡ true
  pub max_file : is_from_1_to 4294967295 s.max_file ≡ true
  pub hosted : list_all is_rule s.hosted ≡ true
  pub proxies : list_all is_proxy_rule s.proxies ≡ true
  pub groups : list_all is_group_rule s.groups ≡ true
  pub repositories : is_from_1_to 64 (length (ids_of s)) ≡ true
  -- no id stands twice; each member is a hosted repository or a proxy
  pub apart : first_twice [] (ids_of s) ≡ None
  pub members : no_member (ids_of s) s.groups ≡ None
  pub no_group_in_group : member_is_group s.groups ≡ None
