-- What is recorded has its form: ids of repositories, paths of files, numbers of drafts.
use native.Mathlib.Omega.{arith}
use Rattle.std.proofs.Common.{◌≡◌, ℕ, ◌<◌, ◌≤◌, true, ◌&&◌, ◌||◌, List, [], ◌∷◌, length, Option, Some, None, zero, suc, ◌⊎◌, inl, inr, refl}
use Rattle.std.specs.Prelude.{IsTrue, is_some, nat_le, nat_lt}
use Rattle.std.specs.List.{AllByRecursion, list_all}
use Rattle.std.proofs.lemmas.Bool.{and_from, and_parts, cases_order, false≢true, le-leb, leb-true, lt-ltb}
use Rattle.mvn_coords.specs.Layout.{Coordinates}
use Rattle.repo_model.specs.Settings.{ProxyRule, Rule}
use Rattle.repo_model.specs.Command.{is_fit}
use Rattle.repo_model.specs.Paths.{file_at, takes, takes_file}
use Rattle.repo_model.specs.State.{State, is_among, number_end}
use Rattle.repo_config.specs.Form.{is_from_1_to, is_proxy_rule, is_rule}
use Rattle.settings_keys.specs.Keys.{is_host, is_pattern_list, is_prefix}
use Rattle.settings_keys.specs.Ids as names
use Rattle.repo_laws.specs.Sound.{OnePlace}
use Rattle.repo_laws.proofs.Counts.{among-counts}
use Rattle.row_tables.specs.Items.{is_file_path, is_id, is_id_byte, is_number}
use Rattle.repo_restart.specs.Rows.{HasProxyForm}

id-so : (id : List ℕ) → names.is_id id ≡ true → is_id id ≡ true
id-so id is =
    let (sized, bytes) = and_parts (nat_le 1 (length id) && nat_le (length id) 64) (list_all is_id_byte id) is in
    let (some, few) = and_parts (nat_le 1 (length id)) (nat_le (length id) 64) sized in
    and_from (nat_lt 0 (length id)) (nat_le (length id) 64 && list_all is_id_byte id) some (and_from (nat_le (length id) 64) (list_all is_id_byte id) few bytes)

rule-id : (rule : Rule) → is_rule rule ≡ true → is_id rule.id ≡ true
rule-id rule is =
    let kinds = rule.releases || rule.snapshots in
    let count = is_from_1_to 1000 rule.keep_count in
    let (first, days) = and_parts ((names.is_id rule.id && kinds) && count) (nat_le rule.keep_days 36500) is in
    let (second, counted) = and_parts (names.is_id rule.id && kinds) count first in
    let (named, some) = and_parts (names.is_id rule.id) kinds second in
    id-so rule.id named

-- the ids of rules in their form
pub ids-so : (rules : List Rule) → list_all is_rule rules ≡ true → AllByRecursion (λ (rule : Rule). IsTrue (is_id rule.id)) rules
ids-so [] all = tt
ids-so (rule ∷ rules) all = let (here, rest) = and_parts (is_rule rule) (list_all is_rule rules) all in (rule-id rule here, ids-so rules rest)

proxy-form : (rule : ProxyRule) → is_proxy_rule rule ≡ true → HasProxyForm rule
proxy-form rule is =
    let id = names.is_id rule.id in
    let host = is_host rule.host in
    let port = is_from_1_to 65535 rule.port in
    let prefix = is_prefix rule.prefix in
    let seconds = nat_le rule.negative_seconds 86400 in
    let allow = is_pattern_list rule.allow in
    let (first, block) = and_parts (((((id && host) && port) && prefix) && seconds) && allow) (is_pattern_list rule.block) is in
    let (second, allowed) = and_parts ((((id && host) && port) && prefix) && seconds) allow first in
    let (third, few) = and_parts (((id && host) && port) && prefix) seconds second in
    let (fourth, prefixed) = and_parts ((id && host) && port) prefix third in
    let (fifth, numbered) = and_parts (id && host) port fourth in
    let (named, hosted) = and_parts id host fifth in
    (id-so rule.id named, leb-true rule.negative_seconds 86400 few)

-- and of those of proxies
pub proxies-so : (rules : List ProxyRule) → list_all is_proxy_rule rules ≡ true → AllByRecursion HasProxyForm rules
proxies-so [] all = tt
proxies-so (rule ∷ rules) all = let (here, rest) = and_parts (is_proxy_rule rule) (list_all is_proxy_rule rules) all in (proxy-form rule here, proxies-so rules rest)

taken-file : (rule : Rule) (found : Option Coordinates) → takes_file rule found ≡ true → is_some found ≡ true
taken-file rule None is = absurd (false≢true is)
taken-file rule (Some c) is = refl

-- what a repository takes is a file
pub fit-file : (path : List ℕ) (found : Option Rule) → is_fit (λ rule. takes rule path) found ≡ true → IsTrue (is_file_path path)
fit-file path None is = absurd (false≢true is)
fit-file path (Some rule) is = taken-file rule (file_at path) is

-- a draft was drawn
below-next : (s : State) (n : ℕ) → OnePlace s → is_among n s.yard.drafts ≡ true → n < s.yard.next_draft
below-next s n placed among = by (cases_order n s.yard.next_draft) where
  past : s.yard.next_draft ≤ n → n < s.yard.next_draft
  past le = absurd (omega (arith, placed.later n le, among-counts n s.yard.drafts among))

  by : (n ≡ s.yard.next_draft) ⊎ ((n < s.yard.next_draft) ⊎ (s.yard.next_draft < n)) → n < s.yard.next_draft
  by (inl same) = past (omega (arith, same))
  by (inr (inl less)) = less
  by (inr (inr more)) = past (omega (arith, more))

not-zero : (s : State) (n : ℕ) → OnePlace s → is_among n s.yard.drafts ≡ true → 0 < n
not-zero s zero placed among = absurd (omega (arith, placed.none, among-counts 0 s.yard.drafts among))
not-zero s (suc m) placed among = omega arith

-- a draft has a number
pub draft-number : (s : State) (n : ℕ) → OnePlace s → s.yard.next_draft ≤ number_end → is_among n s.yard.drafts ≡ true → IsTrue (is_number n)
draft-number s n placed end among =
    let below = below-next s n placed among in
    and_from (nat_lt 0 n) (nat_le n 9223372036854775807) (lt-ltb 0 n (not-zero s n placed among)) (le-leb n 9223372036854775807 (omega (arith, below, end)))
