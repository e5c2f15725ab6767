-- The settings that a document says, with the defaults of what it leaves out; a value that does not fit counts as left out.
use Rattle.std.specs.Prelude.{ℕ, if◌then◌else◌, List, [], ◌∷◌, filter, map, codes}
use Rattle.std.specs.List.{filter_map}
use Rattle.std.specs.Option.{option_map_or}
use Rattle.std.specs.Str.{bytes_eq}
use Rattle.toml.specs.Data.{Members, as_str, get_member}
use Rattle.path_patterns.specs.Pattern.{is_pattern}
use Rattle.repo_model.specs.Settings.{GroupRule, ProxyRule, Rule, Settings}
use Rattle.repo_model.specs.declared.update.Update.{Update}
use Rattle.repo_model.specs.declared.update.Update.TheVariants.{Always, Hourly, Daily, Once, Never}
use Rattle.settings_keys.specs.Values.{flag_at, items_at, number_at, tables_at, text_at, texts_in}

abbrev pub hosted_rule : Members → Rule
hosted_rule table = record {
  id = text_at (codes "id") [] table;
  releases = flag_at (codes "releases") table;
  snapshots = flag_at (codes "snapshots") table;
  keep_count = number_at (codes "keep_count") 1 1000 1000 table;
  keep_days = number_at (codes "keep_days") 0 36500 36500 table;
}

abbrev pub update_of : List ℕ → Update
update_of text =
    if bytes_eq text (codes "always") then Always
    else (if bytes_eq text (codes "hourly") then Hourly
    else (if bytes_eq text (codes "once") then Once
    else (if bytes_eq text (codes "never") then Never
    else Daily)))

abbrev pub patterns_at : List ℕ → List (List ℕ) → Members → List (List ℕ)
patterns_at name missing table = option_map_or (λ value. filter is_pattern (texts_in value)) (get_member name table) missing

abbrev pub proxy_rule : Members → ProxyRule
proxy_rule table = record {
  id = text_at (codes "id") [] table;
  host = text_at (codes "host") [] table;
  port = number_at (codes "port") 1 65535 80 table;
  prefix = text_at (codes "prefix") [] table;
  update = update_of (text_at (codes "update") (codes "daily") table);
  negative_seconds = number_at (codes "negative_seconds") 0 86400 3600 table;
  allow = patterns_at (codes "allow") (codes "**" ∷ []) table;
  block = patterns_at (codes "block") [] table;
}

abbrev pub group_rule : Members → GroupRule
group_rule table = record {
  id = text_at (codes "id") [] table;
  members = filter_map as_str (items_at (codes "members") table);
}

abbrev pub settings_of : Members → Settings
settings_of document = record {
  grace = number_at (codes "grace_seconds") 0 31536000 86400 document;
  clean = number_at (codes "clean_seconds") 1 86400 3600 document;
  max_file = number_at (codes "max_file") 1 4294967295 16777216 document;
  hosted = map hosted_rule (tables_at (codes "hosted") document);
  proxies = map proxy_rule (tables_at (codes "proxy") document);
  groups = map group_rule (tables_at (codes "group") document);
}
