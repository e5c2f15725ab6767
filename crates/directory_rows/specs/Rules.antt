-- The rule of a repository as the machine's plain data.
use Rattle.repo_model.specs.Settings as plain
use Rattle.directory_rows.specs.declared.rule.Rule.{Rule}

abbrev pub shown_rule : Rule → plain.Rule
shown_rule r = record {
  id = r.id;
  releases = r.releases;
  snapshots = r.snapshots;
  keep_count = r.keep_count;
  keep_days = r.keep_days;
}
