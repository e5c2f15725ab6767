-- The text, read.
use Rattle.std.proofs.Common.{◌≡◌, Result, Ok, Err, codes, refl, sym, ap, ◌∙◌}
use Rattle.std.specs.Str.{chars, is_utf8}
use Rattle.toml.proofs.OnLiterals.{toml_on_literals}
use Rattle.repo_config.specs.Refusal.{reading}
use Rattle.repo_config.specs.declared.faults.SettingsFault.{SettingsFault}
use Rattle.repo_model.specs.Settings.{Settings}
use Rattle.demo_requests.specs.Settings as spec
use Rattle.demo_requests.proofs.fixed.settings.Goals as goal

known : reading (codes "grace_seconds = 5\n[[hosted]]\nid = \"releases\"\nreleases = true\nsnapshots = false\n[[hosted]]\nid = \"snapshots\"\nreleases = false\nsnapshots = true\nkeep_count = 2\nkeep_days = 0\n[[group]]\nid = \"public\"\nmembers = [\"releases\", \"snapshots\"]\n") ≡ Ok spec.settings
unfolding toml_on_literals chars is_utf8
known = refl

abbrev or_other : Settings → Result Settings SettingsFault → Settings
or_other other (Ok settings) = settings
or_other other (Err fault) = other

pub returns-in-Ok : goal.returns-in-Ok
returns-in-Ok c = ap (or_other spec.settings) (sym c.in-Ok.ensures.ok ∙ known)
