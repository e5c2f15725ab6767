-- What stands at a path, beside a content.
use Rattle.std.specs.Prelude.{if◌then◌else◌, Option, Some, None}
use Rattle.repo_model.specs.declared.print.Print.{Print}
use Rattle.repo_model.specs.Data.{Row, Phase, listed, fading, is_same_print}
use Rattle.ordered_rows.specs.declared.standings.Standing.{Standing}
use Rattle.ordered_rows.specs.declared.standings.Standing.TheVariants as stands

abbrev pub standing_by : Phase → Standing
standing_by listed = stands.Same
standing_by (fading since) = stands.Unlisted

-- what stands at a path, beside a content of a fingerprint
abbrev pub standing : Print → Option Row → Standing
standing sent None = stands.Free
standing sent (Some row) = if is_same_print row.blob.print sent then standing_by row.phase else stands.Other row.blob.print
