use Rattle.std.proofs.Common.{◌≡◌, Some, sym, ap, ◌∙◌}
use Rattle.std.specs.List.{list_any}
use Rattle.mvn_coords.specs.Layout.{Directory}
use Rattle.repo_model.specs.Document.{listed_in}
use Rattle.repo_model.specs.Purge.{builds_of, due, is_same_build, snapshot_directory}
use Rattle.snapshot_purge.proofs.AgeLemmas.{due_same}
use Rattle.ordered_rows.specs.Rows.{shown_rows}
use Rattle.directory_rows.proofs.dues.known_of.Goals as goal

pub returns-clause-due : goal.returns-clause-due
returns-clause-due g c b =
    let rule = c.args.rule.now in
    let rows = shown_rows c.args.rows.now.entries in
    let group = c.in_ok-group.ensures.ok ∙ c.group.ensures in
    let artifact = c.in_ok-artifact.ensures.ok ∙ c.artifact.ensures in
    let version = c.in_ok-version.ensures.ok ∙ c.dir.ensures in
    let here : Directory = record { group = c.in_ok-group.group; artifact = c.in_ok-artifact.artifact; version = Some c.in_ok-version.version } in
    let same : here ≡ snapshot_directory c.args.c.now = λ i. record { group = group i; artifact = artifact i; version = Some (version i) } in
    c.in_ok-due.ensures b
    ∙ due_same b c.in_ok-ages.ages (builds_of (listed_in (snapshot_directory c.args.c.now) rows)) rule.keep_count rule.keep_days c.args.now c.in_ok-ages.ensures
    ∙ ap (λ d. list_any (is_same_build b) (due (builds_of (listed_in d rows)) rule.keep_count rule.keep_days c.args.now)) (sym same)
