use Rattle.toml.specs.View.{table_view}
use Rattle.repo_config.proofs.Shapes.{form_of}
use Rattle.repo_config.proofs.settings.settings_in.Goals as goal

pub invariant_of-result : goal.invariant_of-result
invariant_of-result c =
    form_of (table_view c.args.document.now) c.in_ok-parts.parts c.in_ok-parts.ensures.ok c.in_ok-check_keys.ensures.ok
    c.in_ok-check_parts.ensures.ok
