use Rattle.std.proofs.Common.{sym, ◌∙◌}
use Rattle.std.specs.Str.{bytes_eq}
use Rattle.settings_keys.proofs.Items.{some_text}
use Rattle.settings_keys.proofs.lists.is_again.Goals as goal

pub returns-in-Some : goal.returns-in-Some
returns-in-Some c =
    rw (← c.in-Some.ensures)
    (c.is_among.ensures ∙ sym (some_text (λ other. bytes_eq other c.in-Some.text.now) c.args.items.now))
