use Rattle.settings_keys.proofs.Items.{text_array-view}
use Rattle.settings_keys.proofs.lists.strings_in.Goals as goal

pub returns-then-not-are_strings : goal.returns-then-not-are_strings
returns-then-not-are_strings c =
    rw (
      text_array-view _ c.items_in-items.result.now c.items_in-items.ensures,
      ← c.is_array.ensures,
      c.if-not-is_array.false,
      ← c.are_strings.ensures,
      c.if-not-are_strings.true,
    )

pub returns : goal.returns
returns c = (
  c.items_in-items.ensures,
  rw (
    text_array-view _ c.items_in-items.result.now c.items_in-items.ensures,
    ← c.is_array.ensures,
    c.if-not-is_array.false,
    ← c.are_strings.ensures,
    c.if-not-are_strings.false,
  ),
)
