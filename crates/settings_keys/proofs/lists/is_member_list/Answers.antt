use Rattle.settings_keys.proofs.Items.{member_list-view}
use Rattle.settings_keys.proofs.lists.is_member_list.Goals as goal

pub returns-then-not-is_member_count : goal.returns-then-not-is_member_count
returns-then-not-is_member_count c =
    rw (
      member_list-view _ c.in-Some.items.now c.in-Some.ensures.0 c.in-Some.ensures.1,
      ← c.is_member_count.ensures,
      c.if-not-is_member_count.true,
    )

pub returns-then-not-are_ids : goal.returns-then-not-are_ids
returns-then-not-are_ids c =
    rw (
      member_list-view _ c.in-Some.items.now c.in-Some.ensures.0 c.in-Some.ensures.1,
      ← c.is_member_count.ensures,
      c.if-not-is_member_count.false,
      ← c.are_ids.ensures,
      c.if-not-are_ids.true,
    )

pub returns : goal.returns
returns c =
    rw (
      member_list-view _ c.in-Some.items.now c.in-Some.ensures.0 c.in-Some.ensures.1,
      ← c.is_member_count.ensures,
      c.if-not-is_member_count.false,
      ← c.are_ids.ensures,
      c.if-not-are_ids.false,
    ) c.are_distinct.ensures
