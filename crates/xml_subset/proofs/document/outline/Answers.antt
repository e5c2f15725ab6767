use Rattle.std.proofs.Common.{◌≡◌, ap, sym, arith, length, Some}
use Rattle.xml_subset.proofs.Shorter.{without_declaration_shorter, without_mark_shorter}
use Rattle.xml_subset.specs.Document.{without_declaration}
use Rattle.xml_subset.proofs.document.outline.Goals as goal

pub elements-requires : goal.elements-requires
elements-requires c =
    let found : without_declaration c.without_mark-unmarked.result.now ≡ Some c.in-Some.rest.now = sym c.in-Some.ensures in
    omega (
      arith,
      without_declaration_shorter c.without_mark-unmarked.result.now c.in-Some.rest.now found,
      without_mark_shorter c.args.text.now,
      ap length c.without_mark-unmarked.ensures,
    )
