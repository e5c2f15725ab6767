use Rattle.std.proofs.Common.{◌≡◌, ◌∙◌, ap, sym, None, Some, length}
use Rattle.xml_subset.specs.Cut.{without_white}
use Rattle.xml_subset.specs.Tag.{attribute, tag_end}
use Rattle.xml_subset.proofs.TagSteps.{attribute_less, tag_rest-end, tag_rest-more}
use Rattle.xml_subset.proofs.tag.tag_rest.Goals as goal

pub returns-in-Some : goal.returns-in-Some
returns-in-Some c =
    let text = c.attributes.text.now in
    let ends : tag_end (without_white text) ≡ Some (c.in-Some.end.0, c.in-Some.end.1.now)
    = ap tag_end (sym c.without_white-more.ensures) ∙ sym c.in-Some.ensures in
    sym (tag_rest-end (length text) text (c.in-Some.end.0, c.in-Some.end.1.now) ends) ∙ c.attributes.invariant

pub attributes-smaller : goal.attributes-smaller
attributes-smaller c =
    let text = c.attributes.text.now in
    let found : attribute (without_white text) ≡ Some c.in_ok-text.text.now
    = ap attribute (sym c.without_white-more.ensures) ∙ sym c.in_ok-text.ensures in
    attribute_less text c.in_ok-text.text.now (sym c.begins_white.ensures ∙ c.if-not-begins_white.false) found

pub attributes-preserved : goal.attributes-preserved
attributes-preserved c =
    let text = c.attributes.text.now in
    let found : attribute (without_white text) ≡ Some c.in_ok-text.text.now
    = ap attribute (sym c.without_white-more.ensures) ∙ sym c.in_ok-text.ensures in
    let goes_on : tag_end (without_white text) ≡ None
    = ap tag_end (sym c.without_white-more.ensures) ∙ sym c.in_default.ensures in
    sym (tag_rest-more text c.in_ok-text.text.now goes_on (sym c.begins_white.ensures ∙ c.if-not-begins_white.false) found)
    ∙ c.attributes.invariant
