use Rattle.std.proofs.Common.{◌≡◌, ◌∙◌, sym, true, Some, arith}
use Rattle.xml_subset.specs.Document.{may_stand}
use Rattle.xml_subset.specs.Token.{Cut, first_token, shown}
use Rattle.xml_subset.specs.Tree.{begun, has_begun, names}
use Rattle.std.proofs.lemmas.Bool.Decides.{nat_tests}
use Rattle.xml_subset.proofs.Reading.{elements_taken, fault_of, fault_taken, first_token_less, read_unfinished, read_whole}
use Rattle.xml_subset.proofs.document.elements.Goals as goal

pub loop-token-smaller : goal.loop-token-smaller
loop-token-smaller c =
    first_token_less c.loop-token.rest.now (shown c.in-Some.token, c.in-Some.more.now) (sym c.in-Some.ensures)

pub loop-token-preserved : goal.loop-token-preserved
loop-token-preserved c =
    let cut : Cut = (shown c.in-Some.token, c.in-Some.more.now) in
    let found : first_token c.loop-token.rest.now ≡ Some cut = sym c.in-Some.ensures in
    let old = c.loop-token.tree in
    let new = c.take.new.self in
    let may : may_stand c.args.root.now (names old.open.items) (has_begun (begun old)) cut.0 ≡ true = sym c.may_stand.ensures ∙ c.if-not-may_stand.false in
    record {
      fault = fault_taken c.args.root.now old new c.loop-token.rest.now cut found may c.in_ok-take.ensures ∙ c.loop-token.invariant.fault;
      elements = elements_taken old new c.loop-token.rest.now cut found c.in_ok-take.ensures ∙ c.loop-token.invariant.elements;
      sound = c.in_ok-take.ensures.sound;
      short = omega (arith, first_token_less c.loop-token.rest.now cut found);
    }

pub returns-then-not-is_whole-clause-fault : goal.returns-then-not-is_whole-clause-fault
returns-then-not-is_whole-clause-fault c =
    fault_of _ _ _ c.malformed-then-not-is_whole.ensures
    (read_unfinished c.args.root.now c.args.text.now c.args.rest.now c.loop-token.rest.now c.loop-token.tree (grind (arith, nat_tests))
    (sym (c.is_whole.ensures.value c.args.root.now) ∙ c.if-not-is_whole.true) c.loop-token.invariant.fault)

pub returns-clause-elements : goal.returns-clause-elements
returns-clause-elements c =
    read_whole c.args.root.now c.args.text.now c.args.rest.now c.loop-token.rest.now c.loop-token.tree (grind (arith, nat_tests)) c.if-not-is_whole.ensures.closed
    (sym (c.is_whole.ensures.value c.args.root.now) ∙ c.if-not-is_whole.false) c.loop-token.invariant.fault c.loop-token.invariant.elements
