use Rattle.std.proofs.Common.{◌≡◌, ◌∙◌, ap, sym, subst}
use Rattle.http_wire.specs.declared.faults.HeadFault.TheVariants.{TooLong}
use Rattle.http_wire.specs.Front.{Bad, Clean, Cut}
use Rattle.http_wire.specs.Held.{IsHeld}
use Rattle.http_wire.specs.Parsed.{IsTaken}
use Rattle.http_wire.proofs.FrontLemmas.{front_end, front_full}
use Rattle.http_wire.proofs.WireLemmas.{told_end, told_front, told_whole, unfinished_clean, unfinished_cut}
use Rattle.http_wire.proofs.wires.Wire.next_request.Goals as goal

pub returns-in-Ok-clause-request : goal.returns-in-Ok-clause-request
returns-in-Ok-clause-request g c =
    let t = g.S.Tells in
    let taken = subst (IsTaken c.find_head.new.self c.take_head.new.self) c.in-Ok.is c.in_ok-request-in-Head.ensures.taken in
    told_whole c.find_head.new.self c.take_head.new.self (t.left c.find_head.new.source) _ c.in-Ok.request c.in_ok-start.ensures.unread taken.0

pub returns-in-Ok-clause-spelled : goal.returns-in-Ok-clause-spelled
returns-in-Ok-clause-spelled g c =
    (subst (IsTaken c.find_head.new.self c.take_head.new.self) c.in-Ok.is c.in_ok-request-in-Head.ensures.taken).1

pub returns-in-Full-clause-refused : goal.returns-in-Full-clause-refused
returns-in-Full-clause-refused g c = λ fault e.
    let t = g.S.Tells in
    let full = subst (IsHeld c.find_head.new.self (t.left c.find_head.new.source)) c.in-Full.is c.in_ok-start.ensures.found in
    let same : TooLong ≡ fault = cc in
    told_front c.find_head.new.self (t.left c.find_head.new.source) _ (Bad fault) c.in_ok-start.ensures.unread
    (λ more. front_full c.find_head.new.self more full.0 full.1 ∙ ap Bad same)

pub returns-then-is_blank-clause-clean : goal.returns-then-is_blank-clause-clean
returns-then-is_blank-clause-clean g c =
    let t = g.S.Tells in
    let ended = subst (IsHeld c.find_head.new.self (t.left c.find_head.new.source)) c.in-End.is c.in_ok-start.ensures.found in
    told_end c.find_head.new.self (t.left c.find_head.new.source) _ Clean c.in_ok-start.ensures.unread ended.1
    (front_end c.find_head.new.self ended.0 ended.2 ∙ unfinished_clean c.find_head.new.self (sym c.if-is_blank.ensures))

pub returns-else-is_blank-clause-torn : goal.returns-else-is_blank-clause-torn
returns-else-is_blank-clause-torn g c = λ e.
    let t = g.S.Tells in
    let ended = subst (IsHeld c.find_head.new.self (t.left c.find_head.new.source)) c.in-End.is c.in_ok-start.ensures.found in
    told_end c.find_head.new.self (t.left c.find_head.new.source) _ Cut c.in_ok-start.ensures.unread ended.1
    (front_end c.find_head.new.self ended.0 ended.2 ∙ unfinished_cut c.find_head.new.self (sym c.if-is_blank.ensures))
