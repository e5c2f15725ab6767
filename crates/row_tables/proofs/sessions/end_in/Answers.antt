use Rattle.std.proofs.Common.{◌≡◌, ◌∙◌, ◌<◌, length, get_or, ap, sym, subst, None}
use Rattle.row_tables.proofs.Rising.{set_ended}
use Rattle.row_tables.specs.declared.sessions.SessionRow.{SessionRow}
use Rattle.row_tables.proofs.sessions.end_in.Goals as goal

pub returns-clause-after : goal.returns-clause-after
returns-clause-after c =
    let same = c.deref.ensures.value in
    let none : SessionRow = record { number = 0; result = None } in
    let within : c.in-Some.place < length c.args.sessions.now.items = subst (λ ss. c.in-Some.place < length ss) same c.in-Some.ensures.0 in
    let number : (get_or c.args.sessions.now.items c.in-Some.place none).number ≡ c.args.number = ap (λ ss. (get_or ss c.in-Some.place none).number) (sym same) ∙ c.in-Some.ensures.1 in
    set_ended c.args.number c.args.how c.args.sessions.now.items c.in-Some.place none c.requires within number
