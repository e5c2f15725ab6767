use Rattle.std.proofs.Common.{◌≡◌, true, false, cond, Option, Some, None, sym, ap, ◌∙◌, refl}
use Rattle.std.specs.Prelude.{is_some, is_none}
use Rattle.repo_model.specs.declared.session.SessionResult.{SessionResult}
use Rattle.deploy_session.specs.Shown.{shown_session}
use Rattle.deploy_session.proofs.KnownLemmas.{found_open, if_open}
use Rattle.deploy_session.proofs.known.open_of.Goals as goal

none_so : (o : Option SessionResult) → is_some o ≡ false → is_none o ≡ true
none_so None h = refl
none_so (Some r) h = sym h

some_so : (o : Option SessionResult) → is_some o ≡ true → is_none o ≡ false
some_so None h = sym h
some_so (Some r) h = refl

pub returns-in_default : goal.returns-in_default
returns-in_default g c =
    ap if_open c.in_default.ensures ∙ sym (found_open c.args.number c.args.known.now.entries c.len-len.ensures.ordered)

pub returns-then-is_some : goal.returns-then-is_some
returns-then-is_some g c =
    let s = shown_session (c.args.number, c.in-Some.session.now) in
    sym (ap (λ b. cond b (Some s) None) (some_so c.in-Some.session.now.ended (sym c.is_some.ensures ∙ c.if-is_some.true)))
    ∙ ap if_open c.in-Some.ensures ∙ sym (found_open c.args.number c.args.known.now.entries c.len-len.ensures.ordered)

pub returns : goal.returns
returns g c =
    let s = shown_session (c.args.number, c.in-Some.session.now) in
    sym (ap (λ b. cond b (Some s) None) (none_so c.in-Some.session.now.ended (sym c.is_some.ensures ∙ c.if-is_some.false)))
    ∙ ap if_open c.in-Some.ensures ∙ sym (found_open c.args.number c.args.known.now.entries c.len-len.ensures.ordered)
