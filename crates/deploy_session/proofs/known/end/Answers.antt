use Rattle.std.proofs.Common.{[], Some, sym, ap, ◌∙◌}
use Rattle.repo_model.specs.Data as plain
use Rattle.deploy_session.specs.Shown.{shown_files, shown_sessions}
use Rattle.deploy_session.proofs.KnownLemmas.{written, unwritten, open_there}
use Rattle.deploy_session.proofs.known.end.Goals as goal

pub returns-in-Some : goal.returns-in-Some
returns-in-Some g c =
    let s = c.in-Some.session.now in
    let es = c.args.known.now.entries in
    let there = sym c.in-Some.ensures.value in
    ap shown_sessions (c.get_mut.follows.holds _).0
    ∙ written c.args.number (λ (t : plain.Session). record t { staged = []; ended = Some c.args.how }) es s _ there (open_there c.args.number es s c.get_mut.ensures.ordered there c.requires)
    (ap (λ fs. record { number = c.args.number; repo = s.repo; staged = shown_files fs; ended = Some c.args.how }) c.new.ensures.empty)

pub returns-in_default : goal.returns-in_default
returns-in_default g c =
    ap (λ m. shown_sessions m.entries) c.get_mut.follows.holds-at-none
    ∙ unwritten c.args.number (λ (t : plain.Session). record t { staged = []; ended = Some c.args.how }) c.args.known.now.entries (sym c.in_default.ensures.value)
