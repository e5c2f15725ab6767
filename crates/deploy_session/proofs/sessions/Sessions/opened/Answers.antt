use Rattle.std.proofs.Common.{List, Option, Some, None, sym, ap, ◌∙◌}
use Rattle.std.specs.Prelude.{find}
use Rattle.repo_model.specs.declared.session.SessionResult.{SessionResult}
use Rattle.repo_model.specs.State.{is_open_at}
use Rattle.deploy_session.specs.Known.{Known}
use Rattle.deploy_session.specs.Shown.{shown_files, shown_session, shown_sessions}
use Rattle.deploy_session.proofs.SessionLaws.{is_open_so}
use Rattle.deploy_session.proofs.sessions.Sessions.opened.Goals as goal

pub returns : goal.returns
returns g c =
    let s = c.in_ok-found.found.now in
    let n = c.args.session in
    let ss = shown_sessions c.self.inside.known.entries in
    let ended = (is_open_so n ss (shown_session (n, s)) (sym c.in_ok-found.ensures)).1 in
    ap (λ (repo : List _). Some (record { number = n; repo = repo; staged = shown_files s.files.entries; ended = None })) c.as_str.ensures
    ∙ sym (ap (λ (e : Option SessionResult). Some (record { number = n; repo = s.repo; staged = shown_files s.files.entries; ended = e })) ended)
    ∙ c.in_ok-found.ensures
    ∙ ap (λ (k : Known). find (is_open_at n) k.sessions) c.self.view_is
