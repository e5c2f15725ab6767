use Rattle.std.proofs.Common.{◌≡◌, ◌∙◌, ap, refl, sym, subst, true}
use Rattle.std.specs.Prelude.{nat_lt}
use Rattle.std.specs.List.{list_all}
use Rattle.repo_model.specs.Tables.{RecordedSession}
use Rattle.row_tables.specs.Applying.{AreRising}
use Rattle.row_tables.specs.Stored.{shown_sessions}
use Rattle.row_tables.proofs.Kept.{rising_push, shown_push}
use Rattle.row_tables.proofs.tables.Tables.open_session.Goals as goal

pub invariant_of-self-2 : goal.invariant_of-self-2
invariant_of-self-2 c =
    let fits : list_all (λ (s : RecordedSession). nat_lt s.number c.args.number) (shown_sessions c.self.inside.sessions.items) ≡ true =
    ap (λ ss. list_all (λ (s : RecordedSession). nat_lt s.number c.args.number) (shown_sessions ss)) (sym c.deref.ensures.value) ∙ sym c.is_next.ensures ∙ c.if-not-is_next.false in
    (c.self.invariant.0, subst AreRising (sym (ap shown_sessions c.in_ok-push.ensures.items ∙ shown_push c.self.inside.sessions.items _)) (rising_push c.args.number _ _ refl c.self.invariant.1 fits))
