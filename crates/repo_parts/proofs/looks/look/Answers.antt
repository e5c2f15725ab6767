use Rattle.std.proofs.Common.{refl, sym, subst}
use Rattle.repo_model.specs.Shown.{shown_reply}
use Rattle.repo_model.specs.State.{State}
use Rattle.repo_model.specs.Turn.{Seen, shows}
use Rattle.repo_parts.specs.Looks.{IsDueOr, IsLendable}
use Rattle.repo_parts.proofs.LendLemmas.{look-lendable}
use Rattle.repo_parts.proofs.ShelfLooks.{bare}
use Rattle.repo_parts.proofs.looks.look.Goals as goal

pub answer-requires : goal.answer-requires
answer-requires g c =
    let s : State = bare c.args.goods.now.repos.now c.args.goods.now.proxies.now in
    subst (IsLendable c.args.yard.now.kept) (sym (c.in-Ok.ensures.seen s (record { hosted_so = refl; proxies_so = refl })))
    (look-lendable c.args.yard.now.kept s c.requires.used c.requires.cached c.args.settings.now c.args.asked.now.moment c.args.id.now c.args.asked.now.tried.now c.args.asked.now.path.now)

pub returns-in-Ok-clause-reply : goal.returns-in-Ok-clause-reply
returns-in-Ok-clause-reply g c = λ s has.
    subst (λ (seen : Seen). IsDueOr (shows c.args.settings.now c.args.yard.now.yard seen).reply (shown_reply c.answer.result)) (c.in-Ok.ensures.seen s has) c.answer.ensures.reply
