use Rattle.std.proofs.Common.{◌≡◌, refl, sym, ap, ◌∙◌}
use Rattle.mvn_coords.specs.Kind.{kind}
use Rattle.group_laws.specs.Seen.{stance_of}
use Rattle.repo_model.specs.Proxies.{decided, subject_of}
use Rattle.repo_model.specs.State.{is_among}
use Rattle.repo_model.specs.Turn.{stepped}
use Rattle.repo_model.specs.declared.step.Step.TheVariants.{Serve}
use Rattle.repo_parts.proofs.MemberLemmas.{serves-so}
use Rattle.repo_parts.proofs.members.stance_of_proxy.Goals as goal

pub returns-in-Serve : goal.returns-in-Serve
returns-in-Serve g c =
    let p = c.args.proxy.now in
    let asked = c.args.asked.now in
    let k = kind asked.path.now in
    let at = subject_of asked.path.now k in
    let tried = is_among c.args.member asked.tried.now in
    let decides : decided p asked.moment tried at ≡ Serve = rw (← c.has_tried.ensures) (sym c.decide.ensures ∙ c.in-Serve.is) in
    sym (ap (λ step. stance_of (stepped c.args.member p at k step)) decides ∙ serves-so p asked.moment tried asked.path.now k refl decides)
