use Rattle.std.proofs.Common.{map, sym, ap, ◌∙◌}
use Rattle.mvn_coords.specs.Kind.{kind}
use Rattle.group_view.specs.Members.{next}
use Rattle.group_laws.specs.Seen.{seen_of, stance_of}
use Rattle.group_laws.proofs.Turns.{file-turn}
use Rattle.repo_model.specs.Turn.{each_seen}
use Rattle.repo_parts.proofs.GroupLemmas.{turn-seen}
use Rattle.repo_parts.proofs.groups.file_in_group.Goals as goal

pub returns-in-Nothing : goal.returns-in-Nothing
returns-in-Nothing g c = λ s goods.
    let asked = c.args.asked.now in
    let seens = each_seen s asked.moment asked.tried.now asked.path.now (kind asked.path.now) 0 c.args.members.now in
    let turn = c.in_ok-place.ensures s goods ∙ ap (λ b. next b (map stance_of seens)) c.requires in
    sym (file-turn seens ∙ ap (seen_of seens) (sym turn ∙ c.in-Nothing.is))

pub returns-in-Ask : goal.returns-in-Ask
returns-in-Ask g c = λ s goods.
    let asked = c.args.asked.now in
    let seens = each_seen s asked.moment asked.tried.now asked.path.now (kind asked.path.now) 0 c.args.members.now in
    let turn = c.in_ok-place.ensures s goods ∙ ap (λ b. next b (map stance_of seens)) c.requires in
    rw (file-turn seens ∙ ap (seen_of seens) (sym turn) ∙ turn-seen seens c.in_ok-place.field-0 c.in-Ask.place c.in-Ask.is) (c.seen_at_place.ensures s goods)
