use Rattle.std.proofs.Common.{◌≤◌, ◌++◌, ◌∷◌, [], length, take, sym, ap, ◌∙◌, subst, arith}
use Rattle.std.proofs.lemmas.List.{take_all}
use Rattle.mvn_coords.specs.Kind.{kind}
use Rattle.group_view.specs.Members.{next}
use Rattle.hosted_repo.specs.Seens.{is_of_document}
use Rattle.repo_model.specs.Turn.{each_seen, member_seen}
use Rattle.repo_parts.specs.Looks.{AreStances, IsStance}
use Rattle.repo_parts.proofs.GroupLemmas.{next-so, seens-at, stances-more}
use Rattle.repo_parts.proofs.groups.turn_of.Goals as goal

pub loop-member-preserved : goal.loop-member-preserved
loop-member-preserved g c = λ s goods.
    let asked = c.args.asked.now in
    let k = kind asked.path.now in
    let of_document = is_of_document k in
    let before = each_seen s asked.moment asked.tried.now asked.path.now k 0 (take c.loop-member.member c.args.members.now) in
    let seen = member_seen s asked.moment asked.tried.now asked.path.now k c.loop-member.member c.index-members-member.result in
    let does : IsStance of_document seen c.stance_of_member.result =
    subst (λ id. IsStance of_document (member_seen s asked.moment asked.tried.now asked.path.now k c.loop-member.member id) c.stance_of_member.result) c.as_str.ensures (c.stance_of_member.ensures s goods) in
    rw (seens-at s asked.moment asked.tried.now asked.path.now k c.loop-member.member c.args.members.now c.index-members-member.result c.loop-member-test.true c.index-members-member.is)
    (subst (AreStances of_document (before ++ seen ∷ [])) (sym c.in_ok-push.ensures.items)
    (stances-more of_document before c.loop-member.stances.items seen c.stance_of_member.result (c.loop-member.invariant s goods) does))

pub returns : goal.returns
returns g c = λ s goods.
    let asked = c.args.asked.now in
    let k = kind asked.path.now in
    let members = c.args.members.now in
    let far : length members ≤ c.loop-member.member = omega (arith, c.loop-member-test.false) in
    let all = subst (λ ids. AreStances (is_of_document k) (each_seen s asked.moment asked.tried.now asked.path.now k 0 ids) c.loop-member.stances.items) (take_all c.loop-member.member members far) (c.loop-member.invariant s goods) in
    c.next.ensures
    ∙ ap (λ b. next b c.deref.result.now) c.is_of_document.ensures
    ∙ ap (λ stances. next (is_of_document k) stances) c.deref.ensures.value
    ∙ next-so (is_of_document k) (each_seen s asked.moment asked.tried.now asked.path.now k 0 members) c.loop-member.stances.items all
