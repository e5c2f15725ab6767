use Rattle.std.proofs.Common.{◌≡◌, true, map, sym, ap, ◌∙◌, subst}
use Rattle.std.specs.Prelude.{IfOk}
use Rattle.mvn_coords.specs.Kind.{kind}
use Rattle.group_view.specs.Members.{next}
use Rattle.group_view.specs.declared.stances.Turn.TheVariants.{Ask}
use Rattle.group_laws.specs.Seen.{stance_of}
use Rattle.hosted_repo.specs.Seens.{is_of_document}
use Rattle.repo_model.specs.Proxies.{subject_of}
use Rattle.repo_model.specs.Turn.{Seen, document_shown, each_seen, merged_of, or_nothing}
use Rattle.repo_parts.specs.Looks.{shown_looked}
use Rattle.repo_parts.proofs.GroupLemmas.{all-seen, asked-seen, none-asks}
use Rattle.repo_parts.proofs.MemberLemmas.{of-document}
use Rattle.repo_parts.proofs.groups.document_in_group.Goals as goal

pub returns-in-Ask-clause-seen : goal.returns-in-Ask-clause-seen
returns-in-Ask-clause-seen g c = λ s goods.
    let asked = c.args.asked.now in
    let k = kind asked.path.now in
    let members = c.args.members.now in
    let seens = each_seen s asked.moment asked.tried.now asked.path.now k 0 members in
    let rest = or_nothing (document_shown k) (merged_of s asked.moment asked.tried.now (subject_of asked.path.now k) c.args.dir.now members) in
    let doc : is_of_document k ≡ true = ap is_of_document c.requires.path ∙ of-document c.args.dir.now c.args.side in
    let turn : next true (map stance_of seens) ≡ Ask c.in-Ask.place = ap (λ b. next b (map stance_of seens)) (sym doc) ∙ sym (c.in_ok-place.ensures s goods) ∙ c.in-Ask.is in
    rw (asked-seen seens c.in-Ask.place rest turn) (c.seen_at_place.ensures s goods)

pub document_on_shelf-requires-clause-quiet : goal.document_on_shelf-requires-clause-quiet
document_on_shelf-requires-clause-quiet g c = λ s goods.
    let asked = c.args.asked.now in
    let k = kind asked.path.now in
    let seens = each_seen s asked.moment asked.tried.now asked.path.now k 0 c.args.members.now in
    let doc : is_of_document k ≡ true = ap is_of_document c.requires.path ∙ of-document c.args.dir.now c.args.side in
    none-asks seens c.in_ok-place.field-0 (c.in_ok-place.ensures s goods ∙ ap (λ b. next b (map stance_of seens)) doc) (λ place is. c.in_default.not-Ask place is)

pub returns-clause-seen : goal.returns-clause-seen
returns-clause-seen g c = λ s goods.
    let asked = c.args.asked.now in
    let k = kind asked.path.now in
    let members = c.args.members.now in
    let seens = each_seen s asked.moment asked.tried.now asked.path.now k 0 members in
    let rest = or_nothing (document_shown k) (merged_of s asked.moment asked.tried.now (subject_of asked.path.now k) c.args.dir.now members) in
    let doc : is_of_document k ≡ true = ap is_of_document c.requires.path ∙ of-document c.args.dir.now c.args.side in
    let turn = c.in_ok-place.ensures s goods ∙ ap (λ b. next b (map stance_of seens)) doc in
    subst (λ (seen : Seen). IfOk c.document_on_shelf.result (λ l. shown_looked l ≡ seen)) (sym (all-seen seens rest c.in_ok-place.field-0 turn (λ place is. c.in_default.not-Ask place is)))
    (c.document_on_shelf.ensures.seen s goods)
