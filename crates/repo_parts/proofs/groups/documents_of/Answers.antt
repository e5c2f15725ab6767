use Rattle.std.proofs.Common.{◌≡◌, ◌++◌, ◌∷◌, [], take, append-nil, sym, ap, ◌∙◌}
use Rattle.mvn_coords.specs.Kind.{kind}
use Rattle.repo_model.specs.Proxies.{subject_of}
use Rattle.repo_model.specs.Turn.{each_document, member_document, with_some}
use Rattle.repo_parts.proofs.GroupLemmas.{documents-at}
use Rattle.repo_parts.proofs.groups.documents_of.Goals.{in-Some+in_ok-push, in_default}
use Rattle.repo_parts.proofs.groups.documents_of.Goals as goal

pub loop-member-preserved : goal.loop-member-preserved
loop-member-preserved g c = λ s goods.
    let asked = c.args.asked.now in
    let at = subject_of asked.path.now (kind asked.path.now) in
    let d = c.args.dir.now in
    let i = c.loop-member.member in
    let before = each_document s asked.moment asked.tried.now at d 0 (take i c.args.members.now) in
    let here = member_document s asked.moment asked.tried.now at d i c.index-members-member.result in
    let more = documents-at s asked.moment asked.tried.now at d i c.args.members.now c.index-members-member.result c.loop-member-test.true c.index-members-member.is in
    let found : c.in_ok-doc.field-0 ≡ here = c.in_ok-doc.ensures s goods ∙ ap (λ id. member_document s asked.moment asked.tried.now at d i id) c.as_str.ensures in
    elim c.match-branch-2.branch [
      | (in-Some+in_ok-push w) ↦
          ap (λ v. v.items) w.docs-is
          ∙ w.in_ok-push.ensures.items
          ∙ ap (λ xs. xs ++ w.in-Some.doc ∷ []) (c.loop-member.invariant s goods)
          ∙ ap (λ o. before ++ with_some o []) (sym w.in-Some.is ∙ found)
          ∙ sym more
      | (in_default w) ↦
          ap (λ v. v.items) w.docs-is
          ∙ c.loop-member.invariant s goods
          ∙ sym (append-nil before)
          ∙ ap (λ o. before ++ with_some o []) (sym w.in_default.is ∙ found)
          ∙ sym more
    ]
