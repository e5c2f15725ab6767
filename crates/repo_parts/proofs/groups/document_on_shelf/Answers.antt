use Rattle.std.proofs.Common.{◌≡◌, Some, option_map, refl, sym, ap, ◌∙◌}
use Rattle.mvn_coords.specs.Kind.{kind}
use Rattle.mvn_metadata.specs.Document.{merge}
use Rattle.repo_model.specs.Proxies.{subject_of}
use Rattle.repo_model.specs.State.{State}
use Rattle.repo_model.specs.Turn.{document_shown, merged_of, or_nothing}
use Rattle.repo_parts.specs.Shelves.{documents_now}
use Rattle.repo_parts.proofs.ShelfLooks.{bare, merged-now, more-shelved, on-shelf, same-shelved}
use Rattle.written_docs.specs.declared.document.WrittenDoc.{WrittenDoc}
use Rattle.repo_parts.proofs.groups.document_on_shelf.Goals as goal

pub returns-in-Some-clause-seen : goal.returns-in-Some-clause-seen
returns-in-Some-clause-seen g c = λ s goods.
    let asked = c.args.asked.now in
    let k = kind asked.path.now in
    let d = c.args.dir.now in
    let doc = c.in-Some.kept.now.doc in
    let found : merged_of s asked.moment asked.tried.now (subject_of asked.path.now k) d c.args.members.now ≡ Some doc =
    on-shelf s c.args.goods.now.repos.now c.args.goods.now.proxies.now asked.moment asked.tried.now asked.path.now d c.args.side c.args.members.now c.args.shelf.now doc goods c.requires.shelved
    c.get.ensures.rule c.requires.path (c.requires.quiet s goods) (sym c.in-Some.ensures.document) in
    c.in_ok-document_shown.ensures d ∙ ap (λ one. document_shown one doc) (sym c.requires.path) ∙ ap (or_nothing (document_shown k)) (sym found)

pub returns-in_err-keep-clause-shelved : goal.returns-in_err-keep-clause-shelved
returns-in_err-keep-clause-shelved g c =
    same-shelved c.args.goods.now.repos.now c.args.goods.now.proxies.now c.args.members.now c.args.shelf.now c.keep.new.self c.in_err-keep.ensures.err c.requires.shelved

pub returns-clause-shelved : goal.returns-clause-shelved
returns-clause-shelved g c =
    let asked = c.args.asked.now in
    let hosted = c.args.goods.now.repos.now in
    let proxies = c.args.goods.now.proxies.now in
    let d = c.args.dir.now in
    let doc = c.in-Some-2.written.doc in
    let s : State = bare hosted proxies in
    let quiet = c.requires.quiet s (record { hosted_so = refl; proxies_so = refl }) in
    let merges = c.in_ok-written.ensures s (record { hosted_so = refl; proxies_so = refl }) in
    let made : merge (documents_now hosted proxies d c.args.members.now) ≡ Some doc =
    sym (merged-now s asked.moment asked.tried.now asked.path.now d c.args.side c.args.members.now c.get.ensures.rule c.requires.path quiet)
    ∙ sym merges ∙ ap (λ w. option_map (λ (one : WrittenDoc). one.doc) w) c.in-Some-2.is in
    more-shelved hosted proxies c.args.members.now c.args.shelf.now c.keep.new.self d doc c.get.ensures.rule c.in_ok-keep.ensures.ok made c.requires.shelved
