use Rattle.std.proofs.Common.{◌≡◌, ◌≤◌, [], ◌∷◌, ◌++◌, map, sym, ap, ◌∙◌, subst}
use Rattle.std.specs.List.{AllByRecursion}
use Rattle.std.specs.List.Sorted.{IsStrictlySortedBy}
use Rattle.std.specs.Map.Iter.{deref_pair}
use Rattle.std.proofs.lemmas.List.{map-append}
use Rattle.std.proofs.lemmas.Map.Iter.{iter_end, rest_more, rest_so_far}
use Rattle.repo_model.specs.History.{latest_moment}
use Rattle.repo_model.specs.Tables.{RecordedDocument}
use Rattle.row_tables.specs.Stored.{shown_document, shown_documents}
use Rattle.repo_laws.specs.Holds.{document_cmp}
use Rattle.repo_restart.specs.Taking.{with_documents, with_taken_document}
use Rattle.repo_restart.proofs.DocumentLemmas.{none-yet, taken-more}
use Rattle.repo_restart.proofs.FrontLemmas.{among, in_front}
use Rattle.repo_restart.proofs.proxies.take_documents.Goals as goal

pub loop-place-init : goal.loop-place-init
loop-place-init g c = none-yet c.args.proxies.now.items c.requires.none

pub take_document-requires : goal.take_document-requires
take_document-requires g c =
    let d = shown_document (c.in-Some.place.now, c.in-Some.kept.now) in
    let front = shown_documents (map deref_pair c.loop-place.yielded) in
    let rest = shown_documents c.next.new.self in
    let given = c.into_iter-place-iterator.ensures.into_iter_gives in
    let next = rest_more deref_pair c.loop-place.place-iterator c.next.new.self c.next.result (c.in-Some.place, c.in-Some.kept) c.in-Some.is c.next.ensures.steps in
    let all : c.args.tables.now.documents ≡ front ++ d ∷ rest =
    sym c.documents-place-items.ensures
    ∙ ap shown_documents (sym given.0 ∙ rest_so_far deref_pair c.loop-place.yielded c.into_iter-place-iterator.result c.loop-place.place-iterator c.loop-place.yielded_by ∙ ap (λ es. map deref_pair c.loop-place.yielded ++ es) next)
    ∙ map-append shown_document (map deref_pair c.loop-place.yielded) ((c.in-Some.place.now, c.in-Some.kept.now) ∷ c.next.new.self) in
    among (λ (e : RecordedDocument). e.checked ≤ latest_moment) front d rest (subst (AllByRecursion (λ (e : RecordedDocument). e.checked ≤ latest_moment)) all c.requires.in_time)

pub loop-place-preserved : goal.loop-place-preserved
loop-place-preserved g c =
    let d = shown_document (c.in-Some.place.now, c.in-Some.kept.now) in
    let front = shown_documents (map deref_pair c.loop-place.yielded) in
    let rest = shown_documents c.next.new.self in
    let given = c.into_iter-place-iterator.ensures.into_iter_gives in
    let next = rest_more deref_pair c.loop-place.place-iterator c.next.new.self c.next.result (c.in-Some.place, c.in-Some.kept) c.in-Some.is c.next.ensures.steps in
    let all : c.args.tables.now.documents ≡ front ++ d ∷ rest =
    sym c.documents-place-items.ensures
    ∙ ap shown_documents (sym given.0 ∙ rest_so_far deref_pair c.loop-place.yielded c.into_iter-place-iterator.result c.loop-place.place-iterator c.loop-place.yielded_by ∙ ap (λ es. map deref_pair c.loop-place.yielded ++ es) next)
    ∙ map-append shown_document (map deref_pair c.loop-place.yielded) ((c.in-Some.place.now, c.in-Some.kept.now) ∷ c.next.new.self) in
    let more : shown_documents (map deref_pair (c.loop-place.yielded ++ (c.in-Some.place, c.in-Some.kept) ∷ [])) ≡ front ++ d ∷ [] =
    ap shown_documents (map-append deref_pair c.loop-place.yielded ((c.in-Some.place, c.in-Some.kept) ∷ []))
    ∙ map-append shown_document (map deref_pair c.loop-place.yielded) ((c.in-Some.place.now, c.in-Some.kept.now) ∷ []) in
    let before = in_front document_cmp front d rest (subst (IsStrictlySortedBy document_cmp) all c.requires.rising) in
    c.in_ok-take_document.ensures
    ∙ ap (with_taken_document d) c.loop-place.invariant
    ∙ taken-more d front before c.args.proxies.now.items c.requires.apart
    ∙ ap (λ documents. with_documents documents c.args.proxies.now.items) (sym more)

pub returns : goal.returns
returns g c =
    let es = c.documents-place-items.result.now.entries in
    let given = c.into_iter-place-iterator.ensures.into_iter_gives in
    let all = (iter_end deref_pair es c.loop-place.yielded c.into_iter-place-iterator.result c.loop-place.place-iterator c.next.new.self c.next.result given.0 c.loop-place.yielded_by c.in-None.is c.next.ensures.steps).0 in
    c.loop-place.invariant ∙ ap (λ documents. with_documents documents c.args.proxies.now.items) (ap shown_documents all ∙ c.documents-place-items.ensures)
