use Rattle.std.proofs.Common.{List, ℕ, cond, bytes_eq, sym, ap, ◌∙◌, subst}
use Rattle.std.specs.Prelude.{IsSome}
use Rattle.kept_docs.specs.Kept.{document_in, kept_at, place_at}
use Rattle.kept_docs.proofs.PageLemmas.{placed-pop, room-last, room-left}
use Rattle.kept_docs.proofs.docs.Docs.place.Goals as goal

pub set-requires : goal.set-requires
set-requires c =
    subst (λ (t : List ℕ). IsSome (place_at t c.loop-page.self)) (sym c.as_str.ensures.value)
    (room-last c.loop-page.self c.loop-page.pages.items c.pop.new.self.items c.in-Some.page c.in-Some.ensures.items c.loop-page.invariant.room)

pub loop-page-preserved : goal.loop-page-preserved
loop-page-preserved c =
    let page = c.in-Some.page in
    let old = c.loop-page.self in
    let new = c.set.new.self in
    let all = c.loop-page.pages.items in
    let rest = c.pop.new.self.items in
    record {
      room = room-left old new all rest page c.in-Some.ensures.items c.set.ensures.places c.loop-page.invariant.room;
      same = λ text.
          placed-pop text old new all rest page c.in-Some.ensures.items
          (c.set.ensures.set text ∙ ap (λ t. cond (bytes_eq text t) (document_in page.kept) (kept_at text old)) c.as_str.ensures.value)
          ∙ c.loop-page.invariant.same text;
    }
