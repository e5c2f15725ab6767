use Rattle.std.proofs.Common.{◌∷◌, [], ◌++◌, List, ℕ, take, string_bytes, sym, ap, ◌∙◌, subst}
use Rattle.std.specs.Prelude.{IsSome}
use Rattle.std.proofs.lemmas.List.{take_more}
use Rattle.kept_docs.specs.Kept.{place_at}
use Rattle.kept_docs.specs.Placed.{HasRoom}
use Rattle.kept_docs.specs.declared.pages.Page.{Page}
use Rattle.kept_docs.proofs.PageLemmas.{room-more}
use Rattle.kept_docs.proofs.docs.Docs.make_room.Goals as goal

pub loop-page-preserved : goal.loop-page-preserved
loop-page-preserved c =
    let i = c.loop-page.page-index in
    let pages = c.args.pages.now in
    let page = c.page-item.result in
    let new = c.add_place.new.self in
    let one : IsSome (place_at (string_bytes page.path) new) = subst (λ (t : List ℕ). IsSome (place_at t new)) c.as_str.ensures.value c.in_ok-add_place.ensures.place in
    record {
      same = λ text. c.add_place.ensures.same text ∙ c.loop-page.invariant.same text;
      room = subst (HasRoom new) (ap (λ (p : Page). take i pages ++ p ∷ []) c.page-item.is ∙ sym (take_more pages i page c.loop-page-test.true))
          (room-more c.loop-page.self new (take i pages) page c.add_place.ensures.kept c.loop-page.invariant.room one);
    }
