use Rattle.std.proofs.Common.{◌≡◌, ◌∙◌, inl, sym, ap, subst}
use Rattle.repo_course.specs.Acts.{IsAfterFetch, left_of, looks_again, looks_next}
use Rattle.repo_course.specs.Course.{Course, Fetch, fetch_fault, fetched}
use Rattle.repo_course.proofs.fetching.after_fetch.Goals as goal

pub returns-in-Ok-clause-left : goal.returns-in-Ok-clause-left
returns-in-Ok-clause-left g c =
    let a = c.args in
    let next_is : looks_next a.mode c.in-Ok.next ≡ looks_again a.mode a.so_far a.again a.plan.member (fetch_fault c.in-Some.outcome) =
    c.in-Ok.ensures.left a.mode ∙ ap (looks_again a.mode a.so_far a.again a.plan.member) c.fetch_fault-why.ensures in
    subst (λ (f : Fetch). IsAfterFetch a.mode a.so_far a.again a.plan f (left_of a.mode c.store_or_land.result)) (sym c.in-Some.is)
    (inl (c.store_or_land.ensures.left ∙ ap (λ (course : Course). fetched a.mode a.plan course c.in-Some.outcome) next_is))
