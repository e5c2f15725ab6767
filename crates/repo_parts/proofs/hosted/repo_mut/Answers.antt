use Rattle.std.proofs.Common.{◌≡◌, Some, None, refl, sym, ap, ◌∙◌}
use Rattle.std.specs.List.{position}
use Rattle.std.specs.Vec.{with_item}
use Rattle.repo_model.specs.Data.{Hosted}
use Rattle.repo_model.specs.State.{is_repository}
use Rattle.repo_restart.proofs.PlaceLemmas.{find-at}
use Rattle.repo_parts.proofs.PlacedLemmas.{none-there, place-so}
use Rattle.repo_parts.proofs.hosted.repo_mut.Goals as goal

pub unreachable-requires : goal.unreachable-requires
unreachable-requires g c =
    let items = c.args.repos.now.items in
    let none : position (is_repository c.args.id.now) items ≡ None = rw c.deref.ensures.value at (sym c.in-None.ensures) in
    none-there (is_repository c.args.id.now) items c.requires none

pub returns : goal.returns
returns g c =
    let p = is_repository c.args.id.now in
    let repos = c.args.repos.now in
    let there : position p repos.items ≡ Some c.in-Some.place = rw c.deref.ensures.value at (sym c.in-Some.ensures) in
    ((refl, λ w. ap (λ i. with_item repos i w) (sym (place-so p repos.items c.in-Some.place there))), find-at p repos.items c.in-Some.place c.index_mut.result.now there ∙ ap (λ (h : Hosted). Some h) (sym c.index_mut.ensures.value))
