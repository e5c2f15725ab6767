-- What the repositories end as where one of them is lent.
use Rattle.std.specs.Prelude.{ℕ, List}
use Rattle.std.specs.Borrow.{Fml, Lends, MutBor, RattleType}
use Rattle.std.specs.List.{position_or_len}
use Rattle.std.specs.Vec.{with_item}
use Rattle.std.specs.contracts.alloc.Global as global
use Rattle.std.specs.contracts.impls.GlobalAllocator.TheImpl.{ghosts}
use Rattle.std.specs.contracts.vec.Vec as vec
use Rattle.outside.specs.declared.stores.Held as held
use Rattle.repo_model.specs.State.{is_repository}
use Rattle.hosted_repo.specs.contracts.hosted.Hosted.{the_row}

module _ (H : RattleType) (g : held.Ghosts H.Denot) where
  abbrev repos_row : RattleType
  repos_row = vec.the_row (the_row H g) global.the_row ghosts

  -- the last value after r stands in the place of the repository of the id, and the others stay
  abbrev pub LendsRepository : MutBor repos_row.Denot → List ℕ → MutBor (the_row H g).Denot → Fml
  LendsRepository repos id r = Lends repos_row (the_row H g) repos r (with_item repos.now (position_or_len (is_repository id) repos.now.items))
