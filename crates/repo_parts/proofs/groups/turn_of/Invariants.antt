use Rattle.std.proofs.Common.{take}
use Rattle.mvn_coords.specs.Kind.{kind}
use Rattle.hosted_repo.specs.Seens.{is_of_document}
use Rattle.repo_model.specs.State.{State}
use Rattle.repo_model.specs.Turn.{each_seen}
use Rattle.repo_parts.specs.Looks.{AreStances, HasGoods}
use Rattle.repo_parts.proofs.groups.turn_of.Given as goal

-- what the members so far do
abbrev pub invariant-loop-member : goal.invariant-loop-member
invariant-loop-member g l =
    (s : State) → HasGoods s l.goods.repos.now l.goods.proxies.now
    → AreStances (is_of_document (kind l.asked.path.now)) (each_seen s l.asked.moment l.asked.tried.now l.asked.path.now (kind l.asked.path.now) 0 (take l.member l.members)) l.stances.items
