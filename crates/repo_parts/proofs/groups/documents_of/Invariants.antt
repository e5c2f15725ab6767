use Rattle.std.proofs.Common.{◌≡◌, take}
use Rattle.mvn_coords.specs.Kind.{kind}
use Rattle.repo_model.specs.Proxies.{subject_of}
use Rattle.repo_model.specs.State.{State}
use Rattle.repo_model.specs.Turn.{each_document}
use Rattle.repo_parts.specs.Looks.{HasGoods}
use Rattle.repo_parts.proofs.groups.documents_of.Given as goal

-- the documents of the members so far
abbrev pub invariant-loop-member : goal.invariant-loop-member
invariant-loop-member g l =
    (s : State) → HasGoods s l.goods.repos.now l.goods.proxies.now
    → l.docs.items ≡ each_document s l.asked.moment l.asked.tried.now (subject_of l.asked.path.now (kind l.asked.path.now)) l.dir 0 (take l.member l.members)
