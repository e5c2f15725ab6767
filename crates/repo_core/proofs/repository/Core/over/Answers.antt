use Rattle.repo_core.proofs.repository.Core.over.Goals as goal

pub invariant_of-result : goal.invariant_of-result
invariant_of-result g c = record { kept = c.requires.kept; ready = c.requires.ready }
