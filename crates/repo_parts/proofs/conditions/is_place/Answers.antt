use Rattle.repo_parts.proofs.conditions.is_place.Goals as goal

pub returns-in-Repository : goal.returns-in-Repository
returns-in-Repository c = rw c.in-Repository.is (rw c.as_str.ensures at c.is_there.ensures)
