use Rattle.std.proofs.Common.{ap}
use Rattle.repo_model.specs.Turn.{document_shown, each_seen, first_or, merged_of, or_nothing}
use Rattle.repo_model.specs.Proxies.{subject_of}
use Rattle.group_laws.proofs.Turns.{document-turn, file-turn}
use Rattle.group_laws.proofs.laws.groups_follow_their_members.Goals as goal

pub returns-clause-file : goal.returns-clause-file
returns-clause-file c s now tried path k ids = file-turn (each_seen s now tried path k 0 ids)

pub returns-clause-document : goal.returns-clause-document
returns-clause-document c s now tried path k ids d =
    ap (λ o. first_or o (or_nothing (document_shown k) (merged_of s now tried (subject_of path k) d ids))) (document-turn (each_seen s now tried path k 0 ids))
