use Rattle.std.proofs.Common.{◌≡◌, ℕ, List}
use Rattle.mvn_coords.specs.Layout.{Directory, text_of_directory}
use Rattle.mvn_coords.specs.Path.{IsDirectory}
use Rattle.repo_model.specs.Document.{document}
use Rattle.ordered_rows.specs.Rows.{rows_after_all, shown_rows}
use Rattle.hosted_delivery.specs.Deliveries.{session_with, shown_files}
use Rattle.hosted_delivery.proofs.DeliveryLemmas.{effects_by}
use Rattle.kept_docs.specs.Drafted.{drafted}
use Rattle.hosted_repo.proofs.DeliveredDocs.{delivered_doc}
use Rattle.hosted_repo.proofs.delivering.drafts_of.Given as goal

-- what the files that are left make of the drafts is what all make of the documents
abbrev pub invariant-loop-path : goal.invariant-loop-path
invariant-loop-path g l =
    (repo : List ℕ) (d : Directory) → IsDirectory d
    → delivered_doc d l.now (shown_rows l.rows.entries) (shown_files l.path-iterator) (drafted (text_of_directory d) l.docs l.drafts)
    ≡ document d (rows_after_all (effects_by (session_with repo (shown_files l.fn.staged.entries)) l.now (shown_rows l.rows.entries) (shown_files l.fn.staged.entries)) (shown_rows l.rows.entries))
