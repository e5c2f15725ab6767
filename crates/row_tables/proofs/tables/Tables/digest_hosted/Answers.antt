use Rattle.std.proofs.Common.{refl, string_bytes}
use Rattle.repo_model.specs.Tables.{digested}
use Rattle.row_tables.specs.Stored.{shown_documents, shown_sessions}
use Rattle.row_tables.proofs.Kept.{among_changed}
use Rattle.row_tables.proofs.tables.Tables.digest_hosted.Goals as goal

pub invariant_of-self : goal.invariant_of-self
invariant_of-self c =
    (among_changed _ _ _ _ (shown_documents c.self.inside.documents.entries) (shown_sessions c.self.inside.sessions.items) (string_bytes c.args.place.now.0) (string_bytes c.args.place.now.1) (digested c.args.further) (λ row. refl) c.digest_file.ensures c.self.invariant.0, c.self.invariant.1)
