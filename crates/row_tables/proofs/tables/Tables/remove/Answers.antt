use Rattle.row_tables.specs.Stored.{shown_documents, shown_sessions}
use Rattle.row_tables.proofs.Kept.{among_filtered}
use Rattle.row_tables.proofs.tables.Tables.remove.Goals as goal

pub invariant_of-self : goal.invariant_of-self
invariant_of-self c = (among_filtered _ _ _ _ (shown_documents c.self.inside.documents.entries) (shown_sessions c.self.inside.sessions.items) _ c.remove_file.ensures c.self.invariant.0, c.self.invariant.1)
