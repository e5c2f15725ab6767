use Rattle.row_tables.specs.Stored.{shown_documents, shown_entry, shown_sessions}
use Rattle.row_tables.proofs.Kept.{among_hosted}
use Rattle.row_tables.proofs.tables.Tables.put_hosted.Goals as goal

pub invariant_of-self-2 : goal.invariant_of-self-2
invariant_of-self-2 c =
    (among_hosted _ _ _ _ (shown_documents c.self.inside.documents.entries) (shown_sessions c.self.inside.sessions.items) (shown_entry (c.args.place, c.args.row)) _ c.in_ok-insert.ensures.updates c.in_ok-add_file.ensures.ok c.self.invariant.0, c.self.invariant.1)
