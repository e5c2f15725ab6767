use Rattle.std.proofs.Common.{sym, ◌∙◌}
use Rattle.mvn_metadata.proofs.UndoLemmas.{old-added}
use Rattle.mvn_metadata.proofs.versions.Versions.add.Goals as goal

pub returns-clause-undo : goal.returns-clause-undo
returns-clause-undo c =
    let made = c.in_ok-is_new.ensures in
    sym c.self.view_is
    ∙ old-added c.in_ok-is_new.is_new c.self.inside.set.keys c.insert.new.self.keys c.args.version made.added made.keys made.unchanged
