use Rattle.std.proofs.Common.{sym}
use Rattle.ordered_rows.proofs.HomeLemmas.{homed-new, kept}
use Rattle.ordered_rows.proofs.homes.add_home.Goals as goal

pub returns-clause-kept : goal.returns-clause-kept
returns-clause-kept c = kept c.args.homes.now.keys c.insert.new.self.keys c.in_ok-home.home c.in_ok-insert.ensures.keys

pub returns-clause-added : goal.returns-clause-added
returns-clause-added c =
    homed-new c.args.homes.now.keys c.insert.new.self.keys c.in_ok-home.home c.args.path.now c.in-Some.home.now (sym c.in-Some.ensures) c.in_ok-home.ensures.ok c.in_ok-insert.ensures.keys
