use Rattle.std.proofs.Common.{refl}
use Rattle.repo_model.specs.Command.{ask}
use Rattle.repo_core.proofs.Turning.{turned-finds, turned-without}
use Rattle.repo_core.proofs.machine.Machine.ask.Goals as goal

pub returns-in-Some : goal.returns-in-Some
returns-in-Some g c = turned-finds c.args.self.now c.args.question c.in-Some.finding c.in-Some.ensures

pub returns-in-None : goal.returns-in-None
returns-in-None g c = turned-without c.args.self.now (ask c.args.question) refl
