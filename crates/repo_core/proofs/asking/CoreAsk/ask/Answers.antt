use Rattle.repo_core.proofs.asking.CoreAsk.ask.Goals as goal

pub returns-clause-turn : goal.returns-clause-turn
returns-clause-turn g c =
    (c.call.new.self.state.last, c.call.new.self.state.faults, c.call.ensures.step.turn)
