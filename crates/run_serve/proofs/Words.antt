-- What is done by a run's words, where both a server's part and that of all other words stand.
use Rattle.repo_run.specs.declared.actions.Action.{Action}
use Rattle.repo_run.specs.declared.actions.Action.TheVariants.{Replay, Check, Clean, Serve, Demo, Nothing}
use Rattle.run_serve.specs.Running.{ByWords}

pub either : (command : Action) (serves once : Type 0) → serves → once → ByWords command serves once
either Replay serves once s o = o
either Check serves once s o = o
either Clean serves once s o = o
either Serve serves once s o = s
either (Demo from calls) serves once s o = o
either Nothing serves once s o = o
