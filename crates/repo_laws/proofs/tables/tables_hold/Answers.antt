use Rattle.repo_laws.proofs.Holding.{effect-recorded, effects-recorded, entry-recorded, free-recorded, history-recorded}
use Rattle.repo_laws.proofs.tables.tables_hold.Goals as goal

pub returns-clause-effect : goal.returns-clause-effect
returns-clause-effect c = effect-recorded

pub returns-clause-effects : goal.returns-clause-effects
returns-clause-effects c = λ settings grace now es s t may late sound. effects-recorded settings grace now es s t may late sound.order sound.places sound.sessions

pub returns-clause-entry : goal.returns-clause-entry
returns-clause-entry c = λ settings s e t apart fits sound. entry-recorded settings apart s e t fits sound.order sound.places sound.sessions

pub returns-clause-free : goal.returns-clause-free
returns-clause-free c = λ settings s e t apart fits sound. free-recorded settings apart s e t fits sound.order sound.places sound.sessions

pub returns-clause-history : goal.returns-clause-history
returns-clause-history c = λ settings entries s t apart legal sound. history-recorded settings apart entries s t legal sound.order sound.places sound.sessions
