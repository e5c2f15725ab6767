use Rattle.std.proofs.Common.{refl}
use Rattle.served_laws.proofs.Servers.{server-outlasts}
use Rattle.served_laws.proofs.crashes.servers_keep_created_files.Goals as goal

pub returns : goal.returns
returns g c settings old new status serves = server-outlasts _ _ (λ w. refl) (λ w. refl) (λ before after call reply step. step.1.turn) settings old new status serves
