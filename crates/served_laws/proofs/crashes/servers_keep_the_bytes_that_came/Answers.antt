use Rattle.std.proofs.Common.{refl}
use Rattle.served_laws.proofs.Servers.{server-keeps-bytes}
use Rattle.served_laws.proofs.crashes.servers_keep_the_bytes_that_came.Goals as goal

pub returns : goal.returns
returns g c settings old new status serves tell =
    server-keeps-bytes _ _ (λ w. refl) (λ w. refl) (λ before after call reply step. step.1.turn) settings old new status serves tell
