use Rattle.std.proofs.Common.{refl}
use Rattle.served_laws.proofs.Restarts.{restart-shows}
use Rattle.served_laws.proofs.Servers.{server-shows}
use Rattle.served_laws.proofs.laws.restarted_servers_serve_named_files.Goals as goal

pub returns : goal.returns
returns g c settings tables old new later_old later_new status later_status told_so passed serves later =
    restart-shows _ settings tables old new later_old later_new told_so passed
    (server-shows _ _ (λ w. refl) (λ w. refl) (λ before after call reply step. step.1.turn) settings old new status serves)
    (server-shows _ _ (λ w. refl) (λ w. refl) (λ before after call reply step. step.1.turn) settings later_old later_new later_status later)
