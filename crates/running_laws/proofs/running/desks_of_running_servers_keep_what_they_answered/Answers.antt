use Rattle.repo_model.specs.Shown.{shown_command, shown_reply}
use Rattle.running_laws.proofs.Keeping.{desk-keeps}
use Rattle.running_laws.proofs.running.desks_of_running_servers_keep_what_they_answered.Goals as goal

pub returns : goal.returns
returns g c settings records from to clock turns own new desk back log before begins told_so legal holds none did =
    desk-keeps _ shown_command shown_reply _ (λ before after call reply step. step.1.turn) settings records from to clock turns own new desk back log before begins told_so legal holds none did
