use Rattle.std.proofs.Common.{◌∙◌, Some, refl, ap}
use Rattle.outside_memory.specs.Memory.{shelf_of}
use Rattle.outside_remote.specs.Script.{all_told}
use Rattle.repo_course.specs.Cleaning.{store}
use Rattle.repo_model.specs.Tables.{no_tables}
use Rattle.row_tables.specs.Applying.{with_items}
use Rattle.repo_course.specs.Serving.{AllTell}
use Rattle.memory_laws.proofs.WorkedRun.{desks-came}
use Rattle.memory_laws.proofs.replayed.replay_worked.Goals as goal

pub returns : goal.returns
returns c says zero stood =
    desks-came
    (record {
      link = record { left = λ link. Some link.source.left; taken = λ link. Some link.sink.taken; read_faults = λ link. link.source.script.faults; write_faults = λ link. link.sink.script.faults };
      left = λ port. Some port.left;
      given_back = λ port. Some port.given_back;
      faults = λ port. port.script.faults;
      port = λ desk. desk.port;
      resources = λ desk. record { blobs = store (shelf_of desk.blobs) desk.blobs.script.faults; remote = all_told desk.remote };
      tells = AllTell (λ held. Some held);
    })
    (λ d. d.port.given_back) (λ d. d.blobs.script.faults) (λ link. link.sink.taken) (λ d. refl) (λ d. refl) (λ link. refl)
    c.args.link c.args.clock _ _ c.run_once.result.status c.worked_replay.ensures (λ held. refl) (ap (λ m. Some (with_items no_tables m.items)) c.new-records.ensures) (ap (λ m. m.script.faults) c.new-records.ensures) stood refl zero says
    (record { port = c.in_ok-port.port; blobs = c.new-blobs.result; remote = c.new-remote.result }) (record {
      left = ap Some (ap (λ p. p.left) c.in_ok-port.ensures ∙ c.in_ok-links.ensures.items);
      given_back = ap (λ p. Some p.given_back) c.in_ok-port.ensures;
      no_blobs = ap (λ b. Some b.blobs) c.new-blobs.ensures;
      unfailed = ap (λ b. b.script.faults) c.new-blobs.ensures ∙ ap (λ t. t.faults) c.none.ensures;
      input = ap Some c.requires.input;
      none_taken = ap Some c.requires.fresh;
      reads = c.requires.calm.0;
      writes = c.requires.calm.1;
    }) _ c.requires.words c.in_ok-desks.ensures.items c.run_once.ensures.run
