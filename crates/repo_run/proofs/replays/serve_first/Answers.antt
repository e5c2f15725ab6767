-- The port's first connection is served and given back, or there is none, or the port failed.
use Rattle.std.proofs.Common.{[], ◌∷◌, refl, ap, ◌∙◌}
use Rattle.outside.specs.Told.{behind}
use Rattle.run_desks.specs.Seen.{store_seen}
use Rattle.repo_run.specs.FirstConnection.{port_failed, one_served}
use Rattle.repo_run.proofs.FirstDesk.{same_desk}
use Rattle.repo_run.proofs.replays.serve_first.Goals as goal

pub returns-in-Ok-Some : goal.returns-in-Ok-Some
returns-in-Ok-Some g c =
    let next = c.in-Ok-Some.ensures in
    let back = c.back.ensures in
    let taken = rw c.in-Ok-Some.field-0-is at next.given in
    let s = c.serve_stream-end.ensures.serves in
    one_served c.in-Ok-Some.link c.serve_stream-end.new.stream (g.P.Port.left c.next.new.self) s.0
    (record { blobs = store_seen g.B.Blobs c.serve_stream-end.new.blobs; remote = g.R.Remote.sees c.serve_stream-end.new.remote }) c.serve_stream-end.result s.1 taken
    (same_desk _ _ _ _ _ _ _ back.left (back.given_back ∙ ap (λ t. behind t (c.serve_stream-end.new.stream ∷ [])) next.given_back) (back.faults ∙ next.cause))
    s.2 s.4 refl

pub returns-in-Err : goal.returns-in-Err
returns-in-Err g c =
    port_failed (g.P.Port.faults c.next.new.self) c.in-Err.ensures.cause
    (same_desk _ _ _ _ _ _ _ c.in-Err.ensures.failed c.in-Err.ensures.given_back refl) refl refl
