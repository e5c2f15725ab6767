use denote.Param.Send.{sendable}
use Rattle.std.proofs.Crossing.{crosses}
use Rattle.turn_lock.proofs.Crosses.{token_crosses}
use Rattle.desk_work.proofs.Shared.{cleaner_crosses, job_crosses}
use Rattle.desk_work.proofs.running.run_jobs.Goals as goal

pub run_beside-requires-send-A : goal.run_beside-requires-send-A
run_beside-requires-send-A g c κs within =
    let p = c.type_bounds.send-P in
    let b = c.type_bounds.send-B in
    let m = c.type_bounds.send-R in
    let t = c.type_bounds.send-T in
    search (sendable, job_crosses) depth 60

pub run_beside-requires-send-A-Out : goal.run_beside-requires-send-A-Out
run_beside-requires-send-A-Out g c κs within =
    let p = c.type_bounds.send-P in
    let b = c.type_bounds.send-B in
    let m = c.type_bounds.send-R in
    let t = c.type_bounds.send-T in
    search (sendable, crosses, token_crosses) depth 60

pub run_beside-requires-send-Z : goal.run_beside-requires-send-Z
run_beside-requires-send-Z g c κs within =
    let b = c.type_bounds.send-B in
    let q = c.type_bounds.send-Q in
    let t = c.type_bounds.send-T in
    search (sendable, cleaner_crosses) depth 60

pub run_beside-requires-send-Z-Out : goal.run_beside-requires-send-Z-Out
run_beside-requires-send-Z-Out g c κs within =
    let b = c.type_bounds.send-B in
    let q = c.type_bounds.send-Q in
    let t = c.type_bounds.send-T in
    search (sendable, crosses, token_crosses) depth 60
