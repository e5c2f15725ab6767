use Rattle.std.proofs.Common.{Err, drop}
use Rattle.remote_fetch.specs.Heads.{IsFrontGiven}
use Rattle.remote_fetch.specs.Replies.{broken}
use Rattle.remote_fetch.proofs.replies.read_answer.Goals as goal

pub returns-in-Err : goal.returns-in-Err
returns-in-Err c =
    let given : IsFrontGiven c.args.bytes.now (Err c.in-Err.at) = rw c.in-Err.is at c.in_ok-front.ensures in
    (Err c.in-Err.at, drop c.in-Err.at c.args.bytes.now, given.0, broken)
