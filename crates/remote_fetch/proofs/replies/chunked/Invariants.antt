use Rattle.std.proofs.Common.{◌≤◌, ◌-◌, [], length, drop}
use Rattle.remote_fetch.specs.declared.replies.Reply.{Reply}
use Rattle.remote_fetch.specs.Replies.{IsChunked}
use Rattle.remote_fetch.proofs.replies.chunked.Given as goal

-- what the chunks from here on come to after the ones so far, all come to
abbrev pub invariant-loop-given : goal.invariant-loop-given
invariant-loop-given l =
    (l.at ≤ length l.bytes) × (length l.body.items ≤ l.limit)
    × ((result : Reply) → IsChunked l.limit l.at l.body.items (drop l.at l.bytes) result → IsChunked l.limit l.start [] (drop l.start l.bytes) result)

abbrev pub decreases-loop-given : goal.decreases-loop-given
decreases-loop-given l = length l.bytes - l.at
