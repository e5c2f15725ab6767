-- One exchange of a fetch: what is asked, and what the remote's answer comes to.
use Rattle.std.specs.Prelude.{◌≡◌, ℕ, ◌≤◌, List, ◌++◌, length, Result, Ok, Err, codes}
use Rattle.std.specs.Fmt.{decimal}
use Rattle.outside.specs.Told.{behind, in_front}
use Rattle.outside_remote.specs.declared.exchange.Asked.{Asked}
use Rattle.outside_remote.specs.declared.exchange.Exchange.{Exchange}
use Rattle.outside_remote.specs.declared.exchange.RemoteFault.{RemoteFault}
use Rattle.outside_remote.specs.declared.exchange.RemoteFault.TheVariants.{Failed, NoMemory}
use Rattle.outside_remote.specs.Exchanges.{Sees, IsExchange, asked_so}
use Rattle.fetch_plan.specs.declared.Plan.{Plan}
use Rattle.remote_fetch.specs.declared.replies.Reply.{Reply}
use Rattle.remote_fetch.specs.declared.replies.Reply.TheVariants.{Fault}
use Rattle.remote_fetch.specs.Replies.{IsAnswer, answer_limit}

-- the request for what stands at the plan's path with a suffix after it
abbrev pub request_of : Plan → List ℕ → List ℕ
request_of plan suffix =
    codes "GET " ++ plan.prefix ++ codes "/" ++ plan.path ++ suffix ++ codes " HTTP/1.1\r\nHost: " ++ plan.host ++ codes ":" ++ decimal plan.port
    ++ codes "\r\nAccept: */*\r\nConnection: close\r\n\r\n"

abbrev pub asked_for : Plan → List ℕ → ℕ → Asked
asked_for plan suffix limit = asked_so plan.host plan.port (request_of plan suffix) (answer_limit limit)

-- what an exchange gave comes to this reply
abbrev pub IsReply : ℕ → Result (List ℕ) RemoteFault → Reply → Type 0
IsReply limit (Ok bytes) reply = IsAnswer limit bytes reply
IsReply limit (Err Failed) reply = reply ≡ Fault
IsReply limit (Err NoMemory) reply = ⊥

-- one exchange was made, and its answer, with a body of at most so many bytes, came to this reply
abbrev pub IsAsked : Plan → List ℕ → ℕ → Reply → Sees → Sees → Type 0
IsAsked plan suffix limit reply old new =
    (gave : Result (List ℕ) RemoteFault) × IsExchange (asked_for plan suffix limit) gave old new × IsReply limit gave reply

-- at most so many exchanges were made, each of which took at most one of the answers left, and none failed
pub record Reaches (most : ℕ) (old new : Sees) : Type 0 where
  pub faults : new.faults ≡ old.faults
  pub made : (exchanges : List Exchange) × (length exchanges ≤ most) × (new.made ≡ behind old.made exchanges)
  pub left : (answers : List (List ℕ)) × (length answers ≤ most) × (old.left ≡ in_front answers new.left)
