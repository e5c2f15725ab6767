-- What a look can be answered, by the sort of what is asked.
use Rattle.std.specs.Prelude.{ℕ, Bool, true, false, List, Option, Some, None}
use Rattle.std.specs.Option.{option_map_or}
use Rattle.repo_model.specs.declared.step.Step.{Step}
use Rattle.repo_model.specs.declared.step.Step.TheVariants.{Serve, Missed, Blocked, Negative, Never, Fetch}
use Rattle.repo_model.specs.Data.{Hosted}
use Rattle.repo_model.specs.Settings.{GroupRule, Settings}
use Rattle.repo_model.specs.State.{State, hosted_of}
use Rattle.repo_model.specs.Command.{group_rule_of}
use Rattle.repo_model.specs.Reply.{Reply, file, text, doc, missed, spent, fetches, blocked, negative, never_asked, is_look_reply}

-- the reply that tells of a step, where nothing is served or fetched
abbrev pub reply_of : Step → Option Reply
reply_of Missed = Some missed
reply_of Blocked = Some blocked
reply_of Negative = Some negative
reply_of Never = Some never_asked
reply_of Serve = None
reply_of Fetch = None

-- from the rows of a hosted repository
abbrev pub is_from_rows : Reply → Bool
is_from_rows (file lease blob) = true
is_from_rows (text bytes) = true
is_from_rows (doc bytes digests) = true
is_from_rows missed = true
is_from_rows spent = true
is_from_rows reply = false

-- from the members of a group
abbrev pub is_from_members : Reply → Bool
is_from_members (fetches plan) = true
is_from_members reply = is_from_rows reply

-- a hosted repository, a group, or else a proxy
abbrev pub can_answer : Settings → State → List ℕ → Reply → Bool
can_answer settings s id reply =
    option_map_or (λ (h : Hosted). is_from_rows reply) (hosted_of id s)
    (option_map_or (λ (g : GroupRule). is_from_members reply) (group_rule_of id settings) (is_look_reply reply))
