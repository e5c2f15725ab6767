use Rattle.std.proofs.Common.{◌≡◌, ℕ, ◌≤◌, rules, refl, List, Option, Some, None}
use Rattle.std.specs.Prelude.{IsSome, ◌==◌, count_by}
use Rattle.http_wire.specs.Front.{Whole, judged}
use Rattle.http_wire.specs.Head.{Head, head_of}
use Rattle.http_wire.proofs.ParsedLemmas.{judged_long, judged_read, none_some, on_err}
use Rattle.http_wire.proofs.parser.read_head.Goals as goal

pub returns-then-count-clause-judged : goal.returns-then-count-clause-judged
returns-then-count-clause-judged c = λ rest. judged_long c.args.bytes.now rest (search rules)

pub returns-in_err-head-clause-memory : goal.returns-in_err-head-clause-memory
returns-in_err-head-clause-memory c =
    on_err _ _ (by_head (head_of c.args.bytes.now) refl c.in_err-head.ensures.memory (search rules))
  where
    by_head : (o : Option Head) → head_of c.args.bytes.now ≡ o → IsSome (head_of c.args.bytes.now) → count_by (λ b. b == 10) c.args.bytes.now ≤ 66
        → (head : Head) × ((rest : List ℕ) → judged c.args.bytes.now rest ≡ Whole head rest)
    by_head None is some few = absurd (none_some _ is some)
    by_head (Some head) is some few = (head, λ rest. judged_read c.args.bytes.now rest (Some head) few is)

pub returns-in-Some-clause-judged : goal.returns-in-Some-clause-judged
returns-in-Some-clause-judged c = λ rest. judged_read c.args.bytes.now rest (Some c.in-Some.head) (search rules) (search rules)

pub returns-in-None-clause-judged : goal.returns-in-None-clause-judged
returns-in-None-clause-judged c = λ rest. judged_read c.args.bytes.now rest None (search rules) (search rules)
