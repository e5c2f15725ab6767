use Rattle.std.proofs.Common.{◌≡◌, [], List, ℕ, ◌++◌, refl, ap, sym, ◌∙◌, append-nil}
use Rattle.http_wire.specs.Answer.{head_shown}
use Rattle.http_wire.specs.declared.answers.Answer.{Answer}
use Rattle.http_wire.proofs.laws.body_follows_head.Goals as goal

-- the head doesn't speak of the body
same_head : (answer : Answer) → head_shown (record answer { body = [] }) ≡ head_shown answer
unfolding head_shown
same_head answer = refl

pub returns : goal.returns
returns c = λ answer.
    ap (λ (head : List ℕ). head ++ answer.body) (sym (append-nil (head_shown (record answer { body = [] })) ∙ same_head answer))
