use Rattle.std.proofs.Common.{◌≡◌, ◌≤◌, ◌+◌, ◌*◌, length, drop, Ok, true, false, sym, ap, ◌∙◌, subst}
use native.Mathlib.Omega.{arith}
use Rattle.std.specs.Prelude.{◌==◌}
use Rattle.std.proofs.lemmas.Bool.{ne_eqb, eq-eqb}
use Rattle.remote_fetch.specs.Heads as heads
use Rattle.remote_fetch.specs.declared.replies.Reply.{Reply}
use Rattle.remote_fetch.specs.Replies.{IsAfter, IsBody, other_status, long_answer, read_body, without_body}
use Rattle.remote_fetch.proofs.ChunkLemmas.{ok-then}
use Rattle.remote_fetch.proofs.replies.behind_head.Goals as goal

pub returns-then-front-ne200 : goal.returns-then-front-ne200
returns-then-front-ne200 c =
    let same : c.front.inside.status ≡ c.args.front.now.status = ap (λ (f : heads.Front). f.status) c.front.view_is in
    let other : (c.args.front.now.status == 200) ≡ false = ne_eqb c.args.front.now.status 200 (λ is. c.if-front-ne200.true (same ∙ is)) in
    subst (λ (a : Reply). IsAfter c.args.limit (length c.args.bytes.now) (Ok c.args.front.now) (drop c.args.front.now.ends c.args.bytes.now) a) (sym (c.without_body.ensures ∙ ap without_body same)) (other_status other)

pub returns-then-bytes-limit : goal.returns-then-bytes-limit
returns-then-bytes-limit c =
    let same : c.front.inside.status ≡ c.args.front.now.status = ap (λ (f : heads.Front). f.status) c.front.view_is in
    let is : (c.args.front.now.status == 200) ≡ true = eq-eqb c.args.front.now.status 200 (sym same ∙ c.if-front-ne200.false) in
    long_answer is (omega (arith, c.if-bytes-limit.true))

pub returns : goal.returns
returns c =
    let same : c.front.inside.status ≡ c.args.front.now.status = ap (λ (f : heads.Front). f.status) c.front.view_is in
    let is : (c.args.front.now.status == 200) ≡ true = eq-eqb c.args.front.now.status 200 (sym same ∙ c.if-front-ne200.false) in
    let fits : length c.args.bytes.now ≤ 2 * c.args.limit + 65_536 = omega (arith, c.if-bytes-limit.false) in
    ok-then c.body_after.result (IsBody c.args.limit c.args.front.now (drop c.args.front.now.ends c.args.bytes.now)) _ (λ reply body. read_body is fits body) c.body_after.ensures
