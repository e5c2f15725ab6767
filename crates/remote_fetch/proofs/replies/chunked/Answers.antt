use Rattle.std.proofs.Common.{rules, ◌≡◌, ◌≤◌, ◌+◌, ◌<◌, ℕ, List, ◌++◌, length, drop, Some, None, sym, ap, ◌∙◌, subst}
use native.Mathlib.Omega.{arith}
use Rattle.remote_fetch.specs.declared.replies.Reply.TheVariants.{Body, TooLarge, Bad}
use Rattle.remote_fetch.specs.Replies.{IsChunked, no_line, ended}
use Rattle.remote_fetch.specs.Chunks.{IsLineGiven, IsChunkGiven}
use Rattle.remote_fetch.proofs.ChunkLemmas.{line-given, chunk-given, too-long, cut-short, within, one-step}
use Rattle.remote_fetch.proofs.replies.chunked.Goals as goal

pub returns-in-None : goal.returns-in-None
returns-in-None c =
    let none : IsLineGiven (drop c.loop-given.at c.args.bytes.now) None = line-given _ (drop c.loop-given.at c.args.bytes.now) None c.behind-rest.ensures (rw c.in-None.is at c.line_at.ensures) in
    c.loop-given.invariant.2 (Bad c.loop-given.at) (no_line none)

pub returns-then-size-eq0 : goal.returns-then-size-eq0
returns-then-size-eq0 c =
    let line : IsLineGiven (drop c.loop-given.at c.args.bytes.now) (Some c.in-Some.given)
    = line-given _ (drop c.loop-given.at c.args.bytes.now) (Some c.in-Some.given) c.behind-rest.ensures (rw c.in-Some.is at c.line_at.ensures) in
    c.loop-given.invariant.2 (Body c.from_vec.result)
    (subst (λ (b : List ℕ). IsChunked c.args.limit c.loop-given.at c.loop-given.body.items (drop c.loop-given.at c.args.bytes.now) (Body b)) (sym c.from_vec.ensures)
    (ended line.0 _ line.1 (sym line.3 ∙ c.if-size-eq0.true)))

pub returns-then-size-limit : goal.returns-then-size-limit
returns-then-size-limit c =
    let line : IsLineGiven (drop c.loop-given.at c.args.bytes.now) (Some c.in-Some.given)
    = line-given _ (drop c.loop-given.at c.args.bytes.now) (Some c.in-Some.given) c.behind-rest.ensures (rw c.in-Some.is at c.line_at.ensures) in
    let long : c.args.limit < length c.loop-given.body.items + c.in-Some.given.1 = omega (arith, c.if-size-limit.true, c.len.ensures, c.loop-given.invariant.1) in
    c.loop-given.invariant.2 TooLarge (too-long c.args.limit c.loop-given.at c.loop-given.body.items c.args.bytes.now c.in-Some.given line long (omega (arith, c.if-size-eq0.false)))

pub returns-in-None-chunk_at : goal.returns-in-None-chunk_at
returns-in-None-chunk_at c =
    let line : IsLineGiven (drop c.loop-given.at c.args.bytes.now) (Some c.in-Some.given)
    = line-given _ (drop c.loop-given.at c.args.bytes.now) (Some c.in-Some.given) c.behind-rest.ensures (rw c.in-Some.is at c.line_at.ensures) in
    let fits : length c.loop-given.body.items + c.in-Some.given.1 ≤ c.args.limit = omega (arith, c.if-size-limit.false, c.len.ensures, c.loop-given.invariant.1) in
    let some : 0 < c.in-Some.given.1 = omega (arith, c.if-size-eq0.false) in
    let none : IsChunkGiven c.in-Some.given.1 (drop c.in-Some.given.0 (drop c.loop-given.at c.args.bytes.now)) None
    = chunk-given c.in-Some.given.1 _ (drop c.in-Some.given.0 (drop c.loop-given.at c.args.bytes.now)) None
    (c.behind.ensures ∙ ap (λ (b : List ℕ). drop c.in-Some.given.0 b) c.behind-rest.ensures) (rw c.in-None-chunk_at.is at c.chunk_at.ensures) in
    c.loop-given.invariant.2 (Bad c.loop-given.at) (cut-short c.args.limit c.loop-given.at c.loop-given.body.items c.args.bytes.now c.in-Some.given line fits some none)

pub loop-given-preserved : goal.loop-given-preserved
loop-given-preserved c =
    let line : IsLineGiven (drop c.loop-given.at c.args.bytes.now) (Some c.in-Some.given)
    = line-given _ (drop c.loop-given.at c.args.bytes.now) (Some c.in-Some.given) c.behind-rest.ensures (rw c.in-Some.is at c.line_at.ensures) in
    let fits : length c.loop-given.body.items + c.in-Some.given.1 ≤ c.args.limit = omega (arith, c.if-size-limit.false, c.len.ensures, c.loop-given.invariant.1) in
    let some : 0 < c.in-Some.given.1 = omega (arith, c.if-size-eq0.false) in
    let has : IsChunkGiven c.in-Some.given.1 (drop c.in-Some.given.0 (drop c.loop-given.at c.args.bytes.now)) (Some c.in-Some-chunk_at.chunk)
    = chunk-given c.in-Some.given.1 _ (drop c.in-Some.given.0 (drop c.loop-given.at c.args.bytes.now)) (Some c.in-Some-chunk_at.chunk)
    (c.behind.ensures ∙ ap (λ (b : List ℕ). drop c.in-Some.given.0 b) c.behind-rest.ensures) (rw c.in-Some-chunk_at.is at c.chunk_at.ensures) in
    let items : c.extend_from_slice.new.self.items ≡ c.loop-given.body.items ++ c.in-Some-chunk_at.chunk.now = search rules in (
      within c.args.limit c.loop-given.at c.loop-given.body.items c.args.bytes.now c.in-Some.given line c.in-Some-chunk_at.chunk has c.loop-given.invariant.0,
      search rules,
      (λ result so.
          c.loop-given.invariant.2 result
          (one-step c.args.limit c.loop-given.at c.loop-given.body.items c.args.bytes.now c.in-Some.given line c.in-Some-chunk_at.chunk has c.extend_from_slice.new.self.items result items fits some so)),
    )
