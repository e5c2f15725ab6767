use Rattle.std.proofs.Common.{◌≡◌, ℕ, length, refl, arith, rules, subst}
use Rattle.std.proofs.lemmas.Bool.{false≢true}
use Rattle.http_wire.specs.Search.{IsOpen}
use Rattle.http_wire.proofs.OpenLemmas.{head_at, none_open, open_blank, open_byte, open_text}
use Rattle.http_wire.proofs.search.resume.Goals as goal
use Rattle.http_wire.proofs.search.resume.Goals.{then-bytes-i-eq10+then-not-is_empty_line, then-bytes-i-eq10+else-not-is_empty_line+else-start-line, else-bytes-i-eq10}

pub returns-then-start-line : goal.returns-then-start-line
returns-then-start-line c =
    head_at c.loop-i.invariant (search rules) (search rules) (c.if-not-is_empty_line.ensures.0 refl) c.if-start-line.true

pub loop-i-preserved : goal.loop-i-preserved
loop-i-preserved c =
    elim c.if-bytes-i-eq10.branch [
      | then-bytes-i-eq10+then-not-is_empty_line w ↦
          rw (w.start-is, w.line-is) (open_text c.loop-i.invariant (search rules) (search rules) (λ e. absurd (false≢true (w.if-not-is_empty_line.ensures.1 e))))
      | then-bytes-i-eq10+else-not-is_empty_line+else-start-line w ↦
          rw (w.start-is, w.line-is) (open_blank c.loop-i.invariant (search rules) (search rules) (w.if-not-is_empty_line.ensures.0 refl) (search rules))
      | else-bytes-i-eq10 w ↦ rw (w.start-is, w.line-is) (open_byte c.loop-i.invariant (search rules) (search rules))
    ]

pub returns : goal.returns
returns c =
    let all : c.loop-i.i ≡ length c.args.bytes.now = omega (arith, c.loop-i.invariant.within) in
    (subst (λ (n : ℕ). IsOpen c.args.bytes.now c.loop-i.start c.loop-i.line n) all c.loop-i.invariant, refl, none_open c.loop-i.invariant (omega arith))
