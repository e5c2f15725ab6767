use Rattle.std.proofs.Common.{arith, ap, sym, subst, length-append, ◌≡◌, ◌∙◌, ◌++◌, length, take}
use Rattle.std.specs.Prelude.{ℕ, List, IfSome}
use Rattle.outside.specs.Told.{IsWhereTold}
use Rattle.outside.proofs.PieceLemmas.{read_out, unread_on}
use Rattle.outside_memory.proofs.whole.read_whole.Goals as goal

pub pieces-preserved : goal.pieces-preserved
pieces-preserved g c =
    let kept = c.pieces.invariant in
    let before : List ℕ = c.pieces.bytes.items in
    let ahead : List ℕ = c.fill.new.self in
    let one : length c.bytes-piece.result.now ≡ length ahead = ap length c.bytes-piece.ensures in
    let all : c.add.new.bytes.items ≡ before ++ ahead = c.in_ok-add.ensures ∙ ap (λ (l : List ℕ). before ++ l) c.bytes-piece.ensures in
    let lengths : length c.add.new.bytes.items ≡ length (before ++ ahead) = ap length all in record {
      below = omega (arith, one, c.in_ok-fill.ensures.below);
      place = omega (arith, kept.place, lengths, one, length-append before ahead);
      first = subst (λ (m : List ℕ). IfSome (g.B.Held.Held.bytes c.args.held.now) (λ b. take (length m) b ≡ m)) (sym all)
          (unread_on _ before ahead 65536 c.pieces.at kept.place c.in_ok-fill.ensures.told kept.first);
      faults = c.in_ok-fill.ensures.cause ∙ kept.faults;
    }

pub returns-then-piece-lt-PIECE_BYTES-clause-told : goal.returns-then-piece-lt-PIECE_BYTES-clause-told
returns-then-piece-lt-PIECE_BYTES-clause-told g c =
    let kept = c.pieces.invariant in
    let before : List ℕ = c.pieces.bytes.items in
    let ahead : List ℕ = c.fill.new.self in
    let one : length c.bytes-piece.result.now ≡ length ahead = ap length c.bytes-piece.ensures in
    let all : c.add.new.bytes.items ≡ before ++ ahead = c.in_ok-add.ensures ∙ ap (λ (l : List ℕ). before ++ l) c.bytes-piece.ensures in
    subst (λ (m : List ℕ). IsWhereTold (g.B.Held.Held.bytes c.args.held.now) m) (sym all)
    (read_out _ before ahead 65536 c.pieces.at kept.place (omega (arith, one, c.if-piece-lt-PIECE_BYTES.true)) c.in_ok-fill.ensures.told kept.first)
