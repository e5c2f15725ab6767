-- The last items, turned round, are the first of all that are turned round.
use Rattle.std.proofs.Common.{◌≡◌, ◌∙◌, ◌+◌, ◌-◌, ◌++◌, ℕ, List, length, min, take, drop, ap, arith, sym}
use Rattle.std.specs.Prelude.{reverse}
use Rattle.std.proofs.lemmas.List.{drop_at, length-drop, length-reverse, reverse-append, reverse-reverse, take-append-drop, take_at}
use Rattle.row_completion.proofs.recording.take_first.Goals as goal

parts-turned : {X : Type 0} → (at : ℕ) (xs : List X) → reverse xs ≡ reverse (drop at xs) ++ reverse (take at xs)
parts-turned at xs = ap reverse (sym (take-append-drop at xs)) ∙ reverse-append (take at xs) (drop at xs)

long : {X : Type 0} → (at count : ℕ) (xs : List X) → at + count ≡ length xs → length (reverse (drop at xs)) ≡ count
long at count xs all = omega (arith, length-reverse (drop at xs), length-drop at xs, all)

first-turned : {X : Type 0} → (at count : ℕ) (xs : List X) → at + count ≡ length xs → reverse (drop at xs) ≡ take count (reverse xs)
first-turned at count xs all =
    sym (take_at (reverse (drop at xs)) (reverse (take at xs)) count (long at count xs all)) ∙ ap (take count) (sym (parts-turned at xs))

rest-turned : {X : Type 0} → (at count : ℕ) (xs : List X) → at + count ≡ length xs → reverse (take at xs) ≡ drop count (reverse xs)
rest-turned at count xs all =
    sym (drop_at (reverse (drop at xs)) (reverse (take at xs)) count (long at count xs all)) ∙ ap (drop count) (sym (parts-turned at xs))

pub returns-clause-first : goal.returns-clause-first
returns-clause-first c =
    let xs = c.args.items.now.items in
    let at = c.len-2.result - c.min-count.result in
    let count = min 1000 (length xs) in
    let all : at + count ≡ length xs = omega (arith, c.len.ensures, c.len-2.ensures, c.min-count.ensures) in
    sym (reverse-reverse c.turned.result.items) ∙ ap reverse (c.turned.ensures ∙ c.in_ok-first.ensures.tail) ∙ first-turned at count xs all

pub returns-clause-rest : goal.returns-clause-rest
returns-clause-rest c =
    let xs = c.args.items.now.items in
    let at = c.len-2.result - c.min-count.result in
    let count = min 1000 (length xs) in
    let all : at + count ≡ length xs = omega (arith, c.len.ensures, c.len-2.ensures, c.min-count.ensures) in
    ap reverse c.in_ok-first.ensures.items ∙ rest-turned at count xs all
