-- What a timer tells of itself: the answers that it will give, and the pauses that were kept.
use Rattle.std.specs.Prelude.{ℕ, Bool, false, List, [], ◌∷◌, ◌++◌}

-- the answers left, and the seconds of each pause that was kept, in order
pub record Pauses : Type 0 where
  pub left : List Bool
  pub kept : List ℕ

-- the next answer; after the last one it is false
abbrev pub first_answer : List Bool → Bool
first_answer [] = false
first_answer (answer ∷ answers) = answer

-- what a pause of so many seconds leaves; with no answer left it is not kept
abbrev pub after_pause : ℕ → List Bool → List ℕ → Pauses
after_pause seconds [] kept = record { left = []; kept = kept }
after_pause seconds (answer ∷ answers) kept = record { left = answers; kept = kept ++ seconds ∷ [] }

abbrev pub paused : ℕ → Pauses → Pauses
paused seconds p = after_pause seconds p.left p.kept
