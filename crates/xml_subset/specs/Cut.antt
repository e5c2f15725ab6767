-- White space, and cuts at the front of a text (XML 1.0, section 2.3).
use Rattle.std.specs.Prelude.{ℕ, Bool, false, ◌||◌, ◌==◌, List, [], ◌∷◌, reverse, Option, Some, None, if◌then◌else◌}
use Rattle.byte_cuts.specs.Cuts.{behind}

infixl 10 ◌>>=◌
abbrev pub ◌>>=◌ : {A B : Type 0} → Option A → (A → Option B) → Option B
None >>= f = None
(Some x) >>= f = f x

-- the first of two that is there
abbrev pub or_else : {A : Type 0} → Option A → Option A → Option A
or_else None other = other
or_else (Some x) other = Some x

-- a blank, a tab, CR or LF
abbrev pub is_white : ℕ → Bool
is_white c = c == 32 || c == 9 || c == 13 || c == 10

-- there is a first byte, and it passes
abbrev pub begins : (ℕ → Bool) → List ℕ → Bool
begins p [] = false
begins p (c ∷ text) = p c

-- what follows the white space at the front
abbrev pub without_white : List ℕ → List ℕ
without_white [] = []
without_white (c ∷ text) = if is_white c then without_white text else c ∷ text

-- the text without the white space at both ends
abbrev pub trimmed : List ℕ → List ℕ
trimmed text = reverse (without_white (reverse (without_white text)))

-- what follows the first place of the mark
abbrev pub after : List ℕ → List ℕ → Option (List ℕ)
after mark [] = None
after mark (c ∷ text) = or_else (behind mark (c ∷ text)) (after mark text)
