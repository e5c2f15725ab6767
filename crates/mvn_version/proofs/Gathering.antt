-- The key of the tokens of a text with one more token in front.
use Rattle.std.proofs.Common.{◌≡◌, ℕ, ◌+◌, ◌<◌, Bool, true, false, cond, not, ◌&&◌, ◌||◌, List, [], ◌∷◌, map, reverse, length, take, get_or, refl, ap, ◌∙◌}
use Rattle.std.proofs.lemmas.List.{take_more, reverse-append}
use Rattle.mvn_version.specs.declared.token.Mark.TheVariants.{Dot}
use Rattle.mvn_version.specs.declared.token.Token as code
use Rattle.mvn_version.specs.Token.{Token, is_dot, shown}
use Rattle.mvn_version.specs.Key.{element, elements, full_word, in_full, is_joined, is_number, is_release, is_zero, put_unless, without_release, without_zeros, zeros_trail}

-- the tokens from the i-th last on, where the last one stands first
abbrev pub behind : List code.Token → ℕ → List Token
behind ts i = map shown (reverse (take i ts))

-- stands for a token past the end of a list
abbrev pub placeholder : code.Token
placeholder = record { mark = Dot; text = record { ref_ptr = (0, 0); now = [] } }

pub behind_more : (ts : List code.Token) (i : ℕ) → i < length ts → behind ts (i + 1) ≡ shown (get_or ts i placeholder) ∷ behind ts i
behind_more ts i within =
    (λ j. map shown (reverse (take_more ts i placeholder within j)))
    ∙ (λ j. map shown (reverse-append (take i ts) (get_or ts i placeholder ∷ []) j))

abbrev pub kept : List Token → List Token
kept ts = without_release (in_full ts)

or_false : (b : Bool) → (b || false) ≡ b
or_false true = refl
or_false false = refl

module _ (t : Token) (ts : List Token) where
  abbrev pub text : List ℕ
  text = full_word (is_joined ts) t.text

  abbrev pub full : Token
  full = record t { text = text }

  kept_by : (b : Bool) → is_release text ≡ b → kept (t ∷ ts) ≡ cond (not b) (full ∷ kept ts) (kept ts)
  kept_by b h = λ j. cond (not (h j)) (full ∷ kept ts) (kept ts)

  pub released : is_release text ≡ true → kept (t ∷ ts) ≡ kept ts
  released h = kept_by true h

  pub stays : is_release text ≡ false → kept (t ∷ ts) ≡ full ∷ kept ts
  stays h = kept_by false h

  -- neither a word of release nor a zero that trails
  pub standing : is_release text ≡ false → (is_zero text && zeros_trail (kept ts)) ≡ false
      → (elements (t ∷ ts) ≡ element full ∷ elements ts) × (zeros_trail (kept (t ∷ ts)) ≡ (not (is_number text) || not (is_dot t.mark)))
  standing h z = (
    ap (λ ks. map element (without_zeros ks)) (stays h) ∙ (λ j. map element (put_unless (z j) full (without_zeros (kept ts)))),
    ap zeros_trail (stays h) ∙ (λ j. not (is_number text) || not (is_dot t.mark) || z j) ∙ or_false (not (is_number text) || not (is_dot t.mark)),
  )
