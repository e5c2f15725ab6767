-- The tokens of a text with one more byte in front.
use Rattle.std.proofs.Common.{◌≡◌, ℕ, suc, ◌+◌, ◌-◌, ◌<◌, true, false, List, ◌∷◌, length, slice_index, take, drop, ap, ◌∙◌, sym, subst, arith}
use Rattle.std.specs.Prelude.{None}
use Rattle.std.proofs.lemmas.List.{drop_more}
use Rattle.mvn_version.specs.declared.token.Mark.TheVariants.{Seam}
use Rattle.mvn_version.specs.Token.{Token, before, dotted, seam_follows, separator_mark, tokens}

-- how far the tokens of a text are known where its open token goes from k up to e
abbrev IsCutFrom : List ℕ → ℕ → ℕ → List Token → Type 0
IsCutFrom xs k e ts = tokens (drop k xs) ≡ dotted (take (e - k) (drop k xs)) ∷ ts

module _ (xs : List ℕ) (i k e : ℕ) (ts : List Token) (within : i < length xs) (next : k ≡ i + 1) (inner : separator_mark (slice_index xs i) ≡ None) (known : IsCutFrom xs k e ts) where
  before_byte : tokens (drop i xs) ≡ before (slice_index xs i) None (seam_follows (slice_index xs i) (drop (i + 1) xs)) (dotted (take (e - (i + 1)) (drop (i + 1) xs)) ∷ ts)
  before_byte =
      ap tokens (drop_more xs i 0 within)
      ∙ (λ j. before (slice_index xs i) (inner j) (seam_follows (slice_index xs i) (drop (i + 1) xs)) (subst (λ n. IsCutFrom xs n e ts) next known j))

  pub cut_seam : seam_follows (slice_index xs i) (drop (i + 1) xs) ≡ true
      → tokens (drop i xs) ≡ dotted (take (i + 1 - i) (drop i xs)) ∷ record { mark = Seam; text = take (e - (i + 1)) (drop (i + 1) xs) } ∷ ts
  cut_seam seam =
      let one : i + 1 - i ≡ 1 = omega arith in
      before_byte
      ∙ (λ j. before (slice_index xs i) None (seam j) (dotted (take (e - (i + 1)) (drop (i + 1) xs)) ∷ ts))
      ∙ sym (λ j. dotted (take (one j) (drop_more xs i 0 within j)) ∷ record { mark = Seam; text = take (e - (i + 1)) (drop (i + 1) xs) } ∷ ts)

  pub cut_inside : i < e → seam_follows (slice_index xs i) (drop (i + 1) xs) ≡ false → IsCutFrom xs i e ts
  cut_inside some seam =
      let more : e - i ≡ suc (e - (i + 1)) = omega arith in
      before_byte
      ∙ (λ j. before (slice_index xs i) None (seam j) (dotted (take (e - (i + 1)) (drop (i + 1) xs)) ∷ ts))
      ∙ sym (λ j. dotted (take (more j) (drop_more xs i 0 within j)) ∷ ts)
