-- Documents that change in their places, and what undoes that.
use Rattle.std.proofs.Common.{◌≡◌, ℕ, false, cond, List, Option, None, bytes_eq, refl, ap, ◌∙◌}
use Rattle.std.proofs.lemmas.Bool.{false_from_ne_true}
use Rattle.std.proofs.lemmas.Slice.Eq.{bytes_eq-Decides}
use Rattle.mvn_metadata.specs.Document.{Document}

-- a document that is put where one was taken out
module _ (path : List ℕ) (old mid new : List ℕ → Option Document) (doc : Option Document) where
  abbrev IsTaken : Type 0
  IsTaken = (text : List ℕ) → mid text ≡ cond (bytes_eq text path) None (old text)

  abbrev IsPut : Type 0
  IsPut = (text : List ℕ) → new text ≡ cond (bytes_eq text path) doc (mid text)

  pub put-here : IsPut → new path ≡ doc
  put-here put = put path ∙ ap (λ b. cond b doc (mid path)) ((bytes_eq-Decides path path).1 refl)

  pub put-others : IsTaken → IsPut → (text : List ℕ) → (text ≡ path → ⊥) → new text ≡ old text
  put-others taken put text apart =
      let no : bytes_eq text path ≡ false = false_from_ne_true (bytes_eq text path) (λ is. apart ((bytes_eq-Decides text path).0 is)) in
      put text ∙ ap (λ b. cond b doc (mid text)) no ∙ taken text ∙ ap (λ b. cond b None (old text)) no
