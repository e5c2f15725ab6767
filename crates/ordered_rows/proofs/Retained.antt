-- Rows that are left once the first that faded go.
use Rattle.std.proofs.Common.{◌≡◌, ℕ, ◌-◌, Bool, true, false, cond, not, List, [], ◌∷◌, String, Global, string_bytes, refl, ap, ◌∙◌}
use Rattle.std.specs.Map.Calls.{RetainsPairs}
use Rattle.outside.specs.declared.stores.Held.{Ghosts}
use Rattle.ordered_rows.specs.Rows.{goes, without_first, shown_at, shown_entry, shown_phase, shown_rows}
use Rattle.ordered_rows.specs.declared.row.Row.{Row}

module _ {X : Type 0} {G : Ghosts X} where
  -- rows that a closure which counts has retained
  pub counted_out : {F : Type 0} (T : F → String Global → Row X G → Bool → Row X G → F → Type 0) (left at : F → ℕ)
      → ((f : F) (k : String Global) (v : Row X G) (b : Bool) (w : Row X G) (f' : F) → T f k v b w f'
      → (b ≡ not (goes (left f) (at f) (shown_phase v.phase))) × (w ≡ v) × (left f' ≡ cond (goes (left f) (at f) (shown_phase v.phase)) (left f - 1) (left f)) × (at f' ≡ at f))
      → (es kept : List (String Global × Row X G)) (f : F) (n now : ℕ) → left f ≡ n → at f ≡ now → RetainsPairs T f es kept
      → shown_rows kept ≡ without_first n now (shown_rows es)
  counted_out T left at step [] kept f n now n_is now_is r = ap shown_rows r
  counted_out T left at step (e ∷ es) kept f n now n_is now_is r =
      let (b, w, f', rest, t, more, kept_is) = r in
      let h = step f e.0 e.1 b w f' t in
      let test : goes (left f) (at f) (shown_phase e.1.phase) ≡ goes n now (shown_phase e.1.phase) = rw (n_is, now_is) in
      elim (goes n now (shown_phase e.1.phase))
      as (λ c. goes n now (shown_phase e.1.phase) ≡ c → shown_rows kept ≡ cond c (without_first (n - 1) now (shown_rows es)) (shown_entry e ∷ without_first n now (shown_rows es))) [
        | true ↦ λ is.
            let gone : b ≡ false = h.0 ∙ ap not (test ∙ is) in
            let fewer : left f' ≡ n - 1 = h.2 ∙ ap (λ c. cond c (left f - 1) (left f)) (test ∙ is) ∙ ap (λ m. m - 1) n_is in
            ap shown_rows (kept_is ∙ ap (λ c. cond c ((e.0, w) ∷ rest) rest) gone) ∙ counted_out T left at step es rest f' (n - 1) now fewer (h.3 ∙ now_is) more
        | false ↦ λ is.
            let stays : b ≡ true = h.0 ∙ ap not (test ∙ is) in
            let same : left f' ≡ n = h.2 ∙ ap (λ c. cond c (left f - 1) (left f)) (test ∙ is) ∙ n_is in
            ap shown_rows (kept_is ∙ ap (λ c. cond c ((e.0, w) ∷ rest) rest) stays)
            ∙ ap (λ v. shown_at (string_bytes e.0) v ∷ shown_rows rest) h.1
            ∙ ap (λ rows. shown_entry e ∷ rows) (counted_out T left at step es rest f' n now same (h.3 ∙ now_is) more)
      ] refl
