-- What each step does to the parts.
use Rattle.std.proofs.Common.{◌≡◌, ℕ, ◌+◌, ◌<◌, List, [], ◌∷◌, ◌++◌, set, Some, refl, ◌∙◌, arith}
use mathlib.Core.Option.{some}
use lib.ListN.{get_elem?}
use Rattle.turn_lock.specs.declared.view.View.{View}
use Rattle.turn_lock.specs.Rule.{accounts, parts_of, Parts}
use Rattle.turn_lock.specs.Views.{both, spent}
use Rattle.turn_lock.proofs.Totals.{total_set, total_snoc, each_set, each_snoc}

module _ {C R T : Type 0} (opening : T) (views : List (View C R T)) (id : ℕ) (v : View C R T) (kept : Parts opening views) (at : get_elem? views id ≡ some v) where
  -- a view that keeps its parts
  pub parts_same : (w : View C R T) → 0 < v.parts → w.parts ≡ v.parts → w.opening ≡ v.opening → Parts opening (set views id w)
  parts_same w live same from = record {
    whole = (let t = total_set parts_of views id v w at in let k = kept.whole in omega arith);
    alive = each_set (λ u. 0 < u.parts → u.opening ≡ Some opening) views id w (λ j u _ there. kept.alive j u there) (λ _. from ∙ kept.alive id v at live);
    spent = each_set (λ u. u.parts ≡ 0 → (u.turn ≡ 0) × (accounts u ≡ [])) views id w (λ j u _ there. kept.spent j u there) (λ none. absurd (omega arith));
  }

  -- a view is cut in two, and both have parts
  pub parts_split : (w u : View C R T) → w.parts + u.parts ≡ v.parts → 0 < w.parts → 0 < u.parts → w.opening ≡ v.opening → u.opening ≡ v.opening → Parts opening (set views id w ++ u ∷ [])
  parts_split w u sum left right same also =
      let from = kept.alive id v at (omega arith) in record {
        whole = (let t = total_set parts_of views id v w at in let n = total_snoc parts_of (set views id w) u in let k = kept.whole in omega arith);
        alive = each_snoc (λ u. 0 < u.parts → u.opening ≡ Some opening) (set views id w) u
            (each_set (λ u. 0 < u.parts → u.opening ≡ Some opening) views id w (λ j u _ there. kept.alive j u there) (λ _. same ∙ from))
            (λ _. also ∙ from);
        spent = each_snoc (λ u. u.parts ≡ 0 → (u.turn ≡ 0) × (accounts u ≡ [])) (set views id w) u
            (each_set (λ u. u.parts ≡ 0 → (u.turn ≡ 0) × (accounts u ≡ [])) views id w (λ j u _ there. kept.spent j u there) (λ none. absurd (omega arith)))
            (λ none. absurd (omega arith));
      }

  pub parts_join : (other : ℕ) (w : View C R T) → 0 < v.parts → get_elem? (set views id (both v w)) other ≡ some w → Parts opening (set (set views id (both v w)) other spent)
  parts_join other w live there =
      let x = both v w in record {
        whole = (let t = total_set parts_of views id v x at in let n = total_set parts_of (set views id x) other w spent there in let k = kept.whole in omega arith);
        alive = each_set (λ u. 0 < u.parts → u.opening ≡ Some opening) (set views id x) other spent
            (λ j u _ e. each_set (λ u. 0 < u.parts → u.opening ≡ Some opening) views id x (λ j u _ there. kept.alive j u there) (λ _. kept.alive id v at live) j u e)
            (λ none. absurd (omega arith));
        spent = each_set (λ u. u.parts ≡ 0 → (u.turn ≡ 0) × (accounts u ≡ [])) (set views id x) other spent
            (λ j u _ e. each_set (λ u. u.parts ≡ 0 → (u.turn ≡ 0) × (accounts u ≡ [])) views id x (λ j u _ there. kept.spent j u there) (λ none. absurd (omega arith)) j u e)
            (λ _. (refl, refl));
      }
