-- What each step does to the callers' numbers and entries.
use Rattle.std.proofs.Common.{◌≡◌, ◌≢◌, ◌⊎◌, ℕ, ◌+◌, ◌<◌, ◌≤◌, List, [], ◌∷◌, ◌++◌, set, cond, true, refl, sym, ap, ◌∙◌, subst, inl, inr, ⊎_elim, arith}
use mathlib.Core.Option.{some}
use mathlib.Core.Logic.{dite}
use native.Mathlib.Decide.{ℕ_discrete}
use lib.ListN.{get_elem?}
use Rattle.std.proofs.Math.Nat.{le-max_left, le-max_right, max-le}
use Rattle.atomic_table.proofs.Lists.{set_else}
use Rattle.turn_lock.specs.declared.view.Entry.{Entry}
use Rattle.turn_lock.specs.declared.view.View.{View}
use Rattle.turn_lock.specs.History.{entries_by, times, AllKept, AllBelow}
use Rattle.turn_lock.specs.Rule.{accounts, claims, total, Each, Callers}
use Rattle.turn_lock.specs.Views.{drawn, drawn_number, undrawn, gave, without, offshoot, noted, slip, both, spent}
use Rattle.turn_lock.proofs.Totals.{total_set, total_at, total_two, total_cut, each_set, each_snoc}
use Rattle.turn_lock.proofs.Histories.{entries_by-own, entries_by-other, times-append, times_here, times_else, times_cut, all_kept-append, all_kept-other}

left_zero : (a b : ℕ) → a + b ≡ 0 → a ≡ 0
left_zero a b e = omega arith

right_zero : (a b : ℕ) → a + b ≡ 0 → b ≡ 0
right_zero a b e = omega arith

module _ {C R T : Type 0} where
  pub accounts_named : (v : View C R T) → v.named ≡ true → accounts v ≡ (v.number, v.mine) ∷ v.joined
  accounts_named v is = ap (λ b. cond b ((v.number, v.mine) ∷ v.joined) v.joined) is

  -- what the rule says of one number
  Counted : List (Entry C R T) → List (View C R T) → ℕ → ℕ → Type 0
  Counted log views given k = ((k < given) × (total (claims k) views ≡ 1)) ⊎ ((given ≤ k) × (total (claims k) views ≡ 0) × (entries_by k log ≡ []))

  module _ (log : List (Entry C R T)) (views : List (View C R T)) (kept : Callers log views) where
    -- a number is answered for at most once
    pub at_most_once : (k : ℕ) → total (claims k) views ≤ 1
    at_most_once k =
        ⊎_elim (λ (one : (k < kept.given) × (total (claims k) views ≡ 1)). let e = one.1 in omega arith)
        (λ (none : (kept.given ≤ k) × (total (claims k) views ≡ 0) × (entries_by k log ≡ [])). let e = none.1 in omega arith) (kept.counted k)

    -- the next number has no entry, and no view answers for it
    pub next_free : (total (claims kept.given) views ≡ 0) × (entries_by kept.given log ≡ [])
    next_free =
        ⊎_elim (λ (one : (kept.given < kept.given) × (total (claims kept.given) views ≡ 1)). let l = one.0 in absurd (omega arith))
        (λ (none : (kept.given ≤ kept.given) × (total (claims kept.given) views ≡ 0) × (entries_by kept.given log ≡ [])). (none.1, none.2)) (kept.counted kept.given)

    -- other views, which answer for the same numbers
    pub callers_views : (others : List (View C R T)) → ((k : ℕ) → total (claims k) others ≡ total (claims k) views)
        → Each (λ v. AllKept log (accounts v)) others → Each (λ v. (v.given ≤ kept.given) × AllBelow v.given (accounts v)) others → Callers log others
    callers_views others totals right known = record { given = kept.given; counted = λ k. rw totals (kept.counted k); kept = right; known = known }

    module _ (id : ℕ) (v : View C R T) (at : get_elem? views id ≡ some v) where
      pub claims_once : (k : ℕ) → claims k v ≤ 1
      claims_once k = let among = total_at (claims k) views id v at in let most = at_most_once k in omega arith

      pub claims_own : v.named ≡ true → 1 ≤ claims v.number v
      claims_own is = let n = times_here (v.number, v.mine) v.joined in let e : claims v.number v ≡ times v.number ((v.number, v.mine) ∷ v.joined) = ap (times v.number) (accounts_named v is) in omega arith

      pub claimed : v.named ≡ true → total (claims v.number) views ≡ 1
      claimed is = let here = claims_own is in let among = total_at (claims v.number) views id v at in let most = at_most_once v.number in omega arith

      -- the same accounts
      pub callers_same : (w : View C R T) → accounts w ≡ accounts v → w.given ≡ v.given → Callers log (set views id w)
      callers_same w same count =
          callers_views (set views id w)
          (λ k. let t = total_set (claims k) views id v w at in let e : claims k w ≡ claims k v = ap (times k) same in omega arith)
          (each_set (λ u. AllKept log (accounts u)) views id w (λ j u _ there. kept.kept j u there) (rw same (kept.kept id v at)))
          (each_set (λ u. (u.given ≤ kept.given) × AllBelow u.given (accounts u)) views id w (λ j u _ there. kept.known j u there)
          (subst (λ n. (n ≤ kept.given) × AllBelow n (accounts w)) (sym count) ((kept.known id v at).0, rw same (kept.known id v at).1)))

      -- the next number is drawn
      pub callers_draw : v.named ≡ true → Callers log (set views id (drawn v kept.given))
      callers_draw on =
          let n = kept.given in
          let w = drawn v n in
          let free = next_free in
          let new_accounts : accounts w ≡ (v.number, v.mine) ∷ (n, []) ∷ v.joined = accounts_named w on in
          let old_accounts = accounts_named v on in
          let more : (k : ℕ) → claims k w ≡ times k ((n, []) ∷ v.joined) + times k ((v.number, v.mine) ∷ []) =
          (λ k. let e : claims k w ≡ times k ((v.number, v.mine) ∷ (n, []) ∷ v.joined) = ap (times k) new_accounts in omega arith) in
          let before : (k : ℕ) → claims k v ≡ times k v.joined + times k ((v.number, v.mine) ∷ []) =
          (λ k. let e : claims k v ≡ times k ((v.number, v.mine) ∷ v.joined) = ap (times k) old_accounts in omega arith) in
          let here : total (claims n) (set views id w) ≡ 1 =
          (let t = total_set (claims n) views id v w at in let a = more n in let b = before n in let h = times_here (n, []) v.joined in let f = free.0 in omega arith) in
          let else : (k : ℕ) → n ≢ k → claims k w ≡ claims k v =
          (λ k apart. let a = more k in let b = before k in let h = times_else k (n, []) v.joined apart in omega arith) in
          let others : (k : ℕ) → n ≢ k → total (claims k) (set views id w) ≡ total (claims k) views =
          (λ k apart. let t = total_set (claims k) views id v w at in let e = else k apart in omega arith) in
          let mine = kept.known id v at in record {
            given = n + 1;
            counted = λ k. dite (ℕ_discrete n k)
                (λ is. inl (subst (λ (j : ℕ). (j < n + 1) × (total (claims j) (set views id w) ≡ 1)) is ((omega arith), here)))
                (λ apart. ⊎_elim
                (λ (one : (k < n) × (total (claims k) views ≡ 1)). inl ((let l = one.0 in omega arith), others k apart ∙ one.1))
                (λ (none : (n ≤ k) × (total (claims k) views ≡ 0) × (entries_by k log ≡ [])). inr ((let l = none.0 in omega arith), others k apart ∙ none.1, none.2))
                (kept.counted k));
            kept = each_set (λ u. AllKept log (accounts u)) views id w (λ j u _ there. kept.kept j u there)
                (let k : AllKept log ((v.number, v.mine) ∷ v.joined) = subst (AllKept log) old_accounts (kept.kept id v at) in
                subst (AllKept log) (sym new_accounts) (k.0, (sym free.1, k.1)));
            known = each_set (λ u. (u.given ≤ n + 1) × AllBelow u.given (accounts u)) views id w
                (λ j u _ there. ((let l = (kept.known j u there).0 in omega arith), (kept.known j u there).1))
                ((omega arith), (λ k above. let e : claims k w ≡ claims k v = else k (λ is. omega arith) in let z : claims k v ≡ 0 = mine.1 k (let l = mine.0 in omega arith) in e ∙ z));
          }

      -- an entry is added, of the view's number
      pub callers_give : (e : Entry C R T) → e.by ≡ v.number → v.named ≡ true → Callers (log ++ e ∷ []) (set views id (gave v e))
      callers_give e by on =
          let w = gave v e in
          let one = claimed on in
          let new_accounts : accounts w ≡ (v.number, v.mine ++ e ∷ []) ∷ v.joined = accounts_named w on in
          let old_accounts = accounts_named v on in
          let same : (k : ℕ) → claims k w ≡ claims k v = (λ k. ap (times k) new_accounts ∙ sym (ap (times k) old_accounts)) in
          let totals : (k : ℕ) → total (claims k) (set views id w) ≡ total (claims k) views = (λ k. let t = total_set (claims k) views id v w at in let s = same k in omega arith) in
          let own = claims_own on in
          let before : AllKept log ((v.number, v.mine) ∷ v.joined) = subst (AllKept log) old_accounts (kept.kept id v at) in
          let joined_free : times e.by v.joined ≡ 0 =
          (let h = times_here (v.number, v.mine) v.joined in let c : claims v.number v ≡ times v.number ((v.number, v.mine) ∷ v.joined) = ap (times v.number) old_accounts in
          let among = total_at (claims v.number) views id v at in
          let z : times v.number v.joined ≡ 0 = omega arith in subst (λ (n : ℕ). times n v.joined ≡ 0) (sym by) z) in
          let mine : v.mine ++ e ∷ [] ≡ entries_by v.number (log ++ e ∷ []) =
          ap (λ l. l ++ e ∷ []) before.0 ∙ subst (λ (n : ℕ). entries_by n log ++ e ∷ [] ≡ entries_by n (log ++ e ∷ [])) by (sym (entries_by-own log e)) in record {
            given = kept.given;
            counted = λ k. rw totals
                (⊎_elim
                (λ (x : (k < kept.given) × (total (claims k) views ≡ 1)). inl x)
                (λ (x : (kept.given ≤ k) × (total (claims k) views ≡ 0) × (entries_by k log ≡ [])).
                let apart : e.by ≢ k = (λ is. let z : total (claims v.number) views ≡ 0 = subst (λ (n : ℕ). total (claims n) views ≡ 0) (sym is ∙ by) x.1 in absurd (omega arith)) in
                inr (x.0, x.1, entries_by-other k log e apart ∙ x.2))
                (kept.counted k));
            kept = each_set (λ u. AllKept (log ++ e ∷ []) (accounts u)) views id w
                (λ j u apart there.
                let among = total_two (claims v.number) views id j v u (λ is. apart (sym is)) at there in
                let z : claims v.number u ≡ 0 = omega arith in
                all_kept-other log e (accounts u) (subst (λ (n : ℕ). claims n u ≡ 0) (sym by) z) (kept.kept j u there))
                (subst (AllKept (log ++ e ∷ [])) (sym new_accounts) (mine, all_kept-other log e v.joined joined_free before.1));
            known = each_set (λ u. (u.given ≤ kept.given) × AllBelow u.given (accounts u)) views id w (λ j u _ there. kept.known j u there)
                ((kept.known id v at).0, λ k above. same k ∙ (kept.known id v at).1 k above);
          }

      -- a seat is split off with the number that was drawn
      pub callers_split : (amount n : ℕ) (ps : List (ℕ × List (Entry C R T))) → v.named ≡ true → v.joined ≡ (n, []) ∷ ps → Callers log (set views id (without amount v) ++ offshoot amount v ∷ [])
      callers_split amount n ps on first =
          let w = without amount v in let u = offshoot amount v in
          let left : accounts w ≡ (v.number, v.mine) ∷ ps = accounts_named w on ∙ ap (λ js. (v.number, v.mine) ∷ undrawn js) first in
          let new : accounts u ≡ (n, []) ∷ [] = ap (λ js. (drawn_number js, []) ∷ []) first in
          let old : accounts v ≡ (v.number, v.mine) ∷ (n, []) ∷ ps = accounts_named v on ∙ ap (λ js. (v.number, v.mine) ∷ js) first in
          let sums : (k : ℕ) → claims k w + claims k u ≡ claims k v =
          (λ k. (λ i. times k (left i) + times k (new i)) ∙ times_cut k (v.number, v.mine) (n, []) ps ∙ sym (ap (times k) old)) in
          let k : AllKept log ((v.number, v.mine) ∷ (n, []) ∷ ps) = subst (AllKept log) old (kept.kept id v at) in
          let mine = kept.known id v at in
          callers_views (set views id w ++ u ∷ [])
          (λ k. total_cut (claims k) views id v w u at (sums k))
          (each_snoc (λ x. AllKept log (accounts x)) (set views id w) u
          (each_set (λ x. AllKept log (accounts x)) views id w (λ j x _ there. kept.kept j x there) (subst (AllKept log) (sym left) (k.0, k.1.1)))
          (subst (AllKept log) (sym new) (k.1.0, tt)))
          (each_snoc (λ x. (x.given ≤ kept.given) × AllBelow x.given (accounts x)) (set views id w) u
          (each_set (λ x. (x.given ≤ kept.given) × AllBelow x.given (accounts x)) views id w (λ j x _ there. kept.known j x there)
          (mine.0, λ j above. left_zero (claims j w) (claims j u) (sums j ∙ mine.1 j above)))
          (mine.0, λ j above. right_zero (claims j w) (claims j u) (sums j ∙ mine.1 j above)))

      -- a note is split off
      pub callers_note : v.named ≡ true → Callers log (set views id (noted v) ++ slip v ∷ [])
      callers_note on =
          let w = noted v in let u = slip v in
          callers_views (set views id w ++ u ∷ [])
          (λ k. total_cut (claims k) views id v w u at (omega arith))
          (each_snoc (λ x. AllKept log (accounts x)) (set views id w) u
          (each_set (λ x. AllKept log (accounts x)) views id w (λ j x _ there. kept.kept j x there) (kept.kept id v at)) tt)
          (each_snoc (λ x. (x.given ≤ kept.given) × AllBelow x.given (accounts x)) (set views id w) u
          (each_set (λ x. (x.given ≤ kept.given) × AllBelow x.given (accounts x)) views id w (λ j x _ there. kept.known j x there) (kept.known id v at))
          ((kept.known id v at).0, λ _ _. refl))

      pub callers_join : (other : ℕ) (w : View C R T) → v.named ≡ true → other ≢ id → get_elem? (set views id (both v w)) other ≡ some w → Callers log (set (set views id (both v w)) other spent)
      callers_join other w on apart there =
          let x = both v w in
          let new_accounts : accounts x ≡ ((v.number, v.mine) ∷ v.joined) ++ accounts w = accounts_named x on in
          let old_accounts = accounts_named v on in
          let theirs : get_elem? views other ≡ some w = sym (set_else views id other x apart) ∙ there in
          let sums : (k : ℕ) → claims k x ≡ claims k v + claims k w =
          (λ k. let a : claims k x ≡ times k ((v.number, v.mine) ∷ v.joined) + claims k w = ap (times k) new_accounts ∙ times-append k ((v.number, v.mine) ∷ v.joined) (accounts w) in
          let b : claims k v ≡ times k ((v.number, v.mine) ∷ v.joined) = ap (times k) old_accounts in omega arith) in
          let right : AllKept log (accounts x) = subst (AllKept log) (sym new_accounts) (all_kept-append log ((v.number, v.mine) ∷ v.joined) (accounts w) (subst (AllKept log) old_accounts (kept.kept id v at)) (kept.kept other w theirs)) in
          let mine = kept.known id v at in let known = kept.known other w theirs in
          callers_views (set (set views id x) other spent)
          (λ k. let t = total_set (claims k) views id v x at in let n = total_set (claims k) (set views id x) other w spent there in let e = sums k in omega arith)
          (each_set (λ u. AllKept log (accounts u)) (set views id x) other spent
          (λ j u _ e. each_set (λ u. AllKept log (accounts u)) views id x (λ j u _ there. kept.kept j u there) right j u e)
          tt)
          (each_set (λ u. (u.given ≤ kept.given) × AllBelow u.given (accounts u)) (set views id x) other spent
          (λ j u _ e. each_set (λ u. (u.given ≤ kept.given) × AllBelow u.given (accounts u)) views id x (λ j u _ there. kept.known j u there) (
            max-le mine.0 known.0,
            λ k above.
                let l = le-max_left v.given w.given in let r = le-max_right v.given w.given in
                let a : claims k v ≡ 0 = mine.1 k (omega arith) in let b : claims k w ≡ 0 = known.1 k (omega arith) in
                let s = sums k in let goal : claims k x ≡ 0 = omega arith in goal,
          ) j u e)
          ((omega arith), λ _ _. refl))
