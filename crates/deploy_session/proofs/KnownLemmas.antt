-- Sessions in the entries of a map from numbers.
use Rattle.std.proofs.Common.{◌≡◌, ℕ, ◌<◌, true, false, cond, ◌&&◌, List, [], ◌∷◌, ◌++◌, Option, Some, None, option_map, Less, Equal, Greater, is_eq, nat_cmp, nat_lt, eqb, refl, sym, ap, ◌∙◌, subst, arith, ⊎_elim}
use Rattle.std.specs.Prelude.{find, is_none, is_some}
use Rattle.std.proofs.lemmas.Bool.{eqb-true, eq-eqb, ne_eqb, cases_eq, ltb-true, and_parts}
use Rattle.std.proofs.lemmas.Cmp.{ranked}
use Rattle.std.proofs.lemmas.Option.{none-some}
use Rattle.repo_model.specs.Turn.{staged_at}
use Rattle.std.specs.BTreeMap.{is_at, insert_entry}
use Rattle.std.specs.Cmp.{nat_cmp_is}
use Rattle.std.specs.List.{AllByRecursion, list_all}
use Rattle.std.specs.List.Sorted.{IsStrictlySortedBy}
use Rattle.std.specs.Map.{keys_of, lookup, remove_entry, set_value}
use Rattle.std.specs.Ordering.{match_ordering}
use Rattle.outside.specs.declared.stores.Held.{Ghosts}
use Rattle.repo_model.specs.Data as plain
use Rattle.repo_model.specs.State.{change_first, is_open, is_open_at, is_session}
use Rattle.deploy_session.specs.Known.{is_drawn}
use Rattle.deploy_session.specs.Shown.{shown_files, shown_session, shown_sessions}
use Rattle.deploy_session.specs.declared.known.Session.{Session}

eqb_sym : (a b : ℕ) → eqb a b ≡ eqb b a
eqb_sym a b =
    ⊎_elim (λ e. eq-eqb a b e ∙ sym (eq-eqb b a (sym e))) (λ ne. ne_eqb a b ne ∙ sym (ne_eqb b a (λ h. ne (sym h)))) (cases_eq a b)

below_eqb : (k n : ℕ) → k < n → eqb k n ≡ false
below_eqb k n h = ne_eqb k n (λ e. absurd (omega (arith, e, h)))

above_eqb : (k n : ℕ) → k < n → eqb n k ≡ false
above_eqb k n h = ne_eqb n k (λ e. absurd (omega (arith, e, h)))

-- the test of the map and that of the sessions
pub same_number : (n m : ℕ) → is_at (nat_cmp n) m ≡ eqb m n
same_number n m =
    elim (nat_lt n m) as (λ b. nat_lt n m ≡ b → is_eq (cond b Less (cond (eqb n m) Equal Greater)) ≡ eqb n m) [
      | true ↦ λ h. sym (below_eqb n m (ltb-true n m h))
      | false ↦ λ h. elim (eqb n m) as (λ b. is_eq (cond b Equal Greater) ≡ b) [ true ↦ refl | false ↦ refl ]
    ] refl
    ∙ eqb_sym n m

some-injective : {A : Type 0} {x y : A} → Some x ≡ Some y → x ≡ y
some-injective h = cc

-- a session, if it is open
abbrev pub if_open : Option plain.Session → Option plain.Session
if_open None = None
if_open (Some s) = cond (is_open s) (Some s) None

module _ {X : Type 0} {G : Ghosts X} where
  -- what the map finds under a number
  pub found : (n : ℕ) (es : List (ℕ × Session X G)) → option_map (λ (s : Session X G). shown_session (n, s)) (lookup (is_at (nat_cmp n)) es) ≡ find (is_session n) (shown_sessions es)
  found n [] = refl
  found n (e ∷ es) =
      rw (same_number n e.0)
      (elim (eqb e.0 n)
      as (λ b. eqb e.0 n ≡ b → option_map (λ (s : Session X G). shown_session (n, s)) (cond b (Some e.1) (lookup (is_at (nat_cmp n)) es)) ≡ cond b (Some (shown_session e)) (find (is_session n) (shown_sessions es))) [
        | true ↦ λ h. ap (λ k. Some (shown_session (k, e.1))) (sym (eqb-true e.0 n h))
        | false ↦ λ h. found n es
      ] refl)

  none_later : (n : ℕ) (es : List (ℕ × Session X G)) → AllByRecursion (λ m. nat_cmp n m ≡ Less) (keys_of es) → find (is_open_at n) (shown_sessions es) ≡ None
  none_later n [] above = refl
  none_later n (e ∷ es) above =
      ap (λ b. cond (b && is_none e.1.ended) (Some (shown_session e)) (find (is_open_at n) (shown_sessions es))) (above_eqb n e.0 (ranked n e.0 Less (sym above.0)))
      ∙ none_later n es above.1

  -- the open one is the one of the number
  pub found_open : (n : ℕ) (es : List (ℕ × Session X G)) → IsStrictlySortedBy nat_cmp (keys_of es)
      → find (is_open_at n) (shown_sessions es) ≡ if_open (find (is_session n) (shown_sessions es))
  unfolding IsStrictlySortedBy
  found_open n [] sorted = refl
  found_open n (e ∷ es) sorted =
      elim (eqb e.0 n)
      as (λ b. eqb e.0 n ≡ b → cond (b && is_none e.1.ended) (Some (shown_session e)) (find (is_open_at n) (shown_sessions es)) ≡ if_open (cond b (Some (shown_session e)) (find (is_session n) (shown_sessions es)))) [
        | true ↦ λ h.
            let behind : find (is_open_at n) (shown_sessions es) ≡ None = subst (λ m. find (is_open_at m) (shown_sessions es) ≡ None) (eqb-true e.0 n h) (none_later e.0 es sorted.0) in
            ap (λ o. cond (is_none e.1.ended) (Some (shown_session e)) o) behind
        | false ↦ λ h. found_open n es sorted.1
      ] refl

  -- the open session of a number is written over
  pub written : (n : ℕ) (f : plain.Session → plain.Session) (es : List (ℕ × Session X G)) (old new : Session X G)
      → lookup (is_at (nat_cmp n)) es ≡ Some old → is_none old.ended ≡ true → shown_session (n, new) ≡ f (shown_session (n, old))
      → shown_sessions (set_value (is_at (nat_cmp n)) es new) ≡ change_first (is_open_at n) f (shown_sessions es)
  written n f [] old new is so change = absurd (none-some old is)
  written n f (e ∷ es) old new is so change =
      let test = same_number n e.0 in
      elim (eqb e.0 n)
      as (λ b. eqb e.0 n ≡ b → shown_sessions (set_value (is_at (nat_cmp n)) (e ∷ es) new)
      ≡ cond (b && is_none e.1.ended) (f (shown_session e) ∷ shown_sessions es) (shown_session e ∷ change_first (is_open_at n) f (shown_sessions es))) [
        | true ↦ λ h.
            let number : e.0 ≡ n = eqb-true e.0 n h in
            let first : Some e.1 ≡ Some old = sym (ap (λ b. cond b (Some e.1) (lookup (is_at (nat_cmp n)) es)) (test ∙ h)) ∙ is in
            let same : e.1 ≡ old = cc in
            ap (λ b. shown_sessions (cond b ((e.0, new) ∷ es) (e ∷ set_value (is_at (nat_cmp n)) es new))) (test ∙ h)
            ∙ ap (λ k. shown_session (k, new) ∷ shown_sessions es) number
            ∙ ap (λ s. s ∷ shown_sessions es) change
            ∙ ap (λ k. f (shown_session (k, old)) ∷ shown_sessions es) (sym number)
            ∙ ap (λ s. f (shown_session (e.0, s)) ∷ shown_sessions es) (sym same)
            ∙ sym (ap (λ b. cond b (f (shown_session e) ∷ shown_sessions es) (shown_session e ∷ change_first (is_open_at n) f (shown_sessions es))) (ap (λ (s : Session X G). is_none s.ended) same ∙ so))
        | false ↦ λ h.
            let behind : lookup (is_at (nat_cmp n)) es ≡ Some old = sym (ap (λ b. cond b (Some e.1) (lookup (is_at (nat_cmp n)) es)) (test ∙ h)) ∙ is in
            ap (λ b. shown_sessions (cond b ((e.0, new) ∷ es) (e ∷ set_value (is_at (nat_cmp n)) es new))) (test ∙ h)
            ∙ ap (λ ss. shown_session e ∷ ss) (written n f es old new behind so change)
      ] refl

  pub unwritten : (n : ℕ) (f : plain.Session → plain.Session) (es : List (ℕ × Session X G)) → lookup (is_at (nat_cmp n)) es ≡ None
      → shown_sessions es ≡ change_first (is_open_at n) f (shown_sessions es)
  unwritten n f [] none = refl
  unwritten n f (e ∷ es) none =
      let test = same_number n e.0 in
      elim (eqb e.0 n)
      as (λ b. eqb e.0 n ≡ b → shown_sessions (e ∷ es) ≡ cond (b && is_none e.1.ended) (f (shown_session e) ∷ shown_sessions es) (shown_session e ∷ change_first (is_open_at n) f (shown_sessions es))) [
        | true ↦ λ h. absurd (none-some e.1 (sym (sym (ap (λ b. cond b (Some e.1) (lookup (is_at (nat_cmp n)) es)) (test ∙ h)) ∙ none)))
        | false ↦ λ h. ap (λ ss. shown_session e ∷ ss) (unwritten n f es (sym (ap (λ b. cond b (Some e.1) (lookup (is_at (nat_cmp n)) es)) (test ∙ h)) ∙ none))
      ] refl

  -- what is found under the number of an open session is that one
  pub open_there : (n : ℕ) (es : List (ℕ × Session X G)) (s : Session X G) → IsStrictlySortedBy nat_cmp (keys_of es) → lookup (is_at (nat_cmp n)) es ≡ Some s
      → is_some (find (is_open_at n) (shown_sessions es)) ≡ true → is_none s.ended ≡ true
  open_there n es s sorted is there =
      let whole : find (is_open_at n) (shown_sessions es) ≡ if_open (Some (shown_session (n, s))) =
      found_open n es sorted ∙ ap if_open (sym (found n es) ∙ ap (option_map (λ (s : Session X G). shown_session (n, s))) is) in
      elim (is_none s.ended) as (λ b. is_some (cond b (Some (shown_session (n, s))) None) ≡ true → b ≡ true) [ true ↦ λ h. refl | false ↦ λ h. h ] (sym (ap is_some whole) ∙ there)

  -- where the open session of a number has no file at a path, that is so of what is found
  pub free_there : (n : ℕ) (path : List ℕ) (es : List (ℕ × Session X G)) (s : Session X G) → IsStrictlySortedBy nat_cmp (keys_of es) → lookup (is_at (nat_cmp n)) es ≡ Some s
      → option_map (λ (t : plain.Session). staged_at path t.staged) (find (is_open_at n) (shown_sessions es)) ≡ Some None
      → (staged_at path (shown_files s.files.entries) ≡ None) × (is_none s.ended ≡ true)
  free_there n path es s sorted is free =
      let one : plain.Session = shown_session (n, s) in
      let whole : find (is_open_at n) (shown_sessions es) ≡ if_open (Some one) =
      found_open n es sorted ∙ ap if_open (sym (found n es) ∙ ap (option_map (λ (s : Session X G). shown_session (n, s))) is) in
      elim (is_none s.ended)
      as (λ b. option_map (λ (t : plain.Session). staged_at path t.staged) (cond b (Some one) None) ≡ Some None → (staged_at path one.staged ≡ None) × (b ≡ true)) [
        | true ↦ λ h. (some-injective h, refl)
        | false ↦ λ h. absurd (none-some _ h)
      ] (sym (ap (option_map (λ (t : plain.Session). staged_at path t.staged)) whole) ∙ free)

  -- a number that is greater than all comes last, and can be taken out again
  pub inserted : (next n : ℕ) (s : Session X G) (es : List (ℕ × Session X G)) → n ≡ next → list_all (is_drawn next) (shown_sessions es) ≡ true
      → insert_entry nat_cmp es n s ≡ es ++ (n, s) ∷ []
  inserted next n s [] is drawn = refl
  inserted next n s (e ∷ es) is drawn =
      let parts = and_parts (is_drawn next (shown_session e)) (list_all (is_drawn next) (shown_sessions es)) drawn in
      let below = ltb-true e.0 next (and_parts (nat_lt 0 e.0) (nat_lt e.0 next) parts.0).1 in
      ap (λ o. match_ordering o ((n, s) ∷ e ∷ es) ((e.0, s) ∷ es) (e ∷ insert_entry nat_cmp es n s)) (sym (nat_cmp_is n e.0 Greater (omega (arith, below, is))))
      ∙ ap (λ r. e ∷ r) (inserted next n s es is parts.1)

  pub taken_out : (next n : ℕ) (s : Session X G) (es : List (ℕ × Session X G)) → n ≡ next → list_all (is_drawn next) (shown_sessions es) ≡ true
      → remove_entry (is_at (nat_cmp n)) (es ++ (n, s) ∷ []) ≡ es
  taken_out next n s [] is drawn = ap (λ b. cond b [] ((n, s) ∷ [])) (same_number n n ∙ eq-eqb n n refl)
  taken_out next n s (e ∷ es) is drawn =
      let parts = and_parts (is_drawn next (shown_session e)) (list_all (is_drawn next) (shown_sessions es)) drawn in
      let below = ltb-true e.0 next (and_parts (nat_lt 0 e.0) (nat_lt e.0 next) parts.0).1 in
      ap (λ b. cond b (es ++ (n, s) ∷ []) (e ∷ remove_entry (is_at (nat_cmp n)) (es ++ (n, s) ∷ []))) (same_number n e.0 ∙ below_eqb e.0 n (omega (arith, below, is)))
      ∙ ap (λ r. e ∷ r) (taken_out next n s es is parts.1)
