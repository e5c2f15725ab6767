-- Whose turn it is in a group, by what its members do.
use Rattle.std.proofs.Common.{◌≡◌, ◌⊎◌, inl, inr, ℕ, ◌+◌, ◌<◌, ◌≤◌, Bool, true, false, cond, not, List, [], ◌∷◌, ◌++◌, map, length, get_or, take, Option, Some, None, Result, refl, sym, ap, ◌∙◌, subst, zero, suc, arith}
use Rattle.std.specs.Prelude.{find, slice_get, nat_lt}
use Rattle.std.specs.List.{position, position_or_len}
use Rattle.std.proofs.lemmas.Bool.{ltb-true}
use Rattle.std.proofs.lemmas.List.{length-map}
use Rattle.mvn_coords.specs.Layout.{Directory}
use Rattle.mvn_coords.specs.declared.kind.Kind.{Kind}
use Rattle.mvn_coords.specs.declared.fault.PathFault.{PathFault}
use Rattle.group_view.specs.Members.{earlier, fetches, next}
use Rattle.group_view.specs.declared.stances.Stance.{Stance}
use Rattle.group_view.specs.declared.stances.Turn.{Turn}
use Rattle.group_view.specs.declared.stances.Turn.TheVariants.{Ask, Serve, Nothing}
use Rattle.group_laws.specs.Seen.{asked_of, seen_of, stance_of}
use Rattle.group_laws.proofs.Turns.{document-turn}
use Rattle.repo_model.specs.State.{State}
use Rattle.repo_model.specs.Turn.{Seen, each_document, each_seen, fetches_one, first_or, is_nothing, is_to_fetch, member_document, member_seen, with_some}
use Rattle.repo_parts.specs.Looks.{AreStances, IsStance}
use Rattle.std.proofs.lemmas.Option.{slice_get-get_or, slice_get_read}

-- a stance fetches where what is seen is to be fetched
fetches-so : (seen : Seen) → fetches (stance_of seen) ≡ fetches_one seen
fetches-so (is_to_fetch member rule path of_file) = refl
fetches-so seen = refl

-- of files the stances are these
same-stances : (seens : List Seen) (stances : List Stance) → AreStances false seens stances → stances ≡ map stance_of seens
same-stances [] [] all = refl
same-stances [] (x ∷ xs) all = absurd all
same-stances (seen ∷ seens) [] all = absurd all
same-stances (seen ∷ seens) (x ∷ xs) all = λ i. all.0 i ∷ same-stances seens xs all.1 i

-- of documents those fetch that are to
same-fetches : (seens : List Seen) (stances : List Stance) → AreStances true seens stances → map fetches stances ≡ map fetches (map stance_of seens)
same-fetches [] [] all = refl
same-fetches [] (x ∷ xs) all = absurd all
same-fetches (seen ∷ seens) [] all = absurd all
same-fetches (seen ∷ seens) (x ∷ xs) all = λ i. (all.0 ∙ sym (fetches-so seen)) i ∷ same-fetches seens xs all.1 i

-- the first that fetches, by which ones fetch
or-len : (stances : List Stance) → position_or_len fetches stances ≡ position_or_len (λ b. b) (map fetches stances)
or-len [] = refl
or-len (x ∷ stances) = ap (λ n. cond (not (fetches x)) (1 + n) 0) (or-len stances)

first-fetches : (stances : List Stance) → position fetches stances ≡ position (λ b. b) (map fetches stances)
first-fetches stances =
    let among = map fetches stances in
    ap (λ n. cond (nat_lt n (length stances)) (Some n) None) (or-len stances)
    ∙ ap (λ m. cond (nat_lt (position_or_len (λ b. b) among) m) (Some (position_or_len (λ b. b) among)) None) (sym (length-map stances fetches))

-- whose turn it is, by what the members do
pub next-so : (of_document : Bool) (seens : List Seen) (stances : List Stance) → AreStances of_document seens stances → next of_document stances ≡ next of_document (map stance_of seens)
next-so false seens stances all = ap (next false) (same-stances seens stances all)
next-so true seens stances all =
    let due = map stance_of seens in
    ap (earlier None) (first-fetches stances ∙ ap (position (λ b. b)) (same-fetches seens stances all) ∙ sym (first-fetches due))

-- one more member
pub stances-more : (of_document : Bool) (seens : List Seen) (stances : List Stance) (seen : Seen) (x : Stance) → AreStances of_document seens stances → IsStance of_document seen x
    → AreStances of_document (seens ++ seen ∷ []) (stances ++ x ∷ [])
stances-more of_document [] [] seen x all here = (here, tt)
stances-more of_document [] (y ∷ ys) seen x all here = absurd all
stances-more of_document (first ∷ seens) [] seen x all here = absurd all
stances-more of_document (first ∷ seens) (y ∷ ys) seen x all here = (all.0, stances-more of_document seens ys seen x all.1 here)

module _ (s : State) (now : ℕ) (tried path : List ℕ) (k : Result Kind PathFault) where
  -- what the members have up to a place, and at it
  seen-more : (member i : ℕ) (ids : List (List ℕ)) (id : List ℕ) → i < length ids → id ≡ get_or ids i id
      → each_seen s now tried path k member (take (i + 1) ids) ≡ each_seen s now tried path k member (take i ids) ++ member_seen s now tried path k (member + i) id ∷ []
  seen-more member i [] id within is = absurd (omega (arith, within))
  seen-more member zero (first ∷ ids) id within is =
      ap (λ n. member_seen s now tried path k n first ∷ []) (let e : member ≡ member + 0 = omega arith in e)
      ∙ ap (λ one. member_seen s now tried path k (member + 0) one ∷ []) (sym is)
  seen-more member (suc i) (first ∷ ids) id within is =
      ap (λ n. each_seen s now tried path k member (take n (first ∷ ids))) (let e : suc i + 1 ≡ suc (i + 1) = omega arith in e)
      ∙ ap (λ rest. member_seen s now tried path k member first ∷ rest)
      (seen-more (member + 1) i ids id (omega (arith, within)) is
      ∙ ap (λ n. each_seen s now tried path k (member + 1) (take i ids) ++ member_seen s now tried path k n id ∷ []) (let e : member + 1 + i ≡ member + suc i = omega arith in e))

  -- what the member at a place has
  pub seen-at-place : (member i : ℕ) (ids : List (List ℕ)) (id : List ℕ) → slice_get ids i ≡ Some id → slice_get (each_seen s now tried path k member ids) i ≡ Some (member_seen s now tried path k (member + i) id)
  seen-at-place member i [] id is = cc
  seen-at-place member zero (first ∷ ids) id is =
      let same : first ≡ id = cc in
      ap (λ one. Some (member_seen s now tried path k member one)) same ∙ ap (λ n. Some (member_seen s now tried path k n id)) (let e : member ≡ member + 0 = omega arith in e)
  seen-at-place member (suc i) (first ∷ ids) id is =
      seen-at-place (member + 1) i ids id is ∙ ap (λ n. Some (member_seen s now tried path k n id)) (let e : member + 1 + i ≡ member + suc i = omega arith in e)

  pub seen-at : (i : ℕ) (ids : List (List ℕ)) (id : List ℕ) → i < length ids → id ≡ get_or ids i id → slice_get (each_seen s now tried path k 0 ids) i ≡ Some (member_seen s now tried path k i id)
  seen-at i ids id within is =
      seen-at-place 0 i ids id (slice_get_read ids (length ids) i id refl within is) ∙ ap (λ n. Some (member_seen s now tried path k n id)) (let e : 0 + i ≡ i = omega arith in e)

  pub seens-at : (i : ℕ) (ids : List (List ℕ)) (id : List ℕ) → i < length ids → id ≡ get_or ids i id
      → each_seen s now tried path k 0 (take (i + 1) ids) ≡ each_seen s now tried path k 0 (take i ids) ++ member_seen s now tried path k i id ∷ []
  seens-at i ids id within is =
      seen-more 0 i ids id within is ∙ ap (λ n. each_seen s now tried path k 0 (take i ids) ++ member_seen s now tried path k n id ∷ []) (let e : 0 + i ≡ i = omega arith in e)

  pub none-at-place : (member i : ℕ) (ids : List (List ℕ)) → length ids ≤ i → slice_get (each_seen s now tried path k member ids) i ≡ None
  none-at-place member i [] past = refl
  none-at-place member zero (first ∷ ids) past = absurd (omega (arith, past))
  none-at-place member (suc i) (first ∷ ids) past = none-at-place (member + 1) i ids (omega (arith, past))

-- ---- the documents of members
with-more : {A : Type 0} (one : Option A) (xs ys : List A) → with_some one (xs ++ ys) ≡ with_some one xs ++ ys
with-more None xs ys = refl
with-more (Some x) xs ys = refl

module _ (s : State) (now : ℕ) (tried at : List ℕ) (d : Directory) where
  -- what the members serve up to a place, and at it
  documents-more : (member i : ℕ) (ids : List (List ℕ)) (id : List ℕ) → i < length ids → id ≡ get_or ids i id
      → each_document s now tried at d member (take (i + 1) ids)
      ≡ each_document s now tried at d member (take i ids) ++ with_some (member_document s now tried at d (member + i) id) []
  documents-more member i [] id within is = absurd (omega (arith, within))
  documents-more member zero (first ∷ ids) id within is =
      ap (λ n. with_some (member_document s now tried at d n first) []) (let e : member ≡ member + 0 = omega arith in e)
      ∙ ap (λ one. with_some (member_document s now tried at d (member + 0) one) []) (sym is)
  documents-more member (suc i) (first ∷ ids) id within is =
      ap (λ n. each_document s now tried at d member (take n (first ∷ ids))) (let e : suc i + 1 ≡ suc (i + 1) = omega arith in e)
      ∙ ap (with_some (member_document s now tried at d member first))
      (documents-more (member + 1) i ids id (omega (arith, within)) is
      ∙ ap (λ n. each_document s now tried at d (member + 1) (take i ids) ++ with_some (member_document s now tried at d n id) []) (let e : member + 1 + i ≡ member + suc i = omega arith in e))
      ∙ with-more (member_document s now tried at d member first) (each_document s now tried at d (member + 1) (take i ids)) (with_some (member_document s now tried at d (member + suc i) id) [])

  pub documents-at : (i : ℕ) (ids : List (List ℕ)) (id : List ℕ) → i < length ids → id ≡ get_or ids i id
      → each_document s now tried at d 0 (take (i + 1) ids) ≡ each_document s now tried at d 0 (take i ids) ++ with_some (member_document s now tried at d i id) []
  documents-at i ids id within is =
      documents-more 0 i ids id within is ∙ ap (λ n. each_document s now tried at d 0 (take i ids) ++ with_some (member_document s now tried at d n id) []) (let e : 0 + i ≡ i = omega arith in e)

-- ---- what a group has, by whose turn it is
-- the member whose turn it is to ask for a document is there
asked-within : (n m place : ℕ) (b : Bool) → nat_lt n m ≡ b → earlier None (cond b (Some n) None) ≡ Ask place → place < m
asked-within n m place true is turn =
    let same : n ≡ place = cc in
    subst (λ k. k < m) same (ltb-true n m is)
asked-within n m place false is turn = cc

-- of a document it is that of the member that asks
pub asked-seen : (seens : List Seen) (place : ℕ) (rest : Seen) → next true (map stance_of seens) ≡ Ask place
    → first_or (find fetches_one seens) rest ≡ first_or (slice_get seens place) is_nothing
asked-seen seens place rest turn =
    let stances = map stance_of seens in
    let within : place < length stances = asked-within (position_or_len fetches stances) (length stances) place (nat_lt (position_or_len fetches stances) (length stances)) refl turn in
    let inside : place < length seens = subst (λ n. place < n) (length-map seens stance_of) within in
    let there : slice_get seens place ≡ Some (get_or seens place is_nothing) = slice_get-get_or seens place is_nothing inside in
    ap (λ o. first_or o rest) (document-turn seens ∙ ap (asked_of seens) turn ∙ there) ∙ sym (ap (λ o. first_or o is_nothing) there)

-- and that of all, where none asks
pub none-asks : (seens : List Seen) (t : Turn) → t ≡ next true (map stance_of seens) → ((place : ℕ) → t ≡ Ask place → ⊥) → find fetches_one seens ≡ None
none-asks seens t is never = document-turn seens ∙ ap (asked_of seens) (sym is) ∙ by t never where
  by : (u : Turn) → ((place : ℕ) → u ≡ Ask place → ⊥) → asked_of seens u ≡ None
  by (Ask place) silent = absurd (silent place refl)
  by (Serve place) silent = refl
  by Nothing silent = refl

pub all-seen : (seens : List Seen) (rest : Seen) (t : Turn) → t ≡ next true (map stance_of seens) → ((place : ℕ) → t ≡ Ask place → ⊥) → first_or (find fetches_one seens) rest ≡ rest
all-seen seens rest t is never = ap (λ o. first_or o rest) (none-asks seens t is never)

-- of a file it is that of the member whose turn it is
pub turn-seen : (seens : List Seen) (t : Turn) (place : ℕ) → (t ≡ Ask place) ⊎ (t ≡ Serve place) → seen_of seens t ≡ first_or (slice_get seens place) is_nothing
turn-seen seens t place (inl is) = ap (seen_of seens) is
turn-seen seens t place (inr is) = ap (seen_of seens) is
