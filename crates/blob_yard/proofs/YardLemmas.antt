-- The numbers as contracts see them, after a step.
use Rattle.std.proofs.Common.{◌≡◌, ℕ, ◌+◌, ◌-◌, Bool, true, false, cond, not, ◌&&◌, ◌||◌, List, [], ◌∷◌, ◌++◌, map, filter, take, drop, Option, Some, None, is_some, option_map, nat_eq, eqb, count_by, refl, sym, ap, ◌∙◌, subst, arith, zero-add, add-zero}
use Rattle.std.proofs.lemmas.Bool.{false≢true, eqb-true, ne_eqb, and_parts, or_left, false_from_ne_true}
use Rattle.std.proofs.lemmas.List.{map-append, take-append-drop}
use Rattle.std.proofs.lemmas.List.Folds.{list_any-append}
use Rattle.std.proofs.lemmas.List.Sums.{sum_by-cons, sum_by_push}
use Rattle.std.proofs.lemmas.Map.Entries.{lookup-filter-keys}
use Rattle.std.specs.List.{list_any}
use Rattle.std.specs.Map.{keys_of, values_of, lookup}
use Rattle.std.specs.Option.{option_map_or}
use Rattle.repo_model.specs.Effect.{drops, lends, returns, forgets, with_number, without_number, without_draft, condemning, yard_after}
use Rattle.repo_model.specs.State as plain
use Rattle.repo_model.specs.State.{is_among}
use Rattle.repo_model.specs.Turn.{unlent}
use Rattle.blob_yard.specs.Numbers.{Numbers}
use Rattle.blob_yard.specs.Places.{AreKept, AreRising, changed, is_draft, is_kept, is_condemned, is_garbage, garbage_of, numbers_of, leases_at, without}
use Rattle.blob_yard.specs.Shown.{AreCounted, numbers_from, shown_leases}
use Rattle.blob_yard.specs.declared.places.Place.{Place}
use Rattle.blob_yard.specs.declared.places.Stand.{Stand}
use Rattle.blob_yard.specs.declared.places.Stand.TheVariants.{Draft, Kept, Condemned}
use Rattle.blob_yard.proofs.MapLemmas.{eqb_sym, found-after, found-first, lookup-changed}
use Rattle.blob_yard.proofs.PlaceLemmas.{passing, among-passing, passing_same, passing_still, passing_out, passing_in, found_so}

abbrev numbers_by : List ℕ → List plain.Lease → List ℕ → List ℕ → ℕ → ℕ → ℕ → Numbers
numbers_by drafts leases condemned kept a b c = record {
  yard = record { drafts = drafts; leases = leases; condemned = condemned; next_draft = a; next_lease = b; next_session = c };
  kept = kept;
}

same_numbers : (ds es : List ℕ) (ls ms : List plain.Lease) (cs fs ks js : List ℕ) (a b c : ℕ) → ds ≡ es → ls ≡ ms → cs ≡ fs → ks ≡ js → numbers_by ds ls cs ks a b c ≡ numbers_by es ms fs js a b c
same_numbers ds es ls ms cs fs ks js a b c p q r s =
    ap (λ xs. numbers_by xs ls cs ks a b c) p ∙ ap (λ xs. numbers_by es xs cs ks a b c) q ∙ ap (λ xs. numbers_by es ms xs ks a b c) r ∙ ap (λ xs. numbers_by es ms fs xs a b c) s

draft_alone : (s : Stand) → is_draft s ≡ true → (is_kept s ≡ false) × (is_condemned s ≡ false)
draft_alone Draft h = (refl, refl)
draft_alone Kept h = absurd (false≢true h)
draft_alone Condemned h = absurd (false≢true h)

kept_alone : (s : Stand) → is_kept s ≡ true → (is_draft s ≡ false) × (is_condemned s ≡ false)
kept_alone Draft h = absurd (false≢true h)
kept_alone Kept h = (refl, refl)
kept_alone Condemned h = absurd (false≢true h)

abbrev drafts_at : Place → Bool
drafts_at p = is_draft p.stand

abbrev kept_at : Place → Bool
kept_at p = is_kept p.stand

abbrev condemned_at : Place → Bool
condemned_at p = is_condemned p.stand

abbrev pub placed : Stand → Place → Place
placed s p = record p { stand = s }

pub among-drafts : (n : ℕ) (es : List (ℕ × Place)) → AreRising es → option_map_or (λ (p : Place). is_draft p.stand) (lookup (nat_eq n) es) false ≡ is_among n (numbers_of is_draft es)
among-drafts n es up = sym (among-passing drafts_at n es up)

pub among-kept : (n : ℕ) (es : List (ℕ × Place)) → AreRising es → option_map_or (λ (p : Place). is_kept p.stand) (lookup (nat_eq n) es) false ≡ is_among n (numbers_of is_kept es)
among-kept n es up = sym (among-passing kept_at n es up)

module _ (n : ℕ) (es : List (ℕ × Place)) (ls : List (ℕ × ℕ)) (a b c : ℕ) (up : AreRising es) where
  -- a draft comes into use, or is given up
  pub kept_shown : is_among n (numbers_of is_draft es) ≡ true → numbers_from (changed n (placed Kept) es) ls a b c
      ≡ record { yard = without_draft n (numbers_from es ls a b c).yard; kept = with_number n (numbers_of is_kept es) }
  kept_shown among =
      let found = found_so drafts_at (lookup (nat_eq n) es) (sym (among-passing drafts_at n es up) ∙ among) in
      let alone = draft_alone (found.0).stand found.2 in
      same_numbers _ _ _ _ _ _ _ _ a b c (passing_out drafts_at n (placed Kept) es found.0 up found.1 found.2 (λ p. refl)) refl
      (passing_still condemned_at n (placed Kept) false es found.0 up found.1 alone.1 (λ p. refl))
      (passing_in kept_at n (placed Kept) es found.0 up found.1 alone.0 (λ p. refl))

  pub dropped_shown : is_among n (numbers_of is_draft es) ≡ true → numbers_from (changed n (placed Condemned) es) ls a b c
      ≡ record { yard = yard_after (drops n) (numbers_from es ls a b c).yard; kept = numbers_of is_kept es }
  dropped_shown among =
      let found = found_so drafts_at (lookup (nat_eq n) es) (sym (among-passing drafts_at n es up) ∙ among) in
      let alone = draft_alone (found.0).stand found.2 in
      same_numbers _ _ _ _ _ _ _ _ a b c (passing_out drafts_at n (placed Condemned) es found.0 up found.1 found.2 (λ p. refl)) refl
      (passing_in condemned_at n (placed Condemned) es found.0 up found.1 alone.1 (λ p. refl))
      (passing_still kept_at n (placed Condemned) false es found.0 up found.1 alone.0 (λ p. refl))

  -- a number in use becomes garbage
  pub condemned_shown : is_among n (numbers_of is_kept es) ≡ true → numbers_from (changed n (placed Condemned) es) ls a b c
      ≡ record { yard = condemning n (numbers_from es ls a b c).yard; kept = without_number n (numbers_of is_kept es) }
  condemned_shown among =
      let found = found_so kept_at (lookup (nat_eq n) es) (sym (among-passing kept_at n es up) ∙ among) in
      let alone = kept_alone (found.0).stand found.2 in
      same_numbers _ _ _ _ _ _ _ _ a b c (passing_still drafts_at n (placed Condemned) false es found.0 up found.1 alone.0 (λ p. refl)) refl
      (passing_in condemned_at n (placed Condemned) es found.0 up found.1 alone.1 (λ p. refl))
      (passing_out kept_at n (placed Condemned) es found.0 up found.1 found.2 (λ p. refl))

  -- a number in use has a place
  pub kept_place : is_among n (numbers_of is_kept es) ≡ true → (p : Place) × (lookup (nat_eq n) es ≡ Some p)
  kept_place among =
      let found = found_so kept_at (lookup (nat_eq n) es) (sym (among-passing kept_at n es up) ∙ among) in (found.0, found.1)

abbrev pub lend : Place → Place
lend p = record p { leases = p.leases + 1 }

abbrev pub give_back : Place → Place
give_back p = record p { leases = p.leases - 1 }

-- a lease, and a lease less
pub lent_shown : (n k : ℕ) (es : List (ℕ × Place)) (ls : List (ℕ × ℕ)) (a c : ℕ) → numbers_from (changed n lend es) (ls ++ (k, n) ∷ []) a (k + 1) c
    ≡ record (numbers_from es ls a k c) { yard = yard_after (lends n) (numbers_from es ls a k c).yard }
lent_shown n k es ls a c =
    same_numbers _ _ _ _ _ _ _ _ a (k + 1) c (passing_same drafts_at n lend es (λ p. refl))
    (map-append (λ (e : ℕ × ℕ). record { number = e.0; blob = e.1 }) ls ((k, n) ∷ []))
    (passing_same condemned_at n lend es (λ p. refl)) (passing_same kept_at n lend es (λ p. refl))

shown_leases-filter : (lease : ℕ) (ls : List (ℕ × ℕ)) → shown_leases (filter (λ e. not (eqb e.0 lease)) ls) ≡ filter (λ (l : plain.Lease). not (eqb l.number lease)) (shown_leases ls)
shown_leases-filter lease [] = refl
shown_leases-filter lease (e ∷ ls) =
    elim (eqb e.0 lease) as (λ b. shown_leases (cond (not b) (e ∷ filter (λ e. not (eqb e.0 lease)) ls) (filter (λ e. not (eqb e.0 lease)) ls))
    ≡ cond (not b) (record { number = e.0; blob = e.1 } ∷ filter (λ (l : plain.Lease). not (eqb l.number lease)) (shown_leases ls)) (filter (λ (l : plain.Lease). not (eqb l.number lease)) (shown_leases ls))) [
      | true ↦ shown_leases-filter lease ls
      | false ↦ ap (λ r. record { number = e.0; blob = e.1 } ∷ r) (shown_leases-filter lease ls)
    ]

pub returned_shown : (n lease : ℕ) (es : List (ℕ × Place)) (ls : List (ℕ × ℕ)) (a b c : ℕ) → numbers_from (changed n give_back es) (filter (λ e. not (eqb e.0 lease)) ls) a b c
    ≡ record (numbers_from es ls a b c) { yard = yard_after (returns lease) (numbers_from es ls a b c).yard }
returned_shown n lease es ls a b c =
    same_numbers _ _ _ _ _ _ _ _ a b c (passing_same drafts_at n give_back es (λ p. refl)) (shown_leases-filter lease ls)
    (passing_same condemned_at n give_back es (λ p. refl)) (passing_same kept_at n give_back es (λ p. refl))

pub unreturned_shown : (lease : ℕ) (es : List (ℕ × Place)) (ls : List (ℕ × ℕ)) (a b c : ℕ) → numbers_from es (filter (λ e. not (eqb e.0 lease)) ls) a b c
    ≡ record (numbers_from es ls a b c) { yard = yard_after (returns lease) (numbers_from es ls a b c).yard }
unreturned_shown lease es ls a b c = same_numbers _ _ _ _ _ _ _ _ a b c refl (shown_leases-filter lease ls) refl refl

pub found-lease : (lease : ℕ) (ls : List (ℕ × ℕ)) → list_any (λ (l : plain.Lease). eqb l.number lease) (shown_leases ls) ≡ list_any (λ m. eqb m lease) (keys_of ls)
found-lease lease [] = refl
found-lease lease (e ∷ ls) = ap (λ b. eqb e.0 lease || b) (found-lease lease ls)

-- numbers of which each is in use
kept_none : (test : Stand → Bool) (es : List (ℕ × Place)) → test Kept ≡ false → AreKept es → numbers_of test es ≡ []
kept_none test [] h kept = refl
kept_none test (e ∷ es) h kept =
    ap (λ (p : Place). map (λ (e : ℕ × Place). e.0) (cond (test p.stand) (e ∷ filter (λ e. test e.1.stand) es) (filter (λ e. test e.1.stand) es))) kept.0
    ∙ ap (λ b. map (λ (e : ℕ × Place). e.0) (cond b (e ∷ filter (λ e. test e.1.stand) es) (filter (λ e. test e.1.stand) es))) h
    ∙ kept_none test es h kept.1

pub kept_all : (es : List (ℕ × Place)) → AreKept es → numbers_of is_kept es ≡ keys_of es
kept_all [] kept = refl
kept_all (e ∷ es) kept =
    ap (λ (p : Place). map (λ (e : ℕ × Place). e.0) (cond (is_kept p.stand) (e ∷ filter (λ e. is_kept e.1.stand) es) (filter (λ e. is_kept e.1.stand) es))) kept.0
    ∙ ap (λ r. e.0 ∷ r) (kept_all es kept.1)

pub started_shown : (es : List (ℕ × Place)) (a b c : ℕ) → AreKept es → (numbers_from es [] a b c).yard ≡ record { drafts = []; leases = []; condemned = []; next_draft = a; next_lease = b; next_session = c }
started_shown es a b c kept =
    ap (λ (ns : Numbers). ns.yard) (same_numbers _ _ _ _ _ _ _ _ a b c (kept_none is_draft es refl kept) refl (kept_none is_condemned es refl kept) (kept_all es kept))

-- ---- how many leases there are
kept_unlent : (es : List (ℕ × Place)) (n : ℕ) → AreKept es → leases_at n es ≡ 0
kept_unlent [] n kept = refl
kept_unlent (e ∷ es) n kept =
    elim (eqb n e.0) as (λ b. option_map_or (λ (p : Place). p.leases) (cond b (Some e.1) (lookup (nat_eq n) es)) 0 ≡ 0) [
      | true ↦ ap (λ (p : Place). p.leases) kept.0
      | false ↦ kept_unlent es n kept.1
    ]

pub started_counted : (es : List (ℕ × Place)) → AreKept es → AreCounted es []
started_counted es kept n = kept_unlent es n kept

abbrev leases_in : Option Place → ℕ
leases_in o = option_map_or (λ (p : Place). p.leases) o 0

leases_in-placed : (b : Bool) (s : Stand) (o : Option Place) → leases_in (option_map (λ p. cond b (placed s p) p) o) ≡ leases_in o
leases_in-placed b s None = refl
leases_in-placed true s (Some p) = refl
leases_in-placed false s (Some p) = refl

pub placed_counted : (n : ℕ) (s : Stand) (es : List (ℕ × Place)) (ls : List (ℕ × ℕ)) → AreCounted es ls → AreCounted (changed n (placed s) es) ls
placed_counted n s es ls counted m = ap leases_in (lookup-changed m n (placed s) es) ∙ leases_in-placed (nat_eq n m) s (lookup (nat_eq m) es) ∙ counted m

leases_at-push : (m n : ℕ) (s : Stand) (es : List (ℕ × Place)) → leases_at m (es ++ (n, record { stand = s; leases = 0 }) ∷ []) ≡ leases_at m es
leases_at-push m n s [] = elim (eqb m n) as (λ b. leases_in (cond b (Some (record { stand = s; leases = 0 })) None) ≡ 0) [ true ↦ refl | false ↦ refl ]
leases_at-push m n s (e ∷ es) =
    elim (eqb m e.0) as (λ b. leases_in (cond b (Some e.1) (lookup (nat_eq m) (es ++ (n, record { stand = s; leases = 0 }) ∷ []))) ≡ leases_in (cond b (Some e.1) (lookup (nat_eq m) es))) [
      | true ↦ refl
      | false ↦ leases_at-push m n s es
    ]

pub drawn_counted : (n : ℕ) (es : List (ℕ × Place)) (ls : List (ℕ × ℕ)) → AreCounted es ls → AreCounted (es ++ (n, record { stand = Draft; leases = 0 }) ∷ []) ls
drawn_counted n es ls counted m = leases_at-push m n Draft es ∙ counted m

abbrev count_in : ℕ → List (ℕ × ℕ) → ℕ
count_in m ls = count_by (λ b. eqb b m) (values_of ls)

count_in-push : (m k n : ℕ) (ls : List (ℕ × ℕ)) → count_in m (ls ++ (k, n) ∷ []) ≡ count_in m ls + cond (eqb n m) 1 0
count_in-push m k n ls =
    ap (count_by (λ b. eqb b m)) (map-append (λ (e : ℕ × ℕ). e.1) ls ((k, n) ∷ [])) ∙ sum_by_push (λ b. cond (eqb b m) 1 0) (values_of ls) n

pub lent_counted : (n k : ℕ) (p : Place) (es : List (ℕ × Place)) (ls : List (ℕ × ℕ)) → lookup (nat_eq n) es ≡ Some p → AreCounted es ls → AreCounted (changed n lend es) (ls ++ (k, n) ∷ [])
lent_counted n k p es ls is counted m =
    ap leases_in (lookup-changed m n lend es)
    ∙ elim (eqb n m) as (λ b. eqb n m ≡ b → leases_in (option_map (λ p. cond b (lend p) p) (lookup (nat_eq m) es)) ≡ count_in m ls + cond b 1 0) [
      | true ↦ λ here.
          let at : lookup (nat_eq m) es ≡ Some p = subst (λ x. lookup (nat_eq x) es ≡ Some p) (eqb-true n m here) is in
          ap (λ o. leases_in (option_map lend o)) at ∙ ap (λ x. x + 1) (sym (ap leases_in at) ∙ counted m)
      | false ↦ λ there. leases_in-same (lookup (nat_eq m) es) ∙ counted m ∙ sym (add-zero (count_in m ls))
    ] refl
    ∙ sym (count_in-push m k n ls)
  where
    leases_in-same : (o : Option Place) → leases_in (option_map (λ p. p) o) ≡ leases_in o
    leases_in-same None = refl
    leases_in-same (Some p) = refl

pub returned_counted : (n : ℕ) (es : List (ℕ × Place)) (ls ms : List (ℕ × ℕ)) → ((m : ℕ) → count_in m ms + cond (eqb n m) 1 0 ≡ count_in m ls) → AreCounted es ls → AreCounted (changed n give_back es) ms
returned_counted n es ls ms fewer counted m =
    ap leases_in (lookup-changed m n give_back es)
    ∙ elim (eqb n m) as (λ b. eqb n m ≡ b → leases_in (option_map (λ p. cond b (give_back p) p) (lookup (nat_eq m) es)) ≡ count_in m ms) [
      | true ↦ λ here.
          let less : count_in m ms + 1 ≡ count_in m ls = ap (λ b. count_in m ms + cond b 1 0) (sym here) ∙ fewer m in
          let all : leases_in (lookup (nat_eq m) es) ≡ count_in m ls = counted m in
          leases_in-back (lookup (nat_eq m) es) ∙ omega (arith, less, all)
      | false ↦ λ there.
          leases_in-same (lookup (nat_eq m) es) ∙ counted m ∙ sym (fewer m) ∙ ap (λ b. count_in m ms + cond b 1 0) there ∙ add-zero (count_in m ms)
    ] refl
  where
    leases_in-same : (o : Option Place) → leases_in (option_map (λ p. p) o) ≡ leases_in o
    leases_in-same None = refl
    leases_in-same (Some p) = refl

    leases_in-back : (o : Option Place) → leases_in (option_map give_back o) ≡ leases_in o - 1
    leases_in-back None = refl
    leases_in-back (Some p) = refl

-- ---- garbage
lent-count : (n : ℕ) (ls : List (ℕ × ℕ)) → list_any (λ (l : plain.Lease). eqb l.blob n) (shown_leases ls) ≡ not (eqb (count_in n ls) 0)
lent-count n [] = refl
lent-count n (e ∷ ls) =
    elim (eqb e.1 n) as (λ b. (b || list_any (λ (l : plain.Lease). eqb l.blob n) (shown_leases ls)) ≡ not (eqb (cond b 1 0 + count_in n ls) 0)) [
      | true ↦ sym (ap not (ne_eqb (1 + count_in n ls) 0 (λ h. absurd (omega (arith, h)))))
      | false ↦ lent-count n ls ∙ ap (λ m. not (eqb m 0)) (sym (zero-add (count_in n ls)))
    ]
    ∙ ap (λ m. not (eqb m 0)) (sym (sum_by-cons (λ b. cond (eqb b n) 1 0) e.1 (values_of ls)))

not-not : (b : Bool) → not (not b) ≡ b
not-not true = refl
not-not false = refl

unlent-garbage : (lent : ℕ → Bool) (es : List (ℕ × Place)) → AreRising es → ((n : ℕ) (p : Place) → lookup (nat_eq n) es ≡ Some p → lent n ≡ not (eqb p.leases 0))
    → filter (λ n. not (lent n)) (numbers_of is_condemned es) ≡ garbage_of es
unlent-garbage lent [] up h = refl
unlent-garbage lent (e ∷ es) up h =
    let behind = unlent-garbage lent es up.1 (λ n p is. h n p (found-after n p e es up is)) in
    let first : not (lent e.0) ≡ eqb e.1.leases 0 = ap not (h e.0 e.1 (found-first e es)) ∙ not-not (eqb e.1.leases 0) in
    elim (is_condemned e.1.stand) as (λ b. filter (λ n. not (lent n)) (map (λ (e : ℕ × Place). e.0) (cond b (e ∷ filter (λ e. is_condemned e.1.stand) es) (filter (λ e. is_condemned e.1.stand) es)))
    ≡ map (λ (e : ℕ × Place). e.0) (cond (b && eqb e.1.leases 0) (e ∷ filter (λ e. is_garbage e.1) es) (filter (λ e. is_garbage e.1) es))) [
      | true ↦
          ap (λ b. cond b (e.0 ∷ filter (λ n. not (lent n)) (numbers_of is_condemned es)) (filter (λ n. not (lent n)) (numbers_of is_condemned es))) first
          ∙ elim (eqb e.1.leases 0) as (λ b. cond b (e.0 ∷ filter (λ n. not (lent n)) (numbers_of is_condemned es)) (filter (λ n. not (lent n)) (numbers_of is_condemned es))
          ≡ map (λ (e : ℕ × Place). e.0) (cond b (e ∷ filter (λ e. is_garbage e.1) es) (filter (λ e. is_garbage e.1) es))) [
            | true ↦ ap (λ r. e.0 ∷ r) behind
            | false ↦ behind
          ]
      | false ↦ behind
    ]

pub garbage_unlent : (es : List (ℕ × Place)) (ls : List (ℕ × ℕ)) (a b c : ℕ) → AreRising es → AreCounted es ls → take 100 (garbage_of es) ≡ unlent (numbers_from es ls a b c).yard
garbage_unlent es ls a b c up counted =
    ap (take 100) (sym (unlent-garbage (λ n. list_any (λ (l : plain.Lease). eqb l.blob n) (shown_leases ls)) es up
    (λ n p is. lent-count n ls ∙ ap (λ m. not (eqb m 0)) (sym (counted n) ∙ ap leases_in is))))

-- what is given out is garbage
given-garbage : (n : ℕ) (p : Place) (es : List (ℕ × Place)) → AreRising es → lookup (nat_eq n) es ≡ Some p → is_among n (take 100 (garbage_of es)) ≡ true → is_garbage p ≡ true
given-garbage n p es up is given =
    let all : is_among n (garbage_of es) ≡ true =
    ap (is_among n) (sym (take-append-drop 100 (garbage_of es))) ∙ list_any-append (λ m. eqb m n) (take 100 (garbage_of es)) (drop 100 (garbage_of es)) ∙ or_left _ _ given in
    sym (ap (λ o. option_map_or is_garbage o false) is) ∙ sym (among-passing is_garbage n es up) ∙ all

passing_without : (test : Place → Bool) (ns : List ℕ) (es : List (ℕ × Place)) → AreRising es → ((n : ℕ) (p : Place) → lookup (nat_eq n) es ≡ Some p → test p ≡ true → is_among n ns ≡ false)
    → passing test (without ns es) ≡ passing test es
passing_without test ns [] up h = refl
passing_without test ns (e ∷ es) up h =
    let behind = passing_without test ns es up.1 (λ n p is. h n p (found-after n p e es up is)) in
    elim (test e.1) as (λ b. test e.1 ≡ b → passing test (cond (not (is_among e.0 ns)) (e ∷ without ns es) (without ns es)) ≡ map (λ (e : ℕ × Place). e.0) (cond b (e ∷ filter (λ e. test e.1) es) (filter (λ e. test e.1) es))) [
      | true ↦ λ passes.
          ap (λ b. passing test (cond (not b) (e ∷ without ns es) (without ns es))) (h e.0 e.1 (found-first e es) passes)
          ∙ ap (λ b. map (λ (e : ℕ × Place). e.0) (cond b (e ∷ filter (λ e. test e.1) (without ns es)) (filter (λ e. test e.1) (without ns es)))) passes
          ∙ ap (λ r. e.0 ∷ r) behind
      | false ↦ λ fails.
          elim (is_among e.0 ns) as (λ b. passing test (cond (not b) (e ∷ without ns es) (without ns es)) ≡ passing test es) [
            | true ↦ behind
            | false ↦ ap (λ b. map (λ (e : ℕ × Place). e.0) (cond b (e ∷ filter (λ e. test e.1) (without ns es)) (filter (λ e. test e.1) (without ns es)))) fails ∙ behind
          ]
    ] refl

passing_without-filter : (test : Place → Bool) (ns : List ℕ) (es : List (ℕ × Place)) → passing test (without ns es) ≡ filter (λ n. not (is_among n ns)) (passing test es)
passing_without-filter test ns [] = refl
passing_without-filter test ns (e ∷ es) =
    let behind = passing_without-filter test ns es in
    elim (is_among e.0 ns) as (λ b. is_among e.0 ns ≡ b → passing test (cond (not b) (e ∷ without ns es) (without ns es)) ≡ filter (λ n. not (is_among n ns)) (passing test (e ∷ es))) [
      | true ↦ λ given.
          elim (test e.1) as (λ b. passing test (without ns es) ≡ filter (λ n. not (is_among n ns)) (map (λ (e : ℕ × Place). e.0) (cond b (e ∷ filter (λ e. test e.1) es) (filter (λ e. test e.1) es)))) [
            | true ↦ behind ∙ sym (ap (λ b. cond (not b) (e.0 ∷ filter (λ n. not (is_among n ns)) (passing test es)) (filter (λ n. not (is_among n ns)) (passing test es))) given)
            | false ↦ behind
          ]
      | false ↦ λ stays.
          elim (test e.1) as (λ b. map (λ (e : ℕ × Place). e.0) (cond b (e ∷ filter (λ e. test e.1) (without ns es)) (filter (λ e. test e.1) (without ns es))) ≡ filter (λ n. not (is_among n ns)) (map (λ (e : ℕ × Place). e.0) (cond b (e ∷ filter (λ e. test e.1) es) (filter (λ e. test e.1) es)))) [
            | true ↦ ap (λ r. e.0 ∷ r) behind ∙ sym (ap (λ b. cond (not b) (e.0 ∷ filter (λ n. not (is_among n ns)) (passing test es)) (filter (λ n. not (is_among n ns)) (passing test es))) stays)
            | false ↦ behind
          ]
    ] refl

module _ (es : List (ℕ × Place)) (up : AreRising es) where
  abbrev given : List ℕ
  given = take 100 (garbage_of es)

  not_given : (test : Place → Bool) → ((p : Place) → test p ≡ true → condemned_at p ≡ false) → (n : ℕ) (p : Place) → lookup (nat_eq n) es ≡ Some p → test p ≡ true → is_among n given ≡ false
  not_given test other n p is passes =
      false_from_ne_true (is_among n given) (λ h. false≢true (sym (other p passes) ∙ (and_parts (condemned_at p) (eqb p.leases 0) (given-garbage n p es up is h)).0))

  -- garbage is forgotten
  pub forgotten_shown : (ls : List (ℕ × ℕ)) (a b c : ℕ) → AreCounted es ls → numbers_from (without (take 100 (garbage_of es)) es) ls a b c
      ≡ record (numbers_from es ls a b c) { yard = yard_after (forgets (unlent (numbers_from es ls a b c).yard)) (numbers_from es ls a b c).yard }
  forgotten_shown ls a b c counted =
      same_numbers _ _ _ _ _ _ _ _ a b c
      (passing_without drafts_at given es up (not_given drafts_at (λ p h. (draft_alone p.stand h).1))) refl
      (passing_without-filter condemned_at given es ∙ ap (λ ns. filter (λ n. not (is_among n ns)) (numbers_of is_condemned es)) (garbage_unlent es ls a b c up counted))
      (passing_without kept_at given es up (not_given kept_at (λ p h. (kept_alone p.stand h).1)))

  pub forgotten_counted : (ls : List (ℕ × ℕ)) → AreCounted es ls → AreCounted (without (take 100 (garbage_of es)) es) ls
  forgotten_counted ls counted m =
      elim (is_among m given) as (λ b. is_among m given ≡ b → leases_in (lookup (nat_eq m) (without given es)) ≡ count_in m ls) [
        | true ↦ λ gone.
            ap leases_in (lookup-filter-keys (nat_eq m) (λ k. not (is_among k given)) false (λ k h. ap not (ap (λ x. is_among x given) (sym (eqb-true m k h)) ∙ gone)) es)
            ∙ sym (no_leases (lookup (nat_eq m) es) (λ p is. (and_parts (condemned_at p) (eqb p.leases 0) (given-garbage m p es up is gone)).1))
            ∙ counted m
        | false ↦ λ stays.
            ap leases_in (lookup-filter-keys (nat_eq m) (λ k. not (is_among k given)) true (λ k h. ap not (ap (λ x. is_among x given) (sym (eqb-true m k h)) ∙ stays)) es)
            ∙ counted m
      ] refl
    where
      no_leases : (o : Option Place) → ((p : Place) → o ≡ Some p → eqb p.leases 0 ≡ true) → leases_in o ≡ 0
      no_leases None h = refl
      no_leases (Some p) h = eqb-true p.leases 0 (h p refl)

pub is_lease : {X : Type 0} (n : ℕ) (ls : List (ℕ × X)) → list_any (λ m. eqb m n) (keys_of ls) ≡ is_some (lookup (nat_eq n) ls)
is_lease n [] = refl
is_lease n (e ∷ ls) =
    ap (λ b. b || list_any (λ m. eqb m n) (keys_of ls)) (eqb_sym e.0 n)
    ∙ elim (eqb n e.0) as (λ b. (b || list_any (λ m. eqb m n) (keys_of ls)) ≡ is_some (cond b (Some e.1) (lookup (nat_eq n) ls))) [
      | true ↦ refl
      | false ↦ is_lease n ls
    ]
