-- Room for a negative entry: of as many negative entries as may be the oldest goes.
use native.Mathlib.Omega.{arith}
use Rattle.std.proofs.Common.{◌≡◌, ℕ, suc, ◌<◌, ◌≤◌, true, false, cond, not, ◌||◌, List, [], ◌∷◌, length, Option, Some, None, fold, refl, sym, ◌∙◌, ap, subst, leb, bytes_eq}
use Rattle.std.proofs.lemmas.Bool.{false≢true, leb-true, leb-false, le-leb}
use Rattle.std.proofs.lemmas.Option.{none-some}
use Rattle.std.proofs.lemmas.Slice.Eq.{bytes_eq-Decides}
use Rattle.std.specs.Prelude.{IfSome, find}
use Rattle.std.specs.List.{AllByRecursion, list_any}
use Rattle.std.specs.Ordering.{match_ordering, nat_cmp}
use Rattle.std.specs.Cmp.Lexicographic.{slice_cmp}
use Rattle.std.specs.declared.cmp.Ordering.{Ordering}
use Rattle.std.specs.declared.cmp.Ordering.TheVariants.{Less, Equal, Greater}
use Rattle.repo_model.specs.Data.{NegativeEntry}
use Rattle.repo_model.specs.Effect.{insert_negative, is_older, most_negatives, older, with_negative, with_room, without_negative, without_oldest}
use Rattle.repo_model.specs.State.{is_negative_of}
use Rattle.proxy_entries.proofs.NegativeLemmas.{AreRising, other-first}

-- what holds of all negative entries holds of the oldest
oldest-is : (P : NegativeEntry → Type 0) (negatives : List NegativeEntry) (best : Option NegativeEntry) → AllByRecursion P negatives → IfSome best P → IfSome (fold older best negatives) P
oldest-is P [] best all so = so
oldest-is P (m ∷ negatives) None all so = oldest-is P negatives (Some m) all.1 all.0
oldest-is P (m ∷ negatives) (Some b) all so =
    oldest-is P negatives (Some (cond (is_older m b) m b)) all.1 (elim (is_older m b) as (λ t. P (cond t m b)) [ true ↦ all.0 | false ↦ so ])

-- there is one where there are negative entries
some-oldest : (negatives : List NegativeEntry) (b : NegativeEntry) → (m : NegativeEntry) × (fold older (Some b) negatives ≡ Some m)
some-oldest [] b = (b, refl)
some-oldest (m ∷ negatives) b = some-oldest negatives (cond (is_older m b) m b)

-- a path that has no negative entry is that of none
all-apart : (path : List ℕ) (negatives : List NegativeEntry) → find (is_negative_of path) negatives ≡ None → AllByRecursion (λ (m : NegativeEntry). is_negative_of path m ≡ false) negatives
all-apart path [] none = tt
all-apart path (m ∷ negatives) none =
    elim (is_negative_of path m)
    as (λ b. cond b (Some m) (find (is_negative_of path) negatives) ≡ None → (b ≡ false) × AllByRecursion (λ (x : NegativeEntry). is_negative_of path x ≡ false) negatives) [
      | true ↦ λ h. absurd (none-some m (sym h))
      | false ↦ λ h. (refl, all-apart path negatives h)
    ] none

pub without-none : (path : List ℕ) (negatives : List NegativeEntry) → find (is_negative_of path) negatives ≡ None → without_negative path negatives ≡ negatives
without-none path negatives none = gone negatives (all-apart path negatives none)
  where
    gone : (ms : List NegativeEntry) → AllByRecursion (λ (m : NegativeEntry). is_negative_of path m ≡ false) ms → without_negative path ms ≡ ms
    gone [] all = refl
    gone (m ∷ ms) all = ap (λ b. cond (not b) (m ∷ without_negative path ms) (without_negative path ms)) all.0 ∙ ap (λ r. m ∷ r) (gone ms all.1)

-- the path of the oldest is another one than that of a negative entry that is not there
pub other-oldest : (new : NegativeEntry) (negatives : List NegativeEntry) (m : NegativeEntry) → find (is_negative_of new.path) negatives ≡ None → fold older None negatives ≡ Some m → bytes_eq new.path m.path ≡ false
other-oldest new negatives m none is =
    let apart : is_negative_of new.path m ≡ false = subst (λ o. IfSome o (λ (x : NegativeEntry). is_negative_of new.path x ≡ false)) is (oldest-is (λ x. is_negative_of new.path x ≡ false) negatives None (all-apart new.path negatives none) tt) in
    elim (bytes_eq new.path m.path)
    as (λ b. bytes_eq new.path m.path ≡ b → b ≡ false) [
      | true ↦ λ h. sym ((bytes_eq-Decides m.path new.path).1 (sym ((bytes_eq-Decides new.path m.path).0 h))) ∙ apart
      | false ↦ λ h. refl
    ] refl

-- ---- how many there are
pub fewer : (path : List ℕ) (negatives : List NegativeEntry) → length (without_negative path negatives) ≤ length negatives
fewer path [] = omega arith
fewer path (m ∷ negatives) =
    let rest = fewer path negatives in
    elim (is_negative_of path m) as (λ b. length (cond (not b) (m ∷ without_negative path negatives) (without_negative path negatives)) ≤ suc (length negatives)) [
      | true ↦ omega (arith, rest)
      | false ↦ omega (arith, rest)
    ]

-- one that is there goes
fewer-by : (path : List ℕ) (negatives : List NegativeEntry) → list_any (is_negative_of path) negatives ≡ true → length (without_negative path negatives) < length negatives
fewer-by path [] is = absurd (false≢true is)
fewer-by path (m ∷ negatives) is =
    elim (is_negative_of path m) as (λ b. b || list_any (is_negative_of path) negatives ≡ true → length (cond (not b) (m ∷ without_negative path negatives) (without_negative path negatives)) < suc (length negatives)) [
      | true ↦ λ h. omega (arith, fewer path negatives)
      | false ↦ λ h. omega (arith, fewer-by path negatives h)
    ] is

-- a negative entry is found at a path where one is there
pub found-there : (path : List ℕ) (negatives : List NegativeEntry) (m : NegativeEntry) → find (is_negative_of path) negatives ≡ Some m → length (without_negative path negatives) < length negatives
found-there path [] m is = absurd (none-some m is)
found-there path (x ∷ negatives) m is =
    elim (is_negative_of path x) as (λ b. cond b (Some x) (find (is_negative_of path) negatives) ≡ Some m → length (cond (not b) (x ∷ without_negative path negatives) (without_negative path negatives)) < suc (length negatives)) [
      | true ↦ λ h. omega (arith, fewer path negatives)
      | false ↦ λ h. omega (arith, found-there path negatives m h)
    ] is

-- each negative entry stands at its path
self-there : (negatives : List NegativeEntry) → AllByRecursion (λ (m : NegativeEntry). list_any (is_negative_of m.path) negatives ≡ true) negatives
self-there negatives = each negatives negatives (λ m h. h)
  where
    each : (rest all : List NegativeEntry) → ((m : NegativeEntry) → list_any (is_negative_of m.path) rest ≡ true → list_any (is_negative_of m.path) all ≡ true) → AllByRecursion (λ (m : NegativeEntry). list_any (is_negative_of m.path) all ≡ true) rest
    each [] all among = tt
    each (m ∷ rest) all among = (
      among m (ap (λ b. b || list_any (is_negative_of m.path) rest) ((bytes_eq-Decides m.path m.path).1 refl)),
      each rest all (λ x h. among x (elim (is_negative_of x.path m) as (λ b. b || list_any (is_negative_of x.path) rest ≡ true) [ true ↦ refl | false ↦ h ])),
    )

pub with-room-id : (negatives : List NegativeEntry) → length negatives < most_negatives → with_room negatives ≡ negatives
with-room-id negatives few =
    elim (leb most_negatives (length negatives)) as (λ b. leb most_negatives (length negatives) ≡ b → cond b (without_oldest (fold older None negatives) negatives) negatives ≡ negatives) [
      | true ↦ λ h. absurd (omega (arith, few, leb-true most_negatives (length negatives) h))
      | false ↦ λ h. refl
    ] refl

pub with-room-full : (negatives : List NegativeEntry) (m : NegativeEntry) → most_negatives ≤ length negatives → fold older None negatives ≡ Some m → with_room negatives ≡ without_negative m.path negatives
with-room-full negatives m full is =
    ap (λ b. cond b (without_oldest (fold older None negatives) negatives) negatives) (le-leb most_negatives (length negatives) full) ∙ ap (λ o. without_oldest o negatives) is

room-made : (negatives : List NegativeEntry) → length negatives ≤ most_negatives → length (with_room negatives) < most_negatives
room-made [] few = subst (λ ms. length ms < most_negatives) (sym (with-room-id [] (omega arith))) (omega arith)
room-made (x ∷ rest) few =
    let negatives = x ∷ rest in
    elim (leb most_negatives (length negatives)) as (λ b. leb most_negatives (length negatives) ≡ b → length (cond b (without_oldest (fold older None negatives) negatives) negatives) < most_negatives) [
      | true ↦ λ h.
          let oldest = some-oldest rest x in
          let there : list_any (is_negative_of oldest.0.path) negatives ≡ true =
          subst (λ o. IfSome o (λ (m : NegativeEntry). list_any (is_negative_of m.path) negatives ≡ true)) oldest.1 (oldest-is (λ m. list_any (is_negative_of m.path) negatives ≡ true) negatives None (self-there negatives) tt) in
          subst (λ o. length (without_oldest o negatives) < most_negatives) (sym oldest.1) (omega (arith, fewer-by oldest.0.path negatives there, few))
      | false ↦ λ h. omega (arith, leb-false most_negatives (length negatives) h)
    ] refl

one-more : (new : NegativeEntry) (negatives : List NegativeEntry) → length (insert_negative new negatives) ≡ suc (length negatives)
one-more new [] = refl
one-more new (m ∷ negatives) =
    elim (slice_cmp nat_cmp new.path m.path) as (λ (o : Ordering). length (match_ordering o (new ∷ m ∷ negatives) (new ∷ m ∷ negatives) (m ∷ insert_negative new negatives)) ≡ suc (suc (length negatives))) [
      | Less ↦ refl
      | Equal ↦ refl
      | Greater ↦ ap suc (one-more new negatives)
    ]

-- negative entries are never more than may be
pub negatives-few : (new : NegativeEntry) (negatives : List NegativeEntry) → length negatives ≤ most_negatives → length (with_negative new negatives) ≤ most_negatives
negatives-few new negatives few =
    let rest = without_negative new.path negatives in
    omega (arith, one-more new (with_room rest), room-made rest (omega (arith, fewer new.path negatives, few)))

-- where there are as many as may be, one is the oldest
pub never-none : (negatives : List NegativeEntry) → most_negatives ≤ length negatives → None ≡ fold older None negatives → ⊥
never-none [] full is = omega (arith, full)
never-none (m ∷ negatives) full is =
    let oldest = some-oldest negatives m in
    none-some oldest.0 (is ∙ oldest.1)

-- a negative entry is written, and then the oldest of the others is taken out
pub displaced : (new : NegativeEntry) (negatives : List NegativeEntry) (m : NegativeEntry) → AreRising negatives → most_negatives ≤ length negatives → find (is_negative_of new.path) negatives ≡ None → fold older None negatives ≡ Some m
    → without_negative m.path (insert_negative new (without_negative new.path negatives)) ≡ with_negative new negatives
displaced new negatives m rising full none is =
    let same = without-none new.path negatives none in
    ap (λ ms. without_negative m.path (insert_negative new ms)) same
    ∙ other-first new m.path negatives rising (other-oldest new negatives m none is)
    ∙ sym (ap (λ ms. insert_negative new (with_room ms)) same ∙ ap (insert_negative new) (with-room-full negatives m full is))

-- a negative entry is written where there is room for it
pub roomy : (new : NegativeEntry) (negatives : List NegativeEntry) → length (without_negative new.path negatives) < most_negatives → insert_negative new (without_negative new.path negatives) ≡ with_negative new negatives
roomy new negatives few = ap (insert_negative new) (sym (with-room-id (without_negative new.path negatives) few))
