-- What a crash leaves of a store keeps each blob whose number no call changes since it was acknowledged.
use Rattle.std.proofs.Common.{◌≡◌, ◌⊎◌, inl, inr, ℕ, true, false, cond, List, [], ◌∷◌, ◌++◌, Option, Some, None, Ok, Err, refl, sym, ap, subst, ◌∙◌}
use Rattle.std.specs.Prelude.{◌==◌, IfSome, OnErr, OnOk, Result, option_and_then}
use Rattle.std.specs.BTreeMap.{insert_entry, is_at}
use Rattle.std.specs.Cmp.{Equal-is}
use Rattle.std.specs.Map.{remove_entry}
use Rattle.std.specs.Option.{ForSome, option_map}
use Rattle.std.specs.Ordering.{is_eq, match_ordering, nat_cmp}
use Rattle.std.specs.declared.cmp.Ordering.TheVariants.{Less, Equal, Greater}
use Rattle.std.proofs.lemmas.Bool.{eq-eqb, false≢true, false_from_ne_true, or_from, or_parts}
use Rattle.std.proofs.lemmas.List.Folds.{list_any-append}
use Rattle.std.proofs.lemmas.List.Sums.{fold-append}
use Rattle.std.proofs.lemmas.Map.Lookups.{exact_unsigned}
use Rattle.std.proofs.lemmas.Option.{none-some}
use Rattle.outside.specs.Blobs.{Numbered, Shelf, bytes_at, standing_at}
use Rattle.outside.specs.declared.faults.BlobFault.{BlobFault}
use Rattle.repo_model.specs.State.{is_among}
use Rattle.crash_laws.specs.Found.{KeepsOthers}
use Rattle.crash_laws.specs.Stores.{AllStayStored, IsLeftOfStore, MayHaveDone, StoreCall, begins, looks, number_of, numbers_changed, removes, stores, with_call, with_calls}

module _ (n m : ℕ) (other : is_eq (nat_cmp n m) ≡ false) where
  -- an entry of the number m is none of n
  apart : (k : ℕ) → m ≡ k → is_eq (nat_cmp n k) ≡ false
  apart k same = subst (λ (l : ℕ). is_eq (nat_cmp n l) ≡ false) same other

  -- what stands under a number where another one's blob is stored, or is taken away
  inserted-at : (v : List ℕ) (blobs : Numbered) → bytes_at n (insert_entry nat_cmp blobs m v) ≡ bytes_at n blobs
  inserted-at v [] = ap (λ b. cond b (Some v) None) other
  inserted-at v (e ∷ es) =
      elim (nat_cmp m e.0)
      as (λ o. nat_cmp m e.0 ≡ o → bytes_at n (match_ordering o ((m, v) ∷ e ∷ es) ((e.0, v) ∷ es) (e ∷ insert_entry nat_cmp es m v)) ≡ bytes_at n (e ∷ es)) [
        | Less ↦ λ _. ap (λ b. cond b (Some v) (bytes_at n (e ∷ es))) other
        | Equal ↦ λ is.
            let off = apart e.0 (exact_unsigned m e.0 is) in
            ap (λ b. cond b (Some v) (bytes_at n es)) off ∙ sym (ap (λ b. cond b (Some e.1) (bytes_at n es)) off)
        | Greater ↦ λ _. ap (λ (o : Option (List ℕ)). cond (is_eq (nat_cmp n e.0)) (Some e.1) o) (inserted-at v es)
      ] refl

  removed-at : (blobs : Numbered) → bytes_at n (remove_entry (is_at (nat_cmp m)) blobs) ≡ bytes_at n blobs
  removed-at [] = refl
  removed-at (e ∷ es) =
      elim (is_eq (nat_cmp m e.0))
      as (λ b. is_eq (nat_cmp m e.0) ≡ b → bytes_at n (cond b es (e ∷ remove_entry (is_at (nat_cmp m)) es)) ≡ bytes_at n (e ∷ es)) [
        | true ↦ λ is. sym (ap (λ b. cond b (Some e.1) (bytes_at n es)) (apart e.0 (exact_unsigned m e.0 ((Equal-is (nat_cmp m e.0)).0 is))))
        | false ↦ λ _. ap (λ (o : Option (List ℕ)). cond (is_eq (nat_cmp n e.0)) (Some e.1) o) (removed-at es)
      ] refl

module _ (n : ℕ) where
  stands-still : (f : Numbered → Numbered) → ((blobs : Numbered) → bytes_at n (f blobs) ≡ bytes_at n blobs) → (o : Option Numbered)
      → option_and_then (bytes_at n) (option_map f o) ≡ option_and_then (bytes_at n) o
  stands-still f same None = refl
  stands-still f same (Some blobs) = same blobs

  not-equal : (m : ℕ) → is_among n (m ∷ []) ≡ false → is_eq (nat_cmp n m) ≡ false
  not-equal m off =
      false_from_ne_true (is_eq (nat_cmp n m))
      (λ is. false≢true (sym (or_parts (m == n) false off).0 ∙ eq-eqb m n (sym (exact_unsigned n m ((Equal-is (nat_cmp n m)).0 is)))))

  -- a call of another number
  one-stays : (shelf : Shelf) (call : StoreCall) → is_among n (number_of call) ≡ false → standing_at n (with_call shelf call) ≡ standing_at n shelf
  one-stays shelf looks off = refl
  one-stays shelf (begins m) off = stands-still (remove_entry (is_at (nat_cmp m))) (removed-at n m (not-equal m off)) shelf.blobs
  one-stays shelf (stores m bytes) off = stands-still (λ blobs. insert_entry nat_cmp blobs m bytes) (inserted-at n m (not-equal m off) bytes) shelf.blobs
  one-stays shelf (removes m) off = stands-still (remove_entry (is_at (nat_cmp m))) (removed-at n m (not-equal m off)) shelf.blobs

  -- the numbers of the first calls, and of the others
  either-changed : (calls more : List StoreCall) → is_among n (numbers_changed (calls ++ more)) ≡ false
      → (is_among n (numbers_changed calls) ≡ false) × (is_among n (numbers_changed more) ≡ false)
  either-changed [] more off = (refl, off)
  either-changed (call ∷ calls) more off =
      let (here, there) = or_parts (is_among n (number_of call)) (is_among n (numbers_changed (calls ++ more)))
      (sym (list_any-append (λ m. m == n) (number_of call) (numbers_changed (calls ++ more))) ∙ off) in
      let (before, behind) = either-changed calls more there in
      (list_any-append (λ m. m == n) (number_of call) (numbers_changed calls) ∙ or_from (is_among n (number_of call)) (is_among n (numbers_changed calls)) here before, behind)

  pub all-stay : (calls : List StoreCall) (shelf : Shelf) → is_among n (numbers_changed calls) ≡ false → standing_at n (with_calls shelf calls) ≡ standing_at n shelf
  all-stay [] shelf off = refl
  all-stay (call ∷ calls) shelf off =
      let (here, there) = or_parts (is_among n (number_of call)) (is_among n (numbers_changed calls))
      (sym (list_any-append (λ m. m == n) (number_of call) (numbers_changed calls)) ∙ off) in
      all-stay calls (with_call shelf call) there ∙ one-stays shelf call here

  -- what stands is told
  pub told-there : (bytes : List ℕ) (o : Option Numbered) → option_and_then (bytes_at n) o ≡ Some bytes → (those : Numbered) × (o ≡ Some those) × (bytes_at n those ≡ Some bytes)
  told-there bytes None is = absurd (none-some bytes is)
  told-there bytes (Some those) is = (those, refl, is)

module _ (shelf acknowledged : Shelf) (calls : List StoreCall) (now : StoreCall) (gone : List ℕ) (stored : AllStayStored gone acknowledged shelf calls now) where
  found-there : (o : Option Numbered) → IfSome o (λ them. ForSome (with_calls shelf calls).blobs (λ old. ForSome (with_call (with_calls shelf calls) now).blobs (λ new.
      (n : ℕ) → is_among n gone ≡ false → (bytes_at n them ≡ bytes_at n old) ⊎ (bytes_at n them ≡ bytes_at n new))))
      → IfSome o (λ them. ForSome acknowledged.blobs (λ those. (n : ℕ) (bytes : List ℕ) → is_among n gone ≡ false → bytes_at n those ≡ Some bytes → bytes_at n them ≡ Some bytes))
  found-there None left = tt
  found-there (Some them) left = λ those told n bytes off at.
      let (first, later, parts, stood, quiet) = stored n bytes off (ap (option_and_then (bytes_at n)) told ∙ at) in
      let (quiet_later, quiet_now) = either-changed n later (now ∷ []) quiet in
      let before : standing_at n (with_calls shelf calls) ≡ Some bytes =
      subst (λ (all : List StoreCall). standing_at n (with_calls shelf all) ≡ Some bytes) (sym parts)
      (ap (standing_at n) (fold-append with_call shelf first later) ∙ all-stay n later (with_calls shelf first) quiet_later ∙ stood) in
      let behind : standing_at n (with_call (with_calls shelf calls) now) ≡ Some bytes = all-stay n (now ∷ []) (with_calls shelf calls) quiet_now ∙ before in
      let (old, old_told, old_at) = told-there n bytes (with_calls shelf calls).blobs before in
      let (new, new_told, new_at) = told-there n bytes (with_call (with_calls shelf calls) now).blobs behind in
      elim (left old old_told new new_told n off) [
        | inl same ↦ ◌∙◌ {b = bytes_at n old} same old_at
        | inr same ↦ ◌∙◌ {b = bytes_at n new} same new_at
      ]

pub stores-keep : (shelf acknowledged found : Shelf) (calls : List StoreCall) (now : StoreCall) (gone : List ℕ) → AllStayStored gone acknowledged shelf calls now
    → IsLeftOfStore gone (with_calls shelf calls) (with_call (with_calls shelf calls) now) found → KeepsOthers gone acknowledged found
stores-keep shelf acknowledged found calls now gone stored left = found-there shelf acknowledged calls now gone stored found.blobs left

-- what a call says of a store is what it does
pub may-do : {T : Type 0} (call : StoreCall) (old new then_told : Shelf) (result : Result T BlobFault) → then_told ≡ with_call old call → OnOk result (new ≡ then_told) → OnErr result (new ≡ old)
    → MayHaveDone call old new
may-do call old new then_told (Ok value) is done failed = inl (done ∙ is)
may-do call old new then_told (Err fault) is done failed = inr failed
