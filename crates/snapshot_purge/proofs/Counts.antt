-- Counting in a list that stands in order.
use Rattle.std.proofs.Common.{◌≡◌, ℕ, zero, suc, ◌+◌, ◌-◌, ◌≤◌, Bool, true, false, List, length, take, get_or, count_by, Some, Ordering, Less, Equal, Greater, is_gt, not, refl, sym, ap, ◌∙◌, add-one, arith}
use Rattle.std.specs.Cmp.{IsTotalOrder}
use Rattle.std.specs.List.{AllWithin}
use Rattle.std.specs.List.Sorted.{IsSorted, IsPartitionedBy}
use Rattle.std.specs.Ordering.{is_lt, is_le, is_some_and, ordering_reverse}
use Rattle.std.proofs.lemmas.Cmp.{upto}
use Rattle.std.proofs.lemmas.List.{take_all}
use Rattle.std.proofs.lemmas.List.Sorted.{ranks_by, sorted_far}
use Rattle.std.proofs.lemmas.List.Sums.{count_by_more_no, count_by_more_yes}

module _ {K : Type 0} (p : K → Bool) (xs : List K) (d : K) where
  none_before : (k r : ℕ) → AllWithin (λ y. p y ≡ false) xs 0 r → r ≤ length xs → k ≤ r → count_by p (take k xs) ≡ 0
  none_before zero r none long within = refl
  none_before (suc k) r none long within =
      ap (λ n. count_by p (take n xs)) (sym (add-one k))
      ∙ count_by_more_no p xs k d (omega arith) (none k d (omega arith) (omega arith))
      ∙ none_before k r none long (omega arith)

  all_after : (k r : ℕ) → AllWithin (λ y. p y ≡ true) xs r (length xs) → r + k ≤ length xs → count_by p (take r xs) ≡ 0 → count_by p (take (r + k) xs) ≡ k
  all_after zero r all long none = ap (λ n. count_by p (take n xs)) (let e : r + zero ≡ r = omega arith in e) ∙ none
  all_after (suc k) r all long none =
      ap (λ n. count_by p (take n xs)) (let e : r + suc k ≡ r + k + 1 = omega arith in e)
      ∙ count_by_more_yes p xs (r + k) d (omega arith) (all (r + k) d (omega arith) (omega arith))
      ∙ ap (λ n. n + 1) (all_after k r all (omega arith) none)
      ∙ add-one k

  -- where a list is parted, the test counts what stands after the place
  pub count_by-parted : (r : ℕ) → r ≤ length xs → AllWithin (λ y. p y ≡ false) xs 0 r → AllWithin (λ y. p y ≡ true) xs r (length xs) → length xs - r ≡ count_by p xs
  count_by-parted r long none all =
      let whole : r + (length xs - r) ≡ length xs = omega arith in
      sym (all_after (length xs - r) r all (omega arith) (none_before r r none long (omega arith)))
      ∙ ap (λ n. count_by p (take n xs)) whole
      ∙ ap (count_by p) (take_all (length xs) xs (omega arith))

not_gt : (o : Ordering) → is_le o ≡ true → is_gt o ≡ false
not_gt Less h = refl
not_gt Equal h = refl
not_gt Greater h = cc

from_not_gt : (o : Ordering) → is_gt o ≡ false → is_le o ≡ true
from_not_gt Less h = refl
from_not_gt Equal h = refl
from_not_gt Greater h = cc

lt_or_reversed : (o : Ordering) → is_lt o ≡ is_gt (ordering_reverse o)
lt_or_reversed Less = refl
lt_or_reversed Equal = refl
lt_or_reversed Greater = refl

gt_not_le : (o : Ordering) → is_gt o ≡ not (is_le o)
gt_not_le Less = refl
gt_not_le Equal = refl
gt_not_le Greater = refl

module _ {K : Type 0} {R : K → K → Ordering} (o : IsTotalOrder R) where
  gt-flip : (x y : K) → is_gt (R x y) ≡ is_lt (R y x)
  gt-flip x y = ap is_gt (o.antisymm x y) ∙ sym (lt_or_reversed (R y x))

  -- what is up to a bound stands before what is not
  pub partitioned : (b : K) (xs : List K) → IsSorted R xs → IsPartitionedBy (λ x. is_some_and is_le (Some (R x b))) xs
  partitioned b xs up i j d order below pass =
      let x = get_or xs i d in
      let y = get_or xs j d in
      let front : is_gt (R x y) ≡ false = gt-flip x y ∙ sorted_far (λ u v. is_lt (R u v)) (ranks_by o (λ u. u)) xs up i j d order below in
      from_not_gt (R x b) (upto o x y b front (not_gt (R y b) pass))

  -- the bound is less than just what is not up to it
  pub above : (b x : K) → is_lt (R b x) ≡ not (is_some_and is_le (Some (R x b)))
  above b x = sym (gt-flip x b) ∙ gt_not_le (R x b)
