-- One of some that has a property, and the builds that a document's entries have.
use Rattle.std.proofs.Common.{◌≡◌, inl, inr, Bool, true, false, cond, ◌||◌, List, [], ◌∷◌, Some, refl, sym, ◌∙◌, ap, subst}
use Rattle.std.specs.BTreeMap.{is_at}
use Rattle.std.specs.Cmp.{IsTotalOrder}
use Rattle.std.specs.FinMap.{nat_cmp-IsAntisymmetric}
use Rattle.std.specs.FinMap.Entries.{below_all, is_sorted}
use Rattle.std.specs.List.{AllByRecursion, list_any}
use Rattle.std.specs.Map.{lookup}
use Rattle.std.specs.Ordering.{is_lt, is_gt, is_eq, nat_cmp, ordering_then, ordering_reverse}
use Rattle.std.specs.declared.cmp.Ordering.{Ordering}
use Rattle.std.specs.declared.cmp.Ordering.TheVariants.{Less, Equal, Greater}
use Rattle.std.proofs.lemmas.Bool.{false≢true, and_parts}
use Rattle.std.proofs.lemmas.Cmp.{tied_itself}
use Rattle.std.proofs.lemmas.Option.{none-some}
use Rattle.mvn_coords.specs.Civil.{CivilTime}
use Rattle.mvn_coords.specs.FileName.{BuildOf}
use Rattle.mvn_metadata.specs.declared.pair.Pair.{Pair}
use Rattle.mvn_metadata.specs.declared.pair.SnapshotBuild.{SnapshotBuild}
use Rattle.mvn_metadata.specs.Merge.{Entry}
use Rattle.mvn_metadata.specs.Order.{build_cmp, pair_cmp, pair_cmp_total, time_cmp}
use Rattle.mvn_metadata.proofs.MergeLemmas.{pair_cmp_ties}
use Rattle.repo_laws.specs.Laws.{AnyByRecursion}
use Rattle.repo_laws.specs.Described.{IsAmong}

module _ {X : Type 0} where
  -- one that has a property is among them
  pub any-found : (P : X → Type 0) (xs : List X) → AnyByRecursion P xs → (x : X) × IsAmong x xs × P x
  any-found P [] none = absurd none
  any-found P (x ∷ xs) (inl here) = (x, inl refl, here)
  any-found P (x ∷ xs) (inr later) = let (y, there, has) = any-found P xs later in (y, inr there, has)

  pub among-any : (P : X → Type 0) (x : X) (xs : List X) → IsAmong x xs → P x → AnyByRecursion P xs
  among-any P x [] none has = absurd none
  among-any P x (y ∷ xs) (inl same) has = inl (subst P (sym same) has)
  among-any P x (y ∷ xs) (inr later) has = inr (among-any P x xs later has)

  -- what all have, one among them has
  pub among-all : (P : X → Type 0) (x : X) (xs : List X) → IsAmong x xs → AllByRecursion P xs → P x
  among-all P x [] none all = absurd none
  among-all P x (y ∷ xs) (inl same) all = subst P same all.0
  among-all P x (y ∷ xs) (inr later) all = among-all P x xs later all.1

  pub all-with : (P Q : X → Type 0) (xs : List X) → ((x : X) → IsAmong x xs → P x → Q x) → AllByRecursion P xs → AllByRecursion Q xs
  all-with P Q [] so all = tt
  all-with P Q (x ∷ xs) so all = (so x (inl refl) all.0, all-with P Q xs (λ y there. so y (inr there)) all.1)

  pub any-passes : (q : X → Bool) (xs : List X) → list_any q xs ≡ true → (x : X) × IsAmong x xs × (q x ≡ true)
  any-passes q [] is = absurd (false≢true is)
  any-passes q (x ∷ xs) is =
      elim (q x) as (λ b. q x ≡ b → (b || list_any q xs) ≡ true → (y : X) × IsAmong y (x ∷ xs) × (q y ≡ true)) [
        | true ↦ λ here _. (x, inl refl, here)
        | false ↦ λ _ rest. let (y, there, passes) = any-passes q xs rest in (y, inr there, passes)
      ] refl is

  pub passes-any : (q : X → Bool) (x : X) (xs : List X) → IsAmong x xs → q x ≡ true → list_any q xs ≡ true
  passes-any q x [] none passes = absurd none
  passes-any q x (y ∷ xs) (inl same) passes = ap (λ b. b || list_any q xs) (ap q same ∙ passes)
  passes-any q x (y ∷ xs) (inr later) passes =
      elim (q y) as (λ b. (b || list_any q xs) ≡ true) [ true ↦ refl | false ↦ passes-any q x xs later passes ]

-- ---- entries in order
less : (r : Ordering) → is_lt r ≡ true → r ≡ Less
less Less is = refl
less Equal is = absurd (false≢true is)
less Greater is = absurd (false≢true is)

below-each : (k : Pair) (es : List Entry) (e : Entry) → below_all pair_cmp k es ≡ true → IsAmong e es → pair_cmp k e.0 ≡ Less
below-each k [] e below none = absurd none
below-each k (x ∷ es) e below (inl same) =
    less (pair_cmp k e.0) (ap (λ (y : Entry). is_lt (pair_cmp k y.0)) (sym same) ∙ (and_parts (is_lt (pair_cmp k x.0)) (below_all pair_cmp k es) below).0)
below-each k (x ∷ es) e below (inr later) = below-each k es e (and_parts (is_lt (pair_cmp k x.0)) (below_all pair_cmp k es) below).1 later

-- an entry is found at its pair
pub found-at : (es : List Entry) (e : Entry) → is_sorted pair_cmp es ≡ true → IsAmong e es → lookup (is_at (pair_cmp e.0)) es ≡ Some e.1
found-at [] e sorted none = absurd none
found-at (x ∷ es) e sorted (inl same) =
    ap (λ (y : Entry). lookup (is_at (pair_cmp y.0)) (x ∷ es)) (sym same)
    ∙ ap (λ r. cond (is_eq r) (Some x.1) (lookup (is_at (pair_cmp x.0)) es)) (tied_itself pair_cmp_total x.0)
    ∙ ap (λ (y : Entry). Some y.1) same
found-at (x ∷ es) e sorted (inr later) =
    let (below, rest) = and_parts (below_all pair_cmp x.0 es) (is_sorted pair_cmp es) sorted in
    let above : pair_cmp e.0 x.0 ≡ Greater = pair_cmp_total.antisymm e.0 x.0 ∙ ap ordering_reverse (below-each x.0 es e below later) in
    ap (λ r. cond (is_eq r) (Some x.1) (lookup (is_at (pair_cmp e.0)) es)) above ∙ found-at es e rest later

-- what is found at a pair is an entry of it
pub at-found : (es : List Entry) (pair : Pair) (kept : SnapshotBuild) → lookup (is_at (pair_cmp pair)) es ≡ Some kept → IsAmong (pair, kept) es
at-found [] pair kept is = absurd (none-some kept is)
at-found (x ∷ es) pair kept is =
    elim (pair_cmp pair x.0) as (λ r. pair_cmp pair x.0 ≡ r → cond (is_eq r) (Some x.1) (lookup (is_at (pair_cmp pair)) es) ≡ Some kept → IsAmong (pair, kept) (x ∷ es)) [
      | Less ↦ λ _ later. inr (at-found es pair kept later)
      | Equal ↦ λ tie here. let same : x.1 ≡ kept = cc in inl (λ i. (sym (pair_cmp_ties pair x.0 tie) i, same i))
      | Greater ↦ λ _ later. inr (at-found es pair kept later)
    ] refl is

-- ---- the order of builds
both-tied : (r s : Ordering) → ordering_then r s ≡ Equal → (r ≡ Equal) × (s ≡ Equal)
both-tied Less s is = absurd cc
both-tied Equal s is = (refl, is)
both-tied Greater s is = absurd cc

time-ties : (t u : CivilTime) → time_cmp t u ≡ Equal → t ≡ u
time-ties t u is =
    let years = both-tied (nat_cmp t.year u.year) _ is in
    let months = both-tied (nat_cmp t.month u.month) _ years.1 in
    let days = both-tied (nat_cmp t.day u.day) _ months.1 in
    let hours = both-tied (nat_cmp t.hour u.hour) _ days.1 in
    let minutes = both-tied (nat_cmp t.minute u.minute) _ hours.1 in
    let year = nat_cmp-IsAntisymmetric t.year u.year years.0 in
    let month = nat_cmp-IsAntisymmetric t.month u.month months.0 in
    let day = nat_cmp-IsAntisymmetric t.day u.day days.0 in
    let hour = nat_cmp-IsAntisymmetric t.hour u.hour hours.0 in
    let minute = nat_cmp-IsAntisymmetric t.minute u.minute minutes.0 in
    let second = nat_cmp-IsAntisymmetric t.second u.second minutes.1 in
    λ i. record { year = year i; month = month i; day = day i; hour = hour i; minute = minute i; second = second i }

pub build-ties : (b c : BuildOf) → is_eq (build_cmp b c) ≡ true → b ≡ c
build-ties b c is = by (build_cmp b c) refl is where
  tied : build_cmp b c ≡ Equal → b ≡ c
  tied tie =
      let both = both-tied (time_cmp b.stamp c.stamp) (nat_cmp b.number c.number) tie in
      let stamp = time-ties b.stamp c.stamp both.0 in
      let number = nat_cmp-IsAntisymmetric b.number c.number both.1 in
      λ i. record { stamp = stamp i; number = number i }

  by : (r : Ordering) → build_cmp b c ≡ r → is_eq r ≡ true → b ≡ c
  by Less tie is = absurd (false≢true is)
  by Equal tie is = tied tie
  by Greater tie is = absurd (false≢true is)

-- neither of two is greater
pub neither-greater : {A : Type 0} {cmp : A → A → Ordering} → IsTotalOrder cmp → (x y : A) → is_gt (cmp x y) ≡ false → is_gt (cmp y x) ≡ false → is_eq (cmp x y) ≡ true
neither-greater {A} {cmp} order x y up down = by (cmp x y) refl up where
  by : (r : Ordering) → cmp x y ≡ r → is_gt r ≡ false → is_eq r ≡ true
  by Less is _ = absurd (false≢true (sym down ∙ ap is_gt (order.antisymm y x ∙ ap ordering_reverse is)))
  by Equal is _ = refl
  by Greater is not_so = absurd (false≢true (sym not_so))
