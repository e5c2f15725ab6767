-- The orders of a document's parts: of builds by timestamp and number, of pairs of classifier and extension by bytes (Maven repository metadata 1.1.0).
use Rattle.std.specs.Prelude.{Bool}
use Rattle.std.specs.Cmp.{IsTotalOrder, IsEquivalence, eq_by_cmp_equiv, nat_cmp_total}
use Rattle.std.specs.Cmp.Lexicographic.{slice_cmp, nat_list_cmp_total}
use Rattle.std.proofs.lemmas.Cmp.{on_total, then_total}
use Rattle.std.specs.Ordering.{eq_by_cmp, nat_cmp, ordering_then}
use Rattle.std.specs.declared.cmp.Ordering.{Ordering}
use Rattle.mvn_coords.specs.Civil.{CivilTime}
use Rattle.mvn_coords.specs.FileName.{BuildOf}
use Rattle.mvn_metadata.specs.declared.pair.Pair.{Pair}

abbrev pub pair_cmp : Pair → Pair → Ordering
pair_cmp p q = ordering_then (slice_cmp nat_cmp p.classifier q.classifier) (slice_cmp nat_cmp p.extension q.extension)

abbrev pub pair_eq : Pair → Pair → Bool
pair_eq p q = eq_by_cmp pair_cmp p q

pub pair_cmp_total : IsTotalOrder pair_cmp
pair_cmp_total =
    then_total (on_total (λ (p : Pair). p.classifier) nat_list_cmp_total) (on_total (λ (p : Pair). p.extension) nat_list_cmp_total)

pub pair_eq_equiv : IsEquivalence pair_eq
pair_eq_equiv = eq_by_cmp_equiv pair_cmp_total

-- the earlier date and time is less
abbrev pub time_cmp : CivilTime → CivilTime → Ordering
time_cmp t u =
    ordering_then (nat_cmp t.year u.year) (ordering_then (nat_cmp t.month u.month) (ordering_then (nat_cmp t.day u.day)
    (ordering_then (nat_cmp t.hour u.hour) (ordering_then (nat_cmp t.minute u.minute) (nat_cmp t.second u.second)))))

abbrev pub build_cmp : BuildOf → BuildOf → Ordering
build_cmp b c = ordering_then (time_cmp b.stamp c.stamp) (nat_cmp b.number c.number)

pub time_cmp_total : IsTotalOrder time_cmp
time_cmp_total =
    then_total (on_total (λ (t : CivilTime). t.year) nat_cmp_total)
    (then_total (on_total (λ (t : CivilTime). t.month) nat_cmp_total)
    (then_total (on_total (λ (t : CivilTime). t.day) nat_cmp_total)
    (then_total (on_total (λ (t : CivilTime). t.hour) nat_cmp_total)
    (then_total (on_total (λ (t : CivilTime). t.minute) nat_cmp_total) (on_total (λ (t : CivilTime). t.second) nat_cmp_total)))))

pub build_cmp_total : IsTotalOrder build_cmp
build_cmp_total =
    then_total (on_total (λ (b : BuildOf). b.stamp) time_cmp_total) (on_total (λ (b : BuildOf). b.number) nat_cmp_total)
