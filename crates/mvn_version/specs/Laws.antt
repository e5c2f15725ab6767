-- The laws of the order of versions: a total preorder whose ties are equal keys, and in lists a total order of texts.
use Rattle.std.specs.Prelude.{◌≡◌, ℕ, List, [], ◌∷◌, bytes_eq}
use Rattle.std.proofs.Common.{ap, ◌∙◌}
use Rattle.std.proofs.lemmas.List.{append_cancel_right}
use Rattle.std.proofs.lemmas.Slice.Eq.{bytes_eq-Decides}
use Rattle.std.proofs.lemmas.Cmp.{on_total, then_total, lists_total, nat_list_cmp_total, tied_itself}
use Rattle.std.specs.Cmp.{IsTotalOrder, Equal-is, both_ways}
use Rattle.std.specs.Cmp.Lexicographic.{slice_cmp}
use Rattle.std.specs.FinMap.{nat_cmp-IsAntisymmetric, slice_cmp-IsAntisymmetric}
use Rattle.std.specs.Ordering.{eq_by_cmp, is_eq, nat_cmp, ordering_then}
use Rattle.std.specs.declared.cmp.Ordering.{Ordering}
use Rattle.std.specs.declared.cmp.Ordering.TheVariants.{Less, Equal, Greater}
use Rattle.mvn_version.specs.Key.{key}
use Rattle.mvn_version.specs.Order.{end_mark, ended, list_cmp, version_cmp}

pub version_cmp_total : IsTotalOrder version_cmp
version_cmp_total = on_total (λ (v : List ℕ). ended (key v)) (lists_total nat_list_cmp_total)

pub version_cmp_ties : (v w : List ℕ) → version_cmp v w ≡ Equal → key v ≡ key w
version_cmp_ties v w e =
    append_cancel_right (key v) (key w) (end_mark ∷ [])
    (slice_cmp-IsAntisymmetric (slice_cmp-IsAntisymmetric nat_cmp-IsAntisymmetric) (ended (key v)) (ended (key w)) e)

pub version_cmp_alike : (v w : List ℕ) → key v ≡ key w → version_cmp v w ≡ Equal
version_cmp_alike v w e =
    (λ i. slice_cmp (slice_cmp nat_cmp) (ended (e i)) (ended (key w))) ∙ tied_itself (lists_total nat_list_cmp_total) (ended (key w))

pub list_cmp_total : IsTotalOrder list_cmp
list_cmp_total = then_total version_cmp_total nat_list_cmp_total

second : (r s : Ordering) → ordering_then r s ≡ Equal → s ≡ Equal
second Less s e = absurd cc
second Equal s e = e
second Greater s e = absurd cc

pub list_cmp_ties : (v w : List ℕ) → list_cmp v w ≡ Equal → v ≡ w
list_cmp_ties v w e =
    slice_cmp-IsAntisymmetric nat_cmp-IsAntisymmetric v w (second (version_cmp v w) (slice_cmp nat_cmp v w) e)

-- where two texts are equal, and only there, the order of lists ties them
pub bytes_eq_ties : (v w : List ℕ) → bytes_eq v w ≡ eq_by_cmp list_cmp v w
bytes_eq_ties v w =
    both_ways (bytes_eq v w) (eq_by_cmp list_cmp v w)
    (λ e. ap is_eq ((λ i. list_cmp ((bytes_eq-Decides v w).0 e i) w) ∙ tied_itself list_cmp_total w))
    (λ e. (bytes_eq-Decides v w).1 (list_cmp_ties v w ((Equal-is (list_cmp v w)).0 e)))
