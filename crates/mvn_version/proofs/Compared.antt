-- Elements compare as the lists that they stand for.
use Rattle.std.proofs.Common.{◌≡◌, List, map, refl, ap, ◌∙◌, sym}
use Rattle.std.specs.Cmp.Derive.Mapped.{lex_map}
use Rattle.std.specs.Cmp.Lexicographic.{slice_cmp}
use Rattle.std.specs.Ordering.{nat_cmp, ordering_then}
use Rattle.mvn_version.specs.contracts.element.ElementOrd.TheImpl.{cmp-value}
use Rattle.mvn_version.specs.contracts.element.RankOrd.TheImpl as rank
use Rattle.mvn_version.specs.declared.element.Rank.{Rank}
use Rattle.mvn_version.specs.declared.element.Rank.TheVariants.{Alpha, Beta, Milestone, Candidate, Snapshot, End, ServicePack, Word, DashNumber, DotNumber}
use Rattle.mvn_version.specs.declared.element.Element.{Element}
use Rattle.mvn_version.specs.Element.{rank_number, shown}

rank_cmp : (r s : Rank) → (rank.cmp-value).it r s ≡ nat_cmp (rank_number r) (rank_number s)
rank_cmp Alpha Alpha = refl
rank_cmp Beta Alpha = refl
rank_cmp Milestone Alpha = refl
rank_cmp Candidate Alpha = refl
rank_cmp Snapshot Alpha = refl
rank_cmp End Alpha = refl
rank_cmp ServicePack Alpha = refl
rank_cmp Word Alpha = refl
rank_cmp DashNumber Alpha = refl
rank_cmp DotNumber Alpha = refl
rank_cmp _ _ = refl

pub cmp_shown : (a b : Element) → (cmp-value).it a b ≡ slice_cmp nat_cmp (shown a) (shown b)
cmp_shown a b =
    ap (λ r. ordering_then r (ordering_then (nat_cmp a.digits b.digits) (slice_cmp nat_cmp a.text.items b.text.items))) (rank_cmp a.rank b.rank)

pub compared : (xs ys : List Element) → slice_cmp (cmp-value).it xs ys ≡ slice_cmp (slice_cmp nat_cmp) (map shown xs) (map shown ys)
compared xs ys = (λ i. slice_cmp (λ a b. cmp_shown a b i) xs ys) ∙ sym (lex_map shown (slice_cmp nat_cmp) xs ys)
