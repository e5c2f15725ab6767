-- Merging documents of one kind is associative, and changes nothing of one document.
use Rattle.std.proofs.Common.{◌≡◌, true, [], ◌∷◌, Some}
use Rattle.mvn_metadata.specs.declared.listing.Listing.{Listing}
use Rattle.mvn_metadata.specs.declared.listing.Listing.TheVariants.{Artifact, Snapshot}
use Rattle.mvn_metadata.specs.Document.{Document, lists_versions, joined, merge, merged, nothing}
use Rattle.mvn_metadata.specs.Form.{is_document, is_listing}
use Rattle.mvn_metadata.specs.Order.{build_cmp, build_cmp_total, time_cmp, time_cmp_total}
use Rattle.mvn_metadata.proofs.FormLemmas.{builds_parts, listing_of, versions_parts}
use Rattle.mvn_metadata.proofs.MergeLaws.{greatest-greatest, greatest_itself, with_entries_assoc, with_entries_itself, with_entries_none, with_versions_assoc, with_versions_itself, with_versions_none}

joined_assoc : (k l m : Listing) → is_listing k ≡ true → is_listing l ≡ true → is_listing m ≡ true → lists_versions k ≡ lists_versions l → lists_versions l ≡ lists_versions m → joined k (joined l m) ≡ joined (joined k l) m
joined_assoc (Artifact us t) (Artifact vs u) (Artifact ws w) f g h same also =
    λ i. Artifact (with_versions_assoc us vs ws (versions_parts us t f).rising (versions_parts vs u g).rising i) (greatest-greatest time_cmp_total t u w i)
joined_assoc (Snapshot b x es) (Snapshot c y fs) (Snapshot d z gs) f g h same also =
    λ i. Snapshot b (greatest-greatest build_cmp_total x y z i)
    (with_entries_assoc es fs gs (builds_parts b x es f).sorted (builds_parts c y fs g).sorted (builds_parts d z gs h).sorted i)
joined_assoc (Artifact us t) (Snapshot c y fs) m f g h same also = absurd cc
joined_assoc (Snapshot b x es) (Artifact vs u) m f g h same also = absurd cc
joined_assoc (Artifact us t) (Artifact vs u) (Snapshot d z gs) f g h same also = absurd cc
joined_assoc (Snapshot b x es) (Snapshot c y fs) (Artifact ws w) f g h same also = absurd cc

joined_itself : (l : Listing) → is_listing l ≡ true → joined l l ≡ l
joined_itself (Artifact vs t) h =
    λ i. Artifact (with_versions_itself vs (versions_parts vs t h).rising i) (greatest_itself time_cmp t i)
joined_itself (Snapshot b n es) h =
    λ i. Snapshot b (greatest_itself build_cmp n i) (with_entries_itself es (builds_parts b n es h).sorted i)

joined_nothing : (l : Listing) → is_listing l ≡ true → joined (nothing l) l ≡ l
joined_nothing (Artifact vs t) h = λ i. Artifact (with_versions_none vs (versions_parts vs t h).rising i) t
joined_nothing (Snapshot b n es) h = λ i. Snapshot b n (with_entries_none es (builds_parts b n es h).sorted i)

pub merge_one : (d : Document) → is_document d ≡ true → merge (d ∷ []) ≡ Some d
merge_one d h = λ i. Some (record d { listing = joined_nothing d.listing (listing_of d h) i })

pub merged_itself : (d : Document) → is_document d ≡ true → merged d d ≡ d
merged_itself d h = λ i. record d { listing = joined_itself d.listing (listing_of d h) i }

pub merged_assoc : (d e f : Document) → is_document d ≡ true → is_document e ≡ true → is_document f ≡ true → lists_versions d.listing ≡ lists_versions e.listing → lists_versions e.listing ≡ lists_versions f.listing → merged d (merged e f) ≡ merged (merged d e) f
merged_assoc d e f p q r same also =
    λ i. record d { listing = joined_assoc d.listing e.listing f.listing (listing_of d p) (listing_of e q) (listing_of f r) same also i }
