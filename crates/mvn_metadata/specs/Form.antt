-- The form that a metadata document keeps (Maven repository metadata 1.1.0, Maven 2 repository layout).
use Rattle.std.specs.Prelude.{ℕ, Bool, true, false, not, ◌&&◌, ◌==◌, nat_le, nat_lt, List, [], ◌∷◌, ◌++◌, length, Option, Some, None, is_some, codes}
use Rattle.std.specs.List.{list_all, slice_split}
use Rattle.std.specs.Ordering.{is_lt}
use Rattle.std.specs.declared.cmp.Ordering.{Ordering}
use Rattle.std.specs.FinMap.Entries.{is_sorted}
use Rattle.mvn_coords.specs.Civil.{is_civil}
use Rattle.mvn_coords.specs.FileName.{BuildOf, is_build_number, base_of}
use Rattle.mvn_coords.specs.Segment.{is_group_segment, is_artifact, is_version_directory, is_path_byte}
use Rattle.mvn_version.specs.Order.{list_cmp}
use Rattle.mvn_metadata.specs.declared.listing.Listing.{Listing}
use Rattle.mvn_metadata.specs.declared.listing.Listing.TheVariants.{Artifact, Snapshot}
use Rattle.mvn_metadata.specs.Document.{Document}
use Rattle.mvn_metadata.specs.Merge.{Entry}
use Rattle.mvn_metadata.specs.Order.{build_cmp, pair_cmp}

-- a value fits, or there is none
abbrev pub is_fit : {A : Type 0} → (A → Bool) → Option A → Bool
is_fit test None = true
is_fit test (Some value) = test value

-- group segments with `.` between them
abbrev pub is_group : List ℕ → Bool
is_group text = list_all is_group_segment (slice_split (λ b. b == 46) text)

-- X-SNAPSHOT, a version directory
abbrev pub is_base_version : List ℕ → Bool
is_base_version text = is_version_directory text && is_some (base_of text)

abbrev pub is_classifier_byte : ℕ → Bool
is_classifier_byte b = is_path_byte b && not (b == 46)

-- no bytes, or bytes of a path without `.`
abbrev pub is_classifier : List ℕ → Bool
is_classifier text = nat_le (length text) 255 && list_all is_classifier_byte text

abbrev pub is_extension : List ℕ → Bool
is_extension text = nat_lt 0 (length text) && nat_le (length text) 255 && list_all is_path_byte text

abbrev pub is_build : BuildOf → Bool
is_build b = is_civil b.stamp && is_build_number b.number

abbrev pub is_entry : Entry → Bool
is_entry e =
    is_classifier e.0.classifier && is_extension e.0.extension && is_base_version (e.1.base ++ codes "-SNAPSHOT")
    && is_build e.1.build

-- the build is known, and not newer than the newest
abbrev pub is_reached : Option BuildOf → BuildOf → Bool
is_reached None b = false
is_reached (Some newest) b = not (is_lt (build_cmp newest b))

-- each is below all that follow
abbrev pub is_rising : {K : Type 0} → (K → K → Ordering) → List K → Bool
is_rising cmp [] = true
is_rising cmp (k ∷ ks) = list_all (λ q. is_lt (cmp k q)) ks && is_rising cmp ks

-- versions are distinct and in order; pairs are distinct and in order, and none has a build above the newest
abbrev pub is_listing : Listing → Bool
is_listing (Artifact versions updated) =
    list_all is_version_directory versions && is_rising list_cmp versions && is_fit is_civil updated
is_listing (Snapshot base newest entries) =
    is_base_version base && is_fit is_build newest && list_all is_entry entries && is_sorted pair_cmp entries
    && list_all (λ e. is_reached newest e.1.build) entries

abbrev pub is_document : Document → Bool
is_document d = is_fit is_group d.group && is_fit is_artifact d.artifact && is_listing d.listing
