-- What the segments of a directory name has the path that was cut, and is read again from its document's path.
use Rattle.std.proofs.Common.{◌≡◌, ℕ, suc, Bool, true, false, cond, ◌&&◌, List, [], ◌∷◌, ◌++◌, length, Some, None, is_some, Ok, Err, codes, refl, ap, sym, ◌∙◌, arith}
use Rattle.std.specs.List.{list_all}
use Rattle.std.proofs.lemmas.Bool.{and_parts, and_from, false≢true, lt-ltb}
use Rattle.std.proofs.lemmas.List.{append-nil}
use Rattle.mvn_coords.specs.declared.fault.PathFault.TheVariants as fault
use Rattle.mvn_coords.specs.Segment.{Segment, levels, path_of_levels, is_segment, are_artifact_bytes}
use Rattle.mvn_coords.specs.FileName.{base_of, is_filled}
use Rattle.mvn_coords.specs.Layout.{Directory, directory, document, may_stand, all_groups, artifact_directory, snapshot_directory, directory_of, named, text_of_directory, text_of_document, below_group}
use Rattle.mvn_coords.specs.Path.{parts_of, IsDirectory, IsPlain, IsBelow}
use Rattle.mvn_coords.proofs.Levels.{Filled, filled, below, one_segment, path_of_levels-levels}
use Rattle.mvn_coords.proofs.Files.{parts_of_plain, plain_segments, some_bytes}
use Rattle.mvn_coords.proofs.Results.{chosen, ok_same}

-- a path whose last segment may stand has a byte
some_path : (path : List ℕ) (last : Segment) (above : List Segment) → levels path ≡ last ∷ above → is_segment last ≡ true → is_filled path ≡ true
some_path [] last above e h = let none : [] ≡ last = cc in absurd (false≢true (ap is_segment none ∙ h))
some_path (x ∷ xs) last above e h = lt-ltb 0 (suc (length xs)) (omega arith)

below_filled : (group artifact : List ℕ) → is_filled group ≡ true → group ++ 47 ∷ artifact ≡ below_group group artifact
below_filled group artifact h = rw h refl

-- a path below another, which is the group's
under : (path : List ℕ) (artifact group : Segment) (above : List Segment) → levels path ≡ artifact ∷ group ∷ above → is_segment group ≡ true → path ≡ below_group (path_of_levels (group ∷ above)) artifact
under path artifact group above e h =
    let b = below path artifact group above e in
    let rest : b.0 ≡ path_of_levels (group ∷ above) = sym (path_of_levels-levels b.0) ∙ ap path_of_levels b.2 in
    b.1 ∙ below_filled b.0 artifact (some_path b.0 group above b.2 h) ∙ ap (λ g. below_group g artifact) rest

artifact_text : (path : List ℕ) (artifact : Segment) (above : List Segment) (d : Directory) → levels path ≡ artifact ∷ above → list_all is_segment above ≡ true → artifact_directory artifact above ≡ Ok d → path ≡ text_of_directory d
artifact_text path artifact above d e ok h =
    let c = chosen (all_groups above && are_artifact_bytes artifact) (Ok (record { group = path_of_levels above; artifact = artifact; version = None })) fault.BadSegment d h in
    by_above above e ok ∙ sym (append-nil (below_group (path_of_levels above) artifact)) ∙ ap text_of_directory (ok_same _ _ c.value)
  where
    by_above : (above : List Segment) → levels path ≡ artifact ∷ above → list_all is_segment above ≡ true → path ≡ below_group (path_of_levels above) artifact
    by_above [] e ok = one_segment path artifact e
    by_above (group ∷ above) e ok = under path artifact group above e (and_parts (is_segment group) (list_all is_segment above) ok).0

snapshot_text : (path : List ℕ) (version artifact group : Segment) (above : List Segment) (d : Directory) → levels path ≡ version ∷ artifact ∷ group ∷ above → list_all is_segment (group ∷ above) ≡ true → snapshot_directory version artifact (group ∷ above) ≡ Ok d → path ≡ text_of_directory d
snapshot_text path version artifact group above d e ok h =
    let c = chosen (may_stand (group ∷ above) artifact version) (Ok (record { group = path_of_levels (group ∷ above); artifact = artifact; version = Some version })) fault.BadSegment d h in
    let b = below path version artifact (group ∷ above) e in
    let first = under b.0 artifact group above b.2 (and_parts (is_segment group) (list_all is_segment above) ok).0 in
    b.1 ∙ ap (λ t. t ++ 47 ∷ version) first ∙ ap text_of_directory (ok_same _ _ c.value)

pub directory_text : (path : List ℕ) (d : Directory) → list_all is_segment (levels path) ≡ true → directory_of (levels path) ≡ Ok d → path ≡ text_of_directory d
directory_text path d ok h = by_levels (levels path) refl ok h
  where
    pick : (t : Bool) (version artifact group : Segment) (above : List Segment) → levels path ≡ version ∷ artifact ∷ group ∷ above → list_all is_segment (artifact ∷ group ∷ above) ≡ true → cond t (snapshot_directory version artifact (group ∷ above)) (artifact_directory version (artifact ∷ group ∷ above)) ≡ Ok d → path ≡ text_of_directory d
    pick true version artifact group above e ok h = snapshot_text path version artifact group above d e (and_parts (is_segment artifact) (list_all is_segment (group ∷ above)) ok).1 h
    pick false version artifact group above e ok h = artifact_text path version (artifact ∷ group ∷ above) d e ok h

    by_levels : (ls : List Segment) → levels path ≡ ls → list_all is_segment ls ≡ true → directory_of ls ≡ Ok d → path ≡ text_of_directory d
    by_levels [] e ok h = cc
    by_levels (a ∷ []) e ok h = artifact_text path a [] d e refl h
    by_levels (a ∷ b ∷ []) e ok h = artifact_text path a (b ∷ []) d e (and_parts (is_segment a) (list_all is_segment (b ∷ [])) ok).1 h
    by_levels (a ∷ b ∷ g ∷ above) e ok h = pick (is_some (base_of a)) a b g above e (and_parts (is_segment a) (list_all is_segment (b ∷ g ∷ above)) ok).1 h

-- the directory whose document a path names: the path is its document's
pub keeps_directory : (path above : List ℕ) (d : Directory) → IsPlain path → IsBelow path above (codes "maven-metadata.xml") → directory_of (levels above) ≡ Ok d → IsDirectory d × (above ≡ text_of_directory d)
keeps_directory path above d plain place h =
    let name = codes "maven-metadata.xml" in
    let ok = plain.above name (levels above) place.split in
    let text = directory_text above d ok h in
    let thing : named (levels path) ≡ Ok (document d) = rw (place.split, h) refl in
    let rule = parts_of_plain path (document d) (some_bytes path above name place.joined) plain (plain_segments path name (levels above) plain place.split refl) thing in
    let whole : path ≡ text_of_document d = place.joined ∙ ap (λ t. t ++ 47 ∷ name) text in
    (ap parts_of (sym whole) ∙ rule, text)

-- the steps by which a path is judged a directory
pub one_directory : (ls : List Segment) (artifact : Segment) → ls ≡ artifact ∷ [] → are_artifact_bytes artifact ≡ true → directory_of ls ≡ Ok (directory [] artifact None)
one_directory ls artifact e h = rw (e, h) refl

pub artifact_judged : (ls : List Segment) (artifact : Segment) (group : List ℕ) → directory_of ls ≡ artifact_directory artifact (levels group) → all_groups (levels group) ≡ true → are_artifact_bytes artifact ≡ true → directory_of ls ≡ Ok (directory group artifact None)
artifact_judged ls artifact group e g a =
    e ∙ ap (λ t. cond t (Ok (directory (path_of_levels (levels group)) artifact None)) (Err fault.BadSegment)) (and_from _ _ g a)
    ∙ ap (λ (p : List ℕ). Ok (directory p artifact None)) (path_of_levels-levels group)

three : (ls : List Segment) (version artifact : Segment) (group : List ℕ) → ls ≡ version ∷ artifact ∷ levels group → is_some (base_of version) ≡ true → directory_of ls ≡ snapshot_directory version artifact (levels group)
three ls version artifact group e h = ap directory_of e ∙ by_group (filled group)
  where
    by_group : Filled group → directory_of (version ∷ artifact ∷ levels group) ≡ snapshot_directory version artifact (levels group)
    by_group f = ap (λ (g : List Segment). directory_of (version ∷ artifact ∷ g)) f.split
        ∙ ap (λ t. cond t (snapshot_directory version artifact (f.last ∷ f.above)) (artifact_directory version (artifact ∷ f.last ∷ f.above))) h
        ∙ ap (λ (g : List Segment). snapshot_directory version artifact g) (sym f.split)

pub snapshot_refused : (ls : List Segment) (version artifact : Segment) (group : List ℕ) → ls ≡ version ∷ artifact ∷ levels group → is_some (base_of version) ≡ true → may_stand (levels group) artifact version ≡ false → directory_of ls ≡ Err fault.BadSegment
snapshot_refused ls version artifact group e b h =
    three ls version artifact group e b
    ∙ ap (λ t. cond t (Ok (directory (path_of_levels (levels group)) artifact (Some version))) (Err fault.BadSegment)) h

pub snapshot_judged : (ls : List Segment) (version artifact : Segment) (group : List ℕ) → ls ≡ version ∷ artifact ∷ levels group → is_some (base_of version) ≡ true → may_stand (levels group) artifact version ≡ true → directory_of ls ≡ Ok (directory group artifact (Some version))
snapshot_judged ls version artifact group e b h =
    three ls version artifact group e b
    ∙ ap (λ t. cond t (Ok (directory (path_of_levels (levels group)) artifact (Some version))) (Err fault.BadSegment)) h
    ∙ ap (λ (p : List ℕ). Ok (directory p artifact (Some version))) (path_of_levels-levels group)
