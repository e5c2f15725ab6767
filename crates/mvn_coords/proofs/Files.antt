-- What a path's segments name has the path that was cut.
use Rattle.std.proofs.Common.{◌≡◌, ℕ, suc, ◌+◌, ◌<◌, ◌≤◌, true, false, cond, eqb, ltb, List, [], ◌∷◌, ◌++◌, length, get_or, None, Ok, Err, codes, refl, ap, sym, ◌∙◌, arith, is_some}
use Rattle.std.specs.List.{list_all, ends_with}
use Rattle.std.specs.Str.{bytes_eq}
use Rattle.std.proofs.lemmas.Bool.{and_from, or_parts, lt-ltb, not_from_false, false_from_ne_true, ne_eqb, le-ltb, le-leb}
use Rattle.std.proofs.lemmas.List.{append_assoc, length-append}
use Rattle.std.proofs.lemmas.Slice.Eq.{bytes_eq-Decides}
use Rattle.mvn_coords.specs.declared.fault.PathFault.TheVariants as fault
use Rattle.mvn_coords.specs.Segment.{Segment, levels, path_of_levels, is_segment, is_path_byte}
use Rattle.mvn_coords.specs.FileName.{Ending, ◌>>=◌, base_of, ending_in}
use Rattle.mvn_coords.specs.Layout.{Coordinates, Named, file, document, may_stand, coordinates_of, with_ending, file_in, file_of, version_with, tail_text, version_directory_of, name_of, directory_of, named, text_of}
use Rattle.mvn_coords.specs.Path.{parts_of, IsFile, IsPlain, IsBelow}
use Rattle.mvn_coords.proofs.Levels.{Filled, filled, below, path_of_levels-levels}
use Rattle.mvn_coords.proofs.Endings.{ending_written, build_for_base}
use Rattle.mvn_coords.proofs.Results.{bound, chosen, ok_same}

abbrev metadata : List ℕ
metadata = codes "maven-metadata.xml"

-- how segments name a file
pub record FileParts (ls : List Segment) (c : Coordinates) : Type 0 where
  pub name : Segment
  pub directory : Segment
  pub artifact : Segment
  pub group : Segment
  pub above : List Segment
  pub ending : Ending
  pub split : ls ≡ name ∷ directory ∷ artifact ∷ group ∷ above
  pub ended : ending_in artifact directory name (base_of directory) ≡ Ok ending
  pub value : with_ending (group ∷ above) artifact directory ending ≡ c

pub file_parts : (ls : List Segment) (c : Coordinates) → file_of ls ≡ Ok c → FileParts ls c
file_parts [] c h = cc
file_parts (_ ∷ []) c h = cc
file_parts (_ ∷ _ ∷ []) c h = cc
file_parts (_ ∷ _ ∷ _ ∷ []) c h = cc
file_parts (name ∷ directory ∷ artifact ∷ group ∷ above) c h =
    let t = chosen (may_stand (group ∷ above) artifact directory) (ending_in artifact directory name (base_of directory) >>= λ e. Ok (with_ending (group ∷ above) artifact directory e)) fault.BadSegment c h in
    let e = bound (ending_in artifact directory name (base_of directory)) (λ e. Ok (with_ending (group ∷ above) artifact directory e)) c t.value in
    record {
      name = name;
      directory = directory;
      artifact = artifact;
      group = group;
      above = above;
      ending = e.value;
      split = refl;
      ended = e.first;
      value = ok_same _ _ e.next;
    }

-- a file's name, and the path
pub record FilePath (path : List ℕ) (c : Coordinates) : Type 0 where
  pub name : Segment
  pub above : List Segment
  pub rest : List ℕ
  pub split : levels path ≡ name ∷ above
  pub spelled : name ≡ c.artifact ++ 45 ∷ rest
  pub text : path ≡ text_of c

spelled_name : (a v t : List ℕ) → a ++ 45 ∷ v ++ t ≡ a ++ 45 ∷ (v ++ t)
spelled_name a v t = append_assoc a (45 ∷ v) t

pub file_path : (path : List ℕ) (c : Coordinates) → file_of (levels path) ≡ Ok c → FilePath path c
file_path path c h =
    let p = file_parts (levels path) c h in
    let one = below path p.name p.directory (p.artifact ∷ p.group ∷ p.above) p.split in
    let two = below one.0 p.directory p.artifact (p.group ∷ p.above) one.2 in
    let three = below two.0 p.artifact p.group p.above two.2 in
    let group : three.0 ≡ path_of_levels (p.group ∷ p.above) = sym (path_of_levels-levels three.0) ∙ ap path_of_levels three.2 in
    let name = ending_written p.artifact p.directory p.name (base_of p.directory) p.ending p.ended in
    let v = with_ending (p.group ∷ p.above) p.artifact p.directory p.ending in
    let directory : one.0 ≡ path_of_levels (p.group ∷ p.above) ++ 47 ∷ p.artifact ++ 47 ∷ p.directory = two.1 ∙ ap (λ t. t ++ 47 ∷ p.directory) (three.1 ∙ ap (λ t. t ++ 47 ∷ p.artifact) group) in
    let text : path ≡ text_of v = one.1 ∙ (λ i. directory i ++ 47 ∷ name i) in
    let rest = version_with p.directory p.ending.build (base_of p.directory) ++ tail_text p.ending.classifier p.ending.extension in
    record {
      name = p.name;
      above = p.directory ∷ p.artifact ∷ p.group ∷ p.above;
      rest = rest;
      split = p.split;
      spelled = name ∙ spelled_name p.artifact (version_with p.directory p.ending.build (base_of p.directory)) (tail_text p.ending.classifier p.ending.extension) ∙ ap (λ (k : Coordinates). k.artifact ++ 45 ∷ rest) p.value;
      text = text ∙ ap text_of p.value;
    }

-- a name with `-` after an artifact is a segment
spelled_segment : (name a rest : List ℕ) → name ≡ a ++ 45 ∷ rest → list_all is_path_byte name ≡ true → length name ≤ 255 → is_segment name ≡ true
spelled_segment name a rest e bytes size =
    let long : length name ≡ length a + suc (length rest) = ap length e ∙ length-append a (45 ∷ rest) in
    and_from _ _ (and_from _ _ (and_from _ _ (and_from _ _ (lt-ltb 0 (length name) (omega arith)) (le-leb (length name) 255 size))
    (not_from_false _ (false_from_ne_true _ (λ t. one_dot a rest (sym e ∙ (bytes_eq-Decides name (46 ∷ [])).0 t)))))
    (not_from_false _ (false_from_ne_true _ (λ t. two_dots a rest (sym e ∙ (bytes_eq-Decides name (46 ∷ 46 ∷ [])).0 t))))) bytes
  where
    one_dot : (a rest : List ℕ) → a ++ 45 ∷ rest ≡ 46 ∷ [] → ⊥
    one_dot [] rest e = let first : ◌≡◌ {A = ℕ} 45 46 = ap (λ (l : List ℕ). get_or l 0 0) e in omega arith
    one_dot (x ∷ a) rest e = omega (arith, ap length e, length-append a (45 ∷ rest))

    two_dots : (a rest : List ℕ) → a ++ 45 ∷ rest ≡ 46 ∷ 46 ∷ [] → ⊥
    two_dots [] rest e = let first : ◌≡◌ {A = ℕ} 45 46 = ap (λ (l : List ℕ). get_or l 0 0) e in omega arith
    two_dots (x ∷ []) rest e = let second : ◌≡◌ {A = ℕ} 45 46 = ap (λ (l : List ℕ). get_or l 1 0) e in omega arith
    two_dots (x ∷ y ∷ a) rest e = omega (arith, ap length e, length-append a (45 ∷ rest))

-- a path without a side suffix, all of whose segments may stand, is judged by what they name
pub parts_of_plain : (path : List ℕ) (thing : Named) → 0 < length path → IsPlain path → list_all is_segment (levels path) ≡ true → named (levels path) ≡ Ok thing → parts_of path ≡ Ok (record { thing = thing; side = None })
unfolding parts_of
parts_of_plain path thing filled plain ok e =
    let three = or_parts _ (ends_with eqb path (codes ".sha512")) plain.plain in
    let two = or_parts _ (ends_with eqb path (codes ".sha256")) three.0 in
    let one = or_parts (ends_with eqb path (codes ".sha1")) (ends_with eqb path (codes ".md5")) two.0 in
    let some : eqb (length path) 0 ≡ false = ne_eqb (length path) 0 (λ z. omega arith) in
    let short : ltb 1024 (length path) ≡ false = le-ltb 1024 (length path) plain.short in
    rw (some, short, ok, one.0, one.1, two.1, three.1, e) refl

pub plain_segments : (path : List ℕ) (name : Segment) (above : List Segment) → IsPlain path → levels path ≡ name ∷ above → is_segment name ≡ true → list_all is_segment (levels path) ≡ true
plain_segments path name above plain split h =
    ap (list_all is_segment) split ∙ and_from (is_segment name) (list_all is_segment above) h (plain.above name above split)

pub some_bytes : (path above name : List ℕ) → path ≡ above ++ 47 ∷ name → 0 < length path
some_bytes path above name e = omega (arith, ap length e, length-append above (47 ∷ name))

-- the coordinates that a path names are a file's, and the path is theirs
pub keeps_file : (path : List ℕ) (c : Coordinates) → IsPlain path → named (levels path) ≡ Ok (file c) → file_of (levels path) ≡ Ok c → IsFile c × (path ≡ text_of c)
keeps_file path c plain name h =
    let p = file_path path c h in
    let segment = spelled_segment p.name c.artifact p.rest p.spelled (plain.bytes p.name p.above p.split) (plain.size p.name p.above p.split) in
    let some : 0 < length path = some_bytes path (version_directory_of c) (name_of c) p.text in
    let rule = parts_of_plain path (file c) some plain (plain_segments path p.name p.above plain p.split segment) name in
    (ap parts_of (sym p.text) ∙ rule, p.text)

-- the steps by which a path is judged a file
four : (ls : List Segment) (name version artifact : Segment) (group : List ℕ) → ls ≡ name ∷ version ∷ artifact ∷ levels group → file_of ls ≡ file_in name version artifact (levels group)
four ls name version artifact group e = ap file_of e ∙ by_group (filled group)
  where
    by_group : Filled group → file_of (name ∷ version ∷ artifact ∷ levels group) ≡ file_in name version artifact (levels group)
    by_group f = rw f.split refl

pub file_refused : (ls : List Segment) (name version artifact : Segment) (group : List ℕ) → ls ≡ name ∷ version ∷ artifact ∷ levels group → may_stand (levels group) artifact version ≡ false → file_of ls ≡ Err fault.BadSegment
file_refused ls name version artifact group e h =
    four ls name version artifact group e
    ∙ ap (λ t. cond t (ending_in artifact version name (base_of version) >>= λ e. Ok (with_ending (levels group) artifact version e)) (Err fault.BadSegment)) h

pub file_judged : (ls : List Segment) (name version artifact : Segment) (group : List ℕ) → ls ≡ name ∷ version ∷ artifact ∷ levels group → may_stand (levels group) artifact version ≡ true → file_of ls ≡ (ending_in artifact version name (base_of version) >>= λ e. Ok (coordinates_of group artifact version e))
file_judged ls name version artifact group e h =
    four ls name version artifact group e
    ∙ ap (λ t. cond t (ending_in artifact version name (base_of version) >>= λ e. Ok (with_ending (levels group) artifact version e)) (Err fault.BadSegment)) h
    ∙ ap (λ (g : List ℕ). ending_in artifact version name (base_of version) >>= λ e. Ok (coordinates_of g artifact version e)) (path_of_levels-levels group)

pub named_file : (path above name : List ℕ) (c : Coordinates) → IsBelow path above name → bytes_eq name (codes "maven-metadata.xml") ≡ false → file_of (levels path) ≡ Ok c → named (levels path) ≡ Ok (file c)
named_file path above name c place other h =
    ap named place.split
    ∙ ap (λ t. cond t (directory_of (levels above) >>= λ d. Ok (document d)) (file_of (name ∷ levels above) >>= λ k. Ok (file k))) other
    ∙ ap (λ r. r >>= λ k. Ok (file k)) (ap file_of (sym place.split) ∙ h)

pub file_build : (ls : List Segment) (c : Coordinates) → file_of ls ≡ Ok c → is_some c.build ≡ is_some (base_of c.directory)
file_build ls c h =
    let p = file_parts ls c h in
    let own : is_some p.ending.build ≡ is_some (base_of p.directory) = build_for_base p.artifact p.directory p.name (base_of p.directory) p.ending p.ended in
    ap (λ (k : Coordinates). is_some k.build) (sym p.value) ∙ own ∙ ap (λ (k : Coordinates). is_some (base_of k.directory)) p.value
