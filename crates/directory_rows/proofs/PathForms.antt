-- The path of a file: its directories and its name, and what each is made of.
use Rattle.std.proofs.Common.{◌≡◌, ℕ, ◌<◌, ◌≤◌, Bool, true, false, cond, not, List, [], ◌∷◌, ◌++◌, length, None, Ok, refl, sym, ap, ◌∙◌, subst, arith, append_assoc}
use Rattle.std.specs.Prelude.{codes}
use Rattle.std.specs.List.{list_all, list_any}
use Rattle.std.specs.Str.{bytes_eq}
use Rattle.std.proofs.lemmas.Bool.{false≢true, and_parts, and_from, or_from, eqb-true, lt-ltb, ltb-true}
use Rattle.mvn_coords.specs.FileName.{◌>>=◌, Ending, base_of, is_filled, ending_in}
use Rattle.mvn_coords.specs.Layout.{Coordinates, Named, file, document, named, directory_of, file_of, may_stand, with_ending, name_of, version_of, tail_text, text_of}
use Rattle.mvn_coords.specs.Path.{IsFile, Parts}
use Rattle.mvn_coords.specs.Segment.{Segment, levels, path_of_levels, is_path_byte, is_segment, fits_version, is_version_directory}
use Rattle.mvn_coords.specs.declared.fault.PathFault.TheVariants as fault
use Rattle.mvn_coords.proofs.Cuts.{slash}
use Rattle.mvn_coords.proofs.Endings.{ending_written}
use Rattle.mvn_coords.proofs.ExactPaths.{passes}
use Rattle.mvn_coords.proofs.Files.{file_parts}
use Rattle.mvn_coords.proofs.Levels.{Whole, below, path_of_levels-levels}
use Rattle.mvn_coords.proofs.Results.{bound, chosen, ok_same}

no_slash : (b : ℕ) → is_path_byte b ≡ true → slash b ≡ false
no_slash b h =
    elim (slash b) as (λ t. slash b ≡ t → t ≡ false) [
      | true ↦ λ e. let is : b ≡ 47 = eqb-true b 47 e in absurd (false≢true (ap is_path_byte (sym is) ∙ h))
      | false ↦ λ _. refl
    ] refl

pub path_bytes_whole : (text : List ℕ) → list_all is_path_byte text ≡ true → Whole text
path_bytes_whole [] h = refl
path_bytes_whole (b ∷ text) h =
    let p = and_parts (is_path_byte b) (list_all is_path_byte text) h in or_from (slash b) (list_any slash text) (no_slash b p.0) (path_bytes_whole text p.1)

segment_bytes : (s : Segment) → is_segment s ≡ true → list_all is_path_byte s ≡ true
segment_bytes s h = (and_parts _ (list_all is_path_byte s) h).1

segment_filled : (s : Segment) → is_segment s ≡ true → 0 < length s
segment_filled s h =
    let a = and_parts _ (list_all is_path_byte s) h in
    let b = and_parts _ (not (bytes_eq s (codes ".."))) a.0 in
    let c = and_parts _ (not (bytes_eq s (codes "."))) b.0 in
    let d = and_parts _ _ c.0 in
    ltb-true 0 (length s) d.0

filled_levels : (path : List ℕ) (s : Segment) (above : List Segment) → levels path ≡ s ∷ above → 0 < length s → is_filled path ≡ true
filled_levels [] s above e h =
    let same : s ≡ [] = cc in
    let none : length s ≡ 0 = ap length same in
    absurd (omega (arith, none, h))
filled_levels (b ∷ path) s above e h = lt-ltb 0 (length (b ∷ path)) (omega arith)

-- what the coordinates of a file are made of
pub record FileForm (c : Coordinates) : Type 0 where
  pub rest : List ℕ
  pub spelled : name_of c ≡ c.artifact ++ 45 ∷ rest
  pub bytes : list_all is_path_byte (name_of c) ≡ true
  pub size : length (name_of c) ≤ 255
  pub directory : Whole c.directory
  pub version : is_version_directory c.directory ≡ true
  pub group : is_filled c.group ≡ true
  pub ending : Ending
  pub ended : ending_in c.artifact c.directory (name_of c) (base_of c.directory) ≡ Ok ending
  pub classifier : ending.classifier ≡ c.classifier
  pub extension : ending.extension ≡ c.extension

-- what a path names is a file only by the steps for files
named_is_file : (ls : List Segment) (c : Coordinates) → named ls ≡ Ok (file c) → file_of ls ≡ Ok c
named_is_file [] c h = cc
named_is_file (name ∷ above) c h = by_name (bytes_eq name (codes "maven-metadata.xml")) h
  where
    by_name : (t : Bool) → cond t (directory_of above >>= λ d. Ok (document d)) (file_of (name ∷ above) >>= λ k. Ok (file k)) ≡ Ok (file c) → file_of (name ∷ above) ≡ Ok c
    by_name true g = let b = bound (directory_of above) (λ d. Ok (document d)) (file c) g in cc
    by_name false g =
        let b = bound (file_of (name ∷ above)) (λ k. Ok (file k)) (file c) g in
        let same : file b.value ≡ file c = ok_same _ _ b.next in
        let value : b.value ≡ c = cc in
        b.first ∙ ap (λ (k : Coordinates). Ok k) value

pub file_form : (c : Coordinates) → IsFile c → FileForm c
file_form c h =
    let q = passes (text_of c) (record { thing = file c; side = None }) h in
    let thing : q.thing ≡ file c = ap (λ (p : Parts). p.thing) q.value in
    let path = q.cut.path in
    let is_file : file_of (levels path) ≡ Ok c = named_is_file (levels path) c (q.named ∙ ap (λ (t : Named). Ok t) thing) in
    let p = file_parts (levels path) c is_file in
    let value = p.value in
    let artifact : p.artifact ≡ c.artifact = ap (λ (k : Coordinates). k.artifact) value in
    let directory : p.directory ≡ c.directory = ap (λ (k : Coordinates). k.directory) value in
    let name : p.name ≡ name_of c = ending_written p.artifact p.directory p.name (base_of p.directory) p.ending p.ended ∙ ap name_of value in
    let above = q.plain.above p.name (p.directory ∷ p.artifact ∷ p.group ∷ p.above) p.split in
    let first = and_parts (is_segment p.directory) _ above in
    let second = and_parts (is_segment p.artifact) _ first.1 in
    let third = and_parts (is_segment p.group) _ second.1 in
    let stands = chosen (may_stand (p.group ∷ p.above) p.artifact p.directory) (ending_in p.artifact p.directory p.name (base_of p.directory) >>= λ e. Ok (with_ending (p.group ∷ p.above) p.artifact p.directory e)) fault.BadSegment c
    (sym (ap file_of p.split) ∙ is_file) in
    let version = (and_parts _ (fits_version p.directory) stands.test).1 in
    let one = below path p.name p.directory (p.artifact ∷ p.group ∷ p.above) p.split in
    let two = below one.0 p.directory p.artifact (p.group ∷ p.above) one.2 in
    let three = below two.0 p.artifact p.group p.above two.2 in
    let group : three.0 ≡ c.group = sym (path_of_levels-levels three.0) ∙ ap path_of_levels three.2 ∙ ap (λ (k : Coordinates). k.group) value in
    record {
      rest = version_of c ++ tail_text c.classifier c.extension;
      spelled = append_assoc c.artifact (45 ∷ version_of c) (tail_text c.classifier c.extension);
      bytes = subst (λ t. list_all is_path_byte t ≡ true) name (q.plain.bytes p.name (p.directory ∷ p.artifact ∷ p.group ∷ p.above) p.split);
      size = subst (λ (t : List ℕ). length t ≤ 255) name (q.plain.size p.name (p.directory ∷ p.artifact ∷ p.group ∷ p.above) p.split);
      directory = subst Whole directory (path_bytes_whole p.directory (segment_bytes p.directory first.0));
      version = subst (λ t. is_version_directory t ≡ true) directory (and_from (is_segment p.directory) (fits_version p.directory) first.0 version);
      group = subst (λ t. is_filled t ≡ true) group (filled_levels three.0 p.group p.above three.2 (segment_filled p.group third.0));
      ending = p.ending;
      ended = sym (λ i. ending_in (artifact i) (directory i) (name i) (base_of (directory i))) ∙ p.ended;
      classifier = ap (λ (k : Coordinates). k.classifier) value;
      extension = ap (λ (k : Coordinates). k.extension) value;
    }
