-- A file of a snapshot directory has the form of a document's entry.
use Rattle.std.proofs.Common.{◌≡◌, ℕ, ◌+◌, ◌≤◌, suc, Bool, true, false, cond, not, ◌&&◌, List, [], ◌∷◌, ◌++◌, length, take, drop, Option, Some, None, Ok, Err, option_map, refl, sym, ap, ◌∙◌, subst, arith, append_assoc, length-append}
use Rattle.std.specs.Prelude.{codes, is_some, option_and_then}
use Rattle.std.specs.List.{list_all, before_first, after_first, position_or_len, prefix_len}
use Rattle.std.proofs.lemmas.Bool.{and_parts, and_from, le-leb}
use Rattle.std.proofs.lemmas.List.{take-append-drop}
use Rattle.std.proofs.lemmas.List.Folds.{list_all-append}
use Rattle.byte_cuts.specs.Cuts.{before, behind}
use Rattle.mvn_coords.specs.FileName.{BuildOf, Ending, base_of, is_filled, is_dot, ending_in, ending_of, tail_of, tail_by, is_literal, numbered, number_in, number_of, digit_count}
use Rattle.mvn_coords.specs.Civil.{time_of}
use Rattle.std.specs.Option.{ok_or}
use Rattle.mvn_coords.specs.Layout.{Coordinates}
use Rattle.mvn_coords.specs.Path.{IsFile}
use Rattle.mvn_coords.specs.Segment.{is_path_byte}
use Rattle.mvn_coords.specs.declared.fault.PathFault.TheVariants as fault
use Rattle.mvn_coords.proofs.Cuts.{after_some, before_some}
use Rattle.mvn_coords.proofs.Results.{bound, chosen_some, ok_or_some, ok_same, some_same}
use Rattle.mvn_coords.specs.Segment.{is_version_directory}
use Rattle.mvn_metadata.specs.Form.{is_base_version, is_build, is_classifier, is_entry, is_extension}
use Rattle.directory_rows.proofs.PathForms.{file_form}

-- a name, and the part of it that tells classifier and extension
record Tail (name : List ℕ) (e : Ending) : Type 0 where
  front : List ℕ
  text : List ℕ
  joined : name ≡ front ++ text
  tail : tail_of text ≡ Some (e.classifier, e.extension)

ending_tail : (build : Option BuildOf) (text : List ℕ) (e : Ending) → ending_of build text ≡ Ok e → tail_of text ≡ Some (e.classifier, e.extension)
ending_tail build text e h =
    let b = bound (ok_or (tail_of text) fault.NotNamed) _ e h in
    let same = ok_same _ _ b.next in
    ok_or_some (tail_of text) fault.NotNamed b.value b.first ∙ ap (λ (v : Ending). Some (v.classifier, v.extension)) same

numbered_tail : (text : List ℕ) (v : ℕ × List ℕ) → numbered text ≡ Some v → (front : List ℕ) × (text ≡ front ++ v.1)
numbered_tail text v h = by_dash (behind (45 ∷ []) text) refl h
  where
    by_number : (run : List ℕ) (o : Option ℕ) → option_map {T = ℕ} {U = ℕ × List ℕ} (λ k. (k, drop (digit_count run) run)) o ≡ Some v → run ≡ take (digit_count run) run ++ v.1
    by_number run None g = cc
    by_number run (Some k) g =
        let same : (k, drop (digit_count run) run) ≡ v = some_same _ _ g in
        sym (take-append-drop (digit_count run) run) ∙ ap (λ (w : ℕ × List ℕ). take (digit_count run) run ++ w.1) same

    by_dash : (o : Option (List ℕ)) → behind (45 ∷ []) text ≡ o → option_and_then number_in o ≡ Some v → (front : List ℕ) × (text ≡ front ++ v.1)
    by_dash None a g = cc
    by_dash (Some run) a g =
        (45 ∷ take (digit_count run) run, after_some (45 ∷ []) text run a ∙ ap (λ w. 45 ∷ w) (by_number run (number_of (take (digit_count run) run)) g))

tail_in : (artifact directory name : List ℕ) (base : Option (List ℕ)) (e : Ending) → ending_in artifact directory name base ≡ Ok e → Tail name e
tail_in artifact directory name None e h =
    let b = bound (ok_or (behind (artifact ++ 45 ∷ directory) name) fault.NotNamed) (ending_of None) e h in
    record {
      front = artifact ++ 45 ∷ directory;
      text = b.value;
      joined = after_some (artifact ++ 45 ∷ directory) name b.value (ok_or_some _ fault.NotNamed b.value b.first);
      tail = ending_tail None b.value e b.next;
    }
tail_in artifact directory name (Some base) e h =
    let start = artifact ++ 45 ∷ base ++ 45 ∷ [] in
    let b = bound (ok_or (behind start name) fault.NotNamed) _ e h in
    let s = bound (cond (is_literal b.value) (Err fault.LiteralSnapshot) (ok_or (time_of (take 15 b.value)) fault.BadStamp)) _ e b.next in
    let n = bound (ok_or (numbered (drop 15 b.value)) fault.BadBuild) (λ number. ending_of (Some (record { stamp = s.value; number = number.0 })) number.1) e s.next in
    let run = numbered_tail (drop 15 b.value) n.value (ok_or_some _ fault.BadBuild n.value n.first) in
    record {
      front = (start ++ take 15 b.value) ++ run.0;
      text = n.value.1;
      joined =
          after_some start name b.value (ok_or_some _ fault.NotNamed b.value b.first)
          ∙ ap (λ t. start ++ t) (sym (take-append-drop 15 b.value) ∙ ap (λ t. take 15 b.value ++ t) run.1)
          ∙ sym (append_assoc start (take 15 b.value) (run.0 ++ n.value.1))
          ∙ sym (append_assoc (start ++ take 15 b.value) run.0 n.value.1);
      tail = ending_tail (Some (record { stamp = s.value; number = n.value.0 })) n.value.1 e n.next;
    }

all_take : (p : ℕ → Bool) (k : ℕ) (xs : List ℕ) → list_all p xs ≡ true → list_all p (take k xs) ≡ true
all_take p k xs h = (and_parts _ (list_all p (drop k xs)) (sym (list_all-append p (take k xs) (drop k xs)) ∙ ap (list_all p) (take-append-drop k xs) ∙ h)).0

all_drop : (p : ℕ → Bool) (k : ℕ) (xs : List ℕ) → list_all p xs ≡ true → list_all p (drop k xs) ≡ true
all_drop p k xs h = (and_parts (list_all p (take k xs)) _ (sym (list_all-append p (take k xs) (drop k xs)) ∙ ap (list_all p) (take-append-drop k xs) ∙ h)).1

length_take : (k : ℕ) (xs : List ℕ) → length (take k xs) ≤ length xs
length_take k xs = omega (arith, ap length (take-append-drop k xs), length-append (take k xs) (drop k xs))

length_drop : (k : ℕ) (xs : List ℕ) → length (drop k xs) ≤ length xs
length_drop k xs = omega (arith, ap length (take-append-drop k xs), length-append (take k xs) (drop k xs))

all_prefix : (p : ℕ → Bool) (xs : List ℕ) → list_all p (take (prefix_len p xs) xs) ≡ true
all_prefix p [] = refl
all_prefix p (x ∷ xs) =
    elim (p x) as (λ b. p x ≡ b → list_all p (take (cond b (1 + prefix_len p xs) 0) (x ∷ xs)) ≡ true) [
      | true ↦ λ h.
          ap (λ n. list_all p (take n (x ∷ xs))) (let one : 1 + prefix_len p xs ≡ suc (prefix_len p xs) = omega arith in one)
          ∙ and_from (p x) (list_all p (take (prefix_len p xs) xs)) h (all_prefix p xs)
      | false ↦ λ h. refl
    ] refl

all_both : (p q : ℕ → Bool) (xs : List ℕ) → list_all p xs ≡ true → list_all q xs ≡ true → list_all (λ x. p x && q x) xs ≡ true
all_both p q [] g h = refl
all_both p q (x ∷ xs) g h =
    let a = and_parts (p x) (list_all p xs) g in
    let b = and_parts (q x) (list_all q xs) h in
    and_from _ _ (and_from (p x) (q x) a.0 b.0) (all_both p q xs a.1 b.1)

record TailForm (classifier extension : List ℕ) : Type 0 where
  is_classifier : is_classifier classifier ≡ true
  is_extension : is_extension extension ≡ true

as_extension : (text : List ℕ) → is_filled text ≡ true → length text ≤ 255 → list_all is_path_byte text ≡ true → is_extension text ≡ true
as_extension text some size bytes = and_from _ (list_all is_path_byte text) (and_from _ _ some (le-leb (length text) 255 size)) bytes

tail_form : (text : List ℕ) (t : List ℕ × List ℕ) → tail_of text ≡ Some t → list_all is_path_byte text ≡ true → length text ≤ 255 → TailForm t.0 t.1
tail_form text t h bytes size = by_dot (behind (46 ∷ []) text) (behind (45 ∷ []) text) refl refl h
  where
    by_dot : (o p : Option (List ℕ)) → behind (46 ∷ []) text ≡ o → behind (45 ∷ []) text ≡ p → tail_by o p ≡ Some t → TailForm t.0 t.1
    by_dot (Some e) p a b g =
        let c = chosen_some (is_filled e) (Some ([], e)) t g in
        let same : ([], e) ≡ t = some_same _ _ c.value in
        let is = after_some (46 ∷ []) text e a in
        let inner : list_all is_path_byte e ≡ true = (and_parts (is_path_byte 46) (list_all is_path_byte e) (sym (ap (list_all is_path_byte) is) ∙ bytes)).1 in
        let short : length e ≤ 255 = omega (arith, ap length is, size) in
        subst (λ (v : List ℕ × List ℕ). TailForm v.0 v.1) same (record { is_classifier = refl; is_extension = as_extension e c.test short inner })
    by_dot None (Some r) a b g =
        let c = chosen_some _ (Some (before_first is_dot r, after_first is_dot r)) t g in
        let some = and_parts (is_filled (before_first is_dot r)) (is_filled (after_first is_dot r)) c.test in
        let same : (before_first is_dot r, after_first is_dot r) ≡ t = some_same _ _ c.value in
        let is = after_some (45 ∷ []) text r b in
        let inner : list_all is_path_byte r ≡ true = (and_parts (is_path_byte 45) (list_all is_path_byte r) (sym (ap (list_all is_path_byte) is) ∙ bytes)).1 in
        let short : length r ≤ 255 = omega (arith, ap length is, size) in
        let k = position_or_len is_dot r in
        subst (λ (v : List ℕ × List ℕ). TailForm v.0 v.1) same (record {
          is_classifier = and_from _ _ (le-leb (length (take k r)) 255 (omega (arith, length_take k r, short)))
              (all_both is_path_byte (λ x. not (is_dot x)) (take k r) (all_take is_path_byte k r inner) (all_prefix (λ x. not (is_dot x)) r));
          is_extension = as_extension (drop (k + 1) r) some.1 (omega (arith, length_drop (k + 1) r, short)) (all_drop is_path_byte (k + 1) r inner);
        })
    by_dot None None a b g = cc

-- what a document lists of a file of a build
pub entry_form : (c : Coordinates) (base : List ℕ) (b : BuildOf) → IsFile c → base_of c.directory ≡ Some base → is_build b ≡ true
    → is_entry (record { classifier = c.classifier; extension = c.extension }, record { base = base; build = b }) ≡ true
entry_form c base b file based built =
    let f = file_form c file in
    let t = tail_in c.artifact c.directory _ (base_of c.directory) f.ending f.ended in
    let name_bytes = sym (ap (list_all is_path_byte) t.joined) ∙ f.bytes in
    let bytes : list_all is_path_byte t.text ≡ true = (and_parts (list_all is_path_byte t.front) _ (sym (list_all-append is_path_byte t.front t.text) ∙ name_bytes)).1 in
    let size : length t.text ≤ 255 = omega (arith, ap length t.joined, length-append t.front t.text, f.size) in
    let form = tail_form t.text (f.ending.classifier, f.ending.extension) t.tail bytes size in
    let classifier : is_classifier c.classifier ≡ true = subst (λ x. is_classifier x ≡ true) f.classifier form.is_classifier in
    let extension : is_extension c.extension ≡ true = subst (λ x. is_extension x ≡ true) f.extension form.is_extension in
    let cut = chosen_some _ (before (codes "-SNAPSHOT") c.directory) base based in
    let directory : c.directory ≡ base ++ codes "-SNAPSHOT" = before_some (codes "-SNAPSHOT") c.directory base cut.value in
    let version : is_base_version (base ++ codes "-SNAPSHOT") ≡ true =
    subst (λ d. is_base_version d ≡ true) directory (and_from (is_version_directory c.directory) (is_some (base_of c.directory)) f.version (ap is_some based)) in
    and_from _ _ (and_from _ _ (and_from _ _ classifier extension) version) built
