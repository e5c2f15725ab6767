-- What a file's name tells writes the name again.
use Rattle.std.proofs.Common.{◌≡◌, ℕ, ◌+◌, ◌<◌, Bool, true, false, cond, List, [], ◌∷◌, ◌++◌, length, get_or, take, drop, Option, Some, None, option_and_then, Result, Ok, Err, refl, ap, sym, ◌∙◌, arith, is_some}
use Rattle.std.specs.Option.{ok_or, option_map}
use Rattle.std.specs.List.{position_or_len, before_first, after_first}
use Rattle.std.proofs.lemmas.Bool.{and_parts, ltb-true, eqb-true}
use Rattle.std.proofs.lemmas.List.{take-append-drop, drop_more, append_assoc, length-drop}
use Rattle.std.proofs.lemmas.List.Sums.{passes_at_first}
use Rattle.mvn_coords.specs.declared.fault.PathFault.{PathFault}
use Rattle.mvn_coords.specs.declared.fault.PathFault.TheVariants as fault
use Rattle.mvn_coords.specs.Civil.{CivilTime, time_of, text_of_time, digits}
use Rattle.byte_cuts.specs.Cuts.{behind}
use Rattle.mvn_coords.specs.FileName.{BuildOf, Ending, ◌>>=◌, is_dot, is_filled, tail_by, tail_of, ending_of, release_ending, number_of, digit_count, number_in, numbered, is_literal, snapshot_ending, ending_in}
use Rattle.byte_cuts.specs.Cuts.{significant}
use Rattle.mvn_coords.specs.Layout.{tail_text, version_with}
use Rattle.mvn_coords.proofs.Cuts.{after_some}
use Rattle.mvn_coords.proofs.Results.{bound, chosen_some, ok_or_some, some_same, ok_same}
use Rattle.mvn_coords.proofs.Written.{text_of_time-time_of, number_written}

-- a text is what stands before its first dot, the dot, and what stands after it
cut_at_dot : (text : List ℕ) → is_filled (after_first is_dot text) ≡ true → text ≡ before_first is_dot text ++ 46 ∷ after_first is_dot text
cut_at_dot text h =
    let n = position_or_len is_dot text in
    let rest : 0 < length (drop (n + 1) text) = ltb-true 0 _ h in
    let inside : n < length text = omega (arith, length-drop (n + 1) text) in
    let dot : get_or text n 0 ≡ 46 = eqb-true _ 46 (passes_at_first is_dot text 0 inside) in
    sym (take-append-drop n text) ∙ ap (λ v. take n text ++ v) (drop_more text n 0 inside ∙ ap (λ b. b ∷ drop (n + 1) text) dot)

with_classifier : (classifier extension : List ℕ) → is_filled classifier ≡ true → 45 ∷ (classifier ++ 46 ∷ extension) ≡ tail_text classifier extension
with_classifier classifier extension h = rw h refl

pub tail_written : (text : List ℕ) (t : List ℕ × List ℕ) → tail_of text ≡ Some t → text ≡ tail_text t.0 t.1
tail_written text t h = by_dot (behind (46 ∷ []) text) (behind (45 ∷ []) text) refl refl h
  where
    by_dot : (o p : Option (List ℕ)) → behind (46 ∷ []) text ≡ o → behind (45 ∷ []) text ≡ p → tail_by o p ≡ Some t → text ≡ tail_text t.0 t.1
    by_dot (Some e) p a b h =
        let c = chosen_some (is_filled e) (Some ([], e)) t h in
        let same : ([], e) ≡ t = some_same _ _ c.value in
        after_some (46 ∷ []) text e a ∙ ap (λ (v : List ℕ × List ℕ). tail_text v.0 v.1) same
    by_dot None (Some r) a b h =
        let c = chosen_some _ (Some (before_first is_dot r, after_first is_dot r)) t h in
        let f = and_parts (is_filled (before_first is_dot r)) (is_filled (after_first is_dot r)) c.test in
        let same : (before_first is_dot r, after_first is_dot r) ≡ t = some_same _ _ c.value in
        after_some (45 ∷ []) text r b ∙ ap (λ v. 45 ∷ v) (cut_at_dot r f.1) ∙ with_classifier (before_first is_dot r) (after_first is_dot r) f.0 ∙ ap (λ (v : List ℕ × List ℕ). tail_text v.0 v.1) same
    by_dot None None a b h = cc

ending_parts : (build : Option BuildOf) (text : List ℕ) (e : Ending) → ending_of build text ≡ Ok e → (text ≡ tail_text e.classifier e.extension) × (e.build ≡ build)
ending_parts build text e h =
    let b = bound (ok_or (tail_of text) fault.NotNamed) _ e h in
    let t = tail_written text b.value (ok_or_some (tail_of text) fault.NotNamed b.value b.first) in
    let same = ok_same _ _ b.next in
    (t ∙ ap (λ (v : Ending). tail_text v.classifier v.extension) same, sym (ap (λ (v : Ending). v.build) same))

abbrev pub NameFor : List ℕ → List ℕ → Option (List ℕ) → Ending → List ℕ
NameFor artifact directory base e = artifact ++ 45 ∷ version_with directory e.build base ++ tail_text e.classifier e.extension

release_written : (artifact directory name : List ℕ) (e : Ending) → release_ending artifact directory name ≡ Ok e → name ≡ NameFor artifact directory None e
release_written artifact directory name e h =
    let b = bound (ok_or (behind (artifact ++ 45 ∷ directory) name) fault.NotNamed) (ending_of None) e h in
    let text = b.value in
    let front = after_some (artifact ++ 45 ∷ directory) name text (ok_or_some _ fault.NotNamed text b.first) in
    let p = ending_parts None text e b.next in
    front ∙ ap (λ v. (artifact ++ 45 ∷ directory) ++ v) p.0
    ∙ ap (λ (b : Option BuildOf). artifact ++ 45 ∷ version_with directory b None ++ tail_text e.classifier e.extension) (sym p.1)

run_written : (text rest : List ℕ) (n : ℕ) → numbered text ≡ Some (n, rest) → text ≡ 45 ∷ (significant (digits 9 n) ++ rest)
run_written text rest n h = by_dash (behind (45 ∷ []) text) refl h
  where
    by_number : (run : List ℕ) (o : Option ℕ) → number_of (take (digit_count run) run) ≡ o → option_map {T = ℕ} {U = ℕ × List ℕ} (λ k. (k, drop (digit_count run) run)) o ≡ Some (n, rest) → run ≡ significant (digits 9 n) ++ rest
    by_number run None a h = cc
    by_number run (Some k) a h =
        let same : (k, drop (digit_count run) run) ≡ (n, rest) = some_same _ _ h in
        sym (take-append-drop (digit_count run) run) ∙ ap (λ v. v ++ drop (digit_count run) run) (number_written (take (digit_count run) run) k a)
        ∙ ap (λ (v : ℕ × List ℕ). significant (digits 9 v.0) ++ v.1) same

    by_dash : (o : Option (List ℕ)) → behind (45 ∷ []) text ≡ o → option_and_then number_in o ≡ Some (n, rest) → text ≡ 45 ∷ (significant (digits 9 n) ++ rest)
    by_dash None a h = cc
    by_dash (Some run) a h = after_some (45 ∷ []) text run a ∙ ap (λ v. 45 ∷ v) (by_number run (number_of (take (digit_count run) run)) refl h)

regrouped : (a b t n r : List ℕ) → (a ++ 45 ∷ b ++ 45 ∷ []) ++ (t ++ 45 ∷ (n ++ r)) ≡ a ++ 45 ∷ (b ++ 45 ∷ (t ++ 45 ∷ n)) ++ r
regrouped a b t n r = simp append_assoc

after_stamp : (artifact directory base name text : List ℕ) (stamp : CivilTime) (e : Ending) → name ≡ (artifact ++ 45 ∷ base ++ 45 ∷ []) ++ text → time_of (take 15 text) ≡ Some stamp
    → (ok_or (numbered (drop 15 text)) fault.BadBuild >>= λ number. ending_of (Some (record { stamp = stamp; number = number.0 })) number.1) ≡ Ok e → name ≡ NameFor artifact directory (Some base) e
after_stamp artifact directory base name text stamp e front time h =
    let b = bound (ok_or (numbered (drop 15 text)) fault.BadBuild) (λ number. ending_of (Some (record { stamp = stamp; number = number.0 })) number.1) e h in
    let n = b.value.0 in
    let rest = b.value.1 in
    let run = run_written (drop 15 text) rest n (ok_or_some _ fault.BadBuild b.value b.first) in
    let p = ending_parts (Some (record { stamp = stamp; number = n })) rest e b.next in
    let whole : text ≡ text_of_time stamp ++ 45 ∷ (significant (digits 9 n) ++ rest) = sym (take-append-drop 15 text) ∙ ap (λ v. v ++ drop 15 text) (text_of_time-time_of (take 15 text) stamp time) ∙ ap (λ v. text_of_time stamp ++ v) run in
    front ∙ ap (λ v. (artifact ++ 45 ∷ base ++ 45 ∷ []) ++ v) whole
    ∙ regrouped artifact base (text_of_time stamp) (significant (digits 9 n)) rest
    ∙ ap (λ v. artifact ++ 45 ∷ (base ++ 45 ∷ (text_of_time stamp ++ 45 ∷ significant (digits 9 n))) ++ v) p.0
    ∙ ap (λ (b : Option BuildOf). artifact ++ 45 ∷ version_with directory b (Some base) ++ tail_text e.classifier e.extension) (sym p.1)

snapshot_written : (artifact directory base name : List ℕ) (e : Ending) → snapshot_ending artifact base name ≡ Ok e → name ≡ NameFor artifact directory (Some base) e
snapshot_written artifact directory base name e h =
    let b = bound (ok_or (behind (artifact ++ 45 ∷ base ++ 45 ∷ []) name) fault.NotNamed) _ e h in
    let text = b.value in
    let front = after_some (artifact ++ 45 ∷ base ++ 45 ∷ []) name text (ok_or_some _ fault.NotNamed text b.first) in
    let s = bound (cond (is_literal text) (Err fault.LiteralSnapshot) (ok_or (time_of (take 15 text)) fault.BadStamp)) _ e b.next in
    after_stamp artifact directory base name text s.value e front (ok_or_some _ fault.BadStamp s.value (not_literal (is_literal text) _ s.value s.first)) s.next
  where
    not_literal : (t : Bool) (r : Result CivilTime PathFault) (v : CivilTime) → cond t (Err fault.LiteralSnapshot) r ≡ Ok v → r ≡ Ok v
    not_literal true r v h = cc
    not_literal false r v h = h

-- a file's name is the one of what it tells
pub ending_written : (artifact directory name : List ℕ) (base : Option (List ℕ)) (e : Ending) → ending_in artifact directory name base ≡ Ok e → name ≡ NameFor artifact directory base e
ending_written artifact directory name None e h = release_written artifact directory name e h
ending_written artifact directory name (Some base) e h = snapshot_written artifact directory base name e h

built : (build : Option BuildOf) (text : List ℕ) (e : Ending) → ending_of build text ≡ Ok e → is_some e.build ≡ is_some build
built build text e h = ap is_some (ending_parts build text e h).1

-- a file has a build exactly where its version directory has a base
pub build_for_base : (artifact directory name : List ℕ) (base : Option (List ℕ)) (e : Ending) → ending_in artifact directory name base ≡ Ok e → is_some e.build ≡ is_some base
build_for_base artifact directory name None e h =
    let b = bound (ok_or (behind (artifact ++ 45 ∷ directory) name) fault.NotNamed) (ending_of None) e h in
    built None b.value e b.next
build_for_base artifact directory name (Some base) e h =
    let b = bound (ok_or (behind (artifact ++ 45 ∷ base ++ 45 ∷ []) name) fault.NotNamed) _ e h in
    let s = bound (cond (is_literal b.value) (Err fault.LiteralSnapshot) (ok_or (time_of (take 15 b.value)) fault.BadStamp)) _ e b.next in
    let n = bound (ok_or (numbered (drop 15 b.value)) fault.BadBuild) (λ number. ending_of (Some (record { stamp = s.value; number = number.0 })) number.1) e s.next in
    built (Some (record { stamp = s.value; number = n.value.0 })) n.value.1 e n.next
