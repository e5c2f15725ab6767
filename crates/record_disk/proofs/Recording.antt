-- What one call more makes of the record of a disk in memory.
use Rattle.std.proofs.Common.{◌≡◌, inr, ℕ, ◌+◌, ◌-◌, ◌≤◌, List, [], ◌∷◌, ◌++◌, length, take, drop, refl, sym, ◌∙◌, ap, subst, arith, length-append, length-drop, append_assoc}
use Rattle.std.proofs.lemmas.List.{take_at, take_all, take-append-le, drop-append-le, append-nil, drop-drop, length-take-le, nil_from_length}
use Rattle.std.proofs.Math.Seq.{drop-append-add}
use Rattle.record_disk.specs.Disk.{Trace, Opened, After, content, IsImage, Torn, MayHave, written}
use Rattle.record_disk.specs.Disk as disk
use Rattle.record_disk.specs.Record.{call_of, put_of, file_after, told_by, put_in_all, IsRecorded}
use Rattle.record_disk.specs.declared.record.DiskCall.{DiskCall}
use Rattle.record_disk.specs.declared.record.DiskCall.TheVariants.{Write, Cut, Sync}

put_in_all-push : (calls : List DiskCall) (call : DiskCall) → put_in_all (calls ++ call ∷ []) ≡ put_in_all calls + put_of call
put_in_all-push [] call = omega arith
put_in_all-push (c ∷ calls) call = omega (arith, put_in_all-push calls call)

told_push : (trace : Trace) (calls : List DiskCall) (put : List ℕ) (call : DiskCall) (b : List ℕ) → put_in_all calls ≡ length put → put_of call ≡ length b
    → told_by trace (calls ++ call ∷ []) (put ++ b) ≡ After (call_of call) (file_after call b (content (told_by trace calls put))) (told_by trace calls put)
told_push trace [] put call b all size =
    let none : put ≡ [] = nil_from_length put (sym all) in
    let whole : take (put_of call) b ≡ b = take_all (put_of call) b (omega (arith, size)) in
    ap (λ (l : List ℕ). told_by trace (call ∷ []) (l ++ b)) none ∙ ap (λ (l : List ℕ). After (call_of call) (file_after call l (content trace)) trace) whole
told_push trace (c ∷ calls) put call b all size =
    let within : put_of c ≤ length put = omega (arith, all) in
    let next = After (call_of c) (file_after c (take (put_of c) put) (content trace)) trace in
    let front : take (put_of c) (put ++ b) ≡ take (put_of c) put = take-append-le (put_of c) put b within in
    let back : drop (put_of c) (put ++ b) ≡ drop (put_of c) put ++ b = drop-append-le (put_of c) put b within in
    (λ i. told_by (After (call_of c) (file_after c (front i) (content trace)) trace) (calls ++ call ∷ []) (back i))
    ∙ told_push next calls (drop (put_of c) put) call b (omega (arith, all, length-drop (put_of c) put)) size

-- a write of n bytes of which only the first were made
torn_written : (file : List ℕ) (at n : ℕ) (b : List ℕ) → at ≤ length file → length b ≤ n → Torn at n file (written file at b)
torn_written file at n b within part =
    let front : length (take at file) ≡ at = length-take-le at file within in
    let both : length (take at file ++ b) ≡ at + length b = omega (arith, front, length-append (take at file) b) in
    let tail = drop (at + length b) file in
    let behind : drop (at + n) (written file at b) ≡ drop (n - length b) tail =
    (let e : at + n ≡ length (take at file ++ b) + (n - length b) = omega (arith, both, part) in ap (λ (k : ℕ). drop k (written file at b)) e) ∙ drop-append-add (take at file ++ b) tail (n - length b) in
    let size : length (written file at b) ≡ at + length b + length tail = omega (arith, both, length-append (take at file ++ b) tail) in
    record {
      before = ap (take at) (append_assoc (take at file) b tail) ∙ take_at (take at file) (b ++ tail) at front;
      after = behind ∙ drop-drop (n - length b) (at + length b) file ∙ (let e : at + length b + (n - length b) ≡ at + n = omega (arith, part) in ap (λ (k : ℕ). drop k file) e);
      no_shorter = omega (arith, size, length-drop (at + length b) file);
      no_longer = omega (arith, size, part, length-drop (at + length b) file);
    }

-- one call more, as the record and as callers see it: `now` is the trace before it
pub record OneMore (call : DiskCall) (b first : List ℕ) (old : Trace) (calls : List DiskCall) (put bytes : List ℕ) : Type 0 where
  pub recorded : IsRecorded first calls put bytes
  pub may_have : (now : Trace) → old ≡ now → MayHave (call_of call) now (told_by (Opened first) calls put)
  pub done : (now : Trace) → old ≡ now → content (told_by (Opened first) calls put) ≡ file_after call b (content now)

module _ (first : List ℕ) (calls : List DiskCall) (put bytes : List ℕ) (is : IsRecorded first calls put bytes) where
  abbrev old : Trace
  old = told_by (Opened first) calls put

  module _ (call : DiskCall) (b : List ℕ) (calls' : List DiskCall) (put' bytes' : List ℕ) (pushed : calls' ≡ calls ++ call ∷ []) (joined : put' ≡ put ++ b) (left : bytes' ≡ file_after call b bytes) (size : put_of call ≡ length b) where
    told_more : told_by (Opened first) calls' put' ≡ After (call_of call) bytes' old
    told_more =
        (λ i. told_by (Opened first) (pushed i) (joined i)) ∙ told_push (Opened first) calls put call b is.all size
        ∙ ap (λ (l : List ℕ). After (call_of call) l old) (ap (file_after call b) is.reads ∙ sym left)

    one_more : IsImage (After (call_of call) bytes' old) bytes' → OneMore call b first old calls' put' bytes'
    one_more image =
        let new = told_by (Opened first) calls' put' in
        let reads : content new ≡ bytes' = ap content told_more in
        let is_image : IsImage new bytes' = subst (λ t. IsImage t bytes') (sym told_more) image in
        record {
          recorded = record {
            reads = reads;
            image = is_image;
            all = ap put_in_all pushed ∙ put_in_all-push calls call ∙ (let e : put_in_all calls + put_of call ≡ length (put ++ b) = omega (arith, is.all, size, length-append put b) in e) ∙ ap length (sym joined);
          };
          may_have = λ now same. record {
            step = inr (told_more ∙ ap (λ (l : List ℕ). After (call_of call) l old) (sym reads) ∙ ap (After (call_of call) (content new)) same);
            image = subst (IsImage new) (sym reads) is_image;
          };
          done = λ now same. reads ∙ left ∙ ap (file_after call b) (sym is.reads ∙ ap content same);
        }

  pub write_more : (at n part : ℕ) (b : List ℕ) (calls' : List DiskCall) (put' bytes' : List ℕ) → at ≤ length bytes → part ≤ n → part ≡ length b
      → calls' ≡ calls ++ Write at n part ∷ [] → put' ≡ put ++ b → bytes' ≡ written bytes at b → OneMore (Write at n part) b first old calls' put' bytes'
  write_more at n part b calls' put' bytes' within made size pushed joined left =
      let torn : Torn at n bytes bytes' = subst (Torn at n bytes) (sym left) (torn_written bytes at n b within (omega (arith, made, size))) in
      one_more (Write at n part) b calls' put' bytes' pushed joined left size (bytes, is.image, torn)

  pub cut_more : (size : ℕ) (calls' : List DiskCall) (bytes' : List ℕ) → calls' ≡ calls ++ Cut size ∷ [] → bytes' ≡ take size bytes → OneMore (Cut size) [] first old calls' put bytes'
  cut_more size calls' bytes' pushed left =
      one_more (Cut size) [] calls' put bytes' pushed (sym (append-nil put)) left refl (bytes, is.image, inr left)

  pub sync_more : (calls' : List DiskCall) → calls' ≡ calls ++ Sync ∷ [] → OneMore Sync [] first old calls' put bytes
  sync_more calls' pushed = one_more Sync [] calls' put bytes pushed (sym (append-nil put)) refl refl refl

  pub sync_told : (calls' : List DiskCall) → calls' ≡ calls ++ Sync ∷ [] → (now : Trace) → old ≡ now → told_by (Opened first) calls' put ≡ After disk.Sync (content now) now
  sync_told calls' pushed now same =
      told_more Sync [] calls' put bytes pushed (sym (append-nil put)) refl refl ∙ ap (λ (l : List ℕ). After disk.Sync l old) (sym is.reads) ∙ (λ i. After disk.Sync (content (same i)) (same i))
