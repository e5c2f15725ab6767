-- A course that nothing refuses is followed to its answer, whole, unless memory ran out, if no fault came.
use Rattle.std.proofs.Common.{◌≡◌, ◌≢◌, ◌⊎◌, inl, inr, ℕ, zero, suc, Bool, false, List, [], ◌∷◌, ◌++◌, Option, Some, None, Result, Ok, Err, refl, sym, subst, ap, ◌∙◌, append-nil}
use Rattle.std.specs.Prelude.{if◌then◌else◌}
use Rattle.std.proofs.lemmas.Bool.{false≢true}
use Rattle.std.proofs.lemmas.Option.{none-some}
use Rattle.http_wire.specs.Answer.{continue_bytes, shown}
use Rattle.http_wire.specs.Front.{Front, Clean, Cut, Bad, Whole, front}
use Rattle.http_wire.specs.Head.{Head}
use Rattle.std.specs.List.{AllByRecursion}
use Rattle.repo_model.specs.Command.{Command, unlist, collect}
use Rattle.repo_model.specs.declared.print.Print.{Print}
use Rattle.repo_model.specs.Data.{Blob}
use Rattle.repo_model.specs.History.{Entry}
use Rattle.repo_model.specs.Settings.{Settings}
use Rattle.repo_routes.specs.Framing.{is_head}
use Rattle.repo_model.specs.Reply.{Reply, no_memory, store_fault}
use Rattle.repo_routes.specs.Intent.{Intent, Judged, cleans as cleans_all}
use Rattle.repo_routes.specs.Judge.{judge}
use Rattle.repo_routes.specs.declared.judging.Refused.{Refused}
use Rattle.repo_course.specs.Answers.{answer_of, file_answer, full_answer, memory_answer}
use Rattle.repo_course.specs.Course.{Close, Course, IoAction, Outcome, Pass, asks, does, says, stops, speaks, rests, invite, send_file, clean_all, closes, course_for, course_of, end_of, mode_for, of_pass}
use Rattle.repo_course.specs.Cleaning.{Passes, Store}
use Rattle.repo_course.specs.declared.mode.ResponseMode.{ResponseMode}
use Rattle.repo_course.specs.declared.outcomes.CleanFault.TheVariants as clean_fault
use Rattle.repo_course.specs.declared.outcomes.Continued.{Continued}
use Rattle.repo_course.specs.declared.outcomes.Continued.TheVariants as continued
use Rattle.repo_course.specs.declared.outcomes.End.{End}
use Rattle.repo_course.specs.declared.outcomes.End.TheVariants as stream
use Rattle.repo_course.specs.declared.outcomes.Sent.{Sent}
use Rattle.repo_course.specs.declared.outcomes.Sent.TheVariants as sent
use Rattle.repo_course.specs.declared.response.Response.{Response}
use Rattle.repo_course.specs.declared.response.Response.TheVariants as response
use Rattle.repo_course.specs.Serving.{Begins, Continues, Follows, IsOtherContent, IsWhole, Opens, clean, torn, failed, refused, unread_head, starved as head_starved, served, Outside, Says, SendsAnswer, RequestTurn, store_of, with_store, writes}
use Rattle.course_laws.specs.AsPlayed.{NoFaults}
use Rattle.course_laws.specs.Faultless.{done_by}
use Rattle.course_laws.specs.Duties.{IsReady, Keeps, Stand, at_first, body_length, due_after, duty_of, for_text, lent_after, most_for, rounds_after, stand_after, stand_done, left_by}
use Rattle.course_laws.specs.Granted.{AllGranted, BodyIsTaken, ComesWhole, Grants, IsAnsweredFor, IsServed, IsSuccess, answered, sent as file_sent, differs, file_cut, starved, Succeeds, answer_by, behind_body, due_by, file_by, invitation, Goes, GoesBy, cut_by}
use Rattle.course_laws.proofs.Counts.{follows-grew, opens-grew}
use Rattle.course_laws.proofs.Early.{EndsAs, ends-due}
use Rattle.course_laws.proofs.HeadOnly.{judged-head}
use Rattle.course_laws.proofs.Kept.{judged-keeps}
use Rattle.course_laws.proofs.Passes.{ArePass, IsPassCommand, passes-ask}
use Rattle.course_laws.proofs.PassesPlayed.{as_pass, pass-was, passes-hold, passes-rose}
use Rattle.course_laws.proofs.Succeeding.{request-succeeds}
use Rattle.course_laws.proofs.Sendings.{cut-by-fault, cut-by-other, not-sent, other-found, sent-in-part, sent-nothing, sent-whole}
use Rattle.course_laws.proofs.ServedActs.{IsPlain, action-quiet, granted-goes, granted-or-starved, plain-success, read-served, reply-plain, starved-so, whole-said, wrote-served}
use Rattle.course_laws.specs.IoActions.{due_behind, due_done, to_clean_done}
use Rattle.repo_course.specs.IoActions.{Sequel, sequel}
use Rattle.course_laws.proofs.IoActions.{GoesOver, IsSilent, action-over, goes_over, lacks_room, silent-asks, undue-goes}
use Rattle.course_laws.proofs.Rising.{Quiet, no-blob-fault, no-read-fault, no-write-fault, quiet-first, quiet-then, calm-of}

-- an I/O action that asks nothing leaves the entries to what follows it
unasked : (tells : Type 0) (c : Course) (entries mine later : List Entry) (old new : Outside) (end : Option End) → entries ≡ mine ++ later → mine ≡ []
    → Follows tells c later old new end → Follows tells c entries old new end
unasked tells c entries mine later old new end parts none f =
    subst (λ (es : List Entry). Follows tells c es old new end) (sym (parts ∙ ap (λ (es : List Entry). es ++ later) none)) f

-- nothing but an answer is due, and no pass is to be made
abbrev IsOpen : Stand → Type 0
IsOpen s = IsPlain s.due × (s.to_clean ≡ None)

module _ (tells : Type 0) (mode : ResponseMode) (by_text : List ℕ → Option Close) where
  abbrev Served : Stand → List ℕ → List Entry → Outside → Outside → Option End → Type 0
  Served s input entries old new end =
      IsServed mode (invitation s.waits) (behind_body s.unread input) (answer_by s.rounds entries s.due) (file_by entries s.lent) old new end

  -- a course that is followed so is served
  abbrev Serves-so : Course → Type 0
  Serves-so c = (n : ℕ) (s : Stand) (is_cut : Bool) → Keeps by_text mode c n s → Succeeds by_text mode is_cut c s → IsOpen s → (entries : List Entry) → AllGranted entries
      → (old new : Outside) (end : Option End) (input : List ℕ) → old.input ≡ Some input → BodyIsTaken by_text s.unread input → Quiet old new
      → Follows tells c entries old new end → Served s input entries old new end

  -- where nothing is owed but the answer
  ready-served : (s : Stand) (input : List ℕ) (answer : Option Close) (lent : Option Blob) (old new : Outside) (end : Option End) → IsReady s
      → IsServed mode [] input answer lent old new end
      → IsServed mode (invitation s.waits) (behind_body s.unread input) answer lent old new end
  ready-served s input answer lent old new end ready so =
      subst (λ (b : Bool). IsServed mode (invitation b) (behind_body s.unread input) answer lent old new end) (sym ready.2)
      (subst (λ (u : Option ℕ). IsServed mode [] (behind_body u input) answer lent old new end) (sym ready.0) so)

  says-so : (what : Response) (answer : Option Close) (lent : Option Blob) → answer ≡ Some (speaks what) → IsSuccess (full_answer what).status → (old new : Outside) (end : Option End)
      (input : List ℕ) → old.input ≡ Some input → Quiet old new
      → Says (answer_of what mode) (memory_answer mode.head_only) (end_of mode) old new end → IsServed mode [] input answer lent old new end
  says-so what answer lent due success old new end input input-is q said-it =
      elim (whole-said (answer_of what mode) (memory_answer mode.head_only) (end_of mode) old new end q said-it) [
        | inl w ↦ answered what old.shelf old.remote due success (w.0 ∙ ap (λ (i : Option (List ℕ)). writes (shown (answer_of what mode)) (record old { input = i })) input-is) w.1
        | inr w ↦ starved [] mode.head_only (λ alone. alone) (inl refl) (ap (λ o. o.output) w.0) w.1
      ]

  -- the content of a lent blob is another one, and that is answered
  differs-so : (blob : Blob) (recorded found : Print) (answer : Option Close) (lent : Option Blob) → lent ≡ Some blob → mode.head_only ≡ false
      → IsOtherContent blob recorded found → (old new : Outside) (end : Option End) (input : List ℕ) → old.input ≡ Some input → Quiet old new
      → Says (answer_of (response.BlobDiffers recorded found) mode) (memory_answer mode.head_only) (end_of mode) old new end
      → IsServed mode [] input answer lent old new end
  differs-so blob recorded found result lent is bodied other old new end input input-is q said-it =
      let answer = answer_of (response.BlobDiffers recorded found) mode in
      elim (whole-said answer (memory_answer mode.head_only) (end_of mode) old new end q said-it) [
        | inl w ↦ differs blob recorded found old.shelf old.remote is bodied other
            (w.0 ∙ ap (λ (i : Option (List ℕ)). writes (shown answer) (record old { input = i })) input-is) w.1
        | inr w ↦ starved [] mode.head_only (λ alone. alone) (inl refl) (ap (λ o. o.output) w.0) w.1
      ]

  -- memory ran out for what the course is at
  memory-so : (next : Course) (n : ℕ) (s behind : Stand) → Keeps by_text mode next n behind → behind.due ≡ Some (speaks response.NoMemory) → (entries : List Entry)
      (old mid new : Outside) (end : Option End) (input : List ℕ) → mid.output ≡ old.output → Quiet mid new → Follows tells next entries mid new end
      → (answer : Option Close) (lent : Option Blob) → IsServed mode (invitation s.waits) (behind_body s.unread input) answer lent old new end
  memory-so next n s behind k is entries old mid new end input kept q f answer lent =
      starved-so mode mode.head_only (λ alone. alone) (invitation s.waits) (behind_body s.unread input) answer lent old mid new end kept q
      (ends-due tells by_text mode next n behind (speaks response.NoMemory) k is entries mid new end f).0

  continues-so : (next : Continued → Course) → Serves-so (next continued.Written) → (result : Continued) (n : ℕ) (s : Stand) (is_cut : Bool) → Keeps by_text mode (does invite next) n s
      → Succeeds by_text mode is_cut (does invite next) s → IsOpen s → (entries : List Entry) → AllGranted entries → (old mid new : Outside) (end : Option End) (input : List ℕ)
      → old.input ≡ Some input → BodyIsTaken by_text s.unread input → Quiet old mid → Quiet mid new → Continues result old mid
      → Follows tells (next result) entries mid new end → Served s input entries old new end
  continues-so next ih continued.Written n s is_cut k su stands entries all old mid new end input input-is taken q more cause f =
      let later = ih n (stand_done by_text invite continued.Written s) is_cut (k.2 continued.Written) (su.1 continued.Written tt) stands entries all mid new end input
      (ap (λ o. o.input) cause ∙ input-is) taken more f in
      subst (λ (b : Bool). IsServed mode (invitation b) (behind_body s.unread input) (answer_by s.rounds entries s.due) (file_by entries s.lent) old new end) (sym su.0.1)
      (wrote-served mode continue_bytes (behind_body s.unread input) (answer_by s.rounds entries s.due) (file_by entries s.lent) old mid new end cause later)
  continues-so next ih continued.SinkFault n s is_cut k su stands entries all old mid new end input input-is taken q more cause f =
      no-write-fault old mid cause.0 cause.2 (ap (λ o. o.write_faults) cause.4) q

  -- the file in this mode
  sends-so : (blob : Blob) (next : Sent → Course) (result : Sent) (n : ℕ) (s : Stand) → s.lent ≡ Some blob → IsReady s
      → ((result : Sent) → Keeps by_text mode (next result) n (stand_done by_text (send_file blob mode) result s))
      → (entries : List Entry) (old mid new : Outside) (end : Option End) (input : List ℕ) → old.input ≡ Some input
      → Quiet old mid → Quiet mid new → SendsAnswer mode.head_only blob (shown (file_answer blob mode)) result old mid
      → Follows tells (next result) entries mid new end → Served s input entries old new end
  sends-so blob next sent.Whole n s lent ready k entries old mid new end input input-is q more t f =
      let wrote = sent-whole mode.head_only blob (shown (file_answer blob mode)) old mid t in
      let behind = stand_done by_text (send_file blob mode) sent.Whole s in
      let ends = ends-due tells by_text mode (next sent.Whole) n behind (rests (end_of mode)) (k sent.Whole) refl entries mid new end f in
      ready-served s input (answer_by s.rounds entries s.due) (file_by entries s.lent) old new end ready
      (file_sent blob wrote.0 old.shelf old.remote (ends.1 s.lent ∙ lent) wrote.1
      (ends.0.0 ∙ wrote.2 ∙ ap (λ (i : Option (List ℕ)). writes (shown (file_answer blob mode) ++ (if mode.head_only then [] else wrote.0)) (record old { input = i })) input-is) ends.0.1)
  sends-so blob next sent.BlobFault n s lent ready k entries old mid new end input input-is q more t f =
      let w = not-sent mode.head_only blob (shown (file_answer blob mode)) old mid t in no-blob-fault old mid w.0 w.2 (ap (λ o. o.blob_faults) w.3) q
  sends-so blob next (sent.BlobDiffers recorded found) n s lent ready k entries old mid new end input input-is q more t f =
      let seen = other-found mode.head_only blob (shown (file_answer blob mode)) recorded found old mid t in
      let behind = stand_done by_text (send_file blob mode) (sent.BlobDiffers recorded found) s in
      let due : Close = speaks (response.BlobDiffers recorded found) in
      let ends = ends-due tells by_text mode (next (sent.BlobDiffers recorded found)) n behind due (k (sent.BlobDiffers recorded found)) refl entries mid new end f in
      let said-it : Says (answer_of (response.BlobDiffers recorded found) mode) (memory_answer mode.head_only) (end_of mode) mid new end =
      subst (λ (u : Option ℕ). EndsAs mode u due mid new end) ready.0 ends.0 in
      ready-served s input (answer_by s.rounds entries s.due) (file_by entries s.lent) old new end ready
      (differs-so blob recorded found (answer_by s.rounds entries s.due) (file_by entries s.lent) (ends.1 s.lent ∙ lent) seen.0 seen.1 old new end input input-is
      (subst (λ (m : Outside). Quiet m new) seen.2 more)
      (subst (λ (m : Outside). Says (answer_of (response.BlobDiffers recorded found) mode) (memory_answer mode.head_only) (end_of mode) m new end) seen.2 said-it))
  sends-so blob next sent.CutFault n s lent ready k entries old mid new end input input-is q more t f =
      let w = cut-by-fault mode.head_only blob (shown (file_answer blob mode)) old mid t in no-blob-fault old mid w.0 w.4 (ap (λ o. o.blob_faults) w.7) q
  sends-so blob next (sent.CutDiffers recorded found) n s lent ready k entries old mid new end input input-is q more t f =
      let w = cut-by-other mode.head_only blob (shown (file_answer blob mode)) recorded found old mid t in
      let behind = stand_done by_text (send_file blob mode) (sent.CutDiffers recorded found) s in
      let ends = ends-due tells by_text mode (next (sent.CutDiffers recorded found)) n behind (rests (Some stream.Closed)) (k (sent.CutDiffers recorded found)) refl entries mid new end f in
      ready-served s input (answer_by s.rounds entries s.due) (file_by entries s.lent) old new end ready
      (file_cut blob recorded found w.0 w.1 old.shelf old.remote (ends.1 s.lent ∙ lent) w.2 w.3 w.4 w.5
      (ends.0.0 ∙ w.6 ∙ ap (λ (i : Option (List ℕ)). writes (shown (file_answer blob mode) ++ w.1) (record old { input = i })) input-is) ends.0.1)
  sends-so blob next sent.SinkFault n s lent ready k entries old mid new end input input-is q more t f =
      let w = sent-in-part mode.head_only blob (shown (file_answer blob mode)) old mid t in no-write-fault old mid w.0 w.3 (ap (λ o. o.write_faults) w.6) q
  sends-so blob next sent.NoMemory n s lent ready k entries old mid new end input input-is q more t f =
      memory-so (next sent.NoMemory) n s (stand_done by_text (send_file blob mode) sent.NoMemory s) (k sent.NoMemory) refl entries old mid new end input
      (ap (λ o. o.output) (sent-nothing mode.head_only blob (shown (file_answer blob mode)) old mid t)) more f _ _

  -- after an I/O action that wrote nothing
  over-so : (io_action : IoAction) (next : Outcome io_action → Course) (outcome : Outcome io_action) → Serves-so (next outcome) → ((outcome : Outcome io_action) → GoesBy by_text (sequel io_action outcome) → Goes by_text io_action outcome)
      → ((asked : Option (List (List ℕ))) → asked ≡ None → to_clean_done io_action asked ≡ None) → (n : ℕ) (s : Stand) (is_cut : Bool)
      → Keeps by_text mode (does io_action next) n s → Succeeds by_text mode is_cut (does io_action next) s → IsOpen s → (entries : List Entry) → AllGranted entries
      → (old mid new : Outside) (end : Option End) (input : List ℕ) → Quiet mid new → Follows tells (next outcome) entries mid new end
      → GoesOver by_text io_action outcome s input old mid → Served s input entries old new end
  over-so io_action next outcome ih grant cleans n s is_cut k su stands entries all old mid new end input q f (lacks_room is output) =
      memory-so (next outcome) (left_by io_action n) s (stand_done by_text io_action outcome s) (k.2 outcome) (ap (λ (x : Sequel). due_behind by_text x s.due) is) entries old mid new end input output q f _ _
  over-so io_action next outcome ih grant cleans n s is_cut k su stands entries all old mid new end input q f (goes_over left shelf remote is behind taken due waits) =
      let s1 = stand_done by_text io_action outcome s in
      let undue : s1.due ≡ None = ap (due_done by_text io_action outcome) k.0.0 ∙ due in
      let later : Served s1 left entries mid new end =
      ih (left_by io_action n) s1 (cut_by io_action outcome is_cut) (k.2 outcome) (su.1 outcome (grant outcome (undue-goes by_text (sequel io_action outcome) due)))
      (subst IsPlain (sym undue) tt, cleans s.to_clean stands.1) entries all mid new end left (ap (λ (o : Outside). o.input) is) taken q f in
      let there : IsServed mode (invitation s.waits) (behind_body s.unread input) (answer_by s.rounds entries s.due) (file_by entries s.lent) mid new end =
      subst (λ (w : Bool). IsServed mode (invitation w) (behind_body s.unread input) (answer_by s.rounds entries s.due) (file_by entries s.lent) mid new end) waits
      (subst (λ (l : List ℕ). IsServed mode (invitation s1.waits) l (answer_by s.rounds entries s.due) (file_by entries s.lent) mid new end) (sym behind)
      (subst (λ (d : Option Close). IsServed mode (invitation s1.waits) (behind_body s1.unread left) (answer_by s.rounds entries d) (file_by entries s.lent) mid new end) (undue ∙ sym k.0.0) later)) in
      read-served mode (invitation s.waits) (behind_body s.unread input) (answer_by s.rounds entries s.due) (file_by entries s.lent) old mid new (Some left) end shelf remote is there

  silent-so : (io_action : IoAction) → IsSilent io_action → ((outcome : Outcome io_action) → GoesBy by_text (sequel io_action outcome) → Goes by_text io_action outcome)
      → ((asked : Option (List (List ℕ))) → asked ≡ None → to_clean_done io_action asked ≡ None) → (next : Outcome io_action → Course) → ((outcome : Outcome io_action) → Serves-so (next outcome))
      → Serves-so (does io_action next)
  silent-so io_action silent grant cleans next ih n s is_cut k su stands entries all old new end input input-is taken q f =
      let quiet = action-quiet tells io_action next entries old new end q f in
      over-so io_action next f.0 (ih f.0) grant cleans n s is_cut k su stands entries all old f.3 new end input quiet.1
      (unasked tells (next f.0) entries f.1 f.2 f.3 new end f.4 (silent-asks tells io_action f.0 f.1 old f.3 silent f.5) f.6)
      (action-over by_text mode s input old f.3 input-is taken quiet.0 tells io_action f.0 f.1 silent k.0 f.5)

  action-so : (io_action : IoAction) (next : Outcome io_action → Course) → ((outcome : Outcome io_action) → Serves-so (next outcome)) → Serves-so (does io_action next)
  action-so invite next ih n s is_cut k su stands entries all old new end input input-is taken q f =
      let quiet = action-quiet tells invite next entries old new end q f in
      continues-so next (ih continued.Written) f.0 n s is_cut k su stands entries all old f.3 new end input input-is taken quiet.0 quiet.1 f.5.1
      (unasked tells (next f.0) entries f.1 f.2 f.3 new end f.4 f.5.0 f.6)
  action-so (send_file blob own) next ih n s is_cut k su stands entries all old new end input input-is taken q f =
      let quiet = action-quiet tells (send_file blob own) next entries old new end q f in
      sends-so blob next f.0 n s su.0.1.1 su.0.1.0
      (subst (λ (m : ResponseMode). (result : Sent) → Keeps by_text mode (next result) n (stand_done by_text (send_file blob m) result s)) su.0.1.3 k.2)
      entries old f.3 new end input input-is quiet.0 quiet.1
      (subst (λ (m : ResponseMode). SendsAnswer m.head_only blob (shown (file_answer blob m)) f.0 old f.3) su.0.1.3 f.5.1)
      (unasked tells (next f.0) entries f.1 f.2 f.3 new end f.4 f.5.0 f.6)
  action-so (clean_all repos) next ih n s is_cut k su stands entries all old new end input input-is taken q f =
      absurd (none-some repos (sym stands.1 ∙ su.0.1.1))
  action-so io_action next ih n s is_cut k su stands entries all old new end input input-is taken q f =
      silent-so io_action tt (λ outcome goes. goes) (λ asked none. none) next ih n s is_cut k su stands entries all old new end input input-is taken q f

  follows-so : (c : Course) → Serves-so c
  follows-so (asks command next) zero s is_cut k su stands [] all old new end input input-is taken q f = absurd f
  follows-so (asks command next) zero s is_cut k su stands (e ∷ entries) all old new end input input-is taken q f = absurd k
  follows-so (asks command next) (suc n) s is_cut k su stands [] all old new end input input-is taken q f = absurd f
  follows-so (asks command next) (suc n) s is_cut k su stands (e ∷ entries) all old new end input input-is taken q f =
      elim (granted-or-starved command e s f.0 k.0 all.0) [
        | inl granted ↦ subst (λ (c : Command). IsServed mode (invitation s.waits) (behind_body s.unread input) (answer_by (rounds_after c s.rounds) entries (due_after s.rounds c e.reply s.due)) (file_by entries (lent_after c e.reply s.lent)) old new end)
            (sym f.0)
            (elim (granted-goes command e.reply s k.0 granted) [
              | inl more ↦ follows-so (next e.reply) n (stand_after command e.reply s) is_cut (k.1 e.reply) (su.1 e.reply granted more) (reply-plain s.rounds command e.reply s.due stands.0, stands.1) entries all.1 old new end
                  input input-is taken q f.1
              | inr due ↦ memory-so (next e.reply) n s (stand_after command e.reply s) (k.1 e.reply) due entries old old new end input refl q f.1 _ _
            ])
        | inr due ↦ memory-so (next e.reply) n s (stand_after command e.reply s) (k.1 e.reply) due entries old old new end input refl q f.1 _ _
      ]
  follows-so (does io_action next) n s is_cut k su stands entries all old new end input input-is taken q f =
      action-so io_action next (λ o. follows-so (next o)) n s is_cut k su stands entries all old new end input input-is taken q f
  follows-so (says what own) n s is_cut k su stands entries all old new end input input-is taken q f =
      subst (λ (es : List Entry). Served s input es old new end) (sym f.0)
      (ready-served s input s.due s.lent old new end su.0
      (says-so what s.due s.lent su.1 (plain-success mode is_cut what su.2 (subst IsPlain su.1 stands.0)) old new end input input-is q
      (subst (λ (m : ResponseMode). Says (answer_of what m) (memory_answer m.head_only) (end_of m) old new end) su.3 f.1)))
  follows-so (stops next) n s is_cut k su stands entries all old new end input input-is taken q f = absurd (subst IsPlain su.1 stands.0)

-- no reply to a command of a pass that was granted is that the records failed
granted-holds : (command : Command) (reply : Reply) → IsPassCommand command → Grants command reply ⊎ (reply ≡ no_memory) → reply ≢ store_fault
granted-holds (unlist repo) reply asked (inl granted) is = false≢true (subst (λ r. Grants (unlist repo) r) is granted)
granted-holds collect reply asked (inl granted) is = false≢true (subst (λ r. Grants collect r) is granted)
granted-holds command reply asked (inr none) is = absurd (cc)
granted-holds _ reply asked (inl granted) is = absurd asked

all-hold : (mine later : List Entry) → ArePass mine → AllGranted (mine ++ later) → AllByRecursion (λ (e : Entry). e.reply ≢ store_fault) mine
all-hold [] later asked all = tt
all-hold (e ∷ mine) later asked all = (granted-holds e.command e.reply asked.0 all.0, all-hold mine later asked.1 all.1)

module _ (settings : Settings) (tells : Type 0) (mode : ResponseMode) where
  -- a pass that is followed so is answered
  pass-so : (repos : List (List ℕ)) (pass : Pass) (mine later : List Entry) (kept : Store) → AllGranted (mine ++ later)
      → (old new : Outside) (end : Option End) (input : List ℕ) → old.input ≡ Some input → Quiet old (with_store kept old)
      → Quiet (with_store kept old) new → Passes repos mine (store_of old) kept pass → Follows tells (closes mode (of_pass pass)) later (with_store kept old) new end
      → IsServed mode [] input (Some (of_pass (Ok (done_by (mine ++ later))))) (file_by (mine ++ later) None) old new end
  pass-so repos (Ok did) mine later kept all old new end input input-is q more t f =
      let mid = with_store kept old in
      let what : Response = response.Cleaned did.unlisted did.removed in
      let mine-are : mine ++ later ≡ mine = ap (λ (es : List Entry). mine ++ es) f.0 ∙ append-nil mine in
      let due : Some (of_pass (Ok (done_by (mine ++ later)))) ≡ Some (speaks what) =
      ap (λ (es : List Entry). Some (of_pass (as_pass (done_by es)))) mine-are
      ∙ ap (λ (p : Pass). Some (of_pass p)) (sym ((pass-was settings repos mine (store_of old) kept did t).0)) in
      let still = (pass-was settings repos mine (store_of old) kept did t).1 in
      elim (whole-said (answer_of what mode) (memory_answer mode.head_only) (end_of mode) mid new end more f.1) [
        | inl w ↦ answered what kept.shelf old.remote due tt
            (w.0 ∙ (λ i. writes (shown (answer_of what mode)) (record old { input = input-is i; shelf = kept.shelf; blob_faults = still i }))) w.1
        | inr w ↦ starved [] mode.head_only (λ alone. alone) (inl refl) (ap (λ o. o.output) w.0) w.1
      ]
  pass-so repos (Err clean_fault.NoMemory) mine later kept all old new end input input-is q more t f =
      starved-so mode mode.head_only (λ alone. alone) [] input _ (file_by (mine ++ later) None) old (with_store kept old) new end refl more f.1
  pass-so repos (Err clean_fault.BlobFault) mine later kept all old new end input input-is q more t f =
      no-blob-fault old (with_store kept old) kept.faults (passes-rose repos mine (store_of old) kept t) refl q
  pass-so repos (Err clean_fault.StoreFault) mine later kept all old new end input input-is q more t f =
      absurd (passes-hold repos mine (store_of old) kept _ t (all-hold mine later (passes-ask repos mine (store_of old) kept _ t) all) refl)

  pass-served : (repos : List (List ℕ)) (entries : List Entry) → AllGranted entries → (old new : Outside) (end : Option End) (input : List ℕ) → old.input ≡ Some input
      → Quiet old new → Follows tells (does (clean_all repos) (λ pass. closes mode (of_pass pass))) entries old new end
      → IsServed mode [] input (Some (of_pass (Ok (done_by entries)))) (file_by entries None) old new end
  pass-served repos entries all old new end input input-is q f =
      let quiet = action-quiet tells (clean_all repos) (λ pass. closes mode (of_pass pass)) entries old new end q f in
      let mid = with_store f.5.0 old in
      subst (λ (es : List Entry). IsServed mode [] input (Some (of_pass (Ok (done_by es)))) (file_by es None) old new end) (sym f.4)
      (pass-so repos f.0 f.1 f.2 f.5.0 (subst AllGranted f.4 all) old new end input input-is
      (subst (λ (m : Outside). Quiet old m) f.5.2 quiet.0) (subst (λ (m : Outside). Quiet m new) f.5.2 quiet.1) f.5.1
      (subst (λ (m : Outside). Follows tells (closes mode (of_pass f.0)) f.2 m new end) f.5.2 f.6))

  -- by what is asked for
  intent-served : (expects : Bool) (intent : Intent) → let s = at_first expects intent in let c = course_for mode expects intent in
      Keeps (for_text intent) mode c (most_for intent) s → Succeeds (for_text intent) mode false c s → (entries : List Entry) → AllGranted entries
      → (old new : Outside) (end : Option End) (input : List ℕ) → old.input ≡ Some input → BodyIsTaken (for_text intent) (body_length intent) input → Quiet old new
      → Follows tells c entries old new end
      → IsServed mode (invitation s.waits) (behind_body s.unread input) (due_by intent entries) (file_by entries None) old new end
  intent-served expects (cleans_all repos) k su entries all old new end input input-is taken q f = pass-served repos entries all old new end input input-is q f
  intent-served expects intent k su entries all old new end input input-is taken q f =
      follows-so tells mode (for_text intent) (course_for mode expects intent) (most_for intent) (at_first expects intent) false k su
      (tt, refl) entries all old new end input input-is taken q f

abbrev at_start : Judged → Stand
at_start request = at_first request.expects request.intent

module _ (settings : Settings) (tells : Type 0) (last : Bool) where
  pub turn-served : (entries : List Entry) (old new : Outside) (end : Option End) (input rest : List ℕ) (head : Head) (request : Judged)
      → RequestTurn settings tells last entries old new end → old.input ≡ Some input → front input ≡ Whole head rest → judge settings head ≡ Ok request
      → ComesWhole request rest → AllGranted entries → NoFaults old new → IsAnsweredFor request last rest entries old new end
  turn-served entries old new end input rest head request (c, mid, o, f) input-is front-is judged comes all calm = opened o
    where
      quiet : Quiet old new
      quiet = record {
        reads = calm-of old.read_faults new.read_faults calm.reads;
        writes = calm-of old.write_faults new.write_faults calm.writes;
        blobs = calm-of old.blob_faults new.blob_faults calm.blobs;
      }

      begins : (P : Front → Type 0) → Begins old.input P → P (Whole head rest)
      begins P it = subst P front-is (subst (λ (i : Option (List ℕ)). Begins i P) input-is it)

      follows : (d : Course) → c ≡ d → Follows tells d entries mid new end
      follows d is = subst (λ (e : Course). Follows tells e entries mid new end) is f

      more : Opens settings last old mid c → Quiet mid new
      more o = quiet-then old mid new (opens-grew settings last old mid c o) (follows-grew tells c entries mid new end f) quiet

      opened : Opens settings last old mid c → IsAnsweredFor request last rest entries old new end
      opened (clean it still is) = let what : Whole head rest ≡ Clean = begins (λ w. w ≡ Clean) it in absurd (cc)
      opened (torn it still is) = let what : Whole head rest ≡ Cut = begins (λ w. w ≡ Cut) it in absurd (cc)
      opened (failed faults rose still is) =
          no-read-fault old mid faults rose (ap (λ o. o.read_faults) still)
          (quiet-first old mid new (follows-grew tells c entries mid new end f) quiet)
      opened (refused fault it still is) = let what : Whole head rest ≡ Bad fault = begins (λ w. w ≡ Bad fault) it in absurd (cc)
      opened (unread_head it still is) =
          starved-so (mode_for request last) false (λ alone. absurd (false≢true alone)) (invitation (at_start request).waits) (behind_body (at_start request).unread rest) (due_by request.intent entries) (file_by entries None) old mid new end
          (ap (λ o. o.output) still) (more (unread_head it still is)) (follows _ is).1
      opened (head_starved other left it uses is) =
          let same : head ≡ other = (begins (IsWhole other left) it).0 in
          let head-is : request.head_only ≡ is_head other =
          ap (λ (r : Result Judged Refused). (duty_of r last).mode.head_only) (sym judged) ∙ judged-head settings head last ∙ ap is_head same in
          starved-so (mode_for request last) (is_head other) (λ alone. head-is ∙ alone) (invitation (at_start request).waits) (behind_body (at_start request).unread rest) (due_by request.intent entries) (file_by entries None) old mid new end
          (ap (λ o. o.output) uses) (more (head_starved other left it uses is)) (follows _ is).1
      opened (served other left it uses is) =
          let whole-is = begins (IsWhole other left) it in
          let same : head ≡ other = whole-is.0 in
          let course-is : c ≡ course_of (Ok request) last = is ∙ ap (λ (r : Result Judged Refused). course_of r last) (ap (judge settings) (sym same) ∙ judged) in
          read-served (mode_for request last) (invitation (at_start request).waits) (behind_body (at_start request).unread rest) (due_by request.intent entries) (file_by entries None) old mid new left end old.shelf old.remote uses
          (intent-served settings tells (mode_for request last) request.expects request.intent (judged-keeps (Ok request) last) (request-succeeds request last)
          entries all mid new end rest (ap (λ o. o.input) uses ∙ whole-is.1) comes (more (served other left it uses is)) (follows (course_of (Ok request) last) course-is))
