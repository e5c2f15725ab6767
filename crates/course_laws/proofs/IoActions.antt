-- What each I/O action of a course changes outside, by what follows its outcome; what it comes to beside what is played; and what is after it
-- where no count rose. The walks over courses take what they need of an I/O action from here.
use Rattle.std.proofs.Common.{◌≡◌, ◌⊎◌, inl, inr, ℕ, ◌≤◌, ◌<◌, Bool, true, false, List, [], ◌∷◌, ◌++◌, length, take, drop, Option, Some, None, Result, Ok, Err, arith, refl, sym, subst, ap, ◌∙◌, append-nil}
use Rattle.std.specs.Prelude.{IfSome, IsSome, if◌then◌else◌}
use Rattle.std.proofs.Math.Seq.{drop-append_seam, take-append_seam}
use Rattle.fetch_plan.specs.declared.Outcome.TheVariants as came
use Rattle.fetch_plan.specs.declared.Plan.{Plan}
use Rattle.http_wire.specs.Answer.{continue_bytes, shown}
use Rattle.outside.specs.Blobs.{Shelf}
use Rattle.outside.specs.Faults.{Rose}
use Rattle.outside.specs.Told.{behind}
use Rattle.outside.specs.declared.faults.BlobFault.TheVariants as unstored
use Rattle.outside_remote.specs.Exchanges.{Sees}
use Rattle.remote_fetch.specs.declared.contents.Content.TheVariants as content
use Rattle.remote_fetch.specs.declared.fetching.Checked.{Checked}
use Rattle.repo_model.specs.Data.{Blob}
use Rattle.repo_model.specs.History.{Entry, Legal, end as state_after}
use Rattle.repo_model.specs.Settings.{Settings}
use Rattle.repo_model.specs.State.{State}
use Rattle.repo_course.specs.Answers.{file_answer}
use Rattle.repo_course.specs.Cleaning.{Passes, not_unlisted, not_collected, removing, Removes, Store}
use Rattle.repo_course.specs.IoActions.{Body, Close, IoAction, Does, Fetch, Fetches, Kept, Outcome, Continues, Pass, Reads, ReadsBody, SendsAnswer, Sequel, Stored, Stores, Takes, draft_after_fetch, by_its_text, clean_all, end_of, ends_by, fetch, goes_on, invite, of_pass, read_body, rests, send_file, sequel, speaks, store_fetched, take_body, with_body, of_store, of_fault}
use Rattle.repo_course.specs.declared.mode.ResponseMode.{ResponseMode}
use Rattle.repo_course.specs.declared.outcomes.CleanFault.{CleanFault}
use Rattle.repo_course.specs.declared.outcomes.CleanFault.TheVariants as clean_fault
use Rattle.repo_course.specs.declared.outcomes.Continued.{Continued}
use Rattle.repo_course.specs.declared.outcomes.Continued.TheVariants as continued
use Rattle.repo_course.specs.declared.outcomes.End.{End}
use Rattle.repo_course.specs.declared.outcomes.End.TheVariants as stream
use Rattle.repo_course.specs.declared.outcomes.Sent.{Sent}
use Rattle.repo_course.specs.declared.outcomes.Sent.TheVariants as sent
use Rattle.repo_course.specs.declared.outcomes.Took.TheVariants as took
use Rattle.repo_course.specs.declared.response.Response.TheVariants.{NoMemory}
use Rattle.course_laws.specs.IoActions.{MayDo, done_at, due_behind, kept_done, stored_done, unread_done, waits_done}
use Rattle.course_laws.specs.Endings.{EndsByCause, NoneRose}
use Rattle.course_laws.specs.Granted.{BodyIsTaken, behind_body, Goes, GoesBy}
use Rattle.course_laws.specs.Landed.{GoesOn}
use Rattle.course_laws.specs.Scenes.{Scene, body_of, file_bytes, taken_body}
use Rattle.course_laws.specs.Stands.{Stand}
use Rattle.course_laws.proofs.BodyBytes.{blob-is, body-torn, body-whole, bytes-are, front-of, taken-torn, taken-whole, told-is, untold, unwritten}
use Rattle.course_laws.proofs.Fetching.{Still, after-none, fetches-go, still-goes}
use Rattle.course_laws.proofs.PassesPlayed.{no-store-faults, passes-hold, passes-played, passes-rose}
use Rattle.course_laws.proofs.Passes.{passes-ask}
use Rattle.course_laws.proofs.Sendings.{cut-by-fault, cut-by-other, not-sent, other-found, rest_of, sent-in-part, sent-nothing, sent-whole}
use Rattle.course_laws.proofs.Takings.{fails-source, fails-torn}
use Rattle.repo_course.specs.Outside.{Outside, store_of, with_store}
use Rattle.outside.specs.declared.faults.BlobFault.{BlobFault}
use Rattle.std.proofs.lemmas.Option.{none-some}
use Rattle.repo_course.specs.declared.outcomes.Took.{Took}
use Rattle.course_laws.proofs.Rising.{Calm, Quiet, no-blob-fault, no-read-fault}

-- ---- what an I/O action changes outside

-- how a course ends shows in the counts of the two sides
abbrev pub Shows : Option End → Outside → Outside → Type 0
Shows None old new = NoneRose old new
Shows (Some end) old new = EndsByCause end old new

abbrev pub ShowsBy : Sequel → Outside → Outside → Type 0
ShowsBy (ends_by (rests end)) old new = Shows end old new
ShowsBy next old new = NoneRose old new

-- after an answer or a file the stream goes on, or is closed
pub calm_shows : (mode : ResponseMode) (old new : Outside) → NoneRose old new → Shows (end_of mode) old new
calm_shows mode old new n = elim mode.close as (λ b. Shows (if b then Some stream.Closed else None) old new) [ true ↦ n | false ↦ n ]

abbrev pub FetchesNone : IoAction → Type 0
FetchesNone (fetch plan) = ⊥
FetchesNone io_action = Unit {0}

-- Of the counts of the two sides just the one rises by which the stream then ends; the blobs' does not fall; and what is seen of the
-- remotes goes on, and is another only after a fetch.
pub record Changes (io_action : IoAction) (outcome : Outcome io_action) (old new : Outside) : Type 0 where
  pub sides : ShowsBy (sequel io_action outcome) old new
  pub blobs : old.blob_faults ≤ new.blob_faults
  pub remote : GoesOn old.remote new.remote
  pub still : FetchesNone io_action → Still old new

apart : (io_action : IoAction) (outcome : Outcome io_action) (old new o : Outside) → new ≡ o → ShowsBy (sequel io_action outcome) old o → old.blob_faults ≤ o.blob_faults
    → o.remote ≡ old.remote → Changes io_action outcome old new
apart io_action outcome old new o is sides blobs still =
    subst (λ (x : Outside). Changes io_action outcome old x) (sym is) (record { sides = sides; blobs = blobs; remote = still-goes old o still; still = λ none. still })

reads-change : (count : ℕ) (body : Body) (old new : Outside) → Reads count body old new → Changes (read_body count) body old new
reads-change count (Ok bytes) old new t = apart (read_body count) (Ok bytes) old new _ t.3 (refl, refl) (omega arith) refl
reads-change count (Err took.Torn) old new t = apart (read_body count) (Err took.Torn) old new _ t.1.1 (refl, refl) (omega arith) refl
reads-change count (Err took.SourceFault) old new t = apart (read_body count) (Err took.SourceFault) old new _ t.2.1 (t.1, refl) (omega arith) refl
reads-change count (Err (took.BlobFault unread)) old new t = absurd t
reads-change count (Err took.NoMemory) old new (inl t) = apart (read_body count) (Err took.NoMemory) old new _ t (refl, refl) (omega arith) refl
reads-change count (Err took.NoMemory) old new (inr t) = apart (read_body count) (Err took.NoMemory) old new _ t.1.3 (refl, refl) (omega arith) refl

takes-change : (tells : Type 0) (number count : ℕ) (stored : Stored) (old new : Outside) → Takes tells number count stored old new
    → Changes (take_body number count) stored old new
takes-change tells number count (Ok blob) old new t = apart (take_body number count) (Ok blob) old new _ t.1.3 (refl, refl) (omega arith) refl
takes-change tells number count (Err took.Torn) old new t = apart (take_body number count) (Err took.Torn) old new _ t.3.1.2 (refl, refl) (omega arith) refl
takes-change tells number count (Err took.SourceFault) old new t =
    apart (take_body number count) (Err took.SourceFault) old new _ t.3.3.2 (t.3.1, refl) (omega arith) refl
takes-change tells number count (Err (took.BlobFault unread)) old new t =
    apart (take_body number count) (Err (took.BlobFault unread)) old new _ t.3.4.2 (refl, refl) t.3.1.0 refl
takes-change tells number count (Err took.NoMemory) old new t = apart (take_body number count) (Err took.NoMemory) old new _ t.3.1.2 (refl, refl) (omega arith) refl

sends-change : (blob : Blob) (own : ResponseMode) (head : List ℕ) (result : Sent) (old new : Outside) → SendsAnswer own.head_only blob head result old new
    → Changes (send_file blob own) result old new
sends-change blob own head sent.Whole old new t =
    apart (send_file blob own) sent.Whole old new _ (sent-whole own.head_only blob head old new t).2 (calm_shows own old _ (refl, refl)) (omega arith) refl
sends-change blob own head sent.BlobFault old new t =
    let w = not-sent own.head_only blob head old new t in apart (send_file blob own) sent.BlobFault old new _ w.3 (refl, refl) w.2.0 refl
sends-change blob own head (sent.BlobDiffers recorded found) old new t =
    apart (send_file blob own) (sent.BlobDiffers recorded found) old new _ (other-found own.head_only blob head recorded found old new t).2 (refl, refl) (omega arith) refl
sends-change blob own head sent.CutFault old new t =
    let w = cut-by-fault own.head_only blob head old new t in apart (send_file blob own) sent.CutFault old new _ w.7 (refl, refl) w.4.0 refl
sends-change blob own head (sent.CutDiffers recorded found) old new t =
    apart (send_file blob own) (sent.CutDiffers recorded found) old new _ (cut-by-other own.head_only blob head recorded found old new t).6 (refl, refl) (omega arith) refl
sends-change blob own head sent.SinkFault old new t =
    let w = sent-in-part own.head_only blob head old new t in apart (send_file blob own) sent.SinkFault old new _ w.6 (refl, w.3) (omega arith) refl
sends-change blob own head sent.NoMemory old new t =
    apart (send_file blob own) sent.NoMemory old new _ (sent-nothing own.head_only blob head old new t) (refl, refl) (omega arith) refl

removes-grew : (blobs : List ℕ) (old new : Store) (result : Result ℕ CleanFault) → Removes blobs old new result → old.faults ≤ new.faults
removes-grew blobs old new (Ok count) t = let same = ap (λ (s : Store). s.faults) t.1 in omega (arith, same)
removes-grew blobs old new (Err clean_fault.StoreFault) t = absurd t.4
removes-grew blobs old new (Err clean_fault.BlobFault) t =
    let rose = t.4.1.0 in let same = ap (λ (s : Store). s.faults) t.4.2 in omega (arith, rose, same)
removes-grew blobs old new (Err clean_fault.NoMemory) t = let same = ap (λ (s : Store). s.faults) t.4 in omega (arith, same)

passes-grew : (repos : List (List ℕ)) (entries : List Entry) (old new : Store) (pass : Pass) → Passes repos entries old new pass → old.faults ≤ new.faults
passes-grew repos entries old new pass (not_unlisted fault u still is) = let same = ap (λ (s : Store). s.faults) still in omega (arith, same)
passes-grew repos entries old new pass (not_collected first last count fault parts u c still is) =
    let same = ap (λ (s : Store). s.faults) still in omega (arith, same)
passes-grew repos entries old new pass (removing first last count blobs removed parts u c r is) = removes-grew blobs old new removed r

pass-shows : (pass : Pass) (old new : Outside) → NoneRose old new → ShowsBy (ends_by (of_pass pass)) old new
pass-shows (Ok did) old new n = n
pass-shows (Err clean_fault.StoreFault) old new n = n
pass-shows (Err clean_fault.BlobFault) old new n = n
pass-shows (Err clean_fault.NoMemory) old new n = n

-- a fetch is followed by what came of it, or by running out of memory
pub fetch-follows : (outcome : Fetch) (under : Option ℕ) → (draft_after_fetch outcome under ≡ goes_on) ⊎ (draft_after_fetch outcome under ≡ ends_by (speaks NoMemory))
fetch-follows None under = inr refl
fetch-follows (Some (came.Got (content.File checked))) None = inr refl
fetch-follows (Some (came.Got (content.File checked))) (Some n) = inl refl
fetch-follows (Some outcome) under = inl refl

fetches-change : (plan : Plan) (outcome : Fetch) (old new : Outside) → Fetches plan outcome old new → Changes (fetch plan) outcome old new
fetches-change plan outcome old new t = record {
  sides = elim (fetch-follows outcome plan.draft) [
    | inl is ↦ subst (λ (next : Sequel). ShowsBy next old new) (sym is) (none outcome t)
    | inr is ↦ subst (λ (next : Sequel). ShowsBy next old new) (sym is) (none outcome t)
  ];
  blobs = blobs outcome t;
  remote = fetches-go plan outcome old new t;
  still = λ it. absurd it;
}
  where
    none : (outcome : Fetch) → Fetches plan outcome old new → NoneRose old new
    none None t = (ap (λ (o : Outside). o.read_faults) t.2, ap (λ (o : Outside). o.write_faults) t.2)
    none (Some outcome) t = (ap (λ (o : Outside). o.read_faults) t.2, ap (λ (o : Outside). o.write_faults) t.2)

    blobs : (outcome : Fetch) → Fetches plan outcome old new → old.blob_faults ≤ new.blob_faults
    blobs None t = let same = ap (λ (o : Outside). o.blob_faults) t.2 in omega (arith, same)
    blobs (Some outcome) t = let same = ap (λ (o : Outside). o.blob_faults) t.2 in omega (arith, same)

pub action-changes : (tells : Type 0) (io_action : IoAction) (outcome : Outcome io_action) (mine : List Entry) (old new : Outside) → Does tells io_action outcome mine old new
    → Changes io_action outcome old new
action-changes tells invite continued.Written mine old new t = apart invite continued.Written old new _ t.1 (refl, refl) (omega arith) refl
action-changes tells invite continued.SinkFault mine old new t = apart invite continued.SinkFault old new _ t.1.4 (refl, t.1.2) (omega arith) refl
action-changes tells (take_body number count) stored mine old new t = takes-change tells number count stored old new t.1
action-changes tells (read_body count) body mine old new t = reads-change count body old new t.1
action-changes tells (send_file blob own) result mine old new t = sends-change blob own (shown (file_answer blob own)) result old new t.1
action-changes tells (clean_all repos) pass mine old new t =
    apart (clean_all repos) pass old new _ t.2 (pass-shows pass old _ (refl, refl)) (passes-grew repos mine (store_of old) t.0 pass t.1) refl
action-changes tells (fetch plan) outcome mine old new t = fetches-change plan outcome old new t.1
action-changes tells (store_fetched number checked) (Ok blob) mine old new t = apart (store_fetched number checked) (Ok blob) old new _ t.1.0 (refl, refl) (omega arith) refl
action-changes tells (store_fetched number checked) (Err unstored.Failed) mine old new t =
    apart (store_fetched number checked) (Err unstored.Failed) old new _ t.1.4 (refl, refl) t.1.2.0 refl
action-changes tells (store_fetched number checked) (Err unstored.NoMemory) mine old new t =
    apart (store_fetched number checked) (Err unstored.NoMemory) old new _ t.1.2 (refl, refl) (omega arith) refl

-- no count of the two sides fell
abbrev SidesGrew : Outside → Outside → Type 0
SidesGrew old new = (old.read_faults ≤ new.read_faults) × (old.write_faults ≤ new.write_faults)

sides-stood : (old new : Outside) → NoneRose old new → SidesGrew old new
sides-stood old new t = let reads = t.0 in let writes = t.1 in (omega (arith, reads), omega (arith, writes))

pub sides-grew : (next : Sequel) (old new : Outside) → ShowsBy next old new → SidesGrew old new
sides-grew (ends_by (rests (Some stream.SourceFault))) old new t = (t.0.0, let same = t.1 in omega (arith, same))
sides-grew (ends_by (rests (Some stream.SinkFault))) old new t = (let same = t.0 in omega (arith, same), t.1.0)
sides-grew (ends_by (rests None)) old new t = sides-stood old new t
sides-grew (ends_by (rests (Some _))) old new t = sides-stood old new t
sides-grew (ends_by (speaks said)) old new t = sides-stood old new t
sides-grew _ old new t = sides-stood old new t

-- ---- what goes on after an I/O action

no-fault : (by_text : List ℕ → Option Close) (fault : Took) → GoesBy by_text (ends_by (of_fault fault)) → ⊥
no-fault by_text took.Torn goes = goes
no-fault by_text _ goes = goes

no-store : (by_text : List ℕ → Option Close) (why : BlobFault) → GoesBy by_text (ends_by (of_store why)) → ⊥
no-store by_text unstored.Failed goes = goes
no-store by_text unstored.NoMemory goes = goes

pub no-pass : (by_text : List ℕ → Option Close) (fault : CleanFault) → GoesBy by_text (ends_by (of_pass (Err fault))) → ⊥
no-pass by_text clean_fault.StoreFault goes = goes
no-pass by_text _ goes = goes

-- the outcome of these ends the course, whatever it is
abbrev pub GoesFurther : IoAction → Type 0
GoesFurther (send_file blob own) = ⊥
GoesFurther (clean_all repos) = ⊥
GoesFurther io_action = Unit {0}

-- nothing is due after another that does not fail
pub goes-undue : (by_text : List ℕ → Option Close) (io_action : IoAction) (outcome : Outcome io_action) → GoesFurther io_action → Goes by_text io_action outcome
    → due_behind by_text (sequel io_action outcome) None ≡ None
goes-undue by_text invite continued.Written further goes = refl
goes-undue by_text invite continued.SinkFault further goes = absurd goes
goes-undue by_text (take_body number count) (Ok blob) further goes = refl
goes-undue by_text (take_body number count) (Err fault) further goes = absurd (no-fault by_text fault goes)
goes-undue by_text (read_body count) (Ok bytes) further goes = goes
goes-undue by_text (read_body count) (Err fault) further goes = absurd (no-fault by_text fault goes)
goes-undue by_text (fetch plan) outcome further goes =
    elim (fetch-follows outcome plan.draft) [
      | inl is ↦ ap (λ (next : Sequel). due_behind by_text next None) is
      | inr is ↦ absurd (subst (GoesBy by_text) is goes)
    ]
goes-undue by_text (store_fetched number checked) (Ok blob) further goes = refl
goes-undue by_text (store_fetched number checked) (Err why) further goes = absurd (no-store by_text why goes)
goes-undue by_text _ outcome further goes = absurd further

-- and an I/O action after which nothing is due does not fail
pub undue-goes : (by_text : List ℕ → Option Close) (next : Sequel) → due_behind by_text next None ≡ None → GoesBy by_text next
undue-goes by_text goes_on is = tt
undue-goes by_text (by_its_text bytes) is = is
undue-goes by_text (ends_by close) is = absurd (none-some close (sym is))

-- ---- what is played

abbrev pub Fetched : Type 0
Fetched = List Fetch

-- a fetch uses what it came to
abbrev pub Uses : (io_action : IoAction) → Outcome io_action → Fetched → Fetched → Type 0
Uses (fetch plan) came coming spare = coming ≡ came ∷ spare
Uses io_action outcome coming spare = coming ≡ spare

-- the blobs in hand are told
abbrev pub IsBlobTold : Option Blob → Type 0
IsBlobTold None = Unit {0}
IsBlobTold (Some blob) = IsSome blob.bytes

abbrev pub InHandTold : Stand → Type 0
InHandTold s = IsBlobTold s.stored × IsBlobTold s.lent × IsBlobTold s.kept

-- before a course
abbrev pub at : State → List ℕ → Fetched → Scene
at st input coming = record { state = st; input = input; fetched = coming }

-- no file was sent whole, and no side of the stream failed
abbrev pub IsUnsentBy : Sequel → Type 0
IsUnsentBy (ends_by (rests end)) = ⊥
IsUnsentBy next = Unit {0}

-- what may be written already: nothing, or `100 Continue`
abbrev pub IsInvited : Bool → List ℕ → Type 0
IsInvited waits written = (written ≡ []) ⊎ ((waits ≡ true) × (written ≡ continue_bytes))

-- What an I/O action came to beside what is played: just that, or the stream ended inside what it reads, as is played too; or memory ran out, the
-- source or the sink failed, or a blob.
pub data IsPlayed (settings : Settings) (io_action : IoAction) (outcome : Outcome io_action) (mine : List Entry) (s : Stand) (scene : Scene) (unused : Fetched) (old new : Outside) : Type 0 where
  as_played : (written left : List ℕ) → done_at settings io_action scene ≡ (outcome, written, at (state_after settings scene.state mine) left unused)
      → new.input ≡ Some left → new.output ≡ behind old.output written
      → IsBlobTold (stored_done io_action outcome s.stored) × IsBlobTold s.lent × IsBlobTold (kept_done io_action outcome s.kept)
      → (IsUnsentBy (sequel io_action outcome) → (front : List ℕ) → IsInvited (waits_done io_action s.waits) front → IsInvited s.waits (written ++ front))
      → IsPlayed settings io_action outcome mine s scene unused old new
  is_torn : (left : Scene) → done_at settings io_action scene ≡ (outcome, [], left) → sequel io_action outcome ≡ ends_by (rests (Some stream.TornRequest))
      → new.output ≡ old.output → IsPlayed settings io_action outcome mine s scene unused old new
  wants_room : sequel io_action outcome ≡ ends_by (speaks NoMemory) → new.output ≡ old.output → IsPlayed settings io_action outcome mine s scene unused old new
  source_fails : sequel io_action outcome ≡ ends_by (rests (Some stream.SourceFault)) → Rose old.read_faults new.read_faults → new.output ≡ old.output
      → IsPlayed settings io_action outcome mine s scene unused old new
  sink_fails : (part more : List ℕ) → sequel io_action outcome ≡ ends_by (rests (Some stream.SinkFault)) → Rose old.write_faults new.write_faults
      → (done_at settings io_action scene).1 ≡ part ++ more → new.output ≡ behind old.output part → IsPlayed settings io_action outcome mine s scene unused old new
  blob_fails : Rose old.blob_faults new.blob_faults → IsPlayed settings io_action outcome mine s scene unused old new

module _ (settings : Settings) (tells : Type 0) (witness : tells) (mode : ResponseMode) (s : Stand) (hand : InHandTold s) (st : State) (input : List ℕ)
    (old new : Outside) (input_is : old.input ≡ Some input) where
  abbrev Comes : (io_action : IoAction) → Outcome io_action → List Entry → Fetched → Fetched → Type 0
  Comes io_action outcome mine coming unused = IsPlayed settings io_action outcome mine s (at st input coming) unused old new

  -- an I/O action that asks nothing and fetches nothing
  alone : (io_action : IoAction) (outcome : Outcome io_action) (mine : List Entry) (coming unused : Fetched) → mine ≡ [] → coming ≡ unused → Comes io_action outcome [] coming coming
      → Comes io_action outcome mine coming unused
  alone io_action outcome mine coming unused none same is =
      subst (λ (u : Fetched). Comes io_action outcome mine coming u) same (subst (λ (es : List Entry). Comes io_action outcome es coming coming) (sym none) is)

  none-written : new.output ≡ old.output → new.output ≡ behind old.output []
  none-written is = is ∙ sym (after-none old.output)

  rose-as : (first faults now : ℕ) → Rose first faults → now ≡ faults → Rose first now
  rose-as first faults now rose is = subst (λ n. Rose first n) (sym is) rose

  invite-played : (result : Continued) → s.waits ≡ true → Continues result old new → (coming : Fetched) → Comes invite result [] coming coming
  invite-played continued.Written waits t coming =
      as_played continue_bytes input refl (ap (λ (o : Outside). o.input) t ∙ input_is) (ap (λ (o : Outside). o.output) t) hand (λ un front invited. inr (waits, first front invited))
    where
      first : (front : List ℕ) → IsInvited false front → continue_bytes ++ front ≡ continue_bytes
      first front (inl none) = ap (λ b. continue_bytes ++ b) none ∙ append-nil continue_bytes
      first front (inr it) = let no : false ≡ true = it.0 in absurd (cc)
  invite-played continued.SinkFault waits t coming =
      sink_fails t.1 t.3.0 refl (rose-as old.write_faults t.0 _ t.2 (ap (λ (o : Outside). o.write_faults) t.4)) t.3.1 (ap (λ (o : Outside). o.output) t.4)

  short-of : (count : ℕ) → IfSome (Some input) (λ bytes. length bytes < count) → length input < count
  short-of count short = short

  take-played : (number count : ℕ) (stored : Stored) → Takes tells number count stored old new → (coming : Fetched) → Comes (take_body number count) stored [] coming coming
  take-played number count (Ok blob) t coming =
      let got = front-of input t.0 t.1.0 (sym input_is ∙ t.1.2) in
      let some = t.5 witness in
      let told = told-is blob.bytes t.0 t.4 some in
      let whole-is : taken_body number count input ≡ Ok blob =
      ap (taken_body number count) got.2 ∙ taken-whole number count t.0 got.0 blob t.1.1 t.2 told t.3 in
      let rest-is : drop count input ≡ got.0 = (λ i. drop (sym t.1.1 i) (got.2 i)) ∙ drop-append_seam t.0 got.0 in
      as_played [] got.0 (λ i. (whole-is i, [], at st (rest-is i) coming)) (ap (λ (o : Outside). o.input) t.1.3 ∙ got.1)
      (none-written (ap (λ (o : Outside). o.output) t.1.3)) (some, hand.1, hand.2) (λ un front it. it)
  take-played number count (Err took.Torn) t coming =
      let torn = fails-torn count t.0 (record old { shelf = t.1 }) new t.3 in
      let short : length input < count = subst (λ i. IfSome i (λ bytes. length bytes < count)) input_is torn.0 in
      let torn-is = taken-torn number count input short in
      is_torn (at st (drop count input) coming) (λ i. (torn-is i, [], at st (drop count input) coming)) refl (ap (λ (o : Outside). o.output) torn.1.1)
  take-played number count (Err took.SourceFault) t coming =
      let failed = fails-source count t.0 (record old { shelf = t.1 }) new t.3 in
      source_fails refl (rose-as old.read_faults failed.0 _ failed.1 (ap (λ (o : Outside). o.read_faults) failed.2.1)) (ap (λ (o : Outside). o.output) failed.2.1)
  take-played number count (Err (took.BlobFault unread)) t coming = blob_fails (rose-as old.blob_faults t.3.0 _ t.3.1 (ap (λ (o : Outside). o.blob_faults) t.3.4.2))
  take-played number count (Err took.NoMemory) t coming = wants_room refl (ap (λ (o : Outside). o.output) t.3.1.2)

  read-played : (count : ℕ) (body : Body) → Reads count body old new → (coming : Fetched) → Comes (read_body count) body [] coming coming
  read-played count (Ok body) t coming =
      let got = front-of input body t.0 (sym input_is ∙ t.2) in
      let whole-is : body_of count input ≡ Ok body = ap (body_of count) got.2 ∙ body-whole count body got.0 t.1 in
      let rest-is : drop count input ≡ got.0 = (λ i. drop (sym t.1 i) (got.2 i)) ∙ drop-append_seam body got.0 in
      as_played [] got.0 (λ i. (whole-is i, [], at st (rest-is i) coming)) (ap (λ (o : Outside). o.input) t.3 ∙ got.1)
      (none-written (ap (λ (o : Outside). o.output) t.3)) hand (λ un front it. it)
  read-played count (Err took.Torn) t coming =
      let short : length input < count = subst (λ i. IfSome i (λ bytes. length bytes < count)) input_is t.0 in
      let torn-is = body-torn count input short in
      is_torn (at st (drop count input) coming) (λ i. (torn-is i, [], at st (drop count input) coming)) refl (ap (λ (o : Outside). o.output) t.1.1)
  read-played count (Err took.SourceFault) t coming =
      source_fails refl (rose-as old.read_faults t.0 _ t.1 (ap (λ (o : Outside). o.read_faults) t.2.1)) (ap (λ (o : Outside). o.output) t.2.1)
  read-played count (Err (took.BlobFault unread)) t coming = absurd t
  read-played count (Err took.NoMemory) t coming = wants_room refl (unwritten count old new t)

  -- a file's answer, or its head alone
  send-played : (blob : Blob) (own : ResponseMode) (result : Sent) → IsSome blob.bytes → SendsAnswer own.head_only blob (shown (file_answer blob own)) result old new
      → (coming : Fetched) → Comes (send_file blob own) result [] coming coming
  send-played blob own sent.Whole told t coming =
      let head = shown (file_answer blob own) in
      let w = sent-whole own.head_only blob head old new t in
      as_played (file_bytes blob own) input refl (ap (λ (o : Outside). o.input) w.2 ∙ input_is)
      (ap (λ (o : Outside). o.output) w.2 ∙ ap (λ b. behind old.output (head ++ rest_of own.head_only b)) (sym (bytes-are blob.bytes w.0 told w.1.0))) hand (λ un front it. absurd un)
  send-played blob own sent.BlobFault told t coming =
      let w = not-sent own.head_only blob (shown (file_answer blob own)) old new t in blob_fails (rose-as old.blob_faults w.0 _ w.2 (ap (λ (o : Outside). o.blob_faults) w.3))
  send-played blob own (sent.BlobDiffers recorded found) told t coming =
      untold blob.bytes (other-found own.head_only blob (shown (file_answer blob own)) recorded found old new t).1.0 told
  send-played blob own sent.CutFault told t coming =
      let w = cut-by-fault own.head_only blob (shown (file_answer blob own)) old new t in blob_fails (rose-as old.blob_faults w.0 _ w.4 (ap (λ (o : Outside). o.blob_faults) w.7))
  send-played blob own (sent.CutDiffers recorded found) told t coming =
      untold blob.bytes (cut-by-other own.head_only blob (shown (file_answer blob own)) recorded found old new t).3.0 told
  send-played blob own sent.SinkFault told t coming =
      let head = shown (file_answer blob own) in
      let w = sent-in-part own.head_only blob head old new t in
      sink_fails w.2 w.5.0 refl (rose-as old.write_faults w.0 _ w.3 (ap (λ (o : Outside). o.write_faults) w.6))
      (ap (λ b. head ++ rest_of own.head_only b) (bytes-are blob.bytes w.1 told w.4.0) ∙ w.5.1) (ap (λ (o : Outside). o.output) w.6)
  send-played blob own sent.NoMemory told t coming =
      wants_room refl (ap (λ (o : Outside). o.output) (sent-nothing own.head_only blob (shown (file_answer blob own)) old new t))

  clean-played : (repos : List (List ℕ)) (pass : Pass) (mine : List Entry) → Legal settings st mine → Calm st.faults (state_after settings st mine).faults → IsSome st.clock
      → (kept : Store) → Passes repos mine (store_of old) kept pass → new ≡ with_store kept old → (coming : Fetched) → Comes (clean_all repos) pass mine coming coming
  clean-played repos (Ok did) mine legal calm clock kept t is coming =
      let played = passes-played settings repos mine (store_of old) kept did st legal calm clock t in
      as_played [] input (λ i. (sym played.1 i, [], at (state_after settings st (sym played.0 i)) input coming)) (ap (λ (o : Outside). o.input) is ∙ input_is)
      (none-written (ap (λ (o : Outside). o.output) is)) hand (λ un front it. it)
  clean-played repos (Err clean_fault.StoreFault) mine legal calm clock kept t is coming =
      absurd (passes-hold repos mine _ kept _ t (no-store-faults settings mine st legal calm (passes-ask repos mine _ kept _ t)) refl)
  clean-played repos (Err clean_fault.BlobFault) mine legal calm clock kept t is coming =
      blob_fails (rose-as old.blob_faults kept.faults _ (passes-rose repos mine (store_of old) kept t) (ap (λ (o : Outside). o.blob_faults) is))
  clean-played repos (Err clean_fault.NoMemory) mine legal calm clock kept t is coming = wants_room refl (ap (λ (o : Outside). o.output) is)

  fetch-played : (plan : Plan) (outcome : Fetch) → Fetches plan outcome old new → (coming unused : Fetched) → coming ≡ outcome ∷ unused
      → Comes (fetch plan) outcome [] coming unused
  fetch-played plan None t coming unused uses = wants_room refl (ap (λ (o : Outside). o.output) t.2)
  fetch-played plan (Some outcome) t coming unused uses =
      as_played [] input (ap (λ (c : Fetched). done_at settings (fetch plan) (at st input c)) uses) (ap (λ (o : Outside). o.input) t.2 ∙ input_is)
      (none-written (ap (λ (o : Outside). o.output) t.2)) (hand.0, hand.1, tt) (λ un front it. it)

  store-played : (number : ℕ) (checked : Checked) (kept : Kept) → Stores tells number checked kept old new → (coming : Fetched)
      → Comes (store_fetched number checked) kept [] coming coming
  store-played number checked (Ok blob) t coming =
      let some = t.4 witness in
      let told = told-is blob.bytes checked.bytes t.3 some in
      let whole-is = blob-is blob number checked.bytes t.1 told t.2 in
      as_played [] input (λ i. (Ok (whole-is i), [], at st input coming)) (ap (λ (o : Outside). o.input) t.0 ∙ input_is)
      (none-written (ap (λ (o : Outside). o.output) t.0)) (hand.0, hand.1, some) (λ un front it. it)
  store-played number checked (Err unstored.Failed) t coming = blob_fails (rose-as old.blob_faults t.0 _ t.2 (ap (λ (o : Outside). o.blob_faults) t.4))
  store-played number checked (Err unstored.NoMemory) t coming = wants_room refl (ap (λ (o : Outside). o.output) t.2)

  pub action-played : (io_action : IoAction) (outcome : Outcome io_action) (mine : List Entry) → MayDo mode io_action s → Legal settings st mine
      → Calm st.faults (state_after settings st mine).faults → IsSome st.clock → (coming unused : Fetched) → Uses io_action outcome coming unused → Does tells io_action outcome mine old new
      → Comes io_action outcome mine coming unused
  action-played invite result mine may legal calm clock coming unused uses did = alone invite result mine coming unused did.0 uses (invite-played result may.1 did.1 coming)
  action-played (take_body number count) stored mine may legal calm clock coming unused uses did =
      alone (take_body number count) stored mine coming unused did.0 uses (take-played number count stored did.1 coming)
  action-played (read_body count) body mine may legal calm clock coming unused uses did =
      alone (read_body count) body mine coming unused did.0 uses (read-played count body did.1 coming)
  action-played (send_file blob own) result mine may legal calm clock coming unused uses did =
      alone (send_file blob own) result mine coming unused did.0 uses
      (send-played blob own result (subst (λ b. IsBlobTold b) may.1.1 hand.1) did.1 coming)
  action-played (clean_all repos) pass mine may legal calm clock coming unused uses did =
      subst (λ (u : Fetched). Comes (clean_all repos) pass mine coming u) uses (clean-played repos pass mine legal calm clock did.0 did.1 did.2 coming)
  action-played (fetch plan) outcome mine may legal calm clock coming unused uses did =
      subst (λ (es : List Entry). Comes (fetch plan) outcome es coming unused) (sym did.0) (fetch-played plan outcome did.1 coming unused uses)
  action-played (store_fetched number checked) kept mine may legal calm clock coming unused uses did =
      alone (store_fetched number checked) kept mine coming unused did.0 uses (store-played number checked kept did.1 coming)

-- ---- what is after an I/O action where no count rose

-- an I/O action that writes something, or whose outcome ends the course, is seen by itself
abbrev pub IsSilent : IoAction → Type 0
IsSilent invite = ⊥
IsSilent (send_file blob own) = ⊥
IsSilent (clean_all repos) = ⊥
IsSilent io_action = Unit {0}

pub silent-asks : (tells : Type 0) (io_action : IoAction) (outcome : Outcome io_action) (mine : List Entry) (old new : Outside) → IsSilent io_action → Does tells io_action outcome mine old new → mine ≡ []
silent-asks tells (clean_all repos) outcome mine old new silent did = absurd silent
silent-asks tells _ outcome mine old new silent did = did.0

-- Nothing is due after it, and what is left of the input is what is after the body, if it reads that; or memory ran out.
pub data GoesOver (by_text : List ℕ → Option Close) (io_action : IoAction) (outcome : Outcome io_action) (s : Stand) (input : List ℕ) (old new : Outside) : Type 0 where
  goes_over : (left : List ℕ) (shelf : Shelf) (remote : Sees) → new ≡ record old { input = Some left; shelf = shelf; remote = remote }
      → behind_body s.unread input ≡ behind_body (unread_done io_action outcome s.unread) left → BodyIsTaken by_text (unread_done io_action outcome s.unread) left
      → due_behind by_text (sequel io_action outcome) None ≡ None → waits_done io_action s.waits ≡ s.waits → GoesOver by_text io_action outcome s input old new
  lacks_room : sequel io_action outcome ≡ ends_by (speaks NoMemory) → new.output ≡ old.output → GoesOver by_text io_action outcome s input old new

module _ (by_text : List ℕ → Option Close) (mode : ResponseMode) (s : Stand) (input : List ℕ) (old new : Outside) (input_is : old.input ≡ Some input)
    (taken : BodyIsTaken by_text s.unread input) (quiet : Quiet old new) where
  -- the whole of the body is there
  body-there : {P : Type 0} (count : ℕ) → s.unread ≡ Some count → IfSome old.input (λ bytes. length bytes < count) → P
  body-there count is short =
      let enough = (subst (λ u. BodyIsTaken by_text u input) is taken).0 in
      let few : length input < count = subst (λ i. IfSome i (λ bytes. length bytes < count)) input_is short in
      absurd (omega arith)

  -- after a body that was read
  body-over : (count : ℕ) → s.unread ≡ Some count → (io_action : IoAction) (outcome : Outcome io_action) → unread_done io_action outcome s.unread ≡ None
      → waits_done io_action s.waits ≡ s.waits → due_behind by_text (sequel io_action outcome) None ≡ None → (body : List ℕ) (shelf : Shelf) → ReadsBody count body (record old { shelf = shelf }) new
      → GoesOver by_text io_action outcome s input old new
  body-over count unread io_action outcome read waits due body shelf t =
      let got = front-of input body t.0 (sym input_is ∙ t.2) in
      let rest-is : drop count input ≡ got.0 = (λ i. drop (sym t.1 i) (got.2 i)) ∙ drop-append_seam body got.0 in
      goes_over got.0 shelf old.remote (t.3 ∙ ap (λ (i : Option (List ℕ)). record old { input = i; shelf = shelf }) got.1)
      (ap (λ (u : Option ℕ). behind_body u input) unread ∙ rest-is ∙ sym (ap (λ (u : Option ℕ). behind_body u got.0) read))
      (subst (λ (u : Option ℕ). BodyIsTaken by_text u got.0) (sym read) tt) due waits

  take-over : (tells : Type 0) (number count : ℕ) (stored : Stored) → s.unread ≡ Some count → Takes tells number count stored old new
      → GoesOver by_text (take_body number count) stored s input old new
  take-over tells number count (Ok blob) unread t =
      body-over count unread (take_body number count) (Ok blob) refl refl refl t.0 (with_body number t.0 old.shelf) t.1
  take-over tells number count (Err took.Torn) unread t = body-there count unread (fails-torn count t.0 (record old { shelf = t.1 }) new t.3).0
  take-over tells number count (Err took.SourceFault) unread t = no-read-fault old new t.3.0 t.3.1 (ap (λ (o : Outside). o.read_faults) t.3.3.2) quiet
  take-over tells number count (Err (took.BlobFault some)) unread t = no-blob-fault old new t.3.0 t.3.1 (ap (λ (o : Outside). o.blob_faults) t.3.4.2) quiet
  take-over tells number count (Err took.NoMemory) unread t = lacks_room refl (ap (λ (o : Outside). o.output) t.3.1.2)

  read-over : (count : ℕ) (body : Body) → s.unread ≡ Some count → Reads count body old new → GoesOver by_text (read_body count) body s input old new
  read-over count (Ok bytes) unread t =
      let got = front-of input bytes t.0 (sym input_is ∙ t.2) in
      let same : take count input ≡ bytes = (λ i. take (sym t.1 i) (got.2 i)) ∙ take-append_seam bytes got.0 in
      let says : by_text bytes ≡ None = subst (λ b. by_text b ≡ None) same (subst (λ u. BodyIsTaken by_text u input) unread taken).1 in
      body-over count unread (read_body count) (Ok bytes) refl refl says bytes old.shelf t
  read-over count (Err took.Torn) unread t = body-there count unread t.0
  read-over count (Err took.SourceFault) unread t = no-read-fault old new t.0 t.1 (ap (λ (o : Outside). o.read_faults) t.2.1) quiet
  read-over count (Err (took.BlobFault some)) unread t = absurd t
  read-over count (Err took.NoMemory) unread t = lacks_room refl (unwritten count old new t)

  -- of which nothing is read
  apart-over : (io_action : IoAction) (outcome : Outcome io_action) → unread_done io_action outcome s.unread ≡ s.unread → waits_done io_action s.waits ≡ s.waits
      → due_behind by_text (sequel io_action outcome) None ≡ None → (shelf : Shelf) (remote : Sees) → new ≡ record old { shelf = shelf; remote = remote }
      → GoesOver by_text io_action outcome s input old new
  apart-over io_action outcome unread waits due shelf remote is =
      goes_over input shelf remote (is ∙ ap (λ (i : Option (List ℕ)). record old { input = i; shelf = shelf; remote = remote }) input_is)
      (sym (ap (λ (u : Option ℕ). behind_body u input) unread)) (subst (λ (u : Option ℕ). BodyIsTaken by_text u input) (sym unread) taken) due waits

  fetch-over : (plan : Plan) (outcome : Fetch) → Fetches plan outcome old new → GoesOver by_text (fetch plan) outcome s input old new
  fetch-over plan None t = lacks_room refl (ap (λ (o : Outside). o.output) t.2)
  fetch-over plan (Some outcome) t =
      elim (fetch-follows (Some outcome) plan.draft) [
        | inl is ↦ apart-over (fetch plan) (Some outcome) refl refl (ap (λ (next : Sequel). due_behind by_text next None) is) old.shelf t.0 t.2
        | inr is ↦ lacks_room is (ap (λ (o : Outside). o.output) t.2)
      ]

  store-over : (tells : Type 0) (number : ℕ) (checked : Checked) (kept : Kept) → Stores tells number checked kept old new
      → GoesOver by_text (store_fetched number checked) kept s input old new
  store-over tells number checked (Ok blob) t =
      apart-over (store_fetched number checked) (Ok blob) refl refl refl (with_body number checked.bytes old.shelf) old.remote t.0
  store-over tells number checked (Err unstored.Failed) t = no-blob-fault old new t.0 t.2 (ap (λ (o : Outside). o.blob_faults) t.4) quiet
  store-over tells number checked (Err unstored.NoMemory) t = lacks_room refl (ap (λ (o : Outside). o.output) t.2)

  pub action-over : (tells : Type 0) (io_action : IoAction) (outcome : Outcome io_action) (mine : List Entry) → IsSilent io_action → MayDo mode io_action s → Does tells io_action outcome mine old new
      → GoesOver by_text io_action outcome s input old new
  action-over tells (take_body number count) stored mine silent may did = take-over tells number count stored may.1.1 did.1
  action-over tells (read_body count) body mine silent may did = read-over count body may.1.1 did.1
  action-over tells (fetch plan) outcome mine silent may did = fetch-over plan outcome did.1
  action-over tells (store_fetched number checked) kept mine silent may did = store-over tells number checked kept did.1
  action-over tells _ outcome mine silent may did = absurd silent
