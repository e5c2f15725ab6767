-- A course is followed as it is played, up to where memory is wanted or the source or the sink fails, if nothing else fails.
use Rattle.std.proofs.Common.{◌≡◌, ℕ, zero, suc, arith, inl, inr, List, [], ◌∷◌, ◌++◌, Option, Some, IsTrue, refl, sym, subst, ap, ◌∙◌, append_assoc}
use Rattle.std.specs.Prelude.{IsSome, IfSome}
use Rattle.fetch_plan.specs.declared.Outcome.TheVariants as came
use Rattle.remote_fetch.specs.declared.contents.Content.TheVariants as content
use Rattle.repo_model.specs.Command.{Command, look, put, stage, land}
use Rattle.repo_model.specs.Data.{Blob}
use Rattle.repo_model.specs.History.{Entry, Legal, after, due, wants_memory, failed, end as end_of}
use Rattle.repo_model.specs.Reply.{Reply, file, no_memory, takes_memory}
use Rattle.repo_model.specs.Settings.{Settings}
use Rattle.repo_model.specs.State.{State}
use Rattle.repo_course.specs.Course.{Close, Course, IoAction, Fetch, Outcome, asks, does, says, stops, speaks}
use Rattle.repo_course.specs.declared.mode.ResponseMode.{ResponseMode}
use Rattle.repo_course.specs.declared.outcomes.End.{End}
use Rattle.repo_course.specs.declared.response.Response.TheVariants.{NoMemory}
use Rattle.repo_course.specs.Serving.{Outside}
use Rattle.course_laws.specs.AsPlayed.{RowsTold}
use Rattle.course_laws.specs.Duties.{Keeps, MayAsk, MayDo, Stand, landing_by, stand_after, stand_done}
use Rattle.course_laws.specs.Faultless.{due_entry, play, wrote, done_at}
use Rattle.course_laws.proofs.LeftBehind.{end_append, legal_cut}
use Rattle.course_laws.proofs.Passes.{entries-clock, entries-told, action-asks}
use Rattle.course_laws.proofs.Counts.{action-grew, follows-grew}
use Rattle.course_laws.proofs.Early.{ComesTo, Ready, ends-due, memory-due, outcome-before, outcome-so, own-head, says-memory, wrote-outcome}
use Rattle.course_laws.proofs.Fetched.{Fetched, FollowsBy, plain}
use Rattle.course_laws.proofs.PlayedActs.{Plays, memory-play, says-play, sink-play, source-play, stops-play, torn-play}
use Rattle.course_laws.proofs.Unsent.{IsUnsent, MayStarve, none-unsent, reply-may, reply-unsent}
use Rattle.course_laws.proofs.Told.{CommandTold, LandingTold, ReplyTold, after-told, clock-stays, due-is, faults-are, faults-grow, moment-is, reply-told}
use Rattle.course_laws.specs.IoActions.{due_behind, left_by}
use Rattle.course_laws.specs.Scenes.{Scene}
use Rattle.outside.specs.Told.{behind}
use Rattle.repo_course.specs.IoActions.{Sequel, goes_on, by_its_text, ends_by, sequel, rests}
use Rattle.course_laws.proofs.IoActions.{InHandTold, IsBlobTold, IsPlayed, IsUnsentBy, as_played, at, blob_fails, action-played, is_torn, sink_fails, source_fails, wants_room}
use Rattle.course_laws.proofs.Rising.{Calm, NoneFell, calm-first, calm-then, risen}

reply-in-hand : (c : Command) (reply : Reply) (s : Stand) → ReplyTold reply → InHandTold s → InHandTold (stand_after c reply s)
reply-in-hand (look repo path tried) (file lease blob) s told hand = (hand.0, told, hand.2)
reply-in-hand _ _ s told hand = hand

landing-told : (came : Fetch) (kept : Option Blob) → IsBlobTold kept → IfSome (landing_by came kept) LandingTold
landing-told (Some (came.Got (content.File checked))) (Some blob) told = told
landing-told _ _ told = tt

command-in-hand : (c : Command) (s : Stand) → MayAsk c s → InHandTold s → CommandTold c
command-in-hand (put repo path n blob) s may hand = subst (λ b. IsBlobTold b) may.2 hand.0
command-in-hand (stage at path n blob) s may hand = subst (λ b. IsBlobTold b) may.2 hand.0
command-in-hand (land plan outcome) s may hand = subst (λ o. IfSome o LandingTold) may.3 (landing-told s.came s.kept hand.2)
command-in-hand _ s may hand = tt

unsent-by : (by_text : List ℕ → Option Close) (next : Sequel) (due : Option Close) → IsUnsent (due_behind by_text next due) → IsUnsentBy next
unsent-by by_text goes_on before un = tt
unsent-by by_text (by_its_text bytes) before un = tt
unsent-by by_text (ends_by (speaks said)) before un = tt
unsent-by by_text (ends_by (rests end)) before un = un

module _ (settings : Settings) (tells : Type 0) (witness : tells) (by_text : List ℕ → Option Close) (mode : ResponseMode) where
  asks-play : (command : Command) (next : Reply → Course) → ((reply : Reply) → Plays settings tells by_text mode (next reply)) → Plays settings tells by_text mode (asks command next)
  asks-play command next ih zero s k hand [] st legal calm old new end input before coming spare ready quiet f = absurd f
  asks-play command next ih zero s k hand (e ∷ entries) st legal calm old new end input before coming spare ready quiet f = absurd k
  asks-play command next ih (suc n) s k hand [] st legal calm old new end input before coming spare ready quiet f = absurd f
  asks-play command next ih (suc n) s k hand (e ∷ entries) st legal calm old new end input before coming spare ready quiet f =
      let fits = legal.0 in
      let st1 = after settings st e in
      let up = fits.faults in
      let is_up = faults-are settings st e in
      let more = faults-grow settings entries st1 legal.1 in
      let calm-end = calm.0 in
      let calm-most = calm.1 in
      let stood : e.faults ≡ st.faults = omega arith in
      let calm1 : Calm st1.faults (end_of settings st1 entries).faults = (omega arith, omega arith) in
      elim fits.reply [
        | due replied did ↦
            let d = due_entry settings st command in
            let is : e ≡ d = due-is settings st e command f.0 (moment-is st e.moment ready.clock fits.moment) stood replied in
            let told = command-in-hand command s k.0 hand in
            let state-is : st1 ≡ after settings st d = ap (λ (x : Entry). after settings st x) is in
            let ready1 : Ready old st1 input before = record {
              input_is = ready.input_is;
              output_is = ready.output_is;
              rows = subst (λ (x : State). RowsTold x) (sym state-is) (after-told settings st ready.rows command s k.0 told);
              clock = clock-stays settings st e ready.clock;
            } in
            let reply-is : e.reply ≡ d.reply = ap (λ (x : Entry). x.reply) is in
            let hand1 = reply-in-hand command d.reply s (reply-told settings st ready.rows command s k.0 told) hand in
            let follows = subst (λ r. FollowsBy tells (next r) entries coming spare old new end) reply-is f.1 in
            let s1 = stand_after command d.reply s in
            subst (λ (x : State). ComesTo spare (MayStarve mode s) before (play settings (next d.reply) (at x input coming)) old new (end_of settings st1 entries) end) state-is
            (outcome-so (MayStarve mode s1) (MayStarve mode s) before (play settings (next d.reply) (at st1 input coming)) old new (end_of settings st1 entries) end (λ alone front may. (may.0, reply-may command d.reply s k.0 front may.1))
            (ih d.reply n s1 (k.1 d.reply) hand1 entries st1 legal.1 calm1 old new end input before coming spare ready1 quiet follows))
        | wants_memory replied can did ↦
            let due = memory-due command s k.0 (subst (λ c. IsTrue (takes_memory c)) f.0 can) in
            let follows = subst (λ r. FollowsBy tells (next r) entries coming spare old new end) replied f.1 in
            let unsent = reply-unsent command no_memory s k.0 (subst IsUnsent (sym due) tt) in
            inr (says-memory (MayStarve mode s) mode.head_only (refl, (unsent, inl refl)) old new end before _
            (ends-due tells by_text mode (next no_memory) n (stand_after command no_memory s) (speaks NoMemory) (k.1 no_memory) due entries old new end (plain tells (next no_memory) entries coming spare old new end follows)).0 ready.output_is)
        | failed replied can rose ↦ risen st.faults e.faults (end_of settings st1 entries).faults rose (omega arith) calm
      ]

  -- after an I/O action the course is followed as it is played, by what that came to beside what is played
  played-on : (io_action : IoAction) (next : Outcome io_action → Course) (outcome : Outcome io_action) → Plays settings tells by_text mode (next outcome) → (n : ℕ) (s : Stand) → MayDo mode io_action s
      → Keeps by_text mode (next outcome) n (stand_done by_text io_action outcome s) → (mine later : List Entry) (st : State) → RowsTold (end_of settings st mine) → IsSome (end_of settings st mine).clock
      → Legal settings (end_of settings st mine) later → Calm (end_of settings st mine).faults (end_of settings (end_of settings st mine) later).faults
      → (old mid new : Outside) (end : Option End) (input before : List ℕ) (coming unused spare : Fetched) → old.output ≡ Some before → Calm old.blob_faults new.blob_faults → NoneFell old mid → NoneFell mid new
      → FollowsBy tells (next outcome) later unused spare mid new end → IsPlayed settings io_action outcome mine s (at st input coming) unused old mid
      → ComesTo spare (MayStarve mode s) before (play settings (does io_action next) (at st input coming)) old new (end_of settings (end_of settings st mine) later) end
  played-on io_action next outcome ih n s may k mine later st rows clock legal calm old mid new end input before coming unused spare out quiet first grows follows (as_played written left is input_is output told fronts) =
      let s1 = stand_done by_text io_action outcome s in
      let there = end_of settings st mine in
      let last = end_of settings there later in
      let ready : Ready mid there left (before ++ written) = record { input_is = input_is; output_is = output ∙ ap (λ o. behind o written) out; rows = rows; clock = clock } in
      let played = ih n s1 k told later there legal calm mid new end left (before ++ written) unused spare ready
      (calm-then old.blob_faults mid.blob_faults new.blob_faults first.blobs grows.blobs quiet) follows in
      subst (λ (d : Outcome io_action × List ℕ × Scene). ComesTo spare (MayStarve mode s) before (wrote d.1 (play settings (next d.0) d.2)) old new last end) (sym is)
      (outcome-before (MayStarve mode s) before (wrote written (play settings (next outcome) (at there left unused))) old mid new last end first
      (wrote-outcome (MayStarve mode s1) (MayStarve mode s) before written (play settings (next outcome) (at there left unused)) mid new last end
      (λ alone front stood. (stood.0, (none-unsent s.due may.0, fronts (unsent-by by_text (sequel io_action outcome) s.due stood.1.0) front stood.1.1))) played))
  played-on io_action next outcome ih n s may k mine later st rows clock legal calm old mid new end input before coming unused spare out quiet first grows follows (is_torn left is torn kept) =
      let last = end_of settings (end_of settings st mine) later in
      subst (λ (d : Outcome io_action × List ℕ × Scene). ComesTo spare (MayStarve mode s) before (wrote d.1 (play settings (next d.0) d.2)) old new last end) (sym is)
      (torn-play settings tells by_text mode (MayStarve mode s) (next outcome) n (stand_done by_text io_action outcome s) k later old mid new end before out
      (plain tells (next outcome) later unused spare mid new end follows) (ap (λ (x : Sequel). due_behind by_text x s.due) torn) last left spare kept)
  played-on io_action next outcome ih n s may k mine later st rows clock legal calm old mid new end input before coming unused spare out quiet first grows follows (wants_room is kept) =
      inr (memory-play settings tells by_text mode (MayStarve mode s) (next outcome) n (stand_done by_text io_action outcome s) k later old mid new end before out
      (plain tells (next outcome) later unused spare mid new end follows) (ap (λ (x : Sequel). due_behind by_text x s.due) is) (refl, (none-unsent s.due may.0, inl refl)) _ first kept)
  played-on io_action next outcome ih n s may k mine later st rows clock legal calm old mid new end input before coming unused spare out quiet first grows follows (source_fails is rose kept) =
      inr (source-play settings tells by_text mode (MayStarve mode s) (next outcome) n (stand_done by_text io_action outcome s) k later old mid new end before out
      (plain tells (next outcome) later unused spare mid new end follows) (ap (λ (x : Sequel). due_behind by_text x s.due) is) _ rose kept)
  played-on io_action next outcome ih n s may k mine later st rows clock legal calm old mid new end input before coming unused spare out quiet first grows follows (sink_fails part more is rose parts written) =
      let did = done_at settings io_action (at st input coming) in
      let after_it = (play settings (next did.0) did.2).written in
      inr (sink-play settings tells by_text mode (MayStarve mode s) (next outcome) n (stand_done by_text io_action outcome s) k later old mid new end before out
      (plain tells (next outcome) later unused spare mid new end follows) (ap (λ (x : Sequel). due_behind by_text x s.due) is) (did.1 ++ after_it) part
      (more ++ after_it, ap (λ b. b ++ after_it) parts ∙ append_assoc part more after_it) rose written)
  played-on io_action next outcome ih n s may k mine later st rows clock legal calm old mid new end input before coming unused spare out quiet first grows follows (blob_fails rose) =
      risen old.blob_faults mid.blob_faults new.blob_faults rose grows.blobs quiet

  action-play : (io_action : IoAction) (next : Outcome io_action → Course) → ((outcome : Outcome io_action) → Plays settings tells by_text mode (next outcome))
      → Plays settings tells by_text mode (does io_action next)
  action-play io_action next ih n s k hand entries st legal calm old new end input before coming spare ready quiet f =
      let cut = legal_cut settings st f.1 f.2 (subst (λ (es : List Entry). Legal settings st es) f.4 legal) in
      let mid = end_of settings st f.1 in
      let ends : end_of settings st entries ≡ end_of settings mid f.2 = ap (λ (es : List Entry). end_of settings st es) f.4 ∙ end_append settings st f.1 f.2 in
      let all = subst (λ (x : State). Calm st.faults x.faults) ends calm in
      let up = faults-grow settings f.1 st cut.0 in
      let more = faults-grow settings f.2 mid cut.1 in
      let asked = action-asks tells io_action f.0 f.1 old f.3 f.5 in
      subst (λ (x : State). ComesTo spare (MayStarve mode s) before (play settings (does io_action next) (at st input coming)) old new x end) (sym ends)
      (played-on io_action next f.0 (ih f.0) (left_by io_action n) s k.0 (k.2 f.0) f.1 f.2 st (entries-told settings f.1 st asked ready.rows) (entries-clock settings f.1 st ready.clock) cut.1
      (calm-then st.faults mid.faults (end_of settings mid f.2).faults up more all) old f.3 new end input before coming f.6 spare ready.output_is quiet
      (action-grew tells io_action f.0 f.1 old f.3 f.5) (follows-grew tells (next f.0) f.2 f.3 new end (plain tells (next f.0) f.2 f.6 spare f.3 new end f.8)) f.8
      (action-played settings tells witness mode s hand st input old f.3 ready.input_is io_action f.0 f.1 k.0 cut.0
      (calm-first st.faults mid.faults (end_of settings mid f.2).faults more all) ready.clock coming f.6 f.7 f.5))

  pub course-play : (c : Course) → Plays settings tells by_text mode c
  course-play (asks command next) n s k hand entries st legal calm old new end input before coming spare ready quiet f =
      asks-play command next (λ r. course-play (next r)) n s k hand entries st legal calm old new end input before coming spare ready quiet f
  course-play (does io_action next) n s k hand entries st legal calm old new end input before coming spare ready quiet f =
      action-play io_action next (λ r. course-play (next r)) n s k hand entries st legal calm old new end input before coming spare ready quiet f
  course-play (says said own) n s k hand entries st legal calm old new end input before coming spare ready quiet f =
      let head-is : own.head_only ≡ mode.head_only = ap (λ (m : ResponseMode). m.head_only) k.2 ∙ own-head said s.unread mode in
      subst (λ (es : List Entry). ComesTo spare (MayStarve mode s) before (play settings (says said own) (at st input coming)) old new (end_of settings st es) end) (sym f.0)
      (says-play settings tells by_text mode (MayStarve mode s) said own (head-is, (subst IsUnsent (sym k.1) tt, inl refl)) st old new end input before coming spare ready f.1 f.2)
  course-play (stops next) n s k hand entries st legal calm old new end input before coming spare ready quiet f =
      subst (λ (es : List Entry). ComesTo spare (MayStarve mode s) before (play settings (stops next) (at st input coming)) old new (end_of settings st es) end) (sym f.0)
      (stops-play settings tells by_text mode (MayStarve mode s) next st old new end input before coming spare ready f.1 f.2 f.3)
