-- What an act of a course has written beside what is played, where nothing but the source, the sink or memory fails.
use Rattle.std.proofs.Common.{◌≡◌, ℕ, Bool, inl, inr, List, [], ◌++◌, Option, Some, refl, sym, subst, ap, ◌∙◌, append-nil}
use Rattle.std.proofs.lemmas.Option.{none-some}
use Rattle.outside.specs.Faults.{Rose}
use Rattle.outside.specs.Told.{behind}
use Rattle.http_wire.specs.Answer.{shown}
use Rattle.repo_model.specs.History.{Entry, Legal, end as end_of}
use Rattle.repo_model.specs.Settings.{Settings}
use Rattle.repo_model.specs.State.{State}
use Rattle.repo_course.specs.Answers.{answer_of, memory_answer}
use Rattle.repo_course.specs.Course.{Close, Course, says, stops, speaks, rests, end_of as mode_end}
use Rattle.repo_course.specs.declared.mode.ResponseMode.{ResponseMode}
use Rattle.repo_course.specs.declared.outcomes.End.{End}
use Rattle.repo_course.specs.declared.outcomes.End.TheVariants as stream
use Rattle.repo_course.specs.declared.response.Response.{Response}
use Rattle.repo_course.specs.declared.response.Response.TheVariants.{NoMemory}
use Rattle.repo_course.specs.Serving.{IsFrontOf, Outside, Says, Follows}
use Rattle.course_laws.specs.Duties.{Keeps, Stand}
use Rattle.course_laws.specs.Faultless.{play, Scene}
use Rattle.course_laws.proofs.Fetched.{Fetched, FollowsBy}
use Rattle.course_laws.proofs.Early.{Early, ComesTo, Ready, early-before, ends-due, no-more, plays-due, says-early, says-memory, sink-failed, source-failed}
use Rattle.course_laws.proofs.Unsent.{MayStarve}
use Rattle.course_laws.proofs.IoActions.{InHandTold, at}
use Rattle.course_laws.proofs.Rising.{Calm, NoneFell}

module _ (settings : Settings) (tells : Type 0) (by_text : List ℕ → Option Close) (mode : ResponseMode) where
  -- the course is followed as it is played
  abbrev pub Plays : Course → Type 0
  Plays c = (n : ℕ) (s : Stand) → Keeps by_text mode c n s → InHandTold s → (entries : List Entry) (st : State) → Legal settings st entries
      → Calm st.faults (end_of settings st entries).faults → (old new : Outside) (end : Option End) (input before : List ℕ) (coming spare : Fetched) → Ready old st input before
      → Calm old.blob_faults new.blob_faults → FollowsBy tells c entries coming spare old new end
      → ComesTo spare (MayStarve mode s) before (play settings c (at st input coming)) old new (end_of settings st entries) end

  -- where this end is due, the course is followed to it
  module _ (So : Bool → List ℕ → Type 0) (rest : Course) (n : ℕ) (s : Stand) (k : Keeps by_text mode rest n s) (entries : List Entry)
      (old mid new : Outside) (end : Option End) (before : List ℕ) (output_is : old.output ≡ Some before) (follows : Follows tells rest entries mid new end) where
    -- the sink failed, and has taken a front of what was to be written
    pub sink-play : s.due ≡ Some (rests (Some stream.SinkFault)) → (written part : List ℕ) → IsFrontOf part written → Rose old.write_faults mid.write_faults
        → mid.output ≡ behind old.output part → Early So before written old new end
    sink-play is written part front rose out =
        let last = (ends-due tells by_text mode rest n s (rests (Some stream.SinkFault)) k is entries mid new end follows).0 in
        no-more So before written part old new end front (ap (λ o. o.output) last.0 ∙ out ∙ ap (λ o. behind o part) output_is)
        (sink-failed So part old new end last.1 (subst (λ m. Rose old.write_faults m) (sym (ap (λ o. o.write_faults) last.0)) rose))

    -- the stream ends inside what is read
    pub torn-play : s.due ≡ Some (rests (Some stream.TornRequest)) → (st : State) (scene : Scene) (spare : Fetched) → mid.output ≡ old.output
        → ComesTo spare So before (play settings rest scene) old new st end
    torn-play is st scene spare kept =
        let last = (ends-due tells by_text mode rest n s (rests (Some stream.TornRequest)) k is entries mid new end follows).0 in
        let played = plays-due settings by_text mode rest n s (Some stream.TornRequest) k is scene in
        inl record {
          output = ap (λ o. o.output) last.0 ∙ kept ∙ output_is ∙ ap Some (sym (append-nil before) ∙ ap (λ b. before ++ b) (sym played.0));
          ends = last.1 ∙ sym played.1;
          goes = λ none. absurd (none-some stream.TornRequest (sym none ∙ last.1));
        }

    -- the source fails
    pub source-play : s.due ≡ Some (rests (Some stream.SourceFault)) → (written : List ℕ) → Rose old.read_faults mid.read_faults → mid.output ≡ old.output
        → Early So before written old new end
    source-play is written rose kept =
        let last = (ends-due tells by_text mode rest n s (rests (Some stream.SourceFault)) k is entries mid new end follows).0 in
        no-more So before written [] old new end (_, refl) (ap (λ o. o.output) last.0 ∙ kept ∙ output_is ∙ ap Some (sym (append-nil before)))
        (source-failed So [] old new end last.1 (subst (λ m. Rose old.read_faults m) (sym (ap (λ o. o.read_faults) last.0)) rose))

    -- memory is wanted, and nothing was written
    pub memory-play : s.due ≡ Some (speaks NoMemory) → So mode.head_only [] → (written : List ℕ) → NoneFell old mid → mid.output ≡ old.output → Early So before written old new end
    memory-play is so written first kept =
        let said = (ends-due tells by_text mode rest n s (speaks NoMemory) k is entries mid new end follows).0 in
        early-before So before written old mid new end first (says-memory So mode.head_only so mid new end before written said (kept ∙ output_is))

  -- an answer at the end of a turn, or nothing written there
  pub says-play : (So : Bool → List ℕ → Type 0) (said : Response) (own : ResponseMode) → So own.head_only [] → (st : State) (old new : Outside) (end : Option End) (input before : List ℕ) (coming spare : Fetched) → Ready old st input before
      → Says (answer_of said own) (memory_answer own.head_only) (mode_end own) old new end → coming ≡ spare
      → ComesTo spare So before (play settings (says said own) (at st input coming)) old new st end
  says-play So said own so st old new end input before coming spare ready said-it left =
      elim (says-early So (answer_of said own) own.head_only so (mode_end own) old new end before said-it ready.output_is) [
        | inl w ↦ inl record {
          output = w.1;
          ends = w.2;
          goes = λ none. record {
            ready = subst (λ o. Ready o st input (before ++ shown (answer_of said own))) (sym w.0)
                (record {
                  input_is = ready.input_is;
                  output_is = ap (λ o. behind o (shown (answer_of said own))) ready.output_is;
                  rows = ready.rows;
                  clock = ready.clock;
                });
            state = refl;
            fetched = sym left;
          };
        }
        | inr m ↦ inr m
      ]

  pub stops-play : (So : Bool → List ℕ → Type 0) (next : Option End) (st : State) (old new : Outside) (end : Option End) (input before : List ℕ) (coming spare : Fetched) → Ready old st input before
      → new ≡ old → end ≡ next → coming ≡ spare → ComesTo spare So before (play settings (stops next) (at st input coming)) old new st end
  stops-play So next st old new end input before coming spare ready still ends left =
      let out = ready.output_is ∙ ap Some (sym (append-nil before)) in
      inl record {
        output = ap (λ o. o.output) still ∙ out;
        ends = ends;
        goes = λ none. record {
          ready = subst (λ o. Ready o st input (before ++ [])) (sym still)
              (record { input_is = ready.input_is; output_is = out; rows = ready.rows; clock = ready.clock });
          state = refl;
          fetched = sym left;
        };
      }
