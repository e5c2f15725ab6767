-- Why a turn of a served stream is answered as it is: the head, the reply or the I/O action that its answer is due for, and the cause of each
-- of its replies, in the state at the place of its entry in a history.
use Rattle.std.specs.Prelude.{◌≡◌, ℕ, Bool, false, List, [], ◌∷◌, ◌++◌, Option, Some, None, IsTrue}
use Rattle.std.specs.List.{AllByRecursion}
use Rattle.repo_model.specs.History.{Entry, Fits, end}
use Rattle.repo_model.specs.Reply.{no_draft, is_free}
use Rattle.repo_model.specs.Settings.{Settings}
use Rattle.repo_model.specs.State.{State}
use Rattle.repo_laws.specs.Causes.{Cause}
use Rattle.repo_laws.specs.Replies.{GivesDraft, is_refusal, spends, uses_draft}
use Rattle.repo_routes.specs.Framing.{is_head}
use Rattle.repo_routes.specs.Judge.{judge}
use Rattle.repo_course.specs.Answers.{answer_of, at_end, memory_answer}
use Rattle.repo_course.specs.Course.{Close, Course, IoAction, Outcome, end_of, rests, says, speaks, stops}
use Rattle.repo_course.specs.Serving.{Does, Opens, clean, torn, failed, refused, unread_head, starved, served, Outside, Says}
use Rattle.repo_course.specs.declared.mode.ResponseMode.{ResponseMode}
use Rattle.repo_course.specs.declared.outcomes.End.{End}
use Rattle.repo_course.specs.declared.outcomes.End.TheVariants as stream
use Rattle.repo_course.specs.declared.response.Response.TheVariants as response
use Rattle.course_laws.specs.Duties.{Duty, HoldsNothing, Rounds, Stand, due_after, due_done, rounds_after, duty_of, duty_without_head, mode_of, to_end}
use Rattle.course_laws.specs.Endings.{NoneFell}
use Rattle.closed_laws.specs.Streams.{Seen}
use Rattle.answer_laws.specs.Marked.{Mark, entries_of, others_entry, IsAt}
use Rattle.answer_laws.specs.Steps.{Leads, Step, asked, did, due_by, made, rounds_behind, rounds_by}

-- one of these entries gave the draft, and none after it has spent it
pub record HasGiven (entries : List Entry) (n : ℕ) : Type 0 where
  pub first : List Entry
  pub given : Entry
  pub since : List Entry
  pub parts : entries ≡ first ++ given ∷ since
  pub draft_is : GivesDraft n given.reply
  pub unspent : AllByRecursion (λ (x : Entry). spends n x ≡ false) since

-- an entry after these asks with such a draft
pub record AsksWith (before : List Entry) (e : Entry) : Type 0 where
  pub number : ℕ
  pub asks : IsTrue (uses_draft number e.command)
  pub has : HasGiven before number

-- another's entry among these has spent the draft
pub record IsSpentAmong (n : ℕ) (marks : List Mark) : Type 0 where
  pub front : List Mark
  pub other : Entry
  pub back : List Mark
  pub other_is : marks ≡ front ++ others_entry other ∷ back
  pub spent : IsTrue (spends n other)

-- A turn asks with a draft that an earlier one of its own entries was given, and none of the caller's own since then has spent that; an
-- entry of another has, in the history before it. `past` are the caller's entries before the turn, `done` those of the turn before it.
pub record IsSpentByAnother (past done : List Entry) (e : Entry) (before : List Mark) : Type 0 where
  pub with : AsksWith done e
  pub at : IsAt before (past ++ with.has.first) with.has.given with.has.since
  pub between : IsSpentAmong with.number at.behind

-- these steps make no end due
abbrev pub AreSilent : (List ℕ → Option Close) → Rounds → List Step → Type 0
AreSilent by_text r [] = Unit {0}
AreSilent by_text r (step ∷ steps) = (due_by by_text r step None ≡ None) × AreSilent by_text (rounds_by step r) steps

-- Why an end is due after the steps of a turn, where this was due for its head: for the head, and no step makes another due; or for
-- just one of the steps, a reply that is answered, or an I/O action that failed, was the last one or refuses what it read. A reply that nothing is
-- there is answered by what the fetches before it came to. An I/O action's counts of faults lie between those before the turn and after it.
pub data Why (tells : Type 0) (by_text : List ℕ → Option Close) (r : Rounds) (due : Option Close) (steps : List Step) (old new : Outside) (close : Close) : Type 0 where
  by_head : due ≡ Some close → AreSilent by_text r steps → Why tells by_text r due steps old new close
  by_reply : (before behind : List Step) (e : Entry) → steps ≡ before ++ asked e ∷ behind → due ≡ None
      → due_after (rounds_behind before r) e.command e.reply None ≡ Some close → AreSilent by_text r before
      → AreSilent by_text (rounds_after e.command (rounds_behind before r)) behind → Why tells by_text r due steps old new close
  by_io_action : (before behind : List Step) (io_action : IoAction) (outcome : Outcome io_action) (mine : List Entry) (from seen : Outside)
      → steps ≡ before ++ did io_action outcome mine seen ∷ behind → due ≡ None
      → Does tells io_action outcome mine from seen → NoneFell old from → NoneFell seen new
      → due_done by_text io_action outcome None ≡ Some close → AreSilent by_text r before → AreSilent by_text (rounds_behind before r) behind
      → Why tells by_text r due steps old new close

-- How a course ends by what is due, where this body is not read: with an answer in the mode of the request, or with none, and then
-- the connection goes on only where the body was read.
abbrev pub EndsBy : ResponseMode → Option ℕ → Close → Course → Outside → Outside → Option End → Type 0
EndsBy mode unread (speaks what) last mid new stop =
    let own = mode_of what unread mode in
    (last ≡ says what own) × Says (answer_of what own) (memory_answer own.head_only) (end_of own) mid new stop
EndsBy mode unread (rests next) last mid new stop = (last ≡ stops next) × (new ≡ mid) × (stop ≡ next) × (next ≡ None → unread ≡ None)

-- A course is followed from where it stands, by steps of its own, to an end that is due, holding nothing; and why that is due, by what is
-- seen from the first on.
pub record IsWalked (tells : Type 0) (duty : Duty) (c : Course) (s : Stand) (entries : List Entry) (first old new : Outside) (stop : Option End) : Type 0 where
  pub steps : List Step
  pub finish : Course
  pub stand : Stand
  pub to : Outside
  pub leads : Leads tells duty steps c s old finish stand to
  pub entries_are : entries ≡ made steps
  pub holds : HoldsNothing stand
  pub close : Close
  pub due : stand.due ≡ Some close
  pub why : Why tells duty.by_text s.rounds s.due steps first new close
  pub ends : EndsBy duty.mode stand.unread close finish to new stop

-- the entries of turns, one after another
abbrev pub entries_in : List Seen → List Entry
entries_in [] = []
entries_in (turn ∷ turns) = turn.entries ++ entries_in turns

module _ (settings : Settings) where
  -- what a turn owes by its head, or by what comes in place of one
  abbrev pub owed : {last : Bool} {old mid : Outside} {c : Course} → Opens settings last old mid c → Duty
  owed (clean begins still is) = to_end (rests (Some stream.Closed)) (at_end false)
  owed (torn begins still is) = to_end (rests (Some stream.TornRequest)) (at_end false)
  owed (failed faults rose still is) = to_end (rests (Some stream.SourceFault)) (at_end false)
  owed (refused fault begins still is) = duty_without_head fault
  owed (unread_head begins still is) = to_end (speaks response.NoMemory) (at_end false)
  owed (starved head rest begins uses is) = to_end (speaks response.NoMemory) (at_end (is_head head))
  owed {last} (served head rest begins uses is) = duty_of (judge settings head) last

  -- A turn is opened by its head, makes the steps of its course, and ends as is due; and why.
  pub record IsAnsweredByCause (tells : Type 0) (last : Bool) (entries : List Entry) (old new : Outside) (stop : Option End) : Type 0 where
    pub course : Course
    pub mid : Outside
    pub opens : Opens settings last old mid course
    pub walked : IsWalked tells (owed opens) course (owed opens).stand entries old mid new stop

  module _ (tells : Type 0) (start : State) (history : List Mark) where
    -- An entry of a turn is the caller's own in the history, after its entries before it and before those that follow, and fits the
    -- state that all entries before it leave: so its reply is the one that is due there, or memory ran out, or the records failed
    -- and their count has risen. Where it is refused, the cause is in that state; where it is told that there is no draft, another has
    -- spent it.
    pub record IsCaused (past done : List Entry) (e : Entry) (later : List Entry) : Type 0 where
      pub at : IsAt history (past ++ done) e later
      pub fits : Fits settings (end settings start (entries_of at.before)) e
      pub cause : is_free e.reply ≡ false → IsTrue (is_refusal e.reply) → Cause settings (end settings start (entries_of at.before)) e.moment e.command e.reply
      pub spent : e.reply ≡ no_draft → IsSpentByAnother past done e at.before

    -- so does each of a turn's entries, between the caller's before it and after it
    abbrev pub AllCaused : List Entry → List Entry → List Entry → List Entry → Type 0
    AllCaused past done [] rest = Unit {0}
    AllCaused past done (e ∷ es) rest = IsCaused past done e (es ++ rest) × AllCaused past (done ++ e ∷ []) es rest

    -- each of these turns, between the caller's entries before and after the stream, ends so, and each of its entries is caused
    abbrev pub AllAnsweredByCause : List Entry → List Entry → Outside → List Seen → Type 0
    AllAnsweredByCause past rest old [] = Unit {0}
    AllAnsweredByCause past rest old (turn ∷ turns) =
        IsAnsweredByCause tells turn.last turn.entries old turn.new turn.stop × AllCaused past [] turn.entries (entries_in turns ++ rest)
        × AllAnsweredByCause (past ++ turn.entries) rest turn.new turns
