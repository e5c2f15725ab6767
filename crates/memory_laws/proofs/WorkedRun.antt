-- A run whose words ask for a replay, and which ended with 0, over nothing: what its one connection has taken.
use Rattle.std.proofs.Common.{◌≡◌, ◌⊎◌, ◌∙◌, ℕ, List, [], ◌∷◌, ◌++◌, Option, Some, None, Ok, Err, inl, inr, sym, ap, subst, arith, map, length}
use Rattle.std.specs.List.{AllByRecursion}
use Rattle.outside.specs.declared.tells.Tells.{Ghosts as Telling}
use Rattle.outside.specs.Moments.{Moments}
use Rattle.outside.specs.Told.{behind, in_front, IsAtEnd}
use Rattle.course_laws.specs.AsPlayed.{NoFaults, StoodStill, WantedMemory}
use Rattle.course_laws.specs.Worked.{abc_200, created_201, last_get, put_abc, worked_settings}
use Rattle.repo_config.specs.Source.{IsReadFrom}
use Rattle.repo_core.specs.declared.faults.StartFault.{StartFault}
use Rattle.repo_core.specs.declared.faults.StartFault.TheVariants as start
use Rattle.repo_course.specs.declared.outcomes.End.{End}
use Rattle.repo_course.specs.declared.outcomes.End.TheVariants.{Closed}
use Rattle.repo_model.specs.Settings.{Settings}
use Rattle.repo_model.specs.Tables.{no_tables}
use Rattle.run_lines.specs.Printing.{Output}
use Rattle.run_lines.specs.Reading.{File, Reads}
use Rattle.run_desks.specs.Seen.{RunResources, DeskResources, Looks}
use Rattle.repo_run.specs.declared.actions.Action.{Action}
use Rattle.repo_run.specs.declared.actions.Action.TheVariants.{Replay}
use Rattle.repo_run.specs.Begun.{IsFresh, RefusesStart}
use Rattle.repo_run.specs.Replay.{AllTold, IsReplayed, Replays, ReplaysBy, accepted, counts, none_left, not_started, one_served, port_failed, refused}
use Rattle.repo_run.specs.Running.{Acts, Runs, at_desk}
use Rattle.repo_run.specs.Status.{HasStatus, done, memory_wanted, out_failed, sink_failed, source_failed}
use Rattle.repo_run.specs.Surroundings.{Connection, DeskState, FirstOnly, Served, View, connection, desk_state, outside_of, placed, served}

-- the law on the worked replay
abbrev pub WorkedReplay : Type 0 → Type 0
WorkedReplay tells = (settings : Settings) (old new : View Served) (moments : Moments) (ending : End) (calls : ℕ) → IsReplayed tells (worked_settings settings) old new ending calls
    → IsFresh old.records new.records old.place.resources.blobs → AllTold tells old.clock old.place.connection moments (put_abc ++ last_get) []
    → NoFaults (outside_of old.place) (outside_of new.place)
    → ((new.place.connection.taken ≡ Some (created_201 ++ abc_200)) × (ending ≡ Closed)) ⊎ WantedMemory [] new.place.connection.taken

-- a connection that has taken the worked answers, or the last that it took says that memory ran out
abbrev pub HasTaken : Connection → Type 0
HasTaken new = (new.taken ≡ Some (created_201 ++ abc_200)) ⊎ WantedMemory [] new.taken

taken-so : (new : Connection) (ending : End) → ((new.taken ≡ Some (created_201 ++ abc_200)) × (ending ≡ Closed)) ⊎ WantedMemory [] new.taken → HasTaken new
taken-so new ending (inl answers) = inl answers.0
taken-so new ending (inr wanted) = inr wanted

-- where no repository was opened the status is not 0
unopened : (fault : StartFault) (out out' : Output) (status : ℕ) → status ≡ 0 → RefusesStart fault out out' status → ⊥
unopened start.NoMemory out out' status zero refuses = omega (arith, zero, refuses.1)
unopened start.Store out out' status zero refuses = omega (arith, zero, refuses.1)
unopened start.NotOurs out out' status zero refuses = omega (arith, zero, refuses.1)
unopened (start.Row frame at) out out' status zero (inl refuses) = omega (arith, zero, refuses.1)
unopened (start.Row frame at) out out' status zero (inr refuses) = omega (arith, zero, refuses.1)
unopened (start.Damaged damage) out out' status zero (inl refuses) = omega (arith, zero, refuses.1)
unopened (start.Damaged damage) out out' status zero (inr refuses) = omega (arith, zero, refuses.1)

-- nor where the settings were not read
unread : (source source' : File) (out out' : Output) (status : ℕ) → status ≡ 0 → Reads source source' out out' (Err status) → ⊥
unread source source' out out' status zero (inl failed) = omega (arith, zero, failed.2)
unread source source' out out' status zero (inr (_, _, _, inl (_, _, _, three))) = omega (arith, zero, three)
unread source source' out out' status zero (inr (_, _, _, inr starved)) = omega (arith, zero, starved.1)

-- the one connection that is left is the one that comes
one-left : {X : Type 0} (link first : X) (left : Option (List X)) → Some (link ∷ []) ≡ in_front (first ∷ []) left → first ≡ link
one-left link first None is = absurd (cc)
one-left link first (Some rest) is = cc

still : (before after : ℕ) → before ≡ 0 → after ≡ before → StoodStill before after
still before after none same = (same, omega (arith, none, same))

-- both sides of a connection stood still where the status is 0
sides-still : (old new : Connection) (out out' : Output) (status : ℕ) → status ≡ 0 → HasStatus (counts old out) (counts new out') status
    → (new.read_faults ≡ old.read_faults) × (new.write_faults ≡ old.write_faults)
sides-still old new out out' status zero (done same is) = (ap (λ c. c.source) same, ap (λ c. c.sink) same)
sides-still old new out out' status zero (source_failed _ _ six) = absurd (omega (arith, zero, six))
sides-still old new out out' status zero (sink_failed _ _ _ seven) = absurd (omega (arith, zero, seven))
sides-still old new out out' status zero (out_failed _ _ _ seven) = absurd (omega (arith, zero, seven))
sides-still old new out out' status zero (memory_wanted _ _ eight) = absurd (omega (arith, zero, eight))

-- a desk over nothing with one connection, which gives the worked requests
pub record IsWorked {X : Type 0} (links : Telling X) (link : X) (desk : DeskState X) : Type 0 where
  pub left : desk.left ≡ Some (link ∷ [])
  pub given_back : desk.given_back ≡ Some []
  pub no_blobs : desk.resources.blobs.shelf.blobs ≡ Some []
  pub unfailed : desk.resources.blobs.faults ≡ 0
  pub input : links.left link ≡ Some (put_abc ++ last_get)
  pub none_taken : links.taken link ≡ Some []
  pub reads : links.read_faults link ≡ 0
  pub writes : links.write_faults link ≡ 0

-- one came back, which has taken the worked answers if the blobs did not fail
abbrev pub CameBack : {X : Type 0} → Telling X → DeskState X → Type 0
CameBack {X} links desk' = (link' : X) × (desk'.given_back ≡ Some (link' ∷ [])) × (desk'.resources.blobs.faults ≡ 0 → HasTaken (connection links link'))

module _ {X : Type 0} (tells : Type 0) (links : Telling X) (link : X) (moments : Moments) (old new : View (DeskState X)) (status : ℕ)
    (worked : WorkedReplay tells) (told : tells) (is_worked : IsWorked links link old.place)
    (tables : old.records.tables ≡ Some no_tables) (unfailed : old.records.faults ≡ 0) (stood : new.records.faults ≡ 0)
    (clock : old.clock ≡ Some moments) (zero : status ≡ 0) where
  module _ (t : Settings) (first link' : X) (left : Option (List X)) (resources : DeskResources) (ending : End) (calls : ℕ)
      (comes : old.place.left ≡ in_front (first ∷ []) left)
      (after : new.place ≡ record old.place { left = left; given_back = behind old.place.given_back (link' ∷ []); resources = resources })
      (replayed : IsReplayed tells (worked_settings t) (placed (served (connection links first) old.place.resources) old) (placed (served (connection links link') resources) new) ending calls)
      (has : HasStatus (counts (connection links first) old.out) (counts (connection links link') new.out) status) where
    came : first ≡ link
    came = one-left link first left (sym is_worked.left ∙ comes)

    back : new.place.given_back ≡ Some (link' ∷ [])
    back = ap (λ d. d.given_back) after ∙ ap (λ g. behind g (link' ∷ [])) is_worked.given_back

    fresh : IsFresh old.records new.records old.place.resources.blobs
    fresh = record { no_tables = tables; unfailed = unfailed; stood = stood; no_blobs = is_worked.no_blobs }

    all_told : AllTold tells old.clock (connection links first) moments (put_abc ++ last_get) []
    all_told = record {
      blobs_tell = told;
      clock_is = clock;
      left_is = ap (λ l. links.left l) came ∙ is_worked.input;
      taken_is = ap (λ l. links.taken l) came ∙ is_worked.none_taken;
    }

    calm : new.place.resources.blobs.faults ≡ 0 → NoFaults (outside_of (served (connection links first) old.place.resources)) (outside_of (served (connection links link') resources))
    calm none_failed =
        let sides = sides-still (connection links first) (connection links link') old.out new.out status zero has in
        record {
          reads = still (links.read_faults first) (links.read_faults link') (ap (λ l. links.read_faults l) came ∙ is_worked.reads) sides.0;
          writes = still (links.write_faults first) (links.write_faults link') (ap (λ l. links.write_faults l) came ∙ is_worked.writes) sides.1;
          blobs = still old.place.resources.blobs.faults resources.blobs.faults is_worked.unfailed (sym (ap (λ d. d.resources.blobs.faults) after) ∙ none_failed ∙ sym is_worked.unfailed);
        }

    by-one : CameBack links new.place
    by-one = (
      link',
      back,
      λ none_failed. taken-so (connection links link') ending
          (worked t (placed (served (connection links first) old.place.resources) old) (placed (served (connection links link') resources) new) moments ending calls replayed fresh all_told (calm none_failed)),
    )

  by-settings : (settings t : Settings) → settings ≡ worked_settings t → Replays tells links settings old new status → CameBack links new.place
  by-settings settings t is (not_started fault blobs _ _ _ refuses) = absurd (unopened fault old.out new.out status zero refuses)
  by-settings settings t is (port_failed _ _ _ _ _ _ _ _ _ six) = absurd (omega (arith, zero, six))
  by-settings settings t is (none_left _ _ _ at_end _ _ _ _) = absurd (let none : (link ∷ []) ≡ [] = subst (λ told. IsAtEnd told) is_worked.left at_end in cc)
  by-settings settings t is (one_served first link' left resources ending calls comes after replayed _ has) =
      by-one t first link' left resources ending calls comes after
      (subst (λ s. IsReplayed tells s (placed (served (connection links first) old.place.resources) old) (placed (served (connection links link') resources) new) ending calls) is replayed) has

  worked-run : ((s : Settings) → IsReadFrom old.source.left (Ok s) → (t : Settings) × (s ≡ worked_settings t)) → ReplaysBy tells links old new status → CameBack links new.place
  worked-run says (refused reads _ _ _) = absurd (unread old.source new.source old.out new.out status zero reads)
  worked-run says (accepted settings reads serves) =
      let named = says settings reads.1 in by-settings settings named.0 named.1 serves

-- the same of desks, which tell what they have given back
module _ {L P D : Type 0} (looks : Looks L P D) (given : D → List L) (faults : D → ℕ) (taken : L → List ℕ)
    (given_are : (d : D) → looks.given_back (looks.port d) ≡ Some (given d)) (faults_are : (d : D) → (looks.resources d).blobs.faults ≡ faults d)
    (taken_are : (x : L) → looks.link.taken x ≡ Some (taken x)) where
  abbrev pub Answered : L → Type 0
  Answered back = (taken back ≡ created_201 ++ abc_200) ⊎ WantedMemory [] (Some (taken back))

  answered : (back : L) → HasTaken (connection looks.link back) → Answered back
  answered came (inl is) = let both : Some (taken came) ≡ Some (created_201 ++ abc_200) = sym (taken_are came) ∙ is in inl cc
  answered came (inr wanted) = inr (subst (λ o. WantedMemory [] o) (taken_are came) wanted)

  one-came : (d : D) → CameBack looks.link (desk_state looks d)
      → (length (given d) ≡ 1) × (faults d ≡ 0 → AllByRecursion Answered (given d))
  one-came d (came, is, so) =
      let both : Some (given d) ≡ Some (came ∷ []) = sym (given_are d) ∙ is in
      let one : given d ≡ came ∷ [] = cc in
      (ap (λ l. length l) one, λ none. subst (λ l. AllByRecursion Answered l) (sym one) (answered came (so (faults_are d ∙ none)), tt))

  list-came : (link : L) (moments : Moments) (old new : View (RunResources (List D))) (status : ℕ) → WorkedReplay looks.tells → looks.tells
      → old.records.tables ≡ Some no_tables → old.records.faults ≡ 0 → new.records.faults ≡ 0 → old.clock ≡ Some moments → status ≡ 0
      → ((s : Settings) → IsReadFrom old.source.left (Ok s) → (t : Settings) × (s ≡ worked_settings t))
      → (desk : D) → IsWorked looks.link link (desk_state looks desk) → (command : Action) → command ≡ Replay
      → (news : List D) → FirstOnly (λ one other. Acts looks command (at_desk one old) (at_desk other new) status) (desk ∷ []) news
      → (map (λ d. length (given d)) news ≡ 1 ∷ []) × AllByRecursion (λ d. faults d ≡ 0 → AllByRecursion Answered (given d)) news
  list-came link moments old new status worked told tables unfailed stood clock zero says desk is_worked command is [] only = absurd only
  list-came link moments old new status worked told tables unfailed stood clock zero says desk is_worked command is (d ∷ news) (runs, none) =
      let replays = subst (λ (a : Action). Acts looks a (at_desk desk old) (at_desk d new) status) is runs in
      let came = one-came d (worked-run looks.tells looks.link link moments (placed (desk_state looks desk) old) (placed (desk_state looks d) new) status worked told is_worked
      tables unfailed stood clock zero says replays.0) in
      let nil : news ≡ [] = none in
      rw nil (ap (λ n. n ∷ []) came.0, (came.1, tt))

  pub desks-came : (link : L) (moments : Moments) (old new : View (RunResources (List D))) (status : ℕ) → WorkedReplay looks.tells → looks.tells
      → old.records.tables ≡ Some no_tables → old.records.faults ≡ 0 → new.records.faults ≡ 0 → old.clock ≡ Some moments → status ≡ 0
      → ((s : Settings) → IsReadFrom old.source.left (Ok s) → (t : Settings) × (s ≡ worked_settings t))
      → (desk : D) → IsWorked looks.link link (desk_state looks desk) → (command : Action) → command ≡ Replay → old.place.desks ≡ desk ∷ []
      → Runs looks command old new status
      → (map (λ d. length (given d)) new.place.desks ≡ 1 ∷ []) × AllByRecursion (λ d. faults d ≡ 0 → AllByRecursion Answered (given d)) new.place.desks
  desks-came link moments old new status worked told tables unfailed stood clock zero says desk is_worked command is one runs =
      list-came link moments old new status worked told tables unfailed stood clock zero says desk is_worked command is new.place.desks
      (subst (λ (ds : List D). FirstOnly (λ first other. Acts looks command (at_desk first old) (at_desk other new) status) ds new.place.desks) one runs)
