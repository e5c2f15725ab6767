-- What comes of work, as what comes of a server; and a first desk with other blobs.
use Rattle.std.proofs.Common.{◌≡◌, ℕ, ◌<◌, Bool, true, false, List, [], ◌∷◌, Ok, length, get_or, set, refl, subst, ap, ◌∙◌, arith}
use Rattle.std.specs.Prelude.{MatchBool, IsFalse}
use Rattle.repo_model.specs.Settings.{Settings}
use Rattle.repo_core.specs.Whole.{Whole}
use Rattle.run_lines.specs.Lines.{memory_line}
use Rattle.run_lines.specs.Printing.{Output, Prints}
use Rattle.run_lines.specs.Reading.{Reads}
use Rattle.repo_run.specs.Begun.{HoldsRecords}
use Rattle.repo_run.specs.Surroundings.{FirstOnly, View}
use Rattle.turn_lock.specs.declared.view.Entry.{Entry as Call}
use Rattle.turn_lock.specs.declared.turns.Turns.{Turns}
use Rattle.turn_lock.specs.declared.seat.SeatToken.{SeatToken as Seat}
use Rattle.turn_lock.specs.History.{end_of}
use Rattle.turn_lock.specs.Seats.{opening, Closes}
use Rattle.run_desks.specs.Seen.{RunResources, Looks}
use Rattle.seat_server.specs.Rules.{Rules}
use Rattle.desk_work.specs.Working.{Works}
use Rattle.run_serve.specs.Calls.{TellsWork}
use Rattle.run_serve.specs.Serving.{Opens, Serves, ServesBy, ServesWith, read, refused, worked}

module _ {L P D C R : Type 0} (looks : Looks L P D) (rules : Rules Whole C R) (settings : Settings) (core : Whole) (old : RunResources (List D)) (out : Output) (new : View (RunResources (List D))) (status : ℕ)
    (turns : Turns Whole C R) (seat : Seat C R Whole) (left : Whole) (calls : ℕ) (failed : Bool) (opens : Opens core turns seat)
    (holds : HoldsRecords left new.records) (clock_is : new.clock ≡ left.state.clock) where
  pub served : (none : Bool)
      → (none ≡ true → (new.place ≡ old) × IsFalse failed × Closes rules.steps turns seat left calls)
      → (none ≡ false → Works looks rules settings turns seat old new.place left calls failed)
      → MatchBool none (Prints memory_line out new.out × (status ≡ 8)) (TellsWork failed calls out new.out status)
      → ServesWith looks rules settings core old out new status
  served true was done tells_so =
      let b = was refl in
      let same : left ≡ core = b.2.end ∙ ap (λ (log : List (Call C R Whole)). end_of (opening turns) log) opens.1 ∙ opens.0 in
      refused b.0 (subst (λ (w : Whole). HoldsRecords w new.records) same holds) (clock_is ∙ ap (λ (w : Whole). w.state.clock) same) tells_so.0 tells_so.1
  served false was done tells_so = worked turns seat left calls failed opens (done refl) holds clock_is tells_so

pub first_set : {D : Type 0} (desks : List D) (old new : D) (Related : D → D → Type 0) → 0 < length desks → old ≡ get_or desks 0 old → Related old new
    → FirstOnly Related desks (set desks 0 new)
first_set [] old new Related some is related = absurd (omega arith)
first_set (desk ∷ desks) old new Related some is related = (subst (λ d. Related d new) is related, refl)

-- settings that were read, and nothing printed
pub serves-read : {L P D C R : Type 0} (looks : Looks L P D) (rules : Rules Whole C R) (settings : Settings) (old new : View (RunResources (List D))) (status : ℕ) (mid : Output)
    → Reads old.source new.source old.out mid (Ok settings) → ServesBy looks rules settings (record old { out = mid }) new status → Serves looks rules old new status
serves-read looks rules settings old new status mid reads serves =
    read settings (reads.0, reads.1, refl) (subst (λ (o : Output). ServesBy looks rules settings (record old { out = o }) new status) reads.2 serves)
