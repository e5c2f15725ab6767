-- Passes one after another.
use Rattle.std.proofs.Common.{◌≡◌, ℕ, Bool, true, false, Some, None, IfSome, List, [], ◌∷◌, ◌++◌, length, Option, Result, refl, sym, subst, ap, ◌∙◌, append-nil}
use Rattle.std.specs.Option.{option_map}
use Rattle.std.proofs.lemmas.Grind.{flat_map-append}
use Rattle.outside_pace.specs.Pauses.{Pauses, first_answer, paused}
use Rattle.repo_model.specs.History.{Entry}
use Rattle.repo_model.specs.Settings.{Settings}
use Rattle.repo_course.specs.declared.outcomes.CleanFault.{CleanFault}
use Rattle.repo_course.specs.declared.outcomes.Cleaned.{Cleaned}
use Rattle.repo_course.specs.Cleaning.{PassesAll, Store}
use Rattle.run_desks.specs.Seen.{CleanerResources}
use Rattle.turn_lock.specs.declared.turns.Turns.{Turns}
use Rattle.turn_lock.specs.declared.seat.SeatToken.{SeatToken as Seat}
use Rattle.turn_lock.specs.Seats.{IsSeatOf}
use Rattle.seat_server.specs.Gained.{Gained}
use Rattle.seat_server.proofs.Gains.{gained_none, gained_then}
use Rattle.seat_server.specs.Rules.{Rules}
use Rattle.seat_server.specs.Passages.{Passage, PassesThrough, entries_in, Answers, AnswersTrue, KeptClean}

-- the passes so far, and the pauses before them
pub record SoFar {T C R : Type 0} (rules : Rules T C R) (settings : Settings) (turns : Turns T C R) (old new : Seat C R T) (before after : CleanerResources) : Type 0 where
  pub passages : List Passage
  pub passes : PassesThrough settings before.blobs passages after.blobs
  pub gained : Gained rules.sight rules.steps turns old (entries_in passages) new
  pub paced : AnswersTrue settings.clean (length passages) before.pauses after.pauses

through_more : (settings : Settings) (before mid : Store) (ps : List Passage) (p : Passage) → PassesThrough settings before ps mid → PassesAll settings p.entries mid p.left p.result
    → PassesThrough settings before (ps ++ p ∷ []) p.left
through_more settings before mid [] p so pass = (subst (λ (s : Store). PassesAll settings p.entries s p.left p.result) so pass, refl)
through_more settings before mid (q ∷ qs) p so pass = (so.0, through_more settings q.left mid qs p so.1 pass)

true_more : (seconds : ℕ) (ps : List Passage) (p : Passage) (old mid : Option Pauses) → AnswersTrue seconds (length ps) old mid → Answers true mid
    → AnswersTrue seconds (length (ps ++ p ∷ [])) old (option_map (paused seconds) mid)
true_more seconds [] p old mid so answer = (subst (Answers true) so answer, ap (option_map (paused seconds)) so)
true_more seconds (q ∷ qs) p old mid so answer = (so.0, true_more seconds qs p (option_map (paused seconds) old) mid so.1 answer)

module _ {T C R : Type 0} (rules : Rules T C R) (settings : Settings) (turns : Turns T C R) where
  pub so_far_none : (seat : Seat C R T) (cleaner : CleanerResources) → IsSeatOf rules.steps turns seat → SoFar rules settings turns seat seat cleaner cleaner
  so_far_none seat cleaner is = record { passages = []; passes = refl; gained = gained_none rules.sight rules.steps turns seat is; paced = refl }

  pub so_far_more : (a b c : Seat C R T) (before mid after : CleanerResources) (entries : List Entry) (result : Result Cleaned CleanFault)
      → SoFar rules settings turns a b before mid → Answers true mid.pauses → after.pauses ≡ option_map (paused settings.clean) mid.pauses
      → PassesAll settings entries mid.blobs after.blobs result → Gained rules.sight rules.steps turns b entries c → SoFar rules settings turns a c before after
  so_far_more a b c before mid after entries result one answer is pass gained =
      let p : Passage = record { entries = entries; result = result; left = after.blobs } in
      let all : entries_in (one.passages ++ p ∷ []) ≡ entries_in one.passages ++ entries =
      flat_map-append (λ (q : Passage). q.entries) one.passages (p ∷ []) ∙ ap (λ l. entries_in one.passages ++ l) (append-nil entries) in
      record {
        passages = one.passages ++ p ∷ [];
        passes = through_more settings before.blobs mid.blobs one.passages p one.passes pass;
        gained = subst (λ (es : List Entry). Gained rules.sight rules.steps turns a es c) (sym all)
            (gained_then rules.sight rules.steps turns a b c (entries_in one.passages) entries one.gained gained);
        paced = subst (AnswersTrue settings.clean (length (one.passages ++ p ∷ [])) before.pauses) (sym is) (true_more settings.clean one.passages p before.pauses mid.pauses one.paced answer);
      }

  pub so_far_ends : (a b : Seat C R T) (before mid after : CleanerResources) → SoFar rules settings turns a b before mid
      → Answers false mid.pauses → after.pauses ≡ option_map (paused settings.clean) mid.pauses → after.blobs ≡ mid.blobs → KeptClean rules settings turns a b before after
  so_far_ends a b before mid after one answer is same = record {
    passages = one.passages;
    passes = subst (λ (s : Store). PassesThrough settings before.blobs one.passages s) (sym same) one.passes;
    gained = one.gained;
    paced = (mid.pauses, one.paced, answer, is);
  }

-- what a timer answered is what it told
pub answered : (answer said : Bool) (told : Option Pauses) → IfSome told (λ p. said ≡ first_answer p.left) → said ≡ answer → Answers answer told
answered answer said None given is = tt
answered answer said (Some p) given is = sym given ∙ is
