-- Each turn of a stream ends as is due, and its entries are caused.
use Rattle.std.proofs.Common.{◌≡◌, inl, inr, ℕ, zero, suc, ◌==◌, Bool, List, [], ◌∷◌, ◌++◌, Option, Some, None, Result, Ok, Err, refl, sym, subst, ap, ◌∙◌, append_assoc, append-nil}
use Rattle.std.specs.List.{AllByRecursion}
use Rattle.repo_model.specs.History.{Entry, Legal}
use Rattle.repo_model.specs.Settings.{Settings}
use Rattle.repo_model.specs.State.{State}
use Rattle.repo_routes.specs.Intent.{Judged}
use Rattle.repo_routes.specs.Judge.{judge}
use Rattle.repo_routes.specs.declared.judging.Refused.{Refused}
use Rattle.repo_course.specs.Course.{Course}
use Rattle.repo_course.specs.Serving.{Opens, clean, served, Outside, ServesStream, RequestTurn}
use Rattle.repo_course.specs.declared.outcomes.End.{End}
use Rattle.course_laws.specs.Duties.{Duty, Fulfils, duty_of}
use Rattle.course_laws.proofs.Counts.{opens-grew}
use Rattle.course_laws.proofs.Kept.{duty_at, opens-keeps}
use Rattle.closed_laws.specs.Streams.{AreTurns, Seen}
use Rattle.answer_laws.specs.Why.{AllAnsweredByCause, AllCaused, IsAnsweredByCause, entries_in, owed}
use Rattle.answer_laws.specs.Marked.{Mark, entries_of, own_of}
use Rattle.answer_laws.proofs.Given.{AllAskWith, FitsOne, follows-ask}
use Rattle.answer_laws.proofs.Placed.{all-caused, own-fit}
use Rattle.answer_laws.proofs.Walked.{walked}
use Rattle.repo_laws.proofs.HoldingLists.{all-split}

module _ (settings : Settings) where
  owed-is : (last : Bool) (old mid : Outside) (c : Course) (o : Opens settings last old mid c) → duty_at o ≡ owed settings o
  owed-is last old mid c (clean begins still is) = refl
  owed-is last old mid c _ = refl

  keeps : (last : Bool) (old mid : Outside) (c : Course) (o : Opens settings last old mid c) → Fulfils (owed settings o) c
  keeps last old mid c o = subst (λ (duty : Duty). Fulfils duty c) (owed-is last old mid c o) (opens-keeps settings last old mid c o)

  none-first : (last : Bool) (judged : Result Judged Refused) → (duty_of judged last).stand.draft ≡ None
  none-first last (Ok request) = refl
  none-first last (Err cause) = refl

  none-held : (last : Bool) (old mid : Outside) (c : Course) (o : Opens settings last old mid c) → (owed settings o).stand.draft ≡ None
  none-held last old mid c (served head rest begins uses is) = none-first last (judge settings head)
  none-held last old mid c _ = refl

  module _ (tells : Type 0) where
    turn-ends : (last : Bool) (entries : List Entry) (old new : Outside) (stop : Option End) → RequestTurn settings tells last entries old new stop
        → IsAnsweredByCause settings tells last entries old new stop
    turn-ends last entries old new stop t =
        let duty = owed settings t.2 in
        record {
          course = t.0;
          mid = t.1;
          opens = t.2;
          walked = walked tells duty t.0 duty.most duty.stand (keeps last old t.1 t.0 t.2) entries old t.1 new stop (opens-grew settings last old t.1 t.0 t.2) t.3;
        }

    module _ (start : State) (history : List Mark) (legal : Legal settings start (entries_of history)) where
      turn-asks : (last : Bool) (entries : List Entry) (old new : Outside) (stop : Option End) → AllByRecursion (FitsOne settings) entries
          → RequestTurn settings tells last entries old new stop → AllAskWith [] entries
      turn-asks last entries old new stop fit t =
          let duty = owed settings t.2 in
          follows-ask settings tells duty.by_text duty.mode t.0 duty.most duty.stand (keeps last old t.1 t.0 t.2) [] entries fit
          (λ n is. absurd (let no : duty.stand.draft ≡ None = none-held last old t.1 t.0 t.2 in cc)) t.1 new stop t.3

      pub record IsAnswered (n : ℕ) (past entries rest : List Entry) (old new : Outside) (ending : End) : Type 0 where
        pub turns : List Seen
        pub are : AreTurns settings tells n turns entries old new ending
        pub made : entries ≡ entries_in turns
        pub answered : AllAnsweredByCause settings tells start history past rest old turns

      pub turn-first : (last : Bool) (past entries rest : List Entry) (old new : Outside) (stop : Option End) → own_of history ≡ past ++ (entries ++ rest)
          → RequestTurn settings tells last entries old new stop
          → IsAnsweredByCause settings tells last entries old new stop × AllCaused settings tells start history past [] entries rest
      turn-first last past entries rest old new stop own t =
          let fit = (all-split (FitsOne settings) entries rest (all-split (FitsOne settings) past (entries ++ rest)
          (subst (AllByRecursion (FitsOne settings)) own (own-fit settings history start legal))).1).0 in (
            turn-ends last entries old new stop t,
            all-caused settings start history legal tells past [] entries rest
                (own ∙ ap (λ (l : List Entry). l ++ (entries ++ rest)) (sym (append-nil past))) (turn-asks last entries old new stop fit t),
          )

      pub stream-answered : (n : ℕ) (past entries rest : List Entry) (old new : Outside) (ending : End) → own_of history ≡ past ++ (entries ++ rest)
          → ServesStream settings tells n entries old new ending → IsAnswered n past entries rest old new ending
      unfolding ServesStream AreTurns
      stream-answered zero past entries rest old new ending own serves =
          record { turns = []; are = (serves.0, serves.1, serves.2); made = serves.0; answered = tt }
      stream-answered (suc left) past entries rest old new ending own (inl turned) =
          let turn : Seen = record { last = left == 0; entries = entries; new = new; stop = Some ending } in
          let first = turn-first (left == 0) past entries rest old new (Some ending) own turned in
          record {
            turns = turn ∷ [];
            are = (refl, turned, inl (refl, refl, refl, refl));
            made = sym (append-nil entries);
            answered = (first.0, first.1, tt);
          }
      stream-answered (suc left) past entries rest old new ending own (inr (first, more, mid, parts, turned, serves)) =
          let turn : Seen = record { last = left == 0; entries = first; new = mid; stop = None } in
          let whole : own_of history ≡ past ++ (first ++ (more ++ rest)) =
          own ∙ ap (λ (l : List Entry). past ++ (l ++ rest)) parts ∙ ap (λ (l : List Entry). past ++ l) (append_assoc first more rest) in
          let next = stream-answered left (past ++ first) more rest mid new ending (whole ∙ sym (append_assoc past first (more ++ rest))) serves in
          let here = turn-first (left == 0) past first (entries_in next.turns ++ rest) old mid None
          (whole ∙ ap (λ (l : List Entry). past ++ (first ++ (l ++ rest))) next.made) turned in
          record {
            turns = turn ∷ next.turns;
            are = (refl, turned, inr (more, parts, refl, next.are));
            made = parts ∙ ap (λ (l : List Entry). first ++ l) next.made;
            answered = (here.0, here.1, next.answered);
          }
