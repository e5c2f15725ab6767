-- A course that does what it owes is followed by steps of its own, and ends as is due for the head or for just one of them.
use Rattle.std.proofs.Common.{◌≡◌, inl, inr, ℕ, zero, suc, List, [], ◌∷◌, ◌++◌, Option, Some, None, refl, sym, subst, ap, ◌∙◌}
use Rattle.std.proofs.lemmas.Option.{none-some}
use Rattle.repo_model.specs.Command.{Command, done}
use Rattle.repo_model.specs.History.{Entry}
use Rattle.repo_model.specs.Reply.{Reply}
use Rattle.repo_course.specs.Answers.{answer_of, memory_answer}
use Rattle.repo_course.specs.Course.{Close, Course, IoAction, Outcome, asks, does, says, stops, speaks, rests, end_of}
use Rattle.repo_course.specs.Serving.{Does, Follows, Outside, Says}
use Rattle.repo_course.specs.declared.mode.ResponseMode.{ResponseMode}
use Rattle.repo_course.specs.declared.outcomes.End.{End}
use Rattle.course_laws.specs.Duties.{Duty, Keeps, MayAsk, MayDo, Rounds, Stand, due_after, due_done, left_by, rounds_after, stand_after, stand_done}
use Rattle.course_laws.proofs.Counts.{NoneFell, action-grew, follows-grew, grew-then}
use Rattle.course_laws.proofs.Early.{nothing-due, Moves, due-moves}
use Rattle.answer_laws.specs.Steps.{Step, asked, did}
use Rattle.answer_laws.specs.Why.{IsWalked, Why, by_head, by_reply, by_io_action}

module _ (by_text : List ℕ → Option Close) where
  -- a reply that makes an end due answers a command that is asked before one is
  free-before : (command : Command) (reply : Reply) (s : Stand) (close : Close) → MayAsk command s → due_after s.rounds command reply None ≡ Some close → s.due ≡ None
  free-before (done lease) reply s close may is = (cc)
  free-before _ reply s close may is = (cc)

  abbrev Since : Type 0 → Rounds → Option Close → List Step → Outside → Outside → Close → Type 0
  Since tells r due steps old new close = Why tells by_text r due steps old new close

  module _ (tells : Type 0) where
    -- one step more before the others
    asked-first : (e : Entry) (s : Stand) (steps : List Step) (old new : Outside) (close : Close) → MayAsk e.command s
        → Since tells (rounds_after e.command s.rounds) (due_after s.rounds e.command e.reply s.due) steps old new close → Since tells s.rounds s.due (asked e ∷ steps) old new close
    asked-first e s steps old new close may why = pick (due-moves s.rounds e.command e.reply) why
      where
        pick : Moves (due_after s.rounds e.command e.reply) → Since tells (rounds_after e.command s.rounds) (due_after s.rounds e.command e.reply s.due) steps old new close
            → Since tells s.rounds s.due (asked e ∷ steps) old new close
        pick (inl stays) (by_head is quiet) = by_head (sym (stays s.due) ∙ is) (stays None, quiet)
        pick (inl stays) (by_reply before behind x parts free is quiet later) =
            by_reply (asked e ∷ before) behind x (ap (λ (l : List Step). asked e ∷ l) parts) (sym (stays s.due) ∙ free) is (stays None, quiet) later
        pick (inl stays) (by_io_action before behind io_action outcome mine from seen parts free does_so first rest is quiet later) =
            by_io_action (asked e ∷ before) behind io_action outcome mine from seen (ap (λ (l : List Step). asked e ∷ l) parts) (sym (stays s.due) ∙ free) does_so first rest is (stays None, quiet) later
        pick (inr (what, makes, told)) (by_head is quiet) =
            by_reply [] steps e refl (free-before e.command e.reply s (speaks what) may (makes None)) (makes None ∙ sym (makes s.due) ∙ is) tt quiet
        pick (inr (what, makes, told)) (by_reply before behind x parts free is quiet later) = absurd (none-some (speaks what) (sym free ∙ makes s.due))
        pick (inr (what, makes, told)) (by_io_action before behind io_action outcome mine from seen parts free does_so first rest is quiet later) =
            absurd (none-some (speaks what) (sym free ∙ makes s.due))

    did-first : (io_action : IoAction) (outcome : Outcome io_action) (mine : List Entry) (r : Rounds) (due : Option Close) (steps : List Step) (first old seen new : Outside) (close : Close) → due ≡ None
        → Does tells io_action outcome mine old seen → NoneFell first old → NoneFell seen new
        → Since tells r (due_done by_text io_action outcome due) steps first new close → Since tells r due (did io_action outcome mine seen ∷ steps) first new close
    did-first io_action outcome mine r due steps first old seen new close none does_so grew more (by_head is quiet) =
        by_io_action [] steps io_action outcome mine old seen refl none does_so grew more (ap (due_done by_text io_action outcome) (sym none) ∙ is) tt quiet
    did-first io_action outcome mine r due steps first old seen new close none does_so grew more (by_reply before behind x parts free is quiet later) =
        by_reply (did io_action outcome mine seen ∷ before) behind x (ap (λ (l : List Step). did io_action outcome mine seen ∷ l) parts) none is
        (ap (due_done by_text io_action outcome) (sym none) ∙ free, quiet) later
    did-first io_action outcome mine r due steps first old seen new close none does_so grew more (by_io_action before behind other came its from then parts free did_so since rest is quiet later) =
        by_io_action (did io_action outcome mine seen ∷ before) behind other came its from then (ap (λ (l : List Step). did io_action outcome mine seen ∷ l) parts) none did_so
        since rest is (ap (due_done by_text io_action outcome) (sym none) ∙ free, quiet) later

module _ (tells : Type 0) (duty : Duty) where
  abbrev Walked : Course → Stand → List Entry → Outside → Outside → Outside → Option End → Type 0
  Walked c s entries first old new stop = IsWalked tells duty c s entries first old new stop

  walked-asks : (e : Entry) (next : Reply → Course) (s : Stand) (es : List Entry) (first old new : Outside) (stop : Option End) → MayAsk e.command s
      → Walked (next e.reply) (stand_after e.command e.reply s) es first old new stop → Walked (asks e.command next) s (e ∷ es) first old new stop
  walked-asks e next s es first old new stop may rest = record {
    steps = asked e ∷ rest.steps;
    finish = rest.finish;
    stand = rest.stand;
    to = rest.to;
    leads = (next, refl, may, rest.leads);
    entries_are = ap (λ (l : List Entry). e ∷ l) rest.entries_are;
    holds = rest.holds;
    close = rest.close;
    due = rest.due;
    why = asked-first duty.by_text tells e s rest.steps first new rest.close may rest.why;
    ends = rest.ends;
  }

  walked-does : (io_action : IoAction) (next : Outcome io_action → Course) (outcome : Outcome io_action) (mine later : List Entry) (s : Stand) (first old seen new : Outside) (stop : Option End)
      → MayDo duty.mode io_action s → Does tells io_action outcome mine old seen → NoneFell first old → NoneFell seen new
      → Walked (next outcome) (stand_done duty.by_text io_action outcome s) later first seen new stop → Walked (does io_action next) s (mine ++ later) first old new stop
  walked-does io_action next outcome mine later s first old seen new stop may does_so grew more rest = record {
    steps = did io_action outcome mine seen ∷ rest.steps;
    finish = rest.finish;
    stand = rest.stand;
    to = rest.to;
    leads = (next, refl, may, does_so, rest.leads);
    entries_are = ap (λ (l : List Entry). mine ++ l) rest.entries_are;
    holds = rest.holds;
    close = rest.close;
    due = rest.due;
    why = did-first duty.by_text tells io_action outcome mine s.rounds s.due rest.steps first old seen new rest.close (nothing-due duty.mode io_action s may) does_so grew more rest.why;
    ends = rest.ends;
  }

  pub walked : (c : Course) (n : ℕ) (s : Stand) → Keeps duty.by_text duty.mode c n s → (entries : List Entry) (first old new : Outside) (stop : Option End)
      → NoneFell first old → Follows tells c entries old new stop → Walked c s entries first old new stop
  walked (asks command next) zero s k [] first old new stop grew f = absurd f
  walked (asks command next) zero s k (e ∷ es) first old new stop grew f = absurd k
  walked (asks command next) (suc n) s k [] first old new stop grew f = absurd f
  walked (asks command next) (suc n) s k (e ∷ es) first old new stop grew f =
      let rest = walked (next e.reply) n (stand_after command e.reply s) (k.1 e.reply) es first old new stop grew f.1 in
      subst (λ (c : Command). Walked (asks c next) s (e ∷ es) first old new stop) f.0
      (walked-asks e next s es first old new stop (subst (λ (c : Command). MayAsk c s) (sym f.0) k.0)
      (subst (λ (c : Command). Walked (next e.reply) (stand_after c e.reply s) es first old new stop) (sym f.0) rest))
  walked (does io_action next) n s k entries first old new stop grew f =
      let rest = walked (next f.0) (left_by io_action n) (stand_done duty.by_text io_action f.0 s) (k.2 f.0) f.2 first f.3 new stop
      (grew-then first old f.3 grew (action-grew tells io_action f.0 f.1 old f.3 f.5)) f.6 in
      subst (λ (es : List Entry). Walked (does io_action next) s es first old new stop) (sym f.4)
      (walked-does io_action next f.0 f.1 f.2 s first old f.3 new stop k.0 f.5 grew (follows-grew tells (next f.0) f.2 f.3 new stop f.6) rest)
  walked (says what own) n s k entries first old new stop grew f = record {
    steps = [];
    finish = says what own;
    stand = s;
    to = old;
    leads = (refl, refl, refl);
    entries_are = f.0;
    holds = k.0;
    close = speaks what;
    due = k.1;
    why = by_head k.1 tt;
    ends = subst (λ (m : ResponseMode). (says what own ≡ says what m) × Says (answer_of what m) (memory_answer m.head_only) (end_of m) old new stop) k.2 (refl, f.1);
  }
  walked (stops next) n s k entries first old new stop grew f = record {
    steps = [];
    finish = stops next;
    stand = s;
    to = old;
    leads = (refl, refl, refl);
    entries_are = f.0;
    holds = k.0;
    close = rests next;
    due = k.1;
    why = by_head k.1 tt;
    ends = (refl, f.1, f.2, k.2);
  }
