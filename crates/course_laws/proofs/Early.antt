-- What a course comes to where no blob failed, beside what was played.
use Rattle.std.proofs.Common.{◌≡◌, ◌⊎◌, ℕ, zero, suc, Bool, true, false, inl, inr, List, [], ◌∷◌, ◌++◌, Option, Some, None, IsTrue, refl, sym, subst, ap, ◌∙◌, append_assoc, append-nil}
use Rattle.std.specs.Prelude.{IsSome}
use Rattle.std.proofs.lemmas.Option.{none-some}
use Rattle.outside.specs.Faults.{Rose}
use Rattle.outside.specs.Told.{behind}
use Rattle.http_wire.specs.Answer.{shown}
use Rattle.http_wire.specs.declared.answers.Answer.{Answer}
use Rattle.repo_model.specs.Command.{Command, look, done, may_put, drop_draft, unlist, collect, land}
use Rattle.repo_model.specs.Data.{Blob}
use Rattle.repo_model.specs.History.{Entry}
use Rattle.repo_model.specs.Reply.{Reply, file, missed, draft, fetches, landed, no_memory, takes_memory}
use Rattle.repo_model.specs.Settings.{Settings}
use Rattle.repo_model.specs.State.{State}
use Rattle.repo_course.specs.Answers.{answer_of, memory_answer}
use Rattle.repo_course.specs.Course.{Close, Course, IoAction, asks, does, says, stops, speaks, rests, end_of, response_missed, response_of}
use Rattle.repo_course.specs.declared.fetched.Verdict.{Verdict}
use Rattle.repo_course.specs.declared.fetched.Verdict.TheVariants as verdict
use Rattle.repo_course.specs.declared.mode.ResponseMode.{ResponseMode}
use Rattle.repo_course.specs.declared.outcomes.End.{End}
use Rattle.repo_course.specs.declared.outcomes.End.TheVariants as stream
use Rattle.repo_course.specs.declared.response.Response.{Response}
use Rattle.repo_course.specs.declared.response.Response.TheVariants.{BlobDiffers, NoMemory}
use Rattle.repo_course.specs.Serving.{IsFrontOf, Follows, Outside, Says, whole, memory, cut, writes}
use Rattle.course_laws.specs.AsPlayed.{RowsTold}
use Rattle.course_laws.specs.Duties.{Keeps, MayAsk, MayDo, Rounds, Stand, due_after, due_planned, lent_after, mode_of, stand_after}
use Rattle.course_laws.specs.Granted.{file_by}
use Rattle.course_laws.specs.Faultless.{Played, Scene, due_entry, play, wrote}
use Rattle.course_laws.proofs.Fetched.{Fetched}
use Rattle.course_laws.proofs.Rising.{NoneFell, rose-before}

-- memory ran out, after what may stand there then, and that was answered or the sink failed in it; or the source or the sink failed
abbrev pub Ended : (So : Bool → List ℕ → Type 0) (head_only : Bool) (front part : List ℕ) → Outside → Outside → Option End → Type 0
Ended So head_only front part old new end =
    let said = shown (memory_answer head_only) in
    ((part ≡ said) × (end ≡ Some stream.Closed) × So head_only front)
    ⊎ ((part ≡ []) × ((end ≡ Some stream.SourceFault) × Rose old.read_faults new.read_faults))
    ⊎ (((part ≡ []) ⊎ (IsFrontOf part said × So head_only front)) × ((end ≡ Some stream.SinkFault) × Rose old.write_faults new.write_faults))

-- it is as played up to some place, where memory ran out, or the source or the sink failed
pub record Early (So : Bool → List ℕ → Type 0) (before written : List ℕ) (old new : Outside) (end : Option End) : Type 0 where
  pub front : List ℕ
  pub part : List ℕ
  pub head_only : Bool
  pub is_front : IsFrontOf front written
  pub output : new.output ≡ Some (before ++ front ++ part)
  pub why : Ended So head_only front part old new end

-- the outside shows its input and its output, and the machine tells
pub record Ready (o : Outside) (s : State) (input before : List ℕ) : Type 0 where
  pub input_is : o.input ≡ Some input
  pub output_is : o.output ≡ Some before
  pub rows : RowsTold s
  pub clock : IsSome s.clock

-- the scene is there
pub record Goes (spare : Fetched) (before : List ℕ) (p : Played (Option End)) (o : Outside) (s : State) : Type 0 where
  pub ready : Ready o s p.scene.input (before ++ p.written)
  pub state : s ≡ p.scene.state
  pub fetched : spare ≡ p.scene.fetched

pub record AsPlayed (spare : Fetched) (before : List ℕ) (p : Played (Option End)) (o : Outside) (s : State) (end : Option End) : Type 0 where
  pub output : o.output ≡ Some (before ++ p.written)
  pub ends : end ≡ p.end
  pub goes : end ≡ None → Goes spare before p o s

abbrev pub ComesTo : Fetched → (Bool → List ℕ → Type 0) → List ℕ → Played (Option End) → Outside → Outside → State → Option End → Type 0
ComesTo spare So before p old o s end = AsPlayed spare before p o s end ⊎ Early So before p.written old o end

-- by what may stand in front then
ended-so : (Then So : Bool → List ℕ → Type 0) (head_only : Bool) (front front' part : List ℕ) (old new : Outside) (end : Option End)
    → (Then head_only front → So head_only front') → Ended Then head_only front part old new end → Ended So head_only front' part old new end
ended-so Then So head_only front front' part old new end is (inl w) = inl (w.0, w.1, is w.2)
ended-so Then So head_only front front' part old new end is (inr (inl w)) = inr (inl w)
ended-so Then So head_only front front' part old new end is (inr (inr (inl none, w))) = inr (inr (inl none, w))
ended-so Then So head_only front front' part old new end is (inr (inr (inr begun, w))) = inr (inr (inr (begun.0, is begun.1), w))

-- after bytes written first
pub wrote-outcome : {spare : Fetched} (Then So : Bool → List ℕ → Type 0) (before first : List ℕ) (p : Played (Option End)) (old o : Outside) (s : State) (end : Option End)
    → ((alone : Bool) (front : List ℕ) → Then alone front → So alone (first ++ front)) → ComesTo spare Then (before ++ first) p old o s end → ComesTo spare So before (wrote first p) old o s end
wrote-outcome Then So before first p old o s end grows (inl a) =
    let joined = append_assoc before first p.written in
    inl record {
      output = subst (λ b. o.output ≡ Some b) joined a.output;
      ends = a.ends;
      goes = λ none. let g = a.goes none in record {
        ready = subst (λ b. Ready o s p.scene.input b) joined g.ready;
        state = g.state;
        fetched = g.fetched;
      };
    }
wrote-outcome Then So before first p old o s end grows (inr m) =
    inr record {
      front = first ++ m.front;
      part = m.part;
      head_only = m.head_only;
      is_front = (m.is_front.0, ap (λ b. first ++ b) m.is_front.1 ∙ sym (append_assoc first m.front m.is_front.0));
      output = subst (λ b. o.output ≡ Some (b ++ m.part)) (append_assoc before first m.front) m.output;
      why = ended-so Then So m.head_only m.front (first ++ m.front) m.part old o end (grows m.head_only m.front) m.why;
    }

-- by what may stand there from where it began
pub outcome-so : {spare : Fetched} (Then So : Bool → List ℕ → Type 0) (before : List ℕ) (p : Played (Option End)) (old o : Outside) (s : State) (end : Option End)
    → ((alone : Bool) (front : List ℕ) → Then alone front → So alone front) → ComesTo spare Then before p old o s end → ComesTo spare So before p old o s end
outcome-so Then So before p old o s end is (inl a) = inl a
outcome-so Then So before p old o s end is (inr m) =
    inr record {
      front = m.front;
      part = m.part;
      head_only = m.head_only;
      is_front = m.is_front;
      output = m.output;
      why = ended-so Then So m.head_only m.front m.front m.part old o end (is m.head_only m.front) m.why;
    }

-- seen from an earlier world
pub early-before : (So : Bool → List ℕ → Type 0) (before written : List ℕ) (old mid new : Outside) (end : Option End) → NoneFell old mid
    → Early So before written mid new end → Early So before written old new end
early-before So before written old mid new end g m = record {
  front = m.front;
  part = m.part;
  head_only = m.head_only;
  is_front = m.is_front;
  output = m.output;
  why = elim m.why [
    | inl w ↦ inl w
    | inr (inl s) ↦ inr (inl (s.0, (s.1.0, rose-before old.read_faults mid.read_faults new.read_faults g.reads s.1.1)))
    | inr (inr s) ↦ inr (inr (s.0, (s.1.0, rose-before old.write_faults mid.write_faults new.write_faults g.writes s.1.1)))
  ];
}

pub outcome-before : {spare : Fetched} (So : Bool → List ℕ → Type 0) (before : List ℕ) (p : Played (Option End)) (old mid new : Outside) (s : State) (end : Option End) → NoneFell old mid
    → ComesTo spare So before p mid new s end → ComesTo spare So before p old new s end
outcome-before So before p old mid new s end g (inl a) = inl a
outcome-before So before p old mid new s end g (inr m) = inr (early-before So before p.written old mid new end g m)

-- nothing of what was played came before
at-once : (So : Bool → List ℕ → Type 0) (head_only : Bool) (before written part : List ℕ) (old new : Outside) (end : Option End) → new.output ≡ Some (before ++ part)
    → Ended So head_only [] part old new end → Early So before written old new end
at-once So head_only before written part old new end out why = record {
  front = [];
  part = part;
  head_only = head_only;
  is_front = (written, refl);
  output = subst (λ b. new.output ≡ Some (b ++ part)) (sym (append-nil before)) out;
  why = why;
}

-- a front of what was played, and no more
pub no-more : (So : Bool → List ℕ → Type 0) (before written front : List ℕ) (old new : Outside) (end : Option End) → IsFrontOf front written
    → new.output ≡ Some (before ++ front) → Ended So false front [] old new end → Early So before written old new end
no-more So before written front old new end is-front out why = record {
  front = front;
  part = [];
  head_only = false;
  is_front = is-front;
  output = out ∙ ap Some (sym (append-nil (before ++ front)));
  why = why;
}

pub source-failed : (So : Bool → List ℕ → Type 0) (front : List ℕ) (old new : Outside) (end : Option End) → end ≡ Some stream.SourceFault
    → Rose old.read_faults new.read_faults → Ended So false front [] old new end
source-failed So front old new end ends rose = inr (inl (refl, (ends, rose)))

pub sink-failed : (So : Bool → List ℕ → Type 0) (front : List ℕ) (old new : Outside) (end : Option End) → end ≡ Some stream.SinkFault
    → Rose old.write_faults new.write_faults → Ended So false front [] old new end
sink-failed So front old new end ends rose = inr (inr (inl refl, (ends, rose)))

-- the answer was written, or the one that says out of memory, or a part of one
pub says-early : (So : Bool → List ℕ → Type 0) (answer : Answer) (head_only : Bool) → So head_only [] → (next : Option End) (old new : Outside) (end : Option End) (before : List ℕ)
    → Says answer (memory_answer head_only) next old new end → old.output ≡ Some before
    → ((new ≡ writes (shown answer) old) × (new.output ≡ Some (before ++ shown answer)) × (end ≡ next))
    ⊎ Early So before (shown answer) old new end
says-early So answer head_only so next old new end before (whole is ends) out =
    inl (is, ap (λ o. o.output) is ∙ ap (λ o. behind o (shown answer)) out, ends)
says-early So answer head_only so next old new end before (memory is ends) out =
    let said = shown (memory_answer head_only) in
    inr (at-once So head_only before (shown answer) said old new end (ap (λ o. o.output) is ∙ ap (λ o. behind o said) out) (inl (refl, ends, so)))
says-early So answer head_only so next old new end before (cut faults all part rose which front is ends) out =
    let written = ap (λ o. o.output) is ∙ ap (λ o. behind o part) out in
    let risen = subst (λ n. Rose old.write_faults n) (sym (ap (λ o. o.write_faults) is)) rose in
    inr (elim which [
      | inl e ↦ no-more So before (shown answer) part old new end (subst (λ b. IsFrontOf part b) e front) written
          (sink-failed So part old new end ends risen)
      | inr e ↦ at-once So head_only before (shown answer) part old new end written
          (inr (inr (inr (subst (λ b. IsFrontOf part b) e front, so), (ends, risen))))
    ])

-- memory ran out, and the answer that says so, or its head alone, was begun
abbrev pub SaysMemory : Bool → Outside → Outside → Option End → Type 0
SaysMemory head_only old new end = Says (memory_answer head_only) (memory_answer head_only) (Some stream.Closed) old new end

-- running out of memory is answered, whatever was to come
pub says-memory : (So : Bool → List ℕ → Type 0) (head_only : Bool) → So head_only [] → (old new : Outside) (end : Option End) (before written : List ℕ)
    → SaysMemory head_only old new end → old.output ≡ Some before → Early So before written old new end
says-memory So head_only so old new end before written (whole is ends) out =
    let said = shown (memory_answer head_only) in
    at-once So head_only before written said old new end (ap (λ o. o.output) is ∙ ap (λ o. behind o said) out) (inl (refl, ends, so))
says-memory So head_only so old new end before written (memory is ends) out =
    let said = shown (memory_answer head_only) in
    at-once So head_only before written said old new end (ap (λ o. o.output) is ∙ ap (λ o. behind o said) out) (inl (refl, ends, so))
says-memory So head_only so old new end before written (cut faults all part rose which front is ends) out =
    let all-memory : all ≡ shown (memory_answer head_only) = elim which [ inl e ↦ e | inr e ↦ e ] in
    at-once So head_only before written part old new end (ap (λ o. o.output) is ∙ ap (λ o. behind o part) out)
    (inr (inr (
      inr (subst (λ b. IsFrontOf part b) all-memory front, so),
      (ends, subst (λ n. Rose old.write_faults n) (sym (ap (λ o. o.write_faults) is)) rose),
    )))

-- what is said by replies alone
abbrev pub IsTold : Response → Type 0
IsTold (BlobDiffers recorded found) = ⊥
IsTold said = Unit {0}

said-told : (reply : Reply) → IsTold (response_of reply)
said-told no_memory = tt
said-told _ = tt

missed-told : (so_far : Verdict) → IsTold (response_missed so_far)
missed-told (verdict.Unasked of_group) = tt
missed-told (verdict.Gone of_group) = elim of_group as (λ b. IsTold (response_missed (verdict.Gone b))) [ true ↦ tt | false ↦ tt ]
missed-told (verdict.First why) = tt

-- what a reply makes of what is due: it stays, or this is to be told
abbrev pub Moves : (Option Close → Option Close) → Type 0
Moves f = ((due : Option Close) → f due ≡ due) ⊎ ((what : Response) × ((due : Option Close) → f due ≡ Some (speaks what)) × IsTold what)

planned-moves : (left : ℕ) → Moves (due_planned left)
planned-moves zero = inr (NoMemory, (λ due. refl), tt)
planned-moves (suc n) = inl (λ due. refl)

pub due-moves : (r : Rounds) (command : Command) (reply : Reply) → Moves (due_after r command reply)
due-moves r (look repo path tried) (file lease blob) = inl (λ due. refl)
due-moves r (look repo path tried) missed = inr (response_missed r.so_far, (λ due. refl), missed-told r.so_far)
due-moves r (look repo path tried) (fetches plan) = planned-moves r.left
due-moves r (may_put place path) (draft n) = inl (λ due. refl)
due-moves r (done lease) reply = inl (λ due. refl)
due-moves r (drop_draft n) reply = inl (λ due. refl)
due-moves r (unlist repo) reply = inl (λ due. refl)
due-moves r collect reply = inl (λ due. refl)
due-moves r (land plan outcome) landed = inl (λ due. refl)
due-moves r command reply = inr (response_of reply, (λ due. refl), said-told reply)

-- once something is due it stays so, and no file is lent
lent-stays : (command : Command) (reply : Reply) (s : Stand) (due : Close) → MayAsk command s → s.due ≡ Some due → (lent : Option Blob) → lent_after command reply lent ≡ lent
lent-stays (done lease) reply s due may is lent = refl
lent-stays _ reply s due may is lent = (cc)

pub still-due : (command : Command) (reply : Reply) (s : Stand) (due : Close) → MayAsk command s → s.due ≡ Some due → due_after s.rounds command reply s.due ≡ Some due
still-due (done lease) reply s due may is = is
still-due _ reply s due may is = (cc)

-- where memory is wanted for a command, that is due
pub memory-due : (command : Command) (s : Stand) → MayAsk command s → IsTrue (takes_memory command) → due_after s.rounds command no_memory s.due ≡ Some (speaks NoMemory)
memory-due (unlist repo) s may can = absurd may
memory-due collect s may can = absurd may
memory-due _ s may can = (cc)

pub nothing-due : (mode : ResponseMode) (io_action : IoAction) (s : Stand) → MayDo mode io_action s → s.due ≡ None
nothing-due mode io_action s may = may.0

-- an answer is its head alone where those of the course are
pub own-head : (said : Response) (unread : Option ℕ) (mode : ResponseMode) → (mode_of said unread mode).head_only ≡ mode.head_only
own-head NoMemory unread mode = refl
own-head _ unread mode = refl

-- how a course ends by what is due, where this body is not read
abbrev pub EndsAs : ResponseMode → Option ℕ → Close → Outside → Outside → Option End → Type 0
EndsAs mode unread (speaks said) old new end =
    let own = mode_of said unread mode in
    Says (answer_of said own) (memory_answer own.head_only) (end_of own) old new end
EndsAs mode unread (rests next) old new end = (new ≡ old) × (end ≡ next)

-- a course of which something is due asks no more than it must, and ends so; no file is lent any more
pub ends-due : (tells : Type 0) (by_text : List ℕ → Option Close) (mode : ResponseMode) (c : Course) (n : ℕ) (s : Stand) (due : Close) → Keeps by_text mode c n s
    → s.due ≡ Some due → (entries : List Entry) (old new : Outside) (end : Option End) → Follows tells c entries old new end
    → EndsAs mode s.unread due old new end × ((lent : Option Blob) → file_by entries lent ≡ lent)
ends-due tells by_text mode (asks command next) zero s due k is [] old new end f = absurd f
ends-due tells by_text mode (asks command next) zero s due k is (e ∷ entries) old new end f = absurd k
ends-due tells by_text mode (asks command next) (suc n) s due k is [] old new end f = absurd f
ends-due tells by_text mode (asks command next) (suc n) s due k is (e ∷ entries) old new end f =
    let rest = ends-due tells by_text mode (next e.reply) n (stand_after command e.reply s) due (k.1 e.reply) (still-due command e.reply s due k.0 is) entries old new end f.1 in (
      rest.0,
      λ lent. ap (λ (c : Command). file_by entries (lent_after c e.reply lent)) f.0 ∙ ap (file_by entries) (lent-stays command e.reply s due k.0 is lent) ∙ rest.1 lent,
    )
ends-due tells by_text mode (does io_action next) n s due k is entries old new end f = absurd (none-some due (sym (nothing-due mode io_action s k.0) ∙ is))
ends-due tells by_text mode (says said own) n s due k is entries old new end f =
    let due-is : speaks said ≡ due = (cc) in (
      subst (λ d. EndsAs mode s.unread d old new end) due-is
          (subst (λ (m : ResponseMode). Says (answer_of said m) (memory_answer m.head_only) (end_of m) old new end) k.2 f.1),
      λ lent. ap (λ (es : List Entry). file_by es lent) f.0,
    )
ends-due tells by_text mode (stops next) n s due k is entries old new end f =
    let due-is : rests next ≡ due = (cc) in
    (subst (λ d. EndsAs mode s.unread d old new end) due-is (f.1, f.2), λ lent. ap (λ (es : List Entry). file_by es lent) f.0)

-- the same where it is played, and no answer is due
pub plays-due : (settings : Settings) (by_text : List ℕ → Option Close) (mode : ResponseMode) (c : Course) (n : ℕ) (s : Stand) (end : Option End) → Keeps by_text mode c n s
    → s.due ≡ Some (rests end) → (scene : Scene) → ((play settings c scene).written ≡ []) × ((play settings c scene).end ≡ end)
plays-due settings by_text mode (asks command next) zero s end k is scene = absurd k
plays-due settings by_text mode (asks command next) (suc n) s end k is scene =
    let reply = (due_entry settings scene.state command).reply in
    plays-due settings by_text mode (next reply) n (stand_after command reply s) end (k.1 reply) (still-due command reply s (rests end) k.0 is) _
plays-due settings by_text mode (does io_action next) n s end k is scene = absurd (none-some (rests end) (sym (nothing-due mode io_action s k.0) ∙ is))
plays-due settings by_text mode (says said own) n s end k is scene = let due-is : speaks said ≡ rests end = (cc) in absurd (cc)
plays-due settings by_text mode (stops next) n s end k is scene = let due-is : rests next ≡ rests end = (cc) in (refl, (cc))
