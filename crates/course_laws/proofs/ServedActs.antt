-- What single acts of a course that nothing refuses write and read, where no count rose.
use Rattle.std.proofs.Common.{◌≡◌, ◌⊎◌, inl, inr, ℕ, zero, suc, Bool, true, List, [], ◌++◌, Option, Some, refl, sym, subst, ap, ◌∙◌}
use Rattle.std.specs.Prelude.{if◌then◌else◌}
use Rattle.outside.specs.Blobs.{Shelf}
use Rattle.outside.specs.Told.{behind}
use Rattle.outside_remote.specs.Exchanges.{Sees}
use Rattle.outside.proofs.ToldLemmas.{behind-behind}
use Rattle.http_wire.specs.Answer.{shown}
use Rattle.http_wire.specs.Front.{front}
use Rattle.http_wire.specs.declared.answers.Answer.{Answer}
use Rattle.repo_model.specs.Command.{Command, look, done, drop_draft, unlist, collect}
use Rattle.repo_model.specs.Data.{Blob}
use Rattle.repo_model.specs.History.{Entry}
use Rattle.repo_model.specs.Reply.{Reply, fetches, no_memory}
use Rattle.repo_course.specs.Answers.{answer_of, file_answer, full_answer, memory_answer}
use Rattle.repo_course.specs.Course.{Close, Course, IoAction, Outcome, does, speaks, rests}
use Rattle.repo_course.specs.declared.mode.ResponseMode.{ResponseMode}
use Rattle.repo_course.specs.declared.outcomes.End.{End}
use Rattle.repo_course.specs.declared.outcomes.End.TheVariants as stream
use Rattle.repo_course.specs.declared.response.Response.{Response}
use Rattle.repo_course.specs.declared.response.Response.TheVariants as response
use Rattle.repo_course.specs.Serving.{Follows, Outside, Says, whole, memory, cut, writes}
use Rattle.course_laws.specs.Duties.{MayAsk, Rounds, Stand, due_after, due_planned}
use Rattle.course_laws.specs.Granted.{Grants, HasRound, IsGood, IsMore, IsServed, IsSuccess, answered, sent as file_sent, differs, file_cut, starved}
use Rattle.course_laws.proofs.Counts.{action-grew, follows-grew}
use Rattle.course_laws.proofs.Early.{IsTold, SaysMemory, due-moves}
use Rattle.course_laws.proofs.Rising.{Quiet, no-write-fault, quiet-first, quiet-then}

-- no count rose by an I/O action, nor after it
pub action-quiet : (tells : Type 0) (io_action : IoAction) (next : Outcome io_action → Course) (entries : List Entry) (old new : Outside) (end : Option End) → Quiet old new
    → (f : Follows tells (does io_action next) entries old new end) → Quiet old f.3 × Quiet f.3 new
action-quiet tells io_action next entries old new end q f =
    let first = action-grew tells io_action f.0 f.1 old f.3 f.5 in
    let rest = follows-grew tells (next f.0) f.2 f.3 new end f.6 in
    (quiet-first old f.3 new rest q, quiet-then old f.3 new first rest q)

-- an answer is written whole, or that of running out of memory is
pub whole-said : (answer memory_said : Answer) (next : Option End) (old new : Outside) (end : Option End) → Quiet old new
    → Says answer memory_said next old new end
    → ((new ≡ writes (shown answer) old) × (end ≡ next)) ⊎ ((new ≡ writes (shown memory_said) old) × (end ≡ Some stream.Closed))
whole-said answer memory_said next old new end q (whole is ends) = inl (is, ends)
whole-said answer memory_said next old new end q (memory is ends) = inr (is, ends)
whole-said answer memory_said next old new end q (cut faults all part rose which front is ends) =
    no-write-fault old new faults rose (ap (λ o. o.write_faults) is) q

memory-said : (head_only : Bool) (old new : Outside) (end : Option End) → Quiet old new → SaysMemory head_only old new end
    → (new ≡ writes (shown (memory_answer head_only)) old) × (end ≡ Some stream.Closed)
memory-said head_only old new end q said =
    elim (whole-said (memory_answer head_only) (memory_answer head_only) (Some stream.Closed) old new end q said) [ inl w ↦ w | inr w ↦ w ]

-- bytes written after others
writes-writes : (a b : List ℕ) (o : Outside) → writes b (writes a o) ≡ writes (a ++ b) o
writes-writes a b o = ap (λ (out : Option (List ℕ)). record o { output = out }) (behind-behind o.output a b)

module _ (mode : ResponseMode) where
  -- seen from before bytes that were written first
  pub wrote-served : (first left : List ℕ) (answer : Option Close) (lent : Option Blob) (old mid new : Outside) (end : Option End) → mid ≡ writes first old
      → IsServed mode [] left answer lent mid new end → IsServed mode first left answer lent old new end
  wrote-served first left answer lent old mid new end mid-is (answered said kept asked is success wrote ends) =
      let all = shown (answer_of said mode) in
      answered said kept asked is success
      (wrote ∙ ap (λ (m : Outside). writes all (record m { input = Some left; shelf = kept; remote = asked })) mid-is ∙ writes-writes first all (record old { input = Some left; shelf = kept; remote = asked })) ends
  wrote-served first left answer lent old mid new end mid-is (file_sent blob bytes kept asked is told wrote ends) =
      let all = shown (file_answer blob mode) ++ (if mode.head_only then [] else bytes) in
      file_sent blob bytes kept asked is told
      (wrote ∙ ap (λ (m : Outside). writes all (record m { input = Some left; shelf = kept; remote = asked })) mid-is ∙ writes-writes first all (record old { input = Some left; shelf = kept; remote = asked })) ends
  wrote-served first left answer lent old mid new end mid-is (differs blob recorded found kept asked is bodied other wrote ends) =
      let all = shown (answer_of (response.BlobDiffers recorded found) mode) in
      differs blob recorded found kept asked is bodied other
      (wrote ∙ ap (λ (m : Outside). writes all (record m { input = Some left; shelf = kept; remote = asked })) mid-is ∙ writes-writes first all (record old { input = Some left; shelf = kept; remote = asked })) ends
  wrote-served first left answer lent old mid new end mid-is (file_cut blob recorded found bytes part kept asked is bodied other print front wrote ends) =
      let all = shown (file_answer blob mode) ++ part in
      file_cut blob recorded found bytes part kept asked is bodied other print front
      (wrote ∙ ap (λ (m : Outside). writes all (record m { input = Some left; shelf = kept; remote = asked })) mid-is ∙ writes-writes first all (record old { input = Some left; shelf = kept; remote = asked })) ends
  wrote-served first left answer lent old mid new end mid-is (starved part head_only to_head which output ends) =
      let said = shown (memory_answer head_only) in
      let none : part ≡ [] = elim which [ inl e ↦ e | inr e ↦ e ] in
      starved first head_only to_head (inr refl)
      (output ∙ ap (λ p. behind mid.output (p ++ said)) none ∙ ap (λ (m : Outside). behind m.output said) mid-is ∙ behind-behind old.output first said) ends

  -- seen from before bytes that were read, and stored or not
  pub read-served : (invited left : List ℕ) (answer : Option Close) (lent : Option Blob) (old mid new : Outside) (rest : Option (List ℕ)) (end : Option End) (shelf : Shelf) (remote : Sees)
      → mid ≡ record old { input = rest; shelf = shelf; remote = remote } → IsServed mode invited left answer lent mid new end → IsServed mode invited left answer lent old new end
  read-served invited left answer lent old mid new rest end shelf remote mid-is (answered said kept asked is success wrote ends) =
      answered said kept asked is success
      (wrote ∙ ap (λ (m : Outside). writes (invited ++ shown (answer_of said mode)) (record m { input = Some left; shelf = kept; remote = asked })) mid-is) ends
  read-served invited left answer lent old mid new rest end shelf remote mid-is (file_sent blob bytes kept asked is told wrote ends) =
      file_sent blob bytes kept asked is told
      (wrote ∙ ap (λ (m : Outside). writes (invited ++ (shown (file_answer blob mode) ++ (if mode.head_only then [] else bytes))) (record m { input = Some left; shelf = kept; remote = asked })) mid-is) ends
  read-served invited left answer lent old mid new rest end shelf remote mid-is (differs blob recorded found kept asked is bodied other wrote ends) =
      differs blob recorded found kept asked is bodied other
      (wrote ∙ ap (λ (m : Outside). writes (invited ++ shown (answer_of (response.BlobDiffers recorded found) mode)) (record m { input = Some left; shelf = kept; remote = asked })) mid-is) ends
  read-served invited left answer lent old mid new rest end shelf remote mid-is (file_cut blob recorded found bytes part kept asked is bodied other print front wrote ends) =
      file_cut blob recorded found bytes part kept asked is bodied other print front
      (wrote ∙ ap (λ (m : Outside). writes (invited ++ (shown (file_answer blob mode) ++ part)) (record m { input = Some left; shelf = kept; remote = asked })) mid-is) ends
  read-served invited left answer lent old mid new rest end shelf remote mid-is (starved part head_only to_head which output ends) =
      starved part head_only to_head which (output ∙ ap (λ (m : Outside). behind m.output (part ++ shown (memory_answer head_only))) mid-is) ends

  -- memory ran out, and that is answered
  pub starved-so : (head_only : Bool) → (head_only ≡ true → mode.head_only ≡ true) → (invited left : List ℕ) (answer : Option Close) (lent : Option Blob) (old mid new : Outside) (end : Option End)
      → mid.output ≡ old.output → Quiet mid new → SaysMemory head_only mid new end → IsServed mode invited left answer lent old new end
  starved-so head_only to_head invited left answer lent old mid new end kept q said =
      let so = memory-said head_only mid new end q said in
      starved [] head_only to_head (inl refl) (ap (λ o. o.output) so.0 ∙ ap (λ out. behind out (shown (memory_answer head_only))) kept) so.1

-- a command for which memory ran out ends by that, but for one that only gives back
wants-memory : (command : Command) (s : Stand) → MayAsk command s → Grants command no_memory ⊎ (due_after s.rounds command no_memory s.due ≡ Some (speaks response.NoMemory))
wants-memory (done lease) s may = inl tt
wants-memory (drop_draft n) s may = inl tt
wants-memory (unlist repo) s may = absurd may
wants-memory collect s may = absurd may
wants-memory _ s may = inr refl

pub granted-or-starved : (command : Command) (e : Entry) (s : Stand) → e.command ≡ command → MayAsk command s → Grants e.command e.reply ⊎ (e.reply ≡ no_memory)
    → Grants command e.reply ⊎ (due_after s.rounds command e.reply s.due ≡ Some (speaks response.NoMemory))
granted-or-starved command e s is may (inl granted) = inl (subst (λ c. Grants c e.reply) is granted)
granted-or-starved command e s is may (inr none) =
    subst (λ (r : Reply). Grants command r ⊎ (due_after s.rounds command r s.due ≡ Some (speaks response.NoMemory))) (sym none) (wants-memory command s may)

-- an answer that the replies came to
abbrev pub IsPlain : Option Close → Type 0
IsPlain (Some (speaks (response.BlobDiffers recorded found))) = ⊥
IsPlain (Some (rests end)) = ⊥
IsPlain due = Unit {0}

told-plain : (what : Response) → IsTold what → IsPlain (Some (speaks what))
told-plain (response.BlobDiffers recorded found) told = told
told-plain _ told = tt

pub reply-plain : (r : Rounds) (command : Command) (reply : Reply) (due : Option Close) → IsPlain due → IsPlain (due_after r command reply due)
reply-plain r command reply due plain =
    elim (due-moves r command reply) [
      | inl stays ↦ subst IsPlain (sym (stays due)) plain
      | inr told ↦ subst IsPlain (sym (told.1 due)) (told-plain told.0 told.2)
    ]

-- a reply that is granted comes where its course goes on, or counts as out of memory
pub granted-goes : (command : Command) (reply : Reply) (s : Stand) → MayAsk command s → Grants command reply
    → HasRound s.rounds command reply ⊎ (due_after s.rounds command reply s.due ≡ Some (speaks response.NoMemory))
granted-goes (look repo path tried) (fetches plan) s may granted =
    elim s.rounds.left as (λ left. IsMore left ⊎ (due_planned left s.due ≡ Some (speaks response.NoMemory))) [ zero ↦ inr refl | suc n ↦ inl tt ]
granted-goes command reply s may granted = inl tt

pub plain-success : (mode : ResponseMode) (is_cut : Bool) (what : Response) → IsGood mode is_cut (speaks what) → IsPlain (Some (speaks what)) → IsSuccess (full_answer what).status
plain-success mode is_cut (response.BlobDiffers recorded found) good plain = absurd plain
plain-success mode is_cut _ good plain = good
