-- A stream hands over a blob under a draft that it was given, and of each number once.
use Rattle.std.proofs.Common.{◌≡◌, ◌⊎◌, inl, inr, ℕ, zero, suc, Bool, true, false, List, [], ◌∷◌, ◌++◌, Option, Some, None, Result, Ok, Err, refl, sym, subst, ap, ◌∙◌, eqb-true, IsTrue}
use Rattle.std.specs.Prelude.{◌==◌, if◌then◌else◌, nat_lt}
use Rattle.std.specs.List.{AllByRecursion}
use Rattle.std.proofs.lemmas.Bool.{and_parts, false≢true}
use Rattle.std.proofs.lemmas.Option.{none-some}
use Rattle.fetch_plan.specs.declared.Outcome.TheVariants as came
use Rattle.fetch_plan.specs.declared.Plan.{Plan}
use Rattle.mvn_coords.specs.Kind.{kind}
use Rattle.mvn_coords.specs.declared.kind.Kind.{Kind}
use Rattle.mvn_coords.specs.declared.kind.Kind.TheVariants.{File, FileSide, Doc, DocSide}
use Rattle.mvn_coords.specs.declared.fault.PathFault.{PathFault}
use Rattle.repo_model.specs.Command.{Command, look, may_put, put, stage, drop_draft, land, unlist, collect, meets, is_file_path, is_fit, is_landing, is_parcel, proxy_rule_of, rule_of}
use Rattle.repo_model.specs.Data.{Blob}
use Rattle.repo_model.specs.Fetched.{Landing, got_file}
use Rattle.repo_model.specs.History.{Entry}
use Rattle.repo_model.specs.Paths.{takes}
use Rattle.repo_model.specs.Reply.{Reply, draft, fetches, landed}
use Rattle.repo_model.specs.Settings.{Rule, Settings}
use Rattle.repo_model.specs.State.{number_end}
use Rattle.repo_laws.specs.Laws.{AnyByRecursion}
use Rattle.repo_laws.specs.Replies.{GivesDraft}
use Rattle.repo_routes.specs.Judge.{judge}
use Rattle.repo_routes.specs.Intent.{Judged}
use Rattle.repo_routes.specs.declared.judging.Refused.{Refused}
use Rattle.repo_course.specs.Course.{Close, Course, asks, does, says, stops}
use Rattle.repo_course.specs.declared.mode.ResponseMode.{ResponseMode}
use Rattle.repo_course.specs.declared.outcomes.End.{End}
use Rattle.repo_course.specs.Serving.{Follows, Opens, clean, torn, failed, refused, unread_head, starved, served, Outside, ServesStream, RequestTurn}
use Rattle.course_laws.specs.Duties.{Keeps, MayAsk, Stand, draft_after, due_after, duty_of, left_by, spends_draft, stand_after, stand_done}
use Rattle.course_laws.proofs.Kept.{duty_at, opens-keeps}
use Rattle.course_laws.proofs.Passes.{ArePass, IsPassCommand, action-asks}
use Rattle.course_laws.proofs.PutBodies.{undue}
use Rattle.crash_laws.specs.Handed.{AnyHands, HandOnce, HandsNumber, handed}
use Rattle.desk_laws.proofs.Drawn.{AnyGives, GiveOnce, given-apart, once-after, once-front}
use Rattle.desk_laws.proofs.Fitting.{FitsOne, all-cut, any-cut, any-left, any-right}

-- ---- the draft under which a command hands its blob over

of-parcel : (n : ℕ) (blob : Blob) → is_parcel n blob ≡ true → blob.number ≡ n
of-parcel n blob is = eqb-true blob.number n (and_parts (blob.number == n) (nat_lt blob.print.length number_end) is).0

landed-under : (k : Result Kind PathFault) (under : Option ℕ) (blob : Blob) → is_landing k under (came.Got (got_file blob)) ≡ true → under ≡ Some blob.number
landed-under (Ok (File c)) (Some m) blob is = ap Some (sym (of-parcel m blob is))
landed-under (Ok (File c)) None blob is = absurd (false≢true is)
landed-under (Ok (Doc d)) None blob is = absurd (false≢true is)
landed-under (Ok (Doc d)) (Some m) blob is = absurd (false≢true is)
landed-under (Ok (FileSide c side)) under blob is = absurd (false≢true is)
landed-under (Ok (DocSide d side)) under blob is = absurd (false≢true is)
landed-under (Err fault) under blob is = absurd (false≢true is)

-- where a command hands over a blob of a number, no end is due, and the draft is of this number
handing : (settings : Settings) (command : Command) (s : Stand) (n : ℕ) → IsTrue (meets settings command) → MayAsk command s → HandsNumber n command → (s.due ≡ None) × (s.draft ≡ Some n)
handing settings (put repo path m blob) s n met may hands =
    let numbered : blob.number ≡ m = of-parcel m blob (and_parts (is_fit (λ (rule : Rule). takes rule path) (rule_of repo settings)) (is_parcel m blob) met).1 in
    (may.0.0, may.1 ∙ ap Some (sym numbered) ∙ hands)
handing settings (stage at path m blob) s n met may hands =
    let numbered : blob.number ≡ m = of-parcel m blob (and_parts (is_file_path path) (is_parcel m blob) met).1 in
    (may.0.0, may.1 ∙ ap Some (sym numbered) ∙ hands)
handing settings (land plan (came.Got (got_file blob))) s n met may hands =
    let under = landed-under (kind plan.path) plan.draft blob (and_parts _ (is_landing (kind plan.path) plan.draft (came.Got (got_file blob))) met).1 in
    (may.0.0, may.2 ∙ under ∙ hands)
handing settings command s n met may hands = absurd (none-some n hands)

-- after it an end is due, or no draft is held
handed-over : (command : Command) (reply : Reply) (s : Stand) (n : ℕ) → HandsNumber n command → due_after s.rounds command reply s.due ≡ None → draft_after command reply s.draft ≡ None
handed-over (put repo path m blob) reply s n hands none = absurd (cc)
handed-over (stage at path m blob) reply s n hands none = absurd (cc)
handed-over (land plan (came.Got (got_file blob))) landed s n hands none = refl
handed-over (land plan (came.Got (got_file blob))) reply s n hands none = absurd (cc)
handed-over command reply s n hands none = absurd (none-some n hands)

-- a draft that is held after a reply was held before it, or is given by it
spent-or-held : (b : Bool) (n : ℕ) (held : Option ℕ) → (if b then None else held) ≡ Some n → held ≡ Some n
spent-or-held true n held is = absurd (none-some n is)
spent-or-held false n held is = is

draft-from : (command : Command) (reply : Reply) (held : Option ℕ) (n : ℕ) → draft_after command reply held ≡ Some n → (held ≡ Some n) ⊎ GivesDraft n reply
draft-from (may_put place path) (draft m) held n is = let same : m ≡ n = cc in inr same
draft-from (put repo path m blob) reply held n is = inl (spent-or-held (spends_draft reply) n held is)
draft-from (stage at path m blob) reply held n is = inl (spent-or-held (spends_draft reply) n held is)
draft-from (drop_draft m) reply held n is = absurd (none-some n is)
draft-from (look repo path tried) (fetches plan) held n is = inr is
draft-from (land plan outcome) landed held n is = absurd (none-some n is)
draft-from command reply held n is = inl is

-- ---- lists of entries

-- each number is handed over once, under a draft that one of them gives
pub record Hand (entries : List Entry) : Type 0 where
  pub once : HandOnce entries
  pub own : (n : ℕ) → AnyHands n entries → AnyGives n entries

once-both : (xs ys : List Entry) → ((n : ℕ) → AnyHands n xs → AnyHands n ys → ⊥) → HandOnce xs → HandOnce ys → HandOnce (xs ++ ys)
once-both [] ys apart first later = later
once-both (x ∷ xs) ys apart first later = (
  λ n here any. elim (any-cut _ xs ys any) [ inl one ↦ first.0 n here one | inr two ↦ apart n (inl here) two ],
  once-both xs ys (λ n one two. apart n (inr one) two) first.1 later,
)

pub both-hand : (xs ys : List Entry) → GiveOnce (xs ++ ys) → Hand xs → Hand ys → Hand (xs ++ ys)
both-hand xs ys given first later = record {
  once = once-both xs ys (λ n one two. given-apart n xs ys given (first.own n one) (later.own n two)) first.once later.once;
  own = λ n any. elim (any-cut _ xs ys any) [ inl one ↦ any-left _ xs ys (first.own n one) | inr two ↦ any-right _ xs ys (later.own n two) ];
}

pub none-hand : Hand []
none-hand = record { once = tt; own = λ n any. any }

-- a pass hands over nothing and is given nothing
pass-hands : (command : Command) (n : ℕ) → IsPassCommand command → HandsNumber n command → ⊥
pass-hands (unlist repo) n is hands = none-some n hands
pass-hands collect n is hands = none-some n hands
pass-hands command n is hands = absurd is

passes-hand : (n : ℕ) (entries : List Entry) → ArePass entries → AnyHands n entries → ⊥
passes-hand n [] pass any = any
passes-hand n (e ∷ entries) pass (inl here) = pass-hands e.command n pass.0 here
passes-hand n (e ∷ entries) pass (inr later) = passes-hand n entries pass.1 later

passes-once : (entries : List Entry) → ArePass entries → HandOnce entries
passes-once [] pass = tt
passes-once (e ∷ entries) pass = (λ n here any. pass-hands e.command n pass.0 here, passes-once entries pass.1)

pub pass-hand : (entries : List Entry) → ArePass entries → Hand entries
pass-hand entries pass = record { once = passes-once entries pass; own = λ n any. absurd (passes-hand n entries pass any) }

-- ---- streams
-- what is handed over from where a course stands: each number once, of the draft that is held, or of one that is given
record Hands (s : Stand) (entries : List Entry) : Type 0 where
  once : HandOnce entries
  own : (n : ℕ) → AnyHands n entries → (s.due ≡ None) × ((s.draft ≡ Some n) ⊎ AnyGives n entries)

module _ (under : Settings) (tells : Type 0) (by_text : List ℕ → Option Close) (mode : ResponseMode) where
  abbrev AreFresh : Stand → List Entry → Type 0
  AreFresh s entries = (n : ℕ) → s.draft ≡ Some n → AnyGives n entries → ⊥

  step-hands : (e : Entry) (s : Stand) (entries : List Entry) → FitsOne under e → MayAsk e.command s → GiveOnce (e ∷ entries) → AreFresh s (e ∷ entries)
      → Hands (stand_after e.command e.reply s) entries → Hands s (e ∷ entries)
  step-hands e s entries fits may given fresh rest = record {
    once = (
      λ n here any.
          let (undue_then, from) = rest.own n any in
          let (undue_now, held) = handing under e.command s n fits.1.condition may here in
          elim from [
            | inl still ↦ none-some n (sym (handed-over e.command e.reply s n here undue_then) ∙ still)
            | inr later ↦ fresh n held (inr later)
          ],
      rest.once,
    );
    own = λ n any. elim any [
      | inl here ↦ let (undue_now, held) = handing under e.command s n fits.1.condition may here in (undue_now, inl held)
      | inr later ↦
          let (undue_then, from) = rest.own n later in (
            undue e.command e.reply s may undue_then,
            elim from [
              | inl still ↦ elim (draft-from e.command e.reply s.draft n still) [ inl held ↦ inl held | inr gives ↦ inr (inl gives) ]
              | inr gives ↦ inr (inr gives)
            ],
          )
    ];
  }

  follows-hand : (c : Course) (m : ℕ) (s : Stand) → Keeps by_text mode c m s → (entries : List Entry) (old new : Outside) (end : Option End) → AllByRecursion (FitsOne under) entries
      → GiveOnce entries → AreFresh s entries → Follows tells c entries old new end → Hands s entries
  follows-hand (asks command next) zero s k [] old new end fits given fresh f = absurd f
  follows-hand (asks command next) zero s k (e ∷ entries) old new end fits given fresh f = absurd k
  follows-hand (asks command next) (suc m) s k [] old new end fits given fresh f = absurd f
  follows-hand (asks command next) (suc m) s k (e ∷ entries) old new end fits given fresh f =
      let may : MayAsk e.command s = subst (λ (c : Command). MayAsk c s) (sym f.0) k.0 in
      let kept : Keeps by_text mode (next e.reply) m (stand_after e.command e.reply s) =
      subst (λ (c : Command). Keeps by_text mode (next e.reply) m (stand_after c e.reply s)) (sym f.0) (k.1 e.reply) in
      step-hands e s entries fits.0 may given fresh
      (follows-hand (next e.reply) m (stand_after e.command e.reply s) kept entries old new end fits.1 given.1
      (λ n held any. elim (draft-from e.command e.reply s.draft n held) [ inl was ↦ fresh n was (inr any) | inr gives ↦ given.0 n gives any ]) f.1)
  follows-hand (does io_action next) m s k entries old new end fits given fresh f =
      let mine = f.1 in
      let later = f.2 in
      let pass = action-asks tells io_action f.0 mine old f.3 f.5 in
      let given_so : GiveOnce (mine ++ later) = subst GiveOnce f.4 given in
      let rest =
      follows-hand (next f.0) (left_by io_action m) (stand_done by_text io_action f.0 s) (k.2 f.0) later f.3 new end (all-cut (FitsOne under) mine later (subst (AllByRecursion (FitsOne under)) f.4 fits)).1
      (once-after mine later given_so) (λ n held any. fresh n held (subst (AnyGives n) (sym f.4) (any-right _ mine later any))) f.6 in
      subst (Hands s) (sym f.4)
      (record {
        once = once-both mine later (λ n one two. passes-hand n mine pass one) (passes-once mine pass) rest.once;
        own = λ n any. elim (any-cut _ mine later any) [
          | inl one ↦ absurd (passes-hand n mine pass one)
          | inr two ↦ (k.0.0, elim (rest.own n two).1 [ inl held ↦ inl held | inr gives ↦ inr (any-right _ mine later gives) ])
        ];
      })
  follows-hand (says said own) m s k entries old new end fits given fresh f = subst (Hands s) (sym f.0) (record { once = tt; own = λ n any. absurd any })
  follows-hand (stops next) m s k entries old new end fits given fresh f = subst (Hands s) (sym f.0) (record { once = tt; own = λ n any. absurd any })

-- before the first step no draft is held
judged-bare : (judged : Result Judged Refused) (last : Bool) → (duty_of judged last).stand.draft ≡ None
judged-bare (Ok request) last = refl
judged-bare (Err cause) last = refl

bare : (settings : Settings) (last : Bool) (old mid : Outside) (c : Course) (o : Opens settings last old mid c) → (duty_at o).stand.draft ≡ None
bare settings last old mid c (clean begins still is) = refl
bare settings last old mid c (torn begins still is) = refl
bare settings last old mid c (failed faults rose still is) = refl
bare settings last old mid c (refused fault begins still is) = refl
bare settings last old mid c (unread_head begins still is) = refl
bare settings last old mid c (starved head rest begins uses is) = refl
bare settings last old mid c (served head rest begins uses is) = judged-bare (judge settings head) last

module _ (under settings : Settings) (tells : Type 0) where
  turn-hand : (last : Bool) (entries : List Entry) (old new : Outside) (end : Option End) → AllByRecursion (FitsOne under) entries → GiveOnce entries
      → RequestTurn settings tells last entries old new end → Hand entries
  turn-hand last entries old new end fits given (c, mid, o, f) =
      let none = bare settings last old mid c o in
      let it =
      follows-hand under tells (duty_at o).by_text (duty_at o).mode c (duty_at o).most (duty_at o).stand (opens-keeps settings last old mid c o) entries mid new end fits given
      (λ n held any. none-some n (sym none ∙ held)) f in
      record {
        once = it.once;
        own = λ n any. elim (it.own n any).1 [ inl held ↦ absurd (none-some n (sym none ∙ held)) | inr gives ↦ gives ];
      }

  pub serves-hand : (n : ℕ) (entries : List Entry) (old new : Outside) (end : End) → AllByRecursion (FitsOne under) entries → GiveOnce entries
      → ServesStream settings tells n entries old new end → Hand entries
  unfolding ServesStream
  serves-hand zero entries old new end fits given t = subst Hand (sym t.0) none-hand
  serves-hand (suc left) entries old new end fits given (inl turn) = turn-hand (left == 0) entries old new (Some end) fits given turn
  serves-hand (suc left) entries old new end fits given (inr t) =
      let parts = all-cut (FitsOne under) t.0 t.1 (subst (AllByRecursion (FitsOne under)) t.3 fits) in
      let given_so : GiveOnce (t.0 ++ t.1) = subst GiveOnce t.3 given in
      subst Hand (sym t.3)
      (both-hand t.0 t.1 given_so (turn-hand (left == 0) t.0 old t.2 None parts.0 (once-front t.0 t.1 given_so) t.4)
      (serves-hand left t.1 t.2 new end parts.1 (once-after t.0 t.1 given_so) t.5))
