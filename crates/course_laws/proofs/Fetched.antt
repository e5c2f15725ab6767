-- What the fetches of a stream come to, one after another, is used up by it in that order.
use Rattle.std.proofs.Common.{◌≡◌, ◌⊎◌, ◌∙◌, inl, inr, Bool, true, arith, List, [], ◌∷◌, ◌++◌, Option, Some, None, refl, sym, subst, ap, append_assoc}
use Rattle.std.specs.Prelude.{if◌then◌else◌}
use Rattle.std.proofs.lemmas.List.Concat.{flat_map-append}
use Rattle.std.proofs.lemmas.Option.{none-some}
use Rattle.fetch_plan.specs.declared.Plan.{Plan}
use Rattle.http_wire.specs.declared.answers.Answer.{Answer}
use Rattle.outside_remote.specs.Exchanges.{Sees}
use Rattle.remote_fetch.specs.Fetching.{IsFetched}
use Rattle.repo_model.specs.Command.{Command, look}
use Rattle.repo_model.specs.History.{Entry}
use Rattle.repo_model.specs.Reply.{Reply}
use Rattle.repo_course.specs.Answers.{answer_of, memory_answer}
use Rattle.repo_course.specs.Course.{Course, IoAction, Fetch, Outcome, asks, does, says, stops, fetch, end_of}
use Rattle.repo_course.specs.declared.outcomes.End.{End}
use Rattle.repo_course.specs.declared.outcomes.End.TheVariants as stream
use Rattle.repo_course.specs.Serving.{Does, Fetches, Follows, Outside, Says, whole, memory, cut}
use Rattle.course_laws.specs.AsPlayed.{AreFetched, IsFetch, planned_by, plans_of}
use Rattle.course_laws.proofs.Passes.{ArePass, IsPassCommand, action-asks}
use Rattle.course_laws.proofs.Planned.{AsPlanned, Ends}
use Rattle.course_laws.proofs.Remotes.{says-still}
use Rattle.course_laws.proofs.Fetching.{Still}
pub use Rattle.course_laws.proofs.IoActions.{Fetched, Uses}
use Rattle.course_laws.proofs.IoActions.{FetchesNone, action-changes}

-- a course is followed to its end, and uses what its fetches come to
abbrev pub FollowsBy : Type 0 → Course → List Entry → Fetched → Fetched → Outside → Outside → Option End → Type 0
FollowsBy tells (asks command next) [] coming spare old new end = ⊥
FollowsBy tells (asks command next) (entry ∷ entries) coming spare old new end =
    (entry.command ≡ command) × FollowsBy tells (next entry.reply) entries coming spare old new end
FollowsBy tells (does io_action next) entries coming spare old new end =
    (outcome : Outcome io_action) × (mine later : List Entry) × (mid : Outside) × (entries ≡ mine ++ later) × Does tells io_action outcome mine old mid
    × (unused : Fetched) × Uses io_action outcome coming unused × FollowsBy tells (next outcome) later unused spare mid new end
FollowsBy tells (says said mode) entries coming spare old new end =
    (entries ≡ []) × Says (answer_of said mode) (memory_answer mode.head_only) (end_of mode) old new end × (coming ≡ spare)
FollowsBy tells (stops next) entries coming spare old new end = (entries ≡ []) × (new ≡ old) × (end ≡ next) × (coming ≡ spare)

pub plain : (tells : Type 0) (c : Course) (entries : List Entry) (coming spare : Fetched) (old new : Outside) (end : Option End)
    → FollowsBy tells c entries coming spare old new end → Follows tells c entries old new end
plain tells (asks command next) [] coming spare old new end f = f
plain tells (asks command next) (e ∷ entries) coming spare old new end f = (f.0, plain tells (next e.reply) entries coming spare old new end f.1)
plain tells (does io_action next) entries coming spare old new end f =
    (f.0, f.1, f.2, f.3, f.4, f.5, plain tells (next f.0) f.2 f.6 spare f.3 new end f.8)
plain tells (says said mode) entries coming spare old new end f = (f.0, f.1)
plain tells (stops next) entries coming spare old new end f = (f.0, f.1, f.2)

-- nothing was fetched before
pub unfetched : (tells : Type 0) (c : Course) (entries : List Entry) (coming unused spare : Fetched) (old new : Outside) (end : Option End) → coming ≡ unused
    → FollowsBy tells c entries unused spare old new end → FollowsBy tells c entries coming spare old new end
unfetched tells c entries coming unused spare old new end same f = subst (λ (x : Fetched). FollowsBy tells c entries x spare old new end) (sym same) f

-- what is seen of the remote before them is the same
pub fetched-before : (plans : List Plan) (fetched : Fetched) (a b c : Sees) → b ≡ a → AreFetched plans fetched b c → AreFetched plans fetched a c
fetched-before plans fetched a b c still are = subst (λ (r : Sees). AreFetched plans fetched r c) still are

is-fetch : (plan : Plan) (came : Fetch) (old new : Outside) → Fetches plan came old new → IsFetch plan came old.remote new.remote
is-fetch plan (Some outcome) old new t = subst (λ (r : Sees). IsFetched plan outcome old.remote r) (sym (ap (λ (o : Outside). o.remote) t.2)) t.1
is-fetch plan None old new t = subst (λ (r : Sees). IsFetch plan None old.remote r) (sym (ap (λ (o : Outside). o.remote) t.2)) t.1

-- ---- plans of entries
pub plans-joined : (first rest : List Entry) → plans_of (first ++ rest) ≡ plans_of first ++ plans_of rest
plans-joined first rest = flat_map-append (λ (e : Entry). planned_by e.command e.reply) first rest

-- a pass looks for nothing
unplanned : (command : Command) (reply : Reply) → IsPassCommand command → planned_by command reply ≡ []
unplanned (look repo path tried) reply pass = absurd pass
unplanned command reply pass = refl

pass-plans : (entries : List Entry) → ArePass entries → plans_of entries ≡ []
pass-plans [] pass = refl
pass-plans (e ∷ entries) pass = ap (λ (plans : List Plan). plans ++ plans_of entries) (unplanned e.command e.reply pass.0) ∙ pass-plans entries pass.1

-- only a fetch uses what fetches come to
none-used : (io_action : IoAction) (outcome : Outcome io_action) (spare : Fetched) → FetchesNone io_action → Uses io_action outcome spare spare
none-used (fetch plan) outcome spare none = absurd none
none-used io_action outcome spare none = refl

-- an answer that closes ends the stream
closed : (answer memory_said : Answer) (close : Bool) (old new : Outside) (end : Option End) → close ≡ true
    → Says answer memory_said (if close then Some stream.Closed else None) old new end → end ≡ None → ⊥
closed answer memory_said close old new end closes (whole is ends) none =
    none-some stream.Closed (sym none ∙ ends ∙ ap (λ b. if b then Some stream.Closed else None) closes)
closed answer memory_said close old new end closes (memory is ends) none = none-some stream.Closed (sym none ∙ ends)
closed answer memory_said close old new end closes (cut faults all part rose which front is ends) none = none-some stream.SinkFault (sym none ∙ ends)

-- the stream goes on, or nothing is fetched after it
abbrev pub IsLast : List Plan → Fetched → Option End → Type 0
IsLast later spare end = (end ≡ None) ⊎ ((later ≡ []) × (spare ≡ []))

module _ (tells : Type 0) (last : Sees) where
  -- a course that ends the stream plans nothing and fetches nothing
  pub record Ended (c : Course) (entries : List Entry) (spare : Fetched) (old new : Outside) (end : Option End) : Type 0 where
    pub unplanned : plans_of entries ≡ []
    pub ends : end ≡ None → ⊥
    pub still : Still old new
    pub follows : FollowsBy tells c entries spare spare old new end

  ended : (c : Course) → Ends c → (entries : List Entry) (spare : Fetched) (old new : Outside) (end : Option End) → Follows tells c entries old new end
      → Ended c entries spare old new end
  ended (asks command next) so [] spare old new end f = absurd f
  ended (asks command next) so (e ∷ entries) spare old new end f =
      let rest = ended (next e.reply) (so e.reply).1 entries spare old new end f.1 in
      record {
        unplanned =
            ap (λ (c : Command). planned_by c e.reply ++ plans_of entries) f.0
            ∙ ap (λ (plans : List Plan). plans ++ plans_of entries) (so e.reply).0 ∙ rest.unplanned;
        ends = rest.ends;
        still = rest.still;
        follows = (f.0, rest.follows);
      }
  ended (does io_action next) so entries spare old new end f = absurd so
  ended (says said mode) so entries spare old new end f = record {
    unplanned = ap plans_of f.0;
    ends = closed (answer_of said mode) (memory_answer mode.head_only) mode.close old new end so f.1;
    still = says-still (answer_of said mode) (memory_answer mode.head_only) (end_of mode) old new end f.1;
    follows = (f.0, f.1, refl);
  }
  ended (stops next) so entries spare old new end f = absurd so

  -- the last plan is left
  left : (c : Course) → Ends c → (entries : List Entry) (plan : Plan) (more later : List Plan) (spare : Fetched) (old new : Outside) (end : Option End) → more ≡ []
      → Follows tells c entries old new end → IsLast later spare end → AreFetched later spare new.remote last
      → (coming : Fetched) × FollowsBy tells c entries coming spare old new end × AreFetched ((plan ∷ more) ++ (plans_of entries ++ later)) coming old.remote last
  left c so entries plan more later spare old new end none f (inl goes) are = absurd ((ended c so entries spare old new end f).ends goes)
  left c so entries plan more later spare old new end none f (inr (no_later, no_spare)) are =
      let this = ended c so entries spare old new end f in
      let seen : AreFetched [] [] new.remote last = subst (λ (x : Fetched). AreFetched [] x new.remote last) no_spare (subst (λ (ps : List Plan). AreFetched ps spare new.remote last) no_later are) in
      let behind : AreFetched (plan ∷ []) [] old.remote last = (omega arith, seen.1 ∙ this.still) in
      let plans : (plan ∷ []) ≡ (plan ∷ more) ++ (plans_of entries ++ later) =
      sym (ap (λ (ps : List Plan). (plan ∷ ps) ++ (plans_of entries ++ later)) none ∙ ap (λ (ps : List Plan). plan ∷ (ps ++ later)) this.unplanned ∙ ap (λ (ps : List Plan). plan ∷ ps) no_later) in (
        spare,
        this.follows,
        subst (λ (ps : List Plan). AreFetched ps spare old.remote last) plans (subst (λ (x : Fetched). AreFetched (plan ∷ []) x old.remote last) (sym no_spare) behind),
      )

  -- a plan is fetched
  made : (io_action : IoAction) (outcome : Outcome io_action) (plan : Plan) → io_action ≡ fetch plan → (mine : List Entry) (old mid : Outside) → Does tells io_action outcome mine old mid → (plans : List Plan) (spare : Fetched)
      → AreFetched plans spare mid.remote last → (coming : Fetched) × Uses io_action outcome coming spare × AreFetched (plan ∷ plans) coming old.remote last
  made (fetch other) came plan is mine old mid did plans spare are =
      let same : other ≡ plan = cc in
      (came ∷ spare, refl, (mid.remote, subst (λ (p : Plan). IsFetch p came old.remote mid.remote) same (is-fetch other came old mid did.1), are))
  made _ outcome plan is mine old mid did plans spare are = absurd (cc)

  -- the plans of what an I/O action asked, which are none, and of what follows
  plans-after : (io_action : IoAction) (outcome : Outcome io_action) (entries mine rest : List Entry) (later : List Plan) (old mid : Outside) → entries ≡ mine ++ rest → Does tells io_action outcome mine old mid
      → plans_of rest ++ later ≡ plans_of entries ++ later
  plans-after io_action outcome entries mine rest later old mid parts did =
      sym (ap (λ (es : List Entry). plans_of es ++ later) parts ∙ ap (λ (plans : List Plan). plans ++ later) (plans-joined mine rest)
      ∙ ap (λ (plans : List Plan). (plans ++ plans_of rest) ++ later) (pass-plans mine (action-asks tells io_action outcome mine old mid did)))

  -- whatever the fetches after it come to
  pub followed-by : (c : Course) (entries : List Entry) (old new : Outside) (end : Option End) → Follows tells c entries old new end → (pending : List Plan) → AsPlanned pending c
      → (later : List Plan) (spare : Fetched) → IsLast later spare end → AreFetched later spare new.remote last
      → (coming : Fetched) × FollowsBy tells c entries coming spare old new end × AreFetched (pending ++ (plans_of entries ++ later)) coming old.remote last
  followed-by (asks command next) [] old new end f [] so later spare ends are = absurd f
  followed-by (asks command next) (e ∷ entries) old new end f [] so later spare ends are =
      let rest = followed-by (next e.reply) entries old new end f.1 (planned_by command e.reply) (so e.reply) later spare ends are in
      let plans : planned_by command e.reply ++ (plans_of entries ++ later) ≡ plans_of (e ∷ entries) ++ later =
      ap (λ (c : Command). planned_by c e.reply ++ (plans_of entries ++ later)) (sym f.0) ∙ sym (append_assoc (planned_by e.command e.reply) (plans_of entries) later) in
      (rest.0, (f.0, rest.1), subst (λ (ps : List Plan). AreFetched ps rest.0 old.remote last) plans rest.2)
  followed-by (asks command next) entries old new end f (plan ∷ more) so later spare ends are = left (asks command next) so.1 entries plan more later spare old new end so.0 f ends are
  followed-by (does io_action next) entries old new end f [] so later spare ends are =
      let rest = followed-by (next f.0) f.2 f.3 new end f.6 [] (so.1 f.0) later spare ends are in
      let plans = plans-after io_action f.0 entries f.1 f.2 later old f.3 f.4 f.5 in (
        rest.0,
        (f.0, f.1, f.2, f.3, f.4, f.5, rest.0, none-used io_action f.0 rest.0 so.0, rest.1),
        subst (λ (ps : List Plan). AreFetched ps rest.0 old.remote last) plans
            (fetched-before (plans_of f.2 ++ later) rest.0 old.remote f.3.remote last ((action-changes tells io_action f.0 f.1 old f.3 f.5).still so.0) rest.2),
      )
  followed-by (does io_action next) entries old new end f (plan ∷ more) so later spare ends are =
      let rest = followed-by (next f.0) f.2 f.3 new end f.6 more (so.1 f.0) later spare ends are in
      let here = made io_action f.0 plan so.0 f.1 old f.3 f.5 (more ++ (plans_of f.2 ++ later)) rest.0 rest.2 in
      let plans = plans-after io_action f.0 entries f.1 f.2 later old f.3 f.4 f.5 in (
        here.0,
        (f.0, f.1, f.2, f.3, f.4, f.5, rest.0, here.1, rest.1),
        subst (λ (ps : List Plan). AreFetched ((plan ∷ more) ++ ps) here.0 old.remote last) plans here.2,
      )
  followed-by (says said mode) entries old new end f [] so later spare ends are = (
    spare,
    (f.0, f.1, refl),
    subst (λ (ps : List Plan). AreFetched (ps ++ later) spare old.remote last) (sym (ap plans_of f.0))
        (fetched-before later spare old.remote new.remote last (says-still (answer_of said mode) (memory_answer mode.head_only) (end_of mode) old new end f.1) are),
  )
  followed-by (says said mode) entries old new end f (plan ∷ more) so later spare ends are = left (says said mode) so.1 entries plan more later spare old new end so.0 f ends are
  followed-by (stops next) entries old new end f [] so later spare ends are = (
    spare,
    (f.0, f.1, f.2, refl),
    subst (λ (ps : List Plan). AreFetched (ps ++ later) spare old.remote last) (sym (ap plans_of f.0))
        (fetched-before later spare old.remote new.remote last (ap (λ (o : Outside). o.remote) f.1) are),
  )
  followed-by (stops next) entries old new end f (plan ∷ more) so later spare ends are = left (stops next) so.1 entries plan more later spare old new end so.0 f ends are
