-- A course that does what it owes has an answer for each reply that its commands can get.
use Rattle.std.proofs.Common.{◌≡◌, ◌≢◌, ◌⊎◌, inl, inr, ℕ, zero, suc, ◌+◌, Bool, true, false, List, [], ◌∷◌, ◌++◌, length, map, Option, Some, None, is_some, Result, Ok, Err, IfOk, arith, refl, sym, subst, ap, ◌∙◌, bytes_eq, length-append, zero-add}
use Rattle.std.specs.Option.{option_map_or}
use Rattle.std.specs.Prelude.{IsSome, IsTrue, ◌==◌, cond, find, if◌then◌else◌}
use Rattle.std.proofs.lemmas.Bool.{false≢true}
use Rattle.std.proofs.lemmas.Option.{none-some}
use Rattle.fetch_plan.specs.declared.Outcome.{Outcome as Came}
use Rattle.fetch_plan.specs.declared.Outcome.TheVariants as came
use Rattle.fetch_plan.specs.declared.Plan.{Plan}
use Rattle.http_wire.specs.declared.faults.HeadFault.{HeadFault}
use Rattle.http_wire.specs.declared.faults.HeadFault.TheVariants.{Broken, TooLong}
use Rattle.mvn_coords.specs.declared.fault.PathFault.{PathFault}
use Rattle.mvn_coords.specs.declared.kind.Kind.{Kind}
use Rattle.mvn_coords.specs.declared.kind.Kind.TheVariants.{File, FileSide, Doc, DocSide}
use Rattle.mvn_coords.specs.Kind.{kind}
use Rattle.mvn_coords.specs.Layout.{text_of}
use Rattle.mvn_digest.specs.Digests.{digests_of}
use Rattle.mvn_digest.specs.Sides.{side_text}
use Rattle.outside.specs.declared.faults.BlobFault.TheVariants as unstored
use Rattle.remote_fetch.specs.declared.contents.Content.{Content}
use Rattle.remote_fetch.specs.declared.contents.Content.TheVariants as content
use Rattle.remote_fetch.specs.declared.fetching.Checked.{Checked}
use Rattle.repo_model.specs.Asking.{IsPlan, members_of}
use Rattle.repo_model.specs.Command.{Command, look, done, land, group_rule_of, is_there}
use Rattle.repo_model.specs.Data.{Blob, Hosted, Row}
use Rattle.repo_model.specs.Fetched.{Landing, got_file}
use Rattle.repo_model.specs.History.{Entry, Fits, IsReply, due as due_reply, wants_memory, failed}
use Rattle.repo_model.specs.Effect.{lends}
use Rattle.repo_model.specs.Reply.{Reply, file, missed, fetches, landed, no_memory, spent, store_fault}
use Rattle.repo_model.specs.Settings.{GroupRule, Rule, Settings}
use Rattle.repo_model.specs.State.{State, Yard, hosted_of, is_repository, number_end, row_at}
use Rattle.repo_model.specs.Turn.{Turn, says as turn_says, Seen, is_file, is_text, is_doc, is_to_fetch, directory_of, document_text, group_seen, look_at, member_seen, or_nothing, seen_at, shows, turn}
use Rattle.repo_laws.specs.Sound.{Sound}
use Rattle.repo_laws.proofs.Cases.{Case, misses, turn-case}
use Rattle.repo_laws.proofs.Plans.{look-plans}
use Rattle.repo_routes.specs.Intent.{Intent, reads as reads_path, Judged}
use Rattle.repo_routes.specs.Judge.{IsIntent, IsJudged}
use Rattle.repo_routes.specs.Routes.{sort_of}
use Rattle.repo_routes.specs.declared.intent.Sort.{Sort}
use Rattle.repo_routes.specs.declared.intent.Sort.TheVariants as sorts
use Rattle.repo_routes.specs.declared.judging.Refused.{Refused}
use Rattle.repo_course.specs.declared.fetched.FetchFault.{FetchFault}
use Rattle.repo_course.specs.declared.fetched.Verdict.{Verdict}
use Rattle.repo_course.specs.declared.fetched.Verdict.TheVariants as verdict
use Rattle.repo_course.specs.declared.mode.ResponseMode.{ResponseMode}
use Rattle.repo_course.specs.declared.outcomes.Sent.{Sent}
use Rattle.repo_course.specs.declared.outcomes.Sent.TheVariants as sent
use Rattle.repo_course.specs.declared.response.Response.{Response}
use Rattle.repo_course.specs.declared.response.Response.TheVariants.{NoMemory}
use Rattle.repo_course.specs.Course.{Close, Course, Kept, asks, does, says, stops, speaks, send_file, fetch, store_fetched, after_fetch, after_land, after_look, after_store, answers, closes, course_of, fetch_fault, fetched, gives_any_up, is_group, lands, looks, mode_for, of_sent, of_store, refuses_head, rounds_of, response_missed, response_of, stores, tells, with_fault}
use Rattle.repo_course.specs.Meets.{IsOfPlan}
use Rattle.course_laws.specs.Complete.{HadRoom, IsAnswer, IsComplete, HadRoomBy}
use Rattle.course_laws.specs.Duties.{Keeps, MayAsk, Rounds, Stand, at_first, due_after, for_text, left_by, most_for, no_rounds, stand_after, stand_done, target_of}
use Rattle.course_laws.proofs.Kept.{judged-keeps}
use Rattle.course_laws.proofs.Rounds.{AreOnce, AreBelow, below-last, once-last, one-is-left}
use Rattle.repo_course.specs.IoActions.{Sequel, goes_on, by_its_text, ends_by, sequel, rests}
use Rattle.course_laws.specs.IoActions.{due_behind}
use Rattle.course_laws.proofs.Unsent.{text-due}

-- what is due is no running out of memory
abbrev IsHeard : Option Close → Type 0
IsHeard (Some (speaks said)) = IsAnswer said
IsHeard due = Unit {0}

-- a fetch may still come
abbrev one_round : Rounds
one_round = record no_rounds { left = 1 }

fault-heard : (c : Command) (due : Option Close) → IsHeard due → IsHeard (due_after one_round c store_fault due)
fault-heard (done lease) due h = h
fault-heard _ due h = (assumption)

sequel-heard : (by_text : List ℕ → Option Close) → ((bytes : List ℕ) → IsHeard (by_text bytes)) → (next : Sequel) → HadRoomBy next → (due : Option Close)
    → IsHeard due → IsHeard (due_behind by_text next due)
sequel-heard by_text texts goes_on room due h = h
sequel-heard by_text texts (by_its_text bytes) room due h = texts bytes
sequel-heard by_text texts (ends_by (speaks said)) room due h = room
sequel-heard by_text texts (ends_by (rests end)) room due h = tt

module _ (settings : Settings) where
  case-heard : (s : State) (now : ℕ) (c : Command) (t : Turn) → Case settings s now c t → (due : Option Close) → IsHeard due → IsHeard (due_after one_round c t.reply due)
  case-heard s now c t (misses repo path tried) due h = tt
  case-heard s now c t case due h = (assumption)

  reply-heard : (s : State) (e : Entry) → Fits settings s e → e.reply ≢ no_memory → (due : Option Close) → IsHeard due → IsHeard (due_after one_round e.command e.reply due)
  reply-heard s e fits some due h = by fits.reply
    where
      by : IsReply settings s e → IsHeard (due_after one_round e.command e.reply due)
      by (due_reply is did) =
          subst (λ r. IsHeard (due_after one_round e.command r due)) (sym is)
          (case-heard s e.moment e.command (turn settings s e.moment e.command) (turn-case settings s e.moment e.command) due h)
      by (wants_memory is can did) = absurd (some is)
      by (failed is can rose) = subst (λ r. IsHeard (due_after one_round e.command r due)) (sym is) (fault-heard e.command due h)

  -- the reply to a command of a course, which is answered
  entry-heard : (command : Command) (s : State) (e : Entry) → Fits settings s e → e.command ≡ command → e.reply ≢ no_memory → (due : Option Close) → IsHeard due
      → IsHeard (due_after one_round command e.reply due)
  entry-heard command s e fits is some due h = subst (λ (c : Command). IsHeard (due_after one_round c e.reply due)) is (reply-heard s e fits some due h)

  -- what is answered to a command that is no look does not depend on fetches
  abbrev IsNoLook : Command → Type 0
  IsNoLook (look repo path tried) = ⊥
  IsNoLook command = Unit {0}

  any-rounds : (r : Rounds) (command : Command) (reply : Reply) (due : Option Close) → IsNoLook command → due_after one_round command reply due ≡ due_after r command reply due
  any-rounds r (look repo path tried) reply due other = absurd other
  any-rounds r command reply due other = refl

  no-look : (command : Command) (s : Stand) → s.target ≡ None → MayAsk command s → IsNoLook command
  no-look (look repo path tried) s none may = absurd (none-some (repo, path) (sym none ∙ may.4))
  no-look command s none may = tt

  -- a course that looks at nothing
  module _ (by_text : List ℕ → Option Close) (texts : (bytes : List ℕ) → IsHeard (by_text bytes)) (mode : ResponseMode) where
    keeps-complete : (c : Course) (n : ℕ) (s : Stand) → Keeps by_text mode c n s → s.target ≡ None → IsHeard s.due → IsComplete settings c
    keeps-complete (asks command next) zero s k none h = absurd k
    keeps-complete (asks command next) (suc n) s k none h = λ st e sound fits is some.
        keeps-complete (next e.reply) n (stand_after command e.reply s) (k.1 e.reply) none
        (subst IsHeard (any-rounds s.rounds command e.reply s.due (no-look command s none k.0)) (entry-heard command st e fits is some s.due h))
    keeps-complete (does io_action next) n s k none h = λ outcome room gives.
        keeps-complete (next outcome) (left_by io_action n) (stand_done by_text io_action outcome s) (k.2 outcome) none (sequel-heard by_text texts (sequel io_action outcome) room s.due h)
    keeps-complete (says said own) n s k none h = subst IsHeard k.1 h
    keeps-complete (stops end) n s k none h = tt

  -- a look, and all that may follow it

  answers-complete : (mode : ResponseMode) (said : Response) → IsAnswer said → IsComplete settings (answers mode said)
  answers-complete mode NoMemory is = absurd is
  answers-complete mode said is = is

  any-up-complete : (under : Option ℕ) (c : Course) → IsComplete settings c → IsComplete settings (gives_any_up under c)
  any-up-complete None c is = is
  any-up-complete (Some n) c is = λ st e sound fits same some. is

  sent-complete : (blob : Blob) (mode : ResponseMode) (result : Sent) → HadRoom (send_file blob mode) result → IsComplete settings (closes mode (of_sent mode result))
  sent-complete blob mode sent.NoMemory room = absurd room
  sent-complete blob mode _ room = tt

  missed-answer : (so_far : Verdict) → IsAnswer (response_missed so_far)
  missed-answer (verdict.Unasked of_group) = tt
  missed-answer (verdict.Gone of_group) = elim of_group as (λ b. IsAnswer (response_missed (verdict.Gone b))) [ true ↦ tt | false ↦ tt ]
  missed-answer (verdict.First why) = tt

  -- what follows a look, where this follows a plan that comes
  look-complete : (repo path tried : List ℕ) (mode : ResponseMode) (so_far : Verdict) (behind : Plan → Course) (reply : Reply)
      → IsHeard (due_after one_round (look repo path tried) reply None) → ((plan : Plan) → reply ≡ fetches plan → IsComplete settings (behind plan))
      → IsComplete settings (after_look mode so_far behind reply)
  look-complete repo path tried mode so_far behind (file lease blob) heard plans = λ result room gives st e sound fits same some. sent-complete blob mode result room
  look-complete repo path tried mode so_far behind missed heard plans = answers-complete mode (response_missed so_far) (missed-answer so_far)
  look-complete repo path tried mode so_far behind (fetches plan) heard plans = plans plan refl
  look-complete repo path tried mode so_far behind reply heard plans = answers-complete mode (response_of reply) heard

  module _ (mode : ResponseMode) (plan : Plan) (again : Course) (rest : IsComplete settings again) where
    landed-complete : (outcome : Landing) (reply : Reply) → IsHeard (due_after one_round (land plan outcome) reply None) → IsComplete settings (after_land mode plan.draft again reply)
    landed-complete outcome landed heard = rest
    landed-complete outcome reply heard = any-up-complete plan.draft (tells mode reply) (answers-complete mode (response_of reply) heard)

    land-complete : (outcome : Landing) → IsComplete settings (lands mode plan again outcome)
    land-complete outcome = λ st e sound fits is some. landed-complete outcome e.reply (entry-heard (land plan outcome) st e fits is some None tt)

    kept-complete : (n : ℕ) (checked : Checked) (kept : Kept) → HadRoom (store_fetched n checked) kept → IsComplete settings (after_store mode plan again kept)
    kept-complete n checked (Ok blob) room = land-complete (came.Got (got_file blob))
    kept-complete n checked (Err unstored.Failed) room = any-up-complete plan.draft (closes mode (of_store unstored.Failed)) tt
    kept-complete n checked (Err unstored.NoMemory) room = absurd room

    stores-complete : (checked : Checked) (under : Option ℕ) → IsSome under → IsComplete settings (stores mode plan again checked under)
    stores-complete checked None some = absurd (false≢true some)
    stores-complete checked (Some n) some = λ kept room gives. kept-complete n checked kept room

    came-complete : (outcome : Came Content) → IsOfPlan plan (Some outcome) → IsComplete settings (fetched mode plan again outcome)
    came-complete (came.Got (content.File checked)) is = stores-complete checked plan.draft is.0
    came-complete _ is = land-complete _

  round-complete : (mode : ResponseMode) (plan : Plan) (again : Option FetchFault → Course) → ((why : Option FetchFault) → IsComplete settings (again why))
      → IsComplete settings (does (fetch plan) (after_fetch mode plan again))
  round-complete mode plan again rest None room gives = absurd room
  round-complete mode plan again rest (Some outcome) room gives = came-complete mode plan (again (fetch_fault outcome)) (rest (fetch_fault outcome)) outcome gives

  -- a plan comes only in a state in which one is replied
  plan-comes : (st : State) (e : Entry) (repo path tried : List ℕ) (plan : Plan) → Fits settings st e → e.command ≡ look repo path tried → e.reply ≡ fetches plan
      → (turn settings st e.moment (look repo path tried)).reply ≡ fetches plan
  plan-comes st e repo path tried plan fits is comes = by fits.reply
    where
      by : IsReply settings st e → (turn settings st e.moment (look repo path tried)).reply ≡ fetches plan
      by (due_reply replied did) = ap (λ (c : Command). (turn settings st e.moment c).reply) (sym is) ∙ sym replied ∙ comes
      by (wants_memory replied can did) = let no : no_memory ≡ fetches plan = sym replied ∙ comes in absurd (cc)
      by (failed replied can rose) = let no : store_fault ≡ fetches plan = sym replied ∙ comes in absurd (cc)

  -- a hosted repository that the settings have is there
  hosted-found : (rules : List Rule) (hosted : List Hosted) (id : List ℕ) → map (λ (h : Hosted). h.rule) hosted ≡ rules
      → is_some (find (λ (rule : Rule). bytes_eq rule.id id) rules) ≡ is_some (find (is_repository id) hosted)
  hosted-found rules hosted id is = ap (λ (rs : List Rule). is_some (find (λ (rule : Rule). bytes_eq rule.id id) rs)) (sym is) ∙ over hosted
    where
      over : (hs : List Hosted) → is_some (find (λ (rule : Rule). bytes_eq rule.id id) (map (λ (h : Hosted). h.rule) hs)) ≡ is_some (find (is_repository id) hs)
      over [] = refl
      over (h ∷ hs) =
          elim (bytes_eq h.rule.id id) as (λ b. is_some (cond b (Some h.rule) (find (λ (rule : Rule). bytes_eq rule.id id) (map (λ (x : Hosted). x.rule) hs)))
          ≡ is_some (cond b (Some h) (find (is_repository id) hs))) [ true ↦ refl | false ↦ over hs ]

  -- what hosted rows have is never to be fetched
  abbrev IsNoPlan : Seen → Type 0
  IsNoPlan (is_to_fetch member rule at of_file) = ⊥
  IsNoPlan seen = Unit {0}

  or-no-plan : {A : Type 0} (f : A → Seen) (found : Option A) → ((x : A) → IsNoPlan (f x)) → IsNoPlan (or_nothing f found)
  or-no-plan f None each = tt
  or-no-plan f (Some x) each = each x

  rows-no-plan : (rows : List Row) (path : List ℕ) (k : Result Kind PathFault) → IsNoPlan (seen_at rows path k)
  rows-no-plan rows path (Ok (File c)) = or-no-plan (λ (row : Row). is_file row.blob) (row_at path rows) (λ row. tt)
  rows-no-plan rows path (Ok (FileSide c side)) = or-no-plan (λ (row : Row). is_text (side_text side row.blob.print.digests)) (row_at (text_of c) rows) (λ row. tt)
  rows-no-plan rows path (Ok (Doc d)) = or-no-plan is_doc (document_text d rows) (λ bytes. tt)
  rows-no-plan rows path (Ok (DocSide d side)) = or-no-plan (λ bytes. is_text (side_text side (digests_of bytes))) (document_text d rows) (λ bytes. tt)
  rows-no-plan rows path (Err fault) = tt

  shown-no-plan : (yard : Yard) (seen : Seen) (plan : Plan) → IsNoPlan seen → (shows settings yard seen).reply ≡ fetches plan → ⊥
  shown-no-plan yard (is_file blob) plan none is =
      elim (yard.next_lease == number_end) as (λ b. (if b then turn_says spent else record { reply = file yard.next_lease blob; effects = lends blob.number ∷ [] }).reply ≡ fetches plan → ⊥) [
        | true ↦ λ e. cc
        | false ↦ λ e. cc
      ] is
  shown-no-plan yard (is_to_fetch member rule at of_file) plan none is = none
  shown-no-plan yard seen plan none is = cc

  no-plan : (s : State) (now : ℕ) (repo path tried : List ℕ) (plan : Plan) → map (λ (h : Hosted). h.rule) s.hosted ≡ settings.hosted → IsTrue (is_there repo settings)
      → (turn settings s now (look repo path tried)).reply ≡ fetches plan → ⊥
  no-plan s now repo path tried plan rules there is =
      shown-no-plan s.yard (look_at settings s now repo tried path) plan (found (hosted_of repo s) (sym (hosted-found settings.hosted s.hosted repo rules) ∙ there)) is
    where
      found : (o : Option Hosted) → is_some o ≡ true
          → IsNoPlan (option_map_or (λ (h : Hosted). seen_at h.rows path (kind path)) o
          (option_map_or (λ (g : GroupRule). group_seen s now tried path (kind path) g.members (directory_of (kind path))) (group_rule_of repo settings) (member_seen s now tried path (kind path) 0 repo)))
      found None some = absurd (false≢true some)
      found (Some h) some = rows-no-plan h.rows path (kind path)

  -- so many fetches may come: none at a hosted repository, and else one for each member that was not tried
  module _ (repo path : List ℕ) (mode : ResponseMode) where
    abbrev HasRounds : ℕ → List ℕ → Type 0
    HasRounds rounds tried =
        IsTrue (is_there repo settings) ⊎ (AreOnce tried × AreBelow (members_of repo settings) tried × (length tried + rounds ≡ members_of repo settings))

    -- no plan comes where no fetch may come
    no-plan-more : (st : State) (e : Entry) (tried : List ℕ) (plan : Plan) → Sound settings st → Fits settings st e → e.command ≡ look repo path tried → e.reply ≡ fetches plan
        → HasRounds 0 tried → ⊥
    no-plan-more st e tried plan sound fits is comes (inl there) =
        no-plan st e.moment repo path tried plan sound.rules there (plan-comes st e repo path tried plan fits is comes)
    no-plan-more st e tried plan sound fits is comes (inr left) =
        let planned : IsPlan settings repo tried plan = look-plans settings st e.moment sound.proxies repo path tried plan (plan-comes st e repo path tried plan fits is comes) in
        let fewer = one-is-left (members_of repo settings) plan.member tried left.0 left.1 planned.fresh planned.below in
        let all = left.2 in omega (arith, fewer, all)

    one-more-tried : (st : State) (e : Entry) (n : ℕ) (tried : List ℕ) (plan : Plan) → Sound settings st → Fits settings st e → e.command ≡ look repo path tried → e.reply ≡ fetches plan
        → HasRounds (suc n) tried → HasRounds n (tried ++ plan.member ∷ [])
    one-more-tried st e n tried plan sound fits is comes (inl there) = inl there
    one-more-tried st e n tried plan sound fits is comes (inr left) =
        let planned : IsPlan settings repo tried plan = look-plans settings st e.moment sound.proxies repo path tried plan (plan-comes st e repo path tried plan fits is comes) in
        let all = left.2 in
        let more = length-append tried (plan.member ∷ []) in
        inr (once-last plan.member tried left.0 planned.fresh, below-last (members_of repo settings) plan.member tried left.1 planned.below, omega (arith, all, more))

    looks-complete : (rounds : ℕ) (tried : List ℕ) (so_far : Verdict) → HasRounds rounds tried → IsComplete settings (looks mode rounds repo path tried so_far)
    looks-complete zero tried so_far left = λ st e sound fits is some.
        look-complete repo path tried mode so_far _ e.reply (entry-heard (look repo path tried) st e fits is some None tt)
        (λ plan comes. absurd (no-plan-more st e tried plan sound fits is comes left))
    looks-complete (suc n) tried so_far left = λ st e sound fits is some.
        look-complete repo path tried mode so_far _ e.reply (entry-heard (look repo path tried) st e fits is some None tt)
        (λ plan comes. round-complete mode plan (λ why. looks mode n repo path (tried ++ plan.member ∷ []) (with_fault so_far why))
        (λ why. looks-complete n (tried ++ plan.member ∷ []) (with_fault so_far why) (one-more-tried st e n tried plan sound fits is comes left)))

    -- before the first look
    first-rounds : HasRounds (rounds_of (sort_of repo settings)) []
    unfolding sort_of
    first-rounds = pick (is_there repo settings) refl (group_rule_of repo settings)
      where
        pick : (there : Bool) → is_there repo settings ≡ there → (group : Option GroupRule) → IsTrue (is_there repo settings) ⊎ (Unit {0} × Unit {0}
            × (0 + rounds_of (if there then sorts.Hosted else option_map_or (λ (g : GroupRule). sorts.Group (length g.members)) group sorts.Proxy) ≡ option_map_or (λ (g : GroupRule). length g.members) group 1))
        pick true is group = inl is
        pick false is None = inr (tt, tt, refl)
        pick false is (Some g) = inr (tt, tt, zero-add (length g.members))

pub no-head-complete : (settings : Settings) (fault : HeadFault) → IsComplete settings (refuses_head fault)
no-head-complete settings Broken = tt
no-head-complete settings TooLong = tt

intent-complete : (settings : Settings) (request : Judged) (last : Bool) (intent : Intent) → request.intent ≡ intent → IsIntent settings intent → IsComplete settings (course_of (Ok request) last)
intent-complete settings request last (reads_path repo path of_sort) is kept =
    subst (λ (i : Intent). IsComplete settings (course_of (Ok (record request { intent = i })) last)) (sym is)
    (looks-complete settings repo path (mode_for request last) (rounds_of of_sort) [] (verdict.Unasked (is_group of_sort))
    (subst (λ (x : Sort). HasRounds settings repo path (mode_for request last) (rounds_of x) []) (sym kept.2) (first-rounds settings repo path (mode_for request last))))
intent-complete settings request last intent is kept =
    keeps-complete settings (for_text request.intent) (text-due IsHeard tt tt (λ at. tt) request.intent) (mode_for request last) (course_of (Ok request) last) (most_for request.intent) (at_first request.expects request.intent)
    (judged-keeps (Ok request) last) (ap target_of is) tt

pub judged-complete : (settings : Settings) (judged : Result Judged Refused) (last : Bool) → IfOk judged (IsJudged settings) → IsComplete settings (course_of judged last)
judged-complete settings (Ok request) last kept = intent-complete settings request last request.intent refl kept
judged-complete settings (Err refused) last kept = tt
