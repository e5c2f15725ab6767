-- A stream is served as it is played, up to where memory is wanted or the source or the sink fails, if nothing else fails.
use Rattle.std.proofs.Common.{◌≡◌, ◌⊎◌, ℕ, zero, suc, Bool, true, false, arith, inl, inr, List, [], ◌++◌, Option, Some, None, Result, Ok, Err, refl, sym, subst, ap, ◌∙◌, append_assoc, append-nil}
use Rattle.std.specs.Prelude.{◌==◌}
use Rattle.std.proofs.lemmas.Bool.{false≢true}
use Rattle.std.proofs.lemmas.Option.{none-some}
use Rattle.fetch_plan.specs.declared.Plan.{Plan}
use Rattle.outside.specs.Faults.{Rose}
use Rattle.http_wire.specs.Answer.{continue_bytes, shown}
use Rattle.outside_remote.specs.Exchanges.{Sees}
use Rattle.http_wire.specs.Front.{Front, Clean, Cut, Bad, Whole, front}
use Rattle.http_wire.specs.Head.{Head}
use Rattle.repo_model.specs.History.{Entry, Legal, end as end_of}
use Rattle.repo_model.specs.Settings.{Settings}
use Rattle.repo_model.specs.State.{State}
use Rattle.repo_routes.specs.Framing.{is_head}
use Rattle.repo_routes.specs.Intent.{Judged}
use Rattle.repo_routes.specs.Judge.{judge}
use Rattle.repo_routes.specs.declared.judging.Refused.{Refused}
use Rattle.repo_course.specs.Answers.{at_end, memory_answer}
use Rattle.repo_course.specs.Course.{Close, Course, speaks, rests, course_of, head_said}
use Rattle.repo_course.specs.declared.mode.ResponseMode.{ResponseMode}
use Rattle.repo_course.specs.declared.outcomes.End.{End}
use Rattle.repo_course.specs.declared.outcomes.End.TheVariants as stream
use Rattle.repo_course.specs.Serving.{Begins, IsFrontOf, IsWhole, Opens, clean, torn, failed, refused, unread_head, starved, served, Outside, ServesStream, RequestTurn}
use Rattle.course_laws.specs.AsPlayed.{AreFetched, plans_of, AsksHead, BeginsAt, IsAnswers, IsAsPlayed, in_full, wants_memory, IsPlayedUpTo, unbroken, broken, cut_starved, NoFaults, StoodStill}
use Rattle.course_laws.specs.Duties.{Duty, Fulfils, Stand, duty_of, to_end}
use Rattle.course_laws.specs.Faultless.{Played, Scene, play, play_turn, play_stream, then_play}
use Rattle.course_laws.proofs.Counts.{follows-grew, opens-grew, serves-grew, turn-grew}
use Rattle.course_laws.proofs.Early.{ComesTo, Ready, early-before, no-more, outcome-before, outcome-so, says-memory, source-failed}
use Rattle.course_laws.proofs.HeadOnly.{judged-head}
use Rattle.course_laws.proofs.Kept.{duty_at, opens-keeps}
use Rattle.course_laws.proofs.LeftBehind.{end_append, legal_cut}
use Rattle.course_laws.proofs.Fetched.{Fetched, FollowsBy, IsLast, fetched-before, followed-by, plain, plans-joined}
use Rattle.course_laws.proofs.Planned.{opens-plan}
use Rattle.course_laws.proofs.Remotes.{opens-still}
use Rattle.course_laws.proofs.PlayedCourse.{course-play}
use Rattle.course_laws.proofs.Told.{faults-grow}
use Rattle.course_laws.proofs.Unsent.{MayStarve}
use Rattle.course_laws.proofs.IoActions.{InHandTold}
use Rattle.course_laws.proofs.Rising.{Calm, NoneFell, calm-first, calm-then, not-risen, rose-before, calm-of}

-- an answer to this is its head alone only to HEAD
abbrev MayBeAlone : Front → Bool → Type 0
MayBeAlone f alone = alone ≡ true → AsksHead f

-- what may have been written of such a request when memory is wanted
abbrev AtTurn : Front → Bool → List ℕ → Type 0
AtTurn f alone written = MayBeAlone f alone × ((written ≡ []) ⊎ (written ≡ continue_bytes))

at-turn : (f : Front) (mode : ResponseMode) → MayBeAlone f mode.head_only → (s : Stand) (alone : Bool) (written : List ℕ) → MayStarve mode s alone written → AtTurn f alone written
at-turn f mode asks s alone written may = (λ is. asks (sym may.0 ∙ is), elim may.1.1 [ inl e ↦ inl e | inr e ↦ inr e.1 ])

at-once-so : (f : Front) → AtTurn f false []
at-once-so f = (λ is. absurd (false≢true is), inl refl)

asks-head : (f : Front) (head : Head) (rest : Option (List ℕ)) → IsWhole head rest f → is_head head ≡ true → AsksHead f
asks-head (Whole what behind) head rest comes is = ap is_head comes.0 ∙ is
asks-head _ head rest comes is = absurd comes

module _ (settings : Settings) (left : ℕ) (scene : Scene) where
  -- the first request, and a stream after it
  abbrev First : Played (Option End)
  First = play_turn settings (left == 0) (front scene.input) scene

  abbrev Behind : Option End → Played End
  Behind end = then_play (play_stream settings left) end First.written First.scene

  -- a front of what is after the first request is one of the whole
  front-after : (none : None ≡ First.end) (written : List ℕ) → IsFrontOf written (play_stream settings left First.scene).written
      → IsFrontOf (First.written ++ written) (Behind First.end).written
  front-after none written is-front =
      subst (λ e. IsFrontOf (First.written ++ written) (Behind e).written) none
      (is-front.0, ap (λ b. First.written ++ b) is-front.1 ∙ sym (append_assoc First.written written is-front.0))

  wrote-played : None ≡ First.end → (before : List ℕ) (output : Option (List ℕ)) (end : End)
      → IsAsPlayed settings left First.scene (before ++ First.written) output end → IsAsPlayed settings (suc left) scene before output end
  unfolding play_stream IsAnswers
  wrote-played none before output end (in_full out ends) =
      in_full
      (subst (λ e. output ≡ Some (before ++ (Behind e).written)) none
      (subst (λ b. output ≡ Some b) (append_assoc before First.written (play_stream settings left First.scene).written) out))
      (subst (λ e. end ≡ (Behind e).end) none ends)
  wrote-played none before output end (wants_memory written head_only is-front answers out ends) =
      wants_memory (First.written ++ written) head_only (front-after none written is-front) (inr (written, sym none, refl, answers))
      (subst (λ b. output ≡ Some (b ++ shown (memory_answer head_only))) (append_assoc before First.written written) out) ends

  wrote-upto : None ≡ First.end → (before : List ℕ) (old new : Outside) (end : End)
      → IsPlayedUpTo settings left First.scene (before ++ First.written) old new end → IsPlayedUpTo settings (suc left) scene before old new end
  unfolding play_stream IsAnswers
  wrote-upto none before old new end (unbroken played) = unbroken (wrote-played none before new.output end played)
  wrote-upto none before old new end (broken written is-front out broke) =
      broken (First.written ++ written) (front-after none written is-front)
      (subst (λ b. new.output ≡ Some b) (append_assoc before First.written written) out) broke
  wrote-upto none before old new end (cut_starved written part head_only is-front answers is-part out ends rose) =
      cut_starved (First.written ++ written) part head_only (front-after none written is-front) (inr (written, sym none, refl, answers)) is-part
      (subst (λ b. new.output ≡ Some (b ++ part)) (append_assoc before First.written written) out) ends rose

-- seen from an earlier world
upto-before : (settings : Settings) (n : ℕ) (scene : Scene) (before : List ℕ) (old mid new : Outside) (end : End) → NoneFell old mid
    → IsPlayedUpTo settings n scene before mid new end → IsPlayedUpTo settings n scene before old new end
upto-before settings n scene before old mid new end g (unbroken played) = unbroken played
upto-before settings n scene before old mid new end g (broken written is-front out broke) =
    broken written is-front out (elim broke [
      | inl s ↦ inl (s.0, rose-before old.read_faults mid.read_faults new.read_faults g.reads s.1)
      | inr s ↦ inr (s.0, rose-before old.write_faults mid.write_faults new.write_faults g.writes s.1)
    ])
upto-before settings n scene before old mid new end g (cut_starved written part head_only is-front answers is-part out ends rose) =
    cut_starved written part head_only is-front answers is-part out ends (rose-before old.write_faults mid.write_faults new.write_faults g.writes rose)

-- what was written before the stream goes on is in front
front-then : (next : Scene → Played End) (e : Option End) (written : List ℕ) (scene : Scene)
    → (rest : List ℕ) × ((then_play next e written scene).written ≡ written ++ rest)
front-then next None written scene = ((next scene).written, refl)
front-then next (Some end) written scene = ([], sym (append-nil written))

same-Some : (a b : End) → Some a ≡ Some b → a ≡ b
same-Some a b is = cc

-- at first no blob is in hand
first-in-hand : (judged : Result Judged Refused) (last : Bool) → InHandTold (duty_of judged last).stand
first-in-hand (Ok request) last = (tt, tt, tt)
first-in-hand (Err cause) last = (tt, tt, tt)

module _ (settings : Settings) (tells : Type 0) (witness : tells) where
  -- a turn, and a stream, by what its fetches come to
  abbrev TurnBy : Bool → List Entry → Fetched → Fetched → Outside → Outside → Option End → Type 0
  TurnBy last entries coming spare old new end =
      (c : Course) × (mid : Outside) × Opens settings last old mid c × FollowsBy tells c entries coming spare mid new end

  abbrev ServesBy : ℕ → List Entry → Fetched → Fetched → Outside → Outside → End → Type 0
  ServesBy zero entries coming spare old new end = (entries ≡ []) × (new ≡ old) × (end ≡ stream.TurnLimit)
  ServesBy (suc left) entries coming spare old new end =
      TurnBy (left == 0) entries coming spare old new (Some end)
      ⊎ ((first rest : List Entry) × (mid : Outside) × (entries ≡ first ++ rest)
      × (unused : Fetched) × TurnBy (left == 0) first coming unused old mid None × ServesBy left rest unused spare mid new end)

  plain-turn : (last : Bool) (entries : List Entry) (coming spare : Fetched) (old new : Outside) (end : Option End) → TurnBy last entries coming spare old new end
      → RequestTurn settings tells last entries old new end
  plain-turn last entries coming spare old new end t = (t.0, t.1, t.2, plain tells t.0 entries coming spare t.1 new end t.3)

  plain-serves : (n : ℕ) (entries : List Entry) (coming spare : Fetched) (old new : Outside) (end : End) → ServesBy n entries coming spare old new end
      → ServesStream settings tells n entries old new end
  unfolding ServesStream
  plain-serves zero entries coming spare old new end t = t
  plain-serves (suc left) entries coming spare old new end (inl turn) = inl (plain-turn (left == 0) entries coming spare old new (Some end) turn)
  plain-serves (suc left) entries coming spare old new end (inr t) =
      inr (t.0, t.1, t.2, t.3, plain-turn (left == 0) t.0 coming t.4 old t.2 None t.5, plain-serves left t.1 t.4 spare t.2 new end t.6)

  module _ (end-seen : Sees) where
    turn-by : (last : Bool) (entries : List Entry) (old new : Outside) (end : Option End) → RequestTurn settings tells last entries old new end → (later : List Plan) (spare : Fetched)
        → IsLast later spare end → AreFetched later spare new.remote end-seen
        → (coming : Fetched) × TurnBy last entries coming spare old new end × AreFetched (plans_of entries ++ later) coming old.remote end-seen
    turn-by last entries old new end (c, mid, o, f) later spare ends are =
        let by = followed-by tells end-seen c entries mid new end f [] (opens-plan settings last old mid c o) later spare ends are in
        (by.0, (c, mid, o, by.1), fetched-before (plans_of entries ++ later) by.0 old.remote mid.remote end-seen (opens-still settings last old mid c o) by.2)

    -- after the end nothing is fetched
    serves-by : (n : ℕ) (entries : List Entry) (old new : Outside) (end : End) → ServesStream settings tells n entries old new end
        → new.remote ≡ end-seen → (coming : Fetched) × ServesBy n entries coming [] old new end × AreFetched (plans_of entries) coming old.remote end-seen
    unfolding ServesStream
    serves-by zero entries old new end t is =
        ([], t, subst (λ (ps : List Plan). AreFetched ps [] old.remote end-seen) (sym (ap plans_of t.0)) (omega arith, sym is ∙ ap (λ (o : Outside). o.remote) t.1))
    serves-by (suc left) entries old new end (inl turn) is =
        let by = turn-by (left == 0) entries old new (Some end) turn [] [] (inr (refl, refl)) (omega arith, sym is) in
        (by.0, inl by.1, subst (λ (ps : List Plan). AreFetched ps by.0 old.remote end-seen) (append-nil (plans_of entries)) by.2)
    serves-by (suc left) entries old new end (inr t) is =
        let rest = serves-by left t.1 t.2 new end t.5 is in
        let by = turn-by (left == 0) t.0 old t.2 None t.4 (plans_of t.1) rest.0 (inl refl) rest.2 in (
          by.0,
          inr (t.0, t.1, t.2, t.3, rest.0, by.1, rest.1),
          subst (λ (ps : List Plan). AreFetched ps by.0 old.remote end-seen) (sym (ap plans_of t.3 ∙ plans-joined t.0 t.1)) by.2,
        )

  -- one turn, which uses so much of what its fetches come to
  module _ (coming spare : Fetched) where
    -- what the front of the input asks for
    abbrev Turned : Bool → Front → State → List ℕ → List ℕ → Outside → Outside → State → Option End → Type 0
    Turned last f st input before old new st' end = ComesTo spare (AtTurn f) before (play_turn settings last f (record { state = st; input = input; fetched = coming })) old new st' end

    -- a course after what was read, from where it stands
    played : (front_is : Front) (duty : Duty) → MayBeAlone front_is duty.mode.head_only → (c : Course) → Fulfils duty c → InHandTold duty.stand → (entries : List Entry) (st : State) → Legal settings st entries
        → Calm st.faults (end_of settings st entries).faults
        → (old mid new : Outside) (end : Option End) (input before : List ℕ) → Ready mid st input before → Calm mid.blob_faults new.blob_faults → NoneFell old mid
        → FollowsBy tells c entries coming spare mid new end → ComesTo spare (AtTurn front_is) before (play settings c (record { state = st; input = input; fetched = coming })) old new (end_of settings st entries) end
    played front_is duty asks c k hand entries st legal calm old mid new end input before ready quiet g f =
        outcome-before (AtTurn front_is) before _ old mid new _ end g
        (outcome-so (MayStarve duty.mode duty.stand) (AtTurn front_is) before _ mid new _ end (at-turn front_is duty.mode asks duty.stand)
        (course-play settings tells witness duty.by_text duty.mode c duty.most duty.stand k hand entries st legal calm mid new end input before coming spare ready quiet f))

    -- the source alone was read
    ready-on : (old mid : Outside) (st : State) (input behind before : List ℕ) (rest : Option (List ℕ)) → Ready old st input before → mid ≡ record old { input = rest }
        → rest ≡ Some behind → Ready mid st behind before
    ready-on old mid st input behind before rest ready on is = record {
      input_is = ap (λ o. o.input) on ∙ is;
      output_is = ap (λ o. o.output) on ∙ ready.output_is;
      rows = ready.rows;
      clock = ready.clock;
    }

    abbrev Plays-so : Front → Course → List ℕ → List ℕ → Outside → Outside → State → State → Option End → Type 0
    Plays-so f c input before old new st st' end = ComesTo spare (AtTurn f) before (play settings c (record { state = st; input = input; fetched = coming })) old new st' end

    served-turn : (last : Bool) (f : Front) (head : Head) (rest : Option (List ℕ)) → IsWhole head rest f
        → (old new : Outside) (st st' : State) (end : Option End) (input before : List ℕ)
        → ((behind : List ℕ) → rest ≡ Some behind → Plays-so f (course_of (judge settings head) last) behind before old new st st' end)
        → Turned last f st input before old new st' end
    served-turn last (Whole what behind) head rest comes old new st st' end input before done =
        subst (λ h. Plays-so (Whole what behind) (course_of (judge settings h) last) behind before old new st st' end) (sym comes.0) (done behind comes.1)
    served-turn last _ head rest comes old new st st' end input before done = absurd comes

    turn-play : (last : Bool) (entries : List Entry) (st : State) → Legal settings st entries → Calm st.faults (end_of settings st entries).faults
        → (old new : Outside) (end : Option End) (input before : List ℕ) → Ready old st input before → Calm old.blob_faults new.blob_faults
        → TurnBy last entries coming spare old new end → Turned last (front input) st input before old new (end_of settings st entries) end
    turn-play last entries st legal calm old new end input before ready quiet (c, mid, o, f) =
        opened c mid o f (opens-keeps settings last old mid c o) (opens-grew settings last old mid c o) (follows-grew tells c entries mid new end (plain tells c entries coming spare mid new end f))
      where
        quiet-after : (mid : Outside) → NoneFell old mid → NoneFell mid new → Calm mid.blob_faults new.blob_faults
        quiet-after mid g more = calm-then old.blob_faults mid.blob_faults new.blob_faults g.blobs more.blobs quiet

        comes : (head : Head) (rest : Option (List ℕ)) → Begins old.input (IsWhole head rest) → IsWhole head rest (front input)
        comes head rest begins = subst (λ (i : Option (List ℕ)). Begins i (IsWhole head rest)) ready.input_is begins

        -- nothing was used, and this course follows
        at-once : (what : Front) → Begins old.input (λ f. f ≡ what) → (mid : Outside) → mid ≡ old → (due : Close) (c d : Course)
            → c ≡ d → Fulfils (to_end due (at_end false)) c → FollowsBy tells c entries coming spare mid new end → NoneFell old mid → NoneFell mid new
            → ((scene : Scene) → play_turn settings last what scene ≡ play settings d scene)
            → Turned last (front input) st input before old new (end_of settings st entries) end
        at-once what begins mid still due c d is k f g more plays =
            let what-is = subst (λ (i : Option (List ℕ)). Begins i (λ f. f ≡ what)) ready.input_is begins in
            subst (λ f. Turned last f st input before old new (end_of settings st entries) end) (sym what-is)
            (subst (λ p. ComesTo spare (AtTurn what) before p old new (end_of settings st entries) end) (sym (plays (record { state = st; input = input; fetched = coming })))
            (subst (λ d. Plays-so what d input before old new st (end_of settings st entries) end) is
            (played what (to_end due (at_end false)) (at-once-so what).0 c k (tt, tt, tt) entries st legal calm old mid new end input before (ready-on old mid st input input before old.input ready still ready.input_is)
            (quiet-after mid g more) g f)))

        opened : (c : Course) (mid : Outside) (o : Opens settings last old mid c) → FollowsBy tells c entries coming spare mid new end → Fulfils (duty_at o) c
            → NoneFell old mid → NoneFell mid new → Turned last (front input) st input before old new (end_of settings st entries) end
        opened c mid (clean begins still is) f k g more = at-once Clean begins mid still (rests (Some stream.Closed)) c _ is k f g more (λ scene. refl)
        opened c mid (torn begins still is) f k g more = at-once Cut begins mid still (rests (Some stream.TornRequest)) c _ is k f g more (λ scene. refl)
        opened c mid (failed faults rose still is) f k g more =
            let last_is = subst (λ (d : Course). FollowsBy tells d entries coming spare mid new end) is f in
            inr (no-more (AtTurn (front input)) before _ [] old new end (_, refl)
            (ap (λ o. o.output) last_is.1 ∙ ap (λ o. o.output) still ∙ ready.output_is ∙ ap Some (sym (append-nil before)))
            (source-failed (AtTurn (front input)) [] old new end last_is.2
            (subst (λ n. Rose old.read_faults n) (sym (ap (λ o. o.read_faults) last_is.1 ∙ ap (λ o. o.read_faults) still)) rose)))
        opened c mid (refused fault begins still is) f k g more =
            at-once (Bad fault) begins mid still (speaks (head_said fault)) c _ is k f g more (λ scene. refl)
        opened c mid (unread_head begins still is) f k g more =
            let said = subst (λ (d : Course). FollowsBy tells d entries coming spare mid new end) is f in
            inr (early-before (AtTurn (front input)) before _ old mid new end g (says-memory (AtTurn (front input)) false (at-once-so (front input)) mid new end before _ said.1 (ap (λ o. o.output) still ∙ ready.output_is)))
        opened c mid (starved head rest begins uses is) f k g more =
            let said = subst (λ (d : Course). FollowsBy tells d entries coming spare mid new end) is f in
            inr (early-before (AtTurn (front input)) before _ old mid new end g (says-memory (AtTurn (front input)) (is_head head) (asks-head (front input) head rest (comes head rest begins), inl refl) mid new end before _ said.1 (ap (λ o. o.output) uses ∙ ready.output_is)))
        opened c mid (served head rest begins uses is) f k g more =
            served-turn last (front input) head rest (comes head rest begins)
            old new st (end_of settings st entries) end input before
            (λ behind there.
            subst (λ d. Plays-so (front input) d behind before old new st (end_of settings st entries) end) is
            (played (front input) (duty_of (judge settings head) last) (λ alone. asks-head (front input) head rest (comes head rest begins) (sym (judged-head settings head last) ∙ alone)) c k (first-in-hand (judge settings head) last) entries st legal calm old mid new end behind before
            (ready-on old mid st input behind before rest ready uses there) (quiet-after mid g more) g f))

    -- the stream ended in this turn
    last-turn : (left : ℕ) (scene : Scene) (before : List ℕ) (old new : Outside) (st : State) (end : End)
        → ComesTo spare (AtTurn (front scene.input)) before (First settings left scene) old new st (Some end) → IsPlayedUpTo settings (suc left) scene before old new end
    unfolding play_stream IsAnswers
    last-turn left scene before old new st end (inl a) =
        unbroken (in_full (subst (λ e. new.output ≡ Some (before ++ (Behind settings left scene e).written)) a.ends a.output)
        (subst (λ e. end ≡ (Behind settings left scene e).end) a.ends refl))
    last-turn left scene before old new st end (inr m) =
        let p = First settings left scene in
        let more = front-then (play_stream settings left) p.end p.written p.scene in
        let is-front : IsFrontOf m.front (Behind settings left scene p.end).written = (
          m.is_front.0 ++ more.0,
          more.1 ∙ ap (λ b. b ++ more.0) m.is_front.1 ∙ append_assoc m.front m.is_front.0 more.0,
        ) in
        let alone : m.part ≡ [] → new.output ≡ Some (before ++ m.front) =
        λ none. subst (λ b. new.output ≡ Some b) (ap (λ b. before ++ m.front ++ b) none ∙ append-nil (before ++ m.front)) m.output in
        let begun : (m.front ≡ []) ⊎ (m.front ≡ continue_bytes) → (m.front ≡ []) ⊎ ((m.front ≡ continue_bytes) × IsFrontOf continue_bytes p.written) =
        λ at. elim at [ inl e ↦ inl e | inr e ↦ inr (e, subst (λ b. IsFrontOf b p.written) e m.is_front) ] in
        elim m.why [
          | inl w ↦ unbroken (wants_memory m.front m.head_only is-front
              (inl (w.2.0, begun w.2.1))
              (subst (λ b. new.output ≡ Some (before ++ m.front ++ b)) w.0 m.output) (same-Some end stream.Closed w.1))
          | inr (inl s) ↦ broken m.front is-front (alone s.0) (inl (same-Some end stream.SourceFault s.1.0, s.1.1))
          | inr (inr s) ↦ elim s.0 [
            | inl none ↦ broken m.front is-front (alone none) (inr (same-Some end stream.SinkFault s.1.0, s.1.1))
            | inr cut ↦ cut_starved m.front m.part m.head_only is-front (inl (cut.1.0, begun cut.1.1)) cut.0 m.output (same-Some end stream.SinkFault s.1.0) s.1.1
          ]
        ]

    -- the stream goes on after this turn
    next-turn : (left : ℕ) (scene : Scene) (before : List ℕ) (old mid new : Outside) (st : State) (end : End) → NoneFell old mid
        → ComesTo spare (AtTurn (front scene.input)) before (First settings left scene) old mid st None
        → ((input before' : List ℕ) → Ready mid st input before' → IsPlayedUpTo settings left (record { state = st; input = input; fetched = spare }) before' mid new end)
        → IsPlayedUpTo settings (suc left) scene before old new end
    next-turn left scene before old mid new st end grows (inl a) rest =
        let p = First settings left scene in
        let g = a.goes refl in
        let done = rest p.scene.input (before ++ p.written) g.ready in
        wrote-upto settings left scene a.ends before old new end
        (upto-before settings left p.scene (before ++ p.written) old mid new end grows
        (subst (λ (x : Scene). IsPlayedUpTo settings left x (before ++ p.written) mid new end)
        (λ i. record { state = g.state i; input = p.scene.input; fetched = g.fetched i }) done))
    next-turn left scene before old mid new st end grows (inr m) rest =
        elim m.why [
          | inl w ↦ absurd (none-some stream.Closed w.1)
          | inr (inl s) ↦ absurd (none-some stream.SourceFault s.1.0)
          | inr (inr s) ↦ absurd (none-some stream.SinkFault s.1.0)
        ]

  stream-play : (n : ℕ) (entries : List Entry) (st : State) → Legal settings st entries → Calm st.faults (end_of settings st entries).faults
      → (old new : Outside) (end : End) (input before : List ℕ) (coming spare : Fetched) → Ready old st input before → Calm old.blob_faults new.blob_faults
      → ServesBy n entries coming spare old new end → IsPlayedUpTo settings n (record { state = st; input = input; fetched = coming }) before old new end
  unfolding play_stream
  stream-play zero entries st legal calm old new end input before coming spare ready quiet t =
      unbroken (in_full (ap (λ o. o.output) t.1 ∙ ready.output_is ∙ ap Some (sym (append-nil before))) t.2)
  stream-play (suc left) entries st legal calm old new end input before coming spare ready quiet (inl turn) =
      last-turn coming spare left (record { state = st; input = input; fetched = coming }) before old new (end_of settings st entries) end
      (turn-play coming spare (left == 0) entries st legal calm old new (Some end) input before ready quiet turn)
  stream-play (suc left) entries st legal calm old new end input before coming spare ready quiet (inr t) =
      let all = subst (λ (es : List Entry). Legal settings st es) t.3 legal in
      let cut = legal_cut settings st t.0 t.1 all in
      let mid-state = end_of settings st t.0 in
      let end-is : end_of settings st entries ≡ end_of settings mid-state t.1 = ap (end_of settings st) t.3 ∙ end_append settings st t.0 t.1 in
      let calm-all = subst (λ (x : State). Calm st.faults x.faults) end-is calm in
      let up = faults-grow settings t.0 st cut.0 in
      let more = faults-grow settings t.1 mid-state cut.1 in
      let mid = t.2 in
      let first = turn-grew tells settings (left == 0) t.0 old mid None (plain-turn (left == 0) t.0 coming t.4 old mid None t.5) in
      let later = serves-grew tells settings left t.1 mid new end (plain-serves left t.1 t.4 spare mid new end t.6) in
      next-turn coming t.4 left (record { state = st; input = input; fetched = coming }) before old mid new mid-state end first
      (turn-play coming t.4 (left == 0) t.0 st cut.0 (calm-first st.faults mid-state.faults (end_of settings mid-state t.1).faults more calm-all) old mid None input before ready
      (calm-first old.blob_faults mid.blob_faults new.blob_faults later.blobs quiet) t.5)
      (λ input' before' ready'.
      stream-play left t.1 mid-state cut.1 (calm-then st.faults mid-state.faults (end_of settings mid-state t.1).faults up more calm-all) mid new end input' before' t.4 spare ready'
      (calm-then old.blob_faults mid.blob_faults new.blob_faults first.blobs later.blobs quiet) t.6)

  pub stream-upto : (n : ℕ) (entries : List Entry) (st : State) → Legal settings st entries → StoodStill st.faults (end_of settings st entries).faults
      → (old new : Outside) (end : End) (input before : List ℕ) → BeginsAt st input before old → StoodStill old.blob_faults new.blob_faults
      → ServesStream settings tells n entries old new end
      → (coming : Fetched) × AreFetched (plans_of entries) coming old.remote new.remote × IsPlayedUpTo settings n (record { state = st; input = input; fetched = coming }) before old new end
  stream-upto n entries st legal records old new end input before begins calm served_so =
      let by = serves-by new.remote n entries old new end served_so refl in (
        by.0,
        by.2,
        stream-play n entries st legal (calm-of st.faults (end_of settings st entries).faults records) old new end input before by.0 []
            (record { input_is = begins.input_is; output_is = begins.output_is; rows = begins.rows; clock = begins.clock }) (calm-of old.blob_faults new.blob_faults calm) by.1,
      )

-- where nothing failed
unbroken-is : (settings : Settings) (n : ℕ) (scene : Scene) (before : List ℕ) (old new : Outside) (end : End) → NoFaults old new
    → IsPlayedUpTo settings n scene before old new end → IsAsPlayed settings n scene before new.output end
unbroken-is settings n scene before old new end calm (unbroken played) = played
unbroken-is settings n scene before old new end calm (broken written is-front out broke) =
    let reads = calm.reads in
    let writes = calm.writes in
    elim broke [
      | inl s ↦ absurd (not-risen old.read_faults new.read_faults s.1 (omega arith) (omega arith))
      | inr s ↦ absurd (not-risen old.write_faults new.write_faults s.1 (omega arith) (omega arith))
    ]
unbroken-is settings n scene before old new end calm (cut_starved written part head_only is-front answers is-part out ends rose) =
    let writes = calm.writes in
    absurd (not-risen old.write_faults new.write_faults rose (omega arith) (omega arith))

pub as-played : (settings : Settings) (tells : Type 0) → tells → (n : ℕ) (entries : List Entry) (st : State) → Legal settings st entries
    → StoodStill st.faults (end_of settings st entries).faults → (old new : Outside) (end : End) (input before : List ℕ) → BeginsAt st input before old
    → NoFaults old new → ServesStream settings tells n entries old new end
    → (coming : Fetched) × AreFetched (plans_of entries) coming old.remote new.remote × IsAsPlayed settings n (record { state = st; input = input; fetched = coming }) before new.output end
as-played settings tells told n entries st legal records old new end input before begins calm served_so =
    let by = stream-upto settings tells told n entries st legal records old new end input before begins calm.blobs served_so in
    (by.0, by.1, unbroken-is settings n (record { state = st; input = input; fetched = by.0 }) before old new end calm by.2)
