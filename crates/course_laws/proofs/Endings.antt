-- The count of the side whose failure ended a stream rose, and no other count of its sides; and few commands were asked.
use Rattle.std.proofs.Common.{◌≡◌, ℕ, zero, suc, ◌+◌, ◌*◌, ◌≤◌, Bool, true, false, cond, inl, inr, List, [], ◌∷◌, length, Option, Some, None, Ok, Err, arith, refl, sym, subst, ap, ◌∙◌, length-append, IfOk, Result}
use Rattle.std.proofs.lemmas.List.{length-map}
use Rattle.http_wire.specs.Head.{Head}
use Rattle.std.specs.Option.{option_map_or}
use Rattle.std.specs.Prelude.{◌==◌, ◌||◌, IsTrue, bytes_eq, find, is_some, max, if◌then◌else◌}
use Rattle.std.proofs.lemmas.Bool.{false≢true}
use Rattle.std.proofs.lemmas.Option.{none-some}
use Rattle.outside_remote.specs.Exchanges.{Sees}
use Rattle.http_wire.specs.declared.answers.Answer.{Answer}
use Rattle.outside.specs.Blobs.{Shelf}
use Rattle.outside.specs.Faults.{Rose}
use Rattle.repo_model.specs.Command.{Command, group_rule_of, is_known, is_there, proxy_rule_of}
use Rattle.repo_model.specs.History.{Entry}
use Rattle.repo_model.specs.Reply.{Reply}
use Rattle.repo_model.specs.Settings.{GroupRule, ProxyRule, Rule, Settings}
use Rattle.repo_course.specs.Answers.{answer_of, memory_answer}
use Rattle.repo_routes.specs.Intent.{Intent, Judged, reads as reads_path, cleans as cleans_all}
use Rattle.repo_routes.specs.Routes.{sort_of}
use Rattle.repo_routes.specs.declared.intent.Sort.{Sort}
use Rattle.repo_routes.specs.declared.intent.Sort.TheVariants as sorts
use Rattle.repo_routes.specs.Judge.{IsIntent, intent_of, judge, outcome_of}
use Rattle.repo_routes.proofs.KeptLemmas.{intent-kept}
use Rattle.repo_routes.specs.declared.judging.Refused.{Refused}
use Rattle.repo_routes.specs.declared.refusal.Refusal.{Refusal}
use Rattle.repo_course.specs.Course.{Close, Course, IoAction, Outcome, asks, does, says, stops, speaks, rests, clean_all, end_of, rounds_of}
use Rattle.repo_course.specs.declared.mode.ResponseMode.{ResponseMode}
use Rattle.repo_course.specs.declared.outcomes.End.{End}
use Rattle.repo_course.specs.declared.outcomes.End.TheVariants as stream
use Rattle.repo_course.specs.Serving.{Does, Follows, Opens, clean, torn, failed, refused, unread_head, starved, served, Outside, Says, whole, memory, cut, ServesStream, RequestTurn}
use Rattle.course_laws.specs.Duties.{Keeps, MayAsk, Stand, asked_by, due_after, due_done, duty_of, left_by, most_asked, most_for, most_members, most_rounds, stand_after, stand_done, twice}
use Rattle.course_laws.specs.Endings.{EndsByCause, NoneRose}
use Rattle.course_laws.proofs.Passes.{passes-few}
use Rattle.course_laws.proofs.Early.{due-moves, nothing-due, still-due}
use Rattle.course_laws.proofs.Kept.{duty_at, opens-keeps}
use Rattle.course_laws.proofs.Unsent.{IsUnsent, judged-unsent}
use Rattle.repo_course.specs.IoActions.{Sequel, goes_on, by_its_text, ends_by, sequel}
use Rattle.course_laws.specs.IoActions.{due_behind}
use Rattle.course_laws.proofs.IoActions.{Shows, ShowsBy, calm_shows, action-changes}

abbrev Caused : Option Close → Outside → Outside → Type 0
Caused (Some (rests end)) old now = Shows end old now
Caused due old now = NoneRose old now

-- seen from an earlier world, and to a later one, with the same counts
from_same : (end : End) (old mid new : Outside) → NoneRose old mid → EndsByCause end mid new → EndsByCause end old new
from_same stream.SourceFault old mid new n e = (subst (λ (k : ℕ). Rose k new.read_faults) n.0 e.0, e.1 ∙ n.1)
from_same stream.SinkFault old mid new n e = (e.0 ∙ n.0, subst (λ (k : ℕ). Rose k new.write_faults) n.1 e.1)
from_same _ old mid new n e = (e.0 ∙ n.0, e.1 ∙ n.1)

none-then : (old mid new : Outside) → NoneRose old mid → NoneRose mid new → NoneRose old new
none-then old mid new c n = (n.0 ∙ c.0, n.1 ∙ c.1)

-- an outside whose reading and writing sides count as before
counts : (old new : Outside) {input output : Option (List ℕ)} {blobs : ℕ} {shelf : Shelf} {remote : Sees}
    → new ≡ record {
      input = input;
      output = output;
      read_faults = old.read_faults;
      write_faults = old.write_faults;
      blob_faults = blobs;
      shelf = shelf;
      remote = remote;
    }
    → NoneRose old new
counts old new is = (ap (λ (o : Outside). o.read_faults) is, ap (λ (o : Outside). o.write_faults) is)

-- the sink failed after counts that stood still, or the source
sink-shows : (old mid new : Outside) (faults : ℕ) {input output : Option (List ℕ)} → NoneRose old mid → Rose mid.write_faults faults
    → new ≡ record mid { input = input; output = output; write_faults = faults } → Shows (Some stream.SinkFault) old new
sink-shows old mid new faults n rose is = (
  ap (λ (o : Outside). o.read_faults) is ∙ n.0,
  subst (λ (k : ℕ). Rose k new.write_faults) n.1 (subst (λ (k : ℕ). Rose mid.write_faults k) (sym (ap (λ (o : Outside). o.write_faults) is)) rose),
)

reply_caused : (command : Command) (reply : Reply) (s : Stand) (old now : Outside) → MayAsk command s → Caused s.due old now
    → Caused (due_after s.rounds command reply s.due) old now
reply_caused command reply s old now may c = pick s.due refl c
  where
    pick : (due : Option Close) → s.due ≡ due → Caused due old now → Caused (due_after s.rounds command reply s.due) old now
    pick None none n =
        elim (due-moves s.rounds command reply) [
          | inl stays ↦ subst (λ d. Caused d old now) (sym (stays s.due ∙ none)) n
          | inr told ↦ subst (λ d. Caused d old now) (sym (told.1 s.due)) n
        ]
    pick (Some due) is c = subst (λ d. Caused d old now) (sym (still-due command reply s due may is)) c

unsent_caused : (due : Option Close) (old now : Outside) → IsUnsent due → NoneRose old now → Caused due old now
unsent_caused None old now un n = n
unsent_caused (Some (speaks said)) old now un n = n
unsent_caused (Some (rests end)) old now un n = absurd un

-- what follows an outcome, where nothing was due before
sequel_caused : (by_text : List ℕ → Option Close) → ((bytes : List ℕ) → IsUnsent (by_text bytes)) → (next : Sequel) (old mid new : Outside) → NoneRose old mid
    → ShowsBy next mid new → Caused (due_behind by_text next None) old new
sequel_caused by_text texts goes_on old mid new n t = none-then old mid new n t
sequel_caused by_text texts (by_its_text bytes) old mid new n t = unsent_caused (by_text bytes) old new (texts bytes) (none-then old mid new n t)
sequel_caused by_text texts (ends_by (speaks said)) old mid new n t = none-then old mid new n t
sequel_caused by_text texts (ends_by (rests None)) old mid new n t = none-then old mid new n t
sequel_caused by_text texts (ends_by (rests (Some end))) old mid new n t = from_same end old mid new n t

says_shows : (answer memory_said : Answer) (mode : ResponseMode) (end : Option End) (old mid new : Outside) → NoneRose old mid
    → Says answer memory_said (end_of mode) mid new end → Shows end old new
says_shows answer memory_said mode end old mid new n (whole is ends) =
    subst (λ e. Shows e old new) (sym ends) (calm_shows mode old new (none-then old mid new n (counts mid new is)))
says_shows answer memory_said mode end old mid new n (memory is ends) = subst (λ e. Shows e old new) (sym ends) (none-then old mid new n (counts mid new is))
says_shows answer memory_said mode end old mid new n (cut faults all part rose which front is ends) =
    subst (λ e. Shows e old new) (sym ends) (sink-shows old mid new faults n rose is)

-- before the first step
judged_caused : (judged : Result Judged Refused) (last : Bool) (old new : Outside) → NoneRose old new → Caused (duty_of judged last).stand.due old new
judged_caused (Ok request) last old new n = n
judged_caused (Err cause) last old new n = n

opens_caused : (settings : Settings) (last : Bool) (old new : Outside) (c : Course) (o : Opens settings last old new c) → Caused (duty_at o).stand.due old new
opens_caused settings last old new c (clean begins still is) = counts old new still
opens_caused settings last old new c (torn begins still is) = counts old new still
opens_caused settings last old new c (failed faults rose still is) =
    (subst (λ (k : ℕ). Rose old.read_faults k) (sym (ap (λ (o : Outside). o.read_faults) still)) rose, ap (λ (o : Outside). o.write_faults) still)
opens_caused settings last old new c (refused fault begins still is) = counts old new still
opens_caused settings last old new c (unread_head begins still is) = counts old new still
opens_caused settings last old new c (starved head rest begins uses is) = counts old new uses
opens_caused settings last old new c (served head rest begins uses is) = judged_caused (judge settings head) last old new (counts old new uses)

opens-unsent : (settings : Settings) (last : Bool) (old new : Outside) (c : Course) (o : Opens settings last old new c) (bytes : List ℕ) → IsUnsent ((duty_at o).by_text bytes)
opens-unsent settings last old new c (served head rest begins uses is) bytes = judged-unsent (judge settings head) last bytes
opens-unsent settings last old new c _ bytes = tt

module _ (tells : Type 0) where
  module _ (by_text : List ℕ → Option Close) (mode : ResponseMode) where
    follows_shows : ((bytes : List ℕ) → IsUnsent (by_text bytes)) → (c : Course) (n : ℕ) (s : Stand) → Keeps by_text mode c n s → (entries : List Entry)
        (old mid new : Outside) (end : Option End) → Caused s.due old mid → Follows tells c entries mid new end → Shows end old new
    follows_shows texts (asks command next) zero s k [] old mid new end c f = absurd f
    follows_shows texts (asks command next) zero s k (e ∷ entries) old mid new end c f = absurd k
    follows_shows texts (asks command next) (suc n) s k [] old mid new end c f = absurd f
    follows_shows texts (asks command next) (suc n) s k (e ∷ entries) old mid new end c f =
        follows_shows texts (next e.reply) n (stand_after command e.reply s) (k.1 e.reply) entries old mid new end (reply_caused command e.reply s old mid k.0 c) f.1
    follows_shows texts (does io_action next) n s k entries old mid new end c f =
        let none = nothing-due mode io_action s k.0 in
        follows_shows texts (next f.0) (left_by io_action n) (stand_done by_text io_action f.0 s) (k.2 f.0) f.2 old f.3 new end
        (subst (λ d. Caused (due_done by_text io_action f.0 d) old f.3) (sym none)
        (sequel_caused by_text texts (sequel io_action f.0) old mid f.3 (subst (λ d. Caused d old mid) none c) (action-changes tells io_action f.0 f.1 mid f.3 f.5).sides)) f.6
    follows_shows texts (says said own) n s k entries old mid new end c f =
        says_shows (answer_of said own) (memory_answer own.head_only) own end old mid new (subst (λ d. Caused d old mid) k.1 c) f.1
    follows_shows texts (stops next) n s k entries old mid new end c f =
        subst (λ e. Shows e old new) (sym f.2) (subst (λ o. Shows next old o) (sym f.1) (subst (λ d. Caused d old mid) k.1 c))

    none-few : (mine : List Entry) (later n : ℕ) → mine ≡ [] → later ≤ n → length mine + later ≤ n
    none-few mine later n none few = let is = ap length none in omega (arith, is)

    -- an I/O action asks no more than it may, and leaves the rest
    action-few : (io_action : IoAction) (outcome : Outcome io_action) (mine : List Entry) (old new : Outside) (later n : ℕ) → asked_by io_action ≤ n → later ≤ left_by io_action n
        → Does tells io_action outcome mine old new → length mine + later ≤ n
    action-few (clean_all repos) pass mine old new later n most few t = let asked = passes-few repos mine _ t.0 pass t.1 in omega (arith, asked, most, few)
    action-few _ outcome mine old new later n most few t = none-few mine later n t.0 few

    -- the commands of a request are few
    follows_few : (c : Course) (n : ℕ) (s : Stand) → Keeps by_text mode c n s → (entries : List Entry) (old new : Outside) (end : Option End)
        → Follows tells c entries old new end → length entries ≤ n
    follows_few (asks command next) zero s k [] old new end f = absurd f
    follows_few (asks command next) zero s k (e ∷ entries) old new end f = absurd k
    follows_few (asks command next) (suc n) s k [] old new end f = absurd f
    follows_few (asks command next) (suc n) s k (e ∷ entries) old new end f =
        let less = follows_few (next e.reply) n (stand_after command e.reply s) (k.1 e.reply) entries old new end f.1 in omega arith
    follows_few (does io_action next) n s k entries old new end f =
        let less = follows_few (next f.0) (left_by io_action n) (stand_done by_text io_action f.0 s) (k.2 f.0) f.2 f.3 new end f.6 in
        let few = action-few io_action f.0 f.1 old f.3 (length f.2) n k.1 less f.5 in
        let all = ap length f.4 ∙ length-append f.1 f.2 in omega (arith, few, all)
    follows_few (says said own) n s k entries old new end f = let none = ap length f.0 in omega arith
    follows_few (stops next) n s k entries old new end f = let none = ap length f.0 in omega arith

  module _ (settings : Settings) where
    -- a fetch more, two commands more
    twice-up : (n m : ℕ) → n ≤ m → twice n ≤ twice m
    twice-up zero m up = omega arith
    twice-up (suc n) zero up = absurd (omega (arith, up))
    twice-up (suc n) (suc m) up = let more = twice-up n m (omega (arith, up)) in omega (arith, more)

    found-few : (groups : List GroupRule) (id : List ℕ) (g : GroupRule) → find (λ (rule : GroupRule). bytes_eq rule.id id) groups ≡ Some g → length g.members ≤ most_members groups
    found-few [] id g is = absurd (none-some g is)
    found-few (x ∷ groups) id g is =
        elim (bytes_eq x.id id) as (λ b. cond b (Some x) (find (λ (rule : GroupRule). bytes_eq rule.id id) groups) ≡ Some g → length g.members ≤ max (length x.members) (most_members groups)) [
          | true ↦ λ here. let same : x ≡ g = cc in let long = ap (λ (r : GroupRule). length r.members) same in omega (arith, long)
          | false ↦ λ later. let few = found-few groups id g later in omega (arith, few)
        ] is

    filled : (proxies : List ProxyRule) (id : List ℕ) → is_some (find (λ (rule : ProxyRule). bytes_eq rule.id id) proxies) ≡ true → 1 ≤ length proxies
    filled [] id is = absurd (false≢true is)
    filled (x ∷ proxies) id is = omega arith

    rounds-few : (id : List ℕ) → IsTrue (is_known id settings) → rounds_of (sort_of id settings) ≤ most_rounds settings
    unfolding sort_of
    rounds-few id known = pick (is_there id settings) (group_rule_of id settings) refl known
      where
        pick : (there : Bool) (group : Option GroupRule) → group_rule_of id settings ≡ group → (there || (is_some (proxy_rule_of id settings) || is_some group)) ≡ true
            → rounds_of (if there then sorts.Hosted else option_map_or (λ (g : GroupRule). sorts.Group (length g.members)) group sorts.Proxy) ≤ most_rounds settings
        pick true group is known = omega arith
        pick false (Some g) is known = let few = found-few settings.groups id g is in omega (arith, few)
        pick false None is known =
            let some : is_some (proxy_rule_of id settings) ≡ true = or-false (is_some (proxy_rule_of id settings)) known in
            let more = filled settings.proxies id some in omega (arith, more)
          where
            or-false : (b : Bool) → (b || false) ≡ true → b ≡ true
            or-false true is = refl
            or-false false is = is

    intent-few : (intent : Intent) → IsIntent settings intent → most_for intent ≤ most_asked settings
    unfolding most_asked
    intent-few (reads_path repo path of_sort) kept =
        let few = rounds-few repo kept.0 in
        let less = twice-up (rounds_of of_sort) (most_rounds settings) (subst (λ (x : Sort). rounds_of x ≤ most_rounds settings) (sym kept.2) few) in omega (arith, less)
    intent-few (cleans_all repos) kept =
        let all = ap length kept ∙ length-map settings.hosted (λ (rule : Rule). rule.id) in omega (arith, all)
    intent-few _ kept = omega arith

    judged-few : (head : Head) (outcome : Result Intent Refusal) (last : Bool) → IfOk outcome (IsIntent settings) → (duty_of (outcome_of head outcome) last).most ≤ most_asked settings
    unfolding most_asked
    judged-few head (Ok intent) last kept = intent-few intent kept
    judged-few head (Err cause) last kept = omega arith

    -- whatever the head asks for
    asking-few : (last : Bool) (old mid : Outside) (c : Course) (o : Opens settings last old mid c) → (duty_at o).most ≤ most_asked settings
    unfolding judge most_asked
    asking-few last old mid c (served head rest begins uses is) = judged-few head (intent_of settings head) last (intent-kept settings head)
    asking-few last old mid c _ = omega arith

    turn_shows : (last : Bool) (entries : List Entry) (old new : Outside) (end : Option End) → RequestTurn settings tells last entries old new end → Shows end old new
    turn_shows last entries old new end (c, mid, o, f) =
        follows_shows (duty_at o).by_text (duty_at o).mode (opens-unsent settings last old mid c o) c (duty_at o).most (duty_at o).stand (opens-keeps settings last old mid c o) entries old mid new end
        (opens_caused settings last old mid c o) f

    pub serves_shows : (n : ℕ) (entries : List Entry) (old new : Outside) (end : End) → ServesStream settings tells n entries old new end
        → EndsByCause end old new
    unfolding ServesStream
    serves_shows zero entries old new end t = subst (λ (e : End). EndsByCause e old new) (sym t.2) (counts old _ t.1)
    serves_shows (suc left) entries old new end (inl turn) = turn_shows (left == 0) entries old new (Some end) turn
    serves_shows (suc left) entries old new end (inr t) =
        from_same end old t.2 new (turn_shows (left == 0) t.0 old t.2 None t.4) (serves_shows left t.1 t.2 new end t.5)

    turn_few : (last : Bool) (entries : List Entry) (old new : Outside) (end : Option End) → RequestTurn settings tells last entries old new end
        → length entries ≤ most_asked settings
    turn_few last entries old new end (c, mid, o, f) =
        let asked = follows_few (duty_at o).by_text (duty_at o).mode c (duty_at o).most (duty_at o).stand (opens-keeps settings last old mid c o) entries mid new end f in
        let few = asking-few last old mid c o in omega (arith, asked, few)

    pub serves_few : (n : ℕ) (entries : List Entry) (old new : Outside) (end : End) → ServesStream settings tells n entries old new end
        → length entries ≤ most_asked settings * n
    unfolding ServesStream
    serves_few zero entries old new end t = let none = ap length t.0 in omega arith
    serves_few (suc left) entries old new end (inl turn) =
        let few = turn_few (left == 0) entries old new (Some end) turn in
        let more : most_asked settings * suc left ≡ most_asked settings + most_asked settings * left = omega arith in omega (arith, few, more)
    serves_few (suc left) entries old new end (inr t) =
        let few = turn_few (left == 0) t.0 old t.2 None t.4 in
        let rest = serves_few left t.1 t.2 new end t.5 in
        let all = ap length t.3 ∙ length-append t.0 t.1 in
        let more : most_asked settings * suc left ≡ most_asked settings + most_asked settings * left = omega arith in omega (arith, few, rest, all, more)
