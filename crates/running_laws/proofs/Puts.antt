-- A turn that is answered 201 has put its file, and that outlasts crashes.
use Rattle.std.proofs.Common.{◌≡◌, inl, inr, ℕ, ◌==◌, Bool, true, false, List, [], ◌∷◌, ◌++◌, take, Option, Some, None, Result, Ok, Err, refl, sym, subst, ap, ◌∙◌}
use Rattle.std.specs.Prelude.{if◌then◌else◌}
use Rattle.std.specs.Option.{ForSome}
use Rattle.mvn_coords.specs.Kind.{kind}
use Rattle.http_wire.specs.Front.{Front, Whole, front}
use Rattle.http_wire.specs.Head.{Head}
use Rattle.http_wire.specs.declared.faults.HeadFault.{HeadFault}
use Rattle.http_wire.specs.declared.faults.HeadFault.TheVariants.{Broken, TooLong}
use Rattle.repo_model.specs.Command.{Command, may_put, put}
use Rattle.repo_model.specs.Data.{Blob, Hosted, Row, repository}
use Rattle.repo_model.specs.Effect.{draws, new_row}
use Rattle.repo_model.specs.History.{Entry, Fits, IsReply, Legal, after, due, wants_memory, failed as store_failed, end, is_collect}
use Rattle.repo_model.specs.Reply as replies
use Rattle.repo_model.specs.Reply.{Reply, created, draft, spent, kind_refused}
use Rattle.repo_model.specs.Settings.{Settings}
use Rattle.repo_model.specs.State.{State, hosted_of, is_row, number_end, row_at, rows_of}
use Rattle.repo_model.specs.Restart.{started}
use Rattle.repo_model.specs.Tables.{Tables}
use Rattle.repo_model.specs.Paths.{takes}
use Rattle.repo_model.specs.Turn.{Turn, draws_draft, in_repository, says as says_turn, turn}
use Rattle.repo_laws.specs.Closed.{all_given_out}
use Rattle.repo_laws.specs.Described.{IsAmong}
use Rattle.repo_laws.specs.Sound.{AreNamedApart, IsSound}
use Rattle.repo_laws.proofs.Keeping.{ends-sound}
use Rattle.repo_laws.proofs.Lists.{found-passes}
use Rattle.repo_laws.proofs.Releases.{same_path}
use Rattle.naming_laws.proofs.Kept.{entry-stays}
use Rattle.row_tables.specs.Crashes.{Unsettled}
use Rattle.repo_routes.specs.Intent.{Intent, Judged, puts_file}
use Rattle.repo_routes.specs.Judge.{judge}
use Rattle.repo_routes.specs.declared.judging.Refused.{Refused}
use Rattle.repo_course.specs.Course.{Course, after_continue, after_may_put, after_put, after_take, behind_fault, closes, course_for, course_of, cut_off, gives_up, invites, mode_for, of_fault, refuses_head, says as says-course, starves, stops, without_memory, take_body, does}
use Rattle.repo_course.specs.Answers.{at_end}
use Rattle.repo_routes.specs.Framing.{is_head}
use Rattle.repo_course.specs.Serving.{Begins, Follows, IsWhole, Opens, clean, torn, failed, refused, unread_head, starved, served, Outside, RequestTurn}
use Rattle.repo_course.specs.declared.mode.ResponseMode.{ResponseMode}
use Rattle.repo_course.specs.declared.outcomes.Continued.{Continued}
use Rattle.repo_course.specs.declared.outcomes.Continued.TheVariants as continued
use Rattle.repo_course.specs.declared.outcomes.End.{End}
use Rattle.repo_course.specs.declared.outcomes.End.TheVariants as stream
use Rattle.repo_course.specs.declared.outcomes.Took.{Took}
use Rattle.repo_course.specs.declared.outcomes.Took.TheVariants as took
use Rattle.repo_course.specs.declared.response.Response.{Response}
use Rattle.repo_course.specs.declared.response.Response.TheVariants as response
use Rattle.course_laws.specs.Duties.{length_of}
use Rattle.course_laws.specs.PutBodies.{AllPutBody, HasBody, PutsBody}
use Rattle.course_laws.proofs.PutBodies.{turn-puts}
use Rattle.closed_laws.specs.Answered.{ShowsReply}
use Rattle.closed_laws.specs.Named.{ShowsNamed}
use Rattle.closed_laws.proofs.FirstLooks.{turn-answered}
use Rattle.closed_laws.proofs.NamedServed.{answered-then, file-shown}
use Rattle.answer_laws.specs.Marked.{IsAt, Mark, entries_of}
use Rattle.answer_laws.specs.Why.{AllCaused}
use Rattle.served_laws.specs.Crashed.{IsAnsweredStill, Made, OutlastsCrashes, entries_made}
use Rattle.running_laws.specs.Answered.{FollowsTo, IsAgain, IsReadAfter, PutAgainOutlasts, PutOutlasts, PutReply, answer_in, answer_to}
use Rattle.running_laws.proofs.Spared.{cut}
use Rattle.running_laws.proofs.Stood.{again-reply, relisted-records, stood}
use Rattle.served_laws.proofs.Crashed.{made-on, put-place}
use Rattle.served_laws.proofs.Kept.{all-among, entries-at, since-more}

-- the answer to a put whose file stands then: `Created`, `Same` or `Relisted`
abbrev IsTold : Option Response → Type 0
IsTold (Some response.Created) = Unit {0}
IsTold (Some response.Same) = Unit {0}
IsTold (Some response.Relisted) = Unit {0}
IsTold _ = ⊥

-- a draft is none of these
abbrev IsNone : Reply → Type 0
IsNone created = ⊥
IsNone replies.same = ⊥
IsNone replies.relisted = ⊥
IsNone _ = Unit {0}

if-none : (b : Bool) (t u : Turn) → IsNone t.reply → IsNone u.reply → IsNone (if b then t else u).reply
if-none true t u one other = one
if-none false t u one other = other

may-put-none : (settings : Settings) (s : State) (e : Entry) (repo path : List ℕ) → Fits settings s e → e.command ≡ may_put (repository repo) path → IsNone e.reply
may-put-none settings s e repo path fits is = by fits.reply
  where
    draws-none : (next : ℕ) → IsNone (draws_draft next).reply
    draws-none next = if-none (next == number_end) (says_turn spent) (record { reply = draft next; effects = draws ∷ [] }) tt tt

    at : (found : Option Hosted) → IsNone (in_repository path found (draws_draft s.yard.next_draft)).reply
    at None = tt
    at (Some h) = if-none (takes h.rule path) (draws_draft s.yard.next_draft) (says_turn kind_refused) (draws-none s.yard.next_draft) tt

    by : IsReply settings s e → IsNone e.reply
    by (due reply did) = subst IsNone (sym (reply ∙ ap (λ (c : Command). (turn settings s e.moment c).reply) is)) (at (hosted_of repo s))
    by (wants_memory reply free did) = subst IsNone (sym reply) tt
    by (store_failed reply commits rose) = subst IsNone (sym reply) tt

among-right : (e : Entry) (xs ys : List Entry) → IsAmong e ys → IsAmong e (xs ++ ys)
among-right e [] ys among = among
among-right e (x ∷ xs) ys among = inr (among-right e xs ys among)

-- one of these entries put the file, and was replied to so
abbrev PutAmong : Response → List ℕ → List ℕ → List Entry → Type 0
PutAmong said repo path entries = (n : ℕ) × (blob : Blob) × (e : Entry) × IsAmong e entries × (e.command ≡ put repo path n blob) × PutReply said e.reply

put-right : (said : Response) (repo path : List ℕ) (xs ys : List Entry) → PutAmong said repo path ys → PutAmong said repo path (xs ++ ys)
put-right said repo path xs ys (n, blob, e, among, is, done) = (n, blob, e, among-right e xs ys among, is, done)

module _ (tells : Type 0) (repo path : List ℕ) (count : ℕ) (mode : ResponseMode) (said : Response) (told : IsTold (Some said)) where
  abbrev ToSaid : Course → List Entry → Outside → Outside → Option End → Type 0
  ToSaid c entries old new end = FollowsTo said tells c entries old new end

  put-reply : (n : ℕ) (reply : Reply) (entries : List Entry) (old new : Outside) (end : Option End) (f : Follows tells (after_put n mode reply) entries old new end)
      → answer_in tells (after_put n mode reply) entries old new end f ≡ Some said → PutReply said reply
  put-reply n created entries old new end f is = let so : Some response.Created ≡ Some said = is in let what_is : response.Created ≡ said = cc in subst (λ (what : Response). PutReply what created) what_is refl
  put-reply n replies.same entries old new end f is = let so : Some response.Same ≡ Some said = is in let what_is : response.Same ≡ said = cc in subst (λ (what : Response). PutReply what replies.same) what_is refl
  put-reply n replies.relisted entries old new end f is = let so : Some response.Relisted ≡ Some said = is in let what_is : response.Relisted ≡ said = cc in subst (λ (what : Response). PutReply what replies.relisted) what_is refl
  put-reply n _ [] old new end f is = absurd (subst IsTold (sym is) told)
  put-reply n _ (e ∷ entries) old new end f is = absurd (subst IsTold (sym is) told)

  no-fault : (n : ℕ) (own : ResponseMode) (fault : Took) (entries : List Entry) (old new : Outside) (end : Option End) (f : Follows tells (gives_up n (closes own (of_fault fault))) entries old new end)
      → answer_in tells (gives_up n (closes own (of_fault fault))) entries old new end f ≡ Some said → ⊥
  no-fault n own fault [] old new end f is = absurd f
  no-fault n own took.Torn (e ∷ entries) old new end f is = subst IsTold (sym is) told
  no-fault n own took.SourceFault (e ∷ entries) old new end f is = subst IsTold (sym is) told
  no-fault n own (took.BlobFault unread) (e ∷ entries) old new end f is = subst IsTold (sym is) told
  no-fault n own took.NoMemory (e ∷ entries) old new end f is = subst IsTold (sym is) told

  taken-put : (n : ℕ) (blob : Blob) (entries : List Entry) (old new : Outside) (end : Option End)
      → ToSaid (after_take (repository repo) path n count mode (Ok blob)) entries old new end → PutAmong said repo path entries
  taken-put n blob [] old new end (f, is) = absurd f
  taken-put n blob (e ∷ entries) old new end (f, is) = (n, blob, e, inl refl, f.0, put-reply n e.reply entries old new end f.1 is)

  took-put : (n : ℕ) (outcome : Result Blob Took) (entries : List Entry) (old new : Outside) (end : Option End)
      → ToSaid (after_take (repository repo) path n count mode outcome) entries old new end → PutAmong said repo path entries
  took-put n (Ok blob) entries old new end f = taken-put n blob entries old new end f
  took-put n (Err fault) entries old new end (f, is) = absurd (no-fault n (behind_fault count fault mode) fault entries old new end f is)

  body-put : (n : ℕ) (entries : List Entry) (old new : Outside) (end : Option End)
      → ToSaid (does (take_body n count) (after_take (repository repo) path n count mode)) entries old new end → PutAmong said repo path entries
  body-put n entries old new end (f, is) = subst (PutAmong said repo path) (sym f.4) (put-right said repo path f.1 f.2 (took-put n f.0 f.2 f.3 new end (f.6, is)))

  invited-put : (n : ℕ) (outcome : Continued) (entries : List Entry) (old new : Outside) (end : Option End)
      → ToSaid (after_continue (gives_up n cut_off) (does (take_body n count) (after_take (repository repo) path n count mode)) outcome) entries old new end → PutAmong said repo path entries
  invited-put n continued.Written entries old new end f = body-put n entries old new end f
  invited-put n continued.SinkFault [] old new end (f, is) = absurd f
  invited-put n continued.SinkFault (e ∷ entries) old new end (f, is) = absurd (cc)

  draft-put : (n : ℕ) (expects : Bool) (entries : List Entry) (old new : Outside) (end : Option End)
      → ToSaid (invites expects (gives_up n cut_off) (does (take_body n count) (after_take (repository repo) path n count mode))) entries old new end → PutAmong said repo path entries
  draft-put n false entries old new end f = body-put n entries old new end f
  draft-put n true entries old new end (f, is) = subst (PutAmong said repo path) (sym f.4) (put-right said repo path f.1 f.2 (invited-put n f.0 f.2 f.3 new end (f.6, is)))

  may-put : (expects : Bool) (reply : Reply) (entries : List Entry) (old new : Outside) (end : Option End) → IsNone reply
      → ToSaid (after_may_put (repository repo) path count expects mode reply) entries old new end → PutAmong said repo path entries
  may-put expects (draft n) entries old new end none f = draft-put n expects entries old new end f
  may-put expects created entries old new end none f = absurd none
  may-put expects replies.same entries old new end none f = absurd none
  may-put expects replies.relisted entries old new end none f = absurd none
  may-put expects _ entries old new end none (f, is) = absurd (subst IsTold (sym is) told)

  course-put : (expects : Bool) (entries : List Entry) (old new : Outside) (end : Option End)
      → ((e : Entry) (more : List Entry) → entries ≡ e ∷ more → e.command ≡ may_put (repository repo) path → IsNone e.reply)
      → ToSaid (course_for mode expects (puts_file (repository repo) path count)) entries old new end → PutAmong said repo path entries
  course-put expects [] old new end not (f, is) = absurd f
  course-put expects (e ∷ entries) old new end not (f, is) =
      put-right said repo path (e ∷ []) entries (may-put expects e.reply entries old new end (not e entries refl f.0) (f.1, is))

-- another course is followed so
pub follows-so : (what : Response) (tells : Type 0) (c d : Course) (entries : List Entry) (old new : Outside) (end : Option End) → c ≡ d
    → FollowsTo what tells c entries old new end → FollowsTo what tells d entries old new end
follows-so what tells c d entries old new end is = subst (λ (x : Course). FollowsTo what tells x entries old new end) is

module _ (settings : Settings) (tells : Type 0) (last : Bool) where
  -- an answer that tells no running out of memory and no fault of a head is that of the request that came
  pub turn-course : (what : Response) → (response.NoMemory ≡ what → ⊥) → (response.BadHead ≡ what → ⊥) → (response.HeadTooLong ≡ what → ⊥) → (entries : List Entry) (old new : Outside) (end : Option End) (input came : List ℕ)
      (head : Head) (request : Judged) (turned : RequestTurn settings tells last entries old new end) → old.input ≡ Some input → front input ≡ Whole head came
      → judge settings head ≡ Ok request → answer_to settings tells last entries old new end turned ≡ Some what
      → (mid : Outside) × FollowsTo what tells (course_for (mode_for request last) request.expects request.intent) entries mid new end
  turn-course what free good short entries old new end input came head request (c, mid, o, f) input-is front-is judged is = opened o
    where
      begins : (P : Front → Type 0) → Begins old.input P → P (Whole head came)
      begins P it = subst P front-is (subst (λ (i : Option (List ℕ)). Begins i P) input-is it)

      none-said : (next : Option End) → FollowsTo what tells (stops next) entries mid new end → ⊥
      none-said next (g, so) = absurd (cc)

      other-said : (other : Response) (own : ResponseMode) → (other ≡ what → ⊥) → FollowsTo what tells (says-course other own) entries mid new end → ⊥
      other-said other own apart (g, so) = apart (cc)

      by-head : (fault : HeadFault) → FollowsTo what tells (refuses_head fault) entries mid new end → ⊥
      by-head Broken g = other-said response.BadHead (at_end false) good g
      by-head TooLong g = other-said response.HeadTooLong (at_end false) short g

      opened : Opens settings last old mid c → (now : Outside) × FollowsTo what tells (course_for (mode_for request last) request.expects request.intent) entries now new end
      opened (clean it still same) = absurd (none-said (Some stream.Closed) (follows-so what tells c (stops (Some stream.Closed)) entries mid new end same (f, is)))
      opened (torn it still same) = absurd (none-said (Some stream.TornRequest) (follows-so what tells c (stops (Some stream.TornRequest)) entries mid new end same (f, is)))
      opened (failed faults rose still same) = absurd (none-said (Some stream.SourceFault) (follows-so what tells c (stops (Some stream.SourceFault)) entries mid new end same (f, is)))
      opened (refused fault it still same) = absurd (by-head fault (follows-so what tells c (refuses_head fault) entries mid new end same (f, is)))
      opened (unread_head it still same) =
          absurd (other-said response.NoMemory (at_end false) free (follows-so what tells c (without_memory (at_end false)) entries mid new end same (f, is)))
      opened (starved other left it uses same) =
          absurd (other-said response.NoMemory (at_end (at_end (is_head other)).head_only) free (follows-so what tells c (starves other) entries mid new end same (f, is)))
      opened (served other left it uses same) =
          let (heads, left_is) = begins (IsWhole other left) it in
          let so : judge settings other ≡ Ok request = ap (judge settings) (sym heads) ∙ judged in
          (mid, follows-so what tells c (course_of (Ok request) last) entries mid new end (same ∙ ap (λ (j : Result Judged Refused). course_of j last) so) (f, is))

  turn-put : (said : Response) → IsTold (Some said) → (entries : List Entry) (old new : Outside) (end : Option End) (input came : List ℕ) (head : Head) (request : Judged) (repo path : List ℕ)
      (count : ℕ) (turned : RequestTurn settings tells last entries old new end) → old.input ≡ Some input → front input ≡ Whole head came → judge settings head ≡ Ok request
      → request.intent ≡ puts_file (repository repo) path count
      → ((e : Entry) (more : List Entry) → entries ≡ e ∷ more → e.command ≡ may_put (repository repo) path → IsNone e.reply)
      → answer_to settings tells last entries old new end turned ≡ Some said → PutAmong said repo path entries
  turn-put said is_told entries old new end input came head request repo path count turned input-is front-is judged asks-it not is =
      let other : (what : Response) → (IsTold (Some what) → ⊥) → what ≡ said → ⊥ = λ what none so. none (subst (λ (r : Response). IsTold (Some r)) (sym so) is_told) in
      let (mid, d) =
      turn-course said (other response.NoMemory (λ x. x)) (other response.BadHead (λ x. x)) (other response.HeadTooLong (λ x. x)) entries old new end input came head request turned input-is front-is
      judged is in
      course-put tells repo path count (mode_for request last) said is_told request.expects entries mid new end not
      (subst (λ (i : Intent). FollowsTo said tells (course_for (mode_for request last) request.expects i) entries mid new end) asks-it d)

-- where an entry of a turn stands in the history
module _ (settings : Settings) (tells : Type 0) (start : State) (history : List Mark) where
  pub caused-at : (past done entries rest : List Entry) (e : Entry) → AllCaused settings tells start history past done entries rest → IsAmong e entries
      → (front behind : List Entry) × IsAt history front e behind
  caused-at past done [] rest e all among = absurd among
  caused-at past done (x ∷ entries) rest e all (inl same) = subst (λ (y : Entry). (front behind : List Entry) × IsAt history front y behind) same (past ++ done, entries ++ rest, all.0.at)
  caused-at past done (x ∷ entries) rest e all (inr more) = caused-at past (done ++ x ∷ []) entries rest e all.1 more

  first-not : (past entries rest : List Entry) (repo path : List ℕ) → AllCaused settings tells start history past [] entries rest
      → (e : Entry) (more : List Entry) → entries ≡ e ∷ more → e.command ≡ may_put (repository repo) path → IsNone e.reply
  first-not past entries rest repo path all e more is =
      let one = subst (λ (es : List Entry). AllCaused settings tells start history past [] es rest) is all in
      may-put-none settings (end settings start (entries_of one.0.at.before)) e repo path one.0.fits

-- what is known of a value that is told
for-some : {X : Type 0} (told : Option X) (P Q : X → Type 0) → ((x : X) → P x → Q x) → ForSome told P → ForSome told Q
for-some told P Q more so x is = more x (so x is)

-- what is found is read
read-after : (settings : Settings) (tells : Type 0) (made : List Made) (repo : List ℕ) (row : Row) (body : List ℕ) (u : Tables)
    → IsAnsweredStill settings made repo row u → IsReadAfter settings tells (all_given_out (entries_made made)) repo row body u
read-after settings tells made repo row body u still acknowledged found stored_tells stored clock faults whole before later more e tried last old new stop standing keeps =
    for-some found.blobs _ _ (λ them so same order range completes legal stay turned looks.
    let (kept, (blob_is, bytes_are), gives) = so same stored clock faults whole before later e tried order range completes legal stay looks in (
      kept,
      blob_is,
      bytes_are,
      answered-then settings last repo row.path (ShowsReply e.reply) (ShowsNamed (end settings (started settings stored_tells stored clock faults whole) before) kept)
          (λ mode from to ending seen. file-shown (end settings (started settings stored_tells stored clock faults whole) before) kept e.reply mode from to ending gives seen) old new stop
          (turn-answered settings tells last e more repo row.path tried looks old new stop turned),
    ))
    (still.1 acknowledged body standing found keeps stored_tells)

told-again : (said : Response) → IsAgain said → IsTold (Some said)
told-again response.Same again = tt
told-again response.Relisted again = tt
told-again _ again = absurd again

-- the entry by which a turn put the file, among those that were made
record HasPut (made : List Made) (said : Response) (repo path : List ℕ) (count : ℕ) (came : List ℕ) : Type 0 where
  pub first : List Made
  pub m : Made
  pub later : List Made
  pub n : ℕ
  pub blob : Blob
  pub parts : made ≡ first ++ m ∷ later
  pub command_is : m.entry.command ≡ put repo path n blob
  pub reply_is : PutReply said m.entry.reply
  pub has : HasBody count came blob

module _ (settings : Settings) (start : State) (t : Tables) (old : Unsettled) (made : List Made) (marks : List Mark) (tells : Type 0) (last : Bool) (past entries rest : List Entry)
    (before behind : Outside) (ending : Option End) (input came : List ℕ) (head : Head) (request : Judged) (repo path : List ℕ) (count : ℕ)
    (turned : RequestTurn settings tells last entries before behind ending) (outlast : OutlastsCrashes settings start t old made) (same_made : entries_of marks ≡ entries_made made)
    (caused : AllCaused settings tells start marks past [] entries rest) (told : before.input ≡ Some input) (front_is : front input ≡ Whole head came) (judged : judge settings head ≡ Ok request)
    (asks_it : request.intent ≡ puts_file (repository repo) path count) where
  has-put : (said : Response) → IsTold (Some said) → answer_to settings tells last entries before behind ending turned ≡ Some said → HasPut made said repo path count came
  has-put said is_told answered =
      let (n, blob, e, among, is, done) =
      turn-put settings tells last said is_told entries before behind ending input came head request repo path count turned told front_is judged asks_it
      (first-not settings tells start marks past entries rest repo path caused) answered in
      let (front, back, at) = caused-at settings tells start marks past [] entries rest e caused among in
      let (first, later, m, parts, entry_is) = entries-at made marks front back e same_made at in
      let puts : AllPutBody count came entries =
      subst (λ (i : Intent). AllPutBody (length_of i) came entries) asks_it (turn-puts settings tells last entries before behind ending input came head request turned told front_is judged) in
      record {
        first = first;
        m = m;
        later = later;
        n = n;
        blob = blob;
        parts = parts;
        command_is = ap (λ (x : Entry). x.command) entry_is ∙ is;
        reply_is = subst (λ (x : Entry). PutReply said x.reply) (sym entry_is) done;
        has = subst (PutsBody count came) is (all-among (λ (x : Entry). PutsBody count came x.command) e entries puts among);
      }

  pub put-outlasts : answer_to settings tells last entries before behind ending turned ≡ Some response.Created → PutOutlasts settings start t old made tells repo path count came (take count came)
  put-outlasts answered =
      let p = has-put response.Created tt answered in
      let reply_is : p.m.entry.reply ≡ created = p.reply_is in
      record {
        first = p.first;
        m = p.m;
        later = p.later;
        n = p.n;
        blob = p.blob;
        parts = p.parts;
        command_is = p.command_is;
        reply_is = reply_is;
        whole = p.has.whole;
        print_is = p.has.print;
        outlasts = λ soon others split stay.
            since-more settings start t old (p.first ++ p.m ∷ []) soon _ _
            (λ u still. read-after settings tells (p.first ++ p.m ∷ soon) repo (new_row path p.blob p.m.entry.moment) (take count came) u still)
            (outlast.created_files p.first soon others p.m repo path p.n p.blob (p.parts ∙ ap (λ (ms : List Made). p.first ++ p.m ∷ ms) split) p.command_is reply_is stay);
      }

  module _ (apart : AreNamedApart settings.hosted) (sound : IsSound settings start) (legal : Legal settings start (entries_made made)) where
    -- a put that found its file standing
    pub again-outlasts : (said : Response) → IsAgain said → answer_to settings tells last entries before behind ending turned ≡ Some said
        → PutAgainOutlasts settings start t old made said repo path count came (take count came)
    again-outlasts said again answered =
        let p = has-put said (told-again said again) answered in
        let all : Legal settings start (entries_made p.first ++ p.m.entry ∷ entries_made p.later) =
        subst (Legal settings start) (ap entries_made p.parts ∙ made-on settings p.first (p.m ∷ p.later)) legal in
        let (legal_first, fits) = cut settings (entries_made p.first) p.m.entry (entries_made p.later) start all in
        let there = end settings start (entries_made p.first) in
        let sound_there = ends-sound settings apart start (entries_made p.first) sound legal_first in
        let (row, found, alike) = stood settings there p.m.entry repo path p.n p.blob fits p.command_is (again-reply said p.m.entry.reply again p.reply_is) in
        let (kept, found_then, same_blob) = entry-stays settings there p.m.entry apart sound_there fits (ap is_collect p.command_is) repo path row found in
        let (known, (c, named)) = put-place settings repo path p.n p.blob p.m.entry.command p.command_is fits.condition in
        let path_is : kept.path ≡ path = same_path kept.path path (found-passes (is_row path) (rows_of repo (after settings there p.m.entry)) kept found_then) in
        record {
          first = p.first;
          m = p.m;
          later = p.later;
          n = p.n;
          blob = p.blob;
          parts = p.parts;
          command_is = p.command_is;
          reply_is = p.reply_is;
          whole = p.has.whole;
          row = kept;
          path_is = path_is;
          stands = found_then;
          content_is = ap (λ (b : Blob). b.print) same_blob ∙ alike ∙ p.has.print;
          outlasts = λ is soon others split stay.
              outlast.standing p.first soon others p.m repo kept c (p.parts ∙ ap (λ (ms : List Made). p.first ++ p.m ∷ ms) split)
              (relisted-records settings there p.m.entry repo path p.n p.blob fits p.command_is is) (ap (λ (at : List ℕ). row_at at (rows_of repo (after settings there p.m.entry))) path_is ∙ found_then)
              known (ap kind path_is ∙ named) stay;
        }
