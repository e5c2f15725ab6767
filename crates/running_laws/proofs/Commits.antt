-- A turn that is answered `done` has committed its session, and its files outlast crashes.
use Rattle.std.proofs.Common.{◌≡◌, ◌≢◌, inl, ℕ, true, List, [], ◌∷◌, ◌++◌, length, Option, Some, None, Ok, refl, sym, subst, ap, ◌∙◌}
use Rattle.std.specs.Prelude.{if◌then◌else◌, IsTrue}
use Rattle.std.proofs.lemmas.Bool.{eq-eqb}
use Rattle.mvn_coords.specs.Kind.{kind}
use Rattle.http_wire.specs.Front.{Whole, front}
use Rattle.http_wire.specs.Head.{Head}
use Rattle.repo_model.specs.declared.item.Item.{Item}
use Rattle.repo_model.specs.declared.session.SessionResult.{SessionResult}
use Rattle.repo_model.specs.declared.session.SessionResult.TheVariants.{Done}
use Rattle.repo_model.specs.Command.{Command, commit, is_there}
use Rattle.repo_model.specs.Data.{Row, Session, Staged}
use Rattle.repo_model.specs.Deploy.{Offence, deliver_all, offence, pom_of, without_pom}
use Rattle.repo_model.specs.Effect.{Effect, ends, items_of, recorded}
use Rattle.repo_model.specs.History.{Entry, Fits, IsReply, Legal, after, due, wants_memory, failed as store_failed, effects_of, end}
use Rattle.repo_model.specs.Reply.{Reply, ended, is_free, missing_pom, no_memory, offends, store_fault}
use Rattle.repo_model.specs.Settings.{Settings}
use Rattle.repo_model.specs.State.{State, is_row, is_session, row_at, rows_of, session_of}
use Rattle.repo_model.specs.Tables.{Tables}
use Rattle.repo_model.specs.Turn.{Turn, commit_by, turn}
use Rattle.repo_laws.specs.Described.{IsAmong}
use Rattle.repo_laws.specs.Laws.{AreApart}
use Rattle.repo_laws.specs.Sound.{AreNamedApart, IsInOrder, IsSound}
use Rattle.repo_laws.specs.Deployed.{HasItsPom, IsVisibleAs}
use Rattle.repo_laws.proofs.Deploying.{files-visible, poms-visible}
use Rattle.repo_laws.proofs.Keeping.{ends-sound}
use Rattle.repo_laws.proofs.Lists.{found-passes}
use Rattle.repo_laws.proofs.Orderly.{found-has}
use Rattle.repo_laws.proofs.Releases.{same_path}
use Rattle.session_laws.specs.Ended.{ends_session}
use Rattle.session_laws.proofs.Ending.{history-again}
use Rattle.row_tables.specs.Crashes.{Unsettled}
use Rattle.repo_routes.specs.Intent.{Intent, Judged, commits}
use Rattle.repo_routes.specs.Judge.{judge}
use Rattle.repo_course.specs.Course.{course_for, mode_for, tells as tells_reply}
use Rattle.repo_course.specs.Serving.{Follows, Outside, RequestTurn}
use Rattle.repo_course.specs.declared.mode.ResponseMode.{ResponseMode}
use Rattle.repo_course.specs.declared.outcomes.End.{End}
use Rattle.repo_course.specs.declared.response.Response.TheVariants as response
use Rattle.closed_laws.proofs.NamedServed.{among-has}
use Rattle.answer_laws.specs.Marked.{Mark, entries_of}
use Rattle.answer_laws.specs.Why.{AllCaused}
use Rattle.served_laws.specs.Crashed.{Made, OutlastsCrashes, entries_made}
use Rattle.running_laws.specs.Answered.{FollowsTo, answer_in, answer_to}
use Rattle.running_laws.specs.Committed.{CommitOutlasts}
use Rattle.served_laws.proofs.Kept.{entries-at}
use Rattle.running_laws.proofs.Puts.{caused-at, turn-course}
use Rattle.running_laws.proofs.Spared.{cut}
use Rattle.served_laws.proofs.Crashed.{made-on}

abbrev CommitAmong : ℕ → ℕ → List Entry → Type 0
CommitAmong n k entries = (e : Entry) × IsAmong e entries × (e.command ≡ commit n) × (e.reply ≡ ended (Done k))

module _ (tells : Type 0) (mode : ResponseMode) (k : ℕ) where
  reply-done : (reply : Reply) (entries : List Entry) (old new : Outside) (end : Option End) (f : Follows tells (tells_reply mode reply) entries old new end)
      → answer_in tells (tells_reply mode reply) entries old new end f ≡ Some (response.Ended (Done k)) → reply ≡ ended (Done k)
  reply-done (ended result) entries old new end f is = let same : result ≡ Done k = cc in ap ended same
  reply-done _ entries old new end f is = absurd (cc)

  course-commit : (n : ℕ) (expects : _) (entries : List Entry) (old new : Outside) (end : Option End)
      → FollowsTo (response.Ended (Done k)) tells (course_for mode expects (commits n)) entries old new end → CommitAmong n k entries
  course-commit n expects [] old new end (f, is) = absurd f
  course-commit n expects (e ∷ entries) old new end (f, is) = (e, inl refl, f.0, reply-done e.reply entries old new end f.1 is)

-- what a commit that is done recorded
more-recorded : (es : List Effect) (n : ℕ) (r : SessionResult) → recorded (es ++ ends n r ∷ []) ≢ []
more-recorded [] n r is = absurd (cc)
more-recorded (e ∷ es) n r is = more-recorded es n r (right (items_of e) (recorded (es ++ ends n r ∷ [])) is)
  where
    right : (xs ys : List Item) → xs ++ ys ≡ [] → ys ≡ []
    right [] ys is = is
    right (x ∷ xs) ys is = absurd (cc)

module _ (settings : Settings) (old : State) (e : Entry) (n k : ℕ) (one : Session) (fits : Fits settings old e) (is_commit : e.command ≡ commit n)
    (known : session_of n old ≡ Some one) (going : one.ended ≡ None) (is_done : e.reply ≡ ended (Done k)) where
  abbrev rows : List Row
  rows = rows_of one.repo old

  abbrev Committed : Option Offence → Option (List ℕ) → Type 0
  Committed other pom = (commit_by one e.moment rows other pom).reply ≡ ended (Done k) → (other ≡ None) × (pom ≡ None)

  committed : (other : Option Offence) (pom : Option (List ℕ)) → Committed other pom
  committed (Some other) pom is = absurd (let x : offends other.path other.kept other.sent ≡ ended (Done k) = is in cc)
  committed None (Some directory) is = absurd (let x : missing_pom directory ≡ ended (Done k) = is in cc)
  committed None None is = (refl, refl)

  turn-is : (turn settings old e.moment e.command) ≡ commit_by one e.moment rows (offence rows one.staged) (without_pom rows one.staged)
  turn-is = ap (turn settings old e.moment) is_commit ∙ rw (known, going) refl

  parts : (offence rows one.staged ≡ None) × (without_pom rows one.staged ≡ None)
  parts = by fits.reply where
    by : IsReply settings old e → (offence rows one.staged ≡ None) × (without_pom rows one.staged ≡ None)
    by (due is did) = committed (offence rows one.staged) (without_pom rows one.staged) (ap (λ (t : Turn). t.reply) (sym turn-is) ∙ sym is ∙ is_done)
    by (wants_memory is free did) = absurd (let x : no_memory ≡ ended (Done k) = sym is ∙ is_done in cc)
    by (store_failed is asked rose) = absurd (let x : store_fault ≡ ended (Done k) = sym is ∙ is_done in cc)

  effects-are : effects_of settings old e ≡ deliver_all one e.moment rows ++ ends one.number (Done (length one.staged)) ∷ []
  effects-are =
      ap (λ r. if is_free r then [] else (turn settings old e.moment e.command).effects) is_done
      ∙ ap (λ (t : Turn). t.effects) turn-is
      ∙ ap (λ other. (commit_by one e.moment rows other (without_pom rows one.staged)).effects) parts.0
      ∙ ap (λ pom. (commit_by one e.moment rows None pom).effects) parts.1

  commit-records : recorded (effects_of settings old e) ≢ []
  commit-records none = more-recorded (deliver_all one e.moment rows) one.number (Done (length one.staged)) (ap recorded (sym effects-are) ∙ none)

legal-on : (settings : Settings) (xs ys : List Entry) (s : State) → Legal settings s (xs ++ ys) → Legal settings (end settings s xs) ys
legal-on settings [] ys s legal = legal
legal-on settings (x ∷ xs) ys s legal = legal-on settings xs ys (after settings s x) legal.1

ends-it : (n : ℕ) (command : Command) → command ≡ commit n → ends_session n command ≡ true
ends-it n command is = ap (ends_session n) is ∙ eq-eqb n n refl

pub commit-outlasts : (settings : Settings) (start : State) (t : Tables) (old : Unsettled) (made : List Made) (marks : List Mark) (tells : Type 0) (last : _) (past entries rest : List Entry)
    (before behind : Outside) (ending : Option End) (input came : List ℕ) (head : Head) (request : Judged) (n k : ℕ)
    (turned : RequestTurn settings tells last entries before behind ending) → AreNamedApart settings.hosted → IsSound settings start → Legal settings start (entries_made made)
    → OutlastsCrashes settings start t old made → entries_of marks ≡ entries_made made
    → AllCaused settings tells start marks past [] entries rest → before.input ≡ Some input → front input ≡ Whole head came → judge settings head ≡ Ok request
    → request.intent ≡ commits n → answer_to settings tells last entries before behind ending turned ≡ Some (response.Ended (Done k))
    → CommitOutlasts settings start t old made n k
commit-outlasts settings start t old made marks tells last past entries rest before behind ending input came head request n k turned apart sound legal outlast same caused told front_is judged asks_it answered =
    let (mid, d) =
    turn-course settings tells last (response.Ended (Done k)) (λ x. absurd (cc)) (λ x. absurd (cc)) (λ x. absurd (cc)) entries before behind ending input came head request turned told front_is judged
    answered in
    let (e, among, is, done) =
    course-commit tells (mode_for request last) k n request.expects entries mid behind ending
    (subst (λ (i : Intent). FollowsTo (response.Ended (Done k)) tells (course_for (mode_for request last) request.expects i) entries mid behind ending) asks_it d) in
    let (front, back, at) = caused-at settings tells start marks past [] entries rest e caused among in
    let (first, later, m, parts_are, entry_is) = entries-at made marks front back e same at in
    let command_is : m.entry.command ≡ commit n = ap (λ (x : Entry). x.command) entry_is ∙ is in
    let reply_is : m.entry.reply ≡ ended (Done k) = ap (λ (x : Entry). x.reply) entry_is ∙ done in
    let all : Legal settings start (entries_made first ++ m.entry ∷ entries_made later) =
    subst (Legal settings start) (ap entries_made parts_are ∙ made-on settings first (m ∷ later)) legal in
    let (legal_first, fits) = cut settings (entries_made first) m.entry (entries_made later) start all in
    let there = end settings start (entries_made first) in
    let sound_there = ends-sound settings apart start (entries_made first) sound legal_first in
    let in_order : (one : Session) → session_of n there ≡ Some one → (one.ended ≡ None → IsTrue (is_there one.repo settings)) × AreApart one.staged = λ one known.
    found-has (IsInOrder settings) (is_session n) there.sessions one sound_there.order.sessions known in
    record {
      first = first;
      m = m;
      later = later;
      parts = parts_are;
      command_is = command_is;
      reply_is = reply_is;
      files = λ one file c known going staged named.
          let now = rows_of one.repo (after settings there m.entry) in
          let visible = files-visible settings there m.entry n k one sound_there.order fits command_is known going reply_is in
          let (row, found, phase, print) = among-has (λ (f : Staged). IsVisibleAs f.path f.blob.print now) file one.staged visible staged in
          let path_is : row.path ≡ file.path = same_path row.path file.path (found-passes (is_row file.path) now row found) in
          let here : row_at row.path now ≡ Some row = ap (λ (p : List ℕ). row_at p now) path_is ∙ found in (
            row,
            path_is,
            here,
            print,
            λ soon others split stay.
                outlast.standing first soon others m one.repo row c (parts_are ∙ ap (λ (ms : List Made). first ++ m ∷ ms) split)
                (commit-records settings there m.entry n k one fits command_is known going reply_is) here ((in_order one known).0 going) (ap kind path_is ∙ named) stay,
          );
      poms = λ one file at_file c known going staged named_so built named.
          let now = rows_of one.repo (after settings there m.entry) in
          let visible = poms-visible settings there m.entry n k one sound_there.order fits command_is known going reply_is in
          let (row, found, phase) = among-has (HasItsPom now) file one.staged visible staged at_file named_so built in
          let path_is : row.path ≡ pom_of at_file = same_path row.path (pom_of at_file) (found-passes (is_row (pom_of at_file)) now row found) in
          let here : row_at row.path now ≡ Some row = ap (λ (p : List ℕ). row_at p now) path_is ∙ found in (
            row,
            path_is,
            here,
            λ soon others split stay.
                outlast.standing first soon others m one.repo row c (parts_are ∙ ap (λ (ms : List Made). first ++ m ∷ ms) split)
                (commit-records settings there m.entry n k one fits command_is known going reply_is) here ((in_order one known).0 going) (ap kind path_is ∙ named) stay,
          );
      again = λ between others other split other_is.
          history-again settings there m.entry other.entry (entries_made between) (entries_made others) n (Done k)
          (subst (λ (es : List Entry). Legal settings there (m.entry ∷ es)) (ap entries_made split ∙ made-on settings between (other ∷ others))
          (legal-on settings (entries_made first) (m.entry ∷ entries_made later) start all))
          (ends-it n m.entry.command command_is) reply_is (ends-it n other.entry.command other_is);
    }
