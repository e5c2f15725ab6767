-- Each turn by what it comes to: one case for each reply that a command can get.
use Rattle.std.proofs.Common.{◌≡◌, ℕ, Bool, true, false, List, [], ◌∷◌, ◌++◌, length, Option, Some, None, Result, Ok, refl}
use Rattle.std.specs.Prelude.{◌==◌, nat_le, count_by, find, if◌then◌else◌, bytes_eq}
use Rattle.std.specs.Option.{option_map}
use Rattle.mvn_coords.specs.Kind.{kind}
use Rattle.mvn_coords.specs.declared.kind.Kind.{Kind}
use Rattle.mvn_coords.specs.declared.kind.Kind.TheVariants.{FileSide}
use Rattle.mvn_coords.specs.declared.fault.PathFault.{PathFault}
use Rattle.mvn_coords.specs.Layout.{text_of}
use Rattle.mvn_digest.specs.Digests.{digests_of}
use Rattle.repo_model.specs.declared.print.Print.{Print}
use Rattle.repo_model.specs.declared.question.Question.{Question}
use Rattle.repo_model.specs.declared.session.SessionResult.{SessionResult}
use Rattle.repo_model.specs.declared.session.SessionResult.TheVariants.{Aborted, Done}
use Rattle.repo_model.specs.Data.{Blob, Row, Phase, listed, fading, Hosted, Staged, Session, Place, repository, session, is_same_print}
use Rattle.fetch_plan.specs.declared.Plan.{Plan}
use Rattle.repo_model.specs.Fetched.{Landing}
use Rattle.repo_model.specs.Settings.{ProxyRule, Settings}
use Rattle.repo_model.specs.Paths.{takes}
use Rattle.repo_model.specs.State.{State, hosted_of, row_at, rows_of, session_of, open_of, is_open, is_staged, is_among, number_end, most_sessions}
use Rattle.repo_model.specs.Effect.{Effect, draws, drops, creates, stages, relists, lends, returns, opens, ends, with_effects}
use Rattle.repo_model.specs.Command.{Command, look, done, may_put, put, put_side, put_doc, drop_draft, open_session, stage, commit, abort, unlist, collect, ask, land}
use Rattle.repo_model.specs.Reply.{Reply, file, text, doc, missed, given_back, kind_refused, draft, no_draft, taken, same, relisted, created, not_there, differs, agreed, noted, dropped, no_session, sessions_full, opened, session_full, staged, offends, missing_pom, ended, unlisted, finds, spent, fetches, blocked, negative, never_asked, landed}
use Rattle.repo_model.specs.Asked.{finding_of}
use Rattle.repo_model.specs.Purge.{due_rows, fade_all, expire_all}
use Rattle.repo_model.specs.Deploy.{Offence, offence, without_pom, deliver_all, discard_all}
use Rattle.repo_model.specs.Turn.{Turn, says, draws_or_spent, Seen, is_file, is_text, is_doc, is_nothing, is_to_fetch, is_blocked, is_negative, is_never, look_at, plan_of, longest_document, is_drawn, lands, shows, in_repository, has_room, draws_draft, may_put_in, put_again, put_at, compared, judged, with_open, staged_at, stage_at, stage_in, commit_by, commit_of, abort_of, unlist_of, collect_of, turn, file_limit}
use Rattle.mvn_digest.specs.Sides.{side_of}

-- a reply and the effects with it
abbrev pub does : Reply → List Effect → Turn
does reply effects = record { reply = reply; effects = effects }

pub data Case (settings : Settings) (s : State) (now : ℕ) : Command → Turn → Type 0 where
  lends_file : (repo path tried : List ℕ) (blob : Blob) → (s.yard.next_lease == number_end) ≡ false → look_at settings s now repo tried path ≡ is_file blob
      → Case settings s now (look repo path tried) (does (file s.yard.next_lease blob) (lends blob.number ∷ []))
  no_lease : (repo path tried : List ℕ) (blob : Blob) → (s.yard.next_lease == number_end) ≡ true → look_at settings s now repo tried path ≡ is_file blob
      → Case settings s now (look repo path tried) (says spent)
  shows_text : (repo path tried bytes : List ℕ) → Case settings s now (look repo path tried) (says (text bytes))
  shows_doc : (repo path tried bytes : List ℕ) → Case settings s now (look repo path tried) (says (doc bytes (digests_of bytes)))
  misses : (repo path tried : List ℕ) → Case settings s now (look repo path tried) (says missed)
  plans_file : (repo path tried : List ℕ) (member : ℕ) (rule : ProxyRule) (at : List ℕ) → (s.yard.next_draft == number_end) ≡ false
      → look_at settings s now repo tried path ≡ is_to_fetch member rule at true
      → Case settings s now (look repo path tried) (does (fetches (plan_of member rule at (Some s.yard.next_draft) (file_limit settings))) (draws ∷ []))
  no_plan : (repo path tried : List ℕ) (member : ℕ) (rule : ProxyRule) (at : List ℕ) → (s.yard.next_draft == number_end) ≡ true
      → look_at settings s now repo tried path ≡ is_to_fetch member rule at true → Case settings s now (look repo path tried) (says spent)
  plans_document : (repo path tried : List ℕ) (member : ℕ) (rule : ProxyRule) (at : List ℕ) → look_at settings s now repo tried path ≡ is_to_fetch member rule at false
      → Case settings s now (look repo path tried) (says (fetches (plan_of member rule at None longest_document)))
  is_not_let_through : (repo path tried : List ℕ) → Case settings s now (look repo path tried) (says blocked)
  is_known_missing : (repo path tried : List ℕ) → Case settings s now (look repo path tried) (says negative)
  is_never_asked : (repo path tried : List ℕ) → Case settings s now (look repo path tried) (says never_asked)
  takes_back : (lease : ℕ) → Case settings s now (done lease) (does given_back (returns lease ∷ []))
  gives_draft : (place : Place) (path : List ℕ) → (s.yard.next_draft == number_end) ≡ false
      → Case settings s now (may_put place path) (does (draft s.yard.next_draft) (draws ∷ []))
  no_more_drafts : (place : Place) (path : List ℕ) → (s.yard.next_draft == number_end) ≡ true → Case settings s now (may_put place path) (says spent)
  refuses_kind : (place : Place) (path : List ℕ) → Case settings s now (may_put place path) (says kind_refused)
  no_place : (place : Place) (path : List ℕ) → Case settings s now (may_put place path) (says no_session)
  no_room : (place : Place) (path : List ℕ) → Case settings s now (may_put place path) (says session_full)
  not_drawn : (repo path : List ℕ) (n : ℕ) (blob : Blob) → is_among n s.yard.drafts ≡ false → Case settings s now (put repo path n blob) (says no_draft)
  makes_row : (repo path : List ℕ) (n : ℕ) (blob : Blob) → is_among n s.yard.drafts ≡ true → row_at path (rows_of repo s) ≡ None
      → Case settings s now (put repo path n blob) (does created (creates repo path blob now ∷ []))
  has_same : (repo path : List ℕ) (n : ℕ) (blob : Blob) → is_among n s.yard.drafts ≡ true → Case settings s now (put repo path n blob) (does same (drops n ∷ []))
  lists_again : (repo path : List ℕ) (n : ℕ) (blob : Blob) → is_among n s.yard.drafts ≡ true
      → (row : Row) (since : ℕ) → row_at path (rows_of repo s) ≡ Some row → row.phase ≡ fading since
      → Case settings s now (put repo path n blob) (does relisted (relists repo path now ∷ drops n ∷ []))
  has_other : (repo path : List ℕ) (n : ℕ) (blob : Blob) (kept : Print) → is_among n s.yard.drafts ≡ true
      → Case settings s now (put repo path n blob) (does (taken kept blob.print) (drops n ∷ []))
  side_differs : (place : Place) (path said kept : List ℕ) → Case settings s now (put_side place path said) (says (differs said kept))
  side_agrees : (place : Place) (path said : List ℕ) → Case settings s now (put_side place path said) (says agreed)
  side_alone : (place : Place) (path said : List ℕ) → Case settings s now (put_side place path said) (says not_there)
  side_nowhere : (place : Place) (path said : List ℕ) → Case settings s now (put_side place path said) (says no_session)
  notes : (place : Place) (path : List ℕ) → Case settings s now (put_doc place path) (says noted)
  notes_nowhere : (place : Place) (path : List ℕ) → Case settings s now (put_doc place path) (says no_session)
  gives_up : (n : ℕ) → is_among n s.yard.drafts ≡ true → Case settings s now (drop_draft n) (does dropped (drops n ∷ []))
  gives_nothing_up : (n : ℕ) → is_among n s.yard.drafts ≡ false → Case settings s now (drop_draft n) (says dropped)
  opens_one : (repo : List ℕ) → (s.yard.next_session == number_end) ≡ false → nat_le most_sessions (count_by is_open s.sessions) ≡ false
      → Case settings s now (open_session repo) (does (opened s.yard.next_session) (opens s.yard.next_session repo ∷ []))
  no_more_sessions : (repo : List ℕ) → (s.yard.next_session == number_end) ≡ true → Case settings s now (open_session repo) (says spent)
  too_many : (repo : List ℕ) → Case settings s now (open_session repo) (says sessions_full)
  stage_not_drawn : (at : ℕ) (path : List ℕ) (n : ℕ) (blob : Blob) → is_among n s.yard.drafts ≡ false → Case settings s now (stage at path n blob) (says no_draft)
  stage_nowhere : (at : ℕ) (path : List ℕ) (n : ℕ) (blob : Blob) → is_among n s.yard.drafts ≡ true → Case settings s now (stage at path n blob) (does no_session (drops n ∷ []))
  stages_one : (at : ℕ) (path : List ℕ) (n : ℕ) (blob : Blob) (one : Session) → is_among n s.yard.drafts ≡ true
      → open_of at s ≡ Some one → find (is_staged path) one.staged ≡ None → has_room path one.staged ≡ true
      → Case settings s now (stage at path n blob) (does staged (stages one.number path blob ∷ []))
  stage_full : (at : ℕ) (path : List ℕ) (n : ℕ) (blob : Blob) → is_among n s.yard.drafts ≡ true → Case settings s now (stage at path n blob) (does session_full (drops n ∷ []))
  stage_same : (at : ℕ) (path : List ℕ) (n : ℕ) (blob : Blob) → is_among n s.yard.drafts ≡ true → Case settings s now (stage at path n blob) (does same (drops n ∷ []))
  stage_other : (at : ℕ) (path : List ℕ) (n : ℕ) (blob : Blob) (kept : Print) → is_among n s.yard.drafts ≡ true
      → Case settings s now (stage at path n blob) (does (taken kept blob.print) (drops n ∷ []))
  commits_nothing : (n : ℕ) → Case settings s now (commit n) (says no_session)
  committed : (n : ℕ) (result : SessionResult) → Case settings s now (commit n) (says (ended result))
  commit_offends : (n : ℕ) (other : Offence) → Case settings s now (commit n) (says (offends other.path other.kept other.sent))
  commit_lacks : (n : ℕ) (directory : List ℕ) → Case settings s now (commit n) (says (missing_pom directory))
  deploys : (n : ℕ) (one : Session) → session_of n s ≡ Some one → one.ended ≡ None
      → Case settings s now (commit n) (does (ended (Done (length one.staged))) (deliver_all one now (rows_of one.repo s) ++ ends one.number (Done (length one.staged)) ∷ []))
  aborts_nothing : (n : ℕ) → Case settings s now (abort n) (says no_session)
  has_ended : (n : ℕ) (result : SessionResult) → Case settings s now (abort n) (says (ended result))
  aborts : (n : ℕ) (one : Session) → session_of n s ≡ Some one → one.ended ≡ None
      → Case settings s now (abort n) (does (ended Aborted) (discard_all one ++ ends one.number Aborted ∷ []))
  unlists_nothing : (repo : List ℕ) → Case settings s now (unlist repo) (says (unlisted 0))
  unlists : (repo : List ℕ) (h : Hosted) → hosted_of repo s ≡ Some h
      → Case settings s now (unlist repo) (does (unlisted (length (due_rows h.rule now h.rows))) (fade_all h now))
  collects : Case settings s now collect (collect_of (expire_all settings.grace now s.hosted) (with_effects s (expire_all settings.grace now s.hosted)).yard)
  tells : (question : Question) → Case settings s now (ask question) (says (finds (finding_of s question)))
  lands_one : (plan : Plan) (outcome : Landing) → is_drawn plan.draft s.yard.drafts ≡ true → Case settings s now (land plan outcome) (does landed (lands s now plan outcome))
  lands_late : (plan : Plan) (outcome : Landing) → is_drawn plan.draft s.yard.drafts ≡ false → Case settings s now (land plan outcome) (says no_draft)

module _ (settings : Settings) (s : State) (now : ℕ) where
  abbrev Is : Command → Turn → Type 0
  Is c t = Case settings s now c t

  if-case : (c : Command) (b : Bool) (t u : Turn) → (b ≡ true → Is c t) → (b ≡ false → Is c u) → Is c (if b then t else u)
  if-case c true t u one other = one refl
  if-case c false t u one other = other refl

  look-case : (repo path tried : List ℕ) (seen : Seen) → look_at settings s now repo tried path ≡ seen → Is (look repo path tried) (shows settings s.yard seen)
  look-case repo path tried (is_file blob) is =
      if-case (look repo path tried) (s.yard.next_lease == number_end) (says spent) (does (file s.yard.next_lease blob) (lends blob.number ∷ []))
      (λ last. no_lease repo path tried blob last is) (λ more. lends_file repo path tried blob more is)
  look-case repo path tried (is_text bytes) is = shows_text repo path tried bytes
  look-case repo path tried (is_doc bytes) is = shows_doc repo path tried bytes
  look-case repo path tried is_nothing is = misses repo path tried
  look-case repo path tried (is_to_fetch member rule at true) is =
      if-case (look repo path tried) (s.yard.next_draft == number_end) (says spent) (does (fetches (plan_of member rule at (Some s.yard.next_draft) (file_limit settings))) (draws ∷ []))
      (λ last. no_plan repo path tried member rule at last is) (λ more. plans_file repo path tried member rule at more is)
  look-case repo path tried (is_to_fetch member rule at false) is = plans_document repo path tried member rule at is
  look-case repo path tried is_blocked is = is_not_let_through repo path tried
  look-case repo path tried is_negative is = is_known_missing repo path tried
  look-case repo path tried is_never is = is_never_asked repo path tried

  draft-case : (place : Place) (path : List ℕ) → Is (may_put place path) (draws_draft s.yard.next_draft)
  draft-case place path =
      if-case (may_put place path) (s.yard.next_draft == number_end) (says spent) (does (draft s.yard.next_draft) (draws ∷ []))
      (λ last. no_more_drafts place path last) (λ more. gives_draft place path more)

  in-case : (place : Place) (path : List ℕ) (found : Option Hosted) (t : Turn) → Is (may_put place path) t → Is (may_put place path) (in_repository path found t)
  in-case place path None t so = refuses_kind place path
  in-case place path (Some h) t so = if-case (may_put place path) (takes h.rule path) t (says kind_refused) (λ _. so) (λ _. refuses_kind place path)

  may_put-case : (n : ℕ) (path : List ℕ) (found : Option Session) → Is (may_put (session n) path) (may_put_in s path found)
  may_put-case n path None = no_place (session n) path
  may_put-case n path (Some one) =
      in-case (session n) path (hosted_of one.repo s) (if has_room path one.staged then draws_draft s.yard.next_draft else says session_full)
      (if-case (may_put (session n) path) (has_room path one.staged) (draws_draft s.yard.next_draft) (says session_full) (λ _. draft-case (session n) path) (λ _. no_room (session n) path))

  put-case : (repo path : List ℕ) (n : ℕ) (blob : Blob) (found : Option Row) → is_among n s.yard.drafts ≡ true → row_at path (rows_of repo s) ≡ found
      → Is (put repo path n blob) (put_at repo path n blob now found)
  put-case repo path n blob None among is = makes_row repo path n blob among is
  put-case repo path n blob (Some row) among is =
      if-case (put repo path n blob) (is_same_print row.blob.print blob.print) (put_again repo path n now row.phase) (does (taken row.blob.print blob.print) (drops n ∷ []))
      (λ _. again row.phase refl) (λ _. has_other repo path n blob row.blob.print among) where
        again : (phase : Phase) → row.phase ≡ phase → Is (put repo path n blob) (put_again repo path n now phase)
        again listed phase_is = has_same repo path n blob among
        again (fading since) phase_is = lists_again repo path n blob among row since is phase_is

  compared-case : (place : Place) (path said : List ℕ) (found : Option (List ℕ)) → Is (put_side place path said) (compared said found)
  compared-case place path said None = side_alone place path said
  compared-case place path said (Some kept) =
      if-case (put_side place path said) (bytes_eq said kept) (says agreed) (says (differs said kept)) (λ _. side_agrees place path said) (λ _. side_differs place path said kept)

  judged-case : (place : Place) (path said : List ℕ) (k : Result Kind PathFault) (blob_at : List ℕ → Option Blob) → Is (put_side place path said) (judged k said blob_at)
  judged-case place path said (Ok (FileSide c side)) blob_at = compared-case place path said (option_map (λ (blob : Blob). side_of blob.print.digests side) (blob_at (text_of c)))
  judged-case place path said k blob_at = side_agrees place path said

  open-case : (c : Command) (found : Option Session) (f : Session → Turn) → Is c (says no_session) → ((one : Session) → found ≡ Some one → Is c (f one)) → Is c (with_open found f)
  open-case c None f none some = none
  open-case c (Some one) f none some = some one refl

  stage-case : (at : ℕ) (path : List ℕ) (n : ℕ) (blob : Blob) → is_among n s.yard.drafts ≡ true → (found : Option Session) → open_of at s ≡ found → Is (stage at path n blob) (stage_in path n blob found)
  stage-case at path n blob among None _ = stage_nowhere at path n blob among
  stage-case at path n blob among (Some one) known = by_kept (find (is_staged path) one.staged) refl where
    by_kept : (kept : Option Staged) → find (is_staged path) one.staged ≡ kept → Is (stage at path n blob) (stage_at one path n blob (option_map (λ (f : Staged). f.blob) kept))
    by_kept None free =
        if-case (stage at path n blob) (has_room path one.staged) (does staged (stages one.number path blob ∷ [])) (does session_full (drops n ∷ []))
        (λ room. stages_one at path n blob one among known free room) (λ _. stage_full at path n blob among)
    by_kept (Some other) _ =
        elim (is_same_print other.blob.print blob.print) as (λ b. Is (stage at path n blob) (does (if b then same else taken other.blob.print blob.print) (drops n ∷ []))) [
          | true ↦ stage_same at path n blob among
          | false ↦ stage_other at path n blob other.blob.print among
        ]

  commit-case : (n : ℕ) (one : Session) → session_of n s ≡ Some one → (ended : Option SessionResult) → one.ended ≡ ended → Is (commit n) (commit_of one now (rows_of one.repo s) ended)
  commit-case n one is (Some result) _ = committed n result
  commit-case n one is None going = by_offence (offence (rows_of one.repo s) one.staged) (without_pom (rows_of one.repo s) one.staged) where
    by_offence : (other : Option Offence) (pom : Option (List ℕ)) → Is (commit n) (commit_by one now (rows_of one.repo s) other pom)
    by_offence (Some other) pom = commit_offends n other
    by_offence None (Some directory) = commit_lacks n directory
    by_offence None None = deploys n one is going

  abort-case : (n : ℕ) (one : Session) → session_of n s ≡ Some one → (ended : Option SessionResult) → one.ended ≡ ended → Is (abort n) (abort_of one ended)
  abort-case n one is (Some result) _ = has_ended n result
  abort-case n one is None going = aborts n one is going

  unlist-case : (repo : List ℕ) (found : Option Hosted) → hosted_of repo s ≡ found → Is (unlist repo) (unlist_of now found)
  unlist-case repo None _ = unlists_nothing repo
  unlist-case repo (Some h) is = unlists repo h is

  -- each turn is one of the cases
  pub turn-case : (c : Command) → Is c (turn settings s now c)
  turn-case (look repo path tried) = look-case repo path tried (look_at settings s now repo tried path) refl
  turn-case (done lease) = takes_back lease
  turn-case (may_put (repository repo) path) = in-case (repository repo) path (hosted_of repo s) (draws_draft s.yard.next_draft) (draft-case (repository repo) path)
  turn-case (may_put (session n) path) = may_put-case n path (open_of n s)
  turn-case (put repo path n blob) =
      if-case (put repo path n blob) (is_among n s.yard.drafts) (put_at repo path n blob now (row_at path (rows_of repo s))) (says no_draft)
      (λ among. put-case repo path n blob (row_at path (rows_of repo s)) among refl) (λ none. not_drawn repo path n blob none)
  turn-case (put_side (repository repo) path said) = judged-case (repository repo) path said (kind path) (λ at. option_map (λ (row : Row). row.blob) (row_at at (rows_of repo s)))
  turn-case (put_side (session n) path said) =
      open-case (put_side (session n) path said) (open_of n s) (λ found. judged (kind path) said (λ at. staged_at at found.staged)) (side_nowhere (session n) path said)
      (λ one _. judged-case (session n) path said (kind path) (λ at. staged_at at one.staged))
  turn-case (put_doc (repository repo) path) = notes (repository repo) path
  turn-case (put_doc (session n) path) =
      open-case (put_doc (session n) path) (open_of n s) (λ found. says noted) (notes_nowhere (session n) path) (λ one _. notes (session n) path)
  turn-case (drop_draft n) =
      elim (is_among n s.yard.drafts) as (λ b. is_among n s.yard.drafts ≡ b → Is (drop_draft n) (does dropped (if b then drops n ∷ [] else []))) [
        | true ↦ λ among. gives_up n among
        | false ↦ λ none. gives_nothing_up n none
      ] refl
  turn-case (open_session repo) =
      if-case (open_session repo) (nat_le most_sessions (count_by is_open s.sessions)) (says sessions_full)
      (draws_or_spent s.yard.next_session (does (opened s.yard.next_session) (opens s.yard.next_session repo ∷ [])))
      (λ _. too_many repo)
      (λ few. if-case (open_session repo) (s.yard.next_session == number_end) (says spent) (does (opened s.yard.next_session) (opens s.yard.next_session repo ∷ []))
      (λ last. no_more_sessions repo last) (λ more. opens_one repo more few))
  turn-case (stage at path n blob) =
      if-case (stage at path n blob) (is_among n s.yard.drafts) (stage_in path n blob (open_of at s)) (says no_draft)
      (λ among. stage-case at path n blob among (open_of at s) refl) (λ none. stage_not_drawn at path n blob none)
  turn-case (commit n) =
      open-case (commit n) (session_of n s) (λ known. commit_of known now (rows_of known.repo s) known.ended) (commits_nothing n) (λ one is. commit-case n one is one.ended refl)
  turn-case (abort n) =
      open-case (abort n) (session_of n s) (λ known. abort_of known known.ended) (aborts_nothing n) (λ one is. abort-case n one is one.ended refl)
  turn-case (unlist repo) = unlist-case repo (hosted_of repo s) refl
  turn-case collect = collects
  turn-case (ask question) = tells question
  turn-case (land plan outcome) =
      if-case (land plan outcome) (is_drawn plan.draft s.yard.drafts) (does landed (lands s now plan outcome)) (says no_draft)
      (λ drawn. lands_one plan outcome drawn) (λ late. lands_late plan outcome late)
