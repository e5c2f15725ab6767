-- The replies of the machine, as plain data, and which of them a command can get.
use Rattle.std.specs.Prelude.{ℕ, Bool, true, false, List}
use Rattle.mvn_digest.specs.declared.digests.Digests.{Digests}
use Rattle.repo_model.specs.declared.print.Print.{Print}
use Rattle.repo_model.specs.declared.session.SessionResult.{SessionResult}
use Rattle.repo_model.specs.declared.question.Finding.{Finding}
use Rattle.repo_model.specs.Data.{Blob}
use Rattle.fetch_plan.specs.declared.Plan.{Plan}
use Rattle.repo_model.specs.Command.{Command, look, done, may_put, put, put_side, put_doc, drop_draft, open_session, stage, commit, abort, unlist, collect, ask, land}

pub data Reply : Type 0 where
  -- to a look: the file, its blob borrowed under the lease; the text of a side file; the document and its digests; nothing
  file : (lease : ℕ) (blob : Blob) → Reply
  text : List ℕ → Reply
  doc : (text : List ℕ) (digests : Digests) → Reply
  missed : Reply
  given_back : Reply
  -- the repository does not take files of the path's kind
  kind_refused : Reply
  draft : ℕ → Reply
  -- the number is no draft
  no_draft : Reply
  -- the path has a file of another content
  taken : (kept sent : Print) → Reply
  same : Reply
  relisted : Reply
  created : Reply
  -- to a side file: no such file, or its digest is another one, or the same
  not_there : Reply
  differs : (said kept : List ℕ) → Reply
  agreed : Reply
  noted : Reply
  dropped : Reply
  -- no session is open under the number; no more may be opened; none of the number, opened under it
  no_session : Reply
  sessions_full : Reply
  opened : ℕ → Reply
  -- no more files may be staged
  session_full : Reply
  staged : Reply
  -- to a commit: the first staged path that has a file of another content, or the first release directory without its pom
  offends : (path : List ℕ) (kept sent : Print) → Reply
  missing_pom : (directory : List ℕ) → Reply
  ended : SessionResult → Reply
  unlisted : ℕ → Reply
  -- rows that are gone, and blobs to be removed
  collected : (expired : ℕ) (blobs : List ℕ) → Reply
  -- to a question
  finds : Finding → Reply
  -- the next number to draw is 2 ^ 63
  spent : Reply
  no_memory : Reply
  store_fault : Reply
  -- to a look at a proxy or group: this is to be fetched, and then landed; at a proxy why nothing is answered
  fetches : Plan → Reply
  blocked : Reply
  negative : Reply
  never_asked : Reply
  -- what came of a fetch is kept, as far as it is
  landed : Reply

-- the two replies that no state determines: they change nothing but the moment
abbrev pub is_free : Reply → Bool
is_free no_memory = true
is_free store_fault = true
is_free reply = false

-- running out of memory may be the reply to it
abbrev pub takes_memory : Command → Bool
takes_memory (done lease) = false
takes_memory (drop_draft n) = false
takes_memory command = true

abbrev pub is_look_reply : Reply → Bool
is_look_reply (file lease blob) = true
is_look_reply (text bytes) = true
is_look_reply (doc bytes digests) = true
is_look_reply missed = true
is_look_reply spent = true
is_look_reply (fetches plan) = true
is_look_reply blocked = true
is_look_reply negative = true
is_look_reply never_asked = true
is_look_reply reply = false

abbrev pub is_done_reply : Reply → Bool
is_done_reply given_back = true
is_done_reply reply = false

abbrev pub is_may_put_reply : Reply → Bool
is_may_put_reply no_session = true
is_may_put_reply kind_refused = true
is_may_put_reply session_full = true
is_may_put_reply spent = true
is_may_put_reply (draft n) = true
is_may_put_reply reply = false

abbrev pub is_put_reply : Reply → Bool
is_put_reply no_draft = true
is_put_reply (taken kept sent) = true
is_put_reply same = true
is_put_reply relisted = true
is_put_reply created = true
is_put_reply reply = false

abbrev pub is_put_side_reply : Reply → Bool
is_put_side_reply no_session = true
is_put_side_reply not_there = true
is_put_side_reply (differs said kept) = true
is_put_side_reply agreed = true
is_put_side_reply reply = false

abbrev pub is_put_doc_reply : Reply → Bool
is_put_doc_reply no_session = true
is_put_doc_reply noted = true
is_put_doc_reply reply = false

abbrev pub is_drop_reply : Reply → Bool
is_drop_reply dropped = true
is_drop_reply reply = false

abbrev pub is_open_reply : Reply → Bool
is_open_reply sessions_full = true
is_open_reply spent = true
is_open_reply (opened n) = true
is_open_reply reply = false

abbrev pub is_stage_reply : Reply → Bool
is_stage_reply no_draft = true
is_stage_reply no_session = true
is_stage_reply session_full = true
is_stage_reply (taken kept sent) = true
is_stage_reply same = true
is_stage_reply staged = true
is_stage_reply reply = false

abbrev pub is_commit_reply : Reply → Bool
is_commit_reply no_session = true
is_commit_reply (offends path kept sent) = true
is_commit_reply (missing_pom directory) = true
is_commit_reply (ended result) = true
is_commit_reply reply = false

abbrev pub is_abort_reply : Reply → Bool
is_abort_reply no_session = true
is_abort_reply (ended result) = true
is_abort_reply reply = false

abbrev pub is_unlist_reply : Reply → Bool
is_unlist_reply (unlisted n) = true
is_unlist_reply reply = false

abbrev pub is_collect_reply : Reply → Bool
is_collect_reply (collected expired blobs) = true
is_collect_reply reply = false

abbrev pub is_ask_reply : Reply → Bool
is_ask_reply (finds finding) = true
is_ask_reply reply = false

abbrev pub is_land_reply : Reply → Bool
is_land_reply no_draft = true
is_land_reply landed = true
is_land_reply reply = false

-- the replies that the state determines and that a command can get
abbrev pub can_get : Command → Reply → Bool
can_get (look repo path tried) reply = is_look_reply reply
can_get (done lease) reply = is_done_reply reply
can_get (may_put place path) reply = is_may_put_reply reply
can_get (put repo path n blob) reply = is_put_reply reply
can_get (put_side place path said) reply = is_put_side_reply reply
can_get (put_doc place path) reply = is_put_doc_reply reply
can_get (drop_draft n) reply = is_drop_reply reply
can_get (open_session repo) reply = is_open_reply reply
can_get (stage session path n blob) reply = is_stage_reply reply
can_get (commit session) reply = is_commit_reply reply
can_get (abort session) reply = is_abort_reply reply
can_get (unlist repo) reply = is_unlist_reply reply
can_get collect reply = is_collect_reply reply
can_get (ask question) reply = is_ask_reply reply
can_get (land plan outcome) reply = is_land_reply reply
