-- One turn of the machine: the reply to a command and what it does to the state.
use Rattle.std.specs.Prelude.{ℕ, ◌+◌, min, Bool, true, false, not, ◌==◌, ◌||◌, nat_le, if◌then◌else◌, List, [], ◌∷◌, ◌++◌, length, filter, find, take, count_by, Option, Some, None, Result, Ok, Err, bytes_eq}
use Rattle.std.specs.Option.{option_map, option_map_or}
use Rattle.std.specs.List.{list_any}
use Rattle.mvn_coords.specs.Kind.{kind}
use Rattle.mvn_coords.specs.declared.kind.Kind.{Kind}
use Rattle.mvn_coords.specs.declared.kind.Kind.TheVariants.{File, FileSide, Doc, DocSide}
use Rattle.mvn_coords.specs.declared.fault.PathFault.{PathFault}
use Rattle.mvn_coords.specs.Layout.{Directory, text_of}
use Rattle.mvn_digest.specs.Digests.{digests_of}
use Rattle.mvn_digest.specs.Sides.{side_of, side_text}
use Rattle.mvn_metadata.specs.Document.{Document, merge}
use Rattle.mvn_metadata.specs.Written as written
use Rattle.repo_model.specs.declared.session.SessionResult.{SessionResult}
use Rattle.repo_model.specs.declared.session.SessionResult.TheVariants.{Aborted, Done}
use Rattle.repo_model.specs.declared.step.Step.{Step}
use Rattle.repo_model.specs.declared.step.Step.TheVariants.{Serve, Missed, Blocked, Negative, Never, Fetch}
use Rattle.repo_model.specs.Data.{Blob, Row, Phase, listed, fading, repository, session, Hosted, Kept, Proxy, Staged, Session, is_same_print}
use Rattle.fetch_plan.specs.declared.Plan.{Plan}
use Rattle.fetch_plan.specs.declared.Outcome.TheVariants.{Got, Gone}
use Rattle.repo_model.specs.Fetched.{Landing, got_file, got_doc}
use Rattle.repo_model.specs.Proxies.{subject_of, kept_at, decided, settled_at}
use Rattle.repo_model.specs.Settings.{GroupRule, ProxyRule, Settings}
use Rattle.repo_model.specs.Paths.{takes}
use Rattle.repo_model.specs.Document.{document}
use Rattle.repo_model.specs.State.{State, Yard, Lease, hosted_of, proxy_of, row_at, rows_of, files_of, session_of, open_of, is_open, is_staged, is_among, number_end, most_sessions, most_staged}
use Rattle.repo_model.specs.Effect.{Effect, draws, drops, creates, stages, relists, forgets, lends, returns, opens, ends, caches, keeps_doc, adds_negative, clears_negative, with_effects}
use Rattle.repo_model.specs.Command.{Command, look, done, may_put, put, put_side, put_doc, drop_draft, open_session, stage, commit, abort, unlist, collect, ask, land, group_rule_of}
use Rattle.repo_model.specs.Reply.{Reply, file, text, doc, missed, given_back, kind_refused, draft, no_draft, taken, same, relisted, created, not_there, differs, agreed, noted, dropped, no_session, sessions_full, opened, session_full, staged, ended, unlisted, collected, finds, spent, offends, missing_pom, fetches, blocked, negative, never_asked, landed}
use Rattle.repo_model.specs.Asked.{finding_of}
use Rattle.repo_model.specs.Purge.{fade_all, due_rows, expire_all}
use Rattle.repo_model.specs.Deploy.{Offence, offence, without_pom, deliver_all, discard_all}

pub record Turn : Type 0 where
  pub reply : Reply
  pub effects : List Effect

abbrev pub says : Reply → Turn
says reply = record { reply = reply; effects = [] }

-- a number is drawn, unless the next one is 2 ^ 63
abbrev pub draws_or_spent : ℕ → Turn → Turn
draws_or_spent next turn = if next == number_end then says spent else turn

-- what a repository has at a path
pub data Seen : Type 0 where
  is_file : Blob → Seen
  is_text : List ℕ → Seen
  is_doc : List ℕ → Seen
  is_nothing : Seen
  -- a proxy, at a place of the group that is asked, is to fetch the file or document at a path
  is_to_fetch : (member : ℕ) (rule : ProxyRule) (path : List ℕ) (of_file : Bool) → Seen
  is_blocked : Seen
  is_negative : Seen
  is_never : Seen

abbrev pub or_nothing : {A : Type 0} → (A → Seen) → Option A → Seen
or_nothing f None = is_nothing
or_nothing f (Some x) = f x

abbrev pub document_text : Directory → List Row → Option (List ℕ)
document_text d rows = option_map written.text (document d rows)

-- what the rows have at a path of a kind
abbrev pub seen_at : List Row → List ℕ → Result Kind PathFault → Seen
seen_at rows path (Ok (File c)) = or_nothing (λ (row : Row). is_file row.blob) (row_at path rows)
seen_at rows path (Ok (FileSide c side)) = or_nothing (λ (row : Row). is_text (side_text side row.blob.print.digests)) (row_at (text_of c) rows)
seen_at rows path (Ok (Doc d)) = or_nothing is_doc (document_text d rows)
seen_at rows path (Ok (DocSide d side)) = or_nothing (λ bytes. is_text (side_text side (digests_of bytes))) (document_text d rows)
seen_at rows path (Err fault) = is_nothing

-- the longest file and the longest document of a remote; a fetch holds the whole of it
abbrev pub longest_fetched : ℕ
longest_fetched = 16_777_216

abbrev pub longest_document : ℕ
longest_document = 1_048_576

-- a file is fetched up to that length, and never beyond what a file may have
abbrev pub file_limit : Settings → ℕ
file_limit settings = min settings.max_file longest_fetched

abbrev pub plan_of : ℕ → ProxyRule → List ℕ → Option ℕ → ℕ → Plan
plan_of member rule path under limit = record {
  proxy = rule.id;
  member = member;
  host = rule.host;
  port = rule.port;
  prefix = rule.prefix;
  path = path;
  draft = under;
  limit = limit;
}

-- a file is fetched under a draft, and a document under none
abbrev pub plans : Settings → ℕ → ℕ → ProxyRule → List ℕ → Bool → Turn
plans settings next member rule path true =
    draws_or_spent next (record { reply = fetches (plan_of member rule path (Some next) (file_limit settings)); effects = draws ∷ [] })
plans settings next member rule path false = says (fetches (plan_of member rule path None longest_document))

abbrev pub shows : Settings → Yard → Seen → Turn
shows settings y (is_file blob) = draws_or_spent y.next_lease (record { reply = file y.next_lease blob; effects = lends blob.number ∷ [] })
shows settings y (is_text bytes) = says (text bytes)
shows settings y (is_doc bytes) = says (doc bytes (digests_of bytes))
shows settings y is_nothing = says missed
shows settings y (is_to_fetch member rule path of_file) = plans settings y.next_draft member rule path of_file
shows settings y is_blocked = says blocked
shows settings y is_negative = says negative
shows settings y is_never = says never_asked

-- a document as it is asked for: itself, or its side file
abbrev pub document_shown : Result Kind PathFault → Document → Seen
document_shown (Ok (DocSide d side)) document = is_text (side_text side (digests_of (written.text document)))
document_shown k document = is_doc (written.text document)

-- a file as it is asked for
abbrev pub file_shown : Result Kind PathFault → Row → Seen
file_shown (Ok (FileSide c side)) row = is_text (side_text side row.blob.print.digests)
file_shown k row = is_file row.blob

abbrev pub is_of_file : Result Kind PathFault → Bool
is_of_file (Ok (File c)) = true
is_of_file (Ok (FileSide c side)) = true
is_of_file k = false

-- what a member has of a directory, or of a file
abbrev pub served_by : Proxy → List ℕ → Result Kind PathFault → Seen
served_by p at k =
    if is_of_file k then or_nothing (file_shown k) (row_at at p.files)
    else or_nothing (λ (kept : Kept). document_shown k kept.document) (kept_at at p.documents)

abbrev pub stepped : ℕ → Proxy → List ℕ → Result Kind PathFault → Step → Seen
stepped member p at k Serve = served_by p at k
stepped member p at k Fetch = is_to_fetch member p.rule at (is_of_file k)
stepped member p at k Missed = is_nothing
stepped member p at k Blocked = is_blocked
stepped member p at k Negative = is_negative
stepped member p at k Never = is_never

-- what a proxy, at a place of a group or alone, has at a path of a kind
abbrev pub proxy_seen : ℕ → Proxy → ℕ → List ℕ → List ℕ → Result Kind PathFault → Seen
proxy_seen member p now tried path k =
    stepped member p (subject_of path k) k (decided p now (is_among member tried) (subject_of path k))

-- what a repository of an id has there: a hosted one, or a proxy
abbrev pub member_seen : State → ℕ → List ℕ → List ℕ → Result Kind PathFault → ℕ → List ℕ → Seen
member_seen s now tried path k member id =
    option_map_or (λ (h : Hosted). seen_at h.rows path k) (hosted_of id s)
    (option_map_or (λ (p : Proxy). proxy_seen member p now tried path k) (proxy_of id s) is_nothing)

abbrev pub serves_or_fetches : Seen → Bool
serves_or_fetches is_nothing = false
serves_or_fetches is_blocked = false
serves_or_fetches is_negative = false
serves_or_fetches is_never = false
serves_or_fetches seen = true

abbrev pub fetches_one : Seen → Bool
fetches_one (is_to_fetch member rule path of_file) = true
fetches_one seen = false

-- what the members have, in their order, from a place on
abbrev pub each_seen : State → ℕ → List ℕ → List ℕ → Result Kind PathFault → ℕ → List (List ℕ) → List Seen
each_seen s now tried path k member [] = []
each_seen s now tried path k member (id ∷ ids) = member_seen s now tried path k member id ∷ each_seen s now tried path k (member + 1) ids

abbrev pub directory_of : Result Kind PathFault → Option Directory
directory_of (Ok (Doc d)) = Some d
directory_of (Ok (DocSide d side)) = Some d
directory_of k = None

-- the document that a proxy serves, where it fetches none
abbrev pub kept_served : Step → Option Kept → Option Document
kept_served Serve kept = option_map (λ (k : Kept). k.document) kept
kept_served step kept = None

abbrev pub proxy_document : Proxy → ℕ → Bool → List ℕ → Option Document
proxy_document p now tried at = kept_served (decided p now tried at) (kept_at at p.documents)

-- the document that a member serves
abbrev pub member_document : State → ℕ → List ℕ → List ℕ → Directory → ℕ → List ℕ → Option Document
member_document s now tried at d member id =
    option_map_or (λ (h : Hosted). document d h.rows) (hosted_of id s)
    (option_map_or (λ (p : Proxy). proxy_document p now (is_among member tried) at) (proxy_of id s) None)

abbrev pub with_some : {A : Type 0} → Option A → List A → List A
with_some None xs = xs
with_some (Some x) xs = x ∷ xs

abbrev pub each_document : State → ℕ → List ℕ → List ℕ → Directory → ℕ → List (List ℕ) → List Document
each_document s now tried at d member [] = []
each_document s now tried at d member (id ∷ ids) =
    with_some (member_document s now tried at d member id) (each_document s now tried at d (member + 1) ids)

-- the document of a group: that of all members that serve one
abbrev pub merged_of : State → ℕ → List ℕ → List ℕ → Directory → List (List ℕ) → Option Document
merged_of s now tried at d ids = merge (each_document s now tried at d 0 ids)

-- what a group has: of a file what the first member has that serves or fetches it; a document of the first member that fetches
-- one, and else that of all
abbrev pub first_or : Option Seen → Seen → Seen
first_or None seen = seen
first_or (Some found) seen = found

abbrev pub group_seen : State → ℕ → List ℕ → List ℕ → Result Kind PathFault → List (List ℕ) → Option Directory → Seen
group_seen s now tried path k ids None = first_or (find serves_or_fetches (each_seen s now tried path k 0 ids)) is_nothing
group_seen s now tried path k ids (Some d) =
    first_or (find fetches_one (each_seen s now tried path k 0 ids))
    (or_nothing (document_shown k) (merged_of s now tried (subject_of path k) d ids))

-- what a repository of any kind has at a path
abbrev pub look_at : Settings → State → ℕ → List ℕ → List ℕ → List ℕ → Seen
look_at settings s now id tried path =
    option_map_or (λ (h : Hosted). seen_at h.rows path (kind path)) (hosted_of id s)
    (option_map_or (λ (g : GroupRule). group_seen s now tried path (kind path) g.members (directory_of (kind path))) (group_rule_of id settings)
    (member_seen s now tried path (kind path) 0 id))

-- the document that a repository of any kind serves of a directory
abbrev pub document_at : Settings → State → ℕ → List ℕ → List ℕ → List ℕ → Directory → Option Document
document_at settings s now id tried at d =
    option_map_or (λ (h : Hosted). document d h.rows) (hosted_of id s)
    (option_map_or (λ (g : GroupRule). merged_of s now tried at d g.members) (group_rule_of id settings)
    (member_document s now tried at d 0 id))

-- a draft that was drawn for what lands is one still
abbrev pub is_drawn : Option ℕ → List ℕ → Bool
is_drawn None drafts = true
is_drawn (Some n) drafts = is_among n drafts

abbrev pub gives_draft_up : Option ℕ → List Effect
gives_draft_up None = []
gives_draft_up (Some n) = drops n ∷ []

-- a file is kept unless one is there; what the remote has is no longer missing
abbrev pub lands_file : Plan → Blob → ℕ → Option Row → List Effect
lands_file plan blob now None = caches plan.proxy plan.path blob now ∷ clears_negative plan.proxy plan.path ∷ []
lands_file plan blob now (Some row) = clears_negative plan.proxy plan.path ∷ gives_draft_up plan.draft

-- what lands at a proxy that keeps these files
abbrev pub lands_by : List Row → ℕ → Plan → Landing → List Effect
lands_by files now plan (Got (got_file blob)) = lands_file plan blob now (row_at plan.path files)
lands_by files now plan (Got (got_doc document)) =
    keeps_doc plan.proxy plan.path (settled_at document (kind plan.path)) now ∷ clears_negative plan.proxy plan.path ∷ []
lands_by files now plan Gone = adds_negative plan.proxy plan.path now ∷ gives_draft_up plan.draft
lands_by files now plan outcome = gives_draft_up plan.draft

abbrev pub lands : State → ℕ → Plan → Landing → List Effect
lands s now plan outcome = lands_by (files_of plan.proxy s) now plan outcome

-- where a file may be put at a place: its repository, and the session
abbrev pub in_repository : List ℕ → Option Hosted → Turn → Turn
in_repository path None turn = says kind_refused
in_repository path (Some h) turn = if takes h.rule path then turn else says kind_refused

abbrev pub has_room : List ℕ → List Staged → Bool
has_room path files = list_any (is_staged path) files || not (nat_le most_staged (length files))

abbrev pub draws_draft : ℕ → Turn
draws_draft next = draws_or_spent next (record { reply = draft next; effects = draws ∷ [] })

abbrev pub may_put_in : State → List ℕ → Option Session → Turn
may_put_in s path None = says no_session
may_put_in s path (Some found) =
    in_repository path (hosted_of found.repo s)
    (if has_room path found.staged then draws_draft s.yard.next_draft else says session_full)

abbrev pub put_again : List ℕ → List ℕ → ℕ → ℕ → Phase → Turn
put_again repo path n now listed = record { reply = same; effects = drops n ∷ [] }
put_again repo path n now (fading since) = record { reply = relisted; effects = relists repo path now ∷ drops n ∷ [] }

abbrev pub put_at : List ℕ → List ℕ → ℕ → Blob → ℕ → Option Row → Turn
put_at repo path n blob now None = record { reply = created; effects = creates repo path blob now ∷ [] }
put_at repo path n blob now (Some row) =
    if is_same_print row.blob.print blob.print then put_again repo path n now row.phase
    else record { reply = taken row.blob.print blob.print; effects = drops n ∷ [] }

-- a digest that was said, beside the one that is kept
abbrev pub compared : List ℕ → Option (List ℕ) → Turn
compared said None = says not_there
compared said (Some kept) = if bytes_eq said kept then says agreed else says (differs said kept)

abbrev pub judged : Result Kind PathFault → List ℕ → (List ℕ → Option Blob) → Turn
judged (Ok (FileSide c side)) said blob_at = compared said (option_map (λ (blob : Blob). side_of blob.print.digests side) (blob_at (text_of c)))
judged _ said blob_at = says agreed

abbrev pub with_open : Option Session → (Session → Turn) → Turn
with_open None f = says no_session
with_open (Some found) f = f found

abbrev pub staged_at : List ℕ → List Staged → Option Blob
staged_at path files = option_map (λ (f : Staged). f.blob) (find (is_staged path) files)

abbrev pub stage_at : Session → List ℕ → ℕ → Blob → Option Blob → Turn
stage_at found path n blob None =
    if has_room path found.staged then record { reply = staged; effects = stages found.number path blob ∷ [] }
    else record { reply = session_full; effects = drops n ∷ [] }
stage_at found path n blob (Some kept) =
    record { reply = if is_same_print kept.print blob.print then same else taken kept.print blob.print; effects = drops n ∷ [] }

abbrev pub stage_in : List ℕ → ℕ → Blob → Option Session → Turn
stage_in path n blob None = record { reply = no_session; effects = drops n ∷ [] }
stage_in path n blob (Some found) = stage_at found path n blob (staged_at path found.staged)

abbrev pub commit_by : Session → ℕ → List Row → Option Offence → Option (List ℕ) → Turn
commit_by found now rows (Some other) pom = says (offends other.path other.kept other.sent)
commit_by found now rows None (Some directory) = says (missing_pom directory)
commit_by found now rows None None = record {
  reply = ended (Done (length found.staged));
  effects = deliver_all found now rows ++ ends found.number (Done (length found.staged)) ∷ [];
}

abbrev pub commit_of : Session → ℕ → List Row → Option SessionResult → Turn
commit_of s now rows (Some result) = says (ended result)
commit_of s now rows None = commit_by s now rows (offence rows s.staged) (without_pom rows s.staged)

abbrev pub abort_of : Session → Option SessionResult → Turn
abort_of s (Some result) = says (ended result)
abort_of s None = record { reply = ended Aborted; effects = discard_all s ++ ends s.number Aborted ∷ [] }

abbrev pub unlist_of : ℕ → Option Hosted → Turn
unlist_of now None = says (unlisted 0)
unlist_of now (Some h) = record { reply = unlisted (length (due_rows h.rule now h.rows)); effects = fade_all h now }

-- the most blobs that one Collect gives out to be removed
abbrev pub most_collected : ℕ
most_collected = 100

-- the first garbage that nobody has borrowed
abbrev pub unlent : Yard → List ℕ
unlent yard = take most_collected (filter (λ n. not (list_any (λ (l : Lease). l.blob == n) yard.leases)) yard.condemned)

abbrev pub collect_of : List Effect → Yard → Turn
collect_of expiring yard = record {
  reply = collected (length expiring) (unlent yard);
  effects = expiring ++ forgets (unlent yard) ∷ [];
}

-- the reply to a command at a moment, and what it does
abbrev pub turn : Settings → State → ℕ → Command → Turn
turn settings s now (look repo path tried) = shows settings s.yard (look_at settings s now repo tried path)
turn settings s now (done lease) = record { reply = given_back; effects = returns lease ∷ [] }
turn settings s now (may_put (repository repo) path) = in_repository path (hosted_of repo s) (draws_draft s.yard.next_draft)
turn settings s now (may_put (session n) path) = may_put_in s path (open_of n s)
turn settings s now (put repo path n blob) =
    if is_among n s.yard.drafts then put_at repo path n blob now (row_at path (rows_of repo s)) else says no_draft
turn settings s now (put_side (repository repo) path said) =
    judged (kind path) said (λ at. option_map (λ (row : Row). row.blob) (row_at at (rows_of repo s)))
turn settings s now (put_side (session n) path said) =
    with_open (open_of n s) (λ found. judged (kind path) said (λ at. staged_at at found.staged))
turn settings s now (put_doc (repository repo) path) = says noted
turn settings s now (put_doc (session n) path) = with_open (open_of n s) (λ found. says noted)
turn settings s now (drop_draft n) = record { reply = dropped; effects = if is_among n s.yard.drafts then drops n ∷ [] else [] }
turn settings s now (open_session repo) =
    if nat_le most_sessions (count_by is_open s.sessions) then says sessions_full
    else draws_or_spent s.yard.next_session (record { reply = opened s.yard.next_session; effects = opens s.yard.next_session repo ∷ [] })
turn settings s now (stage at path n blob) =
    if is_among n s.yard.drafts then stage_in path n blob (open_of at s) else says no_draft
turn settings s now (commit n) = with_open (session_of n s) (λ known. commit_of known now (rows_of known.repo s) known.ended)
turn settings s now (abort n) = with_open (session_of n s) (λ known. abort_of known known.ended)
turn settings s now (unlist repo) = unlist_of now (hosted_of repo s)
turn settings s now collect =
    let expiring = expire_all settings.grace now s.hosted in collect_of expiring (with_effects s expiring).yard
turn settings s now (ask question) = says (finds (finding_of s question))
turn settings s now (land plan outcome) =
    if is_drawn plan.draft s.yard.drafts then record { reply = landed; effects = lands s now plan outcome } else says no_draft
