-- The routes of the server: which paths it has, and which methods each of them (RFC 9110, section 10.2.1).
use Rattle.std.specs.Prelude.{ℕ, Bool, true, ◌||◌, ◌&&◌, ◌==◌, nat_lt, if◌then◌else◌, List, length, Option, Some, None, Result, option_and_then, codes, bytes_eq}
use Rattle.std.specs.Option.{ok_or, option_map_or}
use Rattle.std.specs.List.{after_first, before_first}
use Rattle.byte_cuts.specs.Cuts.{behind}
use Rattle.http_wire.specs.Head.{Head}
use Rattle.repo_model.specs.Asked.{question_named}
use Rattle.repo_model.specs.Command.{group_rule_of, is_known, is_there}
use Rattle.repo_model.specs.Settings.{GroupRule, Settings}
use Rattle.repo_model.specs.declared.question.Question.{Question}
use Rattle.repo_routes.specs.declared.intent.Sort.{Sort}
use Rattle.repo_routes.specs.declared.intent.Sort.TheVariants as sort
use Rattle.repo_routes.specs.declared.refusal.Allow.{Allow}
use Rattle.repo_routes.specs.declared.refusal.Allow.TheVariants.{Post, Read, ReadAndPut}
use Rattle.repo_routes.specs.declared.refusal.Refusal.{Refusal}
use Rattle.repo_routes.specs.declared.refusal.Refusal.TheVariants as refusal
use Rattle.repo_routes.specs.declared.routes.Pattern.{Pattern}
use Rattle.repo_routes.specs.declared.routes.Pattern.TheVariants as pattern
use Rattle.repo_routes.specs.declared.routes.Route as code
use Rattle.repo_routes.specs.declared.routes.Route.TheVariants as way
use Rattle.repo_routes.specs.Framing.{is_post, is_put, is_read}
use Rattle.repo_routes.specs.Steps.{need}

pub data Route : Type 0 where
  -- /repository/{id}/{*path}: the repository's id, and the path in it as written
  in_repository : (repo written : List ℕ) → Route
  -- /api/repositories/{id}/sessions: the repository's id
  sessions : (repo : List ℕ) → Route
  -- /api/sessions/{n}/files/{*path}: the session's number, and the path in it, as written
  in_session : (number written : List ℕ) → Route
  -- /api/sessions/{n}/commit and /api/sessions/{n}/abort
  commit : (number : List ℕ) → Route
  abort : (number : List ℕ) → Route
  -- /api/clean
  clean : Route
  -- /api/{name}, the name being that of a question
  question : Question → Route

-- a path's part up to its first slash, and what is after that
abbrev pub part_of : List ℕ → List ℕ
part_of text = before_first (λ b. b == 47) text

abbrev pub rest_of : List ℕ → List ℕ
rest_of text = after_first (λ b. b == 47) text

abbrev pub is_filled : List ℕ → Bool
is_filled text = nat_lt 0 (length text)

-- the id and the path after it; neither is empty
unfoldable pub repository_route : List ℕ → Option Route
repository_route text =
    if is_filled (part_of text) && is_filled (rest_of text) then Some (in_repository (part_of text) (rest_of text)) else None

-- the id, and after it this word alone
unfoldable pub sessions_route : List ℕ → Option Route
sessions_route text =
    if is_filled (part_of text) && bytes_eq (rest_of text) (codes "sessions") then Some (sessions (part_of text)) else None

abbrev pub files_route : List ℕ → List ℕ → Option Route
files_route number written = if is_filled written then Some (in_session number written) else None

-- what is asked of the session of a number
unfoldable pub number_route : List ℕ → List ℕ → Option Route
number_route number text =
    if bytes_eq text (codes "abort") then Some (abort number)
    else if bytes_eq text (codes "commit") then Some (commit number)
    else option_and_then (files_route number) (behind (codes "files/") text)

unfoldable pub session_route : List ℕ → Option Route
session_route text = if is_filled (part_of text) then number_route (part_of text) (rest_of text) else None

-- the route of a path that names no question
unfoldable pub named_route : List ℕ → Option Route
named_route path =
    if bytes_eq path (codes "/api/clean") then Some clean
    else option_map_or sessions_route (behind (codes "/api/repositories/") path)
    (option_map_or session_route (behind (codes "/api/sessions/") path)
    (option_and_then repository_route (behind (codes "/repository/") path)))

-- the question that a path names
abbrev pub question_at : List ℕ → Option Question
question_at path = option_and_then question_named (behind (codes "/api/") path)

-- the route of a path as written: no escape is read in it
unfoldable pub route_at : List ℕ → Option Route
route_at path = option_map_or (λ what. Some (question what)) (question_at path) (named_route path)

unfoldable pub route_of : List ℕ → Result Route Refusal
route_of path = ok_or (route_at path) refusal.NoRoute

-- which pattern the route is of
abbrev pub pattern_of : Route → Pattern
pattern_of (in_repository repo written) = pattern.Repository
pattern_of (sessions repo) = pattern.Sessions
pattern_of (in_session number written) = pattern.SessionFile
pattern_of (commit number) = pattern.Commit
pattern_of (abort number) = pattern.Abort
pattern_of clean = pattern.Clean
pattern_of (question what) = pattern.Question what

-- the route of a path that is of a pattern
abbrev pub route_by : Pattern → List ℕ → Option Route
route_by pattern.Repository path = option_and_then repository_route (behind (codes "/repository/") path)
route_by pattern.Sessions path = option_and_then sessions_route (behind (codes "/api/repositories/") path)
route_by pattern.SessionFile path = option_and_then session_route (behind (codes "/api/sessions/") path)
route_by pattern.Commit path = option_and_then session_route (behind (codes "/api/sessions/") path)
route_by pattern.Abort path = option_and_then session_route (behind (codes "/api/sessions/") path)
route_by pattern.Clean path = Some clean
route_by (pattern.Question what) path = Some (question what)

-- of which sort the repository of an id is: hosted, or a group of so many members, and else a proxy
unfoldable pub sort_of : List ℕ → Settings → Sort
sort_of id settings =
    if is_there id settings then sort.Hosted
    else option_map_or (λ (g : GroupRule). sort.Group (length g.members)) (group_rule_of id settings) sort.Proxy

-- A route names no repository, or one that is there, which has to be hosted where a session is opened for it; the id is taken as
-- written.
abbrev pub has_repository : Settings → Route → Bool
has_repository settings (in_repository repo written) = is_known repo settings
has_repository settings (sessions repo) = is_there repo settings
has_repository settings (in_session number written) = true
has_repository settings (commit number) = true
has_repository settings (abort number) = true
has_repository settings clean = true
has_repository settings (question what) = true

unfoldable pub check_repository : Settings → Route → Result (Unit {0}) Refusal
check_repository settings route = need (has_repository settings route) refusal.NoRepository

-- the methods of a route; nothing is put to a proxy or a group
abbrev pub allowed : Settings → Route → Allow
allowed settings (in_repository repo written) = if is_there repo settings then ReadAndPut else Read
allowed settings (sessions repo) = Post
allowed settings (in_session number written) = ReadAndPut
allowed settings (commit number) = Post
allowed settings (abort number) = Post
allowed settings clean = Post
allowed settings (question what) = Read

abbrev pub allows : Allow → Head → Bool
allows Read head = is_read head
allows ReadAndPut head = is_read head || is_put head
allows Post head = is_post head

unfoldable pub check_method : Settings → Route → Head → Result (Unit {0}) Refusal
check_method settings route head = need (allows (allowed settings route) head) (refusal.Method (allowed settings route))

-- the route as the program has it
abbrev pub shown_route : code.Route → Route
shown_route (way.InRepository repo written) = in_repository repo.now written.now
shown_route (way.Sessions repo) = sessions repo.now
shown_route (way.InSession number written) = in_session number.now written.now
shown_route (way.Commit number) = commit number.now
shown_route (way.Abort number) = abort number.now
shown_route way.Clean = clean
shown_route (way.Question what) = question what
