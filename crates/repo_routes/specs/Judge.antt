-- How a request head is judged: what it asks for, or its first refusal, and whether the connection ends then (RFC 9110, section 15.5; RFC 9112, section 9.6).
use Rattle.std.specs.Prelude.{◌≡◌, ℕ, ◌≤◌, Bool, true, false, ◌||◌, not, IsTrue, nat_lt, if◌then◌else◌, List, map, Some, Result, Ok, Err}
use Rattle.mvn_coords.specs.Kind.{kind}
use Rattle.http_wire.specs.Head.{Head}
use Rattle.repo_model.specs.Command.{is_file_path, is_known, is_place, is_there, names_document, names_something}
use Rattle.repo_model.specs.Data.{repository, session}
use Rattle.repo_model.specs.Settings.{Rule, Settings}
use Rattle.repo_routes.specs.declared.refusal.Refusal.{Refusal}
use Rattle.repo_routes.specs.declared.refusal.Refusal.TheVariants as refusal
use Rattle.repo_routes.specs.declared.judging.Refused.{Refused}
use Rattle.repo_routes.specs.Framing.{check_host, ends_connection, expects_continue, has_body, is_head, is_put, length_of}
use Rattle.repo_routes.specs.Intent.{Intent, Judged, reads, puts_file, puts_side, puts_document, asks, cleans, opens, commits, aborts}
use Rattle.repo_routes.specs.Numbers.{session_of}
use Rattle.repo_routes.specs.Paths.{longest_document, longest_side, put_to, read_from, side_of}
use Rattle.repo_routes.specs.Routes.{Route, in_repository, sessions, in_session, commit, abort, question, clean, check_method, check_repository, route_of, sort_of}
use Rattle.repo_routes.specs.Steps.{◌>>=◌, ◌>>◌, need}
use Rattle.repo_routes.specs.Target.{target_path}

-- a body comes with a PUT alone
unfoldable pub check_body : Head → ℕ → Result (Unit {0}) Refusal
check_body head length = need (is_put head || not (nat_lt 0 length)) refusal.UnexpectedBody

-- the ids of the hosted repositories, as written
abbrev pub hosted_ids : Settings → List (List ℕ)
hosted_ids settings = map (λ (rule : Rule). rule.id) settings.hosted

-- what is asked for at a path of a repository
unfoldable pub in_repo : Settings → Head → ℕ → List ℕ → List ℕ → Result Intent Refusal
in_repo settings head length repo written =
    if is_put head then put_to settings head length (repository repo) written else read_from settings head repo written

-- what is put into a session; nothing is read there
unfoldable pub into_session : Settings → Head → ℕ → List ℕ → List ℕ → Result Intent Refusal
into_session settings head length number written = do
  n ← session_of number
  need (is_put head) refusal.Unread
  put_to settings head length (session n) written

-- what is asked of the session that a number names
unfoldable pub of_session : (ℕ → Intent) → List ℕ → Result Intent Refusal
of_session intent number = do
  n ← session_of number
  Ok (intent n)

-- what is asked of a route
abbrev pub intent_on : Settings → Head → ℕ → Route → Result Intent Refusal
intent_on settings head length (in_repository repo written) = in_repo settings head length repo written
intent_on settings head length (sessions repo) = Ok (opens repo)
intent_on settings head length (in_session number written) = into_session settings head length number written
intent_on settings head length (commit number) = of_session commits number
intent_on settings head length (abort number) = of_session aborts number
intent_on settings head length (question what) = Ok (asks what)
intent_on settings head length clean = Ok (cleans (hosted_ids settings))

-- what a head asks for, or the refusal of the first step that refuses: target, host, length, route, repository, method, body, session, path, limit
unfoldable pub intent_of : Settings → Head → Result Intent Refusal
intent_of settings head = do
  path ← target_path head.target
  check_host head
  length ← length_of head
  route ← route_of path
  check_repository settings route
  check_method settings route head
  check_body head length
  intent_on settings head length route

-- after such a refusal it is not known where the next request begins
abbrev pub loses_place : Refusal → Bool
loses_place refusal.BadTarget = true
loses_place refusal.BadHost = true
loses_place refusal.NoLength = true
loses_place refusal.BadLength = true
loses_place _ = false

abbrev pub request_of : Head → Intent → Judged
request_of head intent = record {
  intent = intent;
  head_only = is_head head;
  close = ends_connection head;
  expects = expects_continue head;
}

-- the body of a request that is refused stays unread
abbrev pub refusal_of : Head → Refusal → Refused
refusal_of head cause = record {
  refusal = cause;
  head_only = is_head head;
  close = loses_place cause || (ends_connection head || has_body head);
}

abbrev pub outcome_of : Head → Result Intent Refusal → Result Judged Refused
outcome_of head (Ok intent) = Ok (request_of head intent)
outcome_of head (Err cause) = Err (refusal_of head cause)

-- the request that a head makes, or its refusal
unfoldable pub judge : Settings → Head → Result Judged Refused
judge settings head = outcome_of head (intent_of settings head)

-- what every intent keeps: the repository is there, the path names what the intent says, and the body is not too long
abbrev pub IsIntent : Settings → Intent → Type 0
IsIntent settings (reads repo path sort) =
    IsTrue (is_known repo settings) × IsTrue (names_something (kind path)) × (sort ≡ sort_of repo settings)
IsIntent settings (puts_file place path length) =
    IsTrue (is_place place settings) × IsTrue (is_file_path path) × (length ≤ settings.max_file)
IsIntent settings (puts_side place path side length) =
    IsTrue (is_place place settings) × (side_of (kind path) ≡ Some side) × (length ≤ longest_side)
IsIntent settings (puts_document place path length) =
    IsTrue (is_place place settings) × IsTrue (names_document (kind path)) × (length ≤ longest_document)
IsIntent settings (asks what) = Unit {0}
IsIntent settings (cleans repos) = repos ≡ hosted_ids settings
IsIntent settings (opens repo) = IsTrue (is_there repo settings)
IsIntent settings (commits n) = Unit {0}
IsIntent settings (aborts n) = Unit {0}

abbrev pub IsJudged : Settings → Judged → Type 0
IsJudged settings judged = IsIntent settings judged.intent
