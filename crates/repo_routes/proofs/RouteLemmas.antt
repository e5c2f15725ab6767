-- Which route a path has, by the pattern that it is of.
use Rattle.std.proofs.Common.{◌≡◌, ℕ, Bool, true, false, cond, ◌&&◌, nat_lt, List, length, Option, Some, None, refl, sym, subst, bytes_eq, codes}
use Rattle.std.specs.Prelude.{option_and_then}
use Rattle.std.specs.Option.{option_map, option_map_or}
use Rattle.byte_cuts.specs.Cuts.{behind}
use Rattle.repo_model.specs.declared.question.Question.{Question}
use Rattle.repo_routes.specs.declared.routes.Pattern.{Pattern}
use Rattle.repo_routes.specs.declared.routes.Pattern.TheVariants as pattern
use Rattle.repo_routes.specs.Routes.{Route, in_repository, sessions, in_session, commit, abort, clean, question, files_route, named_route, number_route, part_of, pattern_of, repository_route, question_at, rest_of, route_at, route_by, session_route, sessions_route}

abbrev of_pattern : Option Route → Option Pattern
of_pattern route = option_map pattern_of route

repository-pattern : (text : List ℕ) (p : Pattern) → of_pattern (repository_route text) ≡ Some p → pattern.Repository ≡ p
unfolding repository_route
repository-pattern text p e = by-test (nat_lt 0 (length (part_of text)) && nat_lt 0 (length (rest_of text))) e
  where
    by-test : (test : Bool) → of_pattern (cond test (Some (in_repository (part_of text) (rest_of text))) None) ≡ Some p → pattern.Repository ≡ p
    by-test true is = cc
    by-test false is = cc

sessions-pattern : (text : List ℕ) (p : Pattern) → of_pattern (sessions_route text) ≡ Some p → pattern.Sessions ≡ p
unfolding sessions_route
sessions-pattern text p e = by-test (nat_lt 0 (length (part_of text)) && bytes_eq (rest_of text) (codes "sessions")) e
  where
    by-test : (test : Bool) → of_pattern (cond test (Some (sessions (part_of text))) None) ≡ Some p → pattern.Sessions ≡ p
    by-test true is = cc
    by-test false is = cc

-- the patterns of what is asked of a session lead to one cut of the path
abbrev is_of_session : Pattern → Bool
is_of_session pattern.SessionFile = true
is_of_session pattern.Commit = true
is_of_session pattern.Abort = true
is_of_session _ = false

files-pattern : (number : List ℕ) (written : Option (List ℕ)) (p : Pattern) → of_pattern (option_and_then (files_route number) written) ≡ Some p → is_of_session p ≡ true
files-pattern number None p e = cc
files-pattern number (Some written) p e = by-test (nat_lt 0 (length written)) e
  where
    by-test : (test : Bool) → of_pattern (cond test (Some (in_session number written)) None) ≡ Some p → is_of_session p ≡ true
    by-test true is = let it : pattern.SessionFile ≡ p = cc in subst (λ (q : Pattern). is_of_session q ≡ true) it refl
    by-test false is = cc

number-pattern : (number text : List ℕ) (p : Pattern) → of_pattern (number_route number text) ≡ Some p → is_of_session p ≡ true
unfolding number_route
number-pattern number text p e = by-tests (bytes_eq text (codes "abort")) (bytes_eq text (codes "commit")) e
  where
    by-tests : (a b : Bool) → of_pattern (cond a (Some (abort number)) (cond b (Some (commit number)) (option_and_then (files_route number) (behind (codes "files/") text)))) ≡ Some p
        → is_of_session p ≡ true
    by-tests true b is = let it : pattern.Abort ≡ p = cc in subst (λ (q : Pattern). is_of_session q ≡ true) it refl
    by-tests false true is = let it : pattern.Commit ≡ p = cc in subst (λ (q : Pattern). is_of_session q ≡ true) it refl
    by-tests false false is = files-pattern number (behind (codes "files/") text) p is

session-pattern : (text : List ℕ) (p : Pattern) → of_pattern (session_route text) ≡ Some p → is_of_session p ≡ true
unfolding session_route
session-pattern text p e = by-test (nat_lt 0 (length (part_of text))) e
  where
    by-test : (test : Bool) → of_pattern (cond test (number_route (part_of text) (rest_of text)) None) ≡ Some p → is_of_session p ≡ true
    by-test true is = number-pattern (part_of text) (rest_of text) p is
    by-test false is = cc

session-by : (p : Pattern) (path text : List ℕ) → behind (codes "/api/sessions/") path ≡ Some text → is_of_session p ≡ true → session_route text ≡ route_by p path
session-by pattern.Repository path text cut is = cc
session-by pattern.Sessions path text cut is = cc
session-by pattern.SessionFile path text cut is = sym (rw cut refl)
session-by pattern.Commit path text cut is = sym (rw cut refl)
session-by pattern.Abort path text cut is = sym (rw cut refl)
session-by pattern.Clean path text cut is = cc
session-by (pattern.Question what) path text cut is = cc

last-by : (path : List ℕ) (found : Option (List ℕ)) (p : Pattern) → behind (codes "/repository/") path ≡ found
    → of_pattern (option_and_then repository_route found) ≡ Some p → option_and_then repository_route found ≡ route_by p path
last-by path None p cut e = cc
last-by path (Some text) p cut e =
    subst (λ (q : Pattern). repository_route text ≡ route_by q path) (repository-pattern text p e) (sym (rw cut refl))

-- a path by whether it is that of a cleaning, and what is after the words
abbrev by_parts : Bool → Option (List ℕ) → Option (List ℕ) → Option (List ℕ) → Option Route
by_parts is_clean opening session repository =
    cond is_clean (Some clean) (option_map_or sessions_route opening (option_map_or session_route session (option_and_then repository_route repository)))

by-parts : (is_clean : Bool) (opening session : Option (List ℕ)) (path : List ℕ) (p : Pattern)
    → behind (codes "/api/repositories/") path ≡ opening → behind (codes "/api/sessions/") path ≡ session
    → of_pattern (by_parts is_clean opening session (behind (codes "/repository/") path)) ≡ Some p
    → by_parts is_clean opening session (behind (codes "/repository/") path) ≡ route_by p path
by-parts true opening session path p a b e =
    let it : pattern.Clean ≡ p = cc in subst (λ (q : Pattern). Some clean ≡ route_by q path) it refl
by-parts false (Some text) session path p a b e =
    subst (λ (q : Pattern). sessions_route text ≡ route_by q path) (sessions-pattern text p e) (sym (rw a refl))
by-parts false None (Some text) path p a b e = session-by p path text b (session-pattern text p e)
by-parts false None None path p a b e = last-by path (behind (codes "/repository/") path) p refl e

named-by : (path : List ℕ) (p : Pattern) → option_map pattern_of (named_route path) ≡ Some p → named_route path ≡ route_by p path
unfolding named_route
named-by path p e =
    by-parts (bytes_eq path (codes "/api/clean")) (behind (codes "/api/repositories/") path) (behind (codes "/api/sessions/") path) path p refl refl e

abbrev by_question : Option Question → Option Route → Option Route
by_question asked named = option_map_or (λ what. Some (question what)) asked named

question-by : (asked : Option Question) (path : List ℕ) (p : Pattern) → of_pattern (by_question asked (named_route path)) ≡ Some p
    → by_question asked (named_route path) ≡ route_by p path
question-by None path p e = named-by path p e
question-by (Some what) path p e =
    let it : pattern.Question what ≡ p = cc in subst (λ (q : Pattern). Some (question what) ≡ route_by q path) it refl

-- the pattern says where the path is to be cut
pub route-by : (path : List ℕ) (p : Pattern) → option_map pattern_of (route_at path) ≡ Some p → route_at path ≡ route_by p path
unfolding route_at
route-by path p e = question-by (question_at path) path p e

no-pattern : (route : Option Route) → option_map pattern_of route ≡ None → route ≡ None
no-pattern None e = refl
no-pattern (Some route) e = cc

pub route-none : (path : List ℕ) → option_map pattern_of (route_at path) ≡ None → route_at path ≡ None
route-none path e = no-pattern (route_at path) e
