-- The patterns of the server find the routes of `specs/Routes.antt`, but for the questions.
use Rattle.std.specs.Prelude.{option_and_then}
use Rattle.std.specs.Option.{option_map, option_map_or}
use Rattle.std.specs.List.{position_or_len}
use Rattle.std.specs.Cmp.Lexicographic.{pointwise}
use Rattle.std.proofs.Common.{◌≡◌, ◌⊎◌, inl, inr, ℕ, suc, ◌+◌, ◌<◌, Bool, true, false, cond, ◌==◌, ◌&&◌, nat_eq, nat_lt, List, [], ◌∷◌, ◌++◌, length, take, drop, Option, Some, None, refl, sym, ◌∙◌, ap, arith, bytes_eq, codes}
use Rattle.std.proofs.lemmas.Bool.Decides.{nat_tests}
use Rattle.byte_cuts.specs.Cuts.{behind}
use Rattle.matchit.specs.Rows.{RowsOf, catch_all_token}
use Rattle.matchit.specs.Router.{RouteOf}
use Rattle.matchit.specs.Seek.{has_slash, own, seek}
use Rattle.repo_routes.specs.declared.routes.Pattern.{Pattern}
use Rattle.repo_routes.specs.declared.routes.Pattern.TheVariants as pattern
use Rattle.repo_routes.specs.Routes.{Route, in_repository, sessions, in_session, commit, abort, clean, files_route, named_route, number_route, part_of, pattern_of, repository_route, rest_of, session_route, sessions_route}
use Rattle.repo_routes.proofs.RouterLemmas.{along, catch-all, filled, front, front-first, is_word, seek-none, strip, word-first}
use Rattle.repo_routes.proofs.ParameterLemmas.{parameter, with-slash, without-slash}

abbrev is_slash : ℕ → Bool
is_slash b = b == 47

part-cons : (b : ℕ) (text : List ℕ) → (b == 47) ≡ false → part_of (b ∷ text) ≡ b ∷ part_of text
part-cons b text e =
    let s : 1 + position_or_len is_slash text ≡ suc (position_or_len is_slash text) = omega arith in
    rw e (rw s refl)

rest-cons : (b : ℕ) (text : List ℕ) → (b == 47) ≡ false → rest_of (b ∷ text) ≡ rest_of text
rest-cons b text e =
    let s : 1 + position_or_len is_slash text + 1 ≡ suc (position_or_len is_slash text + 1) = omega arith in
    rw e (rw s refl)

-- a text has no slash and nothing after it, or is cut at its first slash
abbrev IsCut : List ℕ → Type 0
IsCut text =
    ((has_slash text ≡ false) × (rest_of text ≡ [])) ⊎ ((text ≡ part_of text ++ 47 ∷ rest_of text) × (has_slash (part_of text) ≡ false))

cut-further : (b : ℕ) (text : List ℕ) → (b == 47) ≡ false → IsCut text → IsCut (b ∷ text)
cut-further b text other (inl p) = inl (rw other p.0, rest-cons b text other ∙ p.1)
cut-further b text other (inr p) =
    inr (ap (λ t. b ∷ t) p.0 ∙ sym (rw (part-cons b text other, rest-cons b text other) refl), rw (part-cons b text other) (rw other p.1))

cut-here : (text : List ℕ) → IsCut (47 ∷ text)
cut-here text = inr (refl, refl)

is-slash : (b : ℕ) → (b == 47) ≡ true → b ≡ 47
is-slash b e = grind (arith, nat_tests)

cut-at : (b : ℕ) (text : List ℕ) (test : Bool) → (b == 47) ≡ test → IsCut text → IsCut (b ∷ text)
cut-at b text true e p = let same : b ≡ 47 = is-slash b e in rw same (cut-here text)
cut-at b text false e p = cut-further b text e p

cut : (text : List ℕ) → IsCut text
cut [] = inl (refl, refl)
cut (b ∷ text) = cut-at b text (b == 47) refl (cut text)

filled-length : (text : List ℕ) → filled text ≡ nat_lt 0 (length text)
unfolding filled
filled-length [] = refl
filled-length (b ∷ text) = sym (let positive : 0 < length (b ∷ text) = omega arith in grind (arith, nat_tests))

strip-after : (word path : List ℕ) → strip word path ≡ behind word path
unfolding strip
strip-after [] path = refl
strip-after (x ∷ word) [] = refl
strip-after (x ∷ word) (b ∷ path) =
    elim (x == b) as (λ same. cond same (strip word path) None ≡ cond (same && pointwise nat_eq word (take (length word) path)) (Some (drop (length word) path)) None) [
      | true ↦ strip-after word path
      | false ↦ refl
    ]

one-way : {A : Type 0} (test : Bool) (x : A) → cond test x x ≡ x
one-way true x = refl
one-way false x = refl

module _ {K : Type 0} where
  by-parts : (t : List ℕ) (key : K) (rows : RowsOf K) (text : List ℕ) → own ((t, key) ∷ rows) ≡ None → IsCut text
      → seek 0 (parameter ((t, key) ∷ rows)) text ≡ cond (filled (part_of text)) (seek 0 ((t, key) ∷ rows) (rest_of text)) None
  unfolding seek
  by-parts t key rows text bare (inl p) =
      let all : RowsOf K = (t, key) ∷ rows in
      without-slash all text p.0 ∙ sym (ap (λ rest. cond (filled (part_of text)) (seek 0 all rest) None) p.1 ∙ ap (λ found. cond (filled (part_of text)) found None) bare ∙ one-way (filled (part_of text)) None)
  by-parts t key rows text bare (inr p) =
      ap (λ x. seek 0 (parameter ((t, key) ∷ rows)) x) p.0 ∙ with-slash t key rows (part_of text) (rest_of text) p.1

  -- rows after a parameter go on after its slash
  parts-rows : (t : List ℕ) (key : K) (rows : RowsOf K) (text : List ℕ) → own ((t, key) ∷ rows) ≡ None
      → seek 0 (parameter ((t, key) ∷ rows)) text ≡ cond (nat_lt 0 (length (part_of text))) (seek 0 ((t, key) ∷ rows) (rest_of text)) None
  parts-rows t key rows text bare =
      by-parts t key rows text bare (cut text) ∙ ap (λ test. cond test (seek 0 ((t, key) ∷ rows) (rest_of text)) None) (filled-length (part_of text))

abbrev Found : Type 0
Found = Option (RouteOf Pattern)

abbrev value_of : Found → Option Pattern
value_of found = option_map (λ e. e.value) found

-- the rows after the words
abbrev path_rows : RouteOf Pattern → RowsOf (RouteOf Pattern)
path_rows r = (catch_all_token ∷ [], r) ∷ []

abbrev sessions_rows : RouteOf Pattern → RowsOf (RouteOf Pattern)
sessions_rows o = (codes "sessions", o) ∷ []

abbrev number_rows : RouteOf Pattern → RouteOf Pattern → RouteOf Pattern → RowsOf (RouteOf Pattern)
number_rows a m f = (codes "abort", a) ∷ (codes "commit", m) ∷ (codes "files/" ++ catch_all_token ∷ [], f) ∷ []

word-by : (s : RouteOf Pattern) (test : Bool) (other : Found) (here : Route) (route : Option Route) → s.value ≡ pattern_of here
    → value_of other ≡ option_map pattern_of route
    → value_of (cond test (Some s) other) ≡ option_map pattern_of (cond test (Some here) route)
word-by s true other here route e same = ap (λ v. Some v) e
word-by s false other here route e same = same

-- after a repository's id
repository-found : (r : RouteOf Pattern) (text : List ℕ) → r.value ≡ pattern.Repository
    → value_of (seek 0 (parameter (path_rows r)) text) ≡ option_map pattern_of (repository_route text)
unfolding repository_route
repository-found r text e =
    let bare : own (path_rows r) ≡ None = refl in
    ap value_of (parts-rows (catch_all_token ∷ []) r [] text bare)
    ∙ ap (λ found. value_of (cond (nat_lt 0 (length (part_of text))) found None)) (catch-all r (rest_of text))
    ∙ ap (λ test. value_of (cond (nat_lt 0 (length (part_of text))) (cond test (Some r) None) None)) (filled-length (rest_of text))
    ∙ by-tests (nat_lt 0 (length (part_of text))) (nat_lt 0 (length (rest_of text)))
  where
    by-tests : (a b : Bool) → value_of (cond a (cond b (Some r) None) None) ≡ option_map pattern_of (cond (a && b) (Some (in_repository (part_of text) (rest_of text))) None)
    by-tests true true = ap (λ v. Some v) e
    by-tests true false = refl
    by-tests false b = refl

sessions-found : (o : RouteOf Pattern) (text : List ℕ) → o.value ≡ pattern.Sessions
    → value_of (seek 0 (parameter (sessions_rows o)) text) ≡ option_map pattern_of (sessions_route text)
unfolding sessions_route is_word seek
sessions-found o text e =
    let word : seek 0 (sessions_rows o) (rest_of text) ≡ cond (bytes_eq (rest_of text) (codes "sessions")) (Some o) None
    = word-first (codes "sessions") o [] (rest_of text) refl ∙ ap (λ found. cond (bytes_eq (rest_of text) (codes "sessions")) (Some o) found) (seek-none 0 (rest_of text)) in
    ap value_of (parts-rows (codes "sessions") o [] text refl)
    ∙ ap (λ found. value_of (cond (nat_lt 0 (length (part_of text))) found None)) word
    ∙ by-tests (nat_lt 0 (length (part_of text))) (bytes_eq (rest_of text) (codes "sessions"))
  where
    by-tests : (a b : Bool) → value_of (cond a (cond b (Some o) None) None) ≡ option_map pattern_of (cond (a && b) (Some (sessions (part_of text))) None)
    by-tests true true = ap (λ v. Some v) e
    by-tests true false = refl
    by-tests false b = refl

files-found : (f : RouteOf Pattern) (number : List ℕ) (written : Option (List ℕ)) → f.value ≡ pattern.SessionFile
    → value_of (option_and_then (λ rest. seek 0 (path_rows f) rest) written) ≡ option_map pattern_of (option_and_then (files_route number) written)
files-found f number None e = refl
files-found f number (Some written) e =
    ap value_of (catch-all f written ∙ ap (λ test. cond test (Some f) None) (filled-length written)) ∙ by-test (nat_lt 0 (length written))
  where
    by-test : (test : Bool) → value_of (cond test (Some f) None) ≡ option_map pattern_of (cond test (Some (in_session number written)) None)
    by-test true = ap (λ v. Some v) e
    by-test false = refl

-- after a session's number
number-found : (a m f : RouteOf Pattern) (number text : List ℕ) → a.value ≡ pattern.Abort → m.value ≡ pattern.Commit → f.value ≡ pattern.SessionFile
    → value_of (seek 0 (number_rows a m f) text) ≡ option_map pattern_of (number_route number text)
unfolding number_route is_word
number-found a m f number text abort_row commit_row files_row =
    let files : RowsOf (RouteOf Pattern) = (codes "files/" ++ catch_all_token ∷ [], f) ∷ [] in
    let words : RowsOf (RouteOf Pattern) = (codes "commit", m) ∷ files in
    let one : seek 0 (number_rows a m f) text ≡ cond (bytes_eq text (codes "abort")) (Some a) (seek 0 words text) = word-first (codes "abort") a words text refl in
    let two : seek 0 words text ≡ cond (bytes_eq text (codes "commit")) (Some m) (seek 0 files text) = word-first (codes "commit") m files text refl in
    let three : seek 0 files text ≡ option_and_then (λ rest. seek 0 (path_rows f) rest) (behind (codes "files/") text) =
    along (codes "files/") (catch_all_token ∷ []) f text refl ∙ ap (option_and_then (λ rest. seek 0 (path_rows f) rest)) (strip-after (codes "files/") text) in
    let below : value_of (seek 0 files text) ≡ option_map pattern_of (option_and_then (files_route number) (behind (codes "files/") text)) =
    ap value_of three ∙ files-found f number (behind (codes "files/") text) files_row in
    ap value_of one
    ∙ word-by a (bytes_eq text (codes "abort")) (seek 0 words text) (abort number) _ abort_row
    (ap value_of two ∙ word-by m (bytes_eq text (codes "commit")) (seek 0 files text) (commit number) _ commit_row below)

session-found : (a m f : RouteOf Pattern) (text : List ℕ) → a.value ≡ pattern.Abort → m.value ≡ pattern.Commit → f.value ≡ pattern.SessionFile
    → value_of (seek 0 (parameter (number_rows a m f)) text) ≡ option_map pattern_of (session_route text)
unfolding session_route
session-found a m f text abort_row commit_row files_row =
    ap value_of (parts-rows (codes "abort") a ((codes "commit", m) ∷ (codes "files/" ++ catch_all_token ∷ [], f) ∷ []) text refl)
    ∙ by-test (nat_lt 0 (length (part_of text)))
  where
    by-test : (test : Bool) → value_of (cond test (seek 0 (number_rows a m f) (rest_of text)) None) ≡ option_map pattern_of (cond test (number_route (part_of text) (rest_of text)) None)
    by-test true = number-found a m f (part_of text) (rest_of text) abort_row commit_row files_row
    by-test false = refl

-- after a word, or else by the other rows
after-by : (rows : RowsOf (RouteOf Pattern)) (route : List ℕ → Option Route) (found : Option (List ℕ)) (other : Found) (rest : Option Route)
    → ((text : List ℕ) → value_of (seek 0 rows text) ≡ option_map pattern_of (route text)) → value_of other ≡ option_map pattern_of rest
    → value_of (option_map_or (λ text. seek 0 rows text) found other) ≡ option_map pattern_of (option_map_or route found rest)
after-by rows route None other rest same others = others
after-by rows route (Some text) other rest same others = same text

last-by : (rows : RowsOf (RouteOf Pattern)) (route : List ℕ → Option Route) (found : Option (List ℕ))
    → ((text : List ℕ) → value_of (seek 0 rows text) ≡ option_map pattern_of (route text))
    → value_of (option_map_or (λ text. seek 0 rows text) found None) ≡ option_map pattern_of (option_and_then route found)
last-by rows route None same = refl
last-by rows route (Some text) same = same text

-- the rows of the patterns
abbrev last_rows : RouteOf Pattern → RowsOf (RouteOf Pattern)
last_rows r = front (codes "/repository/") (parameter (path_rows r)) ++ []

abbrev session_rows : (a m f r : RouteOf Pattern) → RowsOf (RouteOf Pattern)
session_rows a m f r = front (codes "/api/sessions/") (parameter (number_rows a m f)) ++ last_rows r

abbrev pub table : (c o a m f r : RouteOf Pattern) → RowsOf (RouteOf Pattern)
table c o a m f r = (codes "/api/clean", c) ∷ front (codes "/api/repositories/") (parameter (sessions_rows o)) ++ session_rows a m f r

pub table-routes : (c o a m f r : RouteOf Pattern) → c.value ≡ pattern.Clean → o.value ≡ pattern.Sessions → a.value ≡ pattern.Abort
    → m.value ≡ pattern.Commit → f.value ≡ pattern.SessionFile → r.value ≡ pattern.Repository
    → (path : List ℕ) → value_of (seek 0 (table c o a m f r) path) ≡ option_map pattern_of (named_route path)
unfolding named_route is_word front parameter
table-routes c o a m f r clean_row sessions_row abort_row commit_row files_row repository_row path =
    let others : RowsOf (RouteOf Pattern) = front (codes "/api/repositories/") (parameter (sessions_rows o)) ++ session_rows a m f r in
    let one : seek 0 (table c o a m f r) path ≡ cond (bytes_eq path (codes "/api/clean")) (Some c) (seek 0 others path)
    = word-first (codes "/api/clean") c others path refl in
    let two : seek 0 others path ≡ option_map_or (λ text. seek 0 (parameter (sessions_rows o)) text) (behind (codes "/api/repositories/") path) (seek 0 (session_rows a m f r) path)
    = front-first (codes "/api/repositories/") (parameter (sessions_rows o)) (session_rows a m f r) path refl refl
    ∙ ap (λ found. option_map_or (λ text. seek 0 (parameter (sessions_rows o)) text) found (seek 0 (session_rows a m f r) path)) (strip-after (codes "/api/repositories/") path) in
    let three : seek 0 (session_rows a m f r) path ≡ option_map_or (λ text. seek 0 (parameter (number_rows a m f)) text) (behind (codes "/api/sessions/") path) (seek 0 (last_rows r) path)
    = front-first (codes "/api/sessions/") (parameter (number_rows a m f)) (last_rows r) path refl refl
    ∙ ap (λ found. option_map_or (λ text. seek 0 (parameter (number_rows a m f)) text) found (seek 0 (last_rows r) path)) (strip-after (codes "/api/sessions/") path) in
    let four : seek 0 (last_rows r) path ≡ option_map_or (λ text. seek 0 (parameter (path_rows r)) text) (behind (codes "/repository/") path) None
    = front-first (codes "/repository/") (parameter (path_rows r)) [] path refl refl
    ∙ ap (λ found. option_map_or (λ text. seek 0 (parameter (path_rows r)) text) (strip (codes "/repository/") path) found) (seek-none 0 path)
    ∙ ap (λ found. option_map_or (λ text. seek 0 (parameter (path_rows r)) text) found None) (strip-after (codes "/repository/") path) in
    ap value_of one
    ∙ word-by c (bytes_eq path (codes "/api/clean")) (seek 0 others path) clean _ clean_row
    (ap value_of two
    ∙ after-by (parameter (sessions_rows o)) sessions_route (behind (codes "/api/repositories/") path) (seek 0 (session_rows a m f r) path) _
    (λ text. sessions-found o text sessions_row)
    (ap value_of three
    ∙ after-by (parameter (number_rows a m f)) session_route (behind (codes "/api/sessions/") path) (seek 0 (last_rows r) path) _
    (λ text. session-found a m f text abort_row commit_row files_row)
    (ap value_of four
    ∙ last-by (parameter (path_rows r)) repository_route (behind (codes "/repository/") path) (λ text. repository-found r text repository_row))))
