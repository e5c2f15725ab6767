-- What a request's course has to read is the body that its head announces.
use Rattle.std.proofs.Common.{◌≡◌, ℕ, ◌≤◌, Bool, true, false, ◌||◌, not, cond, List, Some, None, Result, Ok, Err, IfOk, arith, refl, sym, subst, ap, ◌∙◌}
use Rattle.std.specs.Prelude.{Option, IfErr, if◌then◌else◌, nat_lt, bytes_eq, codes}
use Rattle.std.specs.Option.{ok_or}
use Rattle.std.proofs.lemmas.Bool.{ltb-false, or_parts}
use Rattle.std.proofs.lemmas.Slice.Eq.{bytes_eq-Decides}
use Rattle.http_wire.specs.Head.{Head}
use Rattle.http_wire.specs.Fields.{body_length}
use Rattle.http_wire.specs.declared.requests.BodyLength.{BodyLength}
use Rattle.http_wire.specs.declared.requests.BodyLength.TheVariants.{Known, Missing, Wrong}
use Rattle.mvn_coords.specs.declared.fault.PathFault.{PathFault}
use Rattle.mvn_coords.specs.declared.kind.Kind.{Kind}
use Rattle.mvn_coords.specs.declared.kind.Kind.TheVariants.{File}
use Rattle.mvn_coords.specs.Kind.{kind}
use Rattle.repo_model.specs.Data.{Place, repository, session}
use Rattle.repo_model.specs.Settings.{Settings}
use Rattle.repo_routes.specs.declared.judging.Refused.{Refused}
use Rattle.repo_routes.specs.declared.refusal.Refusal.{Refusal}
use Rattle.repo_routes.specs.declared.refusal.Refusal.TheVariants as refusal
use Rattle.repo_routes.specs.Framing as framing
use Rattle.repo_routes.specs.Framing.{check_host, ends_connection, has_body, is_post, is_put}
use Rattle.repo_routes.specs.Intent.{Intent, Judged, reads as reads_path}
use Rattle.repo_routes.specs.Judge.{check_body, in_repo, intent_of, intent_on, into_session, judge, loses_place, of_session, outcome_of}
use Rattle.repo_routes.specs.Numbers.{session_of}
use Rattle.repo_routes.specs.Paths.{check_limit, decoded, limit_of, path_refusal, put_at, put_of, put_to, read_from, thing_at, thing_of, thing_or}
use Rattle.repo_routes.specs.Routes.{Route, in_repository, in_session, commit, abort, question, allowed, allows, check_method, check_repository, route_of, sort_of}
use Rattle.repo_routes.specs.Steps.{◌>>=◌, need}
use Rattle.repo_routes.specs.Target.{target_path}
use Rattle.repo_routes.proofs.KeptLemmas.{put-is-no-read}
use Rattle.course_laws.specs.Duties.{length_of}

-- what holds of each end of what follows a step holds of the ends of both
then-holds : {A B : Type 0} (step : Result A Refusal) (next : A → Result B Refusal) (P : B → Type 0)
    → ((value : A) → step ≡ Ok value → IfOk (next value) P) → IfOk (step >>= next) P
then-holds (Ok value) next P holds = holds value refl
then-holds (Err cause) next P holds = tt

needed : (test : Bool) (cause : Refusal) → need test cause ≡ Ok tt → test ≡ true
needed true cause e = refl
needed false cause e = cc

-- POST is not PUT
put-is-no-post : (head : Head) → is_post head ≡ true → is_put head ≡ false
unfolding is_post is_put
put-is-no-post head post = subst (λ m. bytes_eq m (codes "PUT") ≡ false) (sym ((bytes_eq-Decides head.method (codes "POST")).0 post)) refl

-- no bytes where no PUT brings any
no-bytes : (put : Bool) (length : ℕ) → (put || not (nat_lt 0 length)) ≡ true → put ≡ false → 0 ≡ length
no-bytes true length test is = absurd (cc)
no-bytes false length test is =
    elim (nat_lt 0 length) as (λ b. nat_lt 0 length ≡ b → not b ≡ true → 0 ≡ length) [
      | true ↦ λ here no. absurd (cc)
      | false ↦ λ none yes. let le : length ≤ 0 = ltb-false 0 length none in omega arith
    ] refl test

put-announced : (place : Place) (path : List ℕ) (length : ℕ) (k : Kind) → length_of (put_of place path length (thing_of k)) ≡ length
put-announced place path length (File c) = refl
put-announced place path length _ = refl

kind-announced : (settings : Settings) (head : Head) (place : Place) (path : List ℕ) (length : ℕ) (k : Result Kind PathFault)
    → IfOk (thing_or (path_refusal head) k >>= (λ what. put_at settings place path length what)) (λ intent. length_of intent ≡ length)
unfolding put_at
kind-announced settings head place path length (Ok k) =
    then-holds (check_limit (limit_of settings (thing_of k)) length) (λ _. Ok (put_of place path length (thing_of k))) (λ intent. length_of intent ≡ length)
    (λ u fits. put-announced place path length k)
kind-announced settings head place path length (Err fault) = tt

to-announced : (settings : Settings) (head : Head) (length : ℕ) (place : Place) (written : List ℕ)
    → IfOk (put_to settings head length place written) (λ intent. length_of intent ≡ length)
unfolding put_to thing_at
to-announced settings head length place written =
    then-holds (decoded head written) _ (λ intent. length_of intent ≡ length) (λ path _. kind-announced settings head place path length (kind path))

from-announced : (settings : Settings) (head : Head) (length : ℕ) (repo written : List ℕ) → 0 ≡ length → IfOk (read_from settings head repo written) (λ intent. length_of intent ≡ length)
unfolding read_from
from-announced settings head length repo written none =
    then-holds (decoded head written) _ (λ intent. length_of intent ≡ length)
    (λ path _. then-holds (thing_at head path) (λ _. Ok (reads_path repo path (sort_of repo settings))) (λ intent. length_of intent ≡ length) (λ what _. none))

in-announced : (settings : Settings) (head : Head) (length : ℕ) (put : Bool) (repo written : List ℕ) → (put || not (nat_lt 0 length)) ≡ true
    → IfOk (cond put (put_to settings head length (repository repo) written) (read_from settings head repo written)) (λ intent. length_of intent ≡ length)
in-announced settings head length true repo written test = to-announced settings head length (repository repo) written
in-announced settings head length false repo written test = from-announced settings head length repo written (no-bytes false length test refl)

into-announced : (settings : Settings) (head : Head) (length : ℕ) (number written : List ℕ) → IfOk (into_session settings head length number written) (λ intent. length_of intent ≡ length)
unfolding into_session
into-announced settings head length number written =
    then-holds (session_of number) _ (λ intent. length_of intent ≡ length)
    (λ n _. then-holds (need (is_put head) refusal.Unread) (λ _. put_to settings head length (session n) written) (λ intent. length_of intent ≡ length)
    (λ _ _. to-announced settings head length (session n) written))

of-announced : (intent : ℕ → Intent) (length : ℕ) (number : List ℕ) → ((n : ℕ) → length_of (intent n) ≡ length) → IfOk (of_session intent number) (λ intent. length_of intent ≡ length)
unfolding of_session
of-announced intent length number all = then-holds (session_of number) (λ n. Ok (intent n)) (λ intent. length_of intent ≡ length) (λ n _. all n)

on-announced : (settings : Settings) (head : Head) (length : ℕ) (route : Route) → allows (allowed settings route) head ≡ true
    → (is_put head || not (nat_lt 0 length)) ≡ true → IfOk (intent_on settings head length route) (λ intent. length_of intent ≡ length)
unfolding in_repo
on-announced settings head length (in_repository repo written) may test = in-announced settings head length (is_put head) repo written test
on-announced settings head length (in_session number written) may test = into-announced settings head length number written
on-announced settings head length (commit number) may test =
    of-announced Intent.commits length number (λ n. no-bytes (is_put head) length test (put-is-no-post head may))
on-announced settings head length (abort number) may test =
    of-announced Intent.aborts length number (λ n. no-bytes (is_put head) length test (put-is-no-post head may))
on-announced settings head length (question what) may test = no-bytes (is_put head) length test (put-is-no-read head may)
on-announced settings head length _ may test = no-bytes (is_put head) length test (put-is-no-post head may)

intent-announced : (settings : Settings) (head : Head) → IfOk (intent_of settings head) (λ intent. framing.length_of head ≡ Ok (length_of intent))
unfolding intent_of check_method check_body
intent-announced settings head =
    let P : Intent → Type 0 = λ intent. framing.length_of head ≡ Ok (length_of intent) in
    then-holds (target_path head.target) _ P
    (λ path _. then-holds (check_host head) _ P
    (λ _ _. then-holds (framing.length_of head) _ P
    (λ length said. then-holds (route_of path) _ P
    (λ route _. then-holds (check_repository settings route) _ P
    (λ _ _. then-holds (check_method settings route head) _ P
    (λ _ may. then-holds (check_body head length) _ P
    (λ _ test. said-so (intent_on settings head length route) length said (on-announced settings head length route (needed _ _ may) (needed _ _ test)))))))))
  where
    said-so : (r : Result Intent Refusal) (length : ℕ) → framing.length_of head ≡ Ok length → IfOk r (λ intent. length_of intent ≡ length)
        → IfOk r (λ intent. framing.length_of head ≡ Ok (length_of intent))
    said-so (Ok intent) length said is = said ∙ ap Ok (sym is)
    said-so (Err cause) length said is = tt

pub whole-body : (settings : Settings) (head : Head) → IfOk (judge settings head) (λ request. framing.length_of head ≡ Ok (length_of request.intent))
unfolding judge
whole-body settings head = pick (intent_of settings head) (intent-announced settings head)
  where
    pick : (r : Result Intent Refusal) → IfOk r (λ intent. framing.length_of head ≡ Ok (length_of intent))
        → IfOk (outcome_of head r) (λ (request : Judged). framing.length_of head ≡ Ok (length_of request.intent))
    pick (Ok intent) is = is
    pick (Err cause) is = tt

-- what holds of the refusals of a step and of what follows it holds of those of both
refusal-then : {A B : Type 0} (step : Result A Refusal) (next : A → Result B Refusal) (P : Refusal → Type 0) → IfErr step P
    → ((value : A) → step ≡ Ok value → IfErr (next value) P) → IfErr (step >>= next) P
refusal-then (Ok value) next P first more = more value refl
refusal-then (Err cause) next P first more = first

-- a refusal after which the connection may go on comes once the length is known
abbrev Knows : Head → Refusal → Type 0
Knows head cause = loses_place cause ≡ false → (length : ℕ) × (framing.length_of head ≡ Ok length)

target-refused : (head : Head) (o : Option (List ℕ)) → IfErr (ok_or o refusal.BadTarget) (Knows head)
target-refused head None = λ goes. absurd (cc)
target-refused head (Some path) = tt

host-refused : (head : Head) (test : Bool) → IfErr (need test refusal.BadHost) (Knows head)
host-refused head true = tt
host-refused head false = λ goes. absurd (cc)

said-refused : (head : Head) (put : Bool) (said : BodyLength) → IfErr (framing.length_said put said) (Knows head)
said-refused head put (Known n) = tt
said-refused head put Wrong = λ goes. absurd (cc)
said-refused head true Missing = λ goes. absurd (cc)
said-refused head false Missing = tt

length-refused : (head : Head) → IfErr (framing.length_of head) (Knows head)
unfolding framing.length_of
length-refused head =
    elim (nat_lt 0 (framing.field_count (codes "Transfer-Encoding") head))
    as (λ b. IfErr (if b then Err refusal.NoLength else framing.length_said (is_put head) (body_length head.fields)) (Knows head))
    [ true ↦ λ goes. absurd (cc) | false ↦ said-refused head (is_put head) (body_length head.fields) ]

intent-refused : (settings : Settings) (head : Head) → IfErr (intent_of settings head) (Knows head)
unfolding intent_of target_path check_host
intent-refused settings head =
    refusal-then (target_path head.target) _ (Knows head) (target-refused head _)
    (λ path _. refusal-then (check_host head) _ (Knows head) (host-refused head _)
    (λ _ _. refusal-then (framing.length_of head) _ (Knows head) (length-refused head)
    (λ length said. known (route_of path >>= _) length said)))
  where
    known : {A : Type 0} (r : Result A Refusal) (length : ℕ) → framing.length_of head ≡ Ok length → IfErr r (Knows head)
    known (Ok value) length said = tt
    known (Err cause) length said = λ goes. (length, said)

-- no body comes where none is announced
none-announced : (head : Head) (length : ℕ) → framing.length_of head ≡ Ok length → has_body head ≡ false → framing.length_of head ≡ Ok 0
unfolding framing.length_of has_body
none-announced head length said none =
    said ∙ ap Ok (pick (nat_lt 0 (framing.field_count (codes "Transfer-Encoding") head)) (is_put head) (body_length head.fields) said none)
  where
    pick : (chunked put : Bool) (b : BodyLength) → (if chunked then Err refusal.NoLength else framing.length_said put b) ≡ Ok length
        → framing.is_filled b ≡ false → length ≡ 0
    pick false put (Known n) e f =
        let same : n ≡ length = (cc) in
        let le : n ≤ 0 = ltb-false 0 n f in omega arith
    pick false true Missing e f = (cc)
    pick _ _ _ e f = (cc)

pub refused-body : (settings : Settings) (head : Head) → IfErr (judge settings head) (λ refused. refused.close ≡ false → framing.length_of head ≡ Ok 0)
unfolding judge
refused-body settings head = pick (intent_of settings head) (intent-refused settings head)
  where
    pick : (r : Result Intent Refusal) → IfErr r (Knows head)
        → IfErr (outcome_of head r) (λ (refused : Refused). refused.close ≡ false → framing.length_of head ≡ Ok 0)
    pick (Ok intent) knows = tt
    pick (Err cause) knows = λ goes.
        let open_so = or_parts (loses_place cause) (ends_connection head || has_body head) goes in
        let known = knows open_so.0 in
        none-announced head known.0 known.1 (or_parts (ends_connection head) (has_body head) open_so.1).1
