-- What every request keeps that is not refused.
use Rattle.std.specs.Prelude.{IsTrue, if◌then◌else◌, bytes_eq, codes}
use Rattle.std.proofs.Common.{◌≡◌, ℕ, ◌≤◌, Bool, true, false, ◌||◌, cond, nat_le, List, Some, Result, Ok, Err, IfOk, is_some, refl, sym, subst, ◌∙◌, arith}
use Rattle.std.proofs.lemmas.Bool.Decides.{nat_tests}
use Rattle.std.proofs.lemmas.Slice.Eq.{bytes_eq-Decides}
use Rattle.mvn_coords.specs.Kind.{kind}
use Rattle.mvn_coords.specs.declared.kind.Kind.{Kind}
use Rattle.mvn_coords.specs.declared.kind.Kind.TheVariants.{File, FileSide, Doc, DocSide}
use Rattle.mvn_coords.specs.declared.fault.PathFault.{PathFault}
use Rattle.mvn_coords.specs.declared.fault.Side.{Side}
use Rattle.http_wire.specs.Head.{Head}
use Rattle.repo_model.specs.Command.{is_known, is_place, is_there, names_document, names_something}
use Rattle.repo_model.specs.Data.{Place, repository, session}
use Rattle.repo_model.specs.Paths.{file_in}
use Rattle.repo_model.specs.Settings.{Settings}
use Rattle.repo_routes.specs.declared.paths.Thing.{Thing}
use Rattle.repo_routes.specs.declared.paths.Thing.TheVariants as thing
use Rattle.repo_routes.specs.declared.refusal.Refusal.{Refusal}
use Rattle.repo_routes.specs.declared.refusal.Allow.TheVariants.{Read, ReadAndPut}
use Rattle.repo_routes.specs.Framing.{check_host, is_head, is_put, is_read, length_of}
use Rattle.repo_routes.specs.Intent.{Intent}
use Rattle.repo_routes.specs.Judge.{IsIntent, check_body, in_repo, intent_of, intent_on, into_session, of_session}
use Rattle.repo_routes.specs.Paths.{check_limit, decoded, limit_of, path_refusal, put_at, put_of, put_to, read_from, side_of, thing_at, thing_or}
use Rattle.repo_routes.specs.Routes.{Route, in_repository, sessions, in_session, commit, abort, question, clean, allowed, allows, check_method, check_repository, has_repository, route_of, sort_of}
use Rattle.repo_routes.specs.Numbers.{session_of}
use Rattle.repo_routes.specs.Steps.{◌>>=◌, need}
use Rattle.repo_routes.specs.Target.{target_path}

-- what holds of each end of what follows a step holds of the ends of both
kept-then : {A B : Type 0} (step : Result A Refusal) (next : A → Result B Refusal) (P : B → Type 0)
    → ((value : A) → step ≡ Ok value → IfOk (next value) P) → IfOk (step >>= next) P
kept-then (Ok value) next P kept = kept value refl
kept-then (Err cause) next P kept = tt

needed : (test : Bool) (cause : Refusal) → need test cause ≡ Ok tt → test ≡ true
needed true cause e = refl
needed false cause e = cc

-- what a path names is what it was taken for
something-named : (cause : PathFault → Refusal) (k : Result Kind PathFault) (what : Thing) → thing_or cause k ≡ Ok what → IsTrue (names_something k)
something-named cause (Ok k) what e = refl
something-named cause (Err fault) what e = cc

file-named : (cause : PathFault → Refusal) (k : Result Kind PathFault) → thing_or cause k ≡ Ok thing.File → IsTrue (is_some (file_in k))
file-named cause (Ok (File c)) e = refl
file-named cause (Ok (FileSide c side)) e = cc
file-named cause (Ok (Doc d)) e = cc
file-named cause (Ok (DocSide d side)) e = cc
file-named cause (Err fault) e = cc

document-named : (cause : PathFault → Refusal) (k : Result Kind PathFault) → thing_or cause k ≡ Ok thing.Document → IsTrue (names_document k)
document-named cause (Ok (File c)) e = cc
document-named cause (Ok (FileSide c side)) e = cc
document-named cause (Ok (Doc d)) e = refl
document-named cause (Ok (DocSide d side)) e = cc
document-named cause (Err fault) e = cc

side-named : (cause : PathFault → Refusal) (k : Result Kind PathFault) (side : Side) → thing_or cause k ≡ Ok (thing.Side side) → side_of k ≡ Some side
side-named cause (Ok (File c)) side e = cc
side-named cause (Ok (FileSide c other)) side e = cc
side-named cause (Ok (Doc d)) side e = cc
side-named cause (Ok (DocSide d other)) side e = cc
side-named cause (Err fault) side e = cc

put-kept : (settings : Settings) (cause : PathFault → Refusal) (place : Place) (path : List ℕ) (length : ℕ) (what : Thing) → is_place place settings ≡ true
    → thing_or cause (kind path) ≡ Ok what → length ≤ limit_of settings what → IsIntent settings (put_of place path length what)
unfolding limit_of
put-kept settings cause place path length thing.File there e fits = (there, file-named cause (kind path) e, fits)
put-kept settings cause place path length thing.Document there e fits = (there, document-named cause (kind path) e, fits)
put-kept settings cause place path length (thing.Side side) there e fits = (there, side-named cause (kind path) side e, fits)

within-limit : (limit length : ℕ) → check_limit limit length ≡ Ok tt → length ≤ limit
unfolding check_limit
within-limit limit length e = let h : nat_le length limit ≡ true = needed _ _ e in grind (arith, nat_tests)

to-kept : (settings : Settings) (head : Head) (length : ℕ) (place : Place) (written : List ℕ) → is_place place settings ≡ true
    → IfOk (put_to settings head length place written) (IsIntent settings)
unfolding put_to thing_at put_at
to-kept settings head length place written there =
    kept-then (decoded head written) _ (IsIntent settings)
    (λ path _. kept-then (thing_at head path) _ (IsIntent settings)
    (λ what e. kept-then (check_limit (limit_of settings what) length) (λ _. Ok (put_of place path length what)) (IsIntent settings)
    (λ u fits. put-kept settings (path_refusal head) place path length what there e (within-limit _ _ fits))))

from-kept : (settings : Settings) (head : Head) (repo written : List ℕ) → is_known repo settings ≡ true
    → IfOk (read_from settings head repo written) (IsIntent settings)
unfolding read_from thing_at
from-kept settings head repo written known =
    kept-then (decoded head written) _ (IsIntent settings)
    (λ path _. kept-then (thing_at head path) (λ _. Ok (Intent.reads repo path (sort_of repo settings))) (IsIntent settings)
    (λ what e. (known, something-named (path_refusal head) (kind path) what e, refl)))

-- neither GET nor HEAD is PUT
pub put-is-no-read : (head : Head) → is_read head ≡ true → is_put head ≡ false
unfolding is_read is_put is_head
put-is-no-read head read =
    elim (bytes_eq head.method (codes "PUT")) as (λ b. bytes_eq head.method (codes "PUT") ≡ b → b ≡ false) [
      | true ↦ λ is.
          let method : head.method ≡ codes "PUT" = (bytes_eq-Decides head.method (codes "PUT")).0 is in
          absurd (clash (subst (λ m. (bytes_eq m (codes "GET") || bytes_eq m (codes "HEAD")) ≡ true) method read))
      | false ↦ λ is. refl
    ] refl
  where
    clash : false ≡ true → ⊥
    clash is = cc

-- a repository that a PUT may come to is hosted
put-there : (there : Bool) (head : Head) → allows (if there then ReadAndPut else Read) head ≡ true → is_put head ≡ true → there ≡ true
put-there true head may put = refl
put-there false head may put = let no : true ≡ false = sym put ∙ put-is-no-read head may in cc

by-kept : (settings : Settings) (head : Head) (length : ℕ) (put : Bool) (repo written : List ℕ) → is_known repo settings ≡ true
    → (put ≡ true → is_there repo settings ≡ true)
    → IfOk (cond put (put_to settings head length (repository repo) written) (read_from settings head repo written)) (IsIntent settings)
by-kept settings head length true repo written known there = to-kept settings head length (repository repo) written (there refl)
by-kept settings head length false repo written known there = from-kept settings head repo written known

in-kept : (settings : Settings) (head : Head) (length : ℕ) (repo written : List ℕ) → is_known repo settings ≡ true
    → allows (allowed settings (in_repository repo written)) head ≡ true → IfOk (in_repo settings head length repo written) (IsIntent settings)
unfolding in_repo
in-kept settings head length repo written known may =
    by-kept settings head length (is_put head) repo written known (λ put. put-there (is_there repo settings) head may put)

into-kept : (settings : Settings) (head : Head) (length : ℕ) (number written : List ℕ) → IfOk (into_session settings head length number written) (IsIntent settings)
unfolding into_session
into-kept settings head length number written =
    kept-then (session_of number) _ (IsIntent settings)
    (λ n _. kept-then (need (is_put head) _) (λ _. put_to settings head length (session n) written) (IsIntent settings)
    (λ _ _. to-kept settings head length (session n) written refl))

of-kept : (settings : Settings) (intent : ℕ → Intent) (number : List ℕ) → ((n : ℕ) → IsIntent settings (intent n)) → IfOk (of_session intent number) (IsIntent settings)
unfolding of_session
of-kept settings intent number all = kept-then (session_of number) (λ n. Ok (intent n)) (IsIntent settings) (λ n _. all n)

on-kept : (settings : Settings) (head : Head) (length : ℕ) (route : Route) → has_repository settings route ≡ true
    → allows (allowed settings route) head ≡ true → IfOk (intent_on settings head length route) (IsIntent settings)
on-kept settings head length (in_repository repo written) there may = in-kept settings head length repo written there may
on-kept settings head length (sessions repo) there may = there
on-kept settings head length (in_session number written) there may = into-kept settings head length number written
on-kept settings head length (commit number) there may = of-kept settings Intent.commits number (λ n. tt)
on-kept settings head length (abort number) there may = of-kept settings Intent.aborts number (λ n. tt)
on-kept settings head length clean there may = refl
on-kept settings head length (question what) there may = tt

pub intent-kept : (settings : Settings) (head : Head) → IfOk (intent_of settings head) (IsIntent settings)
unfolding intent_of check_repository check_method
intent-kept settings head =
    kept-then (target_path head.target) _ (IsIntent settings)
    (λ path _. kept-then (check_host head) _ (IsIntent settings)
    (λ _ _. kept-then (length_of head) _ (IsIntent settings)
    (λ length _. kept-then (route_of path) _ (IsIntent settings)
    (λ route _. kept-then (check_repository settings route) _ (IsIntent settings)
    (λ _ there. kept-then (check_method settings route head) _ (IsIntent settings)
    (λ _ may. kept-then (check_body head length) _ (IsIntent settings)
    (λ _ _. on-kept settings head length route (needed _ _ there) (needed _ _ may))))))))
