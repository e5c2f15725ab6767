use Rattle.std.proofs.Common.{◌≡◌, ◌++◌, ◌∷◌, [], refl, rules}
use Rattle.repo_course.specs.Course.{with_fault}
use Rattle.repo_course.specs.declared.act.Next.{Next}
use Rattle.repo_course.proofs.Looking.{looks-on}
use Rattle.repo_course.proofs.fetching.next_of.Goals as goal

pub returns-clause-left : goal.returns-clause-left
returns-clause-left c = λ mode.
    let a = c.args.again in
    let n : Next = record { repo = a.repo; path = a.path; tried = c.from_vec.result; so_far = c.with_fault.result; again = c.in_ok-again.again } in
    let tried-is : c.from_vec.result ≡ a.tried ++ c.args.member ∷ [] = search rules in
    let seen-is : c.as_slice.result.now ≡ a.tried ++ c.args.member ∷ [] = search rules in
    looks-on mode (with_fault c.args.so_far c.args.why) a.more a.repo a.path (a.tried ++ c.args.member ∷ []) c.as_slice.result.now n refl refl tried-is seen-is
    c.with_fault.ensures (c.in_ok-again.ensures.looks mode (with_fault c.args.so_far c.args.why))
