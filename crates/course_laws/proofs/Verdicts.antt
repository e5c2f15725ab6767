-- The first fault of several fetches is what they come to.
use Rattle.std.proofs.Common.{◌≡◌, ◌≢◌, ◌⊎◌, inl, inr, ◌↔◌, Bool, List, [], ◌∷◌, ◌++◌, Option, Some, None, refl, sym, subst, ap, ◌∙◌}
use Rattle.std.specs.List.{AllByRecursion}
use Rattle.fetch_plan.specs.declared.Outcome.{Outcome as Came}
use Rattle.fetch_plan.specs.declared.Outcome.TheVariants as came
use Rattle.http_wire.specs.declared.answers.Status.TheVariants as status
use Rattle.repo_course.specs.Answers.{fetch_status}
use Rattle.repo_course.specs.Course.{fetch_fault, with_fault}
use Rattle.repo_course.specs.declared.fetched.FetchFault.{FetchFault}
use Rattle.repo_course.specs.declared.fetched.FetchFault.TheVariants as unfetched
use Rattle.repo_course.specs.declared.fetched.Verdict.TheVariants as verdict
use Rattle.course_laws.specs.Verdicts.{with_faults}

-- the first fault stays
stays : (why : FetchFault) (more : List (Option FetchFault)) → with_faults (verdict.First why) more ≡ verdict.First why
stays why [] = refl
stays why (x ∷ more) = stays why more

none-adds : (of_group : Bool) (x : Option FetchFault) → x ≡ None → with_fault (verdict.Gone of_group) x ≡ verdict.Gone of_group
none-adds of_group x is = subst (λ y. with_fault (verdict.Gone of_group) y ≡ verdict.Gone of_group) (sym is) refl

pub gone-stays : (of_group : Bool) (whys : List (Option FetchFault)) → AllByRecursion (λ (x : Option FetchFault). x ≡ None) whys
    → with_faults (verdict.Gone of_group) whys ≡ verdict.Gone of_group
gone-stays of_group [] all = refl
gone-stays of_group (x ∷ whys) all = ap (λ v. with_faults v whys) (none-adds of_group x all.0) ∙ gone-stays of_group whys all.1

unasked-adds : (of_group : Bool) (x : Option FetchFault) → x ≡ None → with_fault (verdict.Unasked of_group) x ≡ verdict.Gone of_group
unasked-adds of_group x is = subst (λ y. with_fault (verdict.Unasked of_group) y ≡ verdict.Gone of_group) (sym is) refl

pub all-gone : (of_group : Bool) (whys : List (Option FetchFault)) → whys ≢ [] → AllByRecursion (λ (x : Option FetchFault). x ≡ None) whys
    → with_faults (verdict.Unasked of_group) whys ≡ verdict.Gone of_group
all-gone of_group [] some all = absurd (some refl)
all-gone of_group (x ∷ whys) some all = ap (λ v. with_faults v whys) (unasked-adds of_group x all.0) ∙ gone-stays of_group whys all.1

gone-first : (of_group : Bool) (before more : List (Option FetchFault)) (why : FetchFault) → AllByRecursion (λ (x : Option FetchFault). x ≡ None) before
    → with_faults (verdict.Gone of_group) (before ++ Some why ∷ more) ≡ verdict.First why
gone-first of_group [] more why all = stays why more
gone-first of_group (x ∷ before) more why all =
    ap (λ v. with_faults v (before ++ Some why ∷ more)) (none-adds of_group x all.0) ∙ gone-first of_group before more why all.1

pub first-told : (of_group : Bool) (before more : List (Option FetchFault)) (why : FetchFault) → AllByRecursion (λ (x : Option FetchFault). x ≡ None) before
    → with_faults (verdict.Unasked of_group) (before ++ Some why ∷ more) ≡ verdict.First why
first-told of_group [] more why all = stays why more
first-told of_group (x ∷ before) more why all =
    ap (λ v. with_faults v (before ++ Some why ∷ more)) (unasked-adds of_group x all.0) ∙ gone-first of_group before more why all.1

-- ---- which outcome is which fault
module _ {A : Type 0} where
  abbrev IsGiven : Came A → Type 0
  IsGiven o = (o ≡ came.Gone) ⊎ ((what : A) × (o ≡ came.Got what))

  given : (o : Came A) → fetch_fault o ≡ None → IsGiven o
  given (came.Got what) is = inr (what, refl)
  given came.Gone is = inl refl
  given _ is = absurd (cc)

  no-fault : (o : Came A) → IsGiven o → fetch_fault o ≡ None
  no-fault o (inl gone) = ap (λ (x : Came A). fetch_fault x) gone
  no-fault o (inr got) = ap (λ (x : Came A). fetch_fault x) got.1

  pub faultless : (o : Came A) → (fetch_fault o ≡ None) ↔ IsGiven o
  faultless o = (given o, no-fault o)

  failed : (o : Came A) → fetch_fault o ≡ Some unfetched.Fault → o ≡ came.Fault
  failed came.Fault is = refl
  failed _ is = absurd (cc)

  pub only-faults : (o : Came A) → (fetch_fault o ≡ Some unfetched.Fault) ↔ (o ≡ came.Fault)
  only-faults o = (failed o, λ is. ap (λ (x : Came A). fetch_fault x) is)

fault-timed : (why : FetchFault) → fetch_status why ≡ status.GatewayTimeout → why ≡ unfetched.Fault
fault-timed unfetched.Fault is = refl
fault-timed _ is = absurd (cc)

pub timed-out : (why : FetchFault) → (fetch_status why ≡ status.GatewayTimeout) ↔ (why ≡ unfetched.Fault)
timed-out why = (fault-timed why, ap fetch_status)
