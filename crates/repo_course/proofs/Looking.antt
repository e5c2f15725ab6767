-- A look that is left, with what is looked at again after it, is the course of a look with so many fetches.
use Rattle.std.proofs.Common.{◌≡◌, ℕ, zero, suc, List, Some, None, refl, sym, ap, ◌∙◌}
use Rattle.repo_model.specs.Command.{look}
use Rattle.repo_course.specs.Acts.{left_of_plan, looks_next}
use Rattle.repo_course.specs.Course.{after_look, asks, looks}
use Rattle.repo_course.specs.declared.act.Again.{Again}
use Rattle.repo_course.specs.declared.act.Next.{Next}
use Rattle.repo_course.specs.declared.fetched.Verdict.{Verdict}
use Rattle.repo_course.specs.declared.mode.ResponseMode.{ResponseMode}

module _ (mode : ResponseMode) (so_far : Verdict) where
  -- nothing may be fetched any more
  pub looks-last : (rounds : ℕ) (repo path tried : List ℕ) → rounds ≡ zero
      → asks (look repo path tried) (after_look mode so_far (left_of_plan mode so_far None)) ≡ looks mode rounds repo path tried so_far
  looks-last zero repo path tried none = refl
  looks-last (suc n) repo path tried none = absurd (cc)

  first-looks : (a : Again)
      → asks (look a.repo a.path a.tried) (after_look mode so_far (left_of_plan mode so_far (Some a))) ≡ looks mode (suc a.more) a.repo a.path a.tried so_far
  first-looks a = refl

  -- one more fetch may come
  pub looks-more : (rounds : ℕ) (repo path tried : List ℕ) (a : Again) → a.repo ≡ repo → a.path ≡ path → a.tried ≡ tried → rounds ≡ suc a.more
      → asks (look repo path tried) (after_look mode so_far (left_of_plan mode so_far (Some a))) ≡ looks mode rounds repo path tried so_far
  looks-more rounds repo path tried a repo-is path-is tried-is more =
      (λ i. asks (look (sym repo-is i) (sym path-is i) (sym tried-is i)) (after_look mode so_far (left_of_plan mode so_far (Some a))))
      ∙ first-looks a ∙ (λ i. looks mode (sym more i) (repo-is i) (path-is i) (tried-is i) so_far)

-- the look that comes next
pub looks-on : (mode : ResponseMode) (so_far : Verdict) (rounds : ℕ) (repo path tried seen : List ℕ) (n : Next) → n.repo ≡ repo → n.path ≡ path → n.tried ≡ tried → seen ≡ tried
    → n.so_far ≡ so_far
    → asks (look repo path seen) (after_look mode so_far (left_of_plan mode so_far n.again)) ≡ looks mode rounds repo path seen so_far
    → looks_next mode n ≡ looks mode rounds repo path tried so_far
looks-on mode so_far rounds repo path tried seen n repo-is path-is tried-is seen-is so-is left =
    (λ i. asks (look (repo-is i) (path-is i) ((tried-is ∙ sym seen-is) i)) (after_look mode (so-is i) (left_of_plan mode (so-is i) n.again)))
    ∙ left ∙ ap (λ (t : List ℕ). looks mode rounds repo path t so_far) seen-is
