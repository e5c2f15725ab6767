-- Requests that were answered, one after another.
use Rattle.std.proofs.Common.{◌≡◌, ◌∷◌, ◌++◌, ◌≤◌, ◌<◌, ◌+◌, ◌*◌, ℕ, List, [], inl, inr, refl, sym, subst, ap, ◌∙◌, arith, length, length-append}
use Rattle.std.specs.Prelude.{zero, suc}
use Rattle.demo_requests.specs.Numbers.{next, number_at}
use Rattle.demo_requests.specs.Requests.{request}
use Rattle.repo_config.specs.Form.{IsSettings}
use Rattle.repo_core.specs.CoreTurn.{CoreTurn}
use Rattle.repo_core.specs.Whole.{Whole}
use Rattle.repo_model.specs.History.{Entry}
use Rattle.repo_model.specs.Settings.{Settings}
use Rattle.run_desks.specs.Seen.{DeskResources}
use Rattle.course_laws.proofs.Endings.{serves_few}
use Rattle.repo_server.proofs.Entries.{leads_on}
use Rattle.repo_run.specs.Demo.{Answer, AreAnswered, IsAnswered}
use Rattle.repo_run.specs.DemoSteps.{Answers, IsCutShort, Shows, ShowsSome}
use Rattle.repo_run.proofs.Served.{most-few}

one-after : (n : ℕ) → n + 1 ≡ suc n
one-after n = omega arith

pub number-after : (from n number : ℕ) → number ≡ next (number_at from n) → number ≡ number_at from (n + 1)
number-after from n number is = is ∙ ap (number_at from) (sym (one-after n))

module _ (settings : Settings) (tells : Type 0) where
  -- none was answered yet
  pub none-shown : (from : ℕ) (core : Whole) (old : DeskResources) → Shows settings tells from 0 core core old old []
  none-shown from core old = ([], refl, (refl, refl, refl))

  -- one more is
  pub one-more : (from n number : ℕ) (core mid core' : Whole) (old between new : DeskResources) (answers : List Answer) (answer : Answer)
      → number ≡ next (number_at from n) → Shows settings tells from n core mid old between answers
      → Answers settings tells (request number (n + 1)) mid core' between new answer
      → Shows settings tells from (n + 1) core core' old new (answers ++ answer ∷ [])
  one-more from n number core mid core' old between new answers answer is shown answered =
      let place : n + 1 ≡ suc n = one-after n in
      let last = subst (λ (k : ℕ). IsAnswered settings tells (request number k) answered.0 between new answer) place answered.2 in
      let all : Shows settings tells from (suc n) core core' old new (answers ++ answer ∷ []) = (
        shown.0 ++ answered.0,
        leads_on (λ (before : Whole) (entry : Entry) (after : Whole). CoreTurn before.settings before entry after) shown.0 answered.0 core mid core' shown.1 answered.1,
        (shown.0, answered.0, between, answers, answer, refl, refl, shown.2, subst (λ (x : ℕ). IsAnswered settings tells (request x (suc n)) answered.0 between new answer) is last),
      ) in
      subst (λ (k : ℕ). Shows settings tells from k core core' old new (answers ++ answer ∷ [])) (sym place) all

  -- memory ran out at the next one
  pub cut-short : (from requests n number : ℕ) (core mid core' : Whole) (old between new : DeskResources) (answers : List Answer) → n < requests
      → number ≡ next (number_at from n) → Shows settings tells from n core mid old between answers
      → IsCutShort settings tells (request number (n + 1)) mid core' between new → ShowsSome settings tells from requests core core' old new
  cut-short from requests n number core mid core' old between new answers below is shown (inl same) = (
    n,
    omega (arith, below),
    answers,
    subst (λ (m : Whole). Shows settings tells from n core m old new answers) (sym same.0) (subst (λ (k : DeskResources). Shows settings tells from n core mid old k answers) (sym same.1) shown),
  )
  cut-short from requests n number core mid core' old between new answers below is shown (inr more) = (
    n + 1,
    omega (arith, below),
    answers ++ more.0 ∷ [],
    one-more from n number core mid core' old between new answers more.0 is shown more.1,
  )

  -- so many requests make few calls
  module _ (form : IsSettings settings) where
    pub shown-few : (from n : ℕ) (entries : List Entry) (old new : DeskResources) (answers : List Answer) → AreAnswered settings tells from n entries old new answers
        → length entries ≤ 65000 * n
    shown-few from zero entries old new answers none = let is = ap length none.0 in omega (arith, is)
    shown-few from (suc n) entries old new answers all =
        let last = all.8 in
        let few = serves_few tells settings 1000 all.1 _ _ all.4.ending last.serves in
        let before = shown-few from n all.0 old all.2 all.3 all.7 in
        let is = ap length all.5 ∙ length-append all.0 all.1 in
        let most = most-few settings form in
        omega (arith, few, before, is, most)
