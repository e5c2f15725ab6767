-- A request whose head is refused asks nothing, and is answered why.
use Rattle.std.proofs.Common.{◌≡◌, ℕ, Bool, false, List, [], Option, Some, Result, Err, sym, subst, ap, ◌∙◌}
use Rattle.std.proofs.lemmas.Bool.{false≢true}
use Rattle.outside.specs.Faults.{Rose}
use Rattle.http_wire.specs.Front.{Front, Clean, Cut, Bad, Whole, front}
use Rattle.http_wire.specs.Head.{Head}
use Rattle.repo_model.specs.History.{Entry}
use Rattle.repo_model.specs.Settings.{Settings}
use Rattle.repo_routes.specs.Framing.{is_head}
use Rattle.repo_routes.specs.Intent.{Judged}
use Rattle.repo_routes.specs.Judge.{judge}
use Rattle.repo_routes.specs.declared.judging.Refused.{Refused}
use Rattle.repo_course.specs.Course.{Course, course_of}
use Rattle.repo_course.specs.declared.outcomes.End.{End}
use Rattle.repo_course.specs.Serving.{Begins, Follows, IsWhole, Opens, clean, torn, failed as source_failed, refused as no_head, unread_head, starved as head_starved, served, Outside, RequestTurn}
use Rattle.course_laws.specs.Duties.{duty_of}
use Rattle.course_laws.proofs.HeadOnly.{judged-head}
use Rattle.course_laws.specs.Refusals.{IsRefusedBy, answered, starved, failed}

module _ (settings : Settings) (tells : Type 0) (last : Bool) where
  pub turn-refused : (entries : List Entry) (old new : Outside) (end : Option End) (input rest : List ℕ) (head : Head) (cause : Refused)
      → RequestTurn settings tells last entries old new end → old.input ≡ Some input → front input ≡ Whole head rest → judge settings head ≡ Err cause
      → (entries ≡ []) × IsRefusedBy cause last old new end
  turn-refused entries old new end input rest head cause (c, mid, o, f) input-is front-is judged = opened o
    where
      begins : (P : Front → Type 0) → Begins old.input P → P (Whole head rest)
      begins P it = subst P front-is (subst (λ (i : Option (List ℕ)). Begins i P) input-is it)

      follows : (d : Course) → c ≡ d → Follows tells d entries mid new end
      follows d is = subst (λ (e : Course). Follows tells e entries mid new end) is f

      opened : Opens settings last old mid c → (entries ≡ []) × IsRefusedBy cause last old new end
      opened (clean it still is) = let what : Whole head rest ≡ Clean = begins (λ w. w ≡ Clean) it in absurd (cc)
      opened (torn it still is) = let what : Whole head rest ≡ Cut = begins (λ w. w ≡ Cut) it in absurd (cc)
      opened (source_failed faults rose still is) =
          let ends = follows _ is in (
            ends.0,
            failed (subst (λ n. Rose old.read_faults n) (sym (ap (λ o. o.read_faults) ends.1 ∙ ap (λ o. o.read_faults) still)) rose)
                (ap (λ o. o.output) ends.1 ∙ ap (λ o. o.output) still) ends.2,
          )
      opened (no_head fault it still is) = let what : Whole head rest ≡ Bad fault = begins (λ w. w ≡ Bad fault) it in absurd (cc)
      opened (unread_head it still is) = let said = follows _ is in (said.0, starved mid false (λ alone. absurd (false≢true alone)) (old.input, still) said.1)
      opened (head_starved other left it uses is) =
          let said = follows _ is in
          let same : head ≡ other = (begins (IsWhole other left) it).0 in
          let head-is : cause.head_only ≡ is_head other =
          ap (λ (r : Result Judged Refused). (duty_of r last).mode.head_only) (sym judged) ∙ judged-head settings head last ∙ ap is_head same in
          (said.0, starved mid (is_head other) (λ alone. head-is ∙ alone) (left, uses) said.1)
      opened (served other left it uses is) =
          let same : head ≡ other = (begins (IsWhole other left) it).0 in
          let course-is : c ≡ course_of (Err cause) last = is ∙ ap (λ (r : Result Judged Refused). course_of r last) (ap (judge settings) (sym same) ∙ judged) in
          let said = follows (course_of (Err cause) last) course-is in (said.0, answered mid (left, uses) said.1)
