-- A GET or HEAD is answered by the reply to its look.
use Rattle.std.proofs.Common.{◌≡◌, ℕ, zero, suc, Bool, false, List, [], ◌∷◌, Option, Some, Result, Ok, refl, sym, subst, ap, ◌∙◌}
use Rattle.std.proofs.lemmas.Bool.{false≢true}
use Rattle.fetch_plan.specs.declared.Plan.{Plan}
use Rattle.outside.specs.Faults.{Rose}
use Rattle.http_wire.specs.Answer.{shown}
use Rattle.http_wire.specs.Front.{Front, Clean, Cut, Bad, Whole, front}
use Rattle.http_wire.specs.Head.{Head}
use Rattle.repo_model.specs.Command.{done, look}
use Rattle.repo_model.specs.Data.{Blob}
use Rattle.repo_model.specs.History.{Entry}
use Rattle.repo_model.specs.Reply.{Reply, file, missed, fetches}
use Rattle.repo_model.specs.Settings.{Settings}
use Rattle.repo_routes.specs.Framing.{is_head}
use Rattle.repo_routes.specs.Intent.{Judged, reads}
use Rattle.repo_routes.specs.Judge.{judge}
use Rattle.repo_routes.specs.declared.intent.Sort.{Sort}
use Rattle.repo_routes.specs.declared.judging.Refused.{Refused}
use Rattle.repo_course.specs.Answers.{file_answer}
use Rattle.repo_course.specs.Course.{Course, asks, after_look, closes, course_for, course_of, is_group, looks, mode_for, of_sent, rounds_of, sends_file}
use Rattle.repo_course.specs.declared.fetched.Verdict.{Verdict}
use Rattle.repo_course.specs.declared.fetched.Verdict.TheVariants as verdict
use Rattle.repo_course.specs.declared.mode.ResponseMode.{ResponseMode}
use Rattle.repo_course.specs.declared.outcomes.End.{End}
use Rattle.repo_course.specs.declared.outcomes.Sent.{Sent}
use Rattle.repo_course.specs.declared.outcomes.Sent.TheVariants as sent
use Rattle.repo_course.specs.declared.response.Response.TheVariants as response
use Rattle.repo_course.specs.Serving.{Begins, Follows, IsWhole, Opens, clean, torn, failed as source_failed, refused as no_head, unread_head, starved as head_starved, served, Outside, SendsAnswer, RequestTurn}
use Rattle.course_laws.specs.Duties.{duty_of}
use Rattle.course_laws.proofs.HeadOnly.{judged-head}
use Rattle.course_laws.proofs.Sendings.{cut-by-fault, cut-by-other, not-sent, other-found, sent-in-part, sent-nothing, sent-whole}
use Rattle.closed_laws.specs.Answered.{IsLookedUp, looked, unread, failed, ShowsFile, whole, blob_fault, blob_differs, cut_by_fault, cut_by_other, starved, cut, ShowsMemory, ShowsReply, ShowsResponse}

-- what is seen of an entry by its reply
abbrev pub By : Entry → ResponseMode → Outside → Outside → Option End → Type 0
By e = ShowsReply e.reply

module _ (tells : Type 0) (mode : ResponseMode) where
  -- a file that is sent, once its lease is given back
  sent-seen : (blob : Blob) (result : Sent) (rest : List Entry) (old mid new : Outside) (end : Option End)
      → SendsAnswer mode.head_only blob (shown (file_answer blob mode)) result old mid → Follows tells (closes mode (of_sent mode result)) rest mid new end
      → ShowsFile mode blob old new end
  sent-seen blob sent.Whole rest old mid new end t f =
      let w = sent-whole mode.head_only blob (shown (file_answer blob mode)) old mid t in whole w.0 w.1 (f.1 ∙ w.2) f.2
  sent-seen blob sent.BlobFault rest old mid new end t f =
      let w = not-sent mode.head_only blob (shown (file_answer blob mode)) old mid t in
      blob_fault w.0 w.1 w.2 (subst (λ (o : Outside). ShowsResponse mode response.BlobFault o new end) w.3 f.1)
  sent-seen blob (sent.BlobDiffers recorded found) rest old mid new end t f =
      let w = other-found mode.head_only blob (shown (file_answer blob mode)) recorded found old mid t in
      blob_differs recorded found w.0 w.1 (subst (λ (o : Outside). ShowsResponse mode (response.BlobDiffers recorded found) o new end) w.2 f.1)
  sent-seen blob sent.SinkFault rest old mid new end t f =
      let w = sent-in-part mode.head_only blob (shown (file_answer blob mode)) old mid t in
      cut w.0 w.1 w.2 w.3 w.4 w.5 (f.1 ∙ w.6) f.2
  sent-seen blob sent.CutFault rest old mid new end t f =
      let w = cut-by-fault mode.head_only blob (shown (file_answer blob mode)) old mid t in
      cut_by_fault w.0 w.1 w.2 w.3 w.4 w.5 w.6 (f.1 ∙ w.7) f.2
  sent-seen blob (sent.CutDiffers recorded found) rest old mid new end t f =
      let w = cut-by-other mode.head_only blob (shown (file_answer blob mode)) recorded found old mid t in
      cut_by_other recorded found w.0 w.1 w.2 w.3 w.4 w.5 (f.1 ∙ w.6) f.2
  sent-seen blob sent.NoMemory rest old mid new end t f =
      let still = sent-nothing mode.head_only blob (shown (file_answer blob mode)) old mid t in
      starved (subst (λ (o : Outside). ShowsMemory mode.head_only o new end) still f.1)

  file-seen : (lease : ℕ) (blob : Blob) (more : List Entry) (old new : Outside) (end : Option End)
      → Follows tells (sends_file mode lease blob) more old new end → ShowsFile mode blob old new end
  file-seen lease blob more old new end f = behind f.2 f.6
    where
      behind : (later : List Entry) → Follows tells (asks (done lease) (λ reply. closes mode (of_sent mode f.0))) later f.3 new end → ShowsFile mode blob old new end
      behind [] g = absurd g
      behind (back ∷ rest) g = sent-seen blob f.0 rest old f.3 new end f.5.1 g.1

  pub reply-seen : (of_group : Bool) (behind : Plan → Course) (reply : Reply) (more : List Entry) (old new : Outside) (end : Option End)
      → Follows tells (after_look mode (verdict.Unasked of_group) behind reply) more old new end → ShowsReply reply mode old new end
  reply-seen of_group behind (file lease blob) more old new end f = file-seen lease blob more old new end f
  reply-seen of_group behind (fetches plan) more old new end f = tt
  reply-seen of_group behind missed more old new end f = f.1
  reply-seen of_group behind _ more old new end f = f.1

  -- whatever may be fetched, a look comes first
  pub looks-first : (rounds : ℕ) (repo path tried : List ℕ) (so_far : Verdict)
      → (behind : Plan → Course) × (looks mode rounds repo path tried so_far ≡ asks (look repo path tried) (after_look mode so_far behind))
  looks-first zero repo path tried so_far = (_, refl)
  looks-first (suc n) repo path tried so_far = (_, refl)

  read-looked : (of_group : Bool) (behind : Plan → Course) (repo path rest : List ℕ) (entries : List Entry) (old mid new : Outside) (end : Option End)
      → mid ≡ record old { input = Some rest } → Follows tells (asks (look repo path []) (after_look mode (verdict.Unasked of_group) behind)) entries mid new end
      → IsLookedUp repo path By mode rest entries old new end
  read-looked of_group behind repo path rest [] old mid new end mid-is f = absurd f
  read-looked of_group behind repo path rest (e ∷ more) old mid new end mid-is f =
      looked e more refl f.0 (subst (λ (o : Outside). ShowsReply e.reply mode o new end) mid-is (reply-seen of_group behind e.reply more mid new end f.1))

module _ (settings : Settings) (tells : Type 0) (last : Bool) where
  pub turn-looked : (entries : List Entry) (old new : Outside) (end : Option End) (input rest repo path : List ℕ) (of_sort : Sort) (head : Head) (request : Judged)
      → RequestTurn settings tells last entries old new end → old.input ≡ Some input → front input ≡ Whole head rest → judge settings head ≡ Ok request
      → request.intent ≡ reads repo path of_sort → IsLookedUp repo path By (mode_for request last) rest entries old new end
  turn-looked entries old new end input rest repo path of_sort head request (c, mid, o, f) input-is front-is judged asks-it = opened o
    where
      mode : ResponseMode
      mode = mode_for request last

      begins : (P : Front → Type 0) → Begins old.input P → P (Whole head rest)
      begins P it = subst P front-is (subst (λ (i : Option (List ℕ)). Begins i P) input-is it)

      follows : (d : Course) → c ≡ d → Follows tells d entries mid new end
      follows d is = subst (λ (e : Course). Follows tells e entries mid new end) is f

      opened : Opens settings last old mid c → IsLookedUp repo path By mode rest entries old new end
      opened (clean it still is) = let what : Whole head rest ≡ Clean = begins (λ w. w ≡ Clean) it in absurd (cc)
      opened (torn it still is) = let what : Whole head rest ≡ Cut = begins (λ w. w ≡ Cut) it in absurd (cc)
      opened (source_failed faults rose still is) =
          let ends = follows _ is in
          failed ends.0 (subst (λ n. Rose old.read_faults n) (sym (ap (λ o. o.read_faults) ends.1 ∙ ap (λ o. o.read_faults) still)) rose)
          (ap (λ o. o.output) ends.1 ∙ ap (λ o. o.output) still) ends.2
      opened (no_head fault it still is) = let what : Whole head rest ≡ Bad fault = begins (λ w. w ≡ Bad fault) it in absurd (cc)
      opened (unread_head it still is) = let said = follows _ is in unread mid false (λ alone. absurd (false≢true alone)) said.0 (old.input, still) said.1
      opened (head_starved other left it uses is) =
          let said = follows _ is in
          let same : head ≡ other = (begins (IsWhole other left) it).0 in
          let head-is : request.head_only ≡ is_head other =
          ap (λ (r : Result Judged Refused). (duty_of r last).mode.head_only) (sym judged) ∙ judged-head settings head last ∙ ap is_head same in
          unread mid (is_head other) (λ alone. head-is ∙ alone) said.0 (left, uses) said.1
      opened (served other left it uses is) =
          let both = begins (IsWhole other left) it in
          let same : head ≡ other = both.0 in
          let course-is : c ≡ course_for mode request.expects (reads repo path of_sort) =
          is ∙ ap (λ (r : Result Judged Refused). course_of r last) (ap (judge settings) (sym same) ∙ judged) ∙ ap (course_for mode request.expects) asks-it in
          let first = looks-first tells mode (rounds_of of_sort) repo path [] (verdict.Unasked (is_group of_sort)) in
          read-looked tells mode (is_group of_sort) first.0 repo path rest entries old mid new end (uses ∙ ap (λ (i : Option (List ℕ)). record old { input = i }) both.1)
          (follows _ (course-is ∙ first.1))
