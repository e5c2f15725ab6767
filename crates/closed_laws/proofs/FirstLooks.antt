-- A turn whose first command is a look reads the head of a GET or HEAD of that path.
use Rattle.std.proofs.Common.{◌≡◌, ℕ, Bool, true, false, List, [], ◌∷◌, ◌++◌, Option, Some, None, Result, Ok, Err, refl, sym, subst, ap, ◌∙◌}
use Rattle.http_wire.specs.Head.{Head}
use Rattle.mvn_coords.specs.declared.fault.Side.{Side}
use Rattle.mvn_digest.specs.Sides.{read_side}
use Rattle.mvn_doc.specs.Reading.{reading}
use Rattle.mvn_metadata.specs.Document.{Document}
use Rattle.repo_model.specs.Command.{Command, look, unlist, collect}
use Rattle.repo_model.specs.Data.{Place}
use Rattle.repo_model.specs.History.{Entry}
use Rattle.repo_model.specs.Settings.{Settings}
use Rattle.repo_routes.specs.Intent.{Intent, Judged, reads as reads_path, puts_side, puts_document, cleans as cleans_all}
use Rattle.repo_routes.specs.Judge.{judge}
use Rattle.repo_routes.specs.declared.judging.Refused.{Refused}
use Rattle.repo_course.specs.Course.{Body, Close, Course, Outcome, asks, does, says, stops, speaks, rests, after_continue, after_document, after_side, closes, compares, course_for, course_of, cut_off, invites, is_group, mode_for, notes, of_fault, of_pass, rounds_of}
use Rattle.repo_course.specs.declared.fetched.Verdict.TheVariants as verdict
use Rattle.repo_course.specs.declared.mode.ResponseMode.{ResponseMode}
use Rattle.repo_course.specs.declared.outcomes.Continued.{Continued}
use Rattle.repo_course.specs.declared.outcomes.Continued.TheVariants as continued
use Rattle.repo_course.specs.declared.outcomes.End.{End}
use Rattle.repo_course.specs.declared.response.Response.TheVariants.{NoMemory}
use Rattle.repo_course.specs.Serving.{Begins, Follows, IsWhole, Opens, clean, torn, failed, refused, unread_head, starved, served, Outside, RequestTurn}
use Rattle.course_laws.proofs.Passes.{ArePass, IsPassCommand, action-asks}
use Rattle.closed_laws.specs.Answered.{ReadShows, ShowsReply}
use Rattle.closed_laws.proofs.AnsweredReads.{looks-first, reply-seen}

abbrev IsLook : Command → Type 0
IsLook command = (repo : List ℕ) × (path : List ℕ) × (tried : List ℕ) × (command ≡ look repo path tried)

-- the first command of the course is no look
abbrev Unlooking : Course → Type 0
Unlooking (asks command next) = IsLook command → ⊥
Unlooking (does io_action next) = (outcome : Outcome io_action) → Unlooking (next outcome)
Unlooking (says said mode) = Unit {0}
Unlooking (stops end) = Unit {0}

pass-is-no-look : (command : Command) → IsPassCommand command → IsLook command → ⊥
pass-is-no-look (look repo path tried) asked looks = absurd asked
pass-is-no-look (unlist repo) asked looks = let is : unlist repo ≡ look looks.0 looks.1 looks.2 = looks.3 in absurd (cc)
pass-is-no-look collect asked looks = let is : collect ≡ look looks.0 looks.1 looks.2 = looks.3 in absurd (cc)
pass-is-no-look _ asked looks = absurd asked

-- what a pass asks first is no look, nor is what is asked after it
pass-first : (mine later : List Entry) (e : Entry) (more : List Entry) → ArePass mine → mine ++ later ≡ e ∷ more → IsLook e.command
    → (later ≡ e ∷ more → ⊥) → ⊥
pass-first [] later e more asked is looks behind = behind is
pass-first (d ∷ mine) later e more asked is looks behind =
    let same : d ≡ e = cc in pass-is-no-look e.command (subst (λ (x : Entry). IsPassCommand x.command) same asked.0) looks

module _ (tells : Type 0) where
  first-asked : (c : Course) → Unlooking c → (entries : List Entry) (e : Entry) (more : List Entry) → entries ≡ e ∷ more → IsLook e.command
      → (old new : Outside) (end : Option End) → Follows tells c entries old new end → ⊥
  first-asked (asks command next) un [] e more is looks old new end f = f
  first-asked (asks command next) un (d ∷ entries) e more is looks old new end f =
      let same : d ≡ e = cc in un (looks.0, looks.1, looks.2, sym f.0 ∙ ap (λ (x : Entry). x.command) same ∙ looks.3)
  first-asked (does io_action next) un entries e more is looks old new end f =
      pass-first f.1 f.2 e more (action-asks tells io_action f.0 f.1 old f.3 f.5) (sym f.4 ∙ is) looks
      (λ later-is. first-asked (next f.0) (un f.0) f.2 e more later-is looks f.3 new end f.6)
  first-asked (says said mode) un entries e more is looks old new end f = let none : e ∷ more ≡ [] = sym is ∙ f.0 in absurd (cc)
  first-asked (stops next) un entries e more is looks old new end f = let none : e ∷ more ≡ [] = sym is ∙ f.0 in absurd (cc)

-- only a read looks first
closes-unlooking : (mode : ResponseMode) (due : Close) → Unlooking (closes mode due)
closes-unlooking mode (speaks NoMemory) = tt
closes-unlooking mode (speaks _) = tt
closes-unlooking mode (rests end) = tt

compares-unlooking : (place : Place) (path : List ℕ) (mode : ResponseMode) (digest : Option (List ℕ)) → Unlooking (compares place path mode digest)
compares-unlooking place path mode (Some digest) = λ (looks : IsLook _). absurd (let is = looks.3 in cc)
compares-unlooking place path mode None = tt

notes-unlooking : (place : Place) (path : List ℕ) (mode : ResponseMode) (read : Result Document ℕ) → Unlooking (notes place path mode read)
notes-unlooking place path mode (Ok document) = λ (looks : IsLook _). absurd (let is = looks.3 in cc)
notes-unlooking place path mode (Err at) = tt

side-unlooking : (place : Place) (path : List ℕ) (side : Side) (mode : ResponseMode) (body : Body) → Unlooking (after_side place path side mode body)
side-unlooking place path side mode (Ok bytes) = compares-unlooking place path mode (read_side side bytes)
side-unlooking place path side mode (Err fault) = closes-unlooking mode (of_fault fault)

document-unlooking : (place : Place) (path : List ℕ) (mode : ResponseMode) (body : Body) → Unlooking (after_document place path mode body)
document-unlooking place path mode (Ok bytes) = notes-unlooking place path mode (reading bytes)
document-unlooking place path mode (Err fault) = closes-unlooking mode (of_fault fault)

invited-unlooking : (expects : Bool) (body : Course) → Unlooking body → Unlooking (invites expects cut_off body)
invited-unlooking false body un = un
invited-unlooking true body un = by-result
  where
    by-result : (result : Continued) → Unlooking (after_continue cut_off body result)
    by-result continued.Written = un
    by-result continued.SinkFault = tt

-- so it is of each intent but a read
abbrev IsOther : Intent → Type 0
IsOther (reads_path repo path of_sort) = ⊥
IsOther intent = Unit {0}

intent-unlooking : (mode : ResponseMode) (expects : Bool) (intent : Intent) → IsOther intent → Unlooking (course_for mode expects intent)
intent-unlooking mode expects (reads_path repo path of_sort) other = absurd other
intent-unlooking mode expects (puts_side place path side count) other = invited-unlooking expects _ (side-unlooking place path side mode)
intent-unlooking mode expects (puts_document place path count) other = invited-unlooking expects _ (document-unlooking place path mode)
intent-unlooking mode expects (cleans_all repos) other = λ pass. closes-unlooking mode (of_pass pass)
intent-unlooking mode expects _ other = λ (looks : IsLook _). absurd (let is = looks.3 in cc)

-- something was asked
not-none : {P : Type 0} (e : Entry) (more : List Entry) → e ∷ more ≡ [] → P
not-none e more none = absurd (cc)

module _ (settings : Settings) (tells : Type 0) (last : Bool) (e : Entry) (more : List Entry) (repo path tried : List ℕ) (looks : e.command ≡ look repo path tried) where
  module _ (old mid new : Outside) (end : Option End) where
    abbrev Goal : Type 0
    Goal = ReadShows settings last repo path (ShowsReply e.reply) old new end

    never : (d : Course) → Unlooking d → Follows tells d (e ∷ more) mid new end → Goal
    never d un f = absurd (first-asked tells d un (e ∷ more) e more refl (repo, path, tried, looks) mid new end f)

    module _ (head : Head) (left : Option (List ℕ)) (comes : Begins old.input (IsWhole head left)) (uses : mid ≡ record old { input = left }) where
      by-intent : (request : Judged) → judge settings head ≡ Ok request → (intent : Intent) → request.intent ≡ intent
          → Follows tells (course_for (mode_for request last) request.expects intent) (e ∷ more) mid new end → Goal
      by-intent request judged (reads_path r p of_sort) asks-it f =
          let first = looks-first tells (mode_for request last) (rounds_of of_sort) r p [] (verdict.Unasked (is_group of_sort)) in
          let g = subst (λ (d : Course). Follows tells d (e ∷ more) mid new end) first.1 f in
          let same : look r p [] ≡ look repo path tried = sym g.0 ∙ looks in
          let repo-is : r ≡ repo = cc in
          let path-is : p ≡ path = cc in
          record {
            head = head;
            left = left;
            request = request;
            comes = comes;
            judged = judged;
            sort = of_sort;
            asks = asks-it ∙ ap (λ (x : List ℕ). reads_path x p of_sort) repo-is ∙ ap (λ (x : List ℕ). reads_path repo x of_sort) path-is;
            shows = subst (λ (o : Outside). ShowsReply e.reply (mode_for request last) o new end) uses
                (reply-seen tells (mode_for request last) (is_group of_sort) first.0 e.reply more mid new end g.1);
          }
      by-intent request judged intent asks-it f =
          never (course_for (mode_for request last) request.expects intent) (intent-unlooking (mode_for request last) request.expects intent tt) f

      by-outcome : (outcome : Result Judged Refused) → judge settings head ≡ outcome → Follows tells (course_of outcome last) (e ∷ more) mid new end → Goal
      by-outcome (Ok request) judged f = by-intent request judged request.intent refl f
      by-outcome (Err cause) judged f = not-none e more f.0

  pub turn-answered : (old new : Outside) (end : Option End) → RequestTurn settings tells last (e ∷ more) old new end
      → ReadShows settings last repo path (ShowsReply e.reply) old new end
  turn-answered old new end (c, mid, o, f) = opened o
    where
      follows : (d : Course) → c ≡ d → Follows tells d (e ∷ more) mid new end
      follows d is = subst (λ (x : Course). Follows tells x (e ∷ more) mid new end) is f

      opened : Opens settings last old mid c → ReadShows settings last repo path (ShowsReply e.reply) old new end
      opened (clean it still is) = not-none e more (follows _ is).0
      opened (torn it still is) = not-none e more (follows _ is).0
      opened (failed faults rose still is) = not-none e more (follows _ is).0
      opened (refused fault it still is) = not-none e more (follows _ is).0
      opened (unread_head it still is) = not-none e more (follows _ is).0
      opened (starved head left it uses is) = not-none e more (follows _ is).0
      opened (served head left it uses is) = by-outcome old mid new end head left it uses (judge settings head) refl (follows _ is)
