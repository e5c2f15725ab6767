-- What holds of each command that a course asks, by where it stands then and what is seen outside.
use Rattle.std.proofs.Common.{◌≡◌, zero, suc, ℕ, List, [], ◌∷◌, Option, sym, subst}
use Rattle.std.specs.List.{AllByRecursion}
use Rattle.repo_model.specs.Command.{Command}
use Rattle.repo_model.specs.History.{Entry}
use Rattle.repo_model.specs.Reply.{Reply}
use Rattle.repo_course.specs.Course.{Close, Course, IoAction, Outcome, asks, does, says, stops}
use Rattle.repo_course.specs.declared.mode.ResponseMode.{ResponseMode}
use Rattle.repo_course.specs.declared.outcomes.End.{End}
use Rattle.repo_course.specs.Serving.{Does, Follows, Outside}
use Rattle.course_laws.specs.Duties.{Keeps, MayAsk, MayDo, Stand, left_by, stand_after, stand_done}
use Rattle.course_laws.proofs.Alls.{all-joined}
use Rattle.course_laws.proofs.Passes.{ArePass, IsPassCommand, action-asks}

-- Inv is kept by each reply and each I/O action, and gives what holds of a command that may be asked; a pass has that anyway.
module _ (tells : Type 0) (Here : Command → Type 0) (Inv : Stand → Outside → Type 0)
    (of_pass : (command : Command) → IsPassCommand command → Here command)
    (asked : (command : Command) (s : Stand) (o : Outside) → MayAsk command s → Inv s o → Here command)
    (replied : (command : Command) (reply : Reply) (s : Stand) (o : Outside) → MayAsk command s → Inv s o → Inv (stand_after command reply s) o)
    (by_text : List ℕ → Option Close) (mode : ResponseMode)
    (did : (io_action : IoAction) (outcome : Outcome io_action) (mine : List Entry) (s : Stand) (old new : Outside) → MayDo mode io_action s → Does tells io_action outcome mine old new → Inv s old
    → Inv (stand_done by_text io_action outcome s) new) where
  abbrev AllHere : List Entry → Type 0
  AllHere entries = AllByRecursion (λ (e : Entry). Here e.command) entries

  all-pass : (mine : List Entry) → ArePass mine → AllHere mine
  all-pass [] are = tt
  all-pass (e ∷ mine) are = (of_pass e.command are.0, all-pass mine are.1)

  pub follows-each : (c : Course) (n : ℕ) (s : Stand) → Keeps by_text mode c n s → (entries : List Entry) (old new : Outside) (end : Option End) → Inv s old
      → Follows tells c entries old new end → AllHere entries
  follows-each (asks command next) zero s k [] old new end inv f = absurd f
  follows-each (asks command next) zero s k (e ∷ entries) old new end inv f = absurd k
  follows-each (asks command next) (suc n) s k [] old new end inv f = absurd f
  follows-each (asks command next) (suc n) s k (e ∷ entries) old new end inv f = (
    subst Here (sym f.0) (asked command s old k.0 inv),
    follows-each (next e.reply) n (stand_after command e.reply s) (k.1 e.reply) entries old new end (replied command e.reply s old k.0 inv) f.1,
  )
  follows-each (does io_action next) n s k entries old new end inv f =
      subst AllHere (sym f.4)
      (all-joined (λ (e : Entry). Here e.command) f.1 f.2 (all-pass f.1 (action-asks tells io_action f.0 f.1 old f.3 f.5))
      (follows-each (next f.0) (left_by io_action n) (stand_done by_text io_action f.0 s) (k.2 f.0) f.2 f.3 new end (did io_action f.0 f.1 s old f.3 k.0 f.5 inv) f.6))
  follows-each (says said own) n s k entries old new end inv f = subst AllHere (sym f.0) tt
  follows-each (stops next) n s k entries old new end inv f = subst AllHere (sym f.0) tt
