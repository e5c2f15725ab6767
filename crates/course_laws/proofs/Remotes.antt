-- What is seen of the remotes goes on: exchanges are added, and none is lost.
use Rattle.std.proofs.Common.{ℕ, zero, suc, Bool, List, [], ◌∷◌, inl, inr, Option, Some, None, ap}
use Rattle.std.specs.Prelude.{◌==◌}
use Rattle.http_wire.specs.declared.answers.Answer.{Answer}
use Rattle.repo_model.specs.History.{Entry}
use Rattle.repo_model.specs.Settings.{Settings}
use Rattle.repo_course.specs.Answers.{answer_of, memory_answer}
use Rattle.repo_course.specs.Course.{Course, IoAction, Outcome, asks, does, says, stops, end_of}
use Rattle.repo_course.specs.declared.outcomes.End.{End}
use Rattle.repo_course.specs.Serving.{Does, Follows, Opens, clean, torn, failed, refused, unread_head, starved, served, Outside, Says, whole, memory, cut, ServesStream, RequestTurn}
use Rattle.course_laws.specs.Landed.{GoesOn}
pub use Rattle.course_laws.proofs.Fetching.{after-none, goes-on, goes-then, Still, still-goes, fetched-goes, unfetched-goes, fetches-go}
use Rattle.course_laws.proofs.IoActions.{action-changes}

pub says-still : (answer memory_said : Answer) (next : Option End) (old new : Outside) (end : Option End) → Says answer memory_said next old new end → Still old new
says-still answer memory_said next old new end (whole is ends) = ap (λ (o : Outside). o.remote) is
says-still answer memory_said next old new end (memory is ends) = ap (λ (o : Outside). o.remote) is
says-still answer memory_said next old new end (cut faults all part rose which front is ends) = ap (λ (o : Outside). o.remote) is

pub opens-still : (settings : Settings) (last : Bool) (old new : Outside) (c : Course) → Opens settings last old new c → Still old new
opens-still settings last old new c (clean begins still is) = ap (λ (o : Outside). o.remote) still
opens-still settings last old new c (torn begins still is) = ap (λ (o : Outside). o.remote) still
opens-still settings last old new c (failed faults rose still is) = ap (λ (o : Outside). o.remote) still
opens-still settings last old new c (refused fault begins still is) = ap (λ (o : Outside). o.remote) still
opens-still settings last old new c (unread_head begins still is) = ap (λ (o : Outside). o.remote) still
opens-still settings last old new c (starved head rest begins uses is) = ap (λ (o : Outside). o.remote) uses
opens-still settings last old new c (served head rest begins uses is) = ap (λ (o : Outside). o.remote) uses

module _ (tells : Type 0) where
  pub action-goes : (io_action : IoAction) (outcome : Outcome io_action) (mine : List Entry) (old new : Outside) → Does tells io_action outcome mine old new → GoesOn old.remote new.remote
  action-goes io_action outcome mine old new t = (action-changes tells io_action outcome mine old new t).remote

  pub follows-go : (c : Course) (entries : List Entry) (old new : Outside) (end : Option End) → Follows tells c entries old new end → GoesOn old.remote new.remote
  follows-go (asks command next) [] old new end f = absurd f
  follows-go (asks command next) (e ∷ entries) old new end f = follows-go (next e.reply) entries old new end f.1
  follows-go (does io_action next) entries old new end f =
      goes-then old.remote f.3.remote new.remote (action-goes io_action f.0 f.1 old f.3 f.5) (follows-go (next f.0) f.2 f.3 new end f.6)
  follows-go (says said mode) entries old new end f =
      still-goes old new (says-still (answer_of said mode) (memory_answer mode.head_only) (end_of mode) old new end f.1)
  follows-go (stops next) entries old new end f = still-goes old new (ap (λ (o : Outside). o.remote) f.1)

  module _ (settings : Settings) where
    pub turn-goes : (last : Bool) (entries : List Entry) (old new : Outside) (end : Option End) → RequestTurn settings tells last entries old new end → GoesOn old.remote new.remote
    turn-goes last entries old new end t =
        goes-then old.remote t.1.remote new.remote (still-goes old t.1 (opens-still settings last old t.1 t.0 t.2)) (follows-go t.0 entries t.1 new end t.3)

    pub serves-go : (n : ℕ) (entries : List Entry) (old new : Outside) (end : End) → ServesStream settings tells n entries old new end → GoesOn old.remote new.remote
    unfolding ServesStream
    serves-go zero entries old new end t = still-goes old new (ap (λ (o : Outside). o.remote) t.1)
    serves-go (suc left) entries old new end (inl turn) = turn-goes (left == 0) entries old new (Some end) turn
    serves-go (suc left) entries old new end (inr t) =
        goes-then old.remote t.2.remote new.remote (turn-goes (left == 0) t.0 old t.2 None t.4) (serves-go left t.1 t.2 new end t.5)
