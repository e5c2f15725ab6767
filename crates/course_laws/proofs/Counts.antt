-- The counts of faults never fall, so that where they stand still no fault happened.
use Rattle.std.proofs.Common.{ℕ, zero, suc, Bool, List, [], ◌∷◌, inl, inr, Option, Some, None, refl, sym, subst, arith}
use Rattle.std.specs.Prelude.{◌==◌}
use Rattle.http_wire.specs.declared.answers.Answer.{Answer}
use Rattle.repo_model.specs.History.{Entry}
use Rattle.repo_model.specs.Settings.{Settings}
use Rattle.repo_course.specs.Answers.{answer_of, memory_answer}
use Rattle.repo_course.specs.Course.{Course, IoAction, Outcome, asks, does, says, stops, end_of}
use Rattle.repo_course.specs.declared.outcomes.End.{End}
use Rattle.repo_course.specs.Serving.{Does, Says, whole, memory, cut, Follows, Opens, clean, torn, failed, refused, unread_head, starved, served, Outside, ReadsOn, ServesStream, RequestTurn}
pub use Rattle.course_laws.proofs.Rising.{NoneFell, Calm, not-risen, rose-before, calm-first, calm-then, grew, grew-then, from-is, still-grew, risen, Quiet, quiet-first, quiet-then, no-write-fault, no-blob-fault, no-read-fault}
use Rattle.course_laws.proofs.IoActions.{action-changes, sides-grew}
use Rattle.repo_course.specs.IoActions.{sequel}

reads-grew : (old new : Outside) → ReadsOn old new → NoneFell old new
reads-grew old new t = from-is old (record old { input = t.0 }) new (grew old (record old { input = t.0 }) refl refl refl refl) t.1

pub says-grew : (answer memory_said : Answer) (next : Option End) (old new : Outside) (end : Option End) → Says answer memory_said next old new end
    → NoneFell old new
says-grew answer memory_said next old new end (whole is ends) = subst (λ o. NoneFell old o) (sym is) (grew old _ refl refl refl refl)
says-grew answer memory_said next old new end (memory is ends) = subst (λ o. NoneFell old o) (sym is) (grew old _ refl refl refl refl)
says-grew answer memory_said next old new end (cut faults all part rose which front is ends) =
    subst (λ o. NoneFell old o) (sym is) (record { reads = omega arith; writes = rose.0; blobs = omega arith; remote = omega arith })

pub opens-grew : (settings : Settings) (last : Bool) (old new : Outside) (c : Course) → Opens settings last old new c → NoneFell old new
opens-grew settings last old new c (clean begins still is) = still-grew old new still
opens-grew settings last old new c (torn begins still is) = still-grew old new still
opens-grew settings last old new c (failed faults rose still is) =
    let mid : Outside = record old { read_faults = faults } in
    from-is old mid new (record { reads = rose.0; writes = omega arith; blobs = omega arith; remote = omega arith }) still
opens-grew settings last old new c (refused fault begins still is) = still-grew old new still
opens-grew settings last old new c (unread_head begins still is) = still-grew old new still
opens-grew settings last old new c (starved head rest begins uses is) = reads-grew old new (rest, uses)
opens-grew settings last old new c (served head rest begins uses is) = reads-grew old new (rest, uses)

module _ (tells : Type 0) where
  pub action-grew : (io_action : IoAction) (outcome : Outcome io_action) (mine : List Entry) (old new : Outside) → Does tells io_action outcome mine old new → NoneFell old new
  action-grew io_action outcome mine old new t =
      let c = action-changes tells io_action outcome mine old new t in
      let sides = sides-grew (sequel io_action outcome) old new c.sides in
      record { reads = sides.0; writes = sides.1; blobs = c.blobs; remote = c.remote.faults }

  pub follows-grew : (c : Course) (entries : List Entry) (old new : Outside) (end : Option End) → Follows tells c entries old new end → NoneFell old new
  follows-grew (asks command next) [] old new end f = absurd f
  follows-grew (asks command next) (e ∷ entries) old new end f = follows-grew (next e.reply) entries old new end f.1
  follows-grew (does io_action next) entries old new end f =
      grew-then old f.3 new (action-grew io_action f.0 f.1 old f.3 f.5) (follows-grew (next f.0) f.2 f.3 new end f.6)
  follows-grew (says said mode) entries old new end f =
      says-grew (answer_of said mode) (memory_answer mode.head_only) (end_of mode) old new end f.1
  follows-grew (stops next) entries old new end f = still-grew old new f.1

  module _ (settings : Settings) where
    pub turn-grew : (last : Bool) (entries : List Entry) (old new : Outside) (end : Option End) → RequestTurn settings tells last entries old new end
        → NoneFell old new
    turn-grew last entries old new end t =
        grew-then old t.1 new (opens-grew settings last old t.1 t.0 t.2) (follows-grew t.0 entries t.1 new end t.3)

    pub serves-grew : (n : ℕ) (entries : List Entry) (old new : Outside) (end : End) → ServesStream settings tells n entries old new end → NoneFell old new
    unfolding ServesStream
    serves-grew zero entries old new end t = still-grew old new t.1
    serves-grew (suc left) entries old new end (inl turn) = turn-grew (left == 0) entries old new (Some end) turn
    serves-grew (suc left) entries old new end (inr t) =
        grew-then old t.2 new (turn-grew (left == 0) t.0 old t.2 None t.4) (serves-grew left t.1 t.2 new end t.5)
