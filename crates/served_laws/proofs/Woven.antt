-- The entries of one caller stand in the history of all, in their order.
use Rattle.std.proofs.Common.{ℕ, Bool, true, false, ◌==◌, cond, List, [], ◌∷◌, map, refl, ap}
use Rattle.repo_model.specs.History.{Entry}
use Rattle.repo_course.specs.Asking.{LiesIn}
use Rattle.turn_lock.specs.declared.view.Entry.{Entry as Call}
use Rattle.turn_lock.specs.History.{entries_by}

lie-later : (e : Entry) (entries history : List Entry) → LiesIn entries history → LiesIn entries (e ∷ history)
lie-later e [] history lies = tt
lie-later e (entry ∷ entries) history (before, rest, parts, lies) = (e ∷ before, rest, ap (λ (h : List Entry). e ∷ h) parts, lies)

pub lie-by : {C R T : Type 0} (as_entry : Call C R T → Entry) (k : ℕ) (log : List (Call C R T)) → LiesIn (map as_entry (entries_by k log)) (map as_entry log)
lie-by as_entry k [] = tt
lie-by {C} {R} {T} as_entry k (call ∷ log) = by (call.by == k) (lie-by as_entry k log) where
  by : (b : Bool) → LiesIn (map as_entry (entries_by k log)) (map as_entry log)
      → LiesIn (map as_entry (cond b (call ∷ entries_by k log) (entries_by k log))) (as_entry call ∷ map as_entry log)
  by true lies = ([], map as_entry log, refl, lies)
  by false lies = lie-later (as_entry call) (map as_entry (entries_by k log)) (map as_entry log) lies
