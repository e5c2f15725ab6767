-- A sequential history of one object, call by call, and when it is legal (Herlihy and Wing, "Linearizability", 1990, section 2).
use Rattle.std.specs.Prelude.{◌≡◌, ℕ, ◌+◌, ◌≤◌, List, [], ◌∷◌, ◌++◌, cond, ◌==◌}
use Rattle.turn_lock.specs.declared.view.Entry.{Entry}

-- one step of an object: the call may be asked of it, and the reply and the object after it are those of one turn
abbrev pub IsStep : {C R T F : Type 0} → (T → F) → (F → C → Type 0) → (T → C → R → T → Type 0) → T → C → R → T → Type 0
IsStep fixed may_ask turned before call reply after = may_ask (fixed before) call × turned before call reply after

module _ {C R T : Type 0} where
  -- each entry is one step of the object that the entries before it leave
  abbrev pub Legal : (T → C → R → T → Type 0) → T → List (Entry C R T) → Type 0
  Legal steps opening [] = Unit {0}
  Legal steps opening (e ∷ es) = steps opening e.call e.reply e.after × Legal steps e.after es

  -- each call is so
  abbrev pub EachCall : (C → Type 0) → List (Entry C R T) → Type 0
  EachCall P [] = Unit {0}
  EachCall P (e ∷ es) = P e.call × EachCall P es

  -- the object as the last entry leaves it
  abbrev pub end_of : T → List (Entry C R T) → T
  end_of opening [] = opening
  end_of opening (e ∷ es) = end_of e.after es

  -- the entries of one caller, in order
  abbrev pub entries_by : ℕ → List (Entry C R T) → List (Entry C R T)
  entries_by k [] = []
  entries_by k (e ∷ es) = cond (e.by == k) (e ∷ entries_by k es) (entries_by k es)

  -- the history goes on from what was seen
  abbrev pub BeginsWith : List (Entry C R T) → List (Entry C R T) → Type 0
  BeginsWith log seen = (rest : List (Entry C R T)) × (log ≡ seen ++ rest)

  -- how often the number stands in these accounts
  abbrev pub times : ℕ → List (ℕ × List (Entry C R T)) → ℕ
  times k [] = 0
  times k (p ∷ ps) = cond (p.0 == k) 1 0 + times k ps

  -- each number's account is its entries
  abbrev pub AllKept : List (Entry C R T) → List (ℕ × List (Entry C R T)) → Type 0
  AllKept log [] = Unit {0}
  AllKept log (p ∷ ps) = (p.1 ≡ entries_by p.0 log) × AllKept log ps

  -- no number has two accounts
  abbrev pub AllOnce : List (ℕ × List (Entry C R T)) → Type 0
  AllOnce ps = (k : ℕ) → times k ps ≤ 1

  -- only numbers below this one have an account
  abbrev pub AllBelow : ℕ → List (ℕ × List (Entry C R T)) → Type 0
  AllBelow n ps = (k : ℕ) → n ≤ k → times k ps ≡ 0
