-- A history of many callers' entries, of which those of one caller are marked as its own.
use Rattle.std.specs.Prelude.{◌≡◌, Bool, true, false, cond, List, [], ◌∷◌, ◌++◌, map}
use Rattle.repo_model.specs.History.{Entry}

pub record Mark : Type 0 where
  pub own : Bool
  pub entry : Entry

abbrev pub own_entry : Entry → Mark
own_entry e = record { own = true; entry = e }

abbrev pub others_entry : Entry → Mark
others_entry e = record { own = false; entry = e }

-- the whole history, and the caller's own entries in it
abbrev pub entries_of : List Mark → List Entry
entries_of marks = map (λ (m : Mark). m.entry) marks

abbrev pub own_of : List Mark → List Entry
own_of [] = []
own_of (m ∷ marks) = cond m.own (m.entry ∷ own_of marks) (own_of marks)

-- where one of the caller's entries stands, between these of its own
pub record IsAt (marks : List Mark) (front : List Entry) (e : Entry) (rest : List Entry) : Type 0 where
  pub before : List Mark
  pub behind : List Mark
  pub place : marks ≡ before ++ own_entry e ∷ behind
  pub lie : own_of before ≡ front
  pub follow : own_of behind ≡ rest
