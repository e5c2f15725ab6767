-- Steps one after another, and choices, by what they gave.
use Rattle.std.proofs.Common.{◌≡◌, Bool, true, false, cond, Option, Some, None, Result, Ok, Err, refl}
use Rattle.std.specs.Option.{ok_or}
use Rattle.mvn_coords.specs.declared.fault.PathFault.{PathFault}
use Rattle.mvn_coords.specs.FileName.{◌>>=◌}

-- what the first step gave
pub record Bound {A B : Type 0} (r : Result A PathFault) (f : A → Result B PathFault) (y : B) : Type 0 where
  pub value : A
  pub first : r ≡ Ok value
  pub next : f value ≡ Ok y

pub bound : {A B : Type 0} (r : Result A PathFault) (f : A → Result B PathFault) (y : B) → (r >>= f) ≡ Ok y → Bound r f y
bound (Ok x) f y h = record { value = x; first = refl; next = h }
bound (Err e) f y h = cc

-- which branch gave it
pub record Chosen {A : Type 0} (b : Bool) (x : A) (y : A) : Type 0 where
  pub test : b ≡ true
  pub value : x ≡ y

pub chosen : {A : Type 0} (b : Bool) (x : Result A PathFault) (e : PathFault) (y : A) → cond b x (Err e) ≡ Ok y → Chosen b x (Ok y)
chosen true x e y h = record { test = refl; value = h }
chosen false x e y h = cc

pub chosen_some : {A : Type 0} (b : Bool) (x : Option A) (y : A) → cond b x None ≡ Some y → Chosen b x (Some y)
chosen_some true x y h = record { test = refl; value = h }
chosen_some false x y h = cc

pub ok_or_some : {A : Type 0} (o : Option A) (e : PathFault) (x : A) → ok_or o e ≡ Ok x → o ≡ Some x
ok_or_some None e x h = cc
ok_or_some (Some y) e x h = cc

pub some_same : {A : Type 0} (x y : A) → Some x ≡ Some y → x ≡ y
some_same x y h = cc

pub ok_same : {A : Type 0} (x y : A) → ◌≡◌ {A = Result A PathFault} (Ok x) (Ok y) → x ≡ y
ok_same x y h = cc
