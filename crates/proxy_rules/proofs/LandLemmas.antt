-- What is found, and what follows of what a call gave.
use Rattle.std.proofs.Common.{◌≡◌, true, false, Option, Some, None, Result, Ok, Err, refl, sym}
use Rattle.std.specs.Prelude.{IfOk, is_some}
use Rattle.std.specs.Option.{option_map}
use Rattle.std.proofs.lemmas.Bool.{false≢true}

-- a found thing is there, and one that is not found is not
pub some-there : {A B : Type 0} (f : A → B) (o : Option A) (found : Option B) → option_map f o ≡ found → is_some o ≡ true → (y : B) × (found ≡ Some y)
some-there f None found is some = absurd (false≢true some)
some-there f (Some x) found is some = (f x, sym is)

pub none-there : {A B : Type 0} (f : A → B) (o : Option A) (found : Option B) → option_map f o ≡ found → is_some o ≡ false → found ≡ None
none-there f None found is none = sym is
none-there f (Some x) found is none = absurd (false≢true (sym none))

-- what follows of what a call gave
pub if-ok : {A B : Type 0} {P Q : A → Type 0} (r : Result A B) → ((x : A) → P x → Q x) → IfOk r P → IfOk r Q
if-ok (Ok x) f h = f x h
if-ok (Err e) f h = tt

pub none-found : {A : Type 0} (o : Option A) → is_some o ≡ false → o ≡ None
none-found None is = refl
none-found (Some x) is = absurd (false≢true (sym is))
