-- Steps of judging, one after another up to the first that refuses, and what a call gives that follows them.
use Rattle.std.specs.Prelude.{◌≡◌, Bool, if◌then◌else◌, Result, Ok, Err}
use Rattle.repo_routes.specs.declared.refusal.Refusal.{Refusal}
use Rattle.repo_routes.specs.declared.fault.Fault as code
use Rattle.repo_routes.specs.declared.fault.Fault.TheVariants as fault

infixl 10 ◌>>=◌
abbrev pub ◌>>=◌ : {A B : Type 0} → Result A Refusal → (A → Result B Refusal) → Result B Refusal
(Ok value) >>= next = next value
(Err cause) >>= next = Err cause

-- a step that gives nothing but leave to go on
infixl 10 ◌>>◌
abbrev pub ◌>>◌ : {A B : Type 0} → Result A Refusal → Result B Refusal → Result B Refusal
step >> next = step >>= λ _. next

-- the step goes on where the test holds, and else it refuses
abbrev pub need : Bool → Refusal → Result (Unit {0}) Refusal
need test cause = if test then Ok tt else Err cause

-- a call gives the value or the refusal that the definition says, or memory ran out
abbrev pub Gives : {A T : Type 0} → (T → A) → Result A Refusal → Result T code.Fault → Type 0
Gives shown said (Ok value) = said ≡ Ok (shown value)
Gives shown said (Err (fault.Refused cause)) = said ≡ Err cause
Gives shown said (Err fault.NoMemory) = Unit {0}

-- the same of a call that takes no memory
abbrev pub result_shown : {A T E : Type 0} → (T → A) → Result T E → Result A E
result_shown shown (Ok value) = Ok (shown value)
result_shown shown (Err cause) = Err cause
