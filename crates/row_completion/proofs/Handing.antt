-- Damage that is told, and handed on.
use Rattle.std.proofs.Common.{◌≡◌, Result, Ok, Err, sym, subst}
use Rattle.std.specs.Prelude.{IsErrAnd}
use Rattle.blob_audit.specs.declared.damages.Damaged.{Damaged}
use Rattle.row_completion.specs.declared.faults.CompletionFault.{CompletionFault}
use Rattle.row_completion.specs.declared.faults.CompletionFault.TheVariants as fault
use Rattle.row_completion.specs.Faults.{OnDamage}

-- what follows of each damage follows where one is told
pub damage-then : {T : Type 0} (result : Result T CompletionFault) {P Q : Damaged → Type 0} → ((d : Damaged) → P d → Q d) → OnDamage result P → OnDamage result Q
damage-then (Ok value) so told = tt
damage-then (Err fault.NoMemory) so told = tt
damage-then (Err fault.Store) so told = tt
damage-then (Err (fault.Damaged d)) so told = so d told

-- a fault that is handed on tells the same damage
pub damage-on : {T : Type 0} (U : Type 0) (result : Result T CompletionFault) (e : CompletionFault) (P : Damaged → Type 0) → IsErrAnd result (λ x. x ≡ e) → OnDamage {T = U} (Err e) P → OnDamage result P
damage-on U (Ok value) e P same told = tt
damage-on {T} U (Err x) e P same told = by x (subst (λ y. OnDamage {T = U} (Err y) P) (sym same) told)
  where
    by : (y : CompletionFault) → OnDamage {T = U} (Err y) P → OnDamage {T = T} (Err y) P
    by fault.NoMemory here = tt
    by fault.Store here = tt
    by (fault.Damaged d) here = here
