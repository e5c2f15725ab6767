-- What a verdict says of a test of a list.
use Rattle.std.specs.Prelude.{◌≡◌, Bool, true, false, List}
use Rattle.path_patterns.specs.Matching.{run_then}
use Rattle.path_patterns.specs.declared.verdict.Verdict.{Verdict}
use Rattle.path_patterns.specs.declared.verdict.Verdict.TheVariants.{Matches, Differs, RunsOut}

abbrev pub IsVerdict : {A : Type 0} → (List A → Bool) → List A → Verdict → Type 0
IsVerdict test xs Matches = test xs ≡ true
IsVerdict test xs Differs = test xs ≡ false
IsVerdict test xs RunsOut = run_then test xs ≡ false
