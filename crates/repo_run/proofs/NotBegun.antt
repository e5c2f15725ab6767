-- A repository that is opened under a copy of its settings, or not.
use Rattle.std.proofs.Common.{Option, Some, None, refl, inl}
use Rattle.std.specs.Prelude.{IfSome}
use Rattle.repo_core.specs.StartFaults.{RefusesAs}
use Rattle.repo_core.specs.declared.faults.StartFault.TheVariants.{NoMemory}
use Rattle.repo_course.specs.Cleaning.{Store}
use Rattle.row_completion.proofs.Digesting.{told-same}
use Rattle.row_tables.specs.Records.{Expected}
use Rattle.store_check.specs.Checking.{Recorded}
use Rattle.repo_run.specs.Begun.{StartFails}

says-nothing : (loading : Option Expected) → IfSome loading (λ expected. RefusesAs expected NoMemory)
says-nothing None = tt
says-nothing (Some expected) = tt

-- memory ran out before the records were looked at
pub not-begun : (records : Recorded) (blobs : Store) → StartFails records records blobs blobs NoMemory
not-begun records blobs = record {
  cause = (refl, refl);
  tables = told-same blobs.shelf records.tables records.tables refl;
  refused = says-nothing records.loading;
  unread = λ none. absurd none;
  damaged = tt;
  shelf = inl refl;
}
