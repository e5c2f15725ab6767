-- How the end of a stream shows in the counts of faults of its two sides.
use Rattle.std.specs.Prelude.{◌≡◌, ◌≤◌}
use Rattle.outside.specs.Faults.{Rose}
use Rattle.repo_course.specs.declared.outcomes.End.{End}
use Rattle.repo_course.specs.declared.outcomes.End.TheVariants.{Closed, TornRequest, TurnLimit, SourceFault, SinkFault}
use Rattle.repo_course.specs.Serving.{Outside}

-- no count of the two sides rose
abbrev pub NoneRose : Outside → Outside → Type 0
NoneRose old new = (new.read_faults ≡ old.read_faults) × (new.write_faults ≡ old.write_faults)

-- the count of the side whose failure ended the stream rose, and no other
abbrev pub EndsByCause : End → Outside → Outside → Type 0
EndsByCause Closed old new = NoneRose old new
EndsByCause TornRequest old new = NoneRose old new
EndsByCause TurnLimit old new = NoneRose old new
EndsByCause SourceFault old new = Rose old.read_faults new.read_faults × (new.write_faults ≡ old.write_faults)
EndsByCause SinkFault old new = (new.read_faults ≡ old.read_faults) × Rose old.write_faults new.write_faults

-- no count of faults fell
pub record NoneFell (old new : Outside) : Type 0 where
  pub reads : old.read_faults ≤ new.read_faults
  pub writes : old.write_faults ≤ new.write_faults
  pub blobs : old.blob_faults ≤ new.blob_faults
  pub remote : old.remote.faults ≤ new.remote.faults
