use Rattle.std.proofs.Common.{◌≡◌, map}
use Rattle.std.specs.Map.Iter.{deref_pair}
use Rattle.repo_model.specs.Data.{Staged}
use Rattle.deploy_session.specs.Shown.{shown_files}
use Rattle.deploy_session.proofs.files.blobs_of.Given as goal

abbrev pub invariant-loop-parcel : goal.invariant-loop-parcel
invariant-loop-parcel g l = l.blobs.items ≡ map (λ (f : Staged). f.blob.number) (shown_files (map deref_pair l.yielded))
