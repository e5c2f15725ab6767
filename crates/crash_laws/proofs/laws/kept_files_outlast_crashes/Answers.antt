use Rattle.crash_laws.proofs.OutlastingFiles.{files-outlast-crashes}
use Rattle.crash_laws.proofs.laws.kept_files_outlast_crashes.Goals as goal

pub returns : goal.returns
returns c = files-outlast-crashes
