-- How often a folder's file with records has failed.
use Rattle.std.specs.Prelude.{ℕ}
use Rattle.data_folder.specs.declared.disk.FolderDisk.{FolderDisk}
use Rattle.data_folder.specs.declared.disk.FolderDisk.TheVariants.{Open, Refused}

abbrev pub faults_of : {F : Type 0} → FolderDisk F → ℕ
faults_of (Open disk lock) = disk
faults_of (Refused faults) = faults

-- it could not be opened
abbrev pub IsRefused : {F : Type 0} → FolderDisk F → Type 0
IsRefused (Open disk lock) = ⊥
IsRefused (Refused faults) = Unit {0}
