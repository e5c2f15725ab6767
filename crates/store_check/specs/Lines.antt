-- The lines of a check (the project's own texts).
use Rattle.std.specs.Prelude.{ℕ, List, ◌∷◌, ◌++◌, Option, Some, None, codes}
use Rattle.std.specs.Fmt.{decimal}
use Rattle.std.specs.List.{flat_map}
use Rattle.mvn_digest.specs.Hex.{hex_text}
use Rattle.repo_model.specs.declared.print.Print.{Print}
use Rattle.repo_model.specs.declared.print.Recorded.{Recorded}
use Rattle.blob_audit.specs.declared.damages.Damaged.{Damaged}
use Rattle.run_lines.specs.Lines.{line}

-- length, SHA-1 and MD5 of a content, which are recorded of each
abbrev pub sums_text : ℕ → List ℕ → List ℕ → List ℕ
sums_text count sha1 md5 = decimal count ++ 32 ∷ hex_text sha1 ++ 32 ∷ hex_text md5

abbrev pub recorded_text : Recorded → List ℕ
recorded_text recorded = sums_text recorded.length recorded.digests.sha1 recorded.digests.md5

abbrev pub found_text : Option Print → List ℕ
found_text (Some print) = sums_text print.length print.digests.sha1 print.digests.md5
found_text None = codes "none"

-- the path of a file, what was recorded of it and what was found
abbrev pub damaged_text : Damaged → List ℕ
damaged_text d =
    codes "damaged " ++ d.repo ++ 47 ∷ d.path ++ codes " recorded " ++ recorded_text d.recorded ++ codes " found " ++ found_text d.found

abbrev pub damaged_line : Damaged → List ℕ
damaged_line d = line (damaged_text d)

-- a repository is not opened, since this file is damaged
abbrev pub stopped_line : Damaged → List ℕ
stopped_line d = line (codes "mvnrepod: " ++ damaged_text d)

-- how many files were looked at
abbrev pub checked_line : ℕ → List ℕ
checked_line looked = line (codes "checked " ++ decimal looked)

-- a line for each damaged file, and how many were looked at
abbrev pub report_text : List Damaged → ℕ → List ℕ
report_text damages looked = flat_map damaged_line damages ++ checked_line looked

-- the records or the store failed; the records are another's; a frame cannot be read, from this byte of it on
abbrev pub store_line : List ℕ
store_line = line (codes "mvnrepod: store")

abbrev pub not_ours_line : List ℕ
not_ours_line = line (codes "mvnrepod: not-ours")

abbrev pub row_line : ℕ → ℕ → List ℕ
row_line frame at = line (codes "mvnrepod: row " ++ decimal frame ++ 32 ∷ decimal at)
