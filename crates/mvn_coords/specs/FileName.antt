-- The name of a file in its version directory (Maven 2 repository layout): `artifact-version` with an extension, or with a classifier and an extension; in a snapshot directory the version is that of a unique snapshot, `base-yyyyMMdd.HHmmss-number`.
use Rattle.std.specs.Prelude.{ℕ, Bool, true, not, ◌&&◌, ◌||◌, ◌==◌, nat_eq, nat_le, nat_lt, if◌then◌else◌, List, [], ◌∷◌, ◌++◌, length, take, drop, Option, Some, None, option_and_then, unwrap_or, Result, Ok, Err, codes}
use Rattle.std.specs.Char.{is_ascii_digit}
use Rattle.std.specs.List.{list_all, starts_with, before_first, after_first, position}
use Rattle.std.specs.Option.{ok_or, option_map}
use Rattle.byte_cuts.specs.Cuts.{behind, before}
use Rattle.mvn_coords.specs.declared.fault.PathFault.{PathFault}
use Rattle.mvn_coords.specs.declared.fault.PathFault.TheVariants as fault
use Rattle.mvn_coords.specs.Civil.{CivilTime, time_of, decimal}

-- one step after another, up to the first that refuses
infixl 10 ◌>>=◌
abbrev pub ◌>>=◌ : {A B : Type 0} → Result A PathFault → (A → Result B PathFault) → Result B PathFault
(Ok x) >>= f = f x
(Err e) >>= f = Err e

-- the build of a unique snapshot: when it was deployed, and its number
pub record BuildOf : Type 0 where
  pub stamp : CivilTime
  pub number : ℕ

-- a build's number is from 1 to 999,999,999
abbrev pub is_build_number : ℕ → Bool
is_build_number n = nat_le 1 n && nat_le n 999_999_999

-- what a file's name tells beside artifact and version directory
pub record Ending : Type 0 where
  pub build : Option BuildOf
  pub classifier : List ℕ
  pub extension : List ℕ

-- X, where a directory is X-SNAPSHOT and X has at least one byte
abbrev pub base_of : List ℕ → Option (List ℕ)
base_of directory =
    if nat_lt 9 (length directory) then before (codes "-SNAPSHOT") directory else None

abbrev pub is_dot : ℕ → Bool
is_dot b = b == 46

abbrev pub is_filled : List ℕ → Bool
is_filled text = nat_lt 0 (length text)

-- `.extension`, or `-classifier.extension`, where the extension begins at the first dot: classifier and extension
abbrev pub tail_by : Option (List ℕ) → Option (List ℕ) → Option (List ℕ × List ℕ)
tail_by (Some extension) _ = if is_filled extension then Some ([], extension) else None
tail_by None (Some rest) =
    if is_filled (before_first is_dot rest) && is_filled (after_first is_dot rest)
    then Some (before_first is_dot rest, after_first is_dot rest) else None
tail_by None None = None

abbrev pub tail_of : List ℕ → Option (List ℕ × List ℕ)
tail_of text = tail_by (behind (codes ".") text) (behind (codes "-") text)

abbrev pub ending_of : Option BuildOf → List ℕ → Result Ending PathFault
ending_of build text = do
  tail ← ok_or (tail_of text) fault.NotNamed
  Ok (record { build = build; classifier = tail.0; extension = tail.1 })

-- in a version directory of a release
abbrev pub release_ending : List ℕ → List ℕ → List ℕ → Result Ending PathFault
release_ending artifact directory name = do
  text ← ok_or (behind (artifact ++ 45 ∷ directory) name) fault.NotNamed
  ending_of None text

-- the number that 1 to 9 digits write, the first not 0
abbrev pub number_of : List ℕ → Option ℕ
number_of run =
    if nat_lt 0 (length run) && nat_le (length run) 9 && list_all is_ascii_digit run
    && not (starts_with nat_eq run (codes "0"))
    then Some (decimal run) else None

-- the word `SNAPSHOT` stands here for the timestamp and number of a build
abbrev pub is_end_of_word : List ℕ → Bool
is_end_of_word [] = true
is_end_of_word (b ∷ bs) = (b == 46) || (b == 45)

abbrev pub is_literal : List ℕ → Bool
is_literal text = starts_with nat_eq text (codes "SNAPSHOT") && is_end_of_word (drop 8 text)

-- the whole run of digits at the front, and what follows it
abbrev pub is_no_digit : ℕ → Bool
is_no_digit b = not (is_ascii_digit b)

abbrev pub digit_count : List ℕ → ℕ
digit_count text = unwrap_or (position is_no_digit text) (length text)

abbrev pub number_in : List ℕ → Option (ℕ × List ℕ)
number_in run = option_map (λ n. (n, drop (digit_count run) run)) (number_of (take (digit_count run) run))

-- `-` and a number
abbrev pub numbered : List ℕ → Option (ℕ × List ℕ)
numbered text = option_and_then number_in (behind (codes "-") text)

-- in the version directory base-SNAPSHOT
abbrev pub snapshot_ending : List ℕ → List ℕ → List ℕ → Result Ending PathFault
snapshot_ending artifact base name = do
  text ← ok_or (behind (artifact ++ 45 ∷ base ++ 45 ∷ []) name) fault.NotNamed
  stamp ← (if is_literal text then Err fault.LiteralSnapshot
      else ok_or (time_of (take 15 text)) fault.BadStamp)
  number ← ok_or (numbered (drop 15 text)) fault.BadBuild
  ending_of (Some (record { stamp = stamp; number = number.0 })) number.1

-- in a version directory, which has a base or none
abbrev pub ending_in : List ℕ → List ℕ → List ℕ → Option (List ℕ) → Result Ending PathFault
ending_in artifact directory name None = release_ending artifact directory name
ending_in artifact directory name (Some base) = snapshot_ending artifact base name
