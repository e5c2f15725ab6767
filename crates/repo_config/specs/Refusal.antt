-- The first refusal of a text of settings, or what it says.
use Rattle.std.specs.Prelude.{◌≡◌, ℕ, ◌&&◌, if◌then◌else◌, nat_le, nat_lt, List, [], length, Option, Some, None, Result, Ok, Err, codes}
use Rattle.std.specs.Option.{option_map, option_map_or, option_or}
use Rattle.std.specs.Str.{is_utf8}
use Rattle.toml.specs.Data.{Members}
use Rattle.toml.specs.Parse.{parse_document}
use Rattle.repo_model.specs.Settings.{GroupRule, Settings}
use Rattle.settings_keys.specs.Ids.{first_twice}
use Rattle.settings_keys.specs.Walks.{first_fault}
use Rattle.settings_keys.specs.declared.kinds.Walk.TheVariants as walk
use Rattle.repo_config.specs.Names.{ids_of, member_is_group, no_member}
use Rattle.repo_config.specs.Reading.{settings_of}
use Rattle.repo_config.specs.declared.faults.SettingsFault.{SettingsFault}
use Rattle.repo_config.specs.declared.faults.SettingsFault.TheVariants as fault

-- there are to be 1 to 64 ids of repositories
abbrev pub wrong_count : List (List ℕ) → Option SettingsFault
wrong_count ids = if nat_le 1 (length ids) && nat_le (length ids) 64 then None else Some (fault.Range (codes "repositories"))

-- what is wrong with the members of groups
abbrev pub member_refusal : List (List ℕ) → List GroupRule → Option SettingsFault
member_refusal ids groups =
    option_or (option_map fault.NoMember (no_member ids groups)) (option_map fault.MemberIsGroup (member_is_group groups))

-- what is wrong with the repositories together
abbrev pub name_refusal : List (List ℕ) → List GroupRule → Option SettingsFault
name_refusal ids groups =
    option_or (wrong_count ids)
    (option_or (option_map fault.TwiceNamed (first_twice [] ids)) (member_refusal ids groups))

-- what is wrong with the keys of the tables
abbrev pub key_refusal : Members → Option SettingsFault
key_refusal document =
    option_or (option_map fault.Unknown (first_fault walk.Unknown document))
    (option_or (option_map fault.Missing (first_fault walk.Missing document))
    (option_map fault.Range (first_fault walk.Unfit document)))

abbrev pub or_refused : Option SettingsFault → Result Settings SettingsFault → Result Settings SettingsFault
or_refused (Some refusal) rest = Err refusal
or_refused None rest = rest

abbrev pub reading_of : Members → Result Settings SettingsFault
reading_of document =
    let s = settings_of document in
    or_refused (key_refusal document) (or_refused (name_refusal (ids_of s) s.groups) (Ok s))

-- UTF-8, and a document of TOML 1.1
abbrev pub document_of : List ℕ → Option Members
document_of text = if is_utf8 text then parse_document text else None

abbrev pub reading : List ℕ → Result Settings SettingsFault
reading text =
    if nat_lt 65536 (length text) then Err (fault.Range (codes "settings"))
    else option_map_or reading_of (document_of text) (Err fault.NotToml)

-- this refusal is the due one, unless memory ran out
abbrev pub IsDue : Option SettingsFault → SettingsFault → Type 0
IsDue due fault.NoMemory = Unit {0}
IsDue due found = due ≡ Some found

abbrev pub IsFault : Result Settings SettingsFault → SettingsFault → Type 0
IsFault due fault.NoMemory = Unit {0}
IsFault due found = due ≡ Err found

-- there is no document, unless memory ran out
abbrev pub IsNoDocument : Option Members → SettingsFault → Type 0
IsNoDocument document fault.NoMemory = Unit {0}
IsNoDocument document found = (document ≡ None) × (found ≡ fault.NotToml)
