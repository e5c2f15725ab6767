-- The lines of a run that cannot do what it was asked (the project's own texts).
use Rattle.std.specs.Prelude.{ℕ, List, [], ◌∷◌, ◌++◌, Option, Some, None, codes}
use Rattle.std.specs.Option.{option_map}
use Rattle.repo_config.specs.declared.faults.SettingsFault.{SettingsFault}
use Rattle.repo_config.specs.declared.faults.SettingsFault.TheVariants.{NotToml, Unknown, Missing, Range, TwiceNamed, NoMember, MemberIsGroup, NoMemory}

-- a text of one line
abbrev pub line : List ℕ → List ℕ
line text = text ++ 10 ∷ []

abbrev pub words_line : List ℕ
words_line = line (codes "mvnrepod: words")

abbrev pub input_line : List ℕ
input_line = line (codes "mvnrepod: input")

abbrev pub memory_line : List ℕ
memory_line = line (codes "mvnrepod: memory")

-- why settings are refused, with the key or the id; running out of memory is no refusal
abbrev pub fault_text : SettingsFault → Option (List ℕ)
fault_text NotToml = Some (codes "NotToml")
fault_text (Unknown key) = Some (codes "Unknown " ++ key)
fault_text (Missing key) = Some (codes "Missing " ++ key)
fault_text (Range key) = Some (codes "Range " ++ key)
fault_text (TwiceNamed id) = Some (codes "TwiceNamed " ++ id)
fault_text (NoMember id) = Some (codes "NoMember " ++ id)
fault_text (MemberIsGroup id) = Some (codes "MemberIsGroup " ++ id)
fault_text NoMemory = None

abbrev pub settings_line : List ℕ → List ℕ
settings_line text = line (codes "mvnrepod: settings " ++ text)

abbrev pub refusal_line : SettingsFault → Option (List ℕ)
refusal_line refusal = option_map settings_line (fault_text refusal)
