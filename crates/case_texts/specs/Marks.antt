-- What a line of a text of cases is, by its first byte.
use Rattle.std.specs.Prelude.{ℕ, List, [], ◌∷◌, ◌==◌, ◌||◌, if◌then◌else◌}
use Rattle.case_texts.specs.declared.entries.Mark.{Mark}
use Rattle.case_texts.specs.declared.entries.Mark.TheVariants.{Nothing, Text, Entry}

-- nothing and `#` say nothing, `>` and `|` mark text, and any other byte begins an entry
abbrev pub mark_of : List ℕ → Mark
mark_of [] = Nothing
mark_of (byte ∷ _) = if byte == 35 then Nothing else (if (byte == 62) || (byte == 124) then Text else Entry)
