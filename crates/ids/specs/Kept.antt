-- The bytes of an id.
use Rattle.std.specs.Prelude.{ℕ, List}
use Rattle.ids.specs.declared.held.Kept.{Kept}
use Rattle.ids.specs.declared.held.Kept.TheVariants.{Short, Own}

abbrev pub bytes_of : Kept → List ℕ
bytes_of (Short text) = text.bytes
bytes_of (Own text) = text
