-- One more value of Content-Length, after what the values before it say.
use Rattle.std.specs.Prelude.{ℕ, ◌==◌, ◌&&◌, List, if◌then◌else◌}
use Rattle.http_wire.specs.declared.requests.BodyLength.{BodyLength}
use Rattle.http_wire.specs.declared.requests.BodyLength.TheVariants.{Known, Missing, Wrong}
use Rattle.http_wire.specs.Fields.{is_length, number_of}

-- what all of them say
abbrev pub joined : BodyLength → List ℕ → BodyLength
joined Missing value = if is_length value then Known (number_of value) else Wrong
joined (Known number) value = if is_length value && (number_of value == number) then Known number else Wrong
joined Wrong value = Wrong
