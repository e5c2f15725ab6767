use Rattle.std.proofs.Common.{◌≡◌, map, take}
use Rattle.http_wire.specs.Parsed.{field_at}
use Rattle.http_wire.proofs.parser.fields_at.Given as goal

-- the fields of the spans so far
abbrev pub invariant-loop-span : goal.invariant-loop-span
invariant-loop-span l = l.fields.items ≡ map (field_at l.bytes) (take l.span-index l.spans)
