-- What a proof unfolds to compute this crate's definitions on given bytes.
use Rattle.std.specs.Prelude.{⊤}
use Rattle.std.specs.Char.{encode_utf8}
use Rattle.std.specs.Fmt.{digits}
use Rattle.std.specs.Str.{chars, is_utf8}
use Rattle.httparse.proofs.OnLiterals.{httparse_on_literals}
use Rattle.http_wire.specs.Answer.{head_shown}
use Rattle.http_wire.specs.Fields.{said_length}
use Rattle.http_wire.specs.Front.{head_place, judged, front}
use Rattle.http_wire.specs.Head.{head_of}

unfoldable pub http_wire_on_literals : ⊤
unfolding head_of head_place judged front head_shown said_length is_utf8 chars encode_utf8 digits httparse_on_literals
http_wire_on_literals = tt
