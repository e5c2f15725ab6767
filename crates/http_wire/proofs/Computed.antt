-- `http_wire_on_literals` is enough.
use Rattle.std.specs.Prelude.{◌≡◌, false, [], ◌∷◌, ◌++◌, codes, refl}
use Rattle.httparse.specs.Ascii.{crlf_bytes}
use Rattle.http_wire.specs.Front.{Whole, front}
use Rattle.http_wire.proofs.OnLiterals.{http_wire_on_literals}

-- a request and the body after it
pub put : front (codes "PUT /repository/releases/x HTTP/1.1" ++ crlf_bytes ++ codes "Host:  x " ++ crlf_bytes ++ crlf_bytes ++ codes "abc")
    ≡ Whole (record { method = codes "PUT"; target = codes "/repository/releases/x"; old = false; fields = (record { name = codes "Host"; value = codes "x" }) ∷ [] }) (codes "abc")
unfolding http_wire_on_literals
put = refl
