-- What the method and the fields of a head say: the host, the length of the body, and whether the connection ends (RFC 9110, sections 7.2, 8.6, 9.1 and 10.1.1; RFC 9112, sections 3.2, 6.3 and 9.6).
use Rattle.std.specs.Prelude.{ℕ, Bool, true, false, not, ◌&&◌, ◌||◌, ◌==◌, nat_lt, if◌then◌else◌, List, count_by, Result, Ok, Err, codes, bytes_eq}
use Rattle.std.specs.List.{list_any}
use Rattle.std.specs.Str.{str_eq_ignore_ascii_case}
use Rattle.http_wire.specs.declared.requests.BodyLength.{BodyLength}
use Rattle.http_wire.specs.declared.requests.BodyLength.TheVariants.{Known, Missing, Wrong}
use Rattle.http_wire.specs.declared.requests.Field.{Field}
use Rattle.http_wire.specs.Fields.{asks_close, body_length, is_named}
use Rattle.http_wire.specs.Head.{Head}
use Rattle.repo_routes.specs.declared.refusal.Refusal.{Refusal}
use Rattle.repo_routes.specs.declared.refusal.Refusal.TheVariants as refusal
use Rattle.repo_routes.specs.Steps.{need}

-- the method is this word; the case of letters counts
abbrev pub has_method : List ℕ → Head → Bool
has_method word head = bytes_eq head.method word

unfoldable pub is_head : Head → Bool
is_head head = has_method (codes "HEAD") head

unfoldable pub is_put : Head → Bool
is_put head = has_method (codes "PUT") head

-- GET or HEAD
unfoldable pub is_read : Head → Bool
is_read head = has_method (codes "GET") head || is_head head

unfoldable pub is_post : Head → Bool
is_post head = has_method (codes "POST") head

-- how many fields have the name
abbrev pub field_count : List ℕ → Head → ℕ
field_count name head = count_by (is_named name) head.fields

-- a request of HTTP/1.1 names its host exactly once
unfoldable pub check_host : Head → Result (Unit {0}) Refusal
check_host head = need (head.old || (field_count (codes "Host") head == 1)) refusal.BadHost

-- the length of the body by the Content-Length fields; a PUT has to say it
abbrev pub length_said : Bool → BodyLength → Result ℕ Refusal
length_said put (Known n) = Ok n
length_said put Wrong = Err refusal.BadLength
length_said true Missing = Err refusal.NoLength
length_said false Missing = Ok 0

-- the length of the body; none is taken in chunks
unfoldable pub length_of : Head → Result ℕ Refusal
length_of head =
    if nat_lt 0 (field_count (codes "Transfer-Encoding") head) then Err refusal.NoLength
    else length_said (is_put head) (body_length head.fields)

abbrev pub is_filled : BodyLength → Bool
is_filled (Known n) = nat_lt 0 n
is_filled _ = false

-- the head announces a body of at least one byte
unfoldable pub has_body : Head → Bool
has_body head = is_filled (body_length head.fields)

-- the client ends the connection, or it is of HTTP/1.0
unfoldable pub ends_connection : Head → Bool
ends_connection head = head.old || asks_close head.fields

-- the field is Expect, and its whole value `100-continue`, in either case of letters
abbrev pub is_expectation : Field → Bool
is_expectation f =
    is_named (codes "Expect") f && str_eq_ignore_ascii_case f.value (codes "100-continue")

unfoldable pub asks_continue : List Field → Bool
asks_continue fields = list_any is_expectation fields

-- a client of HTTP/1.1 waits for `100 Continue` before it sends a body
unfoldable pub expects_continue : Head → Bool
expects_continue head = not head.old && (has_body head && asks_continue head.fields)
