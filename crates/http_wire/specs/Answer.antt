-- The bytes of an answer on the wire (RFC 9112, sections 4 and 5; RFC 9110, sections 8.3, 8.6, 10.2.1 and 7.6.1).
use Rattle.std.specs.Prelude.{ℕ, Bool, true, List, [], ◌∷◌, ◌++◌, Option, Some, None, codes, if◌then◌else◌}
use Rattle.std.specs.Fmt.{decimal}
use Rattle.httparse.specs.Ascii.{crlf_bytes}
use Rattle.mvn_digest.specs.Hex.{hex_text}
use Rattle.mvn_digest.specs.declared.digests.Digests.{Digests}
use Rattle.http_wire.specs.declared.answers.Answer.{Answer}
use Rattle.http_wire.specs.declared.answers.Content.{Content}
use Rattle.http_wire.specs.declared.answers.Content.TheVariants.{Document, File, Plain}
use Rattle.http_wire.specs.declared.answers.Status.{Status}
use Rattle.http_wire.specs.declared.answers.Status.TheVariants as status

-- the status code and the reason phrase; the reasons are fixed texts
abbrev pub status_text : Status → List ℕ
status_text status.Ok = codes "200 OK"
status_text status.Created = codes "201 Created"
status_text status.BadRequest = codes "400 Bad Request"
status_text status.Forbidden = codes "403 Forbidden"
status_text status.NotFound = codes "404 Not Found"
status_text status.MethodNotAllowed = codes "405 Method Not Allowed"
status_text status.Conflict = codes "409 Conflict"
status_text status.LengthRequired = codes "411 Length Required"
status_text status.PayloadTooLarge = codes "413 Payload Too Large"
status_text status.UnprocessableEntity = codes "422 Unprocessable Entity"
status_text status.TooManyRequests = codes "429 Too Many Requests"
status_text status.RequestHeaderFieldsTooLarge = codes "431 Request Header Fields Too Large"
status_text status.InternalServerError = codes "500 Internal Server Error"
status_text status.BadGateway = codes "502 Bad Gateway"
status_text status.ServiceUnavailable = codes "503 Service Unavailable"
status_text status.GatewayTimeout = codes "504 Gateway Timeout"
status_text status.InsufficientStorage = codes "507 Insufficient Storage"

-- the media type
abbrev pub content_text : Content → List ℕ
content_text File = codes "application/octet-stream"
content_text Document = codes "text/xml"
content_text Plain = codes "text/plain"

-- field-name ":" SP field-value CRLF
abbrev pub field_line : List ℕ → List ℕ → List ℕ
field_line name value = name ++ codes ": " ++ value ++ crlf_bytes

-- SHA-1 and MD5 in lower case hexadecimal, where there are digests
abbrev pub digest_lines : Option Digests → List ℕ
digest_lines None = []
digest_lines (Some digests) =
    field_line (codes "X-Checksum-SHA1") (hex_text digests.sha1)
    ++ field_line (codes "X-Checksum-MD5") (hex_text digests.md5)

-- the methods that the target has, where they are to be told
abbrev pub allow_line : Option (List ℕ) → List ℕ
allow_line None = []
allow_line (Some methods) = field_line (codes "Allow") methods

-- that the connection ends
abbrev pub close_line : Bool → List ℕ
close_line close = if close then field_line (codes "Connection") (codes "close") else []

-- HTTP-version SP status-code SP reason-phrase CRLF
abbrev pub status_line : Status → List ℕ
status_line s = codes "HTTP/1.1 " ++ status_text s ++ crlf_bytes

-- the status line, the fields in this order, and the empty line
unfoldable pub head_shown : Answer → List ℕ
head_shown answer =
    status_line answer.status
    ++ field_line (codes "Content-Type") (content_text answer.content)
    ++ field_line (codes "Content-Length") (decimal answer.length)
    ++ digest_lines answer.digests
    ++ allow_line answer.allow
    ++ close_line answer.close
    ++ crlf_bytes

-- the head and the body
abbrev pub shown : Answer → List ℕ
shown answer = head_shown answer ++ answer.body

-- the answer where there is no memory for another
abbrev pub no_memory : Answer
no_memory = record {
  status = status.InsufficientStorage;
  content = Plain;
  length = 7;
  digests = None;
  allow = None;
  close = true;
  body = codes "memory" ++ 10 ∷ [];
}

-- the same answer to HEAD: its head alone (RFC 9110, section 9.3.2)
abbrev pub without_body : Answer → Answer
without_body answer = record answer { body = [] }

-- the interim answer that asks for the body of a request (RFC 9110, section 15.2.1)
abbrev pub continue_bytes : List ℕ
continue_bytes = codes "HTTP/1.1 100 Continue" ++ crlf_bytes ++ crlf_bytes
