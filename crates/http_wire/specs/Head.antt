-- The head of a request as a value, and the head that given bytes spell (RFC 9112, sections 2.2, 3 and 5).
use Rattle.std.specs.Prelude.{ℕ, ◌-◌, Bool, ◌&&◌, ◌==◌, nat_le, nat_lt, List, [], ◌∷◌, length, map, slice_index, Option, Some, None, if◌then◌else◌, bytes_eq}
use Rattle.std.specs.List.{after_first, before_first, list_all, list_any, slice_split}
use Rattle.std.specs.Str.{is_utf8}
use Rattle.httparse.specs.Ascii.{carriage_return, colon, digit_zero, line_feed, space}
use Rattle.httparse.specs.Grammar as grammar
use Rattle.httparse.specs.Grammar.{LineEnd, crlf, lf, RequestHead, field_value, is_token, is_uri_byte, is_value_byte, print_request}
use Rattle.http_wire.specs.declared.requests.Field.{Field}

-- what a request head says; `old` is HTTP/1.0, and a field's value has no white space around it
pub record Head : Type 0 where
  pub method : List ℕ
  pub target : List ℕ
  pub old : Bool
  pub fields : List Field

-- the bytes before the first c, or all of them where there is none
abbrev pub before : ℕ → List ℕ → List ℕ
before c bytes = before_first (λ b. b == c) bytes

-- the bytes after the first c
abbrev pub after : ℕ → List ℕ → List ℕ
after c bytes = after_first (λ b. b == c) bytes

-- the lines: the parts between the line feeds
abbrev pub lines_of : List ℕ → List (List ℕ)
lines_of bytes = slice_split (λ b. b == line_feed) bytes

-- how a line ends: a CR before its LF belongs to the end
abbrev pub end_of : List ℕ → LineEnd
end_of line = if list_any (λ b. b == carriage_return) line then crlf else lf

-- field-name ":" and all up to the end of the line
abbrev pub field_tree : List ℕ → grammar.Field
field_tree line = record {
  name = before colon line;
  raw = before carriage_return (after colon line);
  end = end_of line;
}

-- nothing stands before the line's end
abbrev pub is_empty_line : List ℕ → Bool
is_empty_line line = length (before carriage_return line) == 0

-- the field lines: those up to the first empty line
abbrev pub field_trees : List (List ℕ) → List grammar.Field
field_trees [] = []
field_trees (line ∷ lines) = if is_empty_line line then [] else field_tree line ∷ field_trees lines

-- how the first empty line ends
abbrev pub last_end : List (List ℕ) → LineEnd
last_end [] = lf
last_end (line ∷ lines) = if is_empty_line line then end_of line else last_end lines

-- method SP request-target SP HTTP-version, and the lines that follow; the digit of HTTP/1.x is the version's last byte
abbrev pub head_tree : List ℕ → List (List ℕ) → RequestHead
head_tree line lines = record {
  blank = [];
  method = before space line;
  target = before space (after space line);
  minor = slice_index (after space (after space line)) 7 - digit_zero;
  line_end = end_of line;
  fields = field_trees lines;
  last = last_end lines;
}

-- the bytes cut at the line ends, the spaces of the first line and the first colon of each further one
abbrev pub tree_of : List ℕ → RequestHead
tree_of bytes = head_tree (before line_feed bytes) (lines_of (after line_feed bytes))

-- the name is a token, and the value has no control byte but the tab
abbrev pub is_field : grammar.Field → Bool
is_field f = is_token f.name && list_all is_value_byte f.raw

-- each part is of its class
abbrev pub is_request_head : RequestHead → Bool
is_request_head tree =
    is_token tree.method && (nat_lt 0 (length tree.target) && (list_all is_uri_byte tree.target
    && (is_utf8 tree.target && (nat_le tree.minor 1 && list_all is_field tree.fields))))

-- the field's name, and its value without the white space around it
abbrev pub field_said : grammar.Field → Field
field_said f = record { name = f.name; value = field_value f }

-- what a head of the grammar says
abbrev pub head_said : RequestHead → Head
head_said tree = record {
  method = tree.method;
  target = tree.target;
  old = tree.minor == 0;
  fields = map field_said tree.fields;
}

-- the head that exactly these bytes spell: each part is of its class, and printed they are these bytes
unfoldable pub head_of : List ℕ → Option Head
head_of bytes =
    let tree = tree_of bytes in
    if is_request_head tree && bytes_eq (print_request tree) bytes then Some (head_said tree) else None
