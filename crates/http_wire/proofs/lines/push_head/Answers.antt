use Rattle.std.proofs.Common.{◌≡◌, ℕ, List, ◌++◌, codes, refl, sym, ap, ◌∙◌, append_assoc}
use Rattle.std.specs.Fmt.{decimal}
use Rattle.httparse.specs.Ascii.{crlf_bytes}
use Rattle.http_wire.specs.Answer.{allow_line, close_line, content_text, digest_lines, field_line, head_shown, status_line}
use Rattle.http_wire.specs.declared.answers.Answer.{Answer}
use Rattle.http_wire.proofs.lines.push_head.Goals as goal

-- the parts of a head, in order
head_parts : (answer : Answer) → head_shown answer
    ≡ status_line answer.status ++ field_line (codes "Content-Type") (content_text answer.content)
    ++ field_line (codes "Content-Length") (decimal answer.length)
    ++ digest_lines answer.digests ++ allow_line answer.allow ++ close_line answer.close ++ crlf_bytes
unfolding head_shown
head_parts answer = refl

-- seven pieces, one after the other
chain : (b0 b1 b2 b3 b4 b5 b6 b7 s t l d a k e : List ℕ) → b1 ≡ b0 ++ s → b2 ≡ b1 ++ t → b3 ≡ b2 ++ l → b4 ≡ b3 ++ d
    → b5 ≡ b4 ++ a → b6 ≡ b5 ++ k → b7 ≡ b6 ++ e → b7 ≡ b0 ++ (s ++ t ++ l ++ d ++ a ++ k ++ e)
chain b0 b1 b2 b3 b4 b5 b6 b7 s t l d a k e h1 h2 h3 h4 h5 h6 h7 = rw (h7, h6, h5, h4, h3, h2, h1) (simp append_assoc)

pub returns : goal.returns
returns c =
    let answer = c.args.answer.now in
    let start = c.args.bytes.now.items in
    chain start _ _ _ _ _ _ _ (status_line answer.status) (field_line (codes "Content-Type") (content_text answer.content))
    (field_line (codes "Content-Length") (decimal answer.length)) (digest_lines answer.digests) (allow_line answer.allow)
    (close_line answer.close) crlf_bytes
    c.in_ok-push_status.ensures
    (c.in_ok-push_field.ensures ∙ ap (λ (v : List ℕ). c.push_status.new.bytes.items ++ field_line (codes "Content-Type") v) c.media_type.ensures)
    (c.in_ok-push_field-2.ensures ∙ ap (λ (v : List ℕ). c.push_field.new.bytes.items ++ field_line (codes "Content-Length") v) (c.as_bytes.ensures.value ∙ c.format.ensures.text))
    c.in_ok-push_digests.ensures
    c.in_ok-push_allow.ensures
    c.in_ok-push_close.ensures
    c.in_ok-extend_from_slice.ensures.items
    ∙ ap (λ (head : List ℕ). start ++ head) (sym (head_parts answer))
