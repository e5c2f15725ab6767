use Rattle.std.proofs.Common.{◌≡◌, ◌∙◌, ap, sym, subst, rules, Some, Ok, Result, length}
use Rattle.std.specs.Prelude.{◌==◌, map, take}
use Rattle.http_header.specs.Token.{IsToken}
use Rattle.httparse.specs.declared.Error.{Error}
use Rattle.httparse.specs.declared.Status.{Status}
use Rattle.httparse.specs.declared.spans.RequestSpans.{RequestSpans}
use Rattle.httparse.specs.Outcome.{IsCompleteAnd}
use Rattle.httparse.specs.Spans.{IsRequestOf, span_bytes}
use Rattle.http_wire.specs.Parsed.{field_at}
use Rattle.http_wire.proofs.ParsedLemmas.{head_of_line, head_of_none, head_of_spans, on_err, some_is, token_same}
use Rattle.http_wire.proofs.parser.head_in.Goals as goal

pub returns-in_err-fields-in-Ok-Complete-clause-memory : goal.returns-in_err-fields-in-Ok-Complete-clause-memory
returns-in_err-fields-in-Ok-Complete-clause-memory c =
    let found : IsRequestOf c.args.bytes.now c.parse_request.new.headers c.in-Ok-Complete.head
    = rw c.in-Ok-Complete.field-0-is at c.in-Ok-Complete.ensures.complete in
    on_err _ _ (some_is _ _ (head_of_spans c.args.bytes.now c.parse_request.new.headers c.in-Ok-Complete.head found.0 found.1 (search rules) (search rules)))

pub new-requires-clause-token : goal.new-requires-clause-token
new-requires-clause-token c =
    let found : IsRequestOf c.args.bytes.now c.parse_request.new.headers c.in-Ok-Complete.head
    = rw c.in-Ok-Complete.field-0-is at c.in-Ok-Complete.ensures.complete in
    let same : c.of-method.result.now ≡ found.0.method = c.of-method.ensures ∙ found.1.method in
    subst IsToken (sym same) (token_same found.0.method found.1.reads.0.method)

pub returns-in_err-request-in-Ok-Complete-clause-memory : goal.returns-in_err-request-in-Ok-Complete-clause-memory
returns-in_err-request-in-Ok-Complete-clause-memory c =
    let found : IsRequestOf c.args.bytes.now c.parse_request.new.headers c.in-Ok-Complete.head
    = rw c.in-Ok-Complete.field-0-is at c.in-Ok-Complete.ensures.complete in
    on_err _ _ (some_is _ _ (head_of_spans c.args.bytes.now c.parse_request.new.headers c.in-Ok-Complete.head found.0 found.1 (search rules) (search rules)))

pub returns-in_ok-request-in-Ok-Complete-clause-read : goal.returns-in_ok-request-in-Ok-Complete-clause-read
returns-in_ok-request-in-Ok-Complete-clause-read c =
    let found : IsRequestOf c.args.bytes.now c.parse_request.new.headers c.in-Ok-Complete.head
    = rw c.in-Ok-Complete.field-0-is at c.in-Ok-Complete.ensures.complete in
    let spelled = head_of_spans c.args.bytes.now c.parse_request.new.headers c.in-Ok-Complete.head found.0 found.1 (search rules) (search rules) in
    let given : c.in_ok-request-in-Ok-Complete.request ≡ record {
      method = span_bytes c.args.bytes.now c.in-Ok-Complete.head.method;
      target = span_bytes c.args.bytes.now c.in-Ok-Complete.head.path;
      old = c.in-Ok-Complete.head.version == 0;
      fields = map (field_at c.args.bytes.now) (take c.in-Ok-Complete.head.headers c.parse_request.new.headers);
    } = c.in_ok-request-in-Ok-Complete.ensures ∙ (λ i. record {
      method = c.of-method.ensures i;
      target = c.of-target.ensures i;
      old = c.in-Ok-Complete.head.version == 0;
      fields = c.in_ok-fields-in-Ok-Complete.ensures i;
    }) in
    spelled ∙ ap Some (sym given)

pub returns-then-begins_line-clause-read : goal.returns-then-begins_line-clause-read
returns-then-begins_line-clause-read c = head_of_line c.args.bytes.now (search rules)

pub returns-then-head-bytes-clause-read : goal.returns-then-head-bytes-clause-read
returns-then-head-bytes-clause-read c =
    head_of_none c.args.bytes.now c.parse_request.new.headers c.parse_request.result c.parse_request.ensures.found c.requires
    (λ at. c.if-head-bytes.true (subst (λ (r : Result (Status RequestSpans) Error). IsCompleteAnd r (λ found. found.len ≡ length c.args.bytes.now))
    (c.in-Ok-Complete.is ∙ ap Ok c.in-Ok-Complete.field-0-is) at))

pub returns-in-Ok-Partial-clause-read : goal.returns-in-Ok-Partial-clause-read
returns-in-Ok-Partial-clause-read c =
    head_of_none c.args.bytes.now c.parse_request.new.headers c.parse_request.result c.parse_request.ensures.found c.requires
    (λ at. subst (λ (r : Result (Status RequestSpans) Error). IsCompleteAnd r (λ found. found.len ≡ length c.args.bytes.now))
    (c.in-Ok-Partial.is ∙ ap Ok c.in-Ok-Partial.field-0-is) at)

pub returns-in-Err-clause-read : goal.returns-in-Err-clause-read
returns-in-Err-clause-read c =
    head_of_none c.args.bytes.now c.parse_request.new.headers c.parse_request.result c.parse_request.ensures.found c.requires
    (λ at. subst (λ (r : Result (Status RequestSpans) Error). IsCompleteAnd r (λ found. found.len ≡ length c.args.bytes.now)) c.in-Err.is at)
