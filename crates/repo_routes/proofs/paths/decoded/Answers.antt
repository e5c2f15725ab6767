use Rattle.std.proofs.Common.{◌≡◌, sym, ◌∙◌, ap, Ok, Err}
use Rattle.percent_encoding.specs.Percent.{percent_decode}
use Rattle.repo_routes.proofs.PathLemmas.{decoded-no-text, decoded-text}
use Rattle.repo_routes.proofs.paths.decoded.Goals as goal

pub returns-in_ok-into_owned-in-Ok : goal.returns-in_ok-into_owned-in-Ok
returns-in_ok-into_owned-in-Ok c =
    let text = rw (c.percent_decode.ensures.bytes, c.as_bytes.ensures.value) at c.in-Ok.ensures.ok_only_if_utf8 in
    let bytes : c.from_string.result ≡ percent_decode c.args.written.now =
    c.from_string.ensures ∙ c.in_ok-into_owned-in-Ok.ensures.ok ∙ c.in-Ok.ensures.value ∙ c.percent_decode.ensures.bytes ∙ ap percent_decode c.as_bytes.ensures.value in
    decoded-text c.args.head.now c.args.written.now text ∙ ap Ok (sym bytes)

pub returns-in-Err-Utf8 : goal.returns-in-Err-Utf8
returns-in-Err-Utf8 c =
    let fails = rw (c.percent_decode.ensures.bytes, c.as_bytes.ensures.value) at c.in-Err-Utf8.ensures.utf8 in
    decoded-no-text c.args.head.now c.args.written.now (λ text. let wants_memory = fails text in cc) ∙ ap Err (sym c.path_refusal-refusal.ensures)
