use Rattle.std.proofs.Common.{◌≡◌, true, refl}
use Rattle.std.proofs.lemmas.Str.{is_utf8-from_IsUtf8}
use Rattle.repo_config.proofs.Documents.{no_document}
use Rattle.repo_config.proofs.settings.document_of.Goals as goal

pub returns-in-Ok-clause-ok : goal.returns-in-Ok-clause-ok
returns-in-Ok-clause-ok c =
    rw (is_utf8-from_IsUtf8 c.args.text.now c.in-Ok.ensures.ok.0) c.in-Ok.ensures.ok.1

pub returns-in-Err-2-clause-fault : goal.returns-in-Err-2-clause-fault
returns-in-Err-2-clause-fault c =
    let none = c.if-is_memory.false in
    (no_document c.args.text.now (c.in-Err.ensures.refused (λ memory. let is : c.is_memory.result ≡ true = c.is_memory.ensures.1 memory in cc)), refl)
