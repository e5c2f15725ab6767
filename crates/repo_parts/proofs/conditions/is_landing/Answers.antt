use Rattle.repo_parts.proofs.conditions.is_landing.Goals as goal

pub returns-in-Ok-File : goal.returns-in-Ok-File
returns-in-Ok-File g c = rw (← c.in-Ok-File.ensures.kind, c.in-Ok-File.field-0-is) (c.is_file_landing.ensures c.in-Ok-File.field-0-0)

pub returns-in-Ok-Doc : goal.returns-in-Ok-Doc
returns-in-Ok-Doc g c = rw (← c.in-Ok-Doc.ensures.kind, c.in-Ok-Doc.field-0-is) (c.is_document_landing.ensures c.in-Ok-Doc.field-0-0)
