use Rattle.std.proofs.Common.{[], None}
use Rattle.mvn_coords.specs.Layout.{directory}
use Rattle.repo_parts.proofs.members.served_by.Goals as goal

pub returns-in-Ok-DocSide : goal.returns-in-Ok-DocSide
returns-in-Ok-DocSide g c = rw (← c.in-Ok-DocSide.ensures.kind, c.in-Ok-DocSide.field-0-is) (c.served_document.ensures c.in-Ok-DocSide.field-0-0)

pub returns-in-Ok-Doc : goal.returns-in-Ok-Doc
returns-in-Ok-Doc g c = rw (← c.in-Ok-Doc.ensures.kind, c.in-Ok-Doc.field-0-is) (c.served_document-in-Ok-Doc.ensures c.in-Ok-Doc.field-0-0)

pub returns-in-Err : goal.returns-in-Err
returns-in-Err g c = rw (← c.in-Err.ensures.kind) (c.served_document-in-Err.ensures (directory [] [] None))
