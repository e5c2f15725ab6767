use Rattle.std.proofs.Common.{ℕ, List, sym, ap, ◌∙◌, subst}
use Rattle.std.specs.Prelude.{OnOk}
use Rattle.mvn_coords.specs.Kind.{text_of_kind}
use Rattle.kept_docs.specs.Drafted.{HasDraftMore, drafted}
use Rattle.kept_docs.proofs.DraftLemmas.{no_file_more}
use Rattle.kept_docs.proofs.drafts.Drafts.add_at.Goals as goal

pub returns-in-Ok-Doc : goal.returns-in-Ok-Doc
returns-in-Ok-Doc c =
    subst (λ (t : List ℕ). OnOk c.add_in.result (HasDraftMore t c.args.c.now c.args.accepted c.args.docs.now c.args.self.now c.add_in.new.self))
    (ap text_of_kind (sym c.in-Ok-Doc.field-0-is) ∙ c.in-Ok-Doc.ensures.path) c.add_in.ensures

pub returns-in-Ok-File : goal.returns-in-Ok-File
returns-in-Ok-File c =
    no_file_more c.args.document.now c.kind_of.result c.args.c.now c.args.accepted (λ text. drafted text c.args.docs.now c.args.self.now) c.kind_of.ensures.kind (λ e h. cc (h, c.in-Ok-File.is, c.in-Ok-File.field-0-is))

pub returns-in-Ok-FileSide : goal.returns-in-Ok-FileSide
returns-in-Ok-FileSide c =
    no_file_more c.args.document.now c.kind_of.result c.args.c.now c.args.accepted (λ text. drafted text c.args.docs.now c.args.self.now) c.kind_of.ensures.kind (λ e h. cc (h, c.in-Ok-FileSide.is, c.in-Ok-FileSide.field-0-is))

pub returns-in-Ok-DocSide : goal.returns-in-Ok-DocSide
returns-in-Ok-DocSide c =
    no_file_more c.args.document.now c.kind_of.result c.args.c.now c.args.accepted (λ text. drafted text c.args.docs.now c.args.self.now) c.kind_of.ensures.kind (λ e h. cc (h, c.in-Ok-DocSide.is, c.in-Ok-DocSide.field-0-is))

pub returns-in-Err : goal.returns-in-Err
returns-in-Err c =
    no_file_more c.args.document.now c.kind_of.result c.args.c.now c.args.accepted (λ text. drafted text c.args.docs.now c.args.self.now) c.kind_of.ensures.kind (λ e h. cc (h, c.in-Err.is))
