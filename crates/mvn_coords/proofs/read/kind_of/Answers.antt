use Rattle.std.proofs.Common.{◌∙◌, sym, arith, length}
use Rattle.std.proofs.lemmas.Bool.{lt-ltb, le-ltb}
use Rattle.mvn_coords.proofs.Judged.{kind_empty, kind_long, kind_bad, kind_side, kind_cut}
use Rattle.mvn_coords.proofs.ExactPaths.{is_cut, plain_cut, path_kept}
use Rattle.mvn_coords.proofs.read.kind_of.Goals as goal

pub returns-then-is_empty-clause-kind : goal.returns-then-is_empty-clause-kind
returns-then-is_empty-clause-kind c = sym (kind_empty c.args.path.now (sym c.is_empty.ensures ∙ c.if-is_empty.true))

pub returns-then-path-gt1024-clause-kind : goal.returns-then-path-gt1024-clause-kind
returns-then-path-gt1024-clause-kind c =
    sym (kind_long c.args.path.now (sym c.is_empty.ensures ∙ c.if-is_empty.false) (lt-ltb 1024 (length c.args.path.now) (omega arith)))

pub returns-then-not-all_segments-clause-kind : goal.returns-then-not-all_segments-clause-kind
returns-then-not-all_segments-clause-kind c =
    sym (kind_bad c.args.path.now (sym c.is_empty.ensures ∙ c.if-is_empty.false) (le-ltb 1024 (length c.args.path.now) (omega arith)) (sym c.all_segments.ensures ∙ c.if-not-all_segments.true))

pub named-requires : goal.named-requires
named-requires c =
    let cut = is_cut c.args.path.now c.in-Ok.cut (sym c.in-Ok.ensures) in
    plain_cut c.args.path.now c.in-Ok.cut (omega arith) (sym c.all_segments.ensures ∙ c.if-not-all_segments.false) cut

pub returns-in-Err-clause-kind : goal.returns-in-Err-clause-kind
returns-in-Err-clause-kind c =
    sym (kind_side c.args.path.now c.in-Err.fault (sym c.is_empty.ensures ∙ c.if-is_empty.false) (le-ltb 1024 (length c.args.path.now) (omega arith)) (sym c.all_segments.ensures ∙ c.if-not-all_segments.false) (sym c.in-Err.ensures))

pub returns-in-Ok-clause-kind : goal.returns-in-Ok-clause-kind
returns-in-Ok-clause-kind c =
    c.named.ensures ∙ sym (kind_cut c.args.path.now c.in-Ok.cut (sym c.is_empty.ensures ∙ c.if-is_empty.false) (le-ltb 1024 (length c.args.path.now) (omega arith)) (sym c.all_segments.ensures ∙ c.if-not-all_segments.false) (sym c.in-Ok.ensures))

pub returns-in-Ok-clause-path : goal.returns-in-Ok-clause-path
returns-in-Ok-clause-path c =
    path_kept c.args.path.now c.named.result (c.named.ensures ∙ sym (kind_cut c.args.path.now c.in-Ok.cut (sym c.is_empty.ensures ∙ c.if-is_empty.false) (le-ltb 1024 (length c.args.path.now) (omega arith)) (sym c.all_segments.ensures ∙ c.if-not-all_segments.false) (sym c.in-Ok.ensures)))
