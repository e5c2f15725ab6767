use Rattle.std.proofs.Common.{◌≡◌, ℕ, ◌++◌, List, Some, None, IfOk, get_or, sym, ap, ◌∙◌, subst, lit<}
use Rattle.std.proofs.lemmas.Bool.{ne_eqb}
use Rattle.std.proofs.lemmas.List.{get_or_default}
use Rattle.std.proofs.lemmas.List.Folds.{list_any_none}
use Rattle.std.proofs.lemmas.Str.Pattern.{split_parts}
use Rattle.byte_cuts.proofs.Strips.{after_strip}
use Rattle.mvn_coords.proofs.Cuts.{after_none, after_some, slash}
use Rattle.directory_rows.specs.Walks.{IsStep, IsWalkOf}
use Rattle.directory_rows.proofs.Steps.{past}
use Rattle.directory_rows.proofs.walk.step_from.Goals as goal

pub returns-in_default : goal.returns-in_default
returns-in_default c d walk up q h behind =
    let base = c.args.base.now in
    let path = c.args.path.now in
    let none = sym (after_strip base path None c.in_default.ensures.cases) in
    past d base c.args.word.now path q c.args.is_snapshot walk (λ x is. after_none base path x none is) up h behind

pub step_below-requires : goal.step_below-requires
step_below-requires c =
    let version = c.in-Some-split_once.version.now in
    let parts = split_parts 47 c.in-Some.below.now (Some (c.in-Some-split_once.version, c.in-Some-split_once.name)) c.in-Some-split_once.ensures.cases (lit< tt) in
    list_any_none slash version (λ k d h. ne_eqb (get_or version k d) 47 (λ e. parts.1 k h (get_or_default version k 0 d h ∙ e)))

pub returns-in-Some-split_once : goal.returns-in-Some-split_once
returns-in-Some-split_once c d walk up =
    let base = c.args.base.now in
    let parts = split_parts 47 c.in-Some.below.now (Some (c.in-Some-split_once.version, c.in-Some-split_once.name)) c.in-Some-split_once.ensures.cases (lit< tt) in
    let path : c.args.path.now ≡ base ++ c.in-Some.below.now = after_some base c.args.path.now c.in-Some.below.now (sym (after_strip base c.args.path.now (Some c.in-Some.below) c.in-Some.ensures.cases)) in
    subst (λ (p : List ℕ). IfOk c.step_below.result (IsStep d p)) (sym (path ∙ ap (λ t. base ++ t) parts.0))
    (c.step_below.ensures d (subst (IsWalkOf d base c.args.word.now) c.if-is_snapshot.false walk))
