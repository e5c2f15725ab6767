use Rattle.std.proofs.Common.{◌≡◌, ◌∷◌, ◌∙◌, sym, ap, Ok, Result, true}
use Rattle.mvn_coords.specs.declared.fault.PathFault.{PathFault}
use Rattle.mvn_coords.specs.Segment.{levels}
use Rattle.mvn_coords.specs.FileName.{Ending, ◌>>=◌}
use Rattle.mvn_coords.specs.Layout.{coordinates_of, file_of, may_stand}
use Rattle.mvn_coords.proofs.Files.{file_refused, file_judged, named_file, keeps_file}
use Rattle.mvn_coords.proofs.read.file.Goals.{In-Some-cut_last, In-Ok}
use Rattle.mvn_coords.proofs.read.file.Goals as goal

-- the segments that were cut
split : (c : In-Some-cut_last) → levels c.args.path.now ≡ c.args.name.now ∷ c.in-Some.dir.now ∷ c.in-Some-cut_last.artifact.now ∷ levels c.in-Some-cut_last.group.now
split c = c.requires.below.split ∙ ap (λ ls. c.args.name.now ∷ ls) (c.in-Some.ensures.0 ∙ ap (λ ls. c.in-Some.dir.now ∷ ls) c.in-Some-cut_last.ensures.0)

-- what the file's coordinates are
found : (c : In-Ok) → file_of (levels c.args.path.now) ≡ Ok (coordinates_of c.in-Some-cut_last.group.now c.in-Some-cut_last.artifact.now c.in-Some.dir.now c.in-Ok.ending)
found c =
    let stand : may_stand (levels c.in-Some-cut_last.group.now) c.in-Some-cut_last.artifact.now c.in-Some.dir.now ≡ true = sym c.may_stand.ensures ∙ c.if-not-may_stand.false in
    file_judged (levels c.args.path.now) c.args.name.now c.in-Some.dir.now c.in-Some-cut_last.artifact.now c.in-Some-cut_last.group.now (split (goal.at.In-Ok c).In-Some-cut_last) stand
    ∙ ap (λ (r : Result Ending PathFault). r >>= λ e. Ok (coordinates_of c.in-Some-cut_last.group.now c.in-Some-cut_last.artifact.now c.in-Some.dir.now e)) (sym c.in-Ok.ensures)

pub returns-then-not-may_stand : goal.returns-then-not-may_stand
returns-then-not-may_stand c =
    sym (file_refused (levels c.args.path.now) c.args.name.now c.in-Some.dir.now c.in-Some-cut_last.artifact.now c.in-Some-cut_last.group.now (split (goal.at.returns-then-not-may_stand c).In-Some-cut_last) (sym c.may_stand.ensures ∙ c.if-not-may_stand.true))

pub with_ending-requires-clause-rule : goal.with_ending-requires-clause-rule
with_ending-requires-clause-rule c =
    let f = found (goal.at.with_ending-requires-clause-rule c).In-Ok in
    (keeps_file c.args.path.now (coordinates_of c.in-Some-cut_last.group.now c.in-Some-cut_last.artifact.now c.in-Some.dir.now c.in-Ok.ending) c.requires.plain (named_file c.args.path.now c.args.above.now c.args.name.now (coordinates_of c.in-Some-cut_last.group.now c.in-Some-cut_last.artifact.now c.in-Some.dir.now c.in-Ok.ending) c.requires.below c.requires.file f) f).0

pub with_ending-requires-clause-text : goal.with_ending-requires-clause-text
with_ending-requires-clause-text c =
    let f = found (goal.at.with_ending-requires-clause-text c).In-Ok in
    (keeps_file c.args.path.now (coordinates_of c.in-Some-cut_last.group.now c.in-Some-cut_last.artifact.now c.in-Some.dir.now c.in-Ok.ending) c.requires.plain (named_file c.args.path.now c.args.above.now c.args.name.now (coordinates_of c.in-Some-cut_last.group.now c.in-Some-cut_last.artifact.now c.in-Some.dir.now c.in-Ok.ending) c.requires.below c.requires.file f) f).1

pub returns-in-Ok : goal.returns-in-Ok
returns-in-Ok c = ap (λ k. Ok k) c.with_ending.ensures ∙ sym (found (goal.at.returns-in-Ok c).In-Ok)

pub returns-in-Err : goal.returns-in-Err
returns-in-Err c =
    let stand : may_stand (levels c.in-Some-cut_last.group.now) c.in-Some-cut_last.artifact.now c.in-Some.dir.now ≡ true = sym c.may_stand.ensures ∙ c.if-not-may_stand.false in
    sym (file_judged (levels c.args.path.now) c.args.name.now c.in-Some.dir.now c.in-Some-cut_last.artifact.now c.in-Some-cut_last.group.now (split (goal.at.returns-in-Err c).In-Some-cut_last) stand
    ∙ ap (λ (r : Result Ending PathFault). r >>= λ e. Ok (coordinates_of c.in-Some-cut_last.group.now c.in-Some-cut_last.artifact.now c.in-Some.dir.now e)) (sym c.in-Err.ensures))
