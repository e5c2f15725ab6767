use Rattle.std.proofs.Common.{◌≡◌, ◌∷◌, [], ◌∙◌, sym, ap, Ok, None, Some, true, not, is_some}
use Rattle.mvn_coords.specs.Segment.{levels}
use Rattle.mvn_coords.specs.FileName.{base_of}
use Rattle.mvn_coords.specs.Layout.{directory, directory_of}
use Rattle.mvn_coords.proofs.Cuts.{is_some_copied}
use Rattle.mvn_coords.proofs.Documents.{one_directory, snapshot_refused, snapshot_judged, keeps_directory}
use Rattle.mvn_coords.proofs.read.directory.Goals.{In-Some-cut_last, After-may_stand}
use Rattle.mvn_coords.proofs.read.directory.Goals as goal

pub new-requires-clause-rule : goal.new-requires-clause-rule
new-requires-clause-rule c =
    let found = one_directory (levels c.args.path.now) c.args.path.now c.in_default.ensures (sym c.are_artifact_bytes.ensures ∙ c.if-not-are_artifact_bytes.false) in
    (keeps_directory c.args.document.now c.args.path.now (directory [] c.args.path.now None) c.requires.plain c.requires.below found).0

-- the segments that were cut
split : (c : In-Some-cut_last) → levels c.args.path.now ≡ c.in-Some.last.now ∷ c.in-Some-cut_last.artifact.now ∷ levels c.in-Some-cut_last.group.now
split c = c.in-Some.ensures.0 ∙ ap (λ ls. c.in-Some.last.now ∷ ls) c.in-Some-cut_last.ensures.0

-- the last segment is a snapshot's
base : (c : After-may_stand) → is_some (base_of c.in-Some.last.now) ≡ true
base c = ap is_some (sym c.base_of.ensures) ∙ is_some_copied c.base_of.result ∙ c.is_none.ensures ∙ ap not c.if-is_none.false

-- what the directory is
found : (c : After-may_stand) → c.may_stand.result ≡ true → directory_of (levels c.args.path.now) ≡ Ok (directory c.in-Some-cut_last.group.now c.in-Some-cut_last.artifact.now (Some c.in-Some.last.now))
found c stand = snapshot_judged (levels c.args.path.now) c.in-Some.last.now c.in-Some-cut_last.artifact.now c.in-Some-cut_last.group.now (split (goal.at.After-may_stand c).In-Some-cut_last) (base c) (sym c.may_stand.ensures ∙ stand)

pub returns-then-not-may_stand : goal.returns-then-not-may_stand
returns-then-not-may_stand c =
    sym (snapshot_refused (levels c.args.path.now) c.in-Some.last.now c.in-Some-cut_last.artifact.now c.in-Some-cut_last.group.now (split (goal.at.returns-then-not-may_stand c).In-Some-cut_last) (base (goal.at.returns-then-not-may_stand c).After-may_stand) (sym c.may_stand.ensures ∙ c.if-not-may_stand.true))

pub new-requires-2-clause-rule : goal.new-requires-2-clause-rule
new-requires-2-clause-rule c =
    (keeps_directory c.args.document.now c.args.path.now (directory c.in-Some-cut_last.group.now c.in-Some-cut_last.artifact.now (Some c.in-Some.last.now)) c.requires.plain c.requires.below (found (goal.at.new-requires-2-clause-rule c).After-may_stand c.if-not-may_stand.false)).0

pub new-requires-2-clause-text : goal.new-requires-2-clause-text
new-requires-2-clause-text c =
    (keeps_directory c.args.document.now c.args.path.now (directory c.in-Some-cut_last.group.now c.in-Some-cut_last.artifact.now (Some c.in-Some.last.now)) c.requires.plain c.requires.below (found (goal.at.new-requires-2-clause-text c).After-may_stand c.if-not-may_stand.false)).1

pub returns : goal.returns
returns c = ap (λ d. Ok d) c.new-2.ensures ∙ sym (found (goal.at.returns c).After-may_stand c.if-not-may_stand.false)
