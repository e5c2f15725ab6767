use Rattle.std.proofs.Common.{Some, None}
use Rattle.mvn_coords.proofs.Cuts.{cut_last_is}
use Rattle.ordered_rows.proofs.HomeLemmas.{above-none, above-one, above-two}
use Rattle.ordered_rows.proofs.homes.home_of.Goals as goal

pub returns-in_default : goal.returns-in_default
returns-in_default c = above-none c.args.path.now (cut_last_is c.args.path.now None c.in_default.ensures.cases)

pub returns-in-Some-rsplit_once : goal.returns-in-Some-rsplit_once
returns-in-Some-rsplit_once c =
    let directory = c.in-Some.directory.now in
    let first = cut_last_is c.args.path.now (Some (c.in-Some.directory, c.in-Some.field-0-1)) c.in-Some.ensures.cases in
    let second = cut_last_is directory (Some (c.in-Some-rsplit_once.home, c.in-Some-rsplit_once.field-0-1)) c.in-Some-rsplit_once.ensures.cases in
    above-two c.args.path.now directory c.in-Some.field-0-1.now c.in-Some-rsplit_once.home.now c.in-Some-rsplit_once.field-0-1.now first.0 second.0

pub returns-in-None : goal.returns-in-None
returns-in-None c =
    let directory = c.in-Some.directory.now in
    let first = cut_last_is c.args.path.now (Some (c.in-Some.directory, c.in-Some.field-0-1)) c.in-Some.ensures.cases in
    above-one c.args.path.now directory c.in-Some.field-0-1.now first.0 (cut_last_is directory None c.in-None.ensures.cases)
