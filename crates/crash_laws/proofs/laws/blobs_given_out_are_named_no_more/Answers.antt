use Rattle.crash_laws.proofs.GivenOut.{given-out-unnamed}
use Rattle.crash_laws.proofs.laws.blobs_given_out_are_named_no_more.Goals as goal

pub returns : goal.returns
returns c = given-out-unnamed
