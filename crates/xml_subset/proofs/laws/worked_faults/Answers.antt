use Rattle.std.proofs.Common.{refl}
use Rattle.xml_subset.specs.Token.{first_token}
use Rattle.xml_subset.proofs.laws.worked_faults.Goals as goal

pub returns : goal.returns
unfolding first_token
returns c = record {
  no_end = refl;
  other_close_tag = refl;
  text_after = refl;
  document_type = refl;
  character_0 = refl;
  section = refl;
}
