use Rattle.std.proofs.Common.{refl}
use Rattle.std.specs.Char.{encode_utf8}
use Rattle.xml_subset.specs.Token.{first_token}
use Rattle.xml_subset.proofs.laws.worked_documents.Goals as goal

pub returns : goal.returns
unfolding first_token encode_utf8
returns c = record {
  attributes_twice = refl;
  own_text = refl;
}
