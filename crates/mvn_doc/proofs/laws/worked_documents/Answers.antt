use Rattle.std.proofs.Common.{refl}
use Rattle.xml_subset.specs.Token.{first_token}
use Rattle.mvn_doc.proofs.laws.worked_documents.Goals as goal

pub returns : goal.returns
unfolding first_token
returns c = record {
  snapshot = refl;
  artifact = refl;
  unsorted = refl;
  sorted = refl;
  no_end = refl;
  other_close_tag = refl;
  text_after = refl;
  document_type = refl;
}
