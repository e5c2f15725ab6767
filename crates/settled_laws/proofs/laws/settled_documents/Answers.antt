use Rattle.settled_laws.proofs.SettledTexts.{settled-fits, settled-twice}
use Rattle.settled_laws.proofs.laws.settled_documents.Goals as goal

pub returns : goal.returns
returns c = record { fits = settled-fits; once = settled-twice }
