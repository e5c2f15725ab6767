use Rattle.repo_laws.proofs.Served.{document-answered, side-answered}
use Rattle.repo_laws.proofs.documents.documents_are_computed.Goals as goal

pub returns-clause-document : goal.returns-clause-document
returns-clause-document c = λ settings s e repo path tried d bytes digests fits looks kind_is says_it. document-answered settings s e repo path tried d fits looks bytes digests kind_is says_it

pub returns-clause-side : goal.returns-clause-side
returns-clause-side c = λ settings s e repo path tried d side bytes fits looks kind_is says_it. side-answered settings s e repo path tried d fits looks side bytes kind_is says_it
