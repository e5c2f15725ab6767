use Rattle.naming_laws.proofs.Artifacts.{artifact-given, artifact-releases, artifact-each}
use Rattle.naming_laws.proofs.DocumentsDescribe.{document-so, document-none, row-visible}
use Rattle.naming_laws.proofs.Snapshots.{snapshot-given, snapshot-each, snapshot-newest, named-visible, one-named}
use Rattle.naming_laws.proofs.documents.documents_name_their_rows.Goals as goal

pub returns-clause-described : goal.returns-clause-described
returns-clause-described c = document-so

pub returns-clause-none : goal.returns-clause-none
returns-clause-none c = document-none

pub returns-clause-listed : goal.returns-clause-listed
returns-clause-listed c = row-visible

pub returns-clause-visible : goal.returns-clause-visible
returns-clause-visible c = named-visible

pub returns-clause-of_versions : goal.returns-clause-of_versions
returns-clause-of_versions c = artifact-given

pub returns-clause-releases : goal.returns-clause-releases
returns-clause-releases c = artifact-releases

pub returns-clause-each_version : goal.returns-clause-each_version
returns-clause-each_version c = artifact-each

pub returns-clause-of_builds : goal.returns-clause-of_builds
returns-clause-of_builds c = snapshot-given

pub returns-clause-each_build : goal.returns-clause-each_build
returns-clause-each_build c = snapshot-each

pub returns-clause-newest : goal.returns-clause-newest
returns-clause-newest c = snapshot-newest

pub returns-clause-some : goal.returns-clause-some
returns-clause-some c = one-named
