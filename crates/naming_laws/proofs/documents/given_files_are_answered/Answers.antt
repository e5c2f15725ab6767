use Rattle.naming_laws.proofs.Answered.{snapshots-answered, releases-answered, all-answered}
use Rattle.naming_laws.proofs.documents.given_files_are_answered.Goals as goal

pub returns-clause-snapshots : goal.returns-clause-snapshots
returns-clause-snapshots c =
    λ settings s e later repo d served base newest entries apart sound legal answers own is. snapshots-answered settings s e later repo d served apart sound legal answers own base newest entries is

pub returns-clause-releases : goal.returns-clause-releases
returns-clause-releases c =
    λ settings s e later repo d served versions updated version apart sound legal answers own is among no_base.
    releases-answered settings s e later repo d served apart sound legal answers own versions updated version is among no_base

pub returns-clause-all : goal.returns-clause-all
returns-clause-all c =
    λ settings s e later repo d served versions updated row apart sound legal answers own is seen of_release.
    all-answered settings s e later repo d served apart sound legal answers own versions updated row is seen of_release
