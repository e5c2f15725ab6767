use Rattle.std.proofs.Common.{◌≡◌, [], Option, Some, None, inl, refl, rules, arith}
use Rattle.std.specs.Prelude.{is_none, false}
use Rattle.mvn_coords.specs.Path.{parts_of}
use Rattle.mvn_coords.specs.Calendar.{civil_of, year_from, month_from}
use Rattle.mvn_metadata.specs.Document.{Document}
use Rattle.repo_model.specs.Document.{document}
use Rattle.repo_model.specs.History.{due, end}
use Rattle.repo_model.specs.State.{rows_of}
use Rattle.repo_laws.specs.Worked.{artifact, artifact_document, releases, shop}
use Rattle.served_laws.specs.Worked.{document_asked, empty, release_put}
use Rattle.served_laws.proofs.laws.worked_file_is_named.Goals as goal

some-of : (told : Option Document) → is_none told ≡ false → (served : Document) × (told ≡ Some served)
some-of None there = absurd (cc)
some-of (Some served) there = (served, refl)

pub returns-clause-legal : goal.returns-clause-legal
unfolding parts_of civil_of year_from month_from
returns-clause-legal c = search (rules, due)

pub returns-clause-named : goal.returns-clause-named
unfolding parts_of civil_of year_from month_from some-of
returns-clause-named c =
    let (served, is) = some-of (document artifact (rows_of releases (end shop empty release_put))) refl in
    record {
      first = release_put;
      asked = document_asked;
      rest = [];
      parts = refl;
      directory = artifact;
      served = served;
      answers = (releases, artifact_document, [], refl, inl refl, refl, is, refl);
      names = inl refl;
      in_time = omega arith;
    }
