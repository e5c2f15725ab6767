-- What clauses see of the types that this crate keeps private: a file's coordinates, a directory, a build, a civil time and a file name's ending, without the texts that they are cut from.
use Rattle.std.specs.Prelude.{◌≡◌}
use Rattle.std.specs.Option.{option_copied}
use Rattle.mvn_coords.specs.declared.coord.Coord.TheInside.{Inside as CoordInside}
use Rattle.mvn_coords.specs.declared.coord.Dir.TheInside.{Inside as DirInside}
use Rattle.mvn_coords.specs.Layout.{Coordinates, Directory, text_of, text_of_directory}
use Rattle.mvn_coords.specs.Path.{IsFile, IsDirectory}

abbrev pub coordinates_in : CoordInside → Coordinates
coordinates_in c = record {
  group = c.group.now;
  artifact = c.artifact.now;
  directory = c.dir.now;
  build = c.build;
  classifier = c.classifier.now;
  extension = c.extension.now;
}

-- the path rule gives these coordinates, and the text that they were cut from is their path
pub record KeepsFile (c : CoordInside) : Type 0 where
  pub rule : IsFile (coordinates_in c)
  pub text : c.path.now ≡ text_of (coordinates_in c)

abbrev pub directory_in : DirInside → Directory
directory_in d = record { group = d.group.now; artifact = d.artifact.now; version = option_copied d.version }

pub record KeepsDirectory (d : DirInside) : Type 0 where
  pub rule : IsDirectory (directory_in d)
  pub text : d.path.now ≡ text_of_directory (directory_in d)
