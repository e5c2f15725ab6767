-- Paths with their kinds, written out (Maven 2 repository layout).
use Rattle.std.specs.Prelude.{◌≡◌, Some, None, Ok, Err, codes}
use Rattle.mvn_coords.specs.declared.fault.PathFault.TheVariants.{Empty, BadSegment, BadSide, Short, NotNamed, LiteralSnapshot, BadStamp, BadBuild}
use Rattle.mvn_coords.specs.declared.fault.Side.TheVariants.{Sha1, Sha256, Sha512}
use Rattle.mvn_coords.specs.declared.kind.Kind.TheVariants.{File, FileSide, Doc, DocSide}
use Rattle.mvn_coords.specs.Layout.{Coordinates, directory}
use Rattle.mvn_coords.specs.Kind.{kind}

-- the jar of org.acme:lib:1.0, and one of a snapshot
abbrev pub jar : Coordinates
jar = record {
  group = codes "org/acme";
  artifact = codes "lib";
  directory = codes "1.0";
  build = None;
  classifier = codes "";
  extension = codes "jar";
}

abbrev pub snapshot_jar : Coordinates
snapshot_jar = record {
  group = codes "org/acme";
  artifact = codes "lib";
  directory = codes "1.1-SNAPSHOT";
  build = Some (record {
    stamp = record { year = 2024; month = 2; day = 29; hour = 23; minute = 59; second = 59 };
    number = 1;
  });
  classifier = codes "all";
  extension = codes "jar";
}

pub record WorkedPaths : Type 0 where
  pub empty : kind (codes "") ≡ Err Empty
  pub short : kind (codes "a/b.jar") ≡ Err Short
  pub release : kind (codes "org/acme/lib/1.0/lib-1.0.jar") ≡ Ok (File jar)
  pub side : kind (codes "org/acme/lib/1.0/lib-1.0.jar.sha1") ≡ Ok (FileSide jar Sha1)
  pub further_side : kind (codes "org/acme/lib/1.0/lib-1.0.jar.sha256") ≡ Ok (FileSide jar Sha256)
  pub document_side : kind (codes "org/acme/lib/maven-metadata.xml.sha512") ≡ Ok (DocSide (directory (codes "org/acme") (codes "lib") None) Sha512)
  pub two_sides : kind (codes "org/acme/lib/1.0/lib-1.0.jar.sha256.sha1") ≡ Err BadSide
  pub not_named : kind (codes "org/acme/lib/1.0/other-1.0.jar") ≡ Err NotNamed
  pub bad_segment : kind (codes "org/../lib/1.0/lib-1.0.jar") ≡ Err BadSegment
  pub snapshot : kind (codes "org/acme/lib/1.1-SNAPSHOT/lib-1.1-20240229.235959-1-all.jar") ≡ Ok (File snapshot_jar)
  pub bad_stamp : kind (codes "org/acme/lib/1.1-SNAPSHOT/lib-1.1-20230229.235959-1.jar") ≡ Err BadStamp
  pub bad_build : kind (codes "org/acme/lib/1.1-SNAPSHOT/lib-1.1-20240229.235959-01.jar") ≡ Err BadBuild
  pub literal : kind (codes "org/acme/lib/1.1-SNAPSHOT/lib-1.1-SNAPSHOT.jar") ≡ Err LiteralSnapshot
  pub document : kind (codes "org/acme/lib/maven-metadata.xml") ≡ Ok (Doc (directory (codes "org/acme") (codes "lib") None))
  pub snapshot_document : kind (codes "org/acme/lib/1.1-SNAPSHOT/maven-metadata.xml") ≡ Ok (Doc (directory (codes "org/acme") (codes "lib") (Some (codes "1.1-SNAPSHOT"))))
