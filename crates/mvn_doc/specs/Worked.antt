-- Worked documents and their texts (Maven repository metadata 1.1.0).
use Rattle.std.specs.Prelude.{ℕ, List, [], ◌∷◌, ◌++◌, Some, None, codes}
use Rattle.mvn_coords.specs.Civil.{CivilTime}
use Rattle.mvn_coords.specs.Layout.{Directory}
use Rattle.mvn_metadata.specs.declared.listing.Listing.TheVariants.{Artifact, Snapshot}
use Rattle.mvn_metadata.specs.Document.{Document}

-- a line of text in front of others
infixr 5 ◌↵◌
abbrev pub ◌↵◌ : List ℕ → List ℕ → List ℕ
line ↵ lines = line ++ 10 ∷ lines

-- 2024-02-29 23:59:59 and 2024-03-01 08:00:00
abbrev pub leap_night : CivilTime
leap_night = record { year = 2024; month = 2; day = 29; hour = 23; minute = 59; second = 59 }

abbrev pub march_morning : CivilTime
march_morning = record { year = 2024; month = 3; day = 1; hour = 8; minute = 0; second = 0 }

-- the newest builds of a jar and a pom
abbrev pub snapshot_document : Document
snapshot_document = record {
  group = Some (codes "org.acme");
  artifact = Some (codes "lib");
  listing = Snapshot (codes "1.1-SNAPSHOT") (Some (record { stamp = march_morning; number = 2 }))
      ((record { classifier = []; extension = codes "jar" }, record { base = codes "1.1"; build = record { stamp = leap_night; number = 1 } })
      ∷ (record { classifier = []; extension = codes "pom" }, record { base = codes "1.1"; build = record { stamp = march_morning; number = 2 } })
      ∷ []);
}

abbrev pub snapshot_text : List ℕ
snapshot_text =
    codes "<?xml version=\"1.0\" encoding=\"UTF-8\"?>"
    ↵ codes "<metadata modelVersion=\"1.1.0\">"
    ↵ codes "  <groupId>org.acme</groupId>"
    ↵ codes "  <artifactId>lib</artifactId>"
    ↵ codes "  <version>1.1-SNAPSHOT</version>"
    ↵ codes "  <versioning>"
    ↵ codes "    <snapshot>"
    ↵ codes "      <timestamp>20240301.080000</timestamp>"
    ↵ codes "      <buildNumber>2</buildNumber>"
    ↵ codes "    </snapshot>"
    ↵ codes "    <lastUpdated>20240301080000</lastUpdated>"
    ↵ codes "    <snapshotVersions>"
    ↵ codes "      <snapshotVersion>"
    ↵ codes "        <extension>jar</extension>"
    ↵ codes "        <value>1.1-20240229.235959-1</value>"
    ↵ codes "        <updated>20240229235959</updated>"
    ↵ codes "      </snapshotVersion>"
    ↵ codes "      <snapshotVersion>"
    ↵ codes "        <extension>pom</extension>"
    ↵ codes "        <value>1.1-20240301.080000-2</value>"
    ↵ codes "        <updated>20240301080000</updated>"
    ↵ codes "      </snapshotVersion>"
    ↵ codes "    </snapshotVersions>"
    ↵ codes "  </versioning>"
    ↵ codes "</metadata>"
    ↵ []

-- one version that is a snapshot
abbrev pub artifact_document : Document
artifact_document = record {
  group = Some (codes "org.acme");
  artifact = Some (codes "lib");
  listing = Artifact (codes "1.1-SNAPSHOT" ∷ [])
      (Some (record { year = 2024; month = 2; day = 29; hour = 12; minute = 0; second = 0 }));
}

abbrev pub artifact_text : List ℕ
artifact_text =
    codes "<?xml version=\"1.0\" encoding=\"UTF-8\"?>"
    ↵ codes "<metadata modelVersion=\"1.1.0\">"
    ↵ codes "  <groupId>org.acme</groupId>"
    ↵ codes "  <artifactId>lib</artifactId>"
    ↵ codes "  <versioning>"
    ↵ codes "    <latest>1.1-SNAPSHOT</latest>"
    ↵ codes "    <versions>"
    ↵ codes "      <version>1.1-SNAPSHOT</version>"
    ↵ codes "    </versions>"
    ↵ codes "    <lastUpdated>20240229120000</lastUpdated>"
    ↵ codes "  </versioning>"
    ↵ codes "</metadata>"
    ↵ []

-- versions twice and in no order, and the document that is read
abbrev pub unsorted_text : List ℕ
unsorted_text =
    codes "<metadata><groupId> x </groupId><versioning><versions><version>1.0</version>"
    ++ codes "<version>1</version><version>1.0</version></versions></versioning></metadata>"

abbrev pub sorted_document : Document
sorted_document = record {
  group = Some (codes "x");
  artifact = None;
  listing = Artifact (codes "1" ∷ codes "1.0" ∷ []) None;
}

-- the same as that of the artifact `lib` of the group `org.acme`
abbrev pub directory : Directory
directory = record { group = codes "org/acme"; artifact = codes "lib"; version = None }

abbrev pub releases_text : List ℕ
releases_text =
    codes "<?xml version=\"1.0\" encoding=\"UTF-8\"?>"
    ↵ codes "<metadata modelVersion=\"1.1.0\">"
    ↵ codes "  <groupId>org.acme</groupId>"
    ↵ codes "  <artifactId>lib</artifactId>"
    ↵ codes "  <versioning>"
    ↵ codes "    <latest>1.0</latest>"
    ↵ codes "    <release>1.0</release>"
    ↵ codes "    <versions>"
    ↵ codes "      <version>1</version>"
    ↵ codes "      <version>1.0</version>"
    ↵ codes "    </versions>"
    ↵ codes "  </versioning>"
    ↵ codes "</metadata>"
    ↵ []
