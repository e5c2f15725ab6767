-- The kind of a path by the path rule, as `kind_of` answers it.
use Rattle.std.specs.Prelude.{◌≡◌, ℕ, List, ◌++◌, Option, Some, None, Result, Ok}
use Rattle.mvn_coords.specs.declared.fault.PathFault.{PathFault}
use Rattle.mvn_coords.specs.declared.fault.Side.{Side}
use Rattle.mvn_coords.specs.declared.kind.Kind.{Kind}
use Rattle.mvn_coords.specs.declared.kind.Kind.TheVariants.{File, FileSide, Doc, DocSide}
use Rattle.mvn_coords.specs.FileName.{◌>>=◌}
use Rattle.mvn_coords.specs.Layout.{Coordinates, Directory, Named, file, document, text_of, text_of_document}
use Rattle.mvn_coords.specs.Path.{Cut, Parts, parts_by, parts_of, suffix_of}

abbrev pub with_side : Named → Option Side → Kind
with_side (file c) None = File c
with_side (file c) (Some side) = FileSide c side
with_side (document d) None = Doc d
with_side (document d) (Some side) = DocSide d side

abbrev pub kind_of_parts : Parts → Kind
kind_of_parts p = with_side p.thing p.side

-- the kind of a path, or the first step that it breaks
abbrev pub kind : List ℕ → Result Kind PathFault
kind path = parts_of path >>= λ p. Ok (kind_of_parts p)

-- the kind of a path whose side suffix is cut off
abbrev pub kind_by : Cut → Result Kind PathFault
kind_by cut = parts_by cut >>= λ p. Ok (kind_of_parts p)

-- the one path of a kind
abbrev pub text_of_kind : Kind → List ℕ
text_of_kind (File c) = text_of c
text_of_kind (FileSide c side) = text_of c ++ suffix_of side
text_of_kind (Doc d) = text_of_document d
text_of_kind (DocSide d side) = text_of_document d ++ suffix_of side

-- a path is that of its kind, and the file or document of a side file has a path of its own
pub record IsExact : Type 0 where
  pub path : (path : List ℕ) (k : Kind) → kind path ≡ Ok k → text_of_kind k ≡ path
  pub file : (path : List ℕ) (c : Coordinates) (side : Side) → kind path ≡ Ok (FileSide c side) → kind (text_of c) ≡ Ok (File c)
  pub document : (path : List ℕ) (d : Directory) (side : Side) → kind path ≡ Ok (DocSide d side) → kind (text_of_document d) ≡ Ok (Doc d)
