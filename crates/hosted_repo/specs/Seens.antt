-- What a look at a repository gives, as the machine's plain data.
use Rattle.std.specs.Prelude.{Bool, true, false, Option, Some, None, Result, Ok}
use Rattle.outside.specs.declared.stores.Held.{Ghosts}
use Rattle.mvn_coords.specs.declared.fault.PathFault.{PathFault}
use Rattle.mvn_coords.specs.declared.kind.Kind.{Kind}
use Rattle.mvn_coords.specs.declared.kind.Kind.TheVariants as kind
use Rattle.repo_model.specs.Shown.{shown_parcel}
use Rattle.repo_model.specs.Turn as turn
use Rattle.hosted_repo.specs.declared.seen.Seen.{Seen}
use Rattle.hosted_repo.specs.declared.seen.Seen.TheVariants as got

abbrev pub shown_seen : {X : Type 0} {G : Ghosts X} → Option (Seen X G) → turn.Seen
shown_seen None = turn.is_nothing
shown_seen (Some (got.File parcel)) = turn.is_file (shown_parcel parcel.now)
shown_seen (Some (got.Text text)) = turn.is_text text
shown_seen (Some (got.Doc doc)) = turn.is_doc doc.text

-- whether a path names a document or its side file
abbrev pub is_of_document : Result Kind PathFault → Bool
is_of_document (Ok (kind.Doc d)) = true
is_of_document (Ok (kind.DocSide d side)) = true
is_of_document _ = false
