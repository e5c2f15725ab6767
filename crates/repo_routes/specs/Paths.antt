-- What a path of a repository names once its escapes are read, and how long a body may be put there (RFC 3986, section 2.1; RFC 9110, section 15.5.14).
use Rattle.std.specs.Prelude.{ℕ, nat_le, if◌then◌else◌, List, Option, Some, None, Result, Ok, Err}
use Rattle.std.specs.Str.{is_utf8}
use Rattle.percent_encoding.specs.Percent.{percent_decode}
use Rattle.mvn_coords.specs.Kind.{kind}
use Rattle.mvn_coords.specs.declared.kind.Kind.{Kind}
use Rattle.mvn_coords.specs.declared.kind.Kind.TheVariants.{File, FileSide, Doc, DocSide}
use Rattle.mvn_coords.specs.declared.fault.PathFault.{PathFault}
use Rattle.mvn_coords.specs.declared.fault.PathFault.TheVariants.{BadSegment}
use Rattle.mvn_coords.specs.declared.fault.Side.{Side}
use Rattle.http_wire.specs.Head.{Head}
use Rattle.repo_model.specs.Data.{Place}
use Rattle.repo_model.specs.Settings.{Settings}
use Rattle.repo_routes.specs.declared.refusal.Refusal.{Refusal}
use Rattle.repo_routes.specs.declared.refusal.Refusal.TheVariants as refusal
use Rattle.repo_routes.specs.declared.paths.Thing.{Thing}
use Rattle.repo_routes.specs.declared.paths.Thing.TheVariants as thing
use Rattle.repo_routes.specs.Framing.{is_put}
use Rattle.repo_routes.specs.Intent.{Intent, reads, puts_file, puts_side, puts_document}
use Rattle.repo_routes.specs.Routes.{sort_of}
use Rattle.repo_routes.specs.Steps.{◌>>=◌, ◌>>◌, need}

-- the longest side file and the longest document, in bytes
abbrev pub longest_side : ℕ
longest_side = 1024

abbrev pub longest_document : ℕ
longest_document = 1048576

-- what a path names, without its coordinates
abbrev pub thing_of : Kind → Thing
thing_of (File c) = thing.File
thing_of (FileSide c side) = thing.Side side
thing_of (Doc d) = thing.Document
thing_of (DocSide d side) = thing.Side side

-- a path that names nothing is a fault of what is put, and else nothing is there
unfoldable pub path_refusal : Head → PathFault → Refusal
path_refusal head fault = if is_put head then refusal.BadPath fault else refusal.NoPath fault

-- the path without its escapes; one that is no text has a bad segment
unfoldable pub decoded : Head → List ℕ → Result (List ℕ) Refusal
decoded head written =
    let path = percent_decode written in
    if is_utf8 path then Ok path else Err (path_refusal head BadSegment)

abbrev pub thing_or : (PathFault → Refusal) → Result Kind PathFault → Result Thing Refusal
thing_or cause (Ok k) = Ok (thing_of k)
thing_or cause (Err fault) = Err (cause fault)

unfoldable pub thing_at : Head → List ℕ → Result Thing Refusal
thing_at head path = thing_or (path_refusal head) (kind path)

-- the longest body that may be put there
unfoldable pub limit_of : Settings → Thing → ℕ
limit_of settings thing.File = settings.max_file
limit_of settings thing.Document = longest_document
limit_of settings (thing.Side side) = longest_side

unfoldable pub check_limit : ℕ → ℕ → Result (Unit {0}) Refusal
check_limit limit length = need (nat_le length limit) (refusal.TooLarge limit)

abbrev pub put_of : Place → List ℕ → ℕ → Thing → Intent
put_of place path length thing.File = puts_file place path length
put_of place path length thing.Document = puts_document place path length
put_of place path length (thing.Side side) = puts_side place path side length

-- a PUT of a body that is not too long
unfoldable pub put_at : Settings → Place → List ℕ → ℕ → Thing → Result Intent Refusal
put_at settings place path length what = do
  check_limit (limit_of settings what) length
  Ok (put_of place path length what)

-- what is put at a path of a place, as written
unfoldable pub put_to : Settings → Head → ℕ → Place → List ℕ → Result Intent Refusal
put_to settings head length place written = do
  path ← decoded head written
  what ← thing_at head path
  put_at settings place path length what

-- what is read at a path of a repository, as written
unfoldable pub read_from : Settings → Head → List ℕ → List ℕ → Result Intent Refusal
read_from settings head repo written = do
  path ← decoded head written
  thing_at head path
  Ok (reads repo path (sort_of repo settings))

-- the side that a path is a side file of
abbrev pub side_of : Result Kind PathFault → Option Side
side_of (Ok (FileSide c side)) = Some side
side_of (Ok (DocSide d side)) = Some side
side_of _ = None
