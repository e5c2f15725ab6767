-- A file that a start answers has the bytes that were acknowledged under its number, where the store kept them.
use Rattle.std.proofs.Common.{◌≡◌, ℕ, false, List, Option, Some, subst, ◌∙◌}
use Rattle.std.specs.Prelude.{IfSome}
use Rattle.std.specs.Option.{ForSome}
use Rattle.outside.specs.Blobs.{Numbered, bytes_at}
use Rattle.repo_model.specs.Data.{Row}
use Rattle.repo_model.specs.Settings.{Settings}
use Rattle.repo_model.specs.State.{is_among}
use Rattle.repo_model.specs.Tables.{Tables}
use Rattle.crash_laws.specs.Runs.{IsAnsweredAgain, IsAnsweredWhole, IsAnsweredWith}
use Rattle.crash_laws.proofs.Stores.{told-there}

pub answered-whole : (settings : Settings) (repo : List ℕ) (row : Row) (gone : List ℕ) (u : Tables) → is_among row.blob.number gone ≡ false → IsAnsweredAgain settings repo row u → IsAnsweredWhole settings gone repo row u
answered-whole settings repo row gone u off again acknowledged bytes stood found keeps tells them told standing =
    let n = row.blob.number in
    let (those, acknowledged_told, at) = told-there n bytes acknowledged.blobs stood in
    let kept =
    subst (λ (o : Option Numbered). IfSome o (λ them. ForSome acknowledged.blobs (λ those. (m : ℕ) (content : List ℕ) → is_among m gone ≡ false → bytes_at m those ≡ Some content → bytes_at m them ≡ Some content)))
    told keeps in
    subst (λ (content : Option (List ℕ)). IsAnsweredWith settings tells repo row content u) (standing n ∙ kept those acknowledged_told n bytes off at) (again tells)
