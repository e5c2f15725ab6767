use Rattle.std.proofs.Common.{List, subst}
use Rattle.repo_model.specs.History.{Entry, Legal}
use Rattle.repo_course.specs.Serving.{AllTell}
use Rattle.closed_laws.specs.Streams.{ShowsWhatWasNamed}
use Rattle.closed_laws.proofs.NamedStreams.{turn-shows}
use Rattle.served_laws.proofs.Runs.{begun-closed, begun-records}
use Rattle.served_laws.proofs.Showing.{served-shows}
use Rattle.served_laws.proofs.laws.replays_serve_named_files.Goals as goal

pub returns : goal.returns
returns g c settings old new ending calls r =
    let start = r.begun.state in
    let closed = begun-closed settings old.records old.place.resources.blobs r.cleared old.clock r.begun r.begins r.entries r.legal in (
      closed,
      served-shows settings (AllTell g.H.Held.bytes) (ShowsWhatWasNamed settings start) r.entries
          (λ before more later e from turn is parts turned.
          turn-shows settings (AllTell g.H.Held.bytes) closed.apart start closed.sound before more later e from turn is
          (subst (λ (es : List Entry). Legal settings start es) parts r.legal) turned)
          closed.apart start closed.sound r.entries _ _ ending r.serves,
      begun-records settings old.records old.place.resources.blobs r.cleared old.clock r.begun r.begins new.records r.core r.entries r.made r.holds,
    )
