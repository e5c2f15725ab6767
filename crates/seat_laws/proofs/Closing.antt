-- What a seat has seen is a closed history.
use Rattle.std.proofs.Common.{List, [], ◌∷◌, map}
use Rattle.repo_model.specs.History.{Entry, Legal, after}
use Rattle.repo_model.specs.Settings.{Settings}
use Rattle.repo_model.specs.State.{State}
use Rattle.repo_laws.specs.Sound.{AreNamedApart, IsSound}
use Rattle.repo_laws.proofs.Closed.{closed}
use Rattle.repo_laws.proofs.Keeping.{ends-sound, keeps-sound}
use Rattle.repo_laws.proofs.Lasting.{releases-last}
use Rattle.repo_laws.proofs.Readers.{readers-last}
use Rattle.repo_laws.proofs.Untouched.{untouched}
use Rattle.turn_lock.specs.declared.view.Entry.{Entry as Call}
use Rattle.turn_seats.specs.Histories.{IsHistory}
use Rattle.turn_seats.specs.Seated.{Sight, entry_of}
use Rattle.seat_laws.specs.Closing.{IsFit, KeepsAll, ReleasesStay, SeesAll}

releases : (settings : Settings) → AreNamedApart settings.hosted → (entries : List Entry) (s : State) → IsSound settings s → Legal settings s entries
    → ReleasesStay settings s entries
releases settings apart [] s sound legal = tt
releases settings apart (e ∷ entries) s sound legal = (
  releases-last settings apart (e ∷ entries) s sound.order sound.fading legal,
  releases settings apart entries (after settings s e) (keeps-sound settings apart s e sound legal.0) legal.1,
)

keeps-all : (settings : Settings) → AreNamedApart settings.hosted → (entries : List Entry) (s : State) → IsSound settings s → Legal settings s entries
    → KeepsAll settings s entries
keeps-all settings apart entries s sound legal = record {
  legal = legal;
  closed = closed settings apart entries s sound.order legal;
  untouched = untouched settings apart entries s sound.order sound.places legal;
  readers = readers-last settings apart entries s legal;
  releases = releases settings apart entries s sound legal;
  sound = ends-sound settings apart s entries sound legal;
}

pub sees-all : {T C R : Type 0} (sight : Sight T C R) (x : T) (calls : List (Call C R T)) → IsFit sight x → IsHistory sight x calls → SeesAll sight x calls
sees-all sight x calls fit history = record {
  history = keeps-all (sight.settings x) fit.apart (map (entry_of sight) calls) (sight.state x) fit.sound history.legal;
  state_is = history.ends;
  settings_are = history.same;
}
