-- A sound state stays sound: through an entry and through a history.
use native.Mathlib.Omega.{arith}
use Rattle.std.proofs.Common.{ℕ, List, [], ◌∷◌, Option, refl}
use Rattle.outside.specs.Moments.{Moments}
use Rattle.repo_model.specs.Settings.{Settings}
use Rattle.repo_model.specs.State.{State, opening}
use Rattle.repo_model.specs.History.{Entry, Fits, ticked, after, Legal, end}
use Rattle.repo_laws.specs.Laws.{FadingAreSnapshots}
use Rattle.repo_laws.specs.Sound.{AreNamedApart, LentOnce, AreRising, IsSound}
use Rattle.repo_laws.proofs.Histories.{entry-keeps, sound-entry, one-place-entry, sound-opening, one-place-opening}
use Rattle.repo_laws.proofs.Holding.{numbered-entry, opening-numbered}
use Rattle.repo_laws.proofs.Lasting.{opening-rightly}
use Rattle.repo_laws.proofs.Leases.{leases-kept, condemned-rising}
use Rattle.repo_laws.proofs.Moments.{last-capped}
use Rattle.repo_laws.proofs.Releases.{rightly-kept}

lent-ticked : (s : State) (moment faults : ℕ) → LentOnce s → LentOnce (ticked s moment faults)
lent-ticked s moment faults old = record { once = old.once; later = old.later; none = old.none; begun = old.begun }

module _ (settings : Settings) (apart : AreNamedApart settings.hosted) where
  pub keeps-sound : (s : State) (e : Entry) → IsSound settings s → Fits settings s e → IsSound settings (after settings s e)
  keeps-sound s e old fits = record {
    order = sound-entry settings apart s e fits old.order;
    places = one-place-entry settings apart s e fits old.order old.places;
    leases = entry-keeps settings apart s e LentOnce fits old.order (λ t f sound may kept. leases-kept t f kept) (lent-ticked s e.moment e.faults old.leases);
    sessions = numbered-entry settings apart s e fits old.order old.sessions;
    condemned = entry-keeps settings apart s e (λ t. AreRising t.yard.condemned) fits old.order (λ t f sound may kept. condemned-rising t f kept) old.condemned;
    fading = entry-keeps settings apart s e FadingAreSnapshots fits old.order (λ t f sound may kept. rightly-kept settings.grace e.moment t f kept may) old.fading;
    last = last-capped settings s e old.last fits;
  }

  pub ends-sound : (s : State) (entries : List Entry) → IsSound settings s → Legal settings s entries → IsSound settings (end settings s entries)
  ends-sound s [] old legal = old
  ends-sound s (e ∷ entries) old legal = ends-sound (after settings s e) entries (keeps-sound s e old legal.0) legal.1

pub opens-sound : (settings : Settings) (clock : Option Moments) → IsSound settings (opening settings clock)
opens-sound settings clock = record {
  order = sound-opening settings clock;
  places = one-place-opening settings clock;
  leases = record { once = λ n. omega arith; later = λ n above. refl; none = refl; begun = omega arith };
  sessions = opening-numbered settings clock;
  condemned = tt;
  fading = opening-rightly settings clock;
  last = omega arith;
}
