-- What the core's type keeps is what a turn needs of its parts.
use native.Mathlib.Omega.{arith}
use Rattle.std.proofs.Common.{ℕ, ◌≤◌, refl}
use Rattle.std.specs.Prelude.{IsTrue}
use Rattle.repo_model.specs.Command.{Command, meets}
use Rattle.repo_model.specs.Effect.{recorded}
use Rattle.repo_model.specs.History.{latest_moment, ticked}
use Rattle.repo_model.specs.May.{AllMay}
use Rattle.repo_model.specs.Tables.{Tables}
use Rattle.repo_model.specs.Turn.{turn}
use Rattle.row_tables.specs.Leaving.{FitWhereTold, Shown}
use Rattle.repo_laws.specs.Holds.{Holds}
use Rattle.repo_laws.specs.Sound.{OnePlace, Sound}
use Rattle.repo_laws.proofs.Histories.{all-may-ticked, one-place-ticked, sound-ticked}
use Rattle.repo_laws.proofs.Holding.{effects-recorded}
use Rattle.repo_laws.proofs.Turns.{turn-can}
use Rattle.repo_core.specs.Turn.{MayRecord}
use Rattle.repo_core.specs.Whole.{IsKept, IsOrderly, Parts, Tell, counting, whole_of}
use Rattle.settings_laws.proofs.Apart.{named-apart}

module _ (p : Parts) (now : Shown) (kept : IsKept (whole_of p now)) where
  order_of : Sound p.settings p.state
  order_of =
      let order = kept.sound.order in
      record { rules = order.rules; rows = order.rows; proxies = order.proxies; files = order.files; sessions = order.sessions; draft = order.draft; lease = order.lease; session = order.session }

  places_of : OnePlace p.state
  places_of =
      let places = kept.sound.places in
      record { drawn = places.drawn; later = places.later; none = places.none; begun = places.begun; lent = places.lent }

  -- the parts are as orderly as a turn needs them
  pub orderly-kept : IsOrderly p
  orderly-kept = record { order = order_of; places = places_of; form = kept.form }

  held-at : (moment : ℕ) (t : Tables) → p.state.last ≤ moment → Holds t (counting now.faults p.state) → Holds t (ticked p.state moment now.faults)
  held-at moment t later held = record {
    rows = held.rows;
    files = held.files;
    documents = held.documents;
    ended = held.ended;
    opened = held.opened;
    next_session = held.next_session;
    drawn = held.drawn;
    loose = held.loose;
    moments = omega (arith, held.moments, later);
  }

  -- whatever its moment, what a turn records fits the tables
  fits-told : (command : Command) → IsTrue (meets p.settings command) → (moment : ℕ) → p.state.last ≤ moment → moment ≤ latest_moment → FitWhereTold now.tables (recorded (turn p.settings p.state moment command).effects)
  fits-told command met moment later limit t told =
      let effects = (turn p.settings p.state moment command).effects in
      let was : Tell (counting now.faults p.state) t = kept.told t told in
      let may : AllMay p.settings.grace moment p.state effects = turn-can p.settings.grace moment p.settings p.state order_of (named-apart p.settings kept.form) command met refl in
      (effects-recorded p.settings p.settings.grace moment effects (ticked p.state moment now.faults) t (all-may-ticked moment now.faults p.settings.grace moment effects p.state may) (omega arith)
      (sound-ticked p.settings p.state moment now.faults order_of) (one-place-ticked p.state moment now.faults places_of)
      (record { below = kept.sound.sessions.below; apart = kept.sound.sessions.apart }) was.order (held-at moment t later was.holds)).0

  pub may-record : now.IsReady → (command : Command) → IsTrue (meets p.settings command) → MayRecord p now command
  may-record ready command met = record { ready = ready; fits = fits-told command met }
