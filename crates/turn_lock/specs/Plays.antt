-- What each step tells the seat that takes it.
use Rattle.std.specs.Prelude.{◌≡◌, ◌≢◌, ℕ, ◌*◌, ◌≤◌, [], ◌∷◌, length, IfSome}
use mathlib.Core.Option.{some}
use Rattle.std.specs.declared.snapshot.Snapshot.{Snapshot}
use Rattle.atomic_table.specs.Table.{Me, Step}
use Rattle.turn_lock.specs.declared.view.View.{View}
use Rattle.turn_lock.specs.declared.view.Slot.{Slot}
use Rattle.turn_lock.specs.declared.view.Slot.TheVariants.{Home, Told}
use Rattle.turn_lock.specs.History.{Legal, end_of, entries_by, BeginsWith}
use Rattle.turn_lock.specs.Rule.{Sound}
use Rattle.turn_lock.specs.Views.{looked, drawn, holding, gave}

abbrev Mine : Type 0 → Type 0 → Type 0 → Type 0
Mine C R T = Me (Slot C R T) (View C R T)

module _ {C R T : Type 0} where
  -- the history was seen as far as it goes
  abbrev pub Looks : (T → C → R → T → Type 0) → Mine C R T → Mine C R T → Type 0
  Looks steps m w =
      BeginsWith w.0.seen m.0.seen × BeginsWith w.0.seen m.0.told
      × IfSome m.0.opening (λ opening. Legal steps opening w.0.seen)
      × Sound w.0
      × (w ≡ (looked m.0 w.0.seen, m.1))

  -- a number was drawn, which is none of those that were known to be given, and has no entry
  abbrev pub Draws : Mine C R T → Mine C R T → Type 0
  Draws m w = (k : ℕ) × (m.0.given ≤ k) × (entries_by k m.0.seen ≡ []) × (w ≡ (drawn m.0 k, m.1))

  -- the seat has the turn, and the object is the end of what it has seen; or nothing changed
  abbrev pub Takes : (T → C → R → T → Type 0) → Step (Slot C R T) → Mine C R T → ℕ → Mine C R T → Type 0
  Takes steps st m n w =
      (n ≢ st.first → w ≡ m)
      × (n ≡ st.first → (n ≡ 2 * length w.0.seen) × BeginsWith w.0.seen m.0.seen
      × IfSome m.0.opening (λ opening. Legal steps opening w.0.seen × (w.1 ≡ (0, Home (end_of opening w.0.seen)) ∷ []))
      × (w.0 ≡ holding m.0 w.0.seen))

  -- the turn is given back, with an entry of what was told and the object that was left
  abbrev pub Gives : Step (Slot C R T) → Mine C R T → Mine C R T → Type 0
  Gives st m w =
      (call : Snapshot C) (reply : Snapshot R) (after : T) → st.said ≡ some (Told call reply) → m.1 ≡ (0, Home after) ∷ []
      → Sound w.0
      × (w ≡ (gave m.0 (record { by = m.0.number; call = call.value; reply = reply.value; after = after }), []))
