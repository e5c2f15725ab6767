-- The numbers of the program as contracts see them, and what they keep.
use Rattle.std.specs.Prelude.{◌≡◌, ℕ, ◌≤◌, ◌==◌, List, map, count_by}
use Rattle.std.specs.Map.{values_of}
use Rattle.repo_model.specs.State as plain
use Rattle.repo_model.specs.State.{number_end}
use Rattle.blob_yard.specs.Numbers.{Numbers}
use Rattle.blob_yard.specs.Places.{numbers_of, is_draft, is_kept, is_condemned, leases_at, AreBelow}
use Rattle.blob_yard.specs.declared.places.Place.{Place}
use Rattle.blob_yard.specs.declared.yard.Yard.TheInside.{Inside}

-- the leases and their blobs
abbrev pub shown_leases : List (ℕ × ℕ) → List plain.Lease
shown_leases leases = map (λ e. record { number = e.0; blob = e.1 }) leases

abbrev pub numbers_from : List (ℕ × Place) → List (ℕ × ℕ) → ℕ → ℕ → ℕ → Numbers
numbers_from places leases next_draft next_lease next_session = record {
  yard = record {
    drafts = numbers_of is_draft places;
    leases = shown_leases leases;
    condemned = numbers_of is_condemned places;
    next_draft = next_draft;
    next_lease = next_lease;
    next_session = next_session;
  };
  kept = numbers_of is_kept places;
}

abbrev pub shown_numbers : Inside → Numbers
shown_numbers yard = numbers_from yard.places yard.leases.entries yard.next_draft yard.next_lease yard.next_session

-- each number has as many leases as are counted at its place
abbrev pub AreCounted : List (ℕ × Place) → List (ℕ × ℕ) → Type 0
AreCounted places leases = (n : ℕ) → leases_at n places ≡ count_by (λ blob. blob == n) (values_of leases)

-- numbers to come are greater than those that were drawn
pub record IsTight (yard : Inside) : Type 0 where
  pub drawn : AreBelow yard.next_draft yard.places
  pub lent : AreBelow yard.next_lease yard.leases.entries
  pub counted : AreCounted yard.places yard.leases.entries
  pub draft : yard.next_draft ≤ number_end
  pub lease : yard.next_lease ≤ number_end
  pub session : yard.next_session ≤ number_end
