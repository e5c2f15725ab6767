-- A repository that begins where nothing is recorded or stored.
use Rattle.std.proofs.Common.{◌≡◌, ℕ, [], Option, Some, refl, sym, ap, ◌∙◌, subst}
use Rattle.std.specs.Prelude.{IfSome}
use Rattle.std.specs.Option.{option_map}
use Rattle.std.specs.Map.{keys_of}
use Rattle.outside.specs.Blobs.{Shelf}
use Rattle.outside.specs.Moments.{Moments}
use Rattle.outside.specs.Told.{IsWhereTold}
use Rattle.repo_model.specs.Restart.{blobs_named}
use Rattle.repo_model.specs.Settings.{Settings}
use Rattle.repo_model.specs.State.{opening}
use Rattle.repo_model.specs.Tables.{Tables, no_tables}
use Rattle.repo_restart.specs.Leftovers.{left_over, without_blobs}
use Rattle.repo_core.specs.Whole.{Whole, counting}
use Rattle.repo_course.specs.Cleaning.{Store, store}
use Rattle.store_check.specs.Checking.{Recorded}
use Rattle.repo_run.specs.Begun.{Begins, IsFresh}

module _ (settings : Settings) (records records' : Recorded) (old new : Store) (clock : Option Moments) (core : Whole) (fresh : IsFresh records records' old)
    (begins : Begins settings records old new clock core) where
  -- its state is the opening one
  pub fresh-state : core.state ≡ opening settings clock
  fresh-state =
      let over-tables : no_tables ≡ no_tables → IfSome old.shelf.blobs (λ them. them ≡ [] → core.state ≡ counting records.faults (opening settings clock)) =
      subst (λ (told : Option Tables). IfSome told (λ t. t ≡ no_tables → IfSome old.shelf.blobs (λ them. them ≡ [] → core.state ≡ counting records.faults (opening settings clock))))
      fresh.no_tables begins.opens in
      let over-blobs : [] ≡ [] → core.state ≡ counting records.faults (opening settings clock) =
      subst (λ told. IfSome told (λ them. them ≡ [] → core.state ≡ counting records.faults (opening settings clock))) fresh.no_blobs (over-tables refl) in
      over-blobs refl ∙ ap (λ (n : ℕ). counting n (opening settings clock)) fresh.unfailed

  none-stored : begins.starts.stored ≡ []
  none-stored =
      let listed : IsWhereTold (Some []) begins.starts.stored =
      subst (λ told. IsWhereTold (option_map keys_of told) begins.starts.stored) fresh.no_blobs begins.starts.listed in
      sym listed

  -- nothing was removed of its store
  pub fresh-store : new ≡ old
  fresh-store =
      let shelf : new.shelf ≡ old.shelf =
      begins.starts.removed ∙ ap (λ numbers. without_blobs (left_over (blobs_named begins.tables) numbers) old.shelf) none-stored in
      ap (λ (s : Shelf). store s new.faults) shelf ∙ ap (store old.shelf) begins.still
