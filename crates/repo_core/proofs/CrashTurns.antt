-- A turn of the core, as what it does to what a crash leaves of the records.
use Rattle.std.proofs.Common.{◌≡◌, ◌⊎◌, List, [], Option, None, inl, inr, refl, sym, ap, subst, ◌∙◌}
use Rattle.std.specs.Prelude.{if◌then◌else◌}
use Rattle.repo_model.specs.declared.item.Item.{Item}
use Rattle.repo_model.specs.Command.{Command, collect}
use Rattle.repo_model.specs.Effect.{recorded}
use Rattle.repo_model.specs.History.{Entry, effects_of}
use Rattle.repo_model.specs.Reply.{Reply, collected, no_memory, store_fault, is_free}
use Rattle.repo_model.specs.Settings.{Settings}
use Rattle.repo_model.specs.State.{State}
use Rattle.repo_model.specs.Tables.{Tables}
use Rattle.repo_model.specs.Turn.{turn}
use Rattle.row_tables.specs.Commits.{tables_with}
use Rattle.row_tables.specs.Crashing.{HasCollected, Crashing, fails, stays, tried, undone}
use Rattle.row_tables.specs.Leaving.{Leaves, Shown, end_by}
use Rattle.row_tables.specs.Crashes.{HasNotCommitted, IsCommitted, IsLeftOut, CrashesInside, Rests, Unsettled, left_by}
use Rattle.row_tables.proofs.OneOf.{leaves-more}
use Rattle.repo_core.specs.Turn.{IsSettled}
use Rattle.row_tables.proofs.Leavings.{told_same}

-- where nothing is done
still : (told : Option Tables) (now : Unsettled) → Rests told now → CrashesInside told told now now
still told now rests t u told-t told-u = leaves-more (left_by t now.pending) (left_by u now.pending) now.trace now.trace (rests t told-t)

-- nothing is pending after a Collect that collected
settled-or : (reply : Reply) (command : Command) (now : Unsettled) → IsSettled command reply now → (HasCollected reply command → ⊥) ⊎ (now.pending ≡ None)
settled-or (collected expired blobs) collect now settled = inr settled
settled-or (collected expired blobs) command now settled = inl (λ is. is)
settled-or reply command now settled = inl (λ is. is)

module _ (settings : Settings) (s : State) (e : Entry) (old new : Shown) (rests : Rests old.tables old.unsettled) (now : Rests new.tables new.unsettled) where
  abbrev due : List Item
  due = tried settings s e

  abbrev Passes : Option Tables → Type 0
  Passes tables = CrashesInside old.tables tables old.unsettled new.unsettled

  same-passes : new.tables ≡ old.tables → new.unsettled ≡ old.unsettled → Passes new.tables
  same-passes tables same = subst Passes (sym tables) (subst (CrashesInside old.tables old.tables old.unsettled) (sym same) (still old.tables old.unsettled rests))

  -- nothing was recorded
  left-out : (HasCollected e.reply e.command → ⊥) → recorded (effects_of settings s e) ≡ [] → new.tables ≡ old.tables → IsLeftOut old.tables old.unsettled new.unsettled
      → Crashing settings s e old.tables new.tables old.unsettled new.unsettled
  left-out free none tables (inl same) = record { pends = stays none free (ap (λ (u : Unsettled). u.pending) same); passes = same-passes tables same; rests = now }
  left-out free none tables (inr (inl gone, passes)) = record { pends = undone gone; passes = subst Passes (sym tables) passes; rests = now }
  left-out free none tables (inr (inr was, passes)) = record { pends = stays none free was; passes = subst Passes (sym tables) passes; rests = now }

  has-failed : (HasCollected e.reply e.command → ⊥) → e.reply ≡ store_fault → recorded (effects_of settings s e) ≡ [] → new.tables ≡ old.tables → HasNotCommitted due old.tables old.unsettled new.unsettled
      → Crashing settings s e old.tables new.tables old.unsettled new.unsettled
  has-failed free failed none tables (inl gone, passes) = record { pends = undone gone; passes = subst Passes (sym tables) passes; rests = now }
  has-failed free failed none tables (inr (inl was), passes) = record { pends = stays none free was; passes = subst Passes (sym tables) passes; rests = now }
  has-failed free failed none tables (inr (inr pends), passes) = record { pends = fails failed pends; passes = subst Passes (sym tables) passes; rests = now }

  -- it was, if there was anything to record
  unchanged : due ≡ [] → new.tables ≡ tables_with due old.tables → new.tables ≡ old.tables
  unchanged none tables = tables ∙ ap (λ items. tables_with items old.tables) none ∙ sym (told_same old.tables)

  is-committed : (HasCollected e.reply e.command → ⊥) ⊎ (new.unsettled.pending ≡ None) → recorded (effects_of settings s e) ≡ due → new.tables ≡ tables_with due old.tables
      → IsCommitted due old.tables old.unsettled new.unsettled → Crashing settings s e old.tables new.tables old.unsettled new.unsettled
  is-committed (inl free) all tables (inl (none, same)) =
      record { pends = stays (all ∙ none) free (ap (λ (u : Unsettled). u.pending) same); passes = same-passes (unchanged none tables) same; rests = now }
  is-committed (inr gone) all tables (inl (none, same)) = record { pends = undone gone; passes = same-passes (unchanged none tables) same; rests = now }
  is-committed settled all tables (inr (gone, passes)) = record { pends = undone gone; passes = subst Passes (sym tables) passes; rests = now }

-- an answered command, by its reply
by-reply : (settings : Settings) (s : State) (e : Entry) (old new : Shown) → Rests old.tables old.unsettled → Rests new.tables new.unsettled → (reply : Reply) → e.reply ≡ reply
    → IsSettled e.command reply new.unsettled → Leaves (tried settings s e) (end_by reply) old new → Crashing settings s e old.tables new.tables old.unsettled new.unsettled
by-reply settings s e old new rests now store_fault is settled leaves =
    has-failed settings s e old new rests now (λ so. subst (λ r. HasCollected r e.command) is so) is
    (ap (λ r. recorded (if is_free r then [] else (turn settings s e.moment e.command).effects)) is) leaves.tables leaves.crashes
by-reply settings s e old new rests now no_memory is settled leaves =
    left-out settings s e old new rests now (λ so. subst (λ r. HasCollected r e.command) is so)
    (ap (λ r. recorded (if is_free r then [] else (turn settings s e.moment e.command).effects)) is) leaves.tables leaves.crashes
by-reply settings s e old new rests now reply is settled leaves =
    is-committed settings s e old new rests now (subst (λ r. (HasCollected r e.command → ⊥) ⊎ (new.unsettled.pending ≡ None)) (sym is) (settled-or reply e.command new.unsettled settled))
    (ap (λ r. recorded (if is_free r then [] else (turn settings s e.moment e.command).effects)) is) leaves.tables leaves.crashes

pub crashing-so : (settings : Settings) (s : State) (e : Entry) (old new : Shown) → Rests old.tables old.unsettled → Rests new.tables new.unsettled
    → IsSettled e.command e.reply new.unsettled → Leaves (tried settings s e) (end_by e.reply) old new → Crashing settings s e old.tables new.tables old.unsettled new.unsettled
crashing-so settings s e old new rests now settled leaves = by-reply settings s e old new rests now e.reply refl settled leaves
