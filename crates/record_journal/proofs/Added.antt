-- What is left after a change is added after the others.
use Rattle.std.proofs.Common.{◌≡◌, ◌⊎◌, ◌≤◌, inl, inr, ℕ, List, [], ◌∷◌, ◌++◌, Ok, refl, sym, ◌∙◌, ap, subst, arith}
use Rattle.std.specs.Prelude.{Option, Some, None, IfSome, OnErr, Result, Err}
use Rattle.std.specs.Option.{ForSome, option_map}
use Rattle.record_disk.specs.Disk.{Trace, AllImages, Throughout, Here, Told}
use Rattle.record_disk.proofs.Moments.{weaker}
use Rattle.record_log.specs.Frames.{HoldsOneMore}
use Rattle.record_log.specs.Log.{IsAtRest, StandsFor, LogState, HasAcknowledged}
use Rattle.repo_model.specs.declared.item.Item.{Item}
use Rattle.repo_model.specs.Tables.{Tables, applied}
use Rattle.row_tables.specs.Applying.{with_items}
use Rattle.row_tables.specs.Items.{change_bytes}
use Rattle.row_tables.specs.Loading.{built_up}
use Rattle.record_journal.specs.Journal.{tables_by, tables_of, LoadsTo, MayLoad, Fits, IsStanding, IsReady, KeepsTables, Adds, AddsNothing, Commits}
use Rattle.record_journal.proofs.Loads.{IsWritable, loads_held, pushed, after_change, change_again}
use Rattle.record_journal.proofs.Standing.{standing_tables, same_tables, standing_images}

-- the change fits the tables that are told
abbrev pub FitsTold : Option Tables → List Item → Type 0
FitsTold told items = ForSome told (λ t. applied t items ≡ Ok (with_items t items))

-- a frame of a change is added after the others, or fails and stays pending
module _ (items : List Item) (is : IsWritable items) where
  abbrev payload : List ℕ
  payload = change_bytes items

  abbrev pub Adding : ℕ → Trace → Trace → Type 0
  Adding g s t = (ps : List (List ℕ)) → IsAtRest g ps s → Throughout (HoldsOneMore ps payload) s t

  fits_known : (g : ℕ) (s : Trace) (known : IsStanding g None s) → FitsTold (tables_by (Some s) g None) items → applied known.tables items ≡ Ok (with_items known.tables items)
  fits_known g s known fits = subst (λ o. FitsTold o items) (standing_tables g None s known) fits known.tables refl

  builds_more : (ps : List (List ℕ)) (t : Tables) → built_up ps ≡ Ok t → applied t items ≡ Ok (with_items t items) → built_up (ps ++ payload ∷ []) ≡ Ok (with_items t items)
  builds_more ps t builds fits = pushed 0 _ t (with_items t items) ps payload builds (after_change t payload items (change_again items is) fits)

  pub added_crash : (a b : Option Trace) (g : ℕ) → Told a b (Adding g) → IfSome a (IsStanding g None) → FitsTold (tables_by a g None) items → Told a b (Adds (tables_by a g None) items)
  added_crash None None g told known fits = tt
  added_crash None (Some t) g told known fits = told
  added_crash (Some s) None g told known fits = told
  added_crash (Some s) (Some t) g told known fits = λ u same.
      subst (λ v. Throughout (λ image. LoadsTo v image ⊎ LoadsTo (with_items v items) image) s t) (same_tables g None s known u same)
      (weaker (HoldsOneMore known.payloads payload) (λ image. LoadsTo known.tables image ⊎ LoadsTo (with_items known.tables items) image) s t lift (told known.payloads known.stands))
    where
      lift : (image : List ℕ) → HoldsOneMore known.payloads payload image → LoadsTo known.tables image ⊎ LoadsTo (with_items known.tables items) image
      lift image (inl holds) = inl (loads_held image known.payloads holds ∙ known.builds)
      lift image (inr holds) = inr (loads_held image (known.payloads ++ payload ∷ []) holds ∙ builds_more known.payloads known.tables known.builds (fits_known g s known fits))

  -- it was added
  pub added_ready : (a b : Option Trace) (g h : ℕ) (after : Option (List ℕ)) → after ≡ None → Told a b (Adding g) → IfSome a (IsStanding g None) → FitsTold (tables_by a g None) items
      → ((ps : List (List ℕ)) → IfSome a (λ s. StandsFor g None ps s) → IfSome b (λ t. StandsFor h after (ps ++ payload ∷ []) t)) → IfSome b (IsStanding h after)
  added_ready None None g h after none told known fits stays = tt
  added_ready None (Some t) g h after none told known fits stays = absurd told
  added_ready (Some s) None g h after none told known fits stays = tt
  added_ready (Some s) (Some t) g h after none told known fits stays = record {
    payloads = known.payloads ++ payload ∷ [];
    stands = stays known.payloads known.stands;
    tables = with_items known.tables items;
    builds = builds_more known.payloads known.tables known.builds (fits_known g s known fits);
    fits = subst (Fits (with_items known.tables items)) (sym none) tt;
  }

  pub added_tables : (a b : Option Trace) (g h : ℕ) (after : Option (List ℕ)) → after ≡ None → Told a b (Adding g) → IfSome a (IsStanding g None) → FitsTold (tables_by a g None) items
      → ((ps : List (List ℕ)) → IfSome a (λ s. StandsFor g None ps s) → IfSome b (λ t. StandsFor h after (ps ++ payload ∷ []) t)) → tables_by b h after ≡ option_map (λ t. with_items t items) (tables_by a g None)
  unfolding added_ready
  added_tables None None g h after none told known fits stays = refl
  added_tables None (Some t) g h after none told known fits stays = absurd told
  added_tables (Some s) None g h after none told known fits stays = absurd told
  added_tables (Some s) (Some t) g h after none told known fits stays =
      standing_tables h after t (added_ready (Some s) (Some t) g h after none told known fits stays) ∙ ap (option_map (λ u. with_items u items)) (sym (standing_tables g None s known))

  -- it failed
  pub failed_ready : (a b : Option Trace) (g h : ℕ) (after : Option (List ℕ)) → after ≡ Some payload → Told a b (Adding g) → IfSome a (IsStanding g None) → FitsTold (tables_by a g None) items
      → ((ps : List (List ℕ)) → IfSome a (λ s. StandsFor g None ps s) → IfSome b (λ t. StandsFor h after ps t)) → IfSome b (IsStanding h after)
  failed_ready None None g h after some told known fits stays = tt
  failed_ready None (Some t) g h after some told known fits stays = absurd told
  failed_ready (Some s) None g h after some told known fits stays = tt
  failed_ready (Some s) (Some t) g h after some told known fits stays = record {
    payloads = known.payloads;
    stands = stays known.payloads known.stands;
    tables = known.tables;
    builds = known.builds;
    fits = subst (Fits known.tables) (sym some) (items, change_again items is, fits_known g s known fits);
  }

  pub failed_tables : (a b : Option Trace) (g h : ℕ) (after : Option (List ℕ)) → after ≡ Some payload → Told a b (Adding g) → IfSome a (IsStanding g None) → FitsTold (tables_by a g None) items
      → ((ps : List (List ℕ)) → IfSome a (λ s. StandsFor g None ps s) → IfSome b (λ t. StandsFor h after ps t)) → tables_by b h after ≡ tables_by a g None
  unfolding failed_ready
  failed_tables None None g h after some told known fits stays = refl
  failed_tables None (Some t) g h after some told known fits stays = absurd told
  failed_tables (Some s) None g h after some told known fits stays = absurd told
  failed_tables (Some s) (Some t) g h after some told known fits stays =
      standing_tables h after t (failed_ready (Some s) (Some t) g h after some told known fits stays) ∙ sym (standing_tables g None s known)

-- where nothing was done
pub nothing_added : (a : Option Trace) (g : ℕ) (items : List Item) → IfSome a (IsStanding g None) → Told a a (Adds (tables_by a g None) items)
nothing_added None g items known = tt
nothing_added (Some s) g items known = λ u same. Here (λ image from. inl (subst (λ v. LoadsTo v image) (same_tables g None s known u same) (standing_images g None s known image from)))

-- all images before it, where the tables are told
images_first : (g : ℕ) (before : Option (List ℕ)) (s : Trace) → IsStanding g before s → (u : Tables) → tables_by (Some s) g before ≡ Some u → AllImages (MayLoad u before) s
images_first g before s known u same = subst (λ v. AllImages (MayLoad v before) s) (same_tables g before s known u same) (standing_images g before s known)

-- a failed frame was taken off, or stays
pub undone_first : (a b : Option Trace) (g : ℕ) (before after : Option (List ℕ)) (items : List Item) → IfSome a (IsStanding g before) → Told a b (KeepsTables (tables_by a g before) before after) → Told a b (Commits (tables_by a g before) before items)
undone_first None None g before after items known told = tt
undone_first None (Some t) g before after items known told = told
undone_first (Some s) None g before after items known told = told
undone_first (Some s) (Some t) g before after items known told = λ u same.
    record { undone = t; first = told.moments u same (images_first g before s known u same); later = inl refl }

-- so nothing is added
pub nothing_first : (a b : Option Trace) (g : ℕ) (before after : Option (List ℕ)) → IfSome a (IsStanding g before) → Told a b (KeepsTables (tables_by a g before) before after) → Told a b (AddsNothing (tables_by a g before) before)
nothing_first None None g before after known told = tt
nothing_first None (Some t) g before after known told = told
nothing_first (Some s) None g before after known told = told
nothing_first (Some s) (Some t) g before after known told = λ u same. told.moments u same (images_first g before s known u same)

-- where a commit fails after that
pub nothing_then : {T E : Type 0} (r : Result T E) (old mid new : LogState) (bytes : List ℕ) → Told old.trace mid.trace (AddsNothing (tables_of old) old.pending)
    → OnErr r ((new.pending ≡ Some bytes) ⊎ (new ≡ mid)) → OnErr r ((new.pending ≡ Some bytes) ⊎ Told old.trace new.trace (AddsNothing (tables_of old) old.pending))
nothing_then (Ok x) old mid new bytes first later = tt
nothing_then (Err e) old mid new bytes first (inl pending) = inl pending
nothing_then (Err e) old mid new bytes first (inr same) = inr (subst (λ (v : LogState). Told old.trace v.trace (AddsNothing (tables_of old) old.pending)) (sym same) first)

-- it was taken off, and then a change added
pub then_added : (a b c : Option Trace) (g : ℕ) (before after : Option (List ℕ)) (mid : Option Tables) (items : List Item) → IfSome a (IsStanding g before) → after ≡ None → mid ≡ tables_by a g before
    → Told a b (KeepsTables (tables_by a g before) before after) → Told b c (Adds mid items) → Told a c (Commits (tables_by a g before) before items)
then_added None None None g before after mid items known none same told added = tt
then_added None None (Some v) g before after mid items known none same told added = added
then_added None (Some t) c g before after mid items known none same told added = absurd told
then_added (Some s) None c g before after mid items known none same told added = absurd told
then_added (Some s) (Some t) None g before after mid items known none same told added = added
then_added (Some s) (Some t) (Some v) g before after mid items known none same told added = λ u is. record {
  undone = t;
  first = told.moments u is (images_first g before s known u is);
  later = inr (subst (λ o. AllImages (MayLoad u o) t) none (told.images u is (images_first g before s known u is)), added u (same ∙ is));
}

-- an append to a log that is ready
module _ (items : List Item) (is : IsWritable items) (old new : LogState) (bytes : List ℕ) (same : bytes ≡ change_bytes items) (undone : old.pending ≡ None)
    (moments : Told old.trace new.trace (λ s t. (ps : List (List ℕ)) → IsAtRest old.gate ps s → Throughout (HoldsOneMore ps bytes) s t)) (ready : IsReady old) (fits : FitsTold (tables_of old) items) where
  told_so : Told old.trace new.trace (Adding items is old.gate)
  told_so = subst (λ l. Told old.trace new.trace (λ s t. (ps : List (List ℕ)) → IsAtRest old.gate ps s → Throughout (HoldsOneMore ps l) s t)) same moments

  ready_so : IfSome old.trace (IsStanding old.gate None)
  ready_so = subst (λ o. IfSome old.trace (IsStanding old.gate o)) undone ready.standing

  fits_so : FitsTold (tables_by old.trace old.gate None) items
  fits_so = subst (λ o. FitsTold (tables_by old.trace old.gate o) items) undone fits

  tables_so : tables_by old.trace old.gate None ≡ tables_of old
  tables_so = ap (tables_by old.trace old.gate) (sym undone)

  pub append_crash : Told old.trace new.trace (Adds (tables_of old) items)
  append_crash = subst (λ t. Told old.trace new.trace (Adds t items)) tables_so (added_crash items is old.trace new.trace old.gate told_so ready_so fits_so)

  more_so : ((ps : List (List ℕ)) → HasAcknowledged ps old → HasAcknowledged (ps ++ bytes ∷ []) new) → (ps : List (List ℕ)) → IfSome old.trace (λ s. StandsFor old.gate None ps s) → IfSome new.trace (λ t. StandsFor new.gate new.pending (ps ++ change_bytes items ∷ []) t)
  more_so stays ps holds = subst (λ l. HasAcknowledged (ps ++ l ∷ []) new) same (stays ps (subst (λ o. IfSome old.trace (λ s. StandsFor old.gate o ps s)) (sym undone) holds))

  -- the gate does not fall
  after_so : old.gate ≤ new.gate → 8 ≤ new.gate
  after_so rises = omega (arith, ready.behind)

  pub append_ready : old.gate ≤ new.gate → new.pending ≡ None → ((ps : List (List ℕ)) → HasAcknowledged ps old → HasAcknowledged (ps ++ bytes ∷ []) new) → IsReady new
  append_ready rises none stays = record {
    behind = after_so rises;
    standing = added_ready items is old.trace new.trace old.gate new.gate new.pending none told_so ready_so fits_so (more_so stays);
  }

  pub append_tables : new.pending ≡ None → ((ps : List (List ℕ)) → HasAcknowledged ps old → HasAcknowledged (ps ++ bytes ∷ []) new) → tables_of new ≡ option_map (λ t. with_items t items) (tables_of old)
  append_tables none stays = added_tables items is old.trace new.trace old.gate new.gate new.pending none told_so ready_so fits_so (more_so stays) ∙ ap (option_map (λ t. with_items t items)) tables_so

  still_so : ((ps : List (List ℕ)) → HasAcknowledged ps old → HasAcknowledged ps new) → (ps : List (List ℕ)) → IfSome old.trace (λ s. StandsFor old.gate None ps s) → IfSome new.trace (λ t. StandsFor new.gate new.pending ps t)
  still_so stays ps holds = stays ps (subst (λ o. IfSome old.trace (λ s. StandsFor old.gate o ps s)) (sym undone) holds)

  pub append_failed_ready : old.gate ≤ new.gate → new.pending ≡ Some bytes → ((ps : List (List ℕ)) → HasAcknowledged ps old → HasAcknowledged ps new) → IsReady new
  append_failed_ready rises some stays = record {
    behind = after_so rises;
    standing = failed_ready items is old.trace new.trace old.gate new.gate new.pending (some ∙ ap Some same) told_so ready_so fits_so (still_so stays);
  }

  pub append_failed_tables : new.pending ≡ Some bytes → ((ps : List (List ℕ)) → HasAcknowledged ps old → HasAcknowledged ps new) → tables_of new ≡ tables_of old
  append_failed_tables some stays = failed_tables items is old.trace new.trace old.gate new.gate new.pending (some ∙ ap Some same) told_so ready_so fits_so (still_so stays) ∙ tables_so

-- when memory ran out
pub none_crash : (old new : LogState) (items : List Item) → new ≡ old → old.pending ≡ None → IsReady old → Told old.trace new.trace (Adds (tables_of old) items)
none_crash old new items same undone ready =
    subst (λ (v : LogState). Told old.trace v.trace (Adds (tables_of old) items)) (sym same)
    (subst (λ t. Told old.trace old.trace (Adds t items)) (ap (tables_by old.trace old.gate) (sym undone))
    (nothing_added old.trace old.gate items (subst (λ o. IfSome old.trace (IsStanding old.gate o)) undone ready.standing)))
