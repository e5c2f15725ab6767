-- What is left once the frame that failed is taken off.
use Rattle.std.proofs.Common.{◌≡◌, ◌⊎◌, ◌≤◌, inl, inr, ℕ, List, Result, Ok, Err, refl, sym, ◌∙◌, subst}
use Rattle.std.specs.Prelude.{Option, Some, None, IsSome, IfSome, OnOk, OnErr}
use Rattle.record_disk.specs.Disk.{Trace, content, AllImages, Throughout, Here, Told}
use Rattle.record_disk.proofs.Moments.{weaker}
use Rattle.record_log.specs.Log.{StandsFor, MayHold, LogState, HasAcknowledged}
use Rattle.record_log.proofs.Calls.{told_same, stands_hold}
use Rattle.repo_model.specs.Tables.{Tables}
use Rattle.row_tables.specs.Loading.{loading}
use Rattle.record_journal.specs.Journal.{acknowledged, tables_by, tables_of, MayLoad, Fits, IsStanding, IsReady, IsSteady, KeepsTables}
use Rattle.record_journal.proofs.Standing.{standing_loads, standing_tables, same_tables, lifted}

-- nothing is pending any more, or what was
abbrev pub IsLess : Option (List ℕ) → Option (List ℕ) → Type 0
IsLess after before = (after ≡ None) ⊎ (after ≡ before)

fits_less : (t : Tables) (before after : Option (List ℕ)) → IsLess after before → Fits t before → Fits t after
fits_less t before after (inl none) fits = subst (Fits t) (sym none) tt
fits_less t before after (inr same) fits = subst (Fits t) (sym same) fits

-- the acknowledged frames stand after a call as before it
abbrev pub Stays : Option Trace → Option Trace → ℕ → ℕ → Option (List ℕ) → Option (List ℕ) → Type 0
Stays a b g h before after = (ps : List (List ℕ)) → IfSome a (λ s. StandsFor g before ps s) → IfSome b (λ t. StandsFor h after ps t)

abbrev pub Holding : ℕ → Option (List ℕ) → Trace → Trace → Type 0
Holding g before s t = (ps : List (List ℕ)) → StandsFor g before ps s → Throughout (MayHold ps before) s t

pub stays_ready : (a b : Option Trace) (g h : ℕ) (before after : Option (List ℕ)) → IsLess after before → Told a b (Holding g before) → Stays a b g h before after → IfSome a (IsStanding g before) → IfSome b (IsStanding h after)
stays_ready None None g h before after less told stays known = tt
stays_ready None (Some t) g h before after less told stays known = absurd told
stays_ready (Some s) None g h before after less told stays known = tt
stays_ready (Some s) (Some t) g h before after less told stays known = record {
  payloads = known.payloads;
  stands = stays known.payloads known.stands;
  tables = known.tables;
  builds = known.builds;
  fits = fits_less known.tables before after less known.fits;
}

pub stays_tables : (a b : Option Trace) (g h : ℕ) (before after : Option (List ℕ)) → IsLess after before → Told a b (Holding g before) → Stays a b g h before after → IfSome a (IsStanding g before) → tables_by b h after ≡ tables_by a g before
unfolding stays_ready
stays_tables None None g h before after less told stays known = refl
stays_tables None (Some t) g h before after less told stays known = absurd told
stays_tables (Some s) None g h before after less told stays known = absurd told
stays_tables (Some s) (Some t) g h before after less told stays known =
    let now = stays_ready (Some s) (Some t) g h before after less told stays known in
    standing_tables h after t now ∙ sym (standing_tables g before s known)

pub stays_reads : (a b : Option Trace) (g h : ℕ) (before after : Option (List ℕ)) → Told a b (Holding g before) → Stays a b g h before after → IfSome a (IsStanding g before) → Told a b (λ s t. loading (acknowledged h after (content t)) ≡ loading (acknowledged g before (content s)))
stays_reads None None g h before after told stays known = tt
stays_reads None (Some t) g h before after told stays known = told
stays_reads (Some s) None g h before after told stays known = told
stays_reads (Some s) (Some t) g h before after told stays known = standing_loads h after known.payloads t (stays known.payloads known.stands) ∙ sym (standing_loads g before known.payloads s known.stands)

kept : (g h : ℕ) (before after : Option (List ℕ)) (s t : Trace) → IsLess after before → Holding g before s t → ((ps : List (List ℕ)) → StandsFor g before ps s → StandsFor h after ps t) → IsStanding g before s → KeepsTables (tables_by (Some s) g before) before after s t
kept g h before after s t less holding stays known = record {
  moments = λ u is all. subst (λ v. Throughout (MayLoad v before) s t) (same_tables g before s known u is)
      (weaker (MayHold known.payloads before) (MayLoad known.tables before) s t (lifted before known.payloads known.tables known.builds known.fits) (holding known.payloads known.stands));
  images = λ u is all. subst (λ v. AllImages (MayLoad v after) t) (same_tables g before s known u is)
      (λ image from. lifted after known.payloads known.tables known.builds (fits_less known.tables before after less known.fits) image (stands_hold h after known.payloads t (stays known.payloads known.stands) image from));
}

pub stays_kept : (a b : Option Trace) (g h : ℕ) (before after : Option (List ℕ)) → IsLess after before → Told a b (Holding g before) → Stays a b g h before after → IfSome a (IsStanding g before) → Told a b (KeepsTables (tables_by a g before) before after)
stays_kept None None g h before after less told stays known = tt
stays_kept None (Some t) g h before after less told stays known = told
stays_kept (Some s) None g h before after less told stays known = told
stays_kept (Some s) (Some t) g h before after less told stays known = kept g h before after s t less told stays known

-- where nothing was done
still : (told : Option Tables) (before : Option (List ℕ)) (s : Trace) → KeepsTables told before before s s
still told before s = record { moments = λ t is all. Here all; images = λ t is all. all }

pub still_kept : (log : LogState) → Told log.trace log.trace (KeepsTables (tables_of log) log.pending log.pending)
still_kept log = told_same log.trace (KeepsTables (tables_of log) log.pending log.pending) (still (tables_of log) log.pending)

-- a call that takes a failed frame off, where there is one
pub record Undoes (old new : LogState) : Type 0 where
  pub less : IsLess new.pending old.pending
  pub moments : Told old.trace new.trace (Holding old.gate old.pending)
  pub stays : (ps : List (List ℕ)) → HasAcknowledged ps old → HasAcknowledged ps new
  pub none : old.pending ≡ None → new ≡ old
  pub gate : new.gate ≡ old.gate

module _ (old new : LogState) (is : Undoes old new) where
  pub undoes_ready : IsReady old → IsReady new
  undoes_ready ready = record {
    behind = subst (λ g. 8 ≤ g) (sym is.gate) ready.behind;
    standing = stays_ready old.trace new.trace old.gate new.gate old.pending new.pending is.less is.moments is.stays ready.standing;
  }

  by_pending : (P : LogState → Type 0) (o : Option (List ℕ)) → old.pending ≡ o → P old → (IsReady old → P new) → IsSteady old → P new
  by_pending P None none here ready steady = subst P (sym (is.none none)) here
  by_pending P (Some p) some here ready steady = ready (steady (subst IsSome (sym some) refl))

  pub undoes_steady : IsSteady old → IsSteady new
  undoes_steady steady = by_pending IsSteady old.pending refl steady (λ ready _. undoes_ready ready) steady

  pub undoes_tables : IsSteady old → tables_of new ≡ tables_of old
  undoes_tables steady = by_pending (λ v. tables_of v ≡ tables_of old) old.pending refl refl (λ ready. stays_tables old.trace new.trace old.gate new.gate old.pending new.pending is.less is.moments is.stays ready.standing) steady

  pub undoes_kept : IsSteady old → Told old.trace new.trace (KeepsTables (tables_of old) old.pending new.pending)
  undoes_kept steady = by_pending (λ v. Told old.trace v.trace (KeepsTables (tables_of old) old.pending v.pending)) old.pending refl (still_kept old) (λ ready. stays_kept old.trace new.trace old.gate new.gate old.pending new.pending is.less is.moments is.stays ready.standing) steady

  pub undoes_reads : IsSteady old → Told old.trace new.trace (λ s t. loading (acknowledged new.gate new.pending (content t)) ≡ loading (acknowledged old.gate old.pending (content s)))
  undoes_reads steady = by_pending (λ v. Told old.trace v.trace (λ s t. loading (acknowledged v.gate v.pending (content t)) ≡ loading (acknowledged old.gate old.pending (content s)))) old.pending refl (told_same old.trace (λ s t. loading (acknowledged old.gate old.pending (content t)) ≡ loading (acknowledged old.gate old.pending (content s))) (λ s. refl)) (λ ready. stays_reads old.trace new.trace old.gate new.gate old.pending new.pending is.moments is.stays ready.standing) steady

-- what the answer of an undo says of the pending payload
pub less_by : {T E : Type 0} (r : Result T E) (after before : Option (List ℕ)) → OnOk r (after ≡ None) → OnErr r (after ≡ before) → IsLess after before
less_by (Ok x) after before ok err = inl ok
less_by (Err e) after before ok err = inr err
