-- A start finds no file damaged in a store that lost only what the Collects before gave out to be removed.
use native.Mathlib.Omega.{arith}
use Rattle.std.proofs.Common.{◌≡◌, inl, inr, ℕ, Bool, true, false, cond, ◌||◌, List, [], ◌∷◌, ◌++◌, Option, Some, None, refl, sym, ◌∙◌, ap, subst}
use Rattle.std.specs.Prelude.{◌==◌, find}
use Rattle.std.specs.List.{AllByRecursion, list_any}
use Rattle.std.specs.Option.{option_map, unwrap_or}
use Rattle.std.proofs.lemmas.Bool.{eq-eqb, false≢true, false_from_ne_true, or_parts}
use Rattle.std.proofs.lemmas.List.Folds.{list_any-append}
use Rattle.std.proofs.lemmas.List.Sums.{fold-append}
use Rattle.std.proofs.lemmas.Option.{none-some}
use Rattle.outside.specs.Blobs.{Shelf}
use Rattle.repo_model.specs.declared.item.Item.{Item}
use Rattle.repo_model.specs.Command.{Command, collect, look}
use Rattle.repo_model.specs.Effect.{recorded}
use Rattle.repo_model.specs.History.{Entry, Fits, Legal, after, effects_of, end, ticked}
use Rattle.repo_model.specs.Reply.{Reply, collected}
use Rattle.repo_model.specs.Settings.{Settings}
use Rattle.repo_model.specs.State.{State, is_among}
use Rattle.repo_model.specs.Data.{Row}
use Rattle.repo_model.specs.Tables.{RecordedRow, Tables, is_recorded, item_on, names_blob, recorded_at}
use Rattle.repo_laws.specs.Closed.{IsGone, all_given_out, given_out}
use Rattle.repo_laws.specs.Holds.{Holds, InOrder, named_in, told, with_items}
use Rattle.repo_laws.specs.Sound.{AreNamedApart, IsSound, Sound}
use Rattle.repo_laws.proofs.Histories.{entry-keeps, entry-may, sound-entry}
use Rattle.repo_laws.proofs.Holding.{history-recorded}
use Rattle.repo_laws.proofs.HoldingBlobs.{named-counts}
use Rattle.repo_laws.proofs.HoldingLists.{all-split}
use Rattle.repo_laws.proofs.Keeping.{keeps-sound}
use Rattle.repo_laws.proofs.Untouched.{given-gone, gone-kept, only-collect}
use Rattle.row_tables.specs.Crashing.{HasCollected}
use Rattle.row_tables.specs.Crashes.{IsOneOf, Rests, Unsettled, left_by}
use Rattle.row_tables.proofs.OneOf.{either}
use Rattle.blob_audit.specs.Order.{all_rows}
use Rattle.crash_laws.specs.Found.{AllHandOver, AreStagedStored, HandsOver, HasStored, IsRecordedAs, IsStored, IsWholeWithout}
use Rattle.crash_laws.specs.Runs.{FindsAlways, CrashesAlong, tables_after}
use Rattle.crash_laws.specs.Crashes.{PendAlong, Pends, as_done, fails, stays, undone}
use Rattle.crash_laws.proofs.AllRows.{all-rows, rows-all}
use Rattle.crash_laws.proofs.Fronts.{done-fits, done-records, failed-records, legal-front}
use Rattle.crash_laws.proofs.GivenOut.{names-items, unnamed}
use Rattle.crash_laws.proofs.RunLaws.{among-finds, finds-more, finds-on}
use Rattle.crash_laws.proofs.Spared.{none-named, others-whole}
use Rattle.crash_laws.proofs.Stored.{RowsStored, stays-stored, any-list}

-- the tables with what is pending, if anything is
abbrev Left : (Tables → Type 0) → Tables → Option (List Item) → Type 0
Left Q t None = Unit {0}
Left Q t (Some items) = Q (with_items t items)

module _ (settings : Settings) (Ok : Command → Type 0) (Inv : State → Tables → Type 0)
    (keeps : (s : State) (e : Entry) (t : Tables) → Fits settings s e → Ok e.command → Inv s t → Inv (after settings s e) (tables_after settings s e t))
    (Q : Tables → Type 0) (so : (s : State) (t : Tables) → Inv s t → Q t) where
  abbrev AllOk : List Entry → Type 0
  AllOk entries = AllByRecursion (λ (e : Entry). Ok e.command) entries

  pend : (s : State) (e : Entry) (t : Tables) (old new : Option (List Item)) → Fits settings s e → Ok e.command → Inv s t → Left Q t old → Pends settings s e old new
      → Left Q (tables_after settings s e t) new
  pend s e t old new fits ok now left (undone none) = subst (Left Q (tables_after settings s e t)) (sym none) tt
  pend s e t old new fits ok now left (stays quiet other same) =
      subst (λ (items : List Item). Left Q (with_items t items) new) (sym quiet) (subst (Left Q t) (sym same) left)
  pend s e t old new fits ok now left (fails failed is) =
      let it = as_done settings s e in
      subst (λ (items : List Item). Left Q (with_items t items) new) (sym (failed-records settings s e failed))
      (subst (Left Q t) (sym is)
      (subst (λ (items : List Item). Q (with_items t items)) (done-records settings s e)
      (so (after settings s it) (tables_after settings s it t) (keeps s it t (done-fits settings s e fits) ok now))))

  along : (entries : List Entry) (s : State) (t : Tables) (old new : Option (List Item)) → Legal settings s entries → AllOk entries → Inv s t → Left Q t old
      → PendAlong settings s entries old new → Inv (end settings s entries) (with_items t (told settings s entries)) × Left Q (with_items t (told settings s entries)) new
  along [] s t old new legal all now left is = (now, subst (Left Q t) (sym is) left)
  along (e ∷ entries) s t old new legal all now left (mid, here, rest) =
      subst (λ (u : Tables). Inv (end settings s (e ∷ entries)) u × Left Q u new)
      (sym (fold-append item_on t (recorded (effects_of settings s e)) (told settings (after settings s e) entries)))
      (along entries (after settings s e) (tables_after settings s e t) mid new legal.1 all.1 (keeps s e t legal.0 all.0 now) (pend s e t old mid legal.0 all.0 now left here) rest)

  one-of : (s : State) (t : Tables) (pending : Option (List Item)) → Inv s t → Left Q t pending → (u : Tables) → IsOneOf u (left_by t pending) → Q u
  one-of s t None now left u (inl is) = subst Q is (so s t now)
  one-of s t None now left u (inr more) = absurd more
  one-of s t (Some items) now left u (inl is) = subst Q is (so s t now)
  one-of s t (Some items) now left u (inr (inl is)) = subst Q is left
  one-of s t (Some items) now left u (inr (inr more)) = absurd more

  finds : (entries : List Entry) (s : State) (t : Tables) (a b : Unsettled) → Legal settings s entries → AllOk entries → Inv s t → Left Q t a.pending → Rests (Some t) a
      → CrashesAlong settings s t entries a b → FindsAlways Q a.trace b.trace
  finds [] s t a b legal all now left rests runs =
      subst (λ (w : Unsettled). FindsAlways Q a.trace w.trace) (sym runs)
      (among-finds Q (left_by t a.pending) a.trace a.trace (one-of s t a.pending now left) (rests t refl))
  finds (e ∷ entries) s t a b legal all now left rests (mid, did, runs) =
      let next : Tables = tables_after settings s e t in
      let then_now : Inv (after settings s e) next = keeps s e t legal.0 all.0 now in
      let then_left : Left Q next mid.pending = pend s e t a.pending mid.pending legal.0 all.0 now left did.pends in
      finds-on Q a.trace mid.trace b.trace
      (among-finds Q (left_by t a.pending ++ left_by next mid.pending) a.trace mid.trace
      (λ u is. elim (either u (left_by t a.pending) (left_by next mid.pending) is) [
        | inl was ↦ one-of s t a.pending now left u was
        | inr later ↦ one-of (after settings s e) next mid.pending then_now then_left u later
      ])
      (did.passes t next refl refl))
      (finds entries (after settings s e) next mid b legal.1 all.1 then_now then_left did.rests runs)

module _ (settings : Settings) where
  legal-after : (xs ys : List Entry) (s : State) → Legal settings s (xs ++ ys) → Legal settings (end settings s xs) ys
  legal-after [] ys s legal = legal
  legal-after (x ∷ xs) ys s legal = legal-after xs ys (after settings s x) legal.1

  pub runs-pend : (entries : List Entry) (s : State) (t : Tables) (a b : Unsettled) → CrashesAlong settings s t entries a b → PendAlong settings s entries a.pending b.pending
  runs-pend [] s t a b is = ap (λ (w : Unsettled). w.pending) is
  runs-pend (e ∷ entries) s t a b (mid, did, runs) = (mid.pending, did.pends, runs-pend entries (after settings s e) (tables_after settings s e t) mid b runs)

  runs-rest : (entries : List Entry) (s : State) (t : Tables) (a b : Unsettled) → Rests (Some t) a → CrashesAlong settings s t entries a b → Rests (Some (with_items t (told settings s entries))) b
  runs-rest [] s t a b rests is = subst (Rests (Some t)) (sym is) rests
  runs-rest (e ∷ entries) s t a b rests (mid, did, runs) =
      subst (λ (u : Tables). Rests (Some u) b) (sym (fold-append item_on t (recorded (effects_of settings s e)) (told settings (after settings s e) entries)))
      (runs-rest entries (after settings s e) (tables_after settings s e t) mid b did.rests runs)

-- where a Collect gave out something, nothing is pending after it
has-collected : (n : ℕ) (c : Command) (r : Reply) → is_among n (given_out c r) ≡ true → HasCollected r c
has-collected n collect (collected expired blobs) given = tt
has-collected n collect r given = absurd (false≢true given)
has-collected n (look repo path tried) r given = absurd (false≢true given)
has-collected n c r given = absurd (false≢true given)

settles : (settings : Settings) (s : State) (e : Entry) (n : ℕ) (old new : Option (List Item)) → is_among n (given_out e.command e.reply) ≡ true → Pends settings s e old new → new ≡ None
settles settings s e n old new given (undone none) = none
settles settings s e n old new given (stays quiet other same) = absurd (other (has-collected n e.command e.reply given))
settles settings s e n old new given (fails failed is) =
    absurd (false≢true (subst (λ r. is_among n (given_out collect r) ≡ true) failed
    (subst (λ c. is_among n (given_out c e.reply) ≡ true) (only-collect n e.command e.reply given) given)))

abbrev Any : Command → Type 0
Any c = Unit {0}

module _ (settings : Settings) (apart : AreNamedApart settings.hosted) (n : ℕ) where
  abbrev IsUnnamed : Tables → Type 0
  IsUnnamed t = named_in t n ≡ 0

  abbrev Gone : State → Tables → Type 0
  Gone s t = Sound settings s × IsGone n s × IsUnnamed t

  stays-gone : (s : State) (e : Entry) (t : Tables) → Fits settings s e → Any e.command → Gone s t → Gone (after settings s e) (tables_after settings s e t)
  stays-gone s e t fits ok (sound, gone, none) = (
    sound-entry settings apart s e fits sound,
    entry-keeps settings apart s e (IsGone n) fits sound (λ u f _ may old. gone-kept settings.grace e.moment u f n may old) gone,
    names-items settings.grace e.moment n (effects_of settings s e) (ticked s e.moment e.faults) t (entry-may settings apart s e sound fits) gone none,
  )

  is-unnamed : (s : State) (t : Tables) → Gone s t → IsUnnamed t
  is-unnamed s t gone = gone.2

  -- what entries gave out is named by nothing after them
  given-unnamed : (entries : List Entry) (s : State) (t : Tables) (old new : Option (List Item)) → IsSound settings s → InOrder t → Holds t s → Legal settings s entries
      → PendAlong settings s entries old new → is_among n (all_given_out entries) ≡ true
      → Gone (end settings s entries) (with_items t (told settings s entries)) × Left IsUnnamed (with_items t (told settings s entries)) new
  given-unnamed [] s t old new sound ordered holds legal pends among = absurd (false≢true among)
  given-unnamed (e ∷ entries) s t old new sound ordered holds legal (mid, here, rest) among =
      let next : State = after settings s e in
      let there : Tables = tables_after settings s e t in
      let sound_then : IsSound settings next = keeps-sound settings apart s e sound legal.0 in
      let made = history-recorded settings apart (e ∷ []) s t (legal.0, tt) sound.order sound.places sound.sessions ordered holds in
      let same : with_items t (told settings s (e ∷ [])) ≡ there = fold-append item_on t (recorded (effects_of settings s e)) [] in
      subst (λ (u : Tables). Gone (end settings s (e ∷ entries)) u × Left IsUnnamed u new)
      (sym (fold-append item_on t (recorded (effects_of settings s e)) (told settings next entries)))
      (elim (is_among n (given_out e.command e.reply))
      as (λ b. is_among n (given_out e.command e.reply) ≡ b → (b || is_among n (all_given_out entries)) ≡ true
      → Gone (end settings next entries) (with_items there (told settings next entries)) × Left IsUnnamed (with_items there (told settings next entries)) new) [
        | true ↦ λ given _.
            let is_collect : e.command ≡ collect = only-collect n e.command e.reply given in
            let gone : Gone next there = (
              sound_then.order,
              given-gone settings apart s e n sound.order sound.places legal.0 given,
              unnamed settings apart n s e t sound legal.0 ordered holds is_collect (subst (λ c. is_among n (given_out c e.reply) ≡ true) is_collect given),
            ) in
            along settings Any Gone stays-gone IsUnnamed is-unnamed entries next there mid new legal.1 (any-list entries) gone
            (subst (Left IsUnnamed there) (sym (settles settings s e n old mid given here)) tt) rest
        | false ↦ λ _ later.
            given-unnamed entries next there mid new sound_then (subst InOrder same made.1) (subst (λ x. Holds x next) same made.2) legal.1 rest later
      ] refl (sym (list_any-append (λ m. m == n) (given_out e.command e.reply) (all_given_out entries)) ∙ among))

module _ (settings : Settings) (apart : AreNamedApart settings.hosted) (acknowledged : Shelf) where
  abbrev Stored : State → Tables → Type 0
  Stored s t = AreStagedStored acknowledged s × RowsStored acknowledged t

  stored-then : (s : State) (e : Entry) (t : Tables) → Fits settings s e → HandsOver acknowledged e.command → Stored s t → Stored (after settings s e) (tables_after settings s e t)
  stored-then s e t fits is (staged, rows) = stays-stored acknowledged settings s e t staged rows is

  is-stored : (s : State) (t : Tables) → Stored s t → RowsStored acknowledged t
  is-stored s t stored = stored.1

  module _ (gone : List ℕ) where
    abbrev Spared : Tables → Type 0
    Spared t = ((n : ℕ) → is_among n gone ≡ true → named_in t n ≡ 0) × RowsStored acknowledged t

    abbrev Goes : State → Tables → Type 0
    Goes s t = ((n : ℕ) → is_among n gone ≡ true → Gone settings apart n s t) × Stored s t

    goes-on : (s : State) (e : Entry) (t : Tables) → Fits settings s e → HandsOver acknowledged e.command → Goes s t → Goes (after settings s e) (tables_after settings s e t)
    goes-on s e t fits is (nothing, stored) = ((λ n among. stays-gone settings apart n s e t fits tt (nothing n among)), stored-then s e t fits is stored)

    is-spared : (s : State) (t : Tables) → Goes s t → Spared t
    is-spared s t (nothing, stored) = ((λ n among. (nothing n among).2), stored.1)

    both-left : (t : Tables) (pending : Option (List Item)) → ((n : ℕ) → is_among n gone ≡ true → Left (λ (u : Tables). named_in u n ≡ 0) t pending)
        → Left (RowsStored acknowledged) t pending → Left Spared t pending
    both-left t None nothing stored = tt
    both-left t (Some items) nothing stored = (nothing, stored)

    is-whole : (t : Tables) → Spared t → IsWholeWithout gone acknowledged t
    is-whole t (nothing, rows) found others =
        others-whole gone acknowledged found others (all_rows t) (rows-all (IsStored acknowledged) t rows.0 rows.1)
        (none-named gone t
        (λ n among. let none : named_in t n ≡ 0 = nothing n among in false_from_ne_true (names_blob n t) (λ named. omega (arith, none, named-counts n t named))))

-- after the earlier entries of a history: what they gave out is named by nothing, and each file names a blob that was acknowledged
goes-there : (settings : Settings) (apart : AreNamedApart settings.hosted) (s : State) (t : Tables) (earlier later : List Entry) (old mid : Option (List Item)) (acknowledged : Shelf) → IsSound settings s → InOrder t
    → Holds t s → Legal settings s (earlier ++ later) → HasStored acknowledged t → AreStagedStored acknowledged s → AllHandOver acknowledged (earlier ++ later) → old ≡ None → PendAlong settings s earlier old mid
    → Goes settings apart acknowledged (all_given_out earlier) (end settings s earlier) (with_items t (told settings s earlier))
    × Left (Spared settings apart acknowledged (all_given_out earlier)) (with_items t (told settings s earlier)) mid
goes-there settings apart s t earlier later old mid acknowledged sound ordered holds legal rows staged each quiet pends =
    let gone : List ℕ = all_given_out earlier in
    let there : Tables = with_items t (told settings s earlier) in
    let front : Legal settings s earlier = legal-front settings earlier later s legal in
    let each_before = (all-split (λ (e : Entry). HandsOver acknowledged e.command) earlier later each).0 in
    let (stored, stored_left) =
    along settings (HandsOver acknowledged) (Stored settings apart acknowledged) (stored-then settings apart acknowledged) (RowsStored acknowledged) (is-stored settings apart acknowledged) earlier s t old mid front
    each_before (staged, all-rows (IsStored acknowledged) t rows) (subst (Left (RowsStored acknowledged) t) (sym quiet) tt) pends in
    let nothing = λ (n : ℕ) (among : is_among n gone ≡ true). given-unnamed settings apart n earlier s t old mid sound ordered holds front pends among in (
      ((λ n among. (nothing n among).0), stored),
      both-left settings apart acknowledged gone there mid (λ n among. (nothing n among).1) stored_left,
    )

pub run-whole : (settings : Settings) (s : State) (t : Tables) (earlier later : List Entry) (old mid new : Unsettled) (acknowledged : Shelf) → AreNamedApart settings.hosted → IsSound settings s → InOrder t
    → Holds t s → Legal settings s (earlier ++ later) → HasStored acknowledged t → AreStagedStored acknowledged s → AllHandOver acknowledged (earlier ++ later) → old.pending ≡ None
    → Rests (Some t) old → CrashesAlong settings s t earlier old mid → CrashesAlong settings (end settings s earlier) (with_items t (told settings s earlier)) later mid new
    → FindsAlways (IsWholeWithout (all_given_out earlier) acknowledged) mid.trace new.trace
run-whole settings s t earlier later old mid new acknowledged apart sound ordered holds legal rows staged each quiet rests runs goes =
    let gone : List ℕ = all_given_out earlier in
    let (now, left) = goes-there settings apart s t earlier later old.pending mid.pending acknowledged sound ordered holds legal rows staged each quiet (runs-pend settings earlier s t old mid runs) in
    finds-more (Spared settings apart acknowledged gone) (IsWholeWithout gone acknowledged) mid.trace new.trace (is-whole settings apart acknowledged gone)
    (finds settings (HandsOver acknowledged) (Goes settings apart acknowledged gone) (goes-on settings apart acknowledged gone) (Spared settings apart acknowledged gone) (is-spared settings apart acknowledged gone) later
    (end settings s earlier) (with_items t (told settings s earlier)) mid new
    (legal-after settings earlier later s legal) (all-split (λ (e : Entry). HandsOver acknowledged e.command) earlier later each).1 now left (runs-rest settings earlier s t old mid rests runs) goes)

-- and between calls, over what is pending then
pub left-whole : (settings : Settings) (s : State) (t : Tables) (earlier later : List Entry) (old mid new : Option (List Item)) (acknowledged : Shelf) → AreNamedApart settings.hosted → IsSound settings s → InOrder t
    → Holds t s → Legal settings s (earlier ++ later) → HasStored acknowledged t → AreStagedStored acknowledged s → AllHandOver acknowledged (earlier ++ later) → old ≡ None
    → PendAlong settings s earlier old mid → PendAlong settings (end settings s earlier) later mid new → (u : Tables)
    → IsOneOf u (left_by (with_items (with_items t (told settings s earlier)) (told settings (end settings s earlier) later)) new) → IsWholeWithout (all_given_out earlier) acknowledged u
left-whole settings s t earlier later old mid new acknowledged apart sound ordered holds legal rows staged each quiet pends more u found =
    let gone : List ℕ = all_given_out earlier in
    let next : State = end settings s earlier in
    let there : Tables = with_items t (told settings s earlier) in
    let (now, left) = goes-there settings apart s t earlier later old mid acknowledged sound ordered holds legal rows staged each quiet pends in
    let (then_now, then_left) =
    along settings (HandsOver acknowledged) (Goes settings apart acknowledged gone) (goes-on settings apart acknowledged gone) (Spared settings apart acknowledged gone) (is-spared settings apart acknowledged gone) later next
    there mid new (legal-after settings earlier later s legal) (all-split (λ (e : Entry). HandsOver acknowledged e.command) earlier later each).1 now left more in
    is-whole settings apart acknowledged gone u
    (one-of settings (HandsOver acknowledged) (Goes settings apart acknowledged gone) (goes-on settings apart acknowledged gone) (Spared settings apart acknowledged gone) (is-spared settings apart acknowledged gone)
    (end settings next later) (with_items there (told settings next later)) new then_now then_left u found)

-- a row that is recorded where no row names a number has another one
recorded-other : (n : ℕ) (repo path : List ℕ) (rows : List RecordedRow) (kept : Row) → list_any (λ (r : RecordedRow). r.row.blob.number == n) rows ≡ false → recorded_at repo path rows ≡ Some kept
    → (kept.blob.number == n) ≡ false
recorded-other n repo path [] kept none is = absurd (none-some kept is)
recorded-other n repo path (r ∷ rows) kept none is =
    let (off, others) = or_parts (r.row.blob.number == n) (list_any (λ (x : RecordedRow). x.row.blob.number == n) rows) none in
    elim (is_recorded repo path r)
    as (λ b. option_map (λ (x : RecordedRow). x.row) (cond b (Some r) (find (is_recorded repo path) rows)) ≡ Some kept → (kept.blob.number == n) ≡ false) [
      | true ↦ λ same. subst (λ (o : Option Row). ((unwrap_or o r.row).blob.number == n) ≡ false) same off
      | false ↦ λ more. recorded-other n repo path rows kept others more
    ] is

-- what is recorded after entries was given out by none of them
pub recorded-kept : (settings : Settings) (s : State) (t : Tables) (entries : List Entry) (old new : Option (List Item)) (repo : List ℕ) (row : Row) → AreNamedApart settings.hosted → IsSound settings s → InOrder t
    → Holds t s → Legal settings s entries → PendAlong settings s entries old new → IsRecordedAs repo row (with_items t (told settings s entries))
    → is_among row.blob.number (all_given_out entries) ≡ false
recorded-kept settings s t entries old new repo row apart sound ordered holds legal pends (kept, at, number, print) =
    let u : Tables = with_items t (told settings s entries) in
    let n = row.blob.number in
    let names : RecordedRow → Bool = λ r. r.row.blob.number == n in
    false_from_ne_true (is_among n (all_given_out entries))
    (λ among.
    let none : named_in u n ≡ 0 = (given-unnamed settings apart n entries s t old new sound ordered holds legal pends among).0.2 in
    let unnamed : names_blob n u ≡ false = false_from_ne_true (names_blob n u) (λ named. omega (arith, none, named-counts n u named)) in
    false≢true (sym (recorded-other n repo row.path u.hosted kept (or_parts (list_any names u.hosted) (list_any names u.cached) unnamed).0 at) ∙ eq-eqb kept.blob.number n number))
