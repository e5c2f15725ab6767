-- What a start finds after a crash at a moment of a run: what is left by a front of its entries.
use Rattle.std.proofs.Common.{◌≡◌, ◌≢◌, inl, inr, ℕ, List, [], ◌∷◌, ◌++◌, Option, Some, None, Ok, refl, sym, subst, ap, ◌∙◌}
use Rattle.std.specs.Prelude.{IsTrue}
use Rattle.std.proofs.lemmas.List.Sums.{fold-append}
use Rattle.mvn_coords.specs.Kind.{kind}
use Rattle.mvn_coords.specs.Layout.{Coordinates}
use Rattle.mvn_coords.specs.declared.kind.Kind.TheVariants.{File}
use Rattle.record_disk.specs.Disk.{Trace}
use Rattle.record_disk.proofs.Moments.{joined, weaker}
use Rattle.repo_model.specs.declared.item.Item.{Item}
use Rattle.repo_model.specs.Command.{is_there, put}
use Rattle.repo_model.specs.Effect.{new_row, recorded}
use Rattle.repo_model.specs.History.{Entry, Legal, after, effects_of, end}
use Rattle.repo_model.specs.Reply.{created}
use Rattle.repo_model.specs.Settings.{Settings}
use Rattle.repo_model.specs.Data.{Blob, Row}
use Rattle.repo_model.specs.State.{State, row_at, rows_of}
use Rattle.repo_model.specs.Tables.{Tables, item_on}
use Rattle.repo_laws.specs.Described.{IsAmong}
use Rattle.repo_laws.specs.Holds.{Holds, InOrder, told, with_items}
use Rattle.repo_laws.specs.Sound.{AreNamedApart, AreProxiesApart, IsSound}
use Rattle.repo_laws.proofs.Holding.{history-recorded}
use Rattle.repo_laws.proofs.Keeping.{keeps-sound}
use Rattle.row_tables.specs.Crashing.{Crashing}
use Rattle.row_tables.specs.Loading.{tables_in}
use Rattle.row_tables.specs.Crashes.{IsOneOf, CrashesLeave, ReadsAmong, Rests, Unsettled, left_by}
use Rattle.row_tables.proofs.OneOf.{either}
use Rattle.crash_laws.specs.Found.{IsRecordedAs}
use Rattle.crash_laws.proofs.Again.{answered-again}
use Rattle.crash_laws.proofs.Created.{created-records, created-stands}
use Rattle.crash_laws.proofs.Fronts.{failed-records, legal-front, stays-front}
use Rattle.crash_laws.proofs.Outlasting.{outlasts-crashes}
use Rattle.crash_laws.specs.Runs.{FindsAlways, IsAnsweredAgain, IsLeftBySome, CrashesAlong, tables_after}
use Rattle.crash_laws.specs.Crashes.{IsLeft, MayNotGo, PendAlong, Pends, between, fails, stays, undone, within}

-- what is found is weaker, and what was found is found still
pub finds-more : (P Q : Tables → Type 0) (a b : Option Trace) → ((u : Tables) → P u → Q u) → FindsAlways P a b → FindsAlways Q a b
finds-more P Q None None more found = tt
finds-more P Q None (Some b) more found = found
finds-more P Q (Some a) None more found = found
finds-more P Q (Some a) (Some b) more found =
    weaker (λ file. (u : Tables) × (tables_in file ≡ Some u) × P u) (λ file. (u : Tables) × (tables_in file ≡ Some u) × Q u) a b (λ file is. (is.0, is.1, more is.0 is.2)) found

pub finds-on : (P : Tables → Type 0) (a b c : Option Trace) → FindsAlways P a b → FindsAlways P b c → FindsAlways P a c
finds-on P None None None one two = tt
finds-on P None None (Some c) one two = two
finds-on P None (Some b) c one two = absurd one
finds-on P (Some a) None c one two = absurd one
finds-on P (Some a) (Some b) None one two = two
finds-on P (Some a) (Some b) (Some c) one two =
    joined (λ file. (u : Tables) × (tables_in file ≡ Some u) × P u) a b c one two

-- what is read among some tables of each of which it is true
pub among-finds : (P : Tables → Type 0) (ts : List Tables) (a b : Option Trace) → ((u : Tables) → IsOneOf u ts → P u) → CrashesLeave ts a b → FindsAlways P a b
among-finds P ts None None all left = tt
among-finds P ts None (Some b) all left = left
among-finds P ts (Some a) None all left = left
among-finds P ts (Some a) (Some b) all left =
    weaker (ReadsAmong ts) (λ file. (u : Tables) × (tables_in file ≡ Some u) × P u) a b (λ file is. (is.0, is.1, all is.0 is.2)) left

among : (u : Tables) (ts : List Tables) → IsOneOf u ts → IsAmong u ts
among u [] is = is
among u (t ∷ ts) (inl same) = inl same
among u (t ∷ ts) (inr more) = inr (among u ts more)

module _ (settings : Settings) where
  -- what is pending along the first entries and then along the others
  pub pend-on : (xs ys : List Entry) (s : State) (a b c : Option (List Item)) → PendAlong settings s xs a b → PendAlong settings (end settings s xs) ys b c → PendAlong settings s (xs ++ ys) a c
  pend-on [] ys s a b c one two = subst (λ o. PendAlong settings s ys o c) one two
  pend-on (x ∷ xs) ys s a b c (mid, here, rest) two = (mid, here, pend-on xs ys (after settings s x) mid b c rest two)

  end-on : (xs : List Entry) (e : Entry) (s : State) → end settings s (xs ++ e ∷ []) ≡ after settings (end settings s xs) e
  end-on [] e s = refl
  end-on (x ∷ xs) e s = end-on xs e (after settings s x)

  told-on : (xs : List Entry) (e : Entry) (s : State) (t : Tables) → with_items t (told settings s (xs ++ e ∷ [])) ≡ tables_after settings (end settings s xs) e (with_items t (told settings s xs))
  told-on [] e s t = fold-append item_on t (recorded (effects_of settings s e)) []
  told-on (x ∷ xs) e s t =
      fold-append item_on t (recorded (effects_of settings s x)) (told settings (after settings s x) (xs ++ e ∷ []))
      ∙ told-on xs e (after settings s x) (tables_after settings s x t)
      ∙ ap (tables_after settings (end settings s (x ∷ xs)) e) (sym (fold-append item_on t (recorded (effects_of settings s x)) (told settings (after settings s x) xs)))

  append-again : (xs : List Entry) (e : Entry) (ys : List Entry) → (xs ++ e ∷ []) ++ ys ≡ xs ++ e ∷ ys
  append-again [] e ys = refl
  append-again (x ∷ xs) e ys = ap (λ (l : List Entry). x ∷ l) (append-again xs e ys)

  -- at each moment of an entry after some others a crash leaves what these leave with it
  pub entry-finds : (s : State) (t : Tables) (first : List Entry) (e : Entry) (a b : Unsettled) → PendAlong settings s first None a.pending
      → Crashing settings (end settings s first) e (Some (with_items t (told settings s first))) (Some (tables_after settings (end settings s first) e (with_items t (told settings s first)))) a b
      → FindsAlways (IsLeft settings s t (first ++ e ∷ [])) a.trace b.trace
  entry-finds s t first e a b along did =
      let there = with_items t (told settings s first) in
      let behind = tables_after settings (end settings s first) e there in
      let along' : PendAlong settings s (first ++ e ∷ []) None b.pending = pend-on first (e ∷ []) s None a.pending b.pending along (b.pending, did.pends, refl) in
      among-finds (IsLeft settings s t (first ++ e ∷ [])) (left_by there a.pending ++ left_by behind b.pending) a.trace b.trace
      (λ u is. within first e a.pending b.pending refl along along' (elim (either u (left_by there a.pending) (left_by behind b.pending) is) [
        | inl was ↦ inl (among u (left_by there a.pending) was)
        | inr now ↦ inr (among u (left_by (with_items t (told settings s (first ++ e ∷ []))) b.pending) (subst (λ x. IsOneOf u (left_by x b.pending)) (sym (told-on first e s t)) now))
      ]))
      (did.passes there behind refl refl)

  module _ (s : State) (t : Tables) where
    -- a run that goes on after some entries: what is left there, and all along
    goes-on : (later first : List Entry) (a b : Unsettled) → PendAlong settings s first None a.pending → Rests (Some (with_items t (told settings s first))) a
        → CrashesAlong settings (end settings s first) (with_items t (told settings s first)) later a b → FindsAlways (IsLeftBySome settings s t (first ++ later)) a.trace b.trace
    goes-on [] first a b along rests runs =
        subst (λ (w : Unsettled). FindsAlways (IsLeftBySome settings s t (first ++ [])) a.trace w.trace) (sym runs)
        (among-finds (IsLeftBySome settings s t (first ++ [])) (left_by (with_items t (told settings s first)) a.pending) a.trace a.trace
        (λ u is. (first, [], refl, between a.pending along (among u (left_by (with_items t (told settings s first)) a.pending) is))) (rests (with_items t (told settings s first)) refl))
    goes-on (e ∷ later) first a b along rests (mid, did, runs) =
        let there = with_items t (told settings s first) in
        let behind = with_items t (told settings s (first ++ e ∷ [])) in
        let behind_is : behind ≡ tables_after settings (end settings s first) e there = told-on first e s t in
        let along' : PendAlong settings s (first ++ e ∷ []) None mid.pending =
        pend-on first (e ∷ []) s None a.pending mid.pending along (mid.pending, did.pends, refl) in
        let parts : (first ++ e ∷ []) ++ later ≡ first ++ e ∷ later = append-again first e later in
        let all = IsLeftBySome settings s t (first ++ e ∷ later) in
        let one : FindsAlways all a.trace mid.trace =
        among-finds all (left_by there a.pending ++ left_by (tables_after settings (end settings s first) e there) mid.pending) a.trace mid.trace
        (λ u is. elim (either u (left_by there a.pending) (left_by (tables_after settings (end settings s first) e there) mid.pending) is) [
          | inl was ↦ (first, e ∷ later, refl, between a.pending along (among u (left_by there a.pending) was))
          | inr now ↦ (
            first ++ e ∷ [],
            later,
            sym parts,
            between mid.pending along'
                (among u (left_by behind mid.pending) (subst (λ x. IsOneOf u (left_by x mid.pending)) (sym behind_is) now)),
          )
        ])
        (did.passes there (tables_after settings (end settings s first) e there) refl refl) in
        let runs' : CrashesAlong settings (end settings s (first ++ e ∷ [])) behind later mid b =
        subst (λ x. CrashesAlong settings x behind later mid b) (sym (end-on first e s)) (subst (λ x. CrashesAlong settings (after settings (end settings s first) e) x later mid b) (sym behind_is) runs) in
        let two : FindsAlways all mid.trace b.trace =
        subst (λ (l : List Entry). FindsAlways (IsLeftBySome settings s t l) mid.trace b.trace) parts
        (goes-on later (first ++ e ∷ []) mid b along' (subst (λ x. Rests (Some x) mid) (sym behind_is) did.rests) runs') in
        finds-on all a.trace mid.trace b.trace one two

  pub runs-find : (s : State) (t : Tables) (entries : List Entry) (a b : Unsettled) → a.pending ≡ None → Rests (Some t) a → CrashesAlong settings s t entries a b
      → FindsAlways (IsLeftBySome settings s t entries) a.trace b.trace
  runs-find s t entries a b none rests runs = goes-on s t entries [] a b none rests runs

-- so a row that stands is recorded in whatever is found
pub run-records : (settings : Settings) (s : State) (t : Tables) (entries : List Entry) (a b : Unsettled) (repo : List ℕ) (row : Row) → AreNamedApart settings.hosted → IsSound settings s → InOrder t → Holds t s
    → Legal settings s entries → MayNotGo entries row.path → row_at row.path (rows_of repo s) ≡ Some row → a.pending ≡ None → Rests (Some t) a → CrashesAlong settings s t entries a b
    → FindsAlways (IsRecordedAs repo row) a.trace b.trace
run-records settings s t entries a b repo row apart sound ordered holds legal none is quiet rests runs =
    finds-more (IsLeftBySome settings s t entries) (IsRecordedAs repo row) a.trace b.trace
    (λ u so. outlasts-crashes settings s t u so.0 repo row apart sound ordered holds (legal-front settings so.0 so.1 s (subst (Legal settings s) so.2 legal))
    (stays-front settings so.0 so.1 row.path (subst (λ (l : List Entry). MayNotGo l row.path) so.2 none)) is so.3)
    (runs-find settings s t entries a b quiet rests runs)

-- where an entry recorded something, nothing is pending after it
settled-by : (settings : Settings) (s : State) (e : Entry) (old new : Option (List Item)) → recorded (effects_of settings s e) ≢ [] → Pends settings s e old new → new ≡ None
settled-by settings s e old new some (undone none) = none
settled-by settings s e old new some (stays quiet other same) = absurd (some quiet)
settled-by settings s e old new some (fails failed pends) = absurd (some (failed-records settings s e failed))

-- an entry that recorded something, and those after it: what stands after it is recorded in whatever is found from its end on
pub entry-outlasts : (settings : Settings) (s : State) (t : Tables) (e : Entry) (later : List Entry) (old a b : Unsettled) (repo : List ℕ) (row : Row) → AreNamedApart settings.hosted → IsSound settings s → InOrder t → Holds t s
    → Legal settings s (e ∷ later) → MayNotGo later row.path → recorded (effects_of settings s e) ≢ [] → row_at row.path (rows_of repo (after settings s e)) ≡ Some row
    → CrashesAlong settings s t (e ∷ []) old a → CrashesAlong settings (after settings s e) (tables_after settings s e t) later a b → FindsAlways (IsRecordedAs repo row) a.trace b.trace
entry-outlasts settings s t e later old a b repo row apart sound ordered holds legal none some is (mid, did, last) runs =
    let made = history-recorded settings apart (e ∷ []) s t (legal.0, tt) sound.order sound.places sound.sessions ordered holds in
    let same : with_items t (told settings s (e ∷ [])) ≡ tables_after settings s e t = told-on settings [] e s t in
    let rests : Rests (Some (tables_after settings s e t)) a = subst (Rests (Some (tables_after settings s e t))) (sym last) did.rests in
    let quiet : a.pending ≡ None = ap (λ (w : Unsettled). w.pending) last ∙ settled-by settings s e old.pending mid.pending some did.pends in
    run-records settings (after settings s e) (tables_after settings s e t) later a b repo row apart (keeps-sound settings apart s e sound legal.0)
    (subst InOrder same made.1) (subst (λ u. Holds u (after settings s e)) same made.2) legal.1 none is quiet rests runs

-- and a start over what is found answers it
pub entry-again : (settings : Settings) (s : State) (t : Tables) (e : Entry) (later : List Entry) (old a b : Unsettled) (repo : List ℕ) (row : Row) (c : Coordinates) → AreNamedApart settings.hosted
    → AreProxiesApart settings.proxies → IsSound settings s → InOrder t → Holds t s → Legal settings s (e ∷ later) → MayNotGo later row.path → IsTrue (is_there repo settings) → kind row.path ≡ Ok (File c)
    → recorded (effects_of settings s e) ≢ [] → row_at row.path (rows_of repo (after settings s e)) ≡ Some row
    → CrashesAlong settings s t (e ∷ []) old a → CrashesAlong settings (after settings s e) (tables_after settings s e t) later a b → FindsAlways (IsAnsweredAgain settings repo row) a.trace b.trace
entry-again settings s t e later old a b repo row c apart proxies sound ordered holds legal none there named some is made runs =
    finds-more (IsRecordedAs repo row) (IsAnsweredAgain settings repo row) a.trace b.trace
    (λ u found tells stored clock faults whole before rest look_entry tried in_order in_range completes goes_on no_collects looks.
    answered-again settings u tells stored clock faults before look_entry rest repo tried row c whole apart proxies in_order in_range completes there named found goes_on no_collects looks)
    (entry-outlasts settings s t e later old a b repo row apart sound ordered holds legal none some is made runs)

-- so does what a put created
pub created-outlasts : (settings : Settings) (s : State) (t : Tables) (e : Entry) (later : List Entry) (old a b : Unsettled) (repo path : List ℕ) (n : ℕ) (blob : Blob) → AreNamedApart settings.hosted → IsSound settings s
    → InOrder t → Holds t s → Legal settings s (e ∷ later) → MayNotGo later path → e.command ≡ put repo path n blob → e.reply ≡ created
    → CrashesAlong settings s t (e ∷ []) old a → CrashesAlong settings (after settings s e) (tables_after settings s e t) later a b → FindsAlways (IsRecordedAs repo (new_row path blob e.moment)) a.trace b.trace
created-outlasts settings s t e later old a b repo path n blob apart sound ordered holds legal none is done made runs =
    entry-outlasts settings s t e later old a b repo (new_row path blob e.moment) apart sound ordered holds legal none
    (created-records settings s e repo path n blob apart sound legal.0 is done) (created-stands settings s e repo path n blob apart sound legal.0 is done) made runs

-- so is it answered
pub created-again : (settings : Settings) (s : State) (t : Tables) (e : Entry) (later : List Entry) (old a b : Unsettled) (repo path : List ℕ) (n : ℕ) (blob : Blob) (c : Coordinates) → AreNamedApart settings.hosted
    → AreProxiesApart settings.proxies → IsSound settings s → InOrder t → Holds t s → Legal settings s (e ∷ later) → MayNotGo later path → IsTrue (is_there repo settings) → kind path ≡ Ok (File c)
    → e.command ≡ put repo path n blob → e.reply ≡ created → CrashesAlong settings s t (e ∷ []) old a → CrashesAlong settings (after settings s e) (tables_after settings s e t) later a b
    → FindsAlways (IsAnsweredAgain settings repo (new_row path blob e.moment)) a.trace b.trace
created-again settings s t e later old a b repo path n blob c apart proxies sound ordered holds legal none there named is done made runs =
    entry-again settings s t e later old a b repo (new_row path blob e.moment) c apart proxies sound ordered holds legal none there named
    (created-records settings s e repo path n blob apart sound legal.0 is done) (created-stands settings s e repo path n blob apart sound legal.0 is done) made runs

-- After an entry that recorded something and others that do not take the file away, this is pending: in the tables then, and in these with that
-- change, what stood after the entry is recorded.
pub left-recorded : (settings : Settings) (s : State) (t u : Tables) (e : Entry) (later : List Entry) (old mid new : Option (List Item)) (repo : List ℕ) (row : Row) → AreNamedApart settings.hosted → IsSound settings s
    → InOrder t → Holds t s → Legal settings s (e ∷ later) → MayNotGo later row.path → recorded (effects_of settings s e) ≢ [] → row_at row.path (rows_of repo (after settings s e)) ≡ Some row
    → Pends settings s e old mid → PendAlong settings (after settings s e) later mid new
    → IsOneOf u (left_by (with_items (tables_after settings s e t) (told settings (after settings s e) later)) new) → IsRecordedAs repo row u
left-recorded settings s t u e later old mid new repo row apart sound ordered holds legal none some is pends along left =
    let made = history-recorded settings apart (e ∷ []) s t (legal.0, tt) sound.order sound.places sound.sessions ordered holds in
    let same : with_items t (told settings s (e ∷ [])) ≡ tables_after settings s e t = told-on settings [] e s t in
    let along' : PendAlong settings (after settings s e) later None new =
    subst (λ (p : Option (List Item)). PendAlong settings (after settings s e) later p new) (settled-by settings s e old mid some pends) along in
    outlasts-crashes settings (after settings s e) (tables_after settings s e t) u later repo row apart (keeps-sound settings apart s e sound legal.0)
    (subst InOrder same made.1) (subst (λ x. Holds x (after settings s e)) same made.2) legal.1 none is
    (between new along' (among u (left_by (with_items (tables_after settings s e t) (told settings (after settings s e) later)) new) left))

-- and a start over them answers it
pub left-again : (settings : Settings) (s : State) (t u : Tables) (e : Entry) (later : List Entry) (old mid new : Option (List Item)) (repo : List ℕ) (row : Row) (c : Coordinates) → AreNamedApart settings.hosted
    → AreProxiesApart settings.proxies → IsSound settings s → InOrder t → Holds t s → Legal settings s (e ∷ later) → MayNotGo later row.path → IsTrue (is_there repo settings) → kind row.path ≡ Ok (File c)
    → recorded (effects_of settings s e) ≢ [] → row_at row.path (rows_of repo (after settings s e)) ≡ Some row → Pends settings s e old mid → PendAlong settings (after settings s e) later mid new
    → IsOneOf u (left_by (with_items (tables_after settings s e t) (told settings (after settings s e) later)) new) → IsAnsweredAgain settings repo row u
left-again settings s t u e later old mid new repo row c apart proxies sound ordered holds legal none there named some is pends along left tells stored clock faults whole before rest look_entry tried in_order in_range completes
    goes_on no_collects looks =
    answered-again settings u tells stored clock faults before look_entry rest repo tried row c whole apart proxies in_order in_range completes there named
    (left-recorded settings s t u e later old mid new repo row apart sound ordered holds legal none some is pends along left) goes_on no_collects looks

-- and what stands over the tables in the end is left by all of the entries
pub left-between : (settings : Settings) (s : State) (t u : Tables) (entries : List Entry) (new : Option (List Item)) → PendAlong settings s entries None new
    → IsOneOf u (left_by (with_items t (told settings s entries)) new) → IsLeft settings s t entries u
left-between settings s t u entries new along left = between new along (among u (left_by (with_items t (told settings s entries)) new) left)
