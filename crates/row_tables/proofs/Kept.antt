-- What the tables keep beside their rows: the numbers of all blobs that rows name, and sessions rise.
use Rattle.std.proofs.Common.{◌≡◌, ℕ, Bool, true, false, cond, ◌&&◌, List, [], ◌∷◌, ◌++◌, filter, refl, sym, ◌∙◌, ap}
use Rattle.std.specs.Prelude.{◌||◌, ◌==◌, nat_lt, Some}
use Rattle.std.specs.List.{list_all, list_any}
use Rattle.std.specs.Ordering.{match_ordering, nat_cmp, is_eq}
use Rattle.std.specs.BTreeSet.{BTreeSet, contains, Updates}
use Rattle.std.specs.declared.cmp.Ordering.{Ordering}
use Rattle.std.specs.declared.cmp.Ordering.TheVariants.{Less, Equal, Greater}
use Rattle.std.proofs.lemmas.Map.Views.{exact_unsigned_eq}
use Rattle.std.specs.Cmp.{nat_cmp_is}
use Rattle.repo_model.specs.Data.{Row}
use Rattle.repo_model.specs.State.{change_where}
use Rattle.repo_model.specs.Tables.{Tables, RecordedRow, RecordedSession, RecordedDocument, place_cmp, is_recorded, with_recorded, change_recorded, is_session}
use Rattle.repo_model.specs.declared.session.SessionResult.{SessionResult}
use Rattle.row_tables.specs.Applying.{NamesAmong, AreRising}
use Rattle.row_tables.specs.Stored.{shown_session, shown_sessions}
use Rattle.row_tables.specs.declared.sessions.SessionRow.{SessionRow}

or_false : (x y : Bool) → x || y ≡ false → (x ≡ false) × (y ≡ false)
or_false false false is = (refl, refl)
or_false false true is = absurd cc
or_false true y is = absurd cc

false_or : (x y : Bool) → x ≡ false → y ≡ false → x || y ≡ false
false_or x y one two = λ i. one i || two i

or_swap : (x y z : Bool) → x || (y || z) ≡ y || (x || z)
or_swap true true z = refl
or_swap true false z = refl
or_swap false y z = refl

any_with : (test : RecordedRow → Bool) (r : RecordedRow) (rows : List RecordedRow) → list_any test (with_recorded r rows) ≡ test r || list_any test rows
any_with test r [] = refl
any_with test r (s ∷ rows) = by (any_with test r rows) (place_cmp r.repo r.row.path s.repo s.row.path)
  where
    by : list_any test (with_recorded r rows) ≡ test r || list_any test rows → (o : Ordering) → list_any test (match_ordering o (r ∷ s ∷ rows) (r ∷ s ∷ rows) (s ∷ with_recorded r rows)) ≡ test r || list_any test (s ∷ rows)
    by known Less = refl
    by known Equal = refl
    by known Greater = ap (λ b. test s || b) known ∙ or_swap (test s) (test r) (list_any test rows)

any_changed : (n : ℕ) (repo path : List ℕ) (f : Row → Row) (rows : List RecordedRow) → ((row : Row) → (f row).blob.number ≡ row.blob.number)
    → list_any (λ (r : RecordedRow). r.row.blob.number == n) (change_recorded repo path f rows) ≡ list_any (λ (r : RecordedRow). r.row.blob.number == n) rows
any_changed n repo path f [] keeps = refl
any_changed n repo path f (r ∷ rows) keeps = λ i. head (is_recorded repo path r) i || any_changed n repo path f rows keeps i
  where
    head : (b : Bool) → (cond b (record r { row = f r.row }) r).row.blob.number == n ≡ r.row.blob.number == n
    head true = ap (λ number. number == n) (keeps r.row)
    head false = refl

any_filtered : (test p : RecordedRow → Bool) (rows : List RecordedRow) → list_any test rows ≡ false → list_any test (filter p rows) ≡ false
any_filtered test p [] none = refl
any_filtered test p (r ∷ rows) none = by (any_filtered test p rows (or_false (test r) (list_any test rows) none).1) (p r)
  where
    by : list_any test (filter p rows) ≡ false → (b : Bool) → list_any test (cond b (r ∷ filter p rows) (filter p rows)) ≡ false
    by rest true = false_or (test r) (list_any test (filter p rows)) (or_false (test r) (list_any test rows) none).0 rest
    by rest false = rest

neither : (x y : Bool) → cond x true y ≡ false → (x ≡ false) × (y ≡ false)
neither true y is = absurd cc
neither false y is = (refl, is)

apart_numbers : (x y : ℕ) (b : Bool) → x == y ≡ b → is_eq (nat_cmp x y) ≡ false → b ≡ false
apart_numbers x y true equal apart = ap is_eq (nat_cmp_is x y Equal (exact_unsigned_eq x y equal)) ∙ apart
apart_numbers x y false equal apart = refl

module _ (numbers : BTreeSet ℕ) (rows other new : List RecordedRow) (documents : List RecordedDocument) (sessions : List RecordedSession) where
  abbrev of_hosted : List RecordedRow → Tables
  of_hosted hosted = record { hosted = hosted; cached = other; documents = documents; sessions = sessions }

  abbrev of_cached : List RecordedRow → Tables
  of_cached cached = record { hosted = other; cached = cached; documents = documents; sessions = sessions }

  -- what the greater set does not have is not the number that was added, and was not there before
  not_among : (blob : ℕ) (more : BTreeSet ℕ) → Updates nat_cmp numbers more blob true → (n : ℕ) → contains nat_cmp more n ≡ false → (blob == n ≡ false) × (contains nat_cmp numbers n ≡ false)
  not_among blob more added n is =
      let (apart, before) = neither (is_eq (nat_cmp blob n)) (contains nat_cmp numbers n) (sym (added.0 n) ∙ is) in
      (apart_numbers blob n (blob == n) refl apart, before)

  pub among_hosted : (r : RecordedRow) (more : BTreeSet ℕ) → Updates nat_cmp numbers more r.row.blob.number true → new ≡ with_recorded r rows → NamesAmong numbers (of_hosted rows) → NamesAmong more (of_hosted new)
  among_hosted r more added is among n none =
      let (apart, before) = not_among r.row.blob.number more added n none in
      let old = or_false _ _ (among n before) in
      false_or _ _ (ap (list_any (λ (s : RecordedRow). s.row.blob.number == n)) is ∙ any_with (λ (s : RecordedRow). s.row.blob.number == n) r rows ∙ false_or _ _ apart old.0) old.1

  pub among_cached : (r : RecordedRow) (more : BTreeSet ℕ) → Updates nat_cmp numbers more r.row.blob.number true → new ≡ with_recorded r rows → NamesAmong numbers (of_cached rows) → NamesAmong more (of_cached new)
  among_cached r more added is among n none =
      let (apart, before) = not_among r.row.blob.number more added n none in
      let old = or_false _ _ (among n before) in
      false_or _ _ old.0 (ap (list_any (λ (s : RecordedRow). s.row.blob.number == n)) is ∙ any_with (λ (s : RecordedRow). s.row.blob.number == n) r rows ∙ false_or _ _ apart old.1)

  pub among_changed : (repo path : List ℕ) (f : Row → Row) → ((row : Row) → (f row).blob.number ≡ row.blob.number) → new ≡ change_recorded repo path f rows → NamesAmong numbers (of_hosted rows) → NamesAmong numbers (of_hosted new)
  among_changed repo path f keeps is among n none =
      let old = or_false _ _ (among n none) in
      false_or _ _ (ap (list_any (λ (s : RecordedRow). s.row.blob.number == n)) is ∙ any_changed n repo path f rows keeps ∙ old.0) old.1

  pub among_changed_cached : (repo path : List ℕ) (f : Row → Row) → ((row : Row) → (f row).blob.number ≡ row.blob.number) → new ≡ change_recorded repo path f rows → NamesAmong numbers (of_cached rows) → NamesAmong numbers (of_cached new)
  among_changed_cached repo path f keeps is among n none =
      let old = or_false _ _ (among n none) in
      false_or _ _ old.0 (ap (list_any (λ (s : RecordedRow). s.row.blob.number == n)) is ∙ any_changed n repo path f rows keeps ∙ old.1)

  pub among_filtered : (p : RecordedRow → Bool) → new ≡ filter p rows → NamesAmong numbers (of_hosted rows) → NamesAmong numbers (of_hosted new)
  among_filtered p is among n none =
      let old = or_false _ _ (among n none) in
      false_or _ _ (ap (list_any (λ (s : RecordedRow). s.row.blob.number == n)) is ∙ any_filtered (λ (s : RecordedRow). s.row.blob.number == n) p rows old.0) old.1

-- a session with a greater number after the others
all_push : (n k : ℕ) (new : RecordedSession) (ss : List RecordedSession) → new.number ≡ n → nat_lt k n ≡ true → list_all (λ (t : RecordedSession). nat_lt k t.number) ss ≡ true
    → list_all (λ (t : RecordedSession). nat_lt k t.number) (ss ++ new ∷ []) ≡ true
all_push n k new [] is above all = ap (λ m. nat_lt k m && true) is ∙ ap (λ b. b && true) above
all_push n k new (s ∷ ss) is above all =
    let parts = both (nat_lt k s.number) (list_all (λ (t : RecordedSession). nat_lt k t.number) ss) all in
    λ i. parts.0 i && all_push n k new ss is above parts.1 i
  where
    both : (x y : Bool) → x && y ≡ true → (x ≡ true) × (y ≡ true)
    both true true is = (refl, refl)
    both true false is = absurd cc
    both false y is = absurd cc

pub rising_push : (n : ℕ) (new : RecordedSession) (ss : List RecordedSession) → new.number ≡ n → AreRising ss → list_all (λ (s : RecordedSession). nat_lt s.number n) ss ≡ true → AreRising (ss ++ new ∷ [])
rising_push n new [] is rising all = (refl, tt)
rising_push n new (s ∷ ss) is rising all =
    let parts = both (nat_lt s.number n) (list_all (λ (t : RecordedSession). nat_lt t.number n) ss) all in
    (all_push n s.number new ss is parts.0 rising.0, rising_push n new ss is rising.1 parts.1)
  where
    both : (x y : Bool) → x && y ≡ true → (x ≡ true) × (y ≡ true)
    both true true is = (refl, refl)
    both true false is = absurd cc
    both false y is = absurd cc

-- results don't matter to the order
all_same : (k n : ℕ) (how : SessionResult) (ss : List RecordedSession) → list_all (λ (t : RecordedSession). nat_lt k t.number) (change_where (is_session n) (λ s. record s { result = Some how }) ss) ≡ list_all (λ (t : RecordedSession). nat_lt k t.number) ss
all_same k n how [] = refl
all_same k n how (s ∷ ss) = λ i. head (is_session n s) i && all_same k n how ss i
  where
    head : (b : Bool) → nat_lt k (cond b (record s { result = Some how }) s).number ≡ nat_lt k s.number
    head true = refl
    head false = refl

pub rising_changed : (n : ℕ) (how : SessionResult) (ss : List RecordedSession) → AreRising ss → AreRising (change_where (is_session n) (λ s. record s { result = Some how }) ss)
rising_changed n how [] rising = tt
rising_changed n how (s ∷ ss) rising = by (rising_changed n how ss rising.1) (is_session n s)
  where
    by : AreRising (change_where (is_session n) (λ s. record s { result = Some how }) ss) → (b : Bool) → AreRising (cond b (record s { result = Some how }) s ∷ change_where (is_session n) (λ s. record s { result = Some how }) ss)
    by rest true = (all_same s.number n how ss ∙ rising.0, rest)
    by rest false = (all_same s.number n how ss ∙ rising.0, rest)

pub rising_if : (b : Bool) (n : ℕ) (how : SessionResult) (ss : List RecordedSession) → AreRising ss → AreRising (cond b (change_where (is_session n) (λ s. record s { result = Some how }) ss) ss)
rising_if true n how ss rising = rising_changed n how ss rising
rising_if false n how ss rising = rising

pub shown_push : (ss : List SessionRow) (s : SessionRow) → shown_sessions (ss ++ s ∷ []) ≡ shown_sessions ss ++ shown_session s ∷ []
shown_push [] s = refl
shown_push (t ∷ ss) s = ap (λ ts. shown_session t ∷ ts) (shown_push ss s)
