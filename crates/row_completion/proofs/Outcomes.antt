-- The items of recorded files, the first of them or all: they fit one after another, and the rows after them have their digests.
use native.Mathlib.Omega.{arith}
use Rattle.std.proofs.Common.{◌≡◌, ◌⊎◌, inl, inr, ◌≤◌, Bool, true, false, cond, List, [], ◌∷◌, ◌++◌, length, refl, sym, ap, ◌∙◌, subst, eqb-true}
use Rattle.std.specs.Prelude.{◌==◌, ◌||◌, IsTrue}
use Rattle.std.proofs.lemmas.Bool.{and_parts}
use Rattle.mvn_digest.specs.declared.known.Further.{Further}
use Rattle.outside.specs.Blobs.{Shelf}
use Rattle.repo_model.specs.Prints.{lacks_further}
use Rattle.repo_model.specs.Tables.{AreComplete, RecordedDocument, RecordedRow, RecordedSession, Tables, change_recorded, digested, fits_on, item_on, lacks_at}
use Rattle.repo_model.specs.declared.item.Item.{Item}
use Rattle.repo_model.specs.declared.item.Item.TheVariants.{Digested}
use Rattle.row_tables.specs.Applying.{with_items}
use Rattle.row_tables.specs.Items.{is_further}
use Rattle.blob_audit.specs.Order.{File}
use Rattle.row_completion.specs.Completion.{AreDigested, IsFurtherOf, given, none, row_with, same}
use Rattle.row_completion.specs.Gathering.{AreItemsOf}
use Rattle.row_completion.proofs.Behind.{Before, before-more, changed-after, complete-more, lacks-after, lacks-none}
use Rattle.row_completion.proofs.Fitting.{AllFit}
use Rattle.row_completion.proofs.Weaving.{Apart, Woven, cached, hosted}
use Rattle.row_completion.proofs.Weaving as woven

-- these are the first of some items, or all
abbrev pub AreFirst : List Item → List Item → Type 0
AreFirst [] items = Unit {0}
AreFirst (item ∷ front) [] = ⊥
AreFirst (item ∷ front) (one ∷ items) = (item ≡ one) × AreFirst front items

pub first-of : (front rest : List Item) → AreFirst front (front ++ rest)
first-of [] rest = tt
first-of (item ∷ front) rest = (refl, first-of front rest)

-- a row with further digests lacks none
has-further : (further : Further) → IsTrue (is_further further) → (length further.sha256 == 0) ≡ false
has-further further is =
    let long : length further.sha256 ≡ 32 = eqb-true (length further.sha256) 32 (and_parts (length further.sha256 == 32) (length further.sha512 == 64) is).0 in
    ap (λ n. n == 0) long

regroup : (done : List RecordedRow) (r : RecordedRow) (rows : List RecordedRow) → done ++ r ∷ rows ≡ (done ++ r ∷ []) ++ rows
regroup [] r rows = refl
regroup (d ∷ done) r rows = ap (λ them. d ∷ them) (regroup done r rows)

pub as-they-are : (shelf : Shelf) (rows : List RecordedRow) → AreDigested shelf rows rows
as-they-are shelf [] = none
as-they-are shelf (r ∷ rows) = same r rows rows (as-they-are shelf rows)

module _ (shelf : Shelf) (documents : List RecordedDocument) (sessions : List RecordedSession) where
  abbrev pub tables : List RecordedRow → List RecordedRow → Tables
  tables hs cs = record { hosted = hs; cached = cs; documents = documents; sessions = sessions }

  -- rows are completed after others, once the first of these items are applied
  pub record Outcome (done others hs cs : List RecordedRow) (items front : List Item) : Type 0 where
    pub hosted_then : List RecordedRow
    pub cached_then : List RecordedRow
    pub fit : AllFit (tables (done ++ hs) (others ++ cs)) front
    pub made : with_items (tables (done ++ hs) (others ++ cs)) front ≡ tables (done ++ hosted_then) (others ++ cached_then)
    pub hosted_so : AreDigested shelf hs hosted_then
    pub cached_so : AreDigested shelf cs cached_then
    pub all : length items ≤ length front → AreComplete hosted_then × AreComplete cached_then

  -- no item more
  stopped : (done others hs cs : List RecordedRow) (item : Item) (items : List Item) → Outcome done others hs cs (item ∷ items) []
  stopped done others hs cs item items = record {
    hosted_then = hs;
    cached_then = cs;
    fit = tt;
    made = refl;
    hosted_so = as-they-are shelf hs;
    cached_so = as-they-are shelf cs;
    all = λ few. absurd (omega (arith, few));
  }

  -- a row as it was, or with its further digests
  abbrev IsNext : RecordedRow → RecordedRow → Type 0
  IsNext r new = (new ≡ r) ⊎ ((further : Further) × (lacks_further r.row.blob.print ≡ true) × IsFurtherOf shelf r further × (new ≡ row_with further r))

  onto : (r new : RecordedRow) → IsNext r new → (old now : List RecordedRow) → AreDigested shelf old now → AreDigested shelf (r ∷ old) (new ∷ now)
  onto r new (inl e) old now so = subst (λ (n : RecordedRow). AreDigested shelf (r ∷ old) (n ∷ now)) (sym e) (same r old now so)
  onto r new (inr one) old now so = subst (λ (n : RecordedRow). AreDigested shelf (r ∷ old) (n ∷ now)) (sym one.3) (given r one.0 old now one.1 one.2 so)

  -- a hosted row goes after those that are done, as it then is
  hosted-next : (done others hs cs : List RecordedRow) (r new : RecordedRow) (items front items' front' : List Item) → IsNext r new → lacks_further new.row.blob.print ≡ false
      → (length items' ≤ length front' → length items ≤ length front)
      → (AllFit (tables ((done ++ new ∷ []) ++ hs) (others ++ cs)) front → AllFit (tables (done ++ r ∷ hs) (others ++ cs)) front')
      → with_items (tables (done ++ r ∷ hs) (others ++ cs)) front' ≡ with_items (tables ((done ++ new ∷ []) ++ hs) (others ++ cs)) front
      → Outcome (done ++ new ∷ []) others hs cs items front → Outcome done others (r ∷ hs) cs items' front'
  hosted-next done others hs cs r new items front items' front' one whole few fits then o = record {
    hosted_then = new ∷ o.hosted_then;
    cached_then = o.cached_then;
    fit = fits o.fit;
    made = then ∙ o.made ∙ ap (λ rows. tables rows (others ++ o.cached_then)) (sym (regroup done new o.hosted_then));
    hosted_so = onto r new one hs o.hosted_then o.hosted_so;
    cached_so = o.cached_so;
    all = λ most. let both = o.all (few most) in ((whole, both.0), both.1);
  }

  cached-next : (done others hs cs : List RecordedRow) (r new : RecordedRow) (items front items' front' : List Item) → IsNext r new → lacks_further new.row.blob.print ≡ false
      → (length items' ≤ length front' → length items ≤ length front)
      → (AllFit (tables (done ++ hs) ((others ++ new ∷ []) ++ cs)) front → AllFit (tables (done ++ hs) (others ++ r ∷ cs)) front')
      → with_items (tables (done ++ hs) (others ++ r ∷ cs)) front' ≡ with_items (tables (done ++ hs) ((others ++ new ∷ []) ++ cs)) front
      → Outcome done (others ++ new ∷ []) hs cs items front → Outcome done others hs (r ∷ cs) items' front'
  cached-next done others hs cs r new items front items' front' one whole few fits then o = record {
    hosted_then = o.hosted_then;
    cached_then = new ∷ o.cached_then;
    fit = fits o.fit;
    made = then ∙ o.made ∙ ap (λ rows. tables (done ++ o.hosted_then) rows) (sym (regroup others new o.cached_then));
    hosted_so = o.hosted_so;
    cached_so = onto r new one cs o.cached_then o.cached_so;
    all = λ most. let both = o.all (few most) in (both.0, (whole, both.1));
  }

  -- one item that fits, and the tables after it
  item-fits : (t after : Tables) (item one : Item) (front : List Item) → item ≡ one → IsTrue (fits_on t one) → item_on t one ≡ after → AllFit after front → AllFit t (item ∷ front)
  item-fits t after item one front is fits on all =
      subst (λ (i : Item). AllFit t (i ∷ front)) (sym is) (fits, subst (λ (u : Tables). AllFit u front) (sym on) all)

  item-then : (t after : Tables) (item one : Item) (front : List Item) → item ≡ one → item_on t one ≡ after → with_items t (item ∷ front) ≡ with_items after front
  item-then t after item one front is on = ap (λ (i : Item). with_items t (i ∷ front)) is ∙ ap (λ (u : Tables). with_items u front) on

  hosted-fits : (done others hs cs : List RecordedRow) (r : RecordedRow) (further : Further) → lacks_further r.row.blob.print ≡ true → Apart r done
      → IsTrue (fits_on (tables (done ++ r ∷ hs) (others ++ cs)) (Digested r.repo r.row.path further))
  hosted-fits done others hs cs r further lacks before = λ i. (lacks-after r done hs before ∙ lacks) i || lacks_at r.repo r.row.path (others ++ cs)

  hosted-on : (done others hs cs : List RecordedRow) (r : RecordedRow) (further : Further) → lacks_further r.row.blob.print ≡ true → Apart r done → Apart r hs
      → item_on (tables (done ++ r ∷ hs) (others ++ cs)) (Digested r.repo r.row.path further) ≡ tables ((done ++ row_with further r ∷ []) ++ hs) (others ++ cs)
  hosted-on done others hs cs r further lacks before behind =
      let f = digested further in
      ap (λ b. cond b (tables (change_recorded r.repo r.row.path f (done ++ r ∷ hs)) (others ++ cs)) (tables (done ++ r ∷ hs) (change_recorded r.repo r.row.path f (others ++ cs))))
      (lacks-after r done hs before ∙ lacks)
      ∙ ap (λ rows. tables rows (others ++ cs)) (changed-after r f done hs before behind ∙ regroup done (row_with further r) hs)

  cached-fits : (done others hs cs : List RecordedRow) (r : RecordedRow) (further : Further) → lacks_further r.row.blob.print ≡ true → AreComplete done → Apart r hs → Apart r others
      → IsTrue (fits_on (tables (done ++ hs) (others ++ r ∷ cs)) (Digested r.repo r.row.path further))
  cached-fits done others hs cs r further lacks complete apart before = λ i. lacks-none r done hs complete apart i || (lacks-after r others cs before ∙ lacks) i

  cached-on : (done others hs cs : List RecordedRow) (r : RecordedRow) (further : Further) → lacks_further r.row.blob.print ≡ true → AreComplete done → Apart r hs → Apart r others → Apart r cs
      → item_on (tables (done ++ hs) (others ++ r ∷ cs)) (Digested r.repo r.row.path further) ≡ tables (done ++ hs) ((others ++ row_with further r ∷ []) ++ cs)
  cached-on done others hs cs r further lacks complete apart before behind =
      let f = digested further in
      ap (λ b. cond b (tables (change_recorded r.repo r.row.path f (done ++ hs)) (others ++ r ∷ cs)) (tables (done ++ hs) (change_recorded r.repo r.row.path f (others ++ r ∷ cs))))
      (lacks-none r done hs complete apart)
      ∙ ap (λ rows. tables (done ++ hs) rows) (changed-after r f others cs before behind ∙ regroup others (row_with further r) cs)

  no-files : (done others : List RecordedRow) (items front : List Item) → items ≡ [] → AreFirst front items → Outcome done others [] [] items front
  no-files done others items [] empty first =
      record { hosted_then = []; cached_then = []; fit = tt; made = refl; hosted_so = none-digested; cached_so = none-digested; all = λ most. (tt, tt) }
    where
      none-digested : AreDigested shelf [] []
      none-digested = as-they-are shelf []
  no-files done others items (item ∷ front) empty first = absurd (subst (AreFirst (item ∷ front)) empty first)

  pub completing : (done others hs cs : List RecordedRow) (files : List File) (items front : List Item) → Woven hs cs files → AreItemsOf shelf files items → AreFirst front items
      → AreComplete done → Before done hs → Before others cs → Outcome done others hs cs items front
  completing done others hs cs files items front woven.none m f complete before earlier = no-files done others items front m f
  completing done others hs cs files items front (hosted r hs' cs' files' apart w) m f complete before earlier =
      subst (λ them. Outcome done others (r ∷ hs') cs' them front) (sym m.3)
      (by (lacks_further r.row.blob.print) refl front (subst (AreFirst front) m.3 f)
      (λ new them first whole apart'. completing (done ++ new ∷ []) others hs' cs' files' m.1 them w m.4 first whole apart' earlier))
    where
      further : Further
      further = m.0

      Next : Type 0
      Next = (new : RecordedRow) (them : List Item) → AreFirst them m.1 → AreComplete (done ++ new ∷ []) → Before (done ++ new ∷ []) hs' → Outcome (done ++ new ∷ []) others hs' cs' m.1 them

      by : (b : Bool) → lacks_further r.row.blob.print ≡ b → (front : List Item) → AreFirst front (cond b (Digested r.repo r.row.path further ∷ []) [] ++ m.1) → Next
          → Outcome done others (r ∷ hs') cs' (cond b (Digested r.repo r.row.path further ∷ []) [] ++ m.1) front
      by true lacks [] first later = stopped done others (r ∷ hs') cs' (Digested r.repo r.row.path further) m.1
      by true lacks (item ∷ front) first later =
          let new = row_with further r in
          let t = tables (done ++ r ∷ hs') (others ++ cs') in
          let after = tables ((done ++ new ∷ []) ++ hs') (others ++ cs') in
          let one = Digested r.repo r.row.path further in
          let on = hosted-on done others hs' cs' r further lacks before.0 apart in
          let whole = has-further further m.2.4 in
          hosted-next done others hs' cs' r new m.1 front (one ∷ m.1) (item ∷ front) (inr (further, lacks, m.2, refl)) whole (λ most. omega (arith, most))
          (item-fits t after item one front first.0 (hosted-fits done others hs' cs' r further lacks before.0) on) (item-then t after item one front first.0 on)
          (later new front first.1 (complete-more done new complete whole) (before-more done r new hs' (λ s. refl) before.1 apart))
      by false whole front first later =
          let so : tables (done ++ r ∷ hs') (others ++ cs') ≡ tables ((done ++ r ∷ []) ++ hs') (others ++ cs') = ap (λ rows. tables rows (others ++ cs')) (regroup done r hs') in
          hosted-next done others hs' cs' r r m.1 front m.1 front (inl refl) whole (λ most. most)
          (λ all. subst (λ (u : Tables). AllFit u front) (sym so) all) (ap (λ (u : Tables). with_items u front) so)
          (later r front first (complete-more done r complete whole) (before-more done r r hs' (λ s. refl) before.1 apart))
  completing done others hs cs files items front (cached r hs' cs' files' apart behind w) m f complete before earlier =
      subst (λ them. Outcome done others hs' (r ∷ cs') them front) (sym m.3)
      (by (lacks_further r.row.blob.print) refl front (subst (AreFirst front) m.3 f)
      (λ new them first apart'. completing done (others ++ new ∷ []) hs' cs' files' m.1 them w m.4 first complete before apart'))
    where
      further : Further
      further = m.0

      Next : Type 0
      Next = (new : RecordedRow) (them : List Item) → AreFirst them m.1 → Before (others ++ new ∷ []) cs' → Outcome done (others ++ new ∷ []) hs' cs' m.1 them

      by : (b : Bool) → lacks_further r.row.blob.print ≡ b → (front : List Item) → AreFirst front (cond b (Digested r.repo r.row.path further ∷ []) [] ++ m.1) → Next
          → Outcome done others hs' (r ∷ cs') (cond b (Digested r.repo r.row.path further ∷ []) [] ++ m.1) front
      by true lacks [] first later = stopped done others hs' (r ∷ cs') (Digested r.repo r.row.path further) m.1
      by true lacks (item ∷ front) first later =
          let new = row_with further r in
          let t = tables (done ++ hs') (others ++ r ∷ cs') in
          let after = tables (done ++ hs') ((others ++ new ∷ []) ++ cs') in
          let one = Digested r.repo r.row.path further in
          let on = cached-on done others hs' cs' r further lacks complete apart earlier.0 behind in
          let whole = has-further further m.2.4 in
          cached-next done others hs' cs' r new m.1 front (one ∷ m.1) (item ∷ front) (inr (further, lacks, m.2, refl)) whole (λ most. omega (arith, most))
          (item-fits t after item one front first.0 (cached-fits done others hs' cs' r further lacks complete apart earlier.0) on) (item-then t after item one front first.0 on)
          (later new front first.1 (before-more others r new cs' (λ s. refl) earlier.1 behind))
      by false whole front first later =
          let so : tables (done ++ hs') (others ++ r ∷ cs') ≡ tables (done ++ hs') ((others ++ r ∷ []) ++ cs') = ap (λ rows. tables (done ++ hs') rows) (regroup others r cs') in
          cached-next done others hs' cs' r r m.1 front m.1 front (inl refl) whole (λ most. most)
          (λ all. subst (λ (u : Tables). AllFit u front) (sym so) all) (ap (λ (u : Tables). with_items u front) so)
          (later r front first (before-more others r r cs' (λ s. refl) earlier.1 behind))
