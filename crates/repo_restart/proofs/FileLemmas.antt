-- Recorded files one after another: those so far, the next one, and the rest.
use Rattle.std.proofs.Common.{◌≡◌, ℕ, ◌+◌, ◌<◌, Bool, true, false, cond, not, List, [], ◌∷◌, ◌++◌, length, map, filter, take, drop, get_or, None, Result, Ok, Err, Less, refl, sym, ap, ◌∙◌, subst, append-nil, IsTrue}
use Rattle.std.specs.Prelude.{◌≤◌, IfSome, IsErrAnd, Option}
use Rattle.std.specs.List.{AllByRecursion}
use Rattle.std.proofs.lemmas.Bool.{eq-eqb}
use Rattle.std.proofs.lemmas.List.{map-append, take_more, drop_more, take-append-drop}
use Rattle.std.proofs.lemmas.List.Elements.{filter-append}
use Rattle.outside.specs.Blobs.{Shelf, bytes_at}
use Rattle.repo_model.specs.Data.{Hosted, Proxy, listed}
use Rattle.repo_model.specs.History.{latest_moment}
use Rattle.repo_model.specs.Prints.{lacks_further}
use Rattle.repo_model.specs.Settings.{ProxyRule, Rule}
use Rattle.repo_model.specs.State.{row_at}
use Rattle.repo_model.specs.Tables.{RecordedRow}
use Rattle.row_tables.specs.Items.{is_file_path}
use Rattle.blob_audit.specs.Files.{shown_file}
use Rattle.blob_audit.specs.Order.{File}
use Rattle.blob_audit.specs.declared.damages.Damaged.{Damaged}
use Rattle.blob_audit.specs.declared.order.RecordedFile.{RecordedFile}
use Rattle.repo_laws.specs.Holds.{row_cmp}
use Rattle.repo_model.specs.Paths.{FadesRightly}
use Rattle.repo_laws.specs.Sound.{AreNamedApart, AreProxiesApart}
use Rattle.repo_restart.specs.declared.faults.RestoreFault.{RestoreFault}
use Rattle.repo_restart.specs.declared.faults.RestoreFault.TheVariants as fault
use Rattle.repo_restart.specs.Faults.{OnDamage}
use Rattle.repo_restart.specs.Rows.{AreCachedRestorable, AreRestorable, AreRowsRestored, cached_rows, hosted_rows}
use Rattle.repo_restart.specs.Taking.{CanTakeCached, CanTakeHosted, TakesFile, rows_in, with_cached, with_taken}
use Rattle.repo_restart.proofs.FrontLemmas.{among, in_front, names, none-yet, unnamed}
use Rattle.repo_restart.proofs.ProxyLemmas.{CachedSoFar, apart-so, as_hosted, as_rule, bare, rows-are-files, taken-bare, taken-rows}
use Rattle.repo_restart.proofs.RestoreLemmas.{restored-more}

-- the rows of the files that pass a test
module _ (p : File → Bool) where
  abbrev rows_by : List File → List RecordedRow
  rows_by files = map (λ (f : File). f.row) (filter p files)

  rows-append : (a b : List File) → rows_by (a ++ b) ≡ rows_by a ++ rows_by b
  rows-append a b = ap (map (λ (f : File). f.row)) (filter-append p a b) ∙ map-append (λ (f : File). f.row) (filter p a) (filter p b)

  one-file : (f : File) (b : Bool) → p f ≡ b → rows_by (f ∷ []) ≡ cond b (f.row ∷ []) []
  one-file f b is = ap (λ c. map (λ (g : File). g.row) (cond c (f ∷ []) [])) is ∙ by b
    where
      by : (c : Bool) → map (λ (g : File). g.row) (cond c (f ∷ []) []) ≡ cond c (f.row ∷ []) []
      by true = refl
      by false = refl

  abbrev rows_among : List RecordedFile → List RecordedRow
  rows_among files = rows_by (map shown_file files)

  module _ (files : List RecordedFile) (i : ℕ) (file : RecordedFile) (within : i < length files) (is : file ≡ get_or files i file) where
    split : files ≡ take i files ++ file ∷ drop (i + 1) files
    split =
        sym (take-append-drop i files)
        ∙ ap (λ rest. take i files ++ rest) (drop_more files i file within ∙ ap (λ (f : RecordedFile). f ∷ drop (i + 1) files) (sym is))

    -- the rows so far, that of the file where it passes, and the rest
    rows-split : (b : Bool) → p (shown_file file) ≡ b → rows_among files ≡ rows_among (take i files) ++ (cond b ((shown_file file).row ∷ []) [] ++ rows_among (drop (i + 1) files))
    rows-split b passes =
        let front = map shown_file (take i files) in
        let rest = map shown_file (drop (i + 1) files) in
        ap rows_among split ∙ ap rows_by (map-append shown_file (take i files) (file ∷ drop (i + 1) files))
        ∙ rows-append front (shown_file file ∷ rest)
        ∙ ap (λ rows. rows_by front ++ rows) (rows-append (shown_file file ∷ []) rest ∙ ap (λ rows. rows ++ rows_by rest) (one-file (shown_file file) b passes))

    rows-more : (b : Bool) → p (shown_file file) ≡ b → rows_among (take (i + 1) files) ≡ rows_among (take i files) ++ cond b ((shown_file file).row ∷ []) []
    rows-more b passes =
        ap rows_among (take_more files i file within ∙ ap (λ (f : RecordedFile). take i files ++ f ∷ []) (sym is))
        ∙ ap rows_by (map-append shown_file (take i files) (file ∷ []))
        ∙ rows-append (map shown_file (take i files)) (shown_file file ∷ [])
        ∙ ap (λ rows. rows_among (take i files) ++ rows) (one-file (shown_file file) b passes)

    rows-same : p (shown_file file) ≡ false → rows_among (take (i + 1) files) ≡ rows_among (take i files)
    rows-same fails = rows-more false fails ∙ append-nil (rows_among (take i files))

    module _ (passes : p (shown_file file) ≡ true) where
      whole : rows_among files ≡ rows_among (take i files) ++ (shown_file file).row ∷ rows_among (drop (i + 1) files)
      whole = rows-split true passes

      module _ (all : AreRestorable (rows_among files)) where
        behind : AreRestorable (rows_among (take i files) ++ (shown_file file).row ∷ rows_among (drop (i + 1) files))
        behind = subst AreRestorable whole all

        earlier : AllByRecursion (λ (r : RecordedRow). row_cmp r (shown_file file).row ≡ Less) (rows_among (take i files))
        earlier = in_front row_cmp (rows_among (take i files)) (shown_file file).row (rows_among (drop (i + 1) files)) behind.rising

        others : AllByRecursion (λ (r : RecordedRow). names file.row.now.blob r ≡ false) (rows_among (take i files))
        others =
            unnamed file.row.now.blob (rows_among (take i files)) (shown_file file).row (rows_among (drop (i + 1) files)) (eq-eqb file.row.now.blob file.row.now.blob refl)
            (behind.apart file.row.now.blob)

        abbrev x : RecordedRow
        x = (shown_file file).row

        its-path : IsTrue (is_file_path x.row.path)
        its-path = among (λ (r : RecordedRow). IsTrue (is_file_path r.row.path)) (rows_among (take i files)) x (rows_among (drop (i + 1) files)) behind.files

        its-moment : x.row.accepted ≤ latest_moment
        its-moment = among (λ (r : RecordedRow). r.row.accepted ≤ latest_moment) (rows_among (take i files)) x (rows_among (drop (i + 1) files)) behind.in_time

        its-fading : FadesRightly x.row
        its-fading = among (λ (r : RecordedRow). FadesRightly r.row) (rows_among (take i files)) x (rows_among (drop (i + 1) files)) behind.fading

        its-digests : lacks_further x.row.blob.print ≡ false
        its-digests = among (λ (r : RecordedRow). lacks_further r.row.blob.print ≡ false) (rows_among (take i files)) x (rows_among (drop (i + 1) files)) behind.complete

        its-place : (shelf : Shelf) (rules : List Rule) (repos : List Hosted) → AreRowsRestored shelf (rows_among (take i files)) rules repos → row_at x.row.path (rows_in x.repo repos) ≡ None
        its-place shelf rules repos old =
            subst (λ them. row_at x.row.path (rows_in x.repo them) ≡ None) (sym old.made) (none-yet old.tells x (rows_among (take i files)) earlier rules)

        one-more : (shelf : Shelf) (rules : List Rule) (repos repos' : List Hosted) → AreRowsRestored shelf (rows_among (take i files)) rules repos → AreNamedApart rules → (bytes : Option (List ℕ))
            → IfSome shelf.blobs (λ them. bytes ≡ bytes_at x.row.blob.number them) → repos' ≡ with_taken x bytes repos → AreRowsRestored shelf (rows_among (take (i + 1) files)) rules repos'
        one-more shelf rules repos repos' old apart bytes standing taken =
            subst (λ rows. AreRowsRestored shelf rows rules repos') (sym (rows-more true passes))
            (restored-more shelf (rows_among (take i files)) x rules repos repos' earlier others apart old bytes standing taken)

abbrev is_hosted : File → Bool
is_hosted f = f.is_hosted

abbrev is_cached : File → Bool
is_cached f = not f.is_hosted

-- the rows of hosted repositories among these files, and those of proxies
abbrev pub rows_of : List RecordedFile → List RecordedRow
rows_of files = hosted_rows (map shown_file files)

abbrev pub cached_of : List RecordedFile → List RecordedRow
cached_of files = cached_rows (map shown_file files)

not-so : (b c : Bool) → b ≡ c → not b ≡ not c
not-so b c same = ap not same

module _ (files : List RecordedFile) (i : ℕ) (file : RecordedFile) (within : i < length files) (is : file ≡ get_or files i file) (shelf : Shelf) where
  module _ (all : AreRestorable (rows_of files)) (rules : List Rule) (repos : List Hosted) (old : AreRowsRestored shelf (rows_of (take i files)) rules repos) where
    pub can-take : CanTakeHosted (shown_file file) repos
    can-take hosted = (
      its-path is_hosted files i file within is hosted all,
      its-moment is_hosted files i file within is hosted all,
      its-fading is_hosted files i file within is hosted all,
      its-digests is_hosted files i file within is hosted all,
      its-place is_hosted files i file within is hosted all shelf rules repos old,
    )

    pub takes-more : AreNamedApart rules → (repos' : List Hosted) (proxies proxies' : List Proxy) → TakesFile shelf (shown_file file) repos repos' proxies proxies'
        → AreRowsRestored shelf (rows_of (take (i + 1) files)) rules repos'
    takes-more apart repos' proxies proxies' new = by file.is_hosted refl
      where
        by : (b : Bool) → file.is_hosted ≡ b → AreRowsRestored shelf (rows_of (take (i + 1) files)) rules repos'
        by true hosted =
            one-more is_hosted files i file within is hosted all shelf rules repos repos' old apart new.bytes new.standing
            (new.taken ∙ ap (λ b. cond b (with_taken (shown_file file).row new.bytes repos) repos) hosted)
        by false foreign =
            let same : repos' ≡ repos = new.taken ∙ ap (λ b. cond b (with_taken (shown_file file).row new.bytes repos) repos) foreign in
            subst (λ them. AreRowsRestored shelf (rows_of (take (i + 1) files)) rules them) (sym same)
            (subst (λ them. AreRowsRestored shelf them rules repos) (sym (rows-same is_hosted files i file within is foreign)) old)

  module _ (all : AreCachedRestorable (cached_of files)) (rules : List ProxyRule) (proxies : List Proxy) (old : CachedSoFar shelf (cached_of (take i files)) rules proxies) where
    abbrev r : RecordedRow
    r = (shown_file file).row

    pub can-cache : CanTakeCached (shown_file file) proxies
    can-cache foreign =
        let passes = not-so file.is_hosted false foreign in
        let visible : r.row.phase ≡ listed =
        among (λ (x : RecordedRow). x.row.phase ≡ listed) (cached_of (take i files)) r (cached_of (drop (i + 1) files)) (subst (AllByRecursion (λ (x : RecordedRow). x.row.phase ≡ listed)) (whole is_cached files i file within is passes) all.visible) in (
          its-path is_cached files i file within is passes all.rows_so,
          its-moment is_cached files i file within is passes all.rows_so,
          visible,
          its-digests is_cached files i file within is passes all.rows_so,
          ap (row_at r.row.path) (sym (rows-are-files r.repo proxies))
              ∙ its-place is_cached files i file within is passes all.rows_so shelf (map as_rule rules) (map as_hosted proxies) old.restored,
        )

    pub caches-more : AreProxiesApart rules → (repos repos' : List Hosted) (proxies' : List Proxy) → TakesFile shelf (shown_file file) repos repos' proxies proxies'
        → CachedSoFar shelf (cached_of (take (i + 1) files)) rules proxies'
    caches-more apart repos repos' proxies' new = by file.is_hosted refl
      where
        by : (b : Bool) → file.is_hosted ≡ b → CachedSoFar shelf (cached_of (take (i + 1) files)) rules proxies'
        by false foreign =
            let passes = not-so file.is_hosted false foreign in
            let made : proxies' ≡ with_cached r new.bytes proxies = new.cached ∙ ap (λ b. cond b proxies (with_cached r new.bytes proxies)) foreign in
            record {
              restored =
                  one-more is_cached files i file within is passes all.rows_so shelf (map as_rule rules) (map as_hosted proxies) (map as_hosted proxies') old.restored (apart-so rules apart) new.bytes
                  new.standing (ap (map as_hosted) made ∙ taken-rows r new.bytes proxies);
              others = ap (map bare) made ∙ taken-bare r new.bytes proxies ∙ old.others;
            }
        by true hosted =
            let fails = not-so file.is_hosted true hosted in
            let same : proxies' ≡ proxies = new.cached ∙ ap (λ b. cond b proxies (with_cached r new.bytes proxies)) hosted in
            subst (λ them. CachedSoFar shelf (cached_of (take (i + 1) files)) rules them) (sym same)
            (subst (λ them. CachedSoFar shelf them rules proxies) (sym (rows-same is_cached files i file within is fails)) old)

-- what follows of each damage follows where one is told
pub damage-then : {T : Type 0} (result : Result T RestoreFault) {P Q : Damaged → Type 0} → ((d : Damaged) → P d → Q d) → OnDamage result P → OnDamage result Q
damage-then (Ok value) so told = tt
damage-then (Err fault.NoMemory) so told = tt
damage-then (Err fault.Store) so told = tt
damage-then (Err (fault.Damaged d)) so told = so d told

-- a fault that is handed on tells the same damage
pub damage-on : {T : Type 0} (U : Type 0) (result : Result T RestoreFault) (e : RestoreFault) (P : Damaged → Type 0) → IsErrAnd result (λ x. x ≡ e) → OnDamage {T = U} (Err e) P → OnDamage result P
damage-on U (Ok value) e P same told = tt
damage-on {T} U (Err x) e P same told = by x (subst (λ y. OnDamage {T = U} (Err y) P) (sym same) told)
  where
    by : (y : RestoreFault) → OnDamage {T = U} (Err y) P → OnDamage {T = T} (Err y) P
    by fault.NoMemory here = tt
    by fault.Store here = tt
    by (fault.Damaged d) here = here
