-- What changes of repositories and proxies leave on shelves.
use Rattle.std.proofs.Common.{◌≡◌, ℕ, ◌-◌, Bool, true, false, cond, ◌==◌, if◌then◌else◌, List, [], ◌∷◌, take, length, map, Option, Some, None, option_map, find, bytes_eq, Less, Equal, Greater, nat_cmp, is_eq, codes, ◌⊎◌, inl, inr, Ok, refl, sym, ap, ◌∙◌, subst}
use Rattle.std.specs.Cmp.Lexicographic.{slice_cmp}
use Rattle.std.specs.List.{AllByRecursion}
use Rattle.std.specs.Prelude.{IsTrue}
use Rattle.std.specs.Option.{option_map_or}
use Rattle.std.specs.Ordering.{match_ordering}
use native.Mathlib.Omega.{arith}
use Rattle.std.proofs.lemmas.Bool.{eqb-true, false_from_ne_true}
use Rattle.std.proofs.lemmas.Map.Text.{is_eq-slice_cmp}
use Rattle.std.proofs.lemmas.Slice.Eq.{bytes_eq-Decides}
use Rattle.mvn_coords.specs.Kind.{kind}
use Rattle.mvn_coords.specs.Layout.{Directory, text_of_directory, text_of_document}
use Rattle.mvn_coords.specs.Segment.{levels}
use Rattle.mvn_coords.proofs.Levels.{levels_below}
use Rattle.mvn_metadata.specs.Document.{Document}
use Rattle.path_patterns.specs.Pattern.{is_let_through}
use Rattle.fetch_plan.specs.declared.Outcome.TheVariants.{Got, Gone}
use Rattle.fetch_plan.specs.declared.Plan.{Plan}
use Rattle.group_view.specs.declared.shelf.GroupShelf.{GroupShelf}
use Rattle.directory_rows.proofs.DocumentLemmas.{unadded}
use Rattle.hosted_repo.proofs.Expiry.{dropped}
use Rattle.kept_docs.proofs.Beside.{document_after_first, document_elsewhere, document-with_row}
use Rattle.repo_model.specs.Data.{Blob, Hosted, Kept, Proxy, Row, Session}
use Rattle.repo_model.specs.Document.{document}
use Rattle.repo_model.specs.Effect.{caches, clears_negative, fades, keeps_doc, list_again, adds_negative, new_row, proxies_after, proxy_after, with_kept}
use Rattle.repo_model.specs.Fetched.{Landing, got_doc, got_file}
use Rattle.repo_model.specs.Proxies.{kept_at, settled_at}
use Rattle.repo_model.specs.Reply.{Reply, created, ended, is_free, relisted, unlisted}
use Rattle.repo_model.specs.Settings.{GroupRule}
use Rattle.repo_model.specs.State.{change_first, is_kept, is_proxy, is_repository, is_session, row_at}
use Rattle.repo_model.specs.declared.session.SessionResult.{SessionResult}
use Rattle.repo_model.specs.declared.session.SessionResult.TheVariants.{Done}
use Rattle.repo_model.specs.Turn.{Turn, commit_by, commit_of, gives_draft_up, lands_by, lands_file, unlist_of, with_open}
use Rattle.ordered_rows.specs.Rows.{rows_after_all}
use Rattle.ordered_rows.proofs.Rising.{AreRising}
use Rattle.repo_laws.specs.Sound.{AreByPath}
use Rattle.repo_model.specs.Deploy.{Offence, offence, without_pom}
use Rattle.repo_model.specs.Purge.{due_rows, expired_of}
use Rattle.repo_parts.specs.Changes.{gone_by_commit, gone_by_landing, gone_by_put, gone_by_unlist, is_of_document}
use Rattle.repo_parts.specs.Deploys.{commit_in, hosted_after_all}
use Rattle.repo_parts.specs.Hosted.{rows_in, rows_put, with_rows}
use Rattle.repo_parts.specs.Proxies.{proxies_after_all}
use Rattle.repo_parts.specs.Purge.{dropped_by}
use Rattle.repo_parts.specs.Shelves.{AreShelved, HaveForgotten, document_kept, everywhere, is_above, nowhere}
use Rattle.repo_parts.proofs.ShelfLemmas.{right-above, shelves-still, stands-not}

-- ---- other rows in one repository
-- the document of a repository, or what a proxy has
abbrev hosted_or : Directory → List ℕ → List Hosted → Option Document → Option Document
hosted_or d id hosted other = option_map_or (λ (h : Hosted). document d h.rows) (find (is_repository id) hosted) other

other-rows : (d : Directory) (id at : List ℕ) (rows : List Row) (hosted : List Hosted) (other : Option Document) → document d rows ≡ document d (rows_in at hosted)
    → hosted_or d id (with_rows at rows hosted) other ≡ hosted_or d id hosted other
other-rows d id at rows [] other same = refl
other-rows d id at rows (h ∷ hosted) other same =
    elim (is_repository at h)
    as (λ b. document d rows ≡ document d (option_map_or (λ (g : Hosted). g.rows) (cond b (Some h) (find (is_repository at) hosted)) [])
    → hosted_or d id (cond b (record h { rows = rows } ∷ hosted) (h ∷ with_rows at rows hosted)) other ≡ hosted_or d id (h ∷ hosted) other) [
      | true ↦ λ here.
          elim (is_repository id h)
          as (λ b. option_map_or (λ (g : Hosted). document d g.rows) (cond b (Some (record h { rows = rows })) (find (is_repository id) hosted)) other
          ≡ option_map_or (λ (g : Hosted). document d g.rows) (cond b (Some h) (find (is_repository id) hosted)) other) [
            | true ↦ here
            | false ↦ refl
          ]
      | false ↦ λ below.
          elim (is_repository id h)
          as (λ b. option_map_or (λ (g : Hosted). document d g.rows) (cond b (Some h) (find (is_repository id) (with_rows at rows hosted))) other
          ≡ option_map_or (λ (g : Hosted). document d g.rows) (cond b (Some h) (find (is_repository id) hosted)) other) [
            | true ↦ refl
            | false ↦ other-rows d id at rows hosted other below
          ]
    ] same

pub rows-still : (groups : List GroupRule) (hosted : List Hosted) (proxies : List Proxy) (gone : List ℕ → Bool) (at : List ℕ) (rows : List Row) (olds news : List GroupShelf)
    → ((d : Directory) → gone (text_of_directory d) ≡ false → document d rows ≡ document d (rows_in at hosted)) → HaveForgotten gone olds news
    → AreShelved groups hosted proxies olds → AreShelved groups (with_rows at rows hosted) proxies news
rows-still groups hosted proxies gone at rows olds news same forgot right =
    shelves-still hosted (with_rows at rows hosted) proxies proxies gone groups olds news
    (λ d rule not_gone id. other-rows d id at rows hosted (option_map_or (λ (p : Proxy). document_kept p d) (find (is_proxy id) proxies) None) (same d not_gone)) forgot right

-- a file was put
put-same : (d : Directory) (path : List ℕ) (blob : Blob) (moment : ℕ) (reply : Reply) (rows : List Row) → gone_by_put path reply (text_of_directory d) ≡ false
    → document d (rows_put path blob moment reply rows) ≡ document d rows
put-same d path blob moment created rows not_gone =
    document-with_row d (new_row path blob moment) rows ∙ unadded d (document d rows) (new_row path blob moment) (stands-not d path not_gone)
put-same d path blob moment relisted rows not_gone = document_elsewhere d path (list_again moment) rows (λ row. refl) (stands-not d path not_gone)
put-same d path blob moment reply rows not_gone = refl

pub put-still : (groups : List GroupRule) (hosted : List Hosted) (proxies : List Proxy) (id path : List ℕ) (blob : Blob) (moment : ℕ) (reply : Reply) (olds news : List GroupShelf)
    → HaveForgotten (gone_by_put path reply) olds news → AreShelved groups hosted proxies olds
    → AreShelved groups (with_rows id (rows_put path blob moment reply (rows_in id hosted)) hosted) proxies news
put-still groups hosted proxies id path blob moment reply olds news forgot right =
    rows-still groups hosted proxies (gone_by_put path reply) id (rows_put path blob moment reply (rows_in id hosted)) olds news
    (λ d not_gone. put-same d path blob moment reply (rows_in id hosted) not_gone) forgot right

-- ---- fading rows went
-- rows in byte order, each path once, are so to either crate
rising : (rows : List Row) → AreByPath rows → AreRising rows
rising [] order = tt
rising (row ∷ rows) order = (order.0, rising rows order.1)

dropped-same : (d : Directory) (id : List ℕ) (grace now : ℕ) (counts : List ℕ) (hosted : List Hosted) (other : Option Document) → AllByRecursion (λ (h : Hosted). AreByPath h.rows) hosted
    → hosted_or d id (dropped_by grace now counts hosted) other ≡ hosted_or d id hosted other
dropped-same d id grace now [] hosted other order = refl
dropped-same d id grace now (n ∷ counts) [] other order = refl
dropped-same d id grace now (n ∷ counts) (h ∷ hosted) other order =
    elim (is_repository id h)
    as (λ b. option_map_or (λ (g : Hosted). document d g.rows) (cond b (Some (record h { rows = rows_after_all (take n (expired_of grace now h)) h.rows })) (find (is_repository id) (dropped_by grace now counts hosted))) other
    ≡ option_map_or (λ (g : Hosted). document d g.rows) (cond b (Some h) (find (is_repository id) hosted)) other) [
      | true ↦ ap (document d) (dropped n grace now h.rule.id h.rows (rising h.rows order.0)) ∙ document_after_first d n (now - grace) h.rows
      | false ↦ dropped-same d id grace now counts hosted other order.1
    ]

pub dropped-still : (groups : List GroupRule) (hosted : List Hosted) (proxies : List Proxy) (grace now : ℕ) (counts : List ℕ) (shelves : List GroupShelf) → AllByRecursion (λ (h : Hosted). AreByPath h.rows) hosted
    → AreShelved groups hosted proxies shelves → AreShelved groups (dropped_by grace now counts hosted) proxies shelves
dropped-still groups hosted proxies grace now counts shelves order right =
    shelves-still hosted (dropped_by grace now counts hosted) proxies proxies nowhere groups shelves shelves
    (λ d rule not_gone id. dropped-same d id grace now counts hosted (option_map_or (λ (p : Proxy). document_kept p d) (find (is_proxy id) proxies) None) order) (all-kept shelves) right
  where
    all-kept : (ss : List GroupShelf) → HaveForgotten nowhere ss ss
    all-kept [] = tt
    all-kept (s ∷ ss) = (λ text. refl, all-kept ss)

-- ---- nothing changed, or all may have
pub nothing-changed : (groups : List GroupRule) (hosted : List Hosted) (proxies : List Proxy) (gone : List ℕ → Bool) (olds news : List GroupShelf) → HaveForgotten gone olds news
    → AreShelved groups hosted proxies olds → AreShelved groups hosted proxies news
nothing-changed groups hosted proxies gone olds news forgot right = shelves-still hosted hosted proxies proxies gone groups olds news (λ d rule not_gone id. refl) forgot right

all-gone : (groups : List GroupRule) (hosted new_hosted : List Hosted) (proxies : List Proxy) (olds news : List GroupShelf) → HaveForgotten everywhere olds news
    → AreShelved groups hosted proxies olds → AreShelved groups new_hosted proxies news
all-gone groups hosted new_hosted proxies olds news forgot right =
    shelves-still hosted new_hosted proxies proxies everywhere groups olds news (λ d rule not_gone id. absurd (let wrong : true ≡ false = not_gone in cc)) forgot right

-- rows were unlisted; where there was none, nothing was done
none-faded : (now : ℕ) (found : Option Hosted) → unlisted 0 ≡ (unlist_of now found).reply → (unlist_of now found).effects ≡ []
none-faded now None is = refl
none-faded now (Some h) is = by (due_rows h.rule now h.rows) is
  where
    by : (rows : List Row) → unlisted 0 ≡ unlisted (length rows) → map (λ (row : Row). fades h.rule.id row.path now) rows ≡ []
    by [] same = refl
    by (row ∷ rows) same = absurd (let wrong : 0 ≡ length (row ∷ rows) = cc in omega (arith, wrong))

pub unlisted-still : (groups : List GroupRule) (hosted : List Hosted) (proxies : List Proxy) (id : List ℕ) (now n : ℕ) (olds news : List GroupShelf)
    → unlisted n ≡ (unlist_of now (find (is_repository id) hosted)).reply → HaveForgotten (gone_by_unlist (Ok n)) olds news → AreShelved groups hosted proxies olds
    → AreShelved groups (with_rows id (rows_after_all (unlist_of now (find (is_repository id) hosted)).effects (rows_in id hosted)) hosted) proxies news
unlisted-still groups hosted proxies id now n olds news count forgot right =
    let effects = (unlist_of now (find (is_repository id) hosted)).effects in
    let after = with_rows id (rows_after_all effects (rows_in id hosted)) hosted in
    elim (n == 0)
    as (λ b. (n == 0) ≡ b → HaveForgotten (if b then nowhere else everywhere) olds news → AreShelved groups after proxies news) [
      | true ↦ λ is gone.
          let zero_so : n ≡ 0 = eqb-true n 0 is in
          let none : effects ≡ [] = none-faded now (find (is_repository id) hosted) (subst (λ k. unlisted k ≡ (unlist_of now (find (is_repository id) hosted)).reply) zero_so count) in
          rows-still groups hosted proxies nowhere id (rows_after_all effects (rows_in id hosted)) olds news (λ d not_gone. ap (λ es. document d (rows_after_all es (rows_in id hosted))) none) gone right
      | false ↦ λ is gone. all-gone groups hosted after proxies olds news gone right
    ] refl forgot

-- a session was to be committed: its files were delivered, or nothing was done
data IsDone (t : Turn) : Type 0 where
  delivers_all : (count : ℕ) → t.reply ≡ ended (Done count) → IsDone t
  does_nothing : t.effects ≡ [] → IsDone t

committed : (n now : ℕ) (sessions : List Session) (hosted : List Hosted) → IsDone (commit_in n now sessions hosted)
committed n now sessions hosted = by_found (find (is_session n) sessions)
  where
    by_ground : (known : Session) (rows : List Row) (other : Option Offence) (pom : Option (List ℕ)) → IsDone (commit_by known now rows other pom)
    by_ground known rows (Some other) pom = does_nothing refl
    by_ground known rows None (Some directory) = does_nothing refl
    by_ground known rows None None = delivers_all (length known.staged) refl

    by_end : (known : Session) (rows : List Row) (result : Option SessionResult) → IsDone (commit_of known now rows result)
    by_end known rows (Some result) = does_nothing refl
    by_end known rows None = by_ground known rows (offence rows known.staged) (without_pom rows known.staged)

    by_found : (found : Option Session) → IsDone (with_open found (λ (known : Session). commit_of known now (rows_in known.repo hosted) known.ended))
    by_found None = does_nothing refl
    by_found (Some known) = by_end known (rows_in known.repo hosted) known.ended

pub committed-still : (groups : List GroupRule) (hosted : List Hosted) (proxies : List Proxy) (sessions : List Session) (n now : ℕ) (reply : Reply) (olds news : List GroupShelf)
    → (reply ≡ (commit_in n now sessions hosted).reply) ⊎ IsTrue (is_free reply) → HaveForgotten (gone_by_commit reply) olds news → AreShelved groups hosted proxies olds
    → AreShelved groups (if is_free reply then hosted else hosted_after_all (commit_in n now sessions hosted).effects hosted) proxies news
committed-still groups hosted proxies sessions n now reply olds news given forgot right =
    by given (committed n now sessions hosted)
  where
    free : is_free reply ≡ true → AreShelved groups (if is_free reply then hosted else hosted_after_all (commit_in n now sessions hosted).effects hosted) proxies news
    free is = subst (λ b. AreShelved groups (if b then hosted else hosted_after_all (commit_in n now sessions hosted).effects hosted) proxies news) (sym is)
        (nothing-changed groups hosted proxies (gone_by_commit reply) olds news forgot right)

    either : (b : Bool) (new : List Hosted) → new ≡ hosted → (if b then hosted else new) ≡ hosted
    either true new is = refl
    either false new is = is

    by : (reply ≡ (commit_in n now sessions hosted).reply) ⊎ IsTrue (is_free reply) → IsDone (commit_in n now sessions hosted)
        → AreShelved groups (if is_free reply then hosted else hosted_after_all (commit_in n now sessions hosted).effects hosted) proxies news
    by (inr is) done = free is
    by (inl is) (delivers_all count so) =
        all-gone groups hosted (if is_free reply then hosted else hosted_after_all (commit_in n now sessions hosted).effects hosted) proxies olds news
        (subst (λ r. HaveForgotten (gone_by_commit r) olds news) (is ∙ so) forgot) right
    by (inl is) (does_nothing none) =
        subst (λ hs. AreShelved groups hs proxies news)
        (sym (either (is_free reply) (hosted_after_all (commit_in n now sessions hosted).effects hosted) (ap (λ es. hosted_after_all es hosted) none)))
        (nothing-changed groups hosted proxies (gone_by_commit reply) olds news forgot right)

-- ---- a change of one proxy
kept-or : (d : Directory) (id at : List ℕ) (f : Proxy → Proxy) (proxies : List Proxy) → ((p : Proxy) → (f p).rule ≡ p.rule) → ((p : Proxy) → document_kept (f p) d ≡ document_kept p d)
    → option_map_or (λ (p : Proxy). document_kept p d) (find (is_proxy id) (change_first (is_proxy at) f proxies)) None ≡ option_map_or (λ (p : Proxy). document_kept p d) (find (is_proxy id) proxies) None
kept-or d id at f [] rule same = refl
kept-or d id at f (p ∷ proxies) rule same =
    let kept : Option Proxy → Option Document = λ o. option_map_or (λ (q : Proxy). document_kept q d) o None in
    elim (is_proxy at p)
    as (λ b. kept (find (is_proxy id) (cond b (f p ∷ proxies) (p ∷ change_first (is_proxy at) f proxies))) ≡ kept (find (is_proxy id) (p ∷ proxies))) [
      | true ↦
          ap (λ r. kept (cond (bytes_eq r.id id) (Some (f p)) (find (is_proxy id) proxies))) (rule p)
          ∙ elim (is_proxy id p) as (λ b. kept (cond b (Some (f p)) (find (is_proxy id) proxies)) ≡ kept (cond b (Some p) (find (is_proxy id) proxies))) [ true ↦ same p | false ↦ refl ]
      | false ↦
          elim (is_proxy id p) as (λ b. kept (cond b (Some p) (find (is_proxy id) (change_first (is_proxy at) f proxies))) ≡ kept (cond b (Some p) (find (is_proxy id) proxies))) [
            | true ↦ refl
            | false ↦ kept-or d id at f proxies rule same
          ]
    ]

-- what is kept at one path stays where another's is replaced
kept-past : (at : List ℕ) (new : Kept) (kept : List Kept) → bytes_eq new.path at ≡ false → kept_at at (with_kept new kept) ≡ kept_at at kept
kept-past at new [] not_gone = ap (λ b. cond b (Some new) None) not_gone
kept-past at new (k ∷ kept) not_gone =
    let front : (rest : List Kept) → kept_at at (new ∷ rest) ≡ kept_at at rest = λ rest. ap (λ b. cond b (Some new) (kept_at at rest)) not_gone in
    elim (slice_cmp nat_cmp new.path k.path)
    as (λ o. slice_cmp nat_cmp new.path k.path ≡ o → kept_at at (match_ordering o (new ∷ k ∷ kept) (new ∷ kept) (k ∷ with_kept new kept)) ≡ kept_at at (k ∷ kept)) [
      | Less ↦ λ is. front (k ∷ kept)
      | Equal ↦ λ is.
          let same : new.path ≡ k.path = (bytes_eq-Decides new.path k.path).0 (sym (is_eq-slice_cmp new.path k.path) ∙ ap is_eq is) in
          front kept ∙ sym (ap (λ b. cond b (Some k) (kept_at at kept)) (ap (λ p. bytes_eq p at) (sym same) ∙ not_gone))
      | Greater ↦ λ is. ap (λ rest. cond (is_kept at k) (Some k) rest) (kept-past at new kept not_gone)
    ] refl

-- the path of a directory's document is right below it
document-above : (d : Directory) (path : List ℕ) → bytes_eq path (text_of_document d) ≡ true → is_above (levels path) (text_of_directory d) ≡ true
document-above d path here =
    let text = text_of_directory d in
    let split : levels path ≡ codes "maven-metadata.xml" ∷ levels text = ap levels ((bytes_eq-Decides path (text_of_document d)).0 here) ∙ levels_below text (codes "maven-metadata.xml") refl in
    right-above path text (codes "maven-metadata.xml") text split ∙ (bytes_eq-Decides text text).1 refl

module _ (d : Directory) where
  abbrev Same : List Proxy → List Proxy → Type 0
  Same old new = (id : List ℕ) → option_map_or (λ (p : Proxy). document_kept p d) (find (is_proxy id) new) None ≡ option_map_or (λ (p : Proxy). document_kept p d) (find (is_proxy id) old) None

  -- the effects of a landing, but for a document's
  caches-same : (at path : List ℕ) (blob : Blob) (moment : ℕ) (proxies : List Proxy) → Same proxies (proxies_after (caches at path blob moment) proxies)
  caches-same at path blob moment proxies id = kept-or d id at (λ p. proxy_after (caches at path blob moment) p) proxies (λ p. refl) (λ p. refl)

  negatives-same : (at path : List ℕ) (moment : ℕ) (proxies : List Proxy) → Same proxies (proxies_after (adds_negative at path moment) proxies)
  negatives-same at path moment proxies id = kept-or d id at (λ p. proxy_after (adds_negative at path moment) p) proxies (λ p. refl) (λ p. refl)

  clears-same : (at path : List ℕ) (proxies : List Proxy) → Same proxies (proxies_after (clears_negative at path) proxies)
  clears-same at path proxies id = kept-or d id at (λ p. proxy_after (clears_negative at path) p) proxies (λ p. refl) (λ p. refl)

  -- a document at another path
  keeps-same : (at path : List ℕ) (document : Document) (moment : ℕ) (proxies : List Proxy) → bytes_eq path (text_of_document d) ≡ false → Same proxies (proxies_after (keeps_doc at path document moment) proxies)
  keeps-same at path document moment proxies not_gone id =
      let text = text_of_document d in
      kept-or d id at (λ p. proxy_after (keeps_doc at path document moment) p) proxies (λ p. refl)
      (λ p.
      ap (λ o. cond (is_let_through p.rule.allow p.rule.block text) (option_map (λ (k : Kept). k.document) o) None) (kept-past text (record { path = path; checked = moment; document = document }) p.documents not_gone))

  up-same : (draft : Option ℕ) (proxies : List Proxy) → Same proxies (proxies_after_all (gives_draft_up draft) proxies)
  up-same None proxies id = refl
  up-same (Some n) proxies id = refl

  file-same : (plan : Plan) (blob : Blob) (now : ℕ) (found : Option Row) (proxies : List Proxy) → Same proxies (proxies_after_all (lands_file plan blob now found) proxies)
  file-same plan blob now None proxies id =
      clears-same plan.proxy plan.path (proxies_after (caches plan.proxy plan.path blob now) proxies) id ∙ caches-same plan.proxy plan.path blob now proxies id
  file-same plan blob now (Some row) proxies id =
      up-same plan.draft (proxies_after (clears_negative plan.proxy plan.path) proxies) id ∙ clears-same plan.proxy plan.path proxies id

  landing-same : (files : List Row) (now : ℕ) (plan : Plan) (landing : Landing) (proxies : List Proxy) → gone_by_landing plan.path (is_of_document landing) false (text_of_directory d) ≡ false
      → Same proxies (proxies_after_all (lands_by files now plan landing) proxies)
  landing-same files now plan (Got (got_file blob)) proxies not_gone id = file-same plan blob now (row_at plan.path files) proxies id
  landing-same files now plan (Got (got_doc document)) proxies not_gone id =
      let kept = settled_at document (kind plan.path) in
      let past : bytes_eq plan.path (text_of_document d) ≡ false =
      false_from_ne_true (bytes_eq plan.path (text_of_document d)) (λ here. let wrong : true ≡ false = sym (document-above d plan.path here) ∙ not_gone in cc) in
      clears-same plan.proxy plan.path (proxies_after (keeps_doc plan.proxy plan.path kept now) proxies) id ∙ keeps-same plan.proxy plan.path kept now proxies past id
  landing-same files now plan Gone proxies not_gone id =
      up-same plan.draft (proxies_after (adds_negative plan.proxy plan.path now) proxies) id ∙ negatives-same plan.proxy plan.path now proxies id
  landing-same files now plan landing proxies not_gone id = up-same plan.draft proxies id

-- what came of a fetch landed at a proxy, or nothing did
pub landed-still : (groups : List GroupRule) (hosted : List Hosted) (proxies : List Proxy) (files : List Row) (now : ℕ) (plan : Plan) (landing : Landing) (failed : Bool) (olds news : List GroupShelf)
    → HaveForgotten (gone_by_landing plan.path (is_of_document landing) failed) olds news → AreShelved groups hosted proxies olds
    → AreShelved groups hosted (if failed then proxies else proxies_after_all (lands_by files now plan landing) proxies) news
landed-still groups hosted proxies files now plan landing true olds news forgot right =
    shelves-still hosted hosted proxies proxies (gone_by_landing plan.path (is_of_document landing) true) groups olds news (λ d rule not_gone id. refl) forgot right
landed-still groups hosted proxies files now plan landing false olds news forgot right =
    shelves-still hosted hosted proxies (proxies_after_all (lands_by files now plan landing) proxies) (gone_by_landing plan.path (is_of_document landing) false) groups olds news
    (λ d rule not_gone id. ap (λ o. option_map_or (λ (h : Hosted). document d h.rows) (find (is_repository id) hosted) o) (landing-same d files now plan landing proxies not_gone id)) forgot right
