-- What a look says to fetch is what a proxy decides to fetch.
use Rattle.std.proofs.Common.{◌≡◌, ◌≢◌, ◌+◌, ℕ, Bool, true, false, cond, List, [], ◌∷◌, Option, Some, None, Result, Ok, Err, refl, sym, ◌∙◌, ap, subst}
use Rattle.std.specs.Prelude.{find, if◌then◌else◌}
use Rattle.std.specs.Option.{option_map_or}
use Rattle.std.proofs.lemmas.Option.{none-some}
use Rattle.std.proofs.lemmas.Slice.Eq.{bytes_eq-Decides}
use Rattle.mvn_coords.specs.Kind.{kind}
use Rattle.mvn_coords.specs.declared.kind.Kind.{Kind}
use Rattle.mvn_coords.specs.declared.kind.Kind.TheVariants.{File, FileSide, Doc, DocSide}
use Rattle.mvn_coords.specs.declared.fault.PathFault.{PathFault}
use Rattle.mvn_coords.specs.Layout.{Directory, text_of}
use Rattle.mvn_coords.proofs.ExactPaths.{exact}
use Rattle.mvn_metadata.specs.Document.{Document}
use Rattle.fetch_plan.specs.declared.Plan.{Plan}
use Rattle.path_patterns.specs.Pattern.{is_let_through}
use Rattle.repo_model.specs.declared.step.Step.{Step}
use Rattle.repo_model.specs.declared.step.Step.TheVariants.{Serve, Blocked, Fetch}
use Rattle.repo_model.specs.Data.{Row, Kept, Hosted, Proxy}
use Rattle.repo_model.specs.Settings.{GroupRule, ProxyRule, Settings}
use Rattle.repo_model.specs.State.{State, is_proxy, row_at, hosted_of, proxy_of, is_among}
use Rattle.repo_model.specs.Command.{Command, look, group_rule_of, names_something}
use Rattle.repo_model.specs.Reply.{fetches}
use Rattle.repo_model.specs.Proxies.{kept_at, subject_of, decided, step_for}
use Rattle.repo_model.specs.Turn.{Turn, turn, Seen, is_nothing, is_to_fetch, or_nothing, seen_at, document_text, document_shown, file_shown, is_of_file, served_by, stepped, proxy_seen, member_seen, fetches_one, serves_or_fetches, each_seen, directory_of, merged_of, first_or, group_seen, look_at, plan_of, file_limit, longest_document}
use Rattle.repo_laws.proofs.Cases.{Case, plans_file, plans_document, turn-case}
use Rattle.repo_laws.proofs.Lists.{found-passes}
use Rattle.proxy_laws.specs.Decisions.{IsSubject, DecidedBy}
use Rattle.proxy_laws.proofs.Deciding.{each-decision}

-- ---- what is seen where nothing is fetched
no-fetch : {A : Type 0} (f : A → Seen) (found : Option A) → ((x : A) → fetches_one (f x) ≡ false) → fetches_one (or_nothing f found) ≡ false
no-fetch f None other = refl
no-fetch f (Some x) other = other x

document-quiet : (k : Result Kind PathFault) (document : Document) → fetches_one (document_shown k document) ≡ false
document-quiet (Ok (DocSide d side)) document = refl
document-quiet _ document = refl

file-quiet : (k : Result Kind PathFault) (row : Row) → fetches_one (file_shown k row) ≡ false
file-quiet (Ok (FileSide c side)) row = refl
file-quiet _ row = refl

pub served-quiet : (p : Proxy) (at : List ℕ) (k : Result Kind PathFault) → fetches_one (served_by p at k) ≡ false
served-quiet p at k =
    elim (is_of_file k)
    as (λ b. fetches_one (if b then or_nothing (file_shown k) (row_at at p.files) else or_nothing (λ (kept : Kept). document_shown k kept.document) (kept_at at p.documents)) ≡ false) [
      | true ↦ no-fetch (file_shown k) (row_at at p.files) (file-quiet k)
      | false ↦ no-fetch (λ (kept : Kept). document_shown k kept.document) (kept_at at p.documents) (λ kept. document-quiet k kept.document)
    ]

pub rows-quiet : (rows : List Row) (path : List ℕ) (k : Result Kind PathFault) → fetches_one (seen_at rows path k) ≡ false
rows-quiet rows path (Ok (File c)) = no-fetch _ (row_at path rows) (λ row. refl)
rows-quiet rows path (Ok (FileSide c side)) = no-fetch _ (row_at (text_of c) rows) (λ row. refl)
rows-quiet rows path (Ok (Doc d)) = no-fetch _ (document_text d rows) (λ bytes. refl)
rows-quiet rows path (Ok (DocSide d side)) = no-fetch _ (document_text d rows) (λ bytes. refl)
rows-quiet rows path (Err fault) = refl

-- ---- the path of a file or document
subject-kind : (path : List ℕ) (k : Result Kind PathFault) → kind path ≡ k → names_something k ≡ true → IsSubject (kind (subject_of path k))
subject-kind path (Ok (File c)) is named = subst IsSubject (sym is) tt
subject-kind path (Ok (Doc d)) is named = subst IsSubject (sym is) tt
subject-kind path (Ok (FileSide c side)) is named = subst IsSubject (sym (exact.file path c side is)) tt
subject-kind path (Ok (DocSide d side)) is named = subst IsSubject (sym (exact.document path d side is)) tt
subject-kind path (Err fault) is named = absurd (cc)

pub subject-so : (path : List ℕ) → names_something (kind path) ≡ true → IsSubject (kind (subject_of path (kind path)))
subject-so path named = subject-kind path (kind path) refl named

-- a step that fetches is at the path of a file or document
fetch-subject : (p : Proxy) (now : ℕ) (tried : Bool) (at : List ℕ) (k : Result Kind PathFault) → step_for p now tried at k ≡ Fetch → IsSubject k
fetch-subject p now tried at (Ok (File c)) is = tt
fetch-subject p now tried at (Ok (Doc d)) is = tt
fetch-subject p now tried at _ is = absurd (cc)

decided-subject : (p : Proxy) (now : ℕ) (tried : Bool) (at : List ℕ) → decided p now tried at ≡ Fetch → IsSubject (kind at)
decided-subject p now tried at is =
    elim (is_let_through p.rule.allow p.rule.block at) as (λ b. (if b then step_for p now tried at (kind at) else Blocked) ≡ Fetch → IsSubject (kind at)) [
      | true ↦ λ so. fetch-subject p now tried at (kind at) so
      | false ↦ λ other. absurd (cc)
    ] is

module _ (s : State) (now : ℕ) (tried path : List ℕ) (m : ℕ) (r : ProxyRule) (at : List ℕ) (o : Bool) where
  abbrev wanted : Seen
  wanted = is_to_fetch m r at o

  -- the proxy of the rule decides so
  abbrev IsDecided : Type 0
  IsDecided = (p : Proxy) × (proxy_of r.id s ≡ Some p) × (decided p now (is_among m tried) at ≡ Fetch)

  quiet-not : (seen : Seen) → fetches_one seen ≡ false → seen ≢ wanted
  quiet-not seen quiet is = absurd (let e : false ≡ true = sym quiet ∙ ap fetches_one is in cc)

  proxy-decides : (id : List ℕ) (p : Proxy) (member : ℕ) (step : Step) → proxy_of id s ≡ Some p → decided p now (is_among member tried) (subject_of path (kind path)) ≡ step
      → stepped member p (subject_of path (kind path)) (kind path) step ≡ wanted → IsDecided
  proxy-decides id p member Fetch there decides is =
      let sees : is_to_fetch member p.rule (subject_of path (kind path)) (is_of_file (kind path)) ≡ is_to_fetch m r at o = is in
      let member_is : member ≡ m = cc in
      let rule_is : p.rule ≡ r = cc in
      let at_is : subject_of path (kind path) ≡ at = cc in
      let id_is : p.rule.id ≡ id = (bytes_eq-Decides p.rule.id id).0 (found-passes (is_proxy id) s.proxies p there) in
      let found : proxy_of r.id s ≡ Some p = subst (λ (x : ProxyRule). proxy_of x.id s ≡ Some p) rule_is (subst (λ (x : List ℕ). proxy_of x s ≡ Some p) (sym id_is) there) in
      (p, found, subst (λ (x : List ℕ). decided p now (is_among m tried) x ≡ Fetch) at_is (subst (λ (n : ℕ). decided p now (is_among n tried) (subject_of path (kind path)) ≡ Fetch) member_is decides))
  proxy-decides id p member Serve there decides is = absurd (quiet-not (served_by p (subject_of path (kind path)) (kind path)) (served-quiet p (subject_of path (kind path)) (kind path)) is)
  proxy-decides id p member _ there decides is = absurd (cc)

  member-decides : (member : ℕ) (id : List ℕ) → member_seen s now tried path (kind path) member id ≡ wanted → IsDecided
  member-decides member id is =
      elim (hosted_of id s)
      as (λ here. option_map_or (λ (h : Hosted). seen_at h.rows path (kind path)) here (option_map_or (λ (p : Proxy). proxy_seen member p now tried path (kind path)) (proxy_of id s) is_nothing) ≡ wanted → IsDecided) [
        | (Some h) ↦ λ seen. absurd (quiet-not (seen_at h.rows path (kind path)) (rows-quiet h.rows path (kind path)) seen)
        | None ↦ λ others.
            elim (proxy_of id s)
            as (λ found. proxy_of id s ≡ found → option_map_or (λ (p : Proxy). proxy_seen member p now tried path (kind path)) found is_nothing ≡ wanted → IsDecided) [
              | None ↦ λ _ seen. absurd (cc)
              | (Some p) ↦ λ found seen. proxy-decides id p member (decided p now (is_among member tried) (subject_of path (kind path))) found refl seen
            ] refl others
      ] is

  -- the first of the members that passes a test
  each-decides : (q : Seen → Bool) (member : ℕ) (ids : List (List ℕ)) → find q (each_seen s now tried path (kind path) member ids) ≡ Some wanted → IsDecided
  each-decides q member [] is = absurd (none-some wanted is)
  each-decides q member (id ∷ ids) is =
      let seen = member_seen s now tried path (kind path) member id in
      elim (q seen) as (λ b. cond b (Some seen) (find q (each_seen s now tried path (kind path) (member + 1) ids)) ≡ Some wanted → IsDecided) [
        | true ↦ λ found. let same : seen ≡ is_to_fetch m r at o = cc in member-decides member id same
        | false ↦ λ later. each-decides q (member + 1) ids later
      ] is

  group-decides : (ids : List (List ℕ)) (directory : Option Directory) → group_seen s now tried path (kind path) ids directory ≡ wanted → IsDecided
  group-decides ids None is = by (find serves_or_fetches (each_seen s now tried path (kind path) 0 ids)) refl is where
    by : (found : Option Seen) → find serves_or_fetches (each_seen s now tried path (kind path) 0 ids) ≡ found → first_or found is_nothing ≡ wanted → IsDecided
    by None _ seen = absurd (cc)
    by (Some seen) found same = each-decides serves_or_fetches 0 ids (found ∙ ap (λ (x : Seen). Some x) same)
  group-decides ids (Some d) is = by (find fetches_one (each_seen s now tried path (kind path) 0 ids)) refl is where
    by : (found : Option Seen) → find fetches_one (each_seen s now tried path (kind path) 0 ids) ≡ found
        → first_or found (or_nothing (document_shown (kind path)) (merged_of s now tried (subject_of path (kind path)) d ids)) ≡ wanted → IsDecided
    by None _ seen =
        absurd (quiet-not (or_nothing (document_shown (kind path)) (merged_of s now tried (subject_of path (kind path)) d ids))
        (no-fetch (document_shown (kind path)) (merged_of s now tried (subject_of path (kind path)) d ids) (document-quiet (kind path))) seen)
    by (Some seen) found same = each-decides fetches_one 0 ids (found ∙ ap (λ (x : Seen). Some x) same)

  look-decides : (settings : Settings) (id : List ℕ) → look_at settings s now id tried path ≡ wanted → IsDecided
  look-decides settings id is =
      elim (hosted_of id s)
      as (λ here. option_map_or (λ (h : Hosted). seen_at h.rows path (kind path)) here
      (option_map_or (λ (g : GroupRule). group_seen s now tried path (kind path) g.members (directory_of (kind path))) (group_rule_of id settings) (member_seen s now tried path (kind path) 0 id)) ≡ wanted
      → IsDecided) [
        | (Some h) ↦ λ seen. absurd (quiet-not (seen_at h.rows path (kind path)) (rows-quiet h.rows path (kind path)) seen)
        | None ↦ λ others.
            elim (group_rule_of id settings)
            as (λ found. option_map_or (λ (g : GroupRule). group_seen s now tried path (kind path) g.members (directory_of (kind path))) found (member_seen s now tried path (kind path) 0 id) ≡ wanted → IsDecided) [
              | None ↦ λ seen. member-decides 0 id seen
              | (Some g) ↦ λ seen. group-decides g.members (directory_of (kind path)) seen
            ] others
      ] is

  decided-needed : IsDecided → (p : Proxy) × (proxy_of r.id s ≡ Some p) × DecidedBy p now (is_among m tried) at Fetch
  decided-needed (p, there, decides) = (p, there, (each-decision p now (is_among m tried) at Fetch (decided-subject p now (is_among m tried) at decides)).0 decides)

module _ (settings : Settings) (s : State) (now : ℕ) (id path tried : List ℕ) (plan : Plan) where
  abbrev IsNeeded : List ℕ → Plan → Type 0
  IsNeeded known_missing plan = (p : Proxy) × (proxy_of plan.proxy s ≡ Some p) × DecidedBy p now (is_among plan.member known_missing) plan.path Fetch

  case-needed : (c : Command) (t : Turn) → Case settings s now c t → c ≡ look id path tried → t.reply ≡ fetches plan → IsNeeded tried plan
  case-needed c t (plans_file repo on known_missing member rule at more seen) c_is says_so =
      let looks : look repo on known_missing ≡ look id path tried = c_is in
      let known_missing_is : known_missing ≡ tried = cc in
      let said : fetches (plan_of member rule at (Some s.yard.next_draft) (file_limit settings)) ≡ fetches plan = says_so in
      let plan_so : plan_of member rule at (Some s.yard.next_draft) (file_limit settings) ≡ plan = cc in
      subst (λ (x : List ℕ). IsNeeded x plan) known_missing_is (subst (λ (x : Plan). IsNeeded known_missing x) plan_so
      (decided-needed s now known_missing on member rule at true (look-decides s now known_missing on member rule at true settings repo seen)))
  case-needed c t (plans_document repo on known_missing member rule at seen) c_is says_so =
      let looks : look repo on known_missing ≡ look id path tried = c_is in
      let known_missing_is : known_missing ≡ tried = cc in
      let said : fetches (plan_of member rule at None longest_document) ≡ fetches plan = says_so in
      let plan_so : plan_of member rule at None longest_document ≡ plan = cc in
      subst (λ (x : List ℕ). IsNeeded x plan) known_missing_is (subst (λ (x : Plan). IsNeeded known_missing x) plan_so
      (decided-needed s now known_missing on member rule at false (look-decides s now known_missing on member rule at false settings repo seen)))
  case-needed c t case c_is says_so = absurd (cc)

pub needed : (settings : Settings) (s : State) (now : ℕ) (id path tried : List ℕ) (plan : Plan) → (turn settings s now (look id path tried)).reply ≡ fetches plan
    → (p : Proxy) × (proxy_of plan.proxy s ≡ Some p) × DecidedBy p now (is_among plan.member tried) plan.path Fetch
needed settings s now id path tried plan is =
    case-needed settings s now id path tried plan (look id path tried) (turn settings s now (look id path tried)) (turn-case settings s now (look id path tried)) refl is
