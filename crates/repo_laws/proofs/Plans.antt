-- What a look says to fetch is a plan of the settings.
use native.Mathlib.Omega.{arith}
use Rattle.std.proofs.Common.{◌≡◌, ◌≢◌, ◌<◌, ◌+◌, ℕ, Bool, true, false, cond, List, [], ◌∷◌, map, length, Option, Some, None, Result, Ok, Err, refl, sym, ◌∙◌, ap, subst}
use Rattle.std.specs.Prelude.{find, bytes_eq, is_some, if◌then◌else◌}
use Rattle.std.specs.Option.{option_map_or}
use Rattle.std.proofs.lemmas.Option.{none-some}
use Rattle.std.proofs.lemmas.Slice.Eq.{bytes_eq-Decides}
use Rattle.mvn_coords.specs.Kind.{kind}
use Rattle.mvn_coords.specs.declared.kind.Kind.{Kind}
use Rattle.mvn_coords.specs.declared.kind.Kind.TheVariants.{File, FileSide, Doc, DocSide}
use Rattle.mvn_coords.specs.declared.fault.PathFault.{PathFault}
use Rattle.mvn_coords.specs.Layout.{Coordinates, Directory, text_of}
use Rattle.mvn_coords.proofs.ExactPaths.{exact}
use Rattle.mvn_metadata.specs.Document.{Document}
use Rattle.path_patterns.specs.Pattern.{is_let_through}
use Rattle.fetch_plan.specs.declared.Plan.{Plan}
use Rattle.repo_model.specs.declared.step.Step.{Step}
use Rattle.repo_model.specs.declared.step.Step.TheVariants.{Serve, Missed, Blocked, Fetch}
use Rattle.repo_model.specs.Data.{Row, Kept, Hosted, Proxy}
use Rattle.repo_model.specs.Settings.{GroupRule, ProxyRule, Settings}
use Rattle.repo_model.specs.State.{State, is_proxy, row_at, hosted_of, proxy_of, is_among}
use Rattle.repo_model.specs.Command.{Command, look, proxy_rule_of, group_rule_of}
use Rattle.repo_model.specs.Reply.{fetches}
use Rattle.repo_model.specs.Asking.{IsPlanned, IsPlan, members_of}
use Rattle.repo_model.specs.Proxies.{kept_at, subject_of, decided, step_for, document_step, instead, is_fresh}
use Rattle.repo_model.specs.Turn.{Turn, turn, Seen, is_nothing, is_to_fetch, or_nothing, seen_at, document_text, document_shown, file_shown, is_of_file, served_by, stepped, proxy_seen, member_seen, fetches_one, serves_or_fetches, each_seen, directory_of, merged_of, first_or, group_seen, look_at, plan_of, longest_document, file_limit}
use Rattle.repo_laws.proofs.Lists.{found-passes}
use Rattle.repo_laws.proofs.Cases.{Case, plans_file, plans_document, turn-case}

-- a plan of a file, or of a document
abbrev IsSubject : List ℕ → Bool → Type 0
IsSubject at true = (c : Coordinates) × (kind at ≡ Ok (File c))
IsSubject at false = (d : Directory) × (kind at ≡ Ok (Doc d))

abbrev is_subject_kind : Result Kind PathFault → Type 0
is_subject_kind (Ok (File c)) = Unit {0}
is_subject_kind (Ok (Doc d)) = Unit {0}
is_subject_kind k = ⊥

module _ (p : Proxy) (now : ℕ) (at : List ℕ) where
  tried-not : (kept : Option Kept) → document_step p now Missed kept ≢ Fetch
  tried-not None is = absurd (cc)
  tried-not (Some k) is =
      absurd (elim (is_fresh p.rule.update k.checked now) as (λ b. (if b then Serve else instead Missed) ≡ Fetch → ⊥) [ true ↦ λ no. cc | false ↦ λ no. cc ] is)

  -- what is to be fetched was not tried, and is a file or a document
  for-fetch : (tried : Bool) (k : Result Kind PathFault) → step_for p now tried at k ≡ Fetch → (tried ≡ false) × is_subject_kind k
  for-fetch false (Ok (File c)) is = (refl, tt)
  for-fetch false (Ok (Doc d)) is = (refl, tt)
  for-fetch true (Ok (File c)) is = absurd (elim (is_some (row_at at p.files)) as (λ b. (if b then Serve else Missed) ≡ Fetch → ⊥) [ true ↦ λ no. cc | false ↦ λ no. cc ] is)
  for-fetch true (Ok (Doc d)) is = absurd (tried-not (kept_at at p.documents) is)
  for-fetch tried k is = absurd (cc)

  decided-fetch : (tried : Bool) → decided p now tried at ≡ Fetch → (tried ≡ false) × is_subject_kind (kind at)
  decided-fetch tried is =
      elim (is_let_through p.rule.allow p.rule.block at) as (λ b. (if b then step_for p now tried at (kind at) else Blocked) ≡ Fetch → (tried ≡ false) × is_subject_kind (kind at)) [
        | true ↦ λ so. for-fetch tried (kind at) so
        | false ↦ λ no. absurd (cc)
      ] is

-- the subject of a path is a file or a document as the path is of a file's or of a document's
subject-is : (path : List ℕ) (k : Result Kind PathFault) → kind path ≡ k → is_subject_kind (kind (subject_of path k)) → IsSubject (subject_of path k) (is_of_file k)
subject-is path (Ok (File c)) is _ = (c, is)
subject-is path (Ok (Doc d)) is _ = (d, is)
subject-is path (Ok (FileSide c side)) is _ = (c, exact.file path c side is)
subject-is path (Ok (DocSide d side)) is _ = (d, exact.document path d side is)
subject-is path (Err fault) is some = absurd (subst is_subject_kind is some)

-- what is seen where nothing is fetched
no-plan : {A : Type 0} (f : A → Seen) (found : Option A) (m : ℕ) (r : ProxyRule) (at : List ℕ) (o : Bool) → ((x : A) → f x ≢ is_to_fetch m r at o) → or_nothing f found ≢ is_to_fetch m r at o
no-plan f None m r at o other is = absurd (cc)
no-plan f (Some x) m r at o other is = other x is

document-none : (k : Result Kind PathFault) (document : Document) (m : ℕ) (r : ProxyRule) (at : List ℕ) (o : Bool) → document_shown k document ≢ is_to_fetch m r at o
document-none (Ok (DocSide d side)) document m r at o is = absurd (cc)
document-none k document m r at o is = absurd (cc)

file-none : (k : Result Kind PathFault) (row : Row) (m : ℕ) (r : ProxyRule) (at : List ℕ) (o : Bool) → file_shown k row ≢ is_to_fetch m r at o
file-none (Ok (FileSide c side)) row m r at o is = absurd (cc)
file-none k row m r at o is = absurd (cc)

served-none : (p : Proxy) (on : List ℕ) (k : Result Kind PathFault) (m : ℕ) (r : ProxyRule) (at : List ℕ) (o : Bool) → served_by p on k ≢ is_to_fetch m r at o
served-none p on k m r at o is =
    elim (is_of_file k)
    as (λ b. (if b then or_nothing (file_shown k) (row_at on p.files) else or_nothing (λ (kept : Kept). document_shown k kept.document) (kept_at on p.documents)) ≡ is_to_fetch m r at o → ⊥) [
      | true ↦ λ seen. no-plan (file_shown k) (row_at on p.files) m r at o (λ row. file-none k row m r at o) seen
      | false ↦ λ seen. no-plan (λ (kept : Kept). document_shown k kept.document) (kept_at on p.documents) m r at o (λ kept. document-none k kept.document m r at o) seen
    ] is

hosted-none : (rows : List Row) (path : List ℕ) (k : Result Kind PathFault) (m : ℕ) (r : ProxyRule) (at : List ℕ) (o : Bool) → seen_at rows path k ≢ is_to_fetch m r at o
hosted-none rows path (Ok (File c)) m r at o is = no-plan _ (row_at path rows) m r at o (λ row e. absurd (cc)) is
hosted-none rows path (Ok (FileSide c side)) m r at o is = no-plan _ (row_at (text_of c) rows) m r at o (λ row e. absurd (cc)) is
hosted-none rows path (Ok (Doc d)) m r at o is = no-plan _ (document_text d rows) m r at o (λ bytes e. absurd (cc)) is
hosted-none rows path (Ok (DocSide d side)) m r at o is = no-plan _ (document_text d rows) m r at o (λ bytes e. absurd (cc)) is
hosted-none rows path (Err fault) m r at o is = absurd (cc)

-- a plan that is seen: of a proxy that is there, for the subject of the path, at a member that was not tried
pub record IsSeenPlan (s : State) (tried path : List ℕ) (member : ℕ) (rule : ProxyRule) (at : List ℕ) (of_file : Bool) : Type 0 where
  pub id : List ℕ
  pub proxy : Proxy
  pub there : proxy_of id s ≡ Some proxy
  pub rule_is : rule ≡ proxy.rule
  pub subject : IsSubject at of_file
  pub fresh : is_among member tried ≡ false

module _ (s : State) (now : ℕ) (tried path : List ℕ) (m : ℕ) (r : ProxyRule) (at : List ℕ) (o : Bool) where
  proxy-plan : (id : List ℕ) (p : Proxy) (member : ℕ) (step : Step) → proxy_of id s ≡ Some p → decided p now (is_among member tried) (subject_of path (kind path)) ≡ step
      → stepped member p (subject_of path (kind path)) (kind path) step ≡ is_to_fetch m r at o → IsSeenPlan s tried path m r at o × (m ≡ member)
  proxy-plan id p member Fetch there decides is =
      let sees : is_to_fetch member p.rule (subject_of path (kind path)) (is_of_file (kind path)) ≡ is_to_fetch m r at o = is in
      let member_is : member ≡ m = cc in
      let rule_is : p.rule ≡ r = cc in
      let at_is : subject_of path (kind path) ≡ at = cc in
      let o_is : is_of_file (kind path) ≡ o = cc in
      let (fresh, subject) = decided-fetch p now (subject_of path (kind path)) (is_among member tried) decides in (
        record {
          id = id;
          proxy = p;
          there = there;
          rule_is = sym rule_is;
          subject = subst (λ (x : List ℕ). IsSubject x o) at_is (subst (λ (b : Bool). IsSubject (subject_of path (kind path)) b) o_is (subject-is path (kind path) refl subject));
          fresh = subst (λ (n : ℕ). is_among n tried ≡ false) member_is fresh;
        },
        sym member_is,
      )
  proxy-plan id p member Serve there decides is = absurd (served-none p (subject_of path (kind path)) (kind path) m r at o is)
  proxy-plan id p member step there decides is = absurd (cc)

  member-plan : (member : ℕ) (id : List ℕ) → member_seen s now tried path (kind path) member id ≡ is_to_fetch m r at o → IsSeenPlan s tried path m r at o × (m ≡ member)
  member-plan member id is =
      elim (hosted_of id s)
      as (λ here. option_map_or (λ (h : Hosted). seen_at h.rows path (kind path)) here (option_map_or (λ (p : Proxy). proxy_seen member p now tried path (kind path)) (proxy_of id s) is_nothing) ≡ is_to_fetch m r at o → IsSeenPlan s tried path m r at o × (m ≡ member)) [
        | (Some h) ↦ λ seen. absurd (hosted-none h.rows path (kind path) m r at o seen)
        | None ↦ λ others.
            elim (proxy_of id s)
            as (λ found. proxy_of id s ≡ found → option_map_or (λ (p : Proxy). proxy_seen member p now tried path (kind path)) found is_nothing ≡ is_to_fetch m r at o → IsSeenPlan s tried path m r at o × (m ≡ member)) [
              | None ↦ λ _ seen. absurd (cc)
              | (Some p) ↦ λ found seen. proxy-plan id p member (decided p now (is_among member tried) (subject_of path (kind path))) found refl seen
            ] refl others
      ] is

  -- the first of the members that passes a test
  each-plan : (q : Seen → Bool) (member : ℕ) (ids : List (List ℕ)) → find q (each_seen s now tried path (kind path) member ids) ≡ Some (is_to_fetch m r at o)
      → IsSeenPlan s tried path m r at o × (m < member + length ids)
  each-plan q member [] is = absurd (none-some (is_to_fetch m r at o) is)
  each-plan q member (id ∷ ids) is =
      let seen = member_seen s now tried path (kind path) member id in
      elim (q seen) as (λ b. cond b (Some seen) (find q (each_seen s now tried path (kind path) (member + 1) ids)) ≡ Some (is_to_fetch m r at o) → IsSeenPlan s tried path m r at o × (m < member + length (id ∷ ids))) [
        | true ↦ λ found.
            let same : seen ≡ is_to_fetch m r at o = cc in
            let (plan, at_member) = member-plan member id same in
            (plan, omega (arith, at_member))
        | false ↦ λ later. let (plan, below) = each-plan q (member + 1) ids later in (plan, omega (arith, below))
      ] is

  group-plan : (ids : List (List ℕ)) (directory : Option Directory) → group_seen s now tried path (kind path) ids directory ≡ is_to_fetch m r at o → IsSeenPlan s tried path m r at o × (m < length ids)
  group-plan ids None is = by (find serves_or_fetches (each_seen s now tried path (kind path) 0 ids)) refl is where
    by : (found : Option Seen) → find serves_or_fetches (each_seen s now tried path (kind path) 0 ids) ≡ found → first_or found is_nothing ≡ is_to_fetch m r at o → IsSeenPlan s tried path m r at o × (m < length ids)
    by None _ seen = absurd (cc)
    by (Some seen) found same = let (plan, below) = each-plan serves_or_fetches 0 ids (found ∙ ap (λ (x : Seen). Some x) same) in (plan, omega (arith, below))
  group-plan ids (Some d) is = by (find fetches_one (each_seen s now tried path (kind path) 0 ids)) refl is where
    by : (found : Option Seen) → find fetches_one (each_seen s now tried path (kind path) 0 ids) ≡ found
        → first_or found (or_nothing (document_shown (kind path)) (merged_of s now tried (subject_of path (kind path)) d ids)) ≡ is_to_fetch m r at o → IsSeenPlan s tried path m r at o × (m < length ids)
    by None _ seen =
        absurd (no-plan (document_shown (kind path)) (merged_of s now tried (subject_of path (kind path)) d ids) m r at o (λ document. document-none (kind path) document m r at o) seen)
    by (Some seen) found same = let (plan, below) = each-plan fetches_one 0 ids (found ∙ ap (λ (x : Seen). Some x) same) in (plan, omega (arith, below))

  look-plan : (settings : Settings) (id : List ℕ) → look_at settings s now id tried path ≡ is_to_fetch m r at o → IsSeenPlan s tried path m r at o × (m < members_of id settings)
  look-plan settings id is =
      elim (hosted_of id s)
      as (λ here. option_map_or (λ (h : Hosted). seen_at h.rows path (kind path)) here
      (option_map_or (λ (g : GroupRule). group_seen s now tried path (kind path) g.members (directory_of (kind path))) (group_rule_of id settings) (member_seen s now tried path (kind path) 0 id)) ≡ is_to_fetch m r at o
      → IsSeenPlan s tried path m r at o × (m < members_of id settings)) [
        | (Some h) ↦ λ seen. absurd (hosted-none h.rows path (kind path) m r at o seen)
        | None ↦ λ others.
            elim (group_rule_of id settings)
            as (λ found. option_map_or (λ (g : GroupRule). group_seen s now tried path (kind path) g.members (directory_of (kind path))) found (member_seen s now tried path (kind path) 0 id) ≡ is_to_fetch m r at o
            → IsSeenPlan s tried path m r at o × (m < option_map_or (λ (g : GroupRule). length g.members) found 1)) [
              | None ↦ λ seen. let (plan, at_member) = member-plan 0 id seen in (plan, omega (arith, at_member))
              | (Some g) ↦ λ seen. group-plan g.members (directory_of (kind path)) seen
            ] others
      ] is

-- the rule of a proxy that is there is the settings' of its id
rule-named : (s : State) (settings : Settings) (id : List ℕ) (p : Proxy) → map (λ (x : Proxy). x.rule) s.proxies ≡ settings.proxies → proxy_of id s ≡ Some p → proxy_rule_of p.rule.id settings ≡ Some p.rule
rule-named s settings id p rules there =
    ap (λ rs. find (λ (rule : ProxyRule). bytes_eq rule.id p.rule.id) rs) (sym rules) ∙ found s.proxies there where
      found : (proxies : List Proxy) → find (is_proxy id) proxies ≡ Some p → find (λ (rule : ProxyRule). bytes_eq rule.id p.rule.id) (map (λ (x : Proxy). x.rule) proxies) ≡ Some p.rule
      found [] is = absurd (none-some p is)
      found (q ∷ proxies) is =
          elim (is_proxy id q)
          as (λ b. is_proxy id q ≡ b → cond b (Some q) (find (is_proxy id) proxies) ≡ Some p → find (λ (rule : ProxyRule). bytes_eq rule.id p.rule.id) (map (λ (x : Proxy). x.rule) (q ∷ proxies)) ≡ Some p.rule) [
            | true ↦ λ _ here.
                let same : q ≡ p = cc in
                let itself : bytes_eq q.rule.id p.rule.id ≡ true = ap (λ (x : Proxy). bytes_eq x.rule.id p.rule.id) same ∙ (bytes_eq-Decides p.rule.id p.rule.id).1 refl in
                rw itself (ap (λ (x : Proxy). Some x.rule) same)
            | false ↦ λ other later.
                let id_is : p.rule.id ≡ id = (bytes_eq-Decides p.rule.id id).0 (found-passes (is_proxy id) proxies p later) in
                let apart : bytes_eq q.rule.id p.rule.id ≡ false = ap (bytes_eq q.rule.id) id_is ∙ other in
                rw apart (found proxies later)
          ] refl is

planned : (settings : Settings) (k : Result Kind PathFault) (n : ℕ) (c : Coordinates) → k ≡ Ok (File c) → IsPlanned settings k (Some n) (file_limit settings)
planned settings k n c is = subst (λ (x : Result Kind PathFault). IsPlanned settings x (Some n) (file_limit settings)) (sym is) refl

planned-document : (settings : Settings) (k : Result Kind PathFault) (d : Directory) → k ≡ Ok (Doc d) → IsPlanned settings k None longest_document
planned-document settings k d is = subst (λ (x : Result Kind PathFault). IsPlanned settings x None longest_document) (sym is) refl

module _ (settings : Settings) (s : State) (now : ℕ) (rules : map (λ (x : Proxy). x.rule) s.proxies ≡ settings.proxies) where
  plan-is : (id tried path : List ℕ) (member : ℕ) (rule : ProxyRule) (at : List ℕ) (under : Option ℕ) (limit : ℕ) (o : Bool) → look_at settings s now id tried path ≡ is_to_fetch member rule at o
      → (IsSubject at o → IsPlanned settings (kind at) under limit) → IsPlan settings id tried (plan_of member rule at under limit)
  plan-is id tried path member rule at under limit o is fits =
      let (plan, below) = look-plan s now tried path member rule at o settings id is in
      let named : proxy_rule_of rule.id settings ≡ Some rule = subst (λ (x : ProxyRule). proxy_rule_of x.id settings ≡ Some x) (sym plan.rule_is) (rule-named s settings plan.id plan.proxy rules plan.there) in
      record { rule = rule; named = named; host = refl; port = refl; prefix = refl; path = fits plan.subject; fresh = plan.fresh; below = below }

  case-plan : (c : Command) (t : Turn) (id path tried : List ℕ) (plan : Plan) → Case settings s now c t → c ≡ look id path tried → t.reply ≡ fetches plan → IsPlan settings id tried plan
  case-plan c t id path tried plan (plans_file repo on known_missing member rule at more seen) c_is says_so =
      let looks : look repo on known_missing ≡ look id path tried = c_is in
      let repo_is : repo ≡ id = cc in
      let on_is : on ≡ path = cc in
      let known_missing_is : known_missing ≡ tried = cc in
      let said : fetches (plan_of member rule at (Some s.yard.next_draft) (file_limit settings)) ≡ fetches plan = says_so in
      let plan_so : plan_of member rule at (Some s.yard.next_draft) (file_limit settings) ≡ plan = cc in
      subst (λ (x : List ℕ). IsPlan settings x tried plan) repo_is (subst (λ (x : List ℕ). IsPlan settings repo x plan) known_missing_is (subst (λ (x : Plan). IsPlan settings repo known_missing x) plan_so
      (plan-is repo known_missing on member rule at (Some s.yard.next_draft) (file_limit settings) true seen (λ subject. planned settings (kind at) s.yard.next_draft subject.0 subject.1))))
  case-plan c t id path tried plan (plans_document repo on known_missing member rule at seen) c_is says_so =
      let looks : look repo on known_missing ≡ look id path tried = c_is in
      let repo_is : repo ≡ id = cc in
      let known_missing_is : known_missing ≡ tried = cc in
      let said : fetches (plan_of member rule at None longest_document) ≡ fetches plan = says_so in
      let plan_so : plan_of member rule at None longest_document ≡ plan = cc in
      subst (λ (x : List ℕ). IsPlan settings x tried plan) repo_is (subst (λ (x : List ℕ). IsPlan settings repo x plan) known_missing_is (subst (λ (x : Plan). IsPlan settings repo known_missing x) plan_so
      (plan-is repo known_missing on member rule at None longest_document false seen (λ subject. planned-document settings (kind at) subject.0 subject.1))))
  case-plan c t id path tried plan case c_is says_so = absurd (cc)

  pub look-plans : (id path tried : List ℕ) (plan : Plan) → (turn settings s now (look id path tried)).reply ≡ fetches plan → IsPlan settings id tried plan
  look-plans id path tried plan is = case-plan (look id path tried) (turn settings s now (look id path tried)) id path tried plan (turn-case settings s now (look id path tried)) refl is
