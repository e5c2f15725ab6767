-- The document of a group, where none of its members asks its remote: that of the documents that they have now.
use Rattle.std.proofs.Common.{◌≡◌, ◌≢◌, ◌≤◌, ℕ, ◌+◌, length, not, Bool, true, false, cond, if◌then◌else◌, List, [], ◌∷◌, Option, Some, None, Result, Ok, option_map, ◌++◌, bytes_eq, codes, refl, sym, ap, ◌∙◌, subst}
use Rattle.std.specs.Option.{option_map_or}
use native.Mathlib.Omega.{arith}
use Rattle.std.proofs.lemmas.Bool.{ltb-false}
use Rattle.std.specs.Prelude.{find, nat_lt}
use Rattle.std.specs.List.{position, position_or_len}
use Rattle.std.proofs.lemmas.Slice.Eq.{bytes_eq-Decides}
use Rattle.mvn_coords.specs.Kind.{kind}
use Rattle.mvn_coords.specs.Layout.{Directory, text_of_directory, text_of_document}
use Rattle.mvn_coords.specs.Path.{IsDirectory}
use Rattle.mvn_coords.specs.declared.fault.PathFault.{PathFault}
use Rattle.mvn_coords.specs.declared.fault.Side.{Side}
use Rattle.mvn_coords.specs.declared.kind.Kind.{Kind}
use Rattle.mvn_coords.specs.declared.kind.Kind.TheVariants.{Doc}
use Rattle.mvn_coords.proofs.ExactPaths.{exact_path, kind_of_document}
use Rattle.path_patterns.specs.Pattern.{is_let_through}
use Rattle.group_view.specs.Shelved.{AreSame, shelved_at}
use Rattle.group_view.specs.declared.shelf.GroupShelf.{GroupShelf}
use Rattle.mvn_metadata.specs.Document.{Document, merge}
use Rattle.repo_model.specs.Data.{Hosted, Kept, Proxy}
use Rattle.repo_model.specs.Document.{document}
use Rattle.repo_model.specs.Proxies.{decided, document_step, instead, is_fresh, kept_at, step_for, step_out, subject_of}
use Rattle.repo_model.specs.State.{State, hosted_of, is_among, proxy_of}
use Rattle.repo_model.specs.Turn.{Seen, each_document, each_seen, fetches_one, is_nothing, kept_served, member_document, member_seen, merged_of, proxy_document, proxy_seen, seen_at, stepped, with_some}
use Rattle.repo_model.specs.declared.step.Step.{Step}
use Rattle.repo_model.specs.declared.step.Step.TheVariants.{Serve as DoesServe, Blocked, Fetch}
use Rattle.repo_parts.specs.Looks.{HasGoods, document_kind}
use Rattle.repo_parts.specs.Shelves.{IsShelved, document_kept, document_now, documents_now}

-- without a document none is served
served-none : (step : Step) → kept_served step None ≡ None
served-none DoesServe = refl
served-none step = refl

-- where the remote is not asked, one that is kept is served
instead-serves : (out : Step) (kept : Option Kept) → instead out ≢ Fetch → kept_served (instead out) kept ≡ option_map (λ (k : Kept). k.document) kept
instead-serves Fetch kept not = absurd (not refl)
instead-serves step kept not = refl

step-serves : (p : Proxy) (now : ℕ) (out : Step) (kept : Option Kept) → document_step p now out kept ≢ Fetch → kept_served (document_step p now out kept) kept ≡ option_map (λ (k : Kept). k.document) kept
step-serves p now out None not = served-none out
step-serves p now out (Some k) not =
    elim (is_fresh p.rule.update k.checked now)
    as (λ b. (if b then DoesServe else instead out) ≢ Fetch → kept_served (if b then DoesServe else instead out) (Some k) ≡ Some k.document) [
      | true ↦ λ silent. refl
      | false ↦ λ silent. instead-serves out (Some k) silent
    ] not

-- a proxy that does not ask serves the document that it keeps, where its patterns allow the path
proxy-serves : (p : Proxy) (now : ℕ) (tried : Bool) (d : Directory) → IsDirectory d → decided p now tried (text_of_document d) ≢ Fetch → proxy_document p now tried (text_of_document d) ≡ document_kept p d
proxy-serves p now tried d rule not =
    let at = text_of_document d in
    let kept = kept_at at p.documents in
    elim (is_let_through p.rule.allow p.rule.block at)
    as (λ b. (if b then step_for p now tried at (kind at) else Blocked) ≢ Fetch
    → kept_served (if b then step_for p now tried at (kind at) else Blocked) kept ≡ (if b then option_map (λ (k : Kept). k.document) kept else None)) [
      | true ↦ subst (λ k. step_for p now tried at k ≢ Fetch → kept_served (step_for p now tried at k) kept ≡ option_map (λ (x : Kept). x.document) kept) (sym (kind_of_document d rule))
          (λ silent. step-serves p now (step_out p now tried at) kept silent)
      | false ↦ λ silent. refl
    ] not

-- what is not to be fetched is not asked for
stepped-not : (member : ℕ) (p : Proxy) (at : List ℕ) (k : Result Kind PathFault) (step : Step) → fetches_one (stepped member p at k step) ≡ false → step ≢ Fetch
stepped-not member p at k Fetch quiet is = let wrong : true ≡ false = quiet in cc
stepped-not member p at k step quiet is = cc

module _ (s : State) (now : ℕ) (tried path : List ℕ) (k : Result Kind PathFault) (d : Directory) (rule : IsDirectory d) (at_is : subject_of path k ≡ text_of_document d) where
  member-serves : (member : ℕ) (id : List ℕ) → fetches_one (member_seen s now tried path k member id) ≡ false
      → member_document s now tried (subject_of path k) d member id ≡ document_now s.hosted s.proxies d id
  member-serves member id quiet =
      elim (hosted_of id s)
      as (λ h. fetches_one (option_map_or (λ (x : Hosted). seen_at x.rows path k) h (option_map_or (λ (p : Proxy). proxy_seen member p now tried path k) (proxy_of id s) is_nothing)) ≡ false
      → option_map_or (λ (x : Hosted). document d x.rows) h (option_map_or (λ (p : Proxy). proxy_document p now (is_among member tried) (subject_of path k)) (proxy_of id s) None)
      ≡ option_map_or (λ (x : Hosted). document d x.rows) h (option_map_or (λ (p : Proxy). document_kept p d) (proxy_of id s) None)) [
        | Some h ↦ λ silent. refl
        | None ↦
            elim (proxy_of id s)
            as (λ o. fetches_one (option_map_or (λ (p : Proxy). proxy_seen member p now tried path k) o is_nothing) ≡ false
            → option_map_or (λ (p : Proxy). proxy_document p now (is_among member tried) (subject_of path k)) o None ≡ option_map_or (λ (p : Proxy). document_kept p d) o None) [
              | None ↦ λ silent. refl
              | Some p ↦ λ silent.
                  let asks = stepped-not member p (subject_of path k) k (decided p now (is_among member tried) (subject_of path k)) silent in
                  ap (proxy_document p now (is_among member tried)) at_is
                  ∙ proxy-serves p now (is_among member tried) d rule (subst (λ at. decided p now (is_among member tried) at ≢ Fetch) at_is asks)
            ]
      ] quiet

  each-serves : (member : ℕ) (ids : List (List ℕ)) → find fetches_one (each_seen s now tried path k member ids) ≡ None
      → each_document s now tried (subject_of path k) d member ids ≡ documents_now s.hosted s.proxies d ids
  each-serves member [] quiet = refl
  each-serves member (id ∷ ids) quiet =
      let seen = member_seen s now tried path k member id in
      let rest = each_seen s now tried path k (member + 1) ids in
      let first : (fetches_one seen ≡ false) × (find fetches_one rest ≡ None) = parted (fetches_one seen) seen (find fetches_one rest) refl quiet in
      λ i. with_some (member-serves member id first.0 i) (each-serves (member + 1) ids first.1 i)
    where
      parted : (b : Bool) (x : Seen) (o : Option Seen) → fetches_one (member_seen s now tried path k member id) ≡ b → cond b (Some x) o ≡ None → (fetches_one (member_seen s now tried path k member id) ≡ false) × (o ≡ None)
      parted true x o is none = absurd (let wrong : Some x ≡ None = none in cc)
      parted false x o is none = (is, none)

-- the path of a document, or of its side file, is about that document
subject-so : (path : List ℕ) (d : Directory) (side : Option Side) → kind path ≡ Ok (document_kind d side) → subject_of path (kind path) ≡ text_of_document d
subject-so path d None is = ap (subject_of path) is ∙ sym (exact_path path (Doc d) is)
subject-so path d (Some side) is = ap (subject_of path) is

-- the document of a group whose members ask nobody is that of what they have now
pub merged-now : (s : State) (now : ℕ) (tried path : List ℕ) (d : Directory) (side : Option Side) (ids : List (List ℕ)) → IsDirectory d → kind path ≡ Ok (document_kind d side)
    → find fetches_one (each_seen s now tried path (kind path) 0 ids) ≡ None → merged_of s now tried (subject_of path (kind path)) d ids ≡ merge (documents_now s.hosted s.proxies d ids)
merged-now s now tried path d side ids rule is quiet = ap merge (each-serves s now tried path (kind path) d rule (subject-so path d side is) 0 ids quiet)

-- what is on the shelf is that document
pub on-shelf : (s : State) (hosted : List Hosted) (proxies : List Proxy) (now : ℕ) (tried path : List ℕ) (d : Directory) (side : Option Side) (ids : List (List ℕ)) (shelf : GroupShelf) (doc : Document)
    → HasGoods s hosted proxies → IsShelved hosted proxies ids shelf → IsDirectory d → kind path ≡ Ok (document_kind d side)
    → find fetches_one (each_seen s now tried path (kind path) 0 ids) ≡ None → shelved_at (text_of_directory d) shelf ≡ Some doc → merged_of s now tried (subject_of path (kind path)) d ids ≡ Some doc
on-shelf s hosted proxies now tried path d side ids shelf doc goods right rule is quiet there =
    merged-now s now tried path d side ids rule is quiet
    ∙ ap (λ hs. merge (documents_now hs s.proxies d ids)) goods.hosted_so ∙ ap (λ ps. merge (documents_now hosted ps d ids)) goods.proxies_so
    ∙ right d rule doc there

-- a state with these repositories and proxies, and nothing else
abbrev pub bare : List Hosted → List Proxy → State
bare hosted proxies = record {
  hosted = hosted;
  proxies = proxies;
  sessions = [];
  yard = record { drafts = []; leases = []; condemned = []; next_draft = 1; next_lease = 1; next_session = 1 };
  last = 0;
  clock = None;
  faults = 0;
}

-- directories of one path are one
same-directory : (d e : Directory) → IsDirectory d → IsDirectory e → text_of_directory d ≡ text_of_directory e → d ≡ e
same-directory d e one other same =
    let at : text_of_document d ≡ text_of_document e = ap (λ t. t ++ 47 ∷ codes "maven-metadata.xml") same in
    by (sym (kind_of_document d one) ∙ ap kind at ∙ kind_of_document e other)
  where
    by : ◌≡◌ {A = Result Kind PathFault} (Ok (Doc d)) (Ok (Doc e)) → d ≡ e
    by is = cc

module _ (hosted : List Hosted) (proxies : List Proxy) (ids : List (List ℕ)) (old new : GroupShelf) where
  -- a shelf as it was
  pub same-shelved : AreSame old new → IsShelved hosted proxies ids old → IsShelved hosted proxies ids new
  same-shelved same right d rule doc is = right d rule doc (sym (same (text_of_directory d)) ∙ is)

  -- one more document on it
  pub more-shelved : (d : Directory) (doc : Document) → IsDirectory d → ((text : List ℕ) → shelved_at text new ≡ (if bytes_eq text (text_of_directory d) then Some doc else shelved_at text old))
      → merge (documents_now hosted proxies d ids) ≡ Some doc → IsShelved hosted proxies ids old → IsShelved hosted proxies ids new
  more-shelved d doc rule kept made right e other found is =
      elim (bytes_eq (text_of_directory e) (text_of_directory d))
      as (λ b. bytes_eq (text_of_directory e) (text_of_directory d) ≡ b → (if b then Some doc else shelved_at (text_of_directory e) old) ≡ Some found → merge (documents_now hosted proxies e ids) ≡ Some found) [
        | true ↦ λ here so.
            let one : e ≡ d = same-directory e d other rule ((bytes_eq-Decides (text_of_directory e) (text_of_directory d)).0 here) in
            ap (λ x. merge (documents_now hosted proxies x ids)) one ∙ made ∙ so
        | false ↦ λ past so. right e other found so
      ] refl (sym (kept (text_of_directory e)) ∙ is)

-- ---- which group is meant
none-behind : {X : Type 0} (p : X → Bool) (xs : List X) → length xs ≤ position_or_len p xs → find p xs ≡ None
none-behind p [] far = refl
none-behind p (x ∷ xs) far =
    elim (p x) as (λ b. length (x ∷ xs) ≤ cond (not b) (1 + position_or_len p xs) 0 → cond b (Some x) (find p xs) ≡ None) [
      | true ↦ λ before. absurd (let never : ⊥ = omega (arith, before) in never)
      | false ↦ λ past. none-behind p xs (omega (arith, past))
    ] far

pub no-place : {X : Type 0} (p : X → Bool) (xs : List X) → position p xs ≡ None → find p xs ≡ None
no-place p xs none = by (nat_lt (position_or_len p xs) (length xs)) refl none
  where
    by : (b : Bool) → nat_lt (position_or_len p xs) (length xs) ≡ b → cond b (Some (position_or_len p xs)) None ≡ None → find p xs ≡ None
    by true within is = absurd (let wrong : Some (position_or_len p xs) ≡ None = is in cc)
    by false past is = none-behind p xs (ltb-false (position_or_len p xs) (length xs) past)
