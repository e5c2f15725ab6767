-- What lands may land: its effects may be made.
use Rattle.std.proofs.Common.{◌≡◌, ℕ, true, inl, inr, List, map, Option, Some, None, Result, Ok, refl, sym, ◌∙◌, ap, subst, eqb-true}
use Rattle.std.specs.Prelude.{◌==◌, nat_lt, find, is_some, bytes_eq}
use Rattle.std.specs.List.{list_any}
use Rattle.std.proofs.lemmas.Bool.{false≢true, and_parts}
use Rattle.mvn_coords.specs.Kind.{kind}
use Rattle.mvn_coords.specs.declared.kind.Kind.{Kind}
use Rattle.mvn_coords.specs.declared.kind.Kind.TheVariants.{File, Doc}
use Rattle.mvn_coords.specs.declared.fault.PathFault.{PathFault}
use Rattle.fetch_plan.specs.declared.Plan.{Plan}
use Rattle.fetch_plan.specs.declared.Outcome.TheVariants.{Got, Gone}
use Rattle.repo_model.specs.Fetched.{Landing, got_file, got_doc}
use Rattle.repo_model.specs.Data.{Blob, Row, Proxy}
use Rattle.repo_model.specs.Settings.{ProxyRule, Settings}
use Rattle.repo_model.specs.State.{State, is_proxy, is_among, row_at, files_of, number_end}
use Rattle.repo_model.specs.Effect.{Effect, caches, keeps_doc, adds_negative, clears_negative, proxies_after, with_effect}
use Rattle.repo_model.specs.May.{AllMay, IsRowsBlob}
use Rattle.repo_model.specs.Command.{proxy_rule_of, is_landing}
use Rattle.repo_model.specs.Turn.{is_drawn, gives_draft_up, lands_file, lands}
use Rattle.repo_laws.specs.Looks.{IsFileAt, IsSeenFile}
use Rattle.repo_laws.proofs.Files.{proxy-rules-kept}
use Rattle.repo_laws.proofs.HoldingLists.{any-mapped}

file-blob : (s : State) (id path : List ℕ) (blob : Blob) → IsFileAt s id path blob → IsRowsBlob s blob.number
file-blob s id path blob (inl (row, found, same)) = inl (id, path, row, found, ap (λ (b : Blob). b.number) same)
file-blob s id path blob (inr (row, found, same)) = inr (id, path, row, found, ap (λ (b : Blob). b.number) same)

-- what is seen as a file is a blob that a file has
pub seen-blob : (settings : Settings) (s : State) (id path : List ℕ) (blob : Blob) → IsSeenFile settings s id path blob → IsRowsBlob s blob.number
seen-blob settings s id path blob (inl here) = file-blob s id path blob here
seen-blob settings s id path blob (inr (g, _, (member, _, here))) = file-blob s member path blob here

there-by-proxy-rules : (id : List ℕ) (proxies : List Proxy) → list_any (is_proxy id) proxies ≡ is_some (find (λ (rule : ProxyRule). bytes_eq rule.id id) (map (λ (p : Proxy). p.rule) proxies))
there-by-proxy-rules id = any-mapped (λ (p : Proxy). p.rule) (λ (rule : ProxyRule). bytes_eq rule.id id)

-- a proxy is there exactly where the settings name it
pub proxy-there-as-set : (settings : Settings) (s : State) (id : List ℕ) → map (λ (p : Proxy). p.rule) s.proxies ≡ settings.proxies → list_any (is_proxy id) s.proxies ≡ is_some (proxy_rule_of id settings)
proxy-there-as-set settings s id rules = there-by-proxy-rules id s.proxies ∙ ap (λ rs. is_some (find (λ (rule : ProxyRule). bytes_eq rule.id id) rs)) rules

-- and is there still after an effect
pub proxy-there-still : (id : List ℕ) (e : Effect) (proxies : List Proxy) → list_any (is_proxy id) (proxies_after e proxies) ≡ list_any (is_proxy id) proxies
proxy-there-still id e proxies =
    there-by-proxy-rules id (proxies_after e proxies)
    ∙ ap (λ rs. is_some (find (λ (rule : ProxyRule). bytes_eq rule.id id) rs)) (proxy-rules-kept e proxies)
    ∙ sym (there-by-proxy-rules id proxies)

-- a file that lands has the number of the plan's draft
landed-number : (k : Result Kind PathFault) (under : Option ℕ) (blob : Blob) (drafts : List ℕ) → is_landing k under (Got (got_file blob)) ≡ true → is_drawn under drafts ≡ true
    → is_among blob.number drafts ≡ true
landed-number (Ok (File c)) (Some n) blob drafts landing drawn =
    let named : blob.number ≡ n = eqb-true blob.number n (and_parts (blob.number == n) (nat_lt blob.print.length number_end) landing).0 in
    subst (λ (k : ℕ). is_among k drafts ≡ true) (sym named) drawn
landed-number (Ok (Doc d)) (Some n) blob drafts landing drawn = absurd (false≢true landing)
landed-number k under blob drafts landing drawn = absurd (false≢true landing)

module _ (grace now : ℕ) where
  given-up-can : (s : State) (under : Option ℕ) → is_drawn under s.yard.drafts ≡ true → AllMay grace now s (gives_draft_up under)
  given-up-can s None drawn = tt
  given-up-can s (Some n) drawn = (drawn, tt)

  module _ (s : State) (plan : Plan) (there : list_any (is_proxy plan.proxy) s.proxies ≡ true) (drawn : is_drawn plan.draft s.yard.drafts ≡ true) where
    still : (e : Effect) → list_any (is_proxy plan.proxy) (with_effect s e).proxies ≡ true
    still e = proxy-there-still plan.proxy e s.proxies ∙ there

    file-can : (blob : Blob) → is_among blob.number s.yard.drafts ≡ true → (found : Option Row) → row_at plan.path (files_of plan.proxy s) ≡ found → AllMay grace now s (lands_file plan blob now found)
    file-can blob among None free = ((refl, there, among, free), (still (caches plan.proxy plan.path blob now), tt))
    file-can blob among (Some row) found = (there, given-up-can (with_effect s (clears_negative plan.proxy plan.path)) plan.draft drawn)

    pub lands-can : (outcome : Landing) → is_landing (kind plan.path) plan.draft outcome ≡ true → AllMay grace now s (lands s now plan outcome)
    lands-can (Got (got_file blob)) landing =
        file-can blob (landed-number (kind plan.path) plan.draft blob s.yard.drafts landing drawn) (row_at plan.path (files_of plan.proxy s)) refl
    lands-can (Got (got_doc document)) landing = ((refl, there), (still (keeps_doc plan.proxy plan.path _ now), tt))
    lands-can Gone landing = ((refl, there), given-up-can (with_effect s (adds_negative plan.proxy plan.path now)) plan.draft drawn)
    lands-can outcome landing = given-up-can s plan.draft drawn
