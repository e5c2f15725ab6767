-- A file that a proxy keeps is what a look there is answered.
use Rattle.std.proofs.Common.{◌≡◌, ℕ, true, false, cond, List, [], ◌∷◌, map, Option, Some, None, Result, Ok, refl, sym, ◌∙◌, ap, subst, eqb-true}
use Rattle.std.specs.Prelude.{◌==◌, find, is_some, if◌then◌else◌, bytes_eq, IsTrue}
use Rattle.std.specs.Option.{option_map, option_map_or}
use Rattle.std.proofs.lemmas.Option.{none-some}
use Rattle.mvn_coords.specs.Kind.{kind}
use Rattle.mvn_coords.specs.declared.kind.Kind.{Kind}
use Rattle.mvn_coords.specs.declared.kind.Kind.TheVariants.{File, FileSide}
use Rattle.mvn_coords.specs.declared.fault.PathFault.{PathFault}
use Rattle.mvn_coords.specs.declared.fault.Side.{Side}
use Rattle.mvn_coords.specs.Layout.{Coordinates, text_of}
use Rattle.mvn_digest.specs.Sides.{side_text}
use Rattle.path_patterns.specs.Pattern.{is_let_through}
use Rattle.repo_model.specs.declared.step.Step.TheVariants.{Serve, Blocked}
use Rattle.repo_model.specs.Data.{Hosted, Kept, Proxy, Row}
use Rattle.repo_model.specs.Settings.{GroupRule, ProxyRule, Settings}
use Rattle.repo_model.specs.State.{State, files_of, hosted_of, is_among, is_proxy, is_repository, number_end, proxy_of, row_at}
use Rattle.repo_model.specs.Effect.{lends, recorded}
use Rattle.repo_model.specs.Command.{group_rule_of, is_there, look}
use Rattle.repo_model.specs.Reply.{file, spent, text}
use Rattle.repo_model.specs.Proxies.{decided, kept_at, step_for, step_out, subject_of}
use Rattle.repo_model.specs.Turn.{Seen, Turn, directory_of, document_shown, draws_or_spent, each_seen, file_shown, first_or, group_seen, is_nothing, is_of_file, look_at, member_seen, or_nothing, proxy_seen, says, seen_at, serves_or_fetches, shows, stepped, turn}
use Rattle.repo_model.specs.History.{Entry, Fits}
use Rattle.repo_laws.specs.Closed.{Answers, GivesFile, GivesText}
use Rattle.repo_laws.specs.Sound.{IsSound, Sound}
use Rattle.repo_laws.proofs.HoldingLists.{any-none}
use Rattle.repo_laws.proofs.Closed.{look-gives}
use Rattle.repo_laws.proofs.Orderly.{there-as-set}
use Rattle.proxy_laws.specs.Asked.{AsksFirst, LetsThrough, by_group, itself}

-- the rule of a proxy is the one that the settings name
rule-found : (id : List ℕ) (proxies : List Proxy) → option_map (λ (p : Proxy). p.rule) (find (is_proxy id) proxies) ≡ find (λ (rule : ProxyRule). bytes_eq rule.id id) (map (λ (p : Proxy). p.rule) proxies)
rule-found id [] = refl
rule-found id (p ∷ proxies) =
    elim (is_proxy id p)
    as (λ b. option_map (λ (x : Proxy). x.rule) (cond b (Some p) (find (is_proxy id) proxies)) ≡ cond b (Some p.rule) (find (λ (rule : ProxyRule). bytes_eq rule.id id) (map (λ (x : Proxy). x.rule) proxies))) [
      | true ↦ refl
      | false ↦ rule-found id proxies
    ]

not-hosted : (settings : Settings) (s : State) (id : List ℕ) → Sound settings s → is_there id settings ≡ false → hosted_of id s ≡ None
not-hosted settings s id order not = any-none (is_repository id) s.hosted (there-as-set settings s id order.rules ∙ not)

-- a proxy that keeps a file serves it, even if its remote was tried
serves : (p : Proxy) (now : ℕ) (tried path : List ℕ) (c : Coordinates) (row : Row) → IsTrue (is_let_through p.rule.allow p.rule.block path) → kind path ≡ Ok (File c)
    → row_at path p.files ≡ Some row → decided p now (is_among 0 tried) path ≡ Serve
serves p now tried path c row lets kind_is found =
    ap (λ b. if b then step_for p now (is_among 0 tried) path (kind path) else Blocked) lets
    ∙ ap (step_for p now (is_among 0 tried) path) kind_is
    ∙ ap (λ (x : Option Row). if is_some x then Serve else step_out p now (is_among 0 tried) path) found

module _ (settings : Settings) (s : State) (order : Sound settings s) (id path : List ℕ) (through : LetsThrough settings id path) (c : Coordinates) (kind_is : kind path ≡ Ok (File c))
    (row : Row) (found : row_at path (files_of id s) ≡ Some row) where
  -- the proxy, and what it keeps
  abbrev Has : Type 0
  Has = (p : Proxy) × (proxy_of id s ≡ Some p) × (p.rule ≡ through.rule) × (row_at path p.files ≡ Some row)

  the-proxy : Has
  the-proxy =
      elim (proxy_of id s) as (λ here. proxy_of id s ≡ here → row_at path (option_map_or (λ (p : Proxy). p.files) here []) ≡ Some row → Has) [
        | None ↦ λ _ none. absurd (none-some row none)
        | (Some p) ↦ λ there is.
            let rules : Some p.rule ≡ Some through.rule =
            ap (option_map (λ (x : Proxy). x.rule)) (sym there) ∙ rule-found id s.proxies ∙ ap (find (λ (rule : ProxyRule). bytes_eq rule.id id)) order.proxies ∙ through.named in
            (p, there, cc, is)
      ] refl found

  module _ (now : ℕ) (tried at : List ℕ) (k : Result Kind PathFault) (subject : subject_of at k ≡ path) (of_file : is_of_file k ≡ true) where
    member-sees : member_seen s now tried at k 0 id ≡ file_shown k row
    member-sees =
        let (p, there, rule_is, is) = the-proxy in
        let lets : IsTrue (is_let_through p.rule.allow p.rule.block path) =
        subst (λ (r : ProxyRule). IsTrue (is_let_through r.allow r.block path)) (sym rule_is) through.lets in
        ap (λ (h : Option Hosted). option_map_or (λ (h : Hosted). seen_at h.rows at k) h (option_map_or (λ (q : Proxy). proxy_seen 0 q now tried at k) (proxy_of id s) is_nothing))
        (not-hosted settings s id order through.not_hosted)
        ∙ ap (λ (q : Option Proxy). option_map_or (λ (q : Proxy). proxy_seen 0 q now tried at k) q is_nothing) there
        ∙ ap (λ (x : List ℕ). stepped 0 p x k (decided p now (is_among 0 tried) x)) subject
        ∙ ap (stepped 0 p path k) (serves p now tried path c row lets kind_is is)
        ∙ ap (λ b. if b then or_nothing (file_shown k) (row_at path p.files) else or_nothing (λ (kept : Kept). document_shown k kept.document) (kept_at path p.documents)) of_file
        ∙ ap (or_nothing (file_shown k)) is

    module _ (asked : List ℕ) (k_is : kind at ≡ k) (no_directory : directory_of k ≡ None) (serving : serves_or_fetches (file_shown k row) ≡ true) where
      abbrev by_group_seen : GroupRule → Seen
      by_group_seen g = group_seen s now tried at k g.members (directory_of k)

      -- what is seen where no hosted repository has the id
      not-hosted-seen : is_there asked settings ≡ false
          → look_at settings s now asked tried at ≡ option_map_or by_group_seen (group_rule_of asked settings) (member_seen s now tried at k 0 asked)
      not-hosted-seen not =
          ap (λ (y : Result Kind PathFault). option_map_or (λ (h : Hosted). seen_at h.rows at y) (hosted_of asked s)
          (option_map_or (λ (g : GroupRule). group_seen s now tried at y g.members (directory_of y)) (group_rule_of asked settings) (member_seen s now tried at y 0 asked))) k_is
          ∙ ap (λ (x : Option Hosted). option_map_or (λ (h : Hosted). seen_at h.rows at k) x (option_map_or by_group_seen (group_rule_of asked settings) (member_seen s now tried at k 0 asked)))
          (not-hosted settings s asked order not)

      -- who asks so sees the file, or the text of its side file
      sees : AsksFirst settings asked id → look_at settings s now asked tried at ≡ file_shown k row
      sees (itself same no_group) =
          not-hosted-seen (ap (λ (x : List ℕ). is_there x settings) same ∙ through.not_hosted)
          ∙ ap (λ (x : Option GroupRule). option_map_or by_group_seen x (member_seen s now tried at k 0 asked)) no_group
          ∙ ap (member_seen s now tried at k 0) same ∙ member-sees
      sees (by_group g others not named first) =
          let later : Option Seen = find serves_or_fetches (each_seen s now tried at k 1 others) in
          not-hosted-seen not
          ∙ ap (λ (x : Option GroupRule). option_map_or by_group_seen x (member_seen s now tried at k 0 asked)) named
          ∙ ap (group_seen s now tried at k g.members) no_directory
          ∙ ap (λ (ids : List (List ℕ)). group_seen s now tried at k ids None) first
          ∙ ap (λ (x : Seen). first_or (cond (serves_or_fetches x) (Some x) later) is_nothing) member-sees
          ∙ ap (λ b. first_or (cond b (Some (file_shown k row)) later) is_nothing) serving

  module _ (e : Entry) (fits : Fits settings s e) (asked : List ℕ) (asks : AsksFirst settings asked id) where
    file-given : (tried : List ℕ) → e.command ≡ look asked path tried → GivesFile s row.blob e.reply
    file-given tried looks =
        let next = s.yard.next_lease in
        let given : Turn = record { reply = file next row.blob; effects = lends row.blob.number ∷ [] } in
        let turn_is : turn settings s e.moment (look asked path tried) ≡ draws_or_spent next given =
        ap (shows settings s.yard) (sees e.moment tried path (Ok (File c)) refl refl asked kind_is refl refl asks) in
        look-gives settings s e asked path tried (GivesFile s row.blob) (draws_or_spent next given) tt turn_is
        (elim (next == number_end) as (λ b. recorded (if b then says spent else given).effects ≡ []) [ true ↦ refl | false ↦ refl ])
        (elim (next == number_end) as (λ b. (next == number_end) ≡ b → GivesFile s row.blob (if b then says spent else given).reply) [ true ↦ λ last. eqb-true next number_end last | false ↦ λ _. refl ] refl)
        fits.reply looks

    side-given : (at tried : List ℕ) (d : Coordinates) (side : Side) → e.command ≡ look asked at tried → kind at ≡ Ok (FileSide d side) → text_of d ≡ path
        → GivesText (side_text side row.blob.print.digests) e.reply
    side-given at tried d side looks side_is text_is =
        let told : List ℕ = side_text side row.blob.print.digests in
        let turn_is : turn settings s e.moment (look asked at tried) ≡ says (text told) =
        ap (shows settings s.yard) (sees e.moment tried at (Ok (FileSide d side)) text_is refl asked side_is refl refl asks) in
        look-gives settings s e asked at tried (GivesText told) (says (text told)) tt turn_is refl refl fits.reply looks

    pub kept-answered : Answers asked path row.blob s e
    kept-answered = (file-given, side-given)

pub file-answered : (settings : Settings) (old : State) (e : Entry) (asked id path : List ℕ) (row : Row) (c : Coordinates) → IsSound settings old → Fits settings old e
    → LetsThrough settings id path → AsksFirst settings asked id → kind path ≡ Ok (File c) → row_at path (files_of id old) ≡ Some row → Answers asked path row.blob old e
file-answered settings old e asked id path row c sound fits through asks kind_is found =
    kept-answered settings old sound.order id path through c kind_is row found e fits asked asks
