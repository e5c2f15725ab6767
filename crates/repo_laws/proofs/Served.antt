-- A reply with a document, or with the text of its digest, answers the document that the repository of an id serves of a directory.
use Rattle.std.proofs.Common.{◌≡◌, ℕ, Bool, true, false, cond, inl, List, [], ◌∷◌, Option, Some, None, Result, Ok, refl, sym, ◌∙◌, ap, subst, option_map}
use Rattle.std.specs.Prelude.{find, if◌then◌else◌, ◌==◌}
use Rattle.std.specs.Option.{option_map_or}
use Rattle.std.proofs.lemmas.Bool.{false≢true}
use Rattle.std.proofs.lemmas.Option.{none-some}
use Rattle.mvn_coords.specs.Kind.{kind}
use Rattle.mvn_coords.specs.declared.kind.Kind.{Kind}
use Rattle.mvn_coords.specs.declared.kind.Kind.TheVariants.{Doc, DocSide}
use Rattle.mvn_coords.specs.declared.fault.PathFault.{PathFault}
use Rattle.mvn_coords.specs.declared.fault.Side.{Side}
use Rattle.mvn_coords.specs.Layout.{Directory, text_of_document}
use Rattle.mvn_coords.proofs.ExactPaths.{exact_path}
use Rattle.mvn_digest.specs.declared.digests.Digests.{Digests}
use Rattle.mvn_digest.specs.Digests.{digests_of}
use Rattle.mvn_digest.specs.Sides.{side_text}
use Rattle.mvn_metadata.specs.Document.{Document}
use Rattle.mvn_metadata.specs.Written as written
use Rattle.repo_model.specs.declared.step.Step.{Step}
use Rattle.repo_model.specs.declared.step.Step.TheVariants.{Serve}
use Rattle.repo_model.specs.Data.{Row, Hosted, Kept, Proxy}
use Rattle.repo_model.specs.Settings.{GroupRule, Settings}
use Rattle.repo_model.specs.State.{State, row_at, hosted_of, proxy_of, is_among, number_end}
use Rattle.repo_model.specs.Document.{document}
use Rattle.repo_model.specs.Command.{look, group_rule_of}
use Rattle.repo_model.specs.Proxies.{kept_at, subject_of, decided}
use Rattle.repo_model.specs.Effect.{draws, lends}
use Rattle.repo_model.specs.Reply.{Reply, file, text, doc, missed, spent, fetches, blocked, negative, never_asked, is_free}
use Rattle.repo_model.specs.Turn.{turn, says, Seen, is_nothing, is_file, is_text, is_doc, is_to_fetch, is_blocked, is_negative, is_never, or_nothing, seen_at, shows, plan_of, longest_document, document_shown, file_shown, is_of_file, stepped, proxy_seen, member_seen, fetches_one, each_seen, directory_of, merged_of, first_or, group_seen, look_at, kept_served, proxy_document, document_at, file_limit}
use Rattle.repo_model.specs.History.{Entry, Fits}
use Rattle.repo_laws.specs.Closed.{IsDocumentOf, AnswersDocument, tells_document}
use Rattle.repo_laws.proofs.Answered.{reply-determined}

-- what is seen is a document, or the text of its digest
abbrev told : Seen → Bool
told (is_text bytes) = true
told (is_doc bytes) = true
told seen = false

module _ (settings : Settings) (s : State) (now : ℕ) (id path tried : List ℕ) (k : Result Kind PathFault) (d : Directory)
    (directory : directory_of k ≡ Some d) (plain : is_of_file k ≡ false) (hosted : (rows : List Row) → seen_at rows path k ≡ or_nothing (document_shown k) (document d rows)) where
  abbrev at : List ℕ
  at = subject_of path k

  abbrev Serves : Option Document → Seen → Type 0
  Serves found seen = (served : Document) × (found ≡ Some served) × (seen ≡ document_shown k served)

  shown-found : (found : Option Document) (seen : Seen) → told seen ≡ true → or_nothing (document_shown k) found ≡ seen → Serves found seen
  shown-found None seen tells is = absurd (false≢true (ap told is ∙ tells))
  shown-found (Some served) seen tells is = (served, refl, sym is)

  by-step : (p : Proxy) (member : ℕ) (step : Step) (seen : Seen) → told seen ≡ true → stepped member p at k step ≡ seen → Serves (kept_served step (kept_at at p.documents)) seen
  by-step p member Serve seen tells is =
      by (kept_at at p.documents) (sym (ap (λ b. if b then or_nothing (file_shown k) (row_at at p.files) else or_nothing (λ (kept : Kept). document_shown k kept.document) (kept_at at p.documents)) plain) ∙ is) where
        by : (found : Option Kept) → or_nothing (λ (kept : Kept). document_shown k kept.document) found ≡ seen → Serves (kept_served Serve found) seen
        by None shown = absurd (false≢true (ap told shown ∙ tells))
        by (Some kept) shown = (kept.document, refl, sym shown)
  by-step p member step seen tells is = absurd (false≢true (ap told is ∙ tells))

  none-told : (seen : List Seen) (one : Seen) → find fetches_one seen ≡ Some one → told one ≡ false
  none-told [] one is = absurd (none-some one is)
  none-told (x ∷ xs) one is =
      elim (fetches_one x) as (λ b. fetches_one x ≡ b → cond b (Some x) (find fetches_one xs) ≡ Some one → told one ≡ false) [
        | true ↦ λ fetching here. let same : x ≡ one = cc in subst (λ (y : Seen). told y ≡ false) same (fetch-told x fetching)
        | false ↦ λ _ later. none-told xs one later
      ] refl is where
        fetch-told : (y : Seen) → fetches_one y ≡ true → told y ≡ false
        fetch-told (is_to_fetch member rule where_it of_file) fetching = refl
        fetch-told y fetching = absurd (false≢true fetching)

  by-group : (ids : List (List ℕ)) (seen : Seen) → told seen ≡ true → group_seen s now tried path k ids (Some d) ≡ seen → Serves (merged_of s now tried at d ids) seen
  by-group ids seen tells is = by (find fetches_one (each_seen s now tried path k 0 ids)) refl is where
    by : (found : Option Seen) → find fetches_one (each_seen s now tried path k 0 ids) ≡ found
        → first_or found (or_nothing (document_shown k) (merged_of s now tried at d ids)) ≡ seen → Serves (merged_of s now tried at d ids) seen
    by None _ shown = shown-found (merged_of s now tried at d ids) seen tells shown
    by (Some one) found shown = absurd (false≢true (sym (none-told (each_seen s now tried path k 0 ids) one found) ∙ ap told shown ∙ tells))

  pub served-so : (seen : Seen) → told seen ≡ true
      → option_map_or (λ (h : Hosted). seen_at h.rows path k) (hosted_of id s)
      (option_map_or (λ (g : GroupRule). group_seen s now tried path k g.members (directory_of k)) (group_rule_of id settings) (member_seen s now tried path k 0 id)) ≡ seen
      → Serves (document_at settings s now id tried at d) seen
  served-so seen tells is = by-hosted (hosted_of id s) refl is where
    Document_of : Option Hosted → Option GroupRule → Option Proxy → Option Document
    Document_of h g p =
        option_map_or (λ (h : Hosted). document d h.rows) h
        (option_map_or (λ (g : GroupRule). merged_of s now tried at d g.members) g
        (option_map_or (λ (h : Hosted). document d h.rows) h (option_map_or (λ (p : Proxy). proxy_document p now (is_among 0 tried) at) p None)))

    by-proxy : (found : Option Proxy) → option_map_or (λ (p : Proxy). proxy_seen 0 p now tried path k) found is_nothing ≡ seen → Serves (option_map_or (λ (p : Proxy). proxy_document p now (is_among 0 tried) at) found None) seen
    by-proxy None shown = absurd (false≢true (ap told shown ∙ tells))
    by-proxy (Some p) shown = by-step p 0 (decided p now (is_among 0 tried) at) seen tells shown

    by-rule : (found : Option GroupRule)
        → option_map_or (λ (g : GroupRule). group_seen s now tried path k g.members (directory_of k)) found (option_map_or (λ (p : Proxy). proxy_seen 0 p now tried path k) (proxy_of id s) is_nothing) ≡ seen
        → Serves (option_map_or (λ (g : GroupRule). merged_of s now tried at d g.members) found (option_map_or (λ (p : Proxy). proxy_document p now (is_among 0 tried) at) (proxy_of id s) None)) seen
    by-rule None shown = by-proxy (proxy_of id s) shown
    by-rule (Some g) shown = by-group g.members seen tells (sym (ap (group_seen s now tried path k g.members) directory) ∙ shown)

    Looked : Option Hosted → Seen
    Looked h =
        option_map_or (λ (h : Hosted). seen_at h.rows path k) h
        (option_map_or (λ (g : GroupRule). group_seen s now tried path k g.members (directory_of k)) (group_rule_of id settings)
        (option_map_or (λ (h : Hosted). seen_at h.rows path k) h (option_map_or (λ (p : Proxy). proxy_seen 0 p now tried path k) (proxy_of id s) is_nothing)))

    by-hosted : (found : Option Hosted) → hosted_of id s ≡ found → Looked found ≡ seen → Serves (Document_of found (group_rule_of id settings) (proxy_of id s)) seen
    by-hosted (Some h) _ shown = shown-found (document d h.rows) seen tells (sym (hosted h.rows) ∙ shown)
    by-hosted None _ shown = by-rule (group_rule_of id settings) shown

-- a document is seen where the reply is one, and a text where it is one
module _ (settings : Settings) (s : State) where
  abbrev said : Seen → Reply
  said seen = (shows settings s.yard seen).reply

  seen-doc : (seen : Seen) (bytes : List ℕ) (digests : Digests) → said seen ≡ doc bytes digests → (seen ≡ is_doc bytes) × (digests ≡ digests_of bytes)
  seen-doc (is_doc all) bytes digests is =
      let e : doc all (digests_of all) ≡ doc bytes digests = is in
      let same : all ≡ bytes = cc in
      let digests_are : digests ≡ digests_of all = cc in
      (ap is_doc same, digests_are ∙ ap digests_of same)
  seen-doc (is_file blob) bytes digests is =
      absurd (elim (s.yard.next_lease == number_end) as (λ b. (if b then says spent else record { reply = file s.yard.next_lease blob; effects = lends blob.number ∷ [] }).reply ≡ doc bytes digests → ⊥) [
        | true ↦ λ e. let x : spent ≡ doc bytes digests = e in cc
        | false ↦ λ e. let x : file s.yard.next_lease blob ≡ doc bytes digests = e in cc
      ] is)
  seen-doc (is_to_fetch member rule where_it true) bytes digests is =
      absurd (elim (s.yard.next_draft == number_end)
      as (λ b. (if b then says spent else record { reply = fetches (plan_of member rule where_it (Some s.yard.next_draft) (file_limit settings)); effects = draws ∷ [] }).reply ≡ doc bytes digests → ⊥) [
        | true ↦ λ e. let x : spent ≡ doc bytes digests = e in cc
        | false ↦ λ e. let x : fetches (plan_of member rule where_it (Some s.yard.next_draft) (file_limit settings)) ≡ doc bytes digests = e in cc
      ] is)
  seen-doc (is_to_fetch member rule where_it false) bytes digests is = absurd (let x : fetches (plan_of member rule where_it None longest_document) ≡ doc bytes digests = is in cc)
  seen-doc (is_text all) bytes digests is = absurd (let x : text all ≡ doc bytes digests = is in cc)
  seen-doc is_nothing bytes digests is = absurd (let x : missed ≡ doc bytes digests = is in cc)
  seen-doc is_blocked bytes digests is = absurd (let x : blocked ≡ doc bytes digests = is in cc)
  seen-doc is_negative bytes digests is = absurd (let x : negative ≡ doc bytes digests = is in cc)
  seen-doc is_never bytes digests is = absurd (let x : never_asked ≡ doc bytes digests = is in cc)

  seen-text : (seen : Seen) (bytes : List ℕ) → said seen ≡ text bytes → seen ≡ is_text bytes
  seen-text (is_text all) bytes is = let e : text all ≡ text bytes = is in let same : all ≡ bytes = cc in ap is_text same
  seen-text (is_file blob) bytes is =
      absurd (elim (s.yard.next_lease == number_end) as (λ b. (if b then says spent else record { reply = file s.yard.next_lease blob; effects = lends blob.number ∷ [] }).reply ≡ text bytes → ⊥) [
        | true ↦ λ e. let x : spent ≡ text bytes = e in cc
        | false ↦ λ e. let x : file s.yard.next_lease blob ≡ text bytes = e in cc
      ] is)
  seen-text (is_to_fetch member rule where_it true) bytes is =
      absurd (elim (s.yard.next_draft == number_end)
      as (λ b. (if b then says spent else record { reply = fetches (plan_of member rule where_it (Some s.yard.next_draft) (file_limit settings)); effects = draws ∷ [] }).reply ≡ text bytes → ⊥) [
        | true ↦ λ e. let x : spent ≡ text bytes = e in cc
        | false ↦ λ e. let x : fetches (plan_of member rule where_it (Some s.yard.next_draft) (file_limit settings)) ≡ text bytes = e in cc
      ] is)
  seen-text (is_to_fetch member rule where_it false) bytes is = absurd (let x : fetches (plan_of member rule where_it None longest_document) ≡ text bytes = is in cc)
  seen-text (is_doc all) bytes is = absurd (let x : doc all (digests_of all) ≡ text bytes = is in cc)
  seen-text is_nothing bytes is = absurd (let x : missed ≡ text bytes = is in cc)
  seen-text is_blocked bytes is = absurd (let x : blocked ≡ text bytes = is in cc)
  seen-text is_negative bytes is = absurd (let x : negative ≡ text bytes = is in cc)
  seen-text is_never bytes is = absurd (let x : never_asked ≡ text bytes = is in cc)

module _ (settings : Settings) (s : State) (e : Entry) (repo path tried : List ℕ) (d : Directory) (fits : Fits settings s e) (looks : e.command ≡ look repo path tried) where
  abbrev now : ℕ
  now = e.moment

  turn-said : (r : Reply) → e.reply ≡ r → is_free r ≡ false → (shows settings s.yard (look_at settings s now repo tried path)).reply ≡ r
  turn-said r is bound =
      sym (ap (λ c. (turn settings s now c).reply) looks) ∙ sym (reply-determined settings s e fits (ap is_free is ∙ bound)) ∙ is

  doc-hosted : (rows : List Row) → seen_at rows path (Ok (Doc d)) ≡ or_nothing (document_shown (Ok (Doc d))) (document d rows)
  doc-hosted rows = elim (document d rows) as (λ found. or_nothing is_doc (option_map written.text found) ≡ or_nothing (document_shown (Ok (Doc d))) found) [ None ↦ refl | (Some x) ↦ refl ]

  side-hosted : (side : Side) (rows : List Row) → seen_at rows path (Ok (DocSide d side)) ≡ or_nothing (document_shown (Ok (DocSide d side))) (document d rows)
  side-hosted side rows =
      elim (document d rows)
      as (λ found. or_nothing (λ bytes. is_text (side_text side (digests_of bytes))) (option_map written.text found) ≡ or_nothing (document_shown (Ok (DocSide d side))) found) [ None ↦ refl | (Some x) ↦ refl ]

  pub document-answered : (bytes : List ℕ) (digests : Digests) → kind path ≡ Ok (Doc d) → e.reply ≡ doc bytes digests
      → (served : Document) × AnswersDocument settings s e repo d served × (bytes ≡ written.text served) × (digests ≡ digests_of bytes)
  document-answered bytes digests kind_is says_it =
      let (seen, digests_are) = seen-doc settings s (look_at settings s now repo tried path) bytes digests (turn-said (doc bytes digests) says_it refl) in
      let looked = subst (λ k. option_map_or (λ (h : Hosted). seen_at h.rows path k) (hosted_of repo s)
      (option_map_or (λ (g : GroupRule). group_seen s now tried path k g.members (directory_of k)) (group_rule_of repo settings) (member_seen s now tried path k 0 repo)) ≡ is_doc bytes) kind_is seen in
      let (served, found, shown) = served-so settings s now repo path tried (Ok (Doc d)) d refl refl doc-hosted (is_doc bytes) refl looked in
      let all : is_doc bytes ≡ is_doc (written.text served) = shown in
      let bytes_are : bytes ≡ written.text served = cc in
      let place : path ≡ text_of_document d = sym (exact_path path (Doc d) kind_is) in (
        served,
        (
          repo,
          path,
          tried,
          looks,
          inl refl,
          subst (IsDocumentOf d) (sym kind_is) refl,
          subst (λ at. document_at settings s now repo tried at d ≡ Some served) place found,
          ap tells_document says_it,
        ),
        bytes_are,
        digests_are,
      )

  pub side-answered : (side : Side) (bytes : List ℕ) → kind path ≡ Ok (DocSide d side) → e.reply ≡ text bytes
      → (served : Document) × AnswersDocument settings s e repo d served × (bytes ≡ side_text side (digests_of (written.text served)))
  side-answered side bytes kind_is says_it =
      let seen = seen-text settings s (look_at settings s now repo tried path) bytes (turn-said (text bytes) says_it refl) in
      let looked = subst (λ k. option_map_or (λ (h : Hosted). seen_at h.rows path k) (hosted_of repo s)
      (option_map_or (λ (g : GroupRule). group_seen s now tried path k g.members (directory_of k)) (group_rule_of repo settings) (member_seen s now tried path k 0 repo)) ≡ is_text bytes) kind_is seen in
      let (served, found, shown) = served-so settings s now repo path tried (Ok (DocSide d side)) d refl refl (side-hosted side) (is_text bytes) refl looked in
      let all : is_text bytes ≡ is_text (side_text side (digests_of (written.text served))) = shown in
      let bytes_are : bytes ≡ side_text side (digests_of (written.text served)) = cc in
      (served, (repo, path, tried, looks, inl refl, subst (IsDocumentOf d) (sym kind_is) refl, found, ap tells_document says_it), bytes_are)
