-- Documents that come back in their order: each is the last of its proxy.
use Rattle.std.proofs.Common.{◌≡◌, ℕ, Bool, true, false, cond, List, [], ◌∷◌, ◌++◌, map, filter, find, Some, None, Less, Equal, refl, sym, ap, ◌∙◌, subst, append-nil, nat_cmp, bytes_eq}
use Rattle.std.specs.Cmp.Lexicographic.{slice_cmp, nat_list_cmp_total}
use Rattle.std.specs.List.{AllByRecursion}
use Rattle.std.specs.Ordering.{match_ordering, ordering_reverse, ordering_then}
use Rattle.std.proofs.lemmas.Cmp.{tied_itself}
use Rattle.std.proofs.lemmas.List.{map-append}
use Rattle.std.proofs.lemmas.List.Elements.{filter-append}
use Rattle.std.proofs.lemmas.Option.{none-some}
use Rattle.std.proofs.lemmas.Slice.Eq.{bytes_eq-Decides}
use Rattle.repo_model.specs.Data.{Kept, Proxy}
use Rattle.repo_model.specs.Effect.{with_kept}
use Rattle.repo_model.specs.Restart.{documents_of}
use Rattle.repo_model.specs.Settings.{ProxyRule}
use Rattle.repo_model.specs.Tables.{RecordedDocument}
use Rattle.repo_laws.specs.Holds.{document_cmp}
use Rattle.repo_laws.specs.Sound.{AreProxiesApart}
use Rattle.repo_restart.specs.Taking.{kept_of, with_documents, with_taken_document}
use Rattle.repo_restart.proofs.RestoreLemmas.{turned}

-- all documents come before a path
abbrev AreBefore : List ℕ → List Kept → Type 0
AreBefore path documents = AllByRecursion (λ (k : Kept). slice_cmp nat_cmp k.path path ≡ Less) documents

last : (new : Kept) (documents : List Kept) → AreBefore new.path documents → with_kept new documents ≡ documents ++ new ∷ []
last new [] h = refl
last new (k ∷ documents) h =
    ap (λ o. match_ordering o (new ∷ k ∷ documents) (new ∷ documents) (k ∷ with_kept new documents)) (nat_list_cmp_total.antisymm new.path k.path ∙ ap ordering_reverse h.0)
    ∙ ap (λ rest. k ∷ rest) (last new documents h.1)

-- at one proxy the paths rise
paths-rise : (e d : RecordedDocument) → e.repo ≡ d.repo → document_cmp e d ≡ Less → slice_cmp nat_cmp e.path d.path ≡ Less
paths-rise e d same less =
    let tied : slice_cmp nat_cmp e.repo d.repo ≡ Equal = ap (λ repo. slice_cmp nat_cmp repo d.repo) same ∙ tied_itself nat_list_cmp_total d.repo in
    sym (ap (λ o. ordering_then o (slice_cmp nat_cmp e.path d.path)) tied) ∙ less

module _ (d : RecordedDocument) where
  -- the documents of its proxy come before it
  before-it : (id : List ℕ) → id ≡ d.repo → (front : List RecordedDocument) → AllByRecursion (λ (e : RecordedDocument). document_cmp e d ≡ Less) front → AreBefore d.path (documents_of front id)
  before-it id same [] all = tt
  before-it id same (e ∷ front) all =
      let kept = filter (λ (x : RecordedDocument). bytes_eq x.repo id) front in
      let rest = before-it id same front all.1 in
      elim (bytes_eq e.repo id) as (λ b. bytes_eq e.repo id ≡ b → AreBefore d.path (map kept_of (cond b (e ∷ kept) kept))) [
        | true ↦ λ is. (paths-rise e d ((bytes_eq-Decides e.repo id).0 is ∙ same) all.0, rest)
        | false ↦ λ other. rest
      ] refl

  module _ (front : List RecordedDocument) where
    documents-more : (id : List ℕ) (b : Bool) → bytes_eq d.repo id ≡ b → documents_of (front ++ d ∷ []) id ≡ documents_of front id ++ cond b (kept_of d ∷ []) []
    documents-more id b is =
        ap (map kept_of) (filter-append (λ (x : RecordedDocument). bytes_eq x.repo id) front (d ∷ []) ∙ ap (λ c. filter (λ (x : RecordedDocument). bytes_eq x.repo id) front ++ cond c (d ∷ []) []) is)
        ∙ map-append kept_of (filter (λ (x : RecordedDocument). bytes_eq x.repo id) front) (cond b (d ∷ []) [])
        ∙ ap (λ rest. documents_of front id ++ rest) (by b)
      where
        by : (c : Bool) → map kept_of (cond c (d ∷ []) []) ≡ cond c (kept_of d ∷ []) []
        by true = refl
        by false = refl

    abbrev having : List RecordedDocument → Proxy → Proxy
    having documents p = record p { documents = documents_of documents p.rule.id }

    same-documents : (p : Proxy) → bytes_eq p.rule.id d.repo ≡ false → having front p ≡ having (front ++ d ∷ []) p
    same-documents p other =
        ap (λ (documents : List Kept). record p { documents = documents })
        (sym (documents-more p.rule.id false (turned p.rule.id d.repo false other) ∙ append-nil (documents_of front p.rule.id)))

    others-same : (proxies : List Proxy) → find (λ (other : ProxyRule). bytes_eq other.id d.repo) (map (λ (p : Proxy). p.rule) proxies) ≡ None
        → with_documents front proxies ≡ with_documents (front ++ d ∷ []) proxies
    others-same [] none = refl
    others-same (p ∷ proxies) none =
        elim (bytes_eq p.rule.id d.repo)
        as (λ b. bytes_eq p.rule.id d.repo ≡ b → cond b (Some p.rule) (find (λ (other : ProxyRule). bytes_eq other.id d.repo) (map (λ (q : Proxy). q.rule) proxies)) ≡ None
        → having front p ∷ with_documents front proxies ≡ having (front ++ d ∷ []) p ∷ with_documents (front ++ d ∷ []) proxies) [
          | true ↦ λ is some. absurd (none-some p.rule (sym some))
          | false ↦ λ other none_later. λ i. same-documents p other i ∷ others-same proxies none_later i
        ] refl none

    module _ (before : AllByRecursion (λ (e : RecordedDocument). document_cmp e d ≡ Less) front) where
      one-more : (p : Proxy) → bytes_eq p.rule.id d.repo ≡ true → record (having front p) { documents = with_kept (kept_of d) (documents_of front p.rule.id) } ≡ having (front ++ d ∷ []) p
      one-more p is =
          ap (λ (documents : List Kept). record p { documents = documents })
          (last (kept_of d) (documents_of front p.rule.id) (before-it p.rule.id ((bytes_eq-Decides p.rule.id d.repo).0 is) front before)
          ∙ sym (documents-more p.rule.id true (turned p.rule.id d.repo true is)))

      -- one more document comes back
      pub taken-more : (proxies : List Proxy) → AreProxiesApart (map (λ (p : Proxy). p.rule) proxies) → with_taken_document d (with_documents front proxies) ≡ with_documents (front ++ d ∷ []) proxies
      taken-more [] apart = refl
      taken-more (p ∷ proxies) apart =
          elim (bytes_eq p.rule.id d.repo)
          as (λ b. bytes_eq p.rule.id d.repo ≡ b
          → cond b (record (having front p) { documents = with_kept (kept_of d) (documents_of front p.rule.id) } ∷ with_documents front proxies) (having front p ∷ with_taken_document d (with_documents front proxies))
          ≡ having (front ++ d ∷ []) p ∷ with_documents (front ++ d ∷ []) proxies) [
            | true ↦ λ is.
                let none = subst (λ id. find (λ (other : ProxyRule). bytes_eq other.id id) (map (λ (q : Proxy). q.rule) proxies) ≡ None) ((bytes_eq-Decides p.rule.id d.repo).0 is) apart.0 in
                λ i. one-more p is i ∷ others-same proxies none i
            | false ↦ λ other. λ i. same-documents p other i ∷ taken-more proxies apart.1 i
          ] refl

-- no documents yet
pub none-yet : (proxies : List Proxy) → AllByRecursion (λ (p : Proxy). p.documents ≡ []) proxies → proxies ≡ with_documents [] proxies
none-yet [] none = refl
none-yet (p ∷ proxies) none = λ i. record p { documents = none.0 i } ∷ none-yet proxies none.1 i
