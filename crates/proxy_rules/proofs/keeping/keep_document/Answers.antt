use Rattle.std.proofs.Common.{◌≡◌, None, sym, ap, ◌∙◌, subst}
use Rattle.std.proofs.lemmas.Option.{none-some}
use Rattle.std.specs.BTreeMap.{insert_entry}
use Rattle.std.specs.Map.{lookup, remove_entry}
use Rattle.std.specs.String.{string_cmp}
use Rattle.repo_model.specs.Effect.{with_kept}
use Rattle.repo_model.specs.Proxies.{kept_at}
use Rattle.proxy_entries.specs.Stored.{shown_documents, shown_kept}
use Rattle.proxy_entries.proofs.DocumentLemmas.{found, kept, taken-back}
use Rattle.proxy_entries.proofs.KeyLemmas.{at_text}
use Rattle.proxy_rules.proofs.LandLemmas.{none-found, some-there}
use Rattle.proxy_rules.proofs.keeping.keep_document.Goals as goal

pub replace-requires : goal.replace-requires
replace-requires g c none =
    let path = c.args.path.now in
    let es = c.args.documents.now.entries in
    let there = some-there (shown_kept path) _ (kept_at path (shown_documents es)) (found path es) (sym c.contains_key.ensures ∙ c.if-contains_key.true) in
    let gone = subst (λ p. kept_at p (shown_documents es) ≡ None) c.in_ok-key.ensures.ok none in
    none-some there.0 (sym gone ∙ there.1)

pub returns-in-Err-clause-err : goal.returns-in-Err-clause-err
returns-in-Err-clause-err g c =
    let es = c.args.documents.now.entries in
    let key = c.in_ok-key.key in
    let none = none-found _ (sym c.contains_key.ensures ∙ c.if-contains_key.false) in
    ap shown_documents (c.remove.ensures.entries ∙ ap (λ them. remove_entry (at_text c.args.path.now) them) c.in-Ok.ensures.entries
    ∙ ap (λ p. remove_entry (at_text p) (insert_entry string_cmp es key c.args.kept)) (sym c.in_ok-key.ensures.ok)
    ∙ taken-back key c.args.kept es (subst (λ p. lookup (at_text p) es ≡ None) (sym c.in_ok-key.ensures.ok) none))

pub returns-clause-ok : goal.returns-clause-ok
returns-clause-ok g c =
    let es = c.args.documents.now.entries in
    ap shown_documents c.in-Ok.ensures.entries ∙ kept c.in_ok-key.key c.args.kept es
    ∙ ap (λ p. with_kept (shown_kept p c.args.kept) (shown_documents es)) c.in_ok-key.ensures.ok
