use Rattle.std.proofs.Common.{◌≡◌, List, [], map, refl, sym, ap, ◌∙◌, subst}
use Rattle.std.specs.List.{AllByRecursion}
use Rattle.repo_model.specs.Data.{Proxy}
use Rattle.repo_model.specs.Restart.{blobs_named}
use Rattle.repo_model.specs.Tables.{RecordedRow}
use Rattle.blob_audit.specs.Files.{shown_file}
use Rattle.repo_laws.specs.Sound.{AreProxiesApart}
use Rattle.repo_restart.specs.Rows.{AreCachedRestorable, AreFilesRestored, AreRestorable, AreRowsRestored, cached_rows, hosted_rows}
use Rattle.repo_restart.proofs.MergeLemmas.{cached-all, hosted-all}
use Rattle.repo_restart.proofs.ShelfLemmas.{clears-none, on-err}
use Rattle.repo_restart.proofs.TellLemmas.{none-kept, restored-all, rules-kept}
use Rattle.repo_restart.proofs.restarts.restore.Goals as goal

pub returns-in_err-files-clause-shelf : goal.returns-in_err-files-clause-shelf
returns-in_err-files-clause-shelf g c =
    on-err c.from_residual.result (clears-none (blobs_named c.args.tables.now) (g.B.Blobs.shelf c.args.blobs.now) (g.B.Blobs.shelf c.args.blobs.now) refl)

pub restored-requires-clause-rows : goal.restored-requires-clause-rows
restored-requires-clause-rows g c =
    let rows : hosted_rows (map shown_file c.deref.result.now) ≡ c.args.tables.now.hosted
    = ap (λ files. hosted_rows (map shown_file files)) c.deref.ensures.value ∙ ap hosted_rows c.in_ok-files.ensures.files ∙ hosted-all c.args.tables.now in
    subst AreRestorable (sym rows) c.requires.tables.hosted

pub restored-requires-clause-cached : goal.restored-requires-clause-cached
restored-requires-clause-cached g c =
    let rows : cached_rows (map shown_file c.deref.result.now) ≡ c.args.tables.now.cached
    = ap (λ files. cached_rows (map shown_file files)) c.deref.ensures.value ∙ ap cached_rows c.in_ok-files.ensures.files ∙ cached-all c.args.tables.now in
    subst AreCachedRestorable (sym rows) c.requires.tables.cached

pub returns-in_err-goods-clause-shelf : goal.returns-in_err-goods-clause-shelf
returns-in_err-goods-clause-shelf g c =
    on-err c.from_residual-in_err-goods.result
    (clears-none (blobs_named c.args.tables.now) (g.B.Blobs.shelf c.args.blobs.now) (g.B.Blobs.shelf c.restored.new.blobs) c.restored.ensures.kept)

pub take_documents-requires-clause-apart : goal.take_documents-requires-clause-apart
take_documents-requires-clause-apart g c =
    let made = c.in_ok-goods.ensures.proxies in
    let rules = ap (map (λ (p : Proxy). p.rule)) made.made ∙ rules-kept made.tells (cached_rows (map shown_file c.deref.result.now)) c.args.proxy_rules.now in
    subst AreProxiesApart (sym rules) c.requires.proxies

pub take_documents-requires-clause-none : goal.take_documents-requires-clause-none
take_documents-requires-clause-none g c =
    let made = c.in_ok-goods.ensures.proxies in
    subst (AllByRecursion (λ (p : Proxy). p.documents ≡ [])) (sym made.made) (none-kept made.tells (cached_rows (map shown_file c.deref.result.now)) c.args.proxy_rules.now)

pub returns-in_err-take_documents-clause-shelf : goal.returns-in_err-take_documents-clause-shelf
returns-in_err-take_documents-clause-shelf g c =
    on-err c.from_residual-in_err-take_documents.result
    (clears-none (blobs_named c.args.tables.now) (g.B.Blobs.shelf c.args.blobs.now) (g.B.Blobs.shelf c.restored.new.blobs) c.restored.ensures.kept)

pub returns-in_err-named-clause-shelf : goal.returns-in_err-named-clause-shelf
returns-in_err-named-clause-shelf g c =
    on-err c.from_residual-in_err-named.result
    (clears-none (blobs_named c.args.tables.now) (g.B.Blobs.shelf c.args.blobs.now) (g.B.Blobs.shelf c.restored.new.blobs) c.restored.ensures.kept)

pub returns-clause-repos : goal.returns-clause-repos
returns-clause-repos g c =
    let shelf = g.B.Blobs.shelf c.args.blobs.now in
    let t = c.args.tables.now in
    let goods = c.in_ok-goods.goods in
    let files : map shown_file c.deref.result.now ≡ _ = ap (map shown_file) c.deref.ensures.value ∙ c.in_ok-files.ensures.files in
    let hosted : hosted_rows (map shown_file c.deref.result.now) ≡ t.hosted = ap hosted_rows files ∙ hosted-all t in
    let cached : cached_rows (map shown_file c.deref.result.now) ≡ t.cached = ap cached_rows files ∙ cached-all t in
    restored-all shelf t c.args.rules.now c.args.proxy_rules.now goods.repos.items goods.proxies.items c.take_documents.new.proxies.items c.requires.tables.apart
    (subst (λ (them : List RecordedRow). AreRowsRestored shelf them c.args.rules.now goods.repos.items) hosted c.in_ok-goods.ensures.repos)
    (subst (λ (them : List RecordedRow). AreFilesRestored shelf them c.args.proxy_rules.now goods.proxies.items) cached c.in_ok-goods.ensures.proxies)
    c.in_ok-take_documents.ensures
