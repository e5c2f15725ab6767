use Rattle.std.proofs.Common.{◌≤◌, List, [], ◌∷◌, length, refl, sym, ◌∙◌, subst, arith}
use Rattle.std.proofs.lemmas.List.{take_all}
use Rattle.blob_audit.specs.Damages.{AreDamaged, none}
use Rattle.blob_audit.specs.Files.{shown_file}
use Rattle.blob_audit.specs.declared.damages.Damaged.{Damaged}
use Rattle.blob_audit.specs.declared.order.RecordedFile.{RecordedFile}
use Rattle.blob_audit.proofs.DamageLemmas.{first-damaged, next-whole}
use Rattle.outside.specs.Blobs.{Shelf}
use Rattle.repo_restart.specs.Rows.{AreRowsRestored}
use Rattle.repo_restart.specs.Taking.{TakesFile}
use Rattle.repo_restart.proofs.FileLemmas.{cached_of, caches-more, can-cache, can-take, damage-on, damage-then, rows_of, takes-more}
use Rattle.repo_restart.proofs.ProxyLemmas.{CachedSoFar, files-restored, none-cached}
use Rattle.repo_restart.proofs.RestoreLemmas.{none-restored}
use Rattle.repo_restart.proofs.restoring.restored.Goals as goal

pub loop-file-init : goal.loop-file-init
loop-file-init g c =
    let shelf = g.B.Blobs.shelf c.args.blobs.now in
    record {
      kept = refl;
      count = refl;
      sound = none;
      restored = subst (λ repos. AreRowsRestored shelf [] c.args.rules.now repos) (sym c.in_ok-repos.ensures) (none-restored shelf c.args.rules.now);
      cached = none-cached shelf c.args.proxy_rules.now c.in_ok-proxies.proxies.items c.in_ok-proxies.ensures;
    }

pub take_file-requires : goal.take_file-requires
take_file-requires g c =
    let shelf = g.B.Blobs.shelf c.args.blobs.now in (
      can-take c.args.files.now c.loop-file.file-index c.file-item.result c.loop-file-test.true c.file-item.is shelf c.requires.rows c.args.rules.now c.loop-file.repos.items c.loop-file.invariant.restored,
      can-cache c.args.files.now c.loop-file.file-index c.file-item.result c.loop-file-test.true c.file-item.is shelf c.requires.cached c.args.proxy_rules.now c.loop-file.proxies.items
          c.loop-file.invariant.cached,
    )

pub returns-in_err-take_file-clause-damaged : goal.returns-in_err-take_file-clause-damaged
returns-in_err-take_file-clause-damaged g c =
    let shelf = g.B.Blobs.shelf c.args.blobs.now in
    let now = g.B.Blobs.shelf c.loop-file.blobs in
    let file = c.file-item.result in
    let here : Damaged → Type 0 = λ d. AreDamaged now ((shown_file file).row ∷ []) (d ∷ []) in
    damage-then c.from_residual-in_err-take_file.result
    (λ d is.
    first-damaged (λ (f : RecordedFile). (shown_file f).row) c.args.files.now c.loop-file.file-index file c.loop-file-test.true c.file-item.is shelf d c.loop-file.invariant.sound
    (subst (λ (s : Shelf). AreDamaged s ((shown_file file).row ∷ []) (d ∷ [])) c.loop-file.invariant.kept is))
    (damage-on (Unit {0}) c.from_residual-in_err-take_file.result c.in_err-take_file.field-0.0 here c.from_residual-in_err-take_file.ensures.1 c.in_err-take_file.ensures.damaged)

pub loop-file-preserved : goal.loop-file-preserved
loop-file-preserved g c =
    let shelf = g.B.Blobs.shelf c.args.blobs.now in
    let now = g.B.Blobs.shelf c.loop-file.blobs in
    let files = c.args.files.now in
    let i = c.loop-file.file-index in
    let file = c.file-item.result in
    let took = c.in_ok-take_file.ensures.taken in
    let taken : TakesFile shelf (shown_file file) c.loop-file.repos.items c.take_file.new.repos.items c.loop-file.proxies.items c.take_file.new.proxies.items
    = subst (λ (s : Shelf). TakesFile s (shown_file file) c.loop-file.repos.items c.take_file.new.repos.items c.loop-file.proxies.items c.take_file.new.proxies.items) c.loop-file.invariant.kept took in
    record {
      kept = c.take_file.ensures.kept ∙ c.loop-file.invariant.kept;
      count = c.in_ok-take_file.ensures.cause ∙ c.loop-file.invariant.count;
      sound = next-whole (λ (f : RecordedFile). (shown_file f).row) files i file c.loop-file-test.true c.file-item.is c.loop-file.invariant.kept c.loop-file.invariant.sound took.found took.at took.sound refl;
      restored =
          takes-more files i file c.loop-file-test.true c.file-item.is shelf c.requires.rows c.args.rules.now c.loop-file.repos.items c.loop-file.invariant.restored c.requires.named
          c.take_file.new.repos.items c.loop-file.proxies.items c.take_file.new.proxies.items taken;
      cached =
          caches-more files i file c.loop-file-test.true c.file-item.is shelf c.requires.cached c.args.proxy_rules.now c.loop-file.proxies.items c.loop-file.invariant.cached c.requires.apart
          c.loop-file.repos.items c.take_file.new.repos.items c.take_file.new.proxies.items taken;
    }

pub returns-clause-repos : goal.returns-clause-repos
returns-clause-repos g c =
    let files = c.args.files.now in
    let far : length files ≤ c.loop-file.file-index = omega (arith, c.loop-file-test.false) in
    subst (AreRowsRestored (g.B.Blobs.shelf c.args.blobs.now) (rows_of files) c.args.rules.now) (sym c.in_ok-repos-2.ensures)
    (subst (λ (them : List RecordedFile). AreRowsRestored (g.B.Blobs.shelf c.args.blobs.now) (rows_of them) c.args.rules.now c.loop-file.repos.items)
    (take_all c.loop-file.file-index files far) c.loop-file.invariant.restored)

pub returns-clause-proxies : goal.returns-clause-proxies
returns-clause-proxies g c =
    let files = c.args.files.now in
    let shelf = g.B.Blobs.shelf c.args.blobs.now in
    let far : length files ≤ c.loop-file.file-index = omega (arith, c.loop-file-test.false) in
    files-restored shelf (cached_of files) c.args.proxy_rules.now c.loop-file.proxies.items
    (subst (λ (them : List RecordedFile). CachedSoFar shelf (cached_of them) c.args.proxy_rules.now c.loop-file.proxies.items) (take_all c.loop-file.file-index files far) c.loop-file.invariant.cached)
