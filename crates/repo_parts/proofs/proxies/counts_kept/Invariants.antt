use Rattle.std.proofs.Common.{◌≡◌, take, length}
use Rattle.std.specs.Prelude.{sum_by}
use Rattle.repo_model.specs.Data.{Proxy}
use Rattle.repo_parts.proofs.proxies.counts_kept.Given as goal

-- those of the proxies so far
abbrev pub invariant-loop-proxy : goal.invariant-loop-proxy
invariant-loop-proxy g l =
    (l.files ≡ sum_by (λ (p : Proxy). length p.files) (take l.proxy-index l.proxies)) × (l.documents ≡ sum_by (λ (p : Proxy). length p.documents) (take l.proxy-index l.proxies))
