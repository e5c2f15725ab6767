-- The documents so far have come back.
use Rattle.std.proofs.Common.{◌≡◌, map}
use Rattle.std.specs.Map.Iter.{deref_pair}
use Rattle.row_tables.specs.Stored.{shown_documents}
use Rattle.repo_restart.specs.Taking.{with_documents}
use Rattle.repo_restart.proofs.proxies.take_documents.Given as goal

abbrev pub invariant-loop-place : goal.invariant-loop-place
invariant-loop-place g l = l.proxies.items ≡ with_documents (shown_documents (map deref_pair l.yielded)) l.fn.proxies.items
