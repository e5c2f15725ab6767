use Rattle.remote_fetch.proofs.Reaching.{checked-reaches, err-then}
use Rattle.remote_fetch.proofs.contents.fetch.Goals as goal

pub returns-clause-no_memory : goal.returns-clause-no_memory
returns-clause-no_memory g c =
    err-then c.with_content.result
    (λ got. checked-reaches c.args.plan.now c.in_ok-checked.checked (g.R.Remote.sees c.args.remote.now) (g.R.Remote.sees c.fetch_bytes.new.remote)
    c.in_ok-checked.ensures.outcome got)
    c.with_content.ensures.no_memory
