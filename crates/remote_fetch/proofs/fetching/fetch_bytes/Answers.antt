use Rattle.std.proofs.Common.{[], ◌∙◌, sym}
use Rattle.remote_fetch.proofs.Reaching.{body-there, err-then, reaches-after}
use Rattle.remote_fetch.proofs.fetching.fetch_bytes.Goals as goal

pub returns-in-Ok-clause-no_memory : goal.returns-in-Ok-clause-no_memory
returns-in-Ok-clause-no_memory g c =
    let reply = c.in_ok-ask.field-0 in
    let there = body-there reply c.in-Ok.bytes (sym c.body_in.ensures ∙ c.in-Ok.is) in
    err-then c.by_sides.result
    (λ more. reaches-after c.args.plan.now [] c.args.plan.now.limit reply 2 (g.R.Remote.sees c.args.remote.now) (g.R.Remote.sees c.ask.new.remote)
    (g.R.Remote.sees c.by_sides.new.remote) c.in_ok-ask.ensures.reply there more)
    c.by_sides.ensures.no_memory
