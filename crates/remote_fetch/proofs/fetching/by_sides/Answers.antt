use Rattle.mvn_coords.specs.Path.{suffix_of}
use Rattle.mvn_coords.specs.declared.fault.Side.TheVariants as side
use Rattle.remote_fetch.specs.declared.replies.Reply.TheVariants.{Gone}
use Rattle.remote_fetch.specs.Exchanged.{IsAsked}
use Rattle.remote_fetch.specs.Fetching.{longest_side}
use Rattle.remote_fetch.proofs.Reaching.{err-then, reaches-after}
use Rattle.remote_fetch.proofs.fetching.by_sides.Goals as goal

pub returns-in-Gone-clause-no_memory : goal.returns-in-Gone-clause-no_memory
returns-in-Gone-clause-no_memory g c =
    let old = g.R.Remote.sees c.args.remote.now in
    let mid = g.R.Remote.sees c.ask.new.remote in
    let asked : IsAsked c.args.plan.now (suffix_of side.Sha1) longest_side Gone old mid = rw c.in-Gone.is at c.in_ok-reply.ensures.reply in
    err-then c.by_md5.result
    (λ more. reaches-after c.args.plan.now (suffix_of side.Sha1) longest_side Gone 1 old mid (g.R.Remote.sees c.by_md5.new.remote) asked tt more)
    c.by_md5.ensures.no_memory
