use Rattle.repo_parts.proofs.CountLemmas.{rows-few}
use Rattle.repo_core.proofs.Turning.{counts-found}
use Rattle.repo_core.proofs.machine.Machine.counted.Goals as goal

pub counts-files-requires : goal.counts-files-requires
counts-files-requires g c =
    let few = rows-few c.args.self.now.settings c.args.self.now.state c.requires.order c.requires.places in
    rw c.deref.ensures.value (rw (← c.self.view_is) at few)

pub returns : goal.returns
returns g c =
    counts-found c.args.self.now c.counts-files.result.0 c.counts-files.result.1 c.in_ok-cached.cached c.in_ok-cached.documents c.count.result
    (rw (← c.self.view_is) c.count.ensures)
    (rw (← c.self.view_is) (rw c.deref.ensures.value at c.counts-files.ensures.all))
    (rw (← c.self.view_is) (rw c.deref.ensures.value at c.counts-files.ensures.fading))
    (rw (← c.self.view_is) (rw c.deref-2.ensures.value at c.in_ok-cached.ensures.files))
    (rw (← c.self.view_is) (rw c.deref-2.ensures.value at c.in_ok-cached.ensures.documents))
