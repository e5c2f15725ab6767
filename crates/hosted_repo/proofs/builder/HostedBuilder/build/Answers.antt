use Rattle.kept_docs.proofs.KeptLemmas.{drafted_of, placed_of}
use Rattle.hosted_repo.proofs.builder.HostedBuilder.build.Goals as goal

pub of_parts-requires-clause-kept : goal.of_parts-requires-clause-kept
of_parts-requires-clause-kept g c =
    let y = c.self.inside in
    let docs = c.prepared.new.docs in
    let pages = c.in_ok-pages.pages.items in
    placed_of docs c.place.new.self pages y.rows c.place.ensures (drafted_of y.docs docs y.drafts pages y.rows c.in_ok-pages.ensures.pages c.self.invariant.drafted)
