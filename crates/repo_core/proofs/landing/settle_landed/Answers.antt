use Rattle.repo_core.proofs.landing.settle_landed.Goals as goal

pub settle_draft-requires : goal.settle_draft-requires
settle_draft-requires c = c.requires c.in-Some.draft c.in-Some.is
