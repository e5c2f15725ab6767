use Rattle.std.proofs.Common.{ap, ◌∙◌}
use Rattle.repo_model.specs.State.{is_among}
use Rattle.blob_yard.specs.Numbers.{Numbers}
use Rattle.blob_yard.proofs.YardLemmas.{among-drafts}
use Rattle.blob_yard.proofs.yard.Yard.is_draft.Goals as goal

pub returns : goal.returns
returns c =
    c.is_draft.ensures.value ∙ among-drafts c.args.number c.self.inside.places c.is_draft.ensures.rising
    ∙ ap (λ (v : Numbers). is_among c.args.number v.yard.drafts) c.self.view_is
