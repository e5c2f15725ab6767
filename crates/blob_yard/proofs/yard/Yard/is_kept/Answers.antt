use Rattle.std.proofs.Common.{ap, ◌∙◌}
use Rattle.repo_model.specs.State.{is_among}
use Rattle.blob_yard.specs.Numbers.{Numbers}
use Rattle.blob_yard.proofs.YardLemmas.{among-kept}
use Rattle.blob_yard.proofs.yard.Yard.is_kept.Goals as goal

pub returns : goal.returns
returns c =
    c.is_kept.ensures.value ∙ among-kept c.args.number c.self.inside.places c.is_kept.ensures.rising
    ∙ ap (λ (v : Numbers). is_among c.args.number v.kept) c.self.view_is
