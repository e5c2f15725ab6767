use Rattle.std.proofs.Common.{option_map, ap, ◌∙◌}
use Rattle.repo_model.specs.Shown.{shown_parcel}
use Rattle.deploy_session.proofs.FileLemmas.{found, option_map-copied}
use Rattle.deploy_session.proofs.files.find.Goals as goal

pub returns : goal.returns
returns g c = option_map-copied shown_parcel c.get.result ∙ ap (option_map shown_parcel) c.get.ensures.value ∙ found c.args.path.now c.args.files.now.entries
