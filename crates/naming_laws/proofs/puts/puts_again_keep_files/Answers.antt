use Rattle.std.proofs.Common.{refl}
use Rattle.repo_model.specs.History.{after}
use Rattle.naming_laws.proofs.Kept.{entry-files, same-count, put-keeps}
use Rattle.naming_laws.proofs.puts.puts_again_keep_files.Goals as goal

pub returns-clause-files : goal.returns-clause-files
returns-clause-files c = entry-files

pub returns-clause-count : goal.returns-clause-count
returns-clause-count c = λ settings old e id fits still. same-count id old (after settings old e) (entry-files settings old e id fits still)

pub returns-clause-replies : goal.returns-clause-replies
returns-clause-replies c = (refl, refl, λ kept sent. refl)

pub returns-clause-stands : goal.returns-clause-stands
returns-clause-stands c = λ settings old e id repo path n blob row fits asks is.
    let files = entry-files settings old e id fits (put-keeps settings old e repo path n blob row fits asks is) in
    (files, same-count id old (after settings old e) files)
