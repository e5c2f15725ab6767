use Rattle.std.proofs.Common.{rules}
use Rattle.mvn_coords.specs.Path.{parts_of}
use Rattle.repo_model.specs.History.{due}
use Rattle.repo_laws.proofs.worked.worked_histories.Goals as goal

pub returns-clause-two_builds : goal.returns-clause-two_builds
unfolding parts_of
returns-clause-two_builds c = search (rules, due)

pub returns-clause-purged : goal.returns-clause-purged
unfolding parts_of
returns-clause-purged c = search (rules, due)

pub returns-clause-read_to_its_end : goal.returns-clause-read_to_its_end
unfolding parts_of
returns-clause-read_to_its_end c = search (rules, due)

pub returns-clause-listed_again : goal.returns-clause-listed_again
unfolding parts_of
returns-clause-listed_again c = search (rules, due)

pub returns-clause-deployed : goal.returns-clause-deployed
unfolding parts_of
returns-clause-deployed c = search (rules, due)

pub returns-clause-refused : goal.returns-clause-refused
unfolding parts_of
returns-clause-refused c = search (rules, due)

pub returns-clause-sent_again : goal.returns-clause-sent_again
unfolding parts_of
returns-clause-sent_again c = search (rules, due)

pub returns-clause-aged : goal.returns-clause-aged
unfolding parts_of
returns-clause-aged c = search (rules, due)

pub returns-clause-staged_again : goal.returns-clause-staged_again
unfolding parts_of
returns-clause-staged_again c = search (rules, due)

pub returns-clause-kept_a_day : goal.returns-clause-kept_a_day
unfolding parts_of
returns-clause-kept_a_day c = search (rules, due)

pub returns-clause-shelves_cleared : goal.returns-clause-shelves_cleared
unfolding parts_of
returns-clause-shelves_cleared c = search (rules, due)
