use Rattle.repo_laws.proofs.Drafts.{drafts-put, drafts-staged, drafts-dropped, drafts-landed, drafts-gone, drafts-kept, drafts-spent_between}
use Rattle.repo_laws.proofs.numbers.drafts_serve_once.Goals as goal

pub returns-clause-put : goal.returns-clause-put
returns-clause-put c = drafts-put

pub returns-clause-staged : goal.returns-clause-staged
returns-clause-staged c = drafts-staged

pub returns-clause-dropped : goal.returns-clause-dropped
returns-clause-dropped c = drafts-dropped

pub returns-clause-gone : goal.returns-clause-gone
returns-clause-gone c = drafts-gone

pub returns-clause-kept : goal.returns-clause-kept
returns-clause-kept c = drafts-kept

pub returns-clause-spent_between : goal.returns-clause-spent_between
returns-clause-spent_between c = drafts-spent_between

pub returns-clause-landed : goal.returns-clause-landed
returns-clause-landed c = drafts-landed
