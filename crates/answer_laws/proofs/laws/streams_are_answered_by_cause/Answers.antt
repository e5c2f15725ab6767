use Rattle.std.proofs.Common.{[], map, sym, subst, append-nil, ◌∙◌}
use Rattle.repo_model.specs.History.{Legal}
use Rattle.answer_laws.proofs.Due.{stream-answered}
use Rattle.answer_laws.proofs.Placed.{all-own, lies-marked}
use Rattle.answer_laws.specs.Marked.{own_entry}
use Rattle.answer_laws.proofs.laws.streams_are_answered_by_cause.Goals as goal

pub returns-clause-among : goal.returns-clause-among
returns-clause-among g c settings n start history past entries rest old new ending legal own serves =
    let it = stream-answered settings _ start history legal n past entries rest old new ending own serves in
    (it.turns, it.are, it.answered)

pub returns-clause-lying : goal.returns-clause-lying
returns-clause-lying g c settings n start history entries old new ending legal lies serves =
    let marked = lies-marked entries history lies in
    let it = stream-answered settings _ start marked.0 (subst (Legal settings start) (sym marked.1.0) legal) n [] entries [] old new ending
    (marked.1.1 ∙ sym (append-nil entries)) serves in
    (marked.0, marked.1.0, marked.1.1, it.turns, it.are, it.answered)

pub returns-clause-alone : goal.returns-clause-alone
returns-clause-alone g c settings n start entries old new ending legal serves =
    let marked = all-own entries in
    let it = stream-answered settings _ start (map own_entry entries) (subst (Legal settings start) (sym marked.0) legal) n [] entries [] old new ending
    (marked.1 ∙ sym (append-nil entries)) serves in
    (it.turns, it.are, it.answered)
