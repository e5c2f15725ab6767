use Rattle.std.proofs.Common.{rules, ◌≡◌, ◌∷◌, ◌++◌, [], Some, IsTrue}
use Rattle.std.proofs.lemmas.List.Elements.{All-pop}
use Rattle.repo_model.specs.Command.{meets}
use Rattle.repo_model.specs.Shown.{shown_command}
use Rattle.repo_cases.proofs.core_bench.call_all.Goals as goal

pub call_one-number-requires : goal.call_one-number-requires
call_one-number-requires c =
    let items : c.loop-command.batch.items ≡ c.pop.new.self.items ++ c.in-Some.command ∷ [] = search rules in
    (All-pop (λ x. IsTrue (meets c.loop-command.core.settings (shown_command x))) c.loop-command.batch.items c.pop.new.self.items (Some c.in-Some.command) items c.loop-command.invariant).1

pub loop-command-preserved : goal.loop-command-preserved
loop-command-preserved c =
    let items : c.loop-command.batch.items ≡ c.pop.new.self.items ++ c.in-Some.command ∷ [] = search rules in
    rw c.call_one-number.ensures
    (All-pop (λ x. IsTrue (meets c.loop-command.core.settings (shown_command x))) c.loop-command.batch.items c.pop.new.self.items (Some c.in-Some.command) items c.loop-command.invariant).0
