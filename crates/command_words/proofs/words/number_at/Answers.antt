use Rattle.clap.specs.Words.{found_of}
use Rattle.command_words.proofs.Values.{first_of-rows}
use Rattle.command_words.proofs.words.number_at.Goals as goal

pub returns-in-Some : goal.returns-in-Some
returns-in-Some c =
    rw (← first_of-rows (found_of c.args.found.now) c.args.id.now, ← c.in-Some.ensures) c.number_of.ensures

pub returns-in-None : goal.returns-in-None
returns-in-None c =
    rw (← first_of-rows (found_of c.args.found.now) c.args.id.now, ← c.in-None.ensures)
