use Rattle.command_words.proofs.Values.{number_of-err, number_of-ok}
use Rattle.command_words.proofs.words.number_of.Goals as goal

pub returns-in-Ok : goal.returns-in-Ok
returns-in-Ok c = number_of-ok c.args.text.now c.parse.result c.in-Ok.number c.parse.ensures.value.0 c.in-Ok.is

pub returns-in-Err : goal.returns-in-Err
returns-in-Err c = number_of-err c.args.text.now c.parse.result c.in-Err.field-0 c.parse.ensures.value.0 c.in-Err.is
