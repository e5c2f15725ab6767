use Rattle.std.proofs.Common.{map, string_bytes}
use Rattle.clap.specs.Words.{app_of}
use Rattle.command_words.proofs.Refusals.{fault_by, refused}
use Rattle.command_words.proofs.words.read_words.Goals as goal

pub returns-in-Err-clause-fault : goal.returns-in-Err-clause-fault
returns-in-Err-clause-fault c =
    fault_by _ c.in-Err.error c.fault_of.result c.fault_of.ensures
    (refused (app_of c.in-Ok.command) (map string_bytes c.args.words.now) c.in-Err.error c.in-Ok.ensures.0 c.in-Err.ensures.kinds)
