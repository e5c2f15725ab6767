use Rattle.std.proofs.Common.{take, arith}
use Rattle.std.proofs.lemmas.List.{length-take-le}
use Rattle.repo_config.proofs.Told.{read_failed, read_ok}
use Rattle.repo_config.proofs.source.read_into.Goals as goal

pub returns-in_default-clause-settings : goal.returns-in_default-clause-settings
returns-in_default-clause-settings g c = read_failed (g.S.Tells.left c.args.source.now)

pub returns-in-Ok-read-clause-settings : goal.returns-in-Ok-read-clause-settings
returns-in-Ok-read-clause-settings g c =
    let buffer = c.read_full.new.buffer in
    let same = c.read_full.auto.buffer in
    let taken = length-take-le c.in-Ok.count buffer c.in-Ok.ensures.count in
    read_ok (g.S.Tells.left c.args.source.now) (g.S.Tells.left c.read_full.new.source) (take c.in-Ok.count buffer) c.in-Ok-read.settings
    c.in-Ok.ensures.given (λ short. c.in-Ok.ensures.end (omega (arith, same, taken, c.requires))) c.in-Ok-read.ensures.ok
