use Rattle.std.proofs.Common.{Err, subst}
use Rattle.outside.specs.Blobs.{standing_at}
use Rattle.outside.specs.Checks.{FindsOtherThan}
use Rattle.outside.specs.declared.checks.CheckFault.{CheckFault}
use Rattle.outside.specs.declared.checks.CheckFault.TheVariants.{Differs}
use Rattle.blob_audit.proofs.PrintLemmas.{covers}
use Rattle.blob_audit.proofs.looking.look_at.Goals as goal

pub returns-in-Err-Differs-clause-judged : goal.returns-in-Err-Differs-clause-judged
returns-in-Err-Differs-clause-judged g c is =
    let print = c.args.row.now.print in
    let d = c.in-Err-Differs in
    let told = standing_at c.args.row.now.blob (g.B.Blobs.shelf c.args.blobs.now) in
    let other : FindsOtherThan {T = Unit {0}} told print.length print.digests (Err (Differs d.length d.digests))
    = subst (λ (f : CheckFault). FindsOtherThan {T = Unit {0}} told print.length print.digests (Err f)) d.field-0-is d.ensures.other in
    other.1 (covers print c.sizes.ensures (record { length = d.length; digests = d.digests }) is)
