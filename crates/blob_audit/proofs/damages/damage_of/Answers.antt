use Rattle.std.proofs.Common.{sym}
use Rattle.blob_audit.proofs.PrintLemmas.{told-again}
use Rattle.blob_audit.proofs.damages.damage_of.Goals as goal

pub returns : goal.returns
returns c =
    let again = sym (told-again c.args.file.now.row.now.print c.sizes.ensures) in
    rw (c.in_ok-new.ensures.ok, c.in_ok-new-2.ensures.ok)
    (λ i. record { repo = c.deref.ensures i; path = c.deref-2.ensures i; recorded = again i; found = c.args.found })
