use Rattle.std.proofs.Common.{[], ◌∷◌, sym, subst}
use Rattle.blob_audit.specs.Damages.{AreDamaged, IsFound, damaged, none}
use Rattle.blob_audit.specs.Files.{shown_file}
use Rattle.blob_audit.specs.Found.{found_in, IsJudged}
use Rattle.repo_model.specs.Prints.{print_in}
use Rattle.blob_audit.specs.declared.damages.Damaged.{Damaged}
use Rattle.blob_audit.proofs.PrintLemmas.{whole-print}
use Rattle.repo_restart.proofs.ProxyLemmas.{all-digests}
use Rattle.repo_restart.proofs.taking.take_file.Goals as goal

pub returns-in-Other-clause-damaged : goal.returns-in-Other-clause-damaged
returns-in-Other-clause-damaged g c =
    let shelf = g.B.Blobs.shelf c.args.blobs.now in
    let row = c.args.file.now.row.now in
    let r = (shown_file c.args.file.now).row in
    let found = subst (λ f. IsFound shelf row.blob (found_in f)) c.in-Other.is c.in_ok-parcel.ensures.found in
    let other = subst (IsJudged (print_in row.print)) c.in-Other.is c.in_ok-parcel.ensures.judged in
    subst (λ (damage : Damaged). AreDamaged shelf (r ∷ []) (damage ∷ [])) (sym c.in_ok-damage_of-in-Other.ensures) (damaged r [] [] c.in-Other.found found other none)

pub take_parcel-requires-clause-print : goal.take_parcel-requires-clause-print
take_parcel-requires-clause-print g c =
    let row = c.args.file.now.row.now in
    let print = print_in row.print in
    whole-print print _ (all-digests (shown_file c.args.file.now) c.args.repos.now.items c.args.proxies.now.items c.requires) (subst (IsJudged print) c.in-Whole.is c.in_ok-parcel.ensures.judged)
