use Rattle.repo_model.specs.Shown.{shown_parcel}
use Rattle.hosted_delivery.proofs.StagedForms.{staged-again, staged-put}
use Rattle.hosted_delivery.proofs.delivering.item_of.Goals as goal

pub returns-in_default-clause-short : goal.returns-in_default-clause-short
returns-in_default-clause-short g c =
    rw (c.in_ok-repo.ensures.ok, c.in_ok-path.ensures.ok, c.recorded.ensures, c.print_of.ensures)
    (staged-put c.args.repo.now c.requires.repo (record { path = c.args.path.now; blob = shown_parcel c.args.parcel.now }) c.args.now c.requires.file (record { sha1 = c.sizes.ensures.sha1; md5 = c.sizes.ensures.md5; sha256 = c.sizes.ensures.sha256; sha512 = c.sizes.ensures.sha512 }) c.requires.moment, tt)

pub returns-in-Fading-clause-short : goal.returns-in-Fading-clause-short
returns-in-Fading-clause-short g c =
    rw (c.in_ok-repo.ensures.ok, c.in_ok-path.ensures.ok)
    (staged-again c.args.repo.now c.requires.repo (record { path = c.args.path.now; blob = shown_parcel c.args.parcel.now }) c.args.now c.requires.file c.requires.moment, tt)
