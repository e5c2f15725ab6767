use Rattle.std.proofs.Common.{◌≡◌, ◌++◌, false, sym, ap, ◌∙◌}
use Rattle.std.specs.Prelude.{codes}
use Rattle.std.specs.Cmp.{both_ways}
use Rattle.std.specs.Str.{bytes_eq}
use Rattle.std.proofs.lemmas.List.{append_cancel_left}
use Rattle.std.proofs.lemmas.Slice.Eq.{bytes_eq-Decides}
use Rattle.mvn_coords.proofs.Cuts.{after_some, after_none}
use Rattle.mvn_metadata.proofs.entries.is_in.Goals as goal

pub returns-in-Some : goal.returns-in-Some
returns-in-Some c =
    let base = c.args.base.now in
    let end = codes "-SNAPSHOT" in
    let directory = c.args.directory.now in
    let joined : directory ≡ base ++ c.in-Some.rest.now = after_some base directory c.in-Some.rest.now (sym c.in-Some.ensures) in
    c.eq.ensures ∙ both_ways (bytes_eq c.in-Some.rest.now end) (bytes_eq (base ++ end) directory)
    (λ e. (bytes_eq-Decides (base ++ end) directory).1 (ap (λ t. base ++ t) (sym ((bytes_eq-Decides c.in-Some.rest.now end).0 e)) ∙ sym joined))
    (λ e. (bytes_eq-Decides c.in-Some.rest.now end).1 (sym (append_cancel_left base end c.in-Some.rest.now ((bytes_eq-Decides (base ++ end) directory).0 e ∙ joined))))

pub returns-in-None : goal.returns-in-None
returns-in-None c =
    let base = c.args.base.now in
    let end = codes "-SNAPSHOT" in
    let directory = c.args.directory.now in
    both_ways false (bytes_eq (base ++ end) directory) (λ e. absurd cc)
    (λ e. absurd (after_none base directory end (sym c.in-None.ensures) (sym ((bytes_eq-Decides (base ++ end) directory).0 e))))
