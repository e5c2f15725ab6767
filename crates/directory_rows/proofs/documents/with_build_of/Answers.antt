use Rattle.std.proofs.Common.{◌≡◌, true, sym, ap, ◌∙◌}
use Rattle.std.proofs.lemmas.Bool.{and_from}
use Rattle.mvn_coords.specs.Civil.{is_civil}
use Rattle.mvn_coords.specs.FileName.{is_build_number}
use Rattle.mvn_metadata.specs.Form.{is_build, is_entry}
use Rattle.directory_rows.proofs.EntryForms.{entry_form}
use Rattle.directory_rows.proofs.documents.with_build_of.Goals as goal

pub with_build-requires : goal.with_build-requires
with_build-requires c =
    let b = c.in-Some-Some.build in
    let built : is_build b ≡ true = and_from (is_civil b.stamp) (is_build_number b.number)
    (ap is_civil (sym c.stamp.ensures) ∙ c.text-text.ensures.civil) (ap is_build_number (sym c.number-number.ensures.value) ∙ c.number-number.ensures.range) in
    let classifier = c.in_ok-new.ensures.ok ∙ c.classifier.ensures in
    let extension = c.in_ok-new-2.ensures.ok ∙ c.extension.ensures in
    let base = c.in_ok-base.ensures.ok in
    (λ i. is_entry (record { classifier = classifier i; extension = extension i }, record { base = base i; build = b }))
    ∙ entry_form c.args.c.now c.in-Some-Some.base.now b c.path-path.ensures.rule (sym c.in-Some-Some.ensures') built
