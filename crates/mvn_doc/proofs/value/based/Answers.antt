use Rattle.std.proofs.Common.{◌≡◌, ◌++◌, false, sym, ap, ◌∙◌, refl}
use Rattle.std.specs.Prelude.{codes}
use Rattle.mvn_metadata.specs.Form.{is_base_version}
use Rattle.mvn_doc.proofs.Utf8Lemmas.{no_base}
use Rattle.mvn_doc.proofs.value.based.Goals.{in_default-via-in-Some+else-is_base, in_default-via-in_default}
use Rattle.mvn_doc.proofs.value.based.Goals as goal

pub returns-in_default : goal.returns-in_default
returns-in_default c = elim c.in_default.branch [
  | in_default-via-in-Some+else-is_base w ↦
      let fails : is_base_version (c.args.base.now ++ codes "-SNAPSHOT") ≡ false =
      ap (λ b. is_base_version (b ++ codes "-SNAPSHOT")) (sym w.in-Some.ensures) ∙ sym w.is_base.ensures ∙ w.if-is_base.false in
      rw fails refl
  | in_default-via-in_default w ↦ rw (no_base c.args.base.now w.in_default.ensures) refl
]
