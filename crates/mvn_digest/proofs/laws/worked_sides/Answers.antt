use Rattle.std.proofs.Common.{Some, refl, sym, ap, ◌∙◌}
use Rattle.hex.proofs.OnLiterals.{hex_on_literals}
use Rattle.md5.proofs.StandardFacts as md5_facts
use Rattle.sha1.proofs.StandardFacts as sha1_facts
use Rattle.sha2.proofs.Facts256 as sha256_facts
use Rattle.mvn_digest.proofs.laws.worked_sides.Goals as goal

pub returns : goal.returns
unfolding hex_on_literals
returns c = record {
  first_word = refl ∙ ap Some (sym sha1_facts.digest_of_abc);
  last_word = refl ∙ ap Some (sym md5_facts.digest_of_abc);
  sha256_word = refl ∙ ap Some (sym sha256_facts.digest_of_abc_256);
  later_line = refl ∙ ap Some (sym md5_facts.digest_of_abc);
  no_sign = refl;
  only_first_line = refl;
  other_side = refl;
  shorter = refl;
  no_digits = refl;
  nothing = refl;
}
