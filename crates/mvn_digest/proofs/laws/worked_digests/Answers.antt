use Rattle.std.proofs.Common.{refl, ap, ◌∙◌}
use Rattle.hex.specs.Hex.{encode_with}
use Rattle.md5.proofs.StandardFacts as md5_facts
use Rattle.md5.specs.Md5.{block_words, rounds as md5_rounds, compress as md5_compress, hash_after as md5_after, digest_bytes as md5_bytes, md5}
use Rattle.sha1.proofs.StandardFacts as sha1_facts
use Rattle.sha1.specs.Sha1.{first_words, schedule, rounds, compress, hash_after, digest_bytes, sha1}
use Rattle.sha2.proofs.Facts256 as sha256_facts
use Rattle.sha2.proofs.Facts512 as sha512_facts
use Rattle.mvn_digest.specs.Hex.{hex_text}
use Rattle.mvn_digest.proofs.laws.worked_digests.Goals as goal

pub returns : goal.returns
unfolding encode_with first_words schedule rounds compress hash_after digest_bytes sha1 block_words md5_rounds md5_compress md5_after md5_bytes md5
returns c = record {
  sha1_of_abc = ap hex_text sha1_facts.digest_of_abc ∙ refl;
  md5_of_abc = ap hex_text md5_facts.digest_of_abc ∙ refl;
  sha256_of_abc = ap hex_text sha256_facts.digest_of_abc_256 ∙ refl;
  sha512_of_abc = ap hex_text sha512_facts.digest_of_abc_512 ∙ refl;
  sha1_of_nothing = refl;
  md5_of_nothing = refl;
}
