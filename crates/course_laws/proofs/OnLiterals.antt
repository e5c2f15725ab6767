-- What a proof unfolds to compute this crate's definitions on given bytes.
use Rattle.std.specs.Prelude.{⊤}
use Rattle.hex.proofs.OnLiterals.{hex_on_literals}
use Rattle.http_wire.proofs.OnLiterals.{http_wire_on_literals}
use Rattle.repo_routes.proofs.OnLiterals.{routes_on_literals}
use Rattle.mvn_coords.specs.Path.{parts_of}
use Rattle.sha1.specs.Sha1.{first_words, schedule, rounds, compress, hash_after, digest_bytes, sha1}
use Rattle.md5.specs.Md5.{block_words, rounds as md5_rounds, compress as md5_compress, hash_after as md5_hash_after, digest_bytes as md5_digest_bytes, md5}
use Rattle.course_laws.specs.Faultless.{play_stream}

unfoldable pub course_laws_on_literals : ⊤
unfolding http_wire_on_literals routes_on_literals hex_on_literals parts_of first_words schedule rounds compress hash_after digest_bytes sha1 block_words md5_rounds md5_compress md5_hash_after md5_digest_bytes md5 play_stream
course_laws_on_literals = tt
