-- The digests of `abc` and of no bytes (FIPS 180's examples; RFC 1321, appendix A.5), and texts of side files that say them or no digest.
use Rattle.std.specs.Prelude.{◌≡◌, [], Some, None, codes}
use Rattle.mvn_coords.specs.declared.fault.Side.TheVariants.{Sha1, Md5, Sha256, Sha512}
use Rattle.mvn_digest.specs.declared.digests.Digests.{Digests}
use Rattle.mvn_digest.specs.Digests.{digests_of}
use Rattle.mvn_digest.specs.Sides.{read_side, side_text}

abbrev pub abc : Digests
abc = digests_of (codes "abc")

pub record WorkedDigests : Type 0 where
  pub sha1_of_abc : side_text Sha1 abc ≡ codes "a9993e364706816aba3e25717850c26c9cd0d89d"
  pub md5_of_abc : side_text Md5 abc ≡ codes "900150983cd24fb0d6963f7d28e17f72"
  pub sha256_of_abc : side_text Sha256 abc ≡ codes "ba7816bf8f01cfea414140de5dae2223b00361a396177a9cb410ff61f20015ad"
  pub sha512_of_abc : side_text Sha512 abc
      ≡ codes "ddaf35a193617abacc417349ae20413112e6fa4e89a97ea20a9eeee64b55d39a2192992a274fc1a836ba3c23a3feebbd454d4423643ce80e2a9ac94fa54ca49f"
  pub sha1_of_nothing : side_text Sha1 (digests_of []) ≡ codes "da39a3ee5e6b4b0d3255bfef95601890afd80709"
  pub md5_of_nothing : side_text Md5 (digests_of []) ≡ codes "d41d8cd98f00b204e9800998ecf8427e"

pub record WorkedSides : Type 0 where
  pub first_word : read_side Sha1 (codes "A9993E364706816ABA3E25717850C26C9CD0D89D  lib-1.0.jar") ≡ Some abc.sha1
  pub last_word : read_side Md5 (codes "MD5 (x) = 900150983CD24FB0D6963F7D28E17F72") ≡ Some abc.md5
  pub sha256_word : read_side Sha256 (codes "SHA2-256(lib.jar) = BA7816BF8F01CFEA414140DE5DAE2223B00361A396177A9CB410FF61F20015AD") ≡ Some abc.sha256
  pub later_line : read_side Md5 (codes " \t\r\n\r\n900150983cd24fb0d6963f7d28e17f72\r\n0") ≡ Some abc.md5
  pub no_sign : read_side Md5 (codes "MD5=900150983cd24fb0d6963f7d28e17f72") ≡ None
  pub only_first_line : read_side Md5 (codes "x\n900150983cd24fb0d6963f7d28e17f72") ≡ None
  pub other_side : read_side Md5 (codes "a9993e364706816aba3e25717850c26c9cd0d89d") ≡ None
  pub shorter : read_side Sha512 (codes "ba7816bf8f01cfea414140de5dae2223b00361a396177a9cb410ff61f20015ad") ≡ None
  pub no_digits : read_side Md5 (codes "xyz") ≡ None
  pub nothing : read_side Sha1 [] ≡ None
