-- The digests of a message: SHA-1, SHA-256 and SHA-512 (FIPS 180-4, sections 6.1, 6.2 and 6.4) and MD5 (RFC 1321, section 3).
use Rattle.std.specs.Prelude.{◌≡◌, ℕ, List, Option, Some}
use Rattle.std.specs.Option.{option_map}
use Rattle.sha1.specs.Sha1.{sha1}
use Rattle.md5.specs.Md5.{md5}
use Rattle.sha2.specs.Sha256.{sha256}
use Rattle.sha2.specs.Sha512.{sha512}
use Rattle.mvn_digest.specs.declared.digests.Digests.{Digests}
use Rattle.mvn_digest.specs.declared.known.Further.{Further}
use Rattle.mvn_digest.specs.declared.known.Known.{Known}

-- the four digests of the message
abbrev pub digests_of : List ℕ → Digests
digests_of message = record { sha1 = sha1 message; md5 = md5 message; sha256 = sha256 message; sha512 = sha512 message }

-- SHA-256 and SHA-512 of digests, and all four as known ones
abbrev pub further_in : Digests → Further
further_in d = record { sha256 = d.sha256; sha512 = d.sha512 }

abbrev pub all_known : Digests → Known
all_known d = record { sha1 = d.sha1; md5 = d.md5; further = Some (further_in d) }

-- what would be known of a message with these digests, where so much is known
abbrev pub as_known : Option Further → Digests → Known
as_known further d = record { sha1 = d.sha1; md5 = d.md5; further = option_map (λ (f : Further). further_in d) further }

-- each digest that is known is that of the message with these digests
abbrev pub Agrees : Known → Digests → Type 0
Agrees known d = as_known known.further d ≡ known
