-- Fingerprints as they are recorded, and what they tell of a content.
use Rattle.std.specs.Prelude.{Bool, ◌==◌, if◌then◌else◌, [], length, Some, None}
use Rattle.std.specs.Option.{option_map_or}
use Rattle.mvn_digest.specs.Digests.{all_known, further_in}
use Rattle.mvn_digest.specs.declared.digests.Digests.{Digests}
use Rattle.mvn_digest.specs.declared.known.Further.{Further}
use Rattle.mvn_digest.specs.declared.known.Known.{Known}
use Rattle.repo_model.specs.declared.print.Print.{Print}
use Rattle.repo_model.specs.declared.print.Recorded.{Recorded}

-- a whole fingerprint as it is recorded
abbrev pub recorded_print : Print → Recorded
recorded_print print = record { length = print.length; digests = all_known print.digests }

-- what is recorded as a fingerprint: a digest that is not recorded is empty there
abbrev pub digests_in : Known → Digests
digests_in known = record {
  sha1 = known.sha1;
  md5 = known.md5;
  sha256 = option_map_or (λ (f : Further). f.sha256) known.further [];
  sha512 = option_map_or (λ (f : Further). f.sha512) known.further [];
}

abbrev pub print_in : Recorded → Print
print_in recorded = record { length = recorded.length; digests = digests_in recorded.digests }

-- SHA-256 and SHA-512 are not recorded
abbrev pub lacks_further : Print → Bool
lacks_further print = length print.digests.sha256 == 0

-- with SHA-256 and SHA-512
abbrev pub with_further : Further → Print → Print
with_further further print = record print { digests = record print.digests { sha256 = further.sha256; sha512 = further.sha512 } }

-- without them, as old records have it
abbrev pub without_further : Print → Print
without_further print = record print { digests = record print.digests { sha256 = []; sha512 = [] } }

-- a content's fingerprint as far as this one is recorded
abbrev pub as_recorded : Print → Print → Print
as_recorded recorded print = if lacks_further recorded then without_further print else print

-- what was recorded, by what is told of it
abbrev pub recorded_in : Print → Recorded
recorded_in print = record {
  length = print.length;
  digests = record {
    sha1 = print.digests.sha1;
    md5 = print.digests.md5;
    further = if lacks_further print then None else Some (further_in print.digests);
  };
}
