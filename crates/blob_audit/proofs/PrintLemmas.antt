-- What is recorded of a content, and a content beside it.
use Rattle.std.proofs.Common.{◌≡◌, ℕ, false, cond, List, [], length, Option, Some, None, refl, ap, ◌∙◌, sym}
use Rattle.std.specs.Prelude.{◌==◌, IfSome, is_none}
use Rattle.std.specs.Option.{option_map_or}
use Rattle.mvn_digest.specs.Digests.{Agrees}
use Rattle.mvn_digest.specs.declared.known.Further.{Further}
use Rattle.repo_model.specs.Prints.{lacks_further, print_in, recorded_in, without_further}
use Rattle.repo_model.specs.declared.print.Print.{Print}
use Rattle.repo_model.specs.declared.print.Recorded.{Recorded}
use Rattle.blob_audit.specs.Damages.{IsWhole}

-- further digests that are recorded have their length
abbrev pub IsSized : Recorded → Type 0
IsSized r = IfSome r.digests.further (λ (f : Further). length f.sha256 ≡ 32)

-- a length of 32 is none of 0
not-none : (n : ℕ) → n ≡ 32 → (n == 0) ≡ false
not-none n is = ap (λ m. m == 0) is

-- what is recorded, by what is told of it
pub told-again : (r : Recorded) → IsSized r → recorded_in (print_in r) ≡ r
told-again r sized = by r.digests.further sized
  where
    by : (further : Option Further) → IfSome further (λ (f : Further). length f.sha256 ≡ 32)
        → recorded_in (print_in (record { length = r.length; digests = record { sha1 = r.digests.sha1; md5 = r.digests.md5; further = further } }))
        ≡ record { length = r.length; digests = record { sha1 = r.digests.sha1; md5 = r.digests.md5; further = further } }
    by None so = refl
    by (Some f) so =
        ap (λ b. record { length = r.length; digests = record { sha1 = r.digests.sha1; md5 = r.digests.md5; further = cond b None (Some f) } }) (not-none (length f.sha256) so)

-- the recorded length and each recorded digest are those of a content
abbrev pub Covers : Recorded → Print → Type 0
Covers r print = (print.length ≡ r.length) × Agrees r.digests print.digests

abbrev digest_of : (Print → List ℕ) → Option Print → List ℕ
digest_of f found = option_map_or f found []

pub covers : (r : Recorded) → IsSized r → (print : Print) → IsWhole (print_in r) (Some print) → Covers r print
covers r sized print is = by r.digests.further sized is
  where
    by : (further : Option Further) → IfSome further (λ (f : Further). length f.sha256 ≡ 32)
        → IsWhole (print_in (record { length = r.length; digests = record { sha1 = r.digests.sha1; md5 = r.digests.md5; further = further } })) (Some print)
        → Covers (record { length = r.length; digests = record { sha1 = r.digests.sha1; md5 = r.digests.md5; further = further } }) print
    by None so whole = (
      ap (λ (found : Option Print). option_map_or (λ (p : Print). p.length) found 0) whole,
      λ i. record { sha1 = digest_of (λ p. p.digests.sha1) (whole i); md5 = digest_of (λ p. p.digests.md5) (whole i); further = None },
    )
    by (Some f) so whole =
        let told = ap (λ b. Some (cond b (without_further print) print)) (sym (not-none (length f.sha256) so)) ∙ whole in (
          ap (λ (found : Option Print). option_map_or (λ (p : Print). p.length) found 0) told,
          λ i. record {
            sha1 = digest_of (λ p. p.digests.sha1) (told i);
            md5 = digest_of (λ p. p.digests.md5) (told i);
            further = Some (record { sha256 = digest_of (λ p. p.digests.sha256) (told i); sha512 = digest_of (λ p. p.digests.sha512) (told i) });
          },
        )

-- what is whole beside a fingerprint with all digests is the same
pub whole-print : (recorded print : Print) → lacks_further recorded ≡ false → IsWhole recorded (Some print) → print ≡ recorded
whole-print recorded print complete is =
    ap (λ (found : Option Print). option_map_or (λ (p : Print). p) found recorded) (ap (λ b. Some (cond b (without_further print) print)) (sym complete) ∙ is)

-- a fingerprint lacks its further digests where they are not recorded
pub lacks-so : (r : Recorded) → IsSized r → lacks_further (print_in r) ≡ is_none r.digests.further
lacks-so r sized = by r.digests.further sized
  where
    by : (further : Option Further) → IfSome further (λ (f : Further). length f.sha256 ≡ 32) → (length (option_map_or (λ (f : Further). f.sha256) further []) == 0) ≡ is_none further
    by None so = refl
    by (Some f) so = not-none (length f.sha256) so
