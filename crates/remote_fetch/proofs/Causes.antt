-- What a fetch that got something has from the remote, and that a fetch is a fault only where an exchange failed.
use Rattle.std.proofs.Common.{◌≡◌, ℕ, ◌≤◌, true, false, List, [], length, Option, Some, None, Result, Ok, Err, refl, sym, ◌∙◌, ap, subst}
use Rattle.std.specs.Prelude.{nat_lt, if◌then◌else◌, bytes_eq}
use Rattle.std.proofs.lemmas.Bool.{ltb-false}
use Rattle.std.proofs.lemmas.Slice.Eq.{bytes_eq-Decides}
use Rattle.mvn_coords.specs.Path.{suffix_of}
use Rattle.mvn_coords.specs.declared.fault.Side.{Side}
use Rattle.mvn_coords.specs.declared.fault.Side.TheVariants as side
use Rattle.mvn_digest.specs.declared.digests.Digest.{Digest}
use Rattle.mvn_digest.specs.Digests.{digests_of}
use Rattle.mvn_digest.specs.Sides.{side_of, read_side}
use Rattle.mvn_doc.specs.Reading.{reading}
use Rattle.mvn_metadata.specs.Document.{Document}
use Rattle.mvn_metadata.specs.Written.{text}
use Rattle.outside.specs.Faults.{Rose}
use Rattle.outside_remote.specs.declared.exchange.RemoteFault.TheVariants.{Failed, NoMemory}
use Rattle.outside_remote.specs.Exchanges.{Sees}
use Rattle.fetch_plan.specs.declared.Plan.{Plan}
use Rattle.fetch_plan.specs.declared.Outcome.{Outcome}
use Rattle.fetch_plan.specs.declared.Outcome.TheVariants as came
use Rattle.remote_fetch.specs.declared.replies.Reply.{Reply}
use Rattle.remote_fetch.specs.declared.replies.Reply.TheVariants.{Body, Gone, Refused, TooLarge, Bad, Fault}
use Rattle.remote_fetch.specs.declared.fetching.Checked.{Checked}
use Rattle.remote_fetch.specs.declared.contents.Content.{Content}
use Rattle.remote_fetch.specs.declared.contents.Content.TheVariants as content
use Rattle.remote_fetch.specs.Exchanged.{IsAsked}
use Rattle.remote_fetch.specs.Fetching.{IsByMd5, AfterSha1, IsSided, AfterBody, IsChecked, IsFetched, body_in, compared, digest_of, document_of, longest_side, longest_text, said_of, with_content}
use Rattle.remote_fetch.specs.Got.{HasFetchCause, IsAgreed, IsGot}
use Rattle.remote_fetch.proofs.Fair.{IsFair, answer-fair}

-- ---- faults
-- a reply that is a fault has raised the count, and any other leaves it
abbrev ReplyCause : Reply → ℕ → ℕ → Type 0
ReplyCause Fault before after = Rose before after
ReplyCause reply before after = after ≡ before

there-cause : (limit : ℕ) (reply : Reply) (before after : ℕ) → IsFair limit reply → after ≡ before → ReplyCause reply before after
there-cause limit (Body bytes) before after fair same = same
there-cause limit Gone before after fair same = same
there-cause limit (Refused status) before after fair same = same
there-cause limit TooLarge before after fair same = same
there-cause limit (Bad at) before after fair same = same
there-cause limit Fault before after fair same = absurd fair

asked-cause : (plan : Plan) (suffix : List ℕ) (limit : ℕ) (reply : Reply) (old new : Sees) → IsAsked plan suffix limit reply old new → ReplyCause reply old.faults new.faults
asked-cause plan suffix limit reply old new (Ok bytes, is, reads) = there-cause limit reply old.faults new.faults (answer-fair limit bytes reply reads) is.cause
asked-cause plan suffix limit reply old new (Err Failed, is, reads) = subst (λ r. ReplyCause r old.faults new.faults) (sym reads) is.cause
asked-cause plan suffix limit reply old new (Err NoMemory, is, reads) = absurd reads

compared-steady : (bytes : List ℕ) (s : Side) (said : Option (List ℕ)) (before after : ℕ) → after ≡ before → HasFetchCause (compared bytes s said) before after
compared-steady bytes s None before after same = same
compared-steady bytes s (Some said) before after same =
    elim (bytes_eq said (side_of (digests_of bytes) s))
    as (λ b. HasFetchCause {G = Checked} (if b then came.Got (record { bytes = bytes; digests = digests_of bytes }) else came.Differs (digest_of s said) (digest_of s (side_of (digests_of bytes) s))) before after) [
      | true ↦ same
      | false ↦ same
    ]

said-cause : (bytes : List ℕ) (s : Side) (reply : Reply) (before after : ℕ) → ReplyCause reply before after → HasFetchCause (said_of bytes s reply) before after
said-cause bytes s (Body said) before after is = compared-steady bytes s (read_side s said) before after is
said-cause bytes s Gone before after is = is
said-cause bytes s (Refused status) before after is = is
said-cause bytes s TooLarge before after is = is
said-cause bytes s (Bad at) before after is = is
said-cause bytes s Fault before after is = is

-- the outcome of a reply, and nothing more
reply-cause : (bytes : List ℕ) (s : Side) (reply : Reply) (o : Outcome Checked) (old mid new : Sees) → ReplyCause reply old.faults mid.faults → o ≡ said_of bytes s reply → new ≡ mid
    → HasFetchCause o old.faults new.faults
reply-cause bytes s reply o old mid new cause is same =
    subst (λ (n : Sees). HasFetchCause o old.faults n.faults) (sym same)
    (subst (λ x. HasFetchCause x old.faults mid.faults) (sym is) (said-cause bytes s reply old.faults mid.faults cause))

md5-cause : (plan : Plan) (bytes : List ℕ) (o : Outcome Checked) (old new : Sees) → IsByMd5 plan bytes o old new → HasFetchCause o old.faults new.faults
md5-cause plan bytes o old new (reply, asked, is) =
    reply-cause bytes side.Md5 reply o old new new (asked-cause plan (suffix_of side.Md5) longest_side reply old new asked) is refl

-- an exchange that left the count, and then more
then-cause : (o : Outcome Checked) (old mid new : ℕ) → mid ≡ old → HasFetchCause o mid new → HasFetchCause o old new
then-cause o old mid new same is = subst (λ n. HasFetchCause o n new) same is

after-sha-cause : (plan : Plan) (bytes : List ℕ) (reply : Reply) (o : Outcome Checked) (old mid new : Sees) → ReplyCause reply old.faults mid.faults → AfterSha1 plan bytes reply o mid new
    → HasFetchCause o old.faults new.faults
after-sha-cause plan bytes (Body said) o old mid new cause (is, same) = reply-cause bytes side.Sha1 (Body said) o old mid new cause is same
after-sha-cause plan bytes Gone o old mid new cause is = then-cause o old.faults mid.faults new.faults cause (md5-cause plan bytes o mid new is)
after-sha-cause plan bytes (Refused status) o old mid new cause (is, same) = reply-cause bytes side.Sha1 (Refused status) o old mid new cause is same
after-sha-cause plan bytes TooLarge o old mid new cause (is, same) = reply-cause bytes side.Sha1 TooLarge o old mid new cause is same
after-sha-cause plan bytes (Bad at) o old mid new cause (is, same) = reply-cause bytes side.Sha1 (Bad at) o old mid new cause is same
after-sha-cause plan bytes Fault o old mid new cause (is, same) = reply-cause bytes side.Sha1 Fault o old mid new cause is same

sided-cause : (plan : Plan) (bytes : List ℕ) (o : Outcome Checked) (old new : Sees) → IsSided plan bytes o old new → HasFetchCause o old.faults new.faults
sided-cause plan bytes o old new (reply, mid, asked, after) =
    after-sha-cause plan bytes reply o old mid new (asked-cause plan (suffix_of side.Sha1) longest_side reply old mid asked) after

-- where no body came
ended-cause : (ended o : Outcome Checked) (old mid new : Sees) → HasFetchCause ended old.faults mid.faults → (o ≡ ended) × (new ≡ mid) → HasFetchCause o old.faults new.faults
ended-cause ended o old mid new cause (is, same) =
    subst (λ (n : Sees). HasFetchCause o old.faults n.faults) (sym same) (subst (λ x. HasFetchCause x old.faults mid.faults) (sym is) cause)

after-body-cause : (plan : Plan) (reply : Reply) (o : Outcome Checked) (old mid new : Sees) → ReplyCause reply old.faults mid.faults → AfterBody plan (body_in reply) o mid new
    → HasFetchCause o old.faults new.faults
after-body-cause plan (Body bytes) o old mid new cause after = then-cause o old.faults mid.faults new.faults cause (sided-cause plan bytes o mid new after)
after-body-cause plan Gone o old mid new cause after = ended-cause came.Gone o old mid new cause after
after-body-cause plan (Refused status) o old mid new cause after = ended-cause (came.Refused status) o old mid new cause after
after-body-cause plan TooLarge o old mid new cause after = ended-cause came.TooLarge o old mid new cause after
after-body-cause plan (Bad at) o old mid new cause after = ended-cause (came.BadAnswer at) o old mid new cause after
after-body-cause plan Fault o old mid new cause after = ended-cause came.Fault o old mid new cause after

document-steady : (read : Result Document ℕ) (before after : ℕ) → after ≡ before → HasFetchCause (document_of read) before after
document-steady (Err at) before after same = same
document-steady (Ok d) before after same =
    elim (nat_lt longest_text (length (text d))) as (λ b. HasFetchCause {G = Content} (if b then came.TooLarge else came.Got (content.Doc d)) before after) [
      | true ↦ same
      | false ↦ same
    ]

content-cause : (draft : Option ℕ) (o : Outcome Checked) (before after : ℕ) → HasFetchCause o before after → HasFetchCause (with_content draft o) before after
content-cause (Some draft) (came.Got checked) before after is = is
content-cause None (came.Got checked) before after is = document-steady (reading checked.bytes) before after is
content-cause draft came.Gone before after is = is
content-cause draft (came.Refused status) before after is = is
content-cause draft came.NoChecksum before after is = is
content-cause draft (came.Differs said found) before after is = is
content-cause draft came.TooLarge before after is = is
content-cause draft (came.BadAnswer at) before after is = is
content-cause draft (came.BadDocument at) before after is = is
content-cause draft came.Fault before after is = is

pub fetch-cause : (plan : Plan) (o : Outcome Content) (old new : Sees) → IsFetched plan o old new → HasFetchCause o old.faults new.faults
fetch-cause plan o old new (checked, (reply, mid, asked, after), is) =
    subst (λ x. HasFetchCause x old.faults new.faults) (sym is)
    (content-cause plan.draft checked old.faults new.faults
    (after-body-cause plan reply checked old mid new (asked-cause plan [] plan.limit reply old mid asked) after))

-- ---- what was got
compared-got : (bytes : List ℕ) (s : Side) (said : Option (List ℕ)) (checked : Checked) → compared bytes s said ≡ came.Got checked
    → (record { bytes = bytes; digests = digests_of bytes } ≡ checked) × (said ≡ Some (side_of (digests_of bytes) s))
compared-got bytes s None checked is = absurd (cc)
compared-got bytes s (Some said) checked is =
    let found = side_of (digests_of bytes) s in
    let whole : Checked = record { bytes = bytes; digests = digests_of bytes } in
    elim (bytes_eq said found)
    as (λ b. bytes_eq said found ≡ b → (if b then came.Got whole else came.Differs (digest_of s said) (digest_of s found)) ≡ came.Got checked
    → (whole ≡ checked) × (Some said ≡ Some found)) [
      | true ↦ λ same so. (got-same whole checked so, ap (λ (d : List ℕ). Some d) ((bytes_eq-Decides said found).0 same))
      | false ↦ λ other so. absurd (differs-got (digest_of s said) (digest_of s found) checked so)
    ] refl is
  where
    got-same : (one other : Checked) → came.Got one ≡ came.Got other → one ≡ other
    got-same one other so = cc

    differs-got : (one other : Digest) (checked : Checked) → came.Differs one other ≡ came.Got checked → ⊥
    differs-got one other checked so = cc

-- the side file that said the digest was the last answer
abbrev IsSaid : Plan → Checked → List ℕ → Sees → Type 0
IsSaid plan checked bytes new =
    (record { bytes = bytes; digests = digests_of bytes } ≡ checked)
    × ((s : Side) × (said : List ℕ) × (mid : Sees) × IsAsked plan (suffix_of s) longest_side (Body said) mid new × (read_side s said ≡ Some (side_of (digests_of bytes) s)))

reply-got : (plan : Plan) (bytes : List ℕ) (s : Side) (reply : Reply) (checked : Checked) (old new : Sees) → IsAsked plan (suffix_of s) longest_side reply old new
    → said_of bytes s reply ≡ came.Got checked → IsSaid plan checked bytes new
reply-got plan bytes s (Body said) checked old new asked is =
    let (same, says) = compared-got bytes s (read_side s said) checked is in (same, (s, said, old, asked, says))
reply-got plan bytes s Gone checked old new asked is = absurd (cc)
reply-got plan bytes s (Refused status) checked old new asked is = absurd (cc)
reply-got plan bytes s TooLarge checked old new asked is = absurd (cc)
reply-got plan bytes s (Bad at) checked old new asked is = absurd (cc)
reply-got plan bytes s Fault checked old new asked is = absurd (cc)

sha-got : (plan : Plan) (bytes : List ℕ) (reply : Reply) (o : Outcome Checked) (checked : Checked) (old mid new : Sees) → IsAsked plan (suffix_of side.Sha1) longest_side reply old mid
    → (o ≡ said_of bytes side.Sha1 reply) × (new ≡ mid) → o ≡ came.Got checked → IsSaid plan checked bytes new
sha-got plan bytes reply o checked old mid new asked (is, same) got =
    reply-got plan bytes side.Sha1 reply checked old new (subst (λ n. IsAsked plan (suffix_of side.Sha1) longest_side reply old n) (sym same) asked) (sym is ∙ got)

sided-got : (plan : Plan) (bytes : List ℕ) (o : Outcome Checked) (checked : Checked) (old new : Sees) → IsSided plan bytes o old new → o ≡ came.Got checked → IsSaid plan checked bytes new
sided-got plan bytes o checked old new (Body said, mid, asked, after) got = sha-got plan bytes (Body said) o checked old mid new asked after got
sided-got plan bytes o checked old new (Gone, mid, asked, (reply, asked', is)) got = reply-got plan bytes side.Md5 reply checked mid new asked' (sym is ∙ got)
sided-got plan bytes o checked old new (Refused status, mid, asked, after) got = sha-got plan bytes (Refused status) o checked old mid new asked after got
sided-got plan bytes o checked old new (TooLarge, mid, asked, after) got = sha-got plan bytes TooLarge o checked old mid new asked after got
sided-got plan bytes o checked old new (Bad at, mid, asked, after) got = sha-got plan bytes (Bad at) o checked old mid new asked after got
sided-got plan bytes o checked old new (Fault, mid, asked, after) got = sha-got plan bytes Fault o checked old mid new asked after got

asked-fair : (plan : Plan) (suffix : List ℕ) (limit : ℕ) (bytes : List ℕ) (old new : Sees) → IsAsked plan suffix limit (Body bytes) old new → length bytes ≤ limit
asked-fair plan suffix limit bytes old new (Ok answer, is, reads) = answer-fair limit answer (Body bytes) reads
asked-fair plan suffix limit bytes old new (Err Failed, is, reads) = absurd (cc)
asked-fair plan suffix limit bytes old new (Err NoMemory, is, reads) = absurd reads

body-agreed : (plan : Plan) (bytes : List ℕ) (checked : Checked) (old mid new : Sees) → IsAsked plan [] plan.limit (Body bytes) old mid → IsSaid plan checked bytes new → IsAgreed plan checked old new
body-agreed plan bytes checked old mid new asked (same, said) =
    subst (λ c. IsAgreed plan c old new) same
    (record { given = (mid, asked); within = asked-fair plan [] plan.limit bytes old mid asked; digests = refl; said = said })

no-body : (ended o : Outcome Checked) (checked : Checked) (mid new : Sees) → (o ≡ ended) × (new ≡ mid) → o ≡ came.Got checked → ended ≡ came.Got checked
no-body ended o checked mid new (is, same) got = sym is ∙ got

checked-got : (plan : Plan) (o : Outcome Checked) (checked : Checked) (old new : Sees) → IsChecked plan o old new → o ≡ came.Got checked → IsAgreed plan checked old new
checked-got plan o checked old new (Body bytes, mid, asked, after) got = body-agreed plan bytes checked old mid new asked (sided-got plan bytes o checked mid new after got)
checked-got plan o checked old new (Gone, mid, asked, after) got = let h = no-body came.Gone o checked mid new after got in absurd (cc h)
checked-got plan o checked old new (Refused status, mid, asked, after) got = let h = no-body (came.Refused status) o checked mid new after got in absurd (cc h)
checked-got plan o checked old new (TooLarge, mid, asked, after) got = let h = no-body came.TooLarge o checked mid new after got in absurd (cc h)
checked-got plan o checked old new (Bad at, mid, asked, after) got = let h = no-body (came.BadAnswer at) o checked mid new after got in absurd (cc h)
checked-got plan o checked old new (Fault, mid, asked, after) got = let h = no-body came.Fault o checked mid new after got in absurd (cc h)

-- a document that was read and is not too long
abbrev IsRead : Result Document ℕ → Content → Type 0
IsRead read c = (d : Document) × (read ≡ Ok d) × (length (text d) ≤ longest_text) × (content.Doc d ≡ c)

document-got : (read : Result Document ℕ) (c : Content) → document_of read ≡ came.Got c → IsRead read c
document-got (Err at) c is = absurd (cc)
document-got (Ok d) c is =
    elim (nat_lt longest_text (length (text d)))
    as (λ b. nat_lt longest_text (length (text d)) ≡ b → (if b then came.TooLarge else came.Got (content.Doc d)) ≡ came.Got c → IsRead (Ok d) c) [
      | true ↦ λ long so. absurd (too-large came.TooLarge c refl so)
      | false ↦ λ fits so. (d, refl, ltb-false longest_text (length (text d)) fits, got-same (content.Doc d) c so)
    ] refl is
  where
    too-large : (long : Outcome Content) (c : Content) → long ≡ came.TooLarge → long ≡ came.Got c → ⊥
    too-large long c is so = cc

    got-same : (one other : Content) → came.Got one ≡ came.Got other → one ≡ other
    got-same one other so = cc

content-got : (plan : Plan) (draft : Option ℕ) (o : Outcome Checked) (c : Content) (old new : Sees) → plan.draft ≡ draft → IsChecked plan o old new → came.Got c ≡ with_content draft o → IsGot plan c old new
content-got plan (Some draft) (came.Got checked) c old new drafts is got =
    let file : content.File checked ≡ c = cc in
    subst (λ c. IsGot plan c old new) file ((draft, drafts), checked-got plan (came.Got checked) checked old new is refl)
content-got plan None (came.Got checked) c old new drafts is got =
    let (d, reads, fits, same) = document-got (reading checked.bytes) c (sym got) in
    subst (λ c. IsGot plan c old new) same (drafts, (checked, checked-got plan (came.Got checked) checked old new is refl, reads, fits))
content-got plan draft came.Gone c old new drafts is got = absurd (cc)
content-got plan draft (came.Refused status) c old new drafts is got = absurd (cc)
content-got plan draft came.NoChecksum c old new drafts is got = absurd (cc)
content-got plan draft (came.Differs said found) c old new drafts is got = absurd (cc)
content-got plan draft came.TooLarge c old new drafts is got = absurd (cc)
content-got plan draft (came.BadAnswer at) c old new drafts is got = absurd (cc)
content-got plan draft (came.BadDocument at) c old new drafts is got = absurd (cc)
content-got plan draft came.Fault c old new drafts is got = absurd (cc)

pub fetch-got : (plan : Plan) (c : Content) (old new : Sees) → IsFetched plan (came.Got c) old new → IsGot plan c old new
fetch-got plan c old new (checked, is, so) = content-got plan plan.draft checked c old new refl is so
