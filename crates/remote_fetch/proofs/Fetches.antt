-- What a fetch comes to, by the exchanges that it made.
use native.Mathlib.Omega.{arith}
use Rattle.std.proofs.Common.{◌≡◌, ℕ, ◌+◌, ◌≤◌, List, [], ◌∷◌, ◌++◌, length, Some, Result, Ok, Err, refl, sym, ◌∙◌, ap, subst}
use Rattle.mvn_coords.specs.Path.{suffix_of}
use Rattle.mvn_coords.specs.declared.fault.Side.{Side}
use Rattle.mvn_coords.specs.declared.fault.Side.TheVariants as side
use Rattle.outside.specs.Told.{behind}
use Rattle.outside_remote.specs.declared.exchange.Exchange.{Exchange}
use Rattle.outside_remote.specs.declared.exchange.RemoteFault.{RemoteFault}
use Rattle.outside_remote.specs.declared.exchange.RemoteFault.TheVariants.{Failed, NoMemory}
use Rattle.outside_remote.specs.Exchanges.{Sees, exchanged}
use Rattle.fetch_plan.specs.declared.Plan.{Plan}
use Rattle.fetch_plan.specs.declared.Outcome.{Outcome}
use Rattle.remote_fetch.specs.declared.replies.Reply.{Reply}
use Rattle.remote_fetch.specs.declared.replies.Reply.TheVariants.{Body, Gone, Refused, TooLarge, Bad, Fault}
use Rattle.remote_fetch.specs.declared.fetching.Checked.{Checked}
use Rattle.remote_fetch.specs.declared.contents.Content.{Content}
use Rattle.remote_fetch.specs.Exchanged.{IsAsked, IsReply, asked_for}
use Rattle.remote_fetch.specs.Fetching.{IsByMd5, AfterSha1, AfterBody, IsChecked, IsFetched, body_in, said_of, longest_side, with_content}
use Rattle.remote_fetch.proofs.Reaching.{after-twice, after-none}
use Rattle.remote_fetch.proofs.Unique.{answer-unique}

-- ---- one exchange
abbrev made_of : Plan → List ℕ → ℕ → Result (List ℕ) RemoteFault → Exchange
made_of plan suffix limit gave = exchanged (asked_for plan suffix limit) gave

asked-adds : (plan : Plan) (suffix : List ℕ) (limit : ℕ) (reply : Reply) (old new : Sees) → IsAsked plan suffix limit reply old new
    → (gave : Result (List ℕ) RemoteFault) × IsReply limit gave reply × (new.made ≡ behind old.made (made_of plan suffix limit gave ∷ []))
asked-adds plan suffix limit reply old new (Ok bytes, is, reads) = (Ok bytes, reads, is.made)
asked-adds plan suffix limit reply old new (Err Failed, is, reads) = (Err Failed, reads, is.made)
asked-adds plan suffix limit reply old new (Err NoMemory, is, reads) = absurd reads

reply-unique : (limit : ℕ) (gave : Result (List ℕ) RemoteFault) (one other : Reply) → IsReply limit gave one → IsReply limit gave other → one ≡ other
reply-unique limit (Ok bytes) one other x y = answer-unique limit bytes one other x y
reply-unique limit (Err Failed) one other x y = x ∙ sym y
reply-unique limit (Err NoMemory) one other x y = absurd x

-- ---- the exchanges that were made, and what they say
abbrev Made : Sees → Sees → (List Exchange → Type 0) → Type 0
Made old new P = (xs : List Exchange) × (new.made ≡ behind old.made xs) × P xs

ends : {P : List Exchange → Type 0} (old new : Sees) → new ≡ old → P [] → Made old new P
ends old new same is = ([], ap (λ (s : Sees). s.made) same ∙ after-none old.made, is)

-- an exchange, and what comes of its reply
abbrev Step : Plan → List ℕ → ℕ → (Reply → Outcome Checked → List Exchange → Type 0) → Outcome Checked → List Exchange → Type 0
Step plan suffix limit After o xs =
    (gave : Result (List ℕ) RemoteFault) × (rest : List Exchange) × (xs ≡ made_of plan suffix limit gave ∷ rest)
    × (reply : Reply) × IsReply limit gave reply × After reply o rest

step-made : (plan : Plan) (suffix : List ℕ) (limit : ℕ) (After : Reply → Outcome Checked → List Exchange → Type 0) (reply : Reply) (o : Outcome Checked) (old mid new : Sees)
    → IsAsked plan suffix limit reply old mid → Made mid new (After reply o) → Made old new (Step plan suffix limit After o)
step-made plan suffix limit After reply o old mid new asked (rest, made, after) =
    let (gave, reads, adds) = asked-adds plan suffix limit reply old mid asked in (
      made_of plan suffix limit gave ∷ rest,
      made ∙ ap (λ m. behind m rest) adds ∙ after-twice old.made (made_of plan suffix limit gave ∷ []) rest,
      (gave, rest, refl, reply, reads, after),
    )

first-same : (plan : Plan) (suffix : List ℕ) (limit : ℕ) (g h : Result (List ℕ) RemoteFault) (xs ys : List Exchange)
    → (made_of plan suffix limit g ∷ xs) ≡ (made_of plan suffix limit h ∷ ys) → (g ≡ h) × (xs ≡ ys)
first-same plan suffix limit g h xs ys is =
    let heads : made_of plan suffix limit g ≡ made_of plan suffix limit h = cc in
    (ap (λ (e : Exchange). e.gave) heads, cc)

step-unique : (plan : Plan) (suffix : List ℕ) (limit : ℕ) (After : Reply → Outcome Checked → List Exchange → Type 0)
    → ((r : Reply) (a b : Outcome Checked) (rest : List Exchange) → After r a rest → After r b rest → a ≡ b)
    → (one other : Outcome Checked) (xs : List Exchange) → Step plan suffix limit After one xs → Step plan suffix limit After other xs → one ≡ other
step-unique plan suffix limit After same one other xs (g, rest, is, r, reads, after) (g', rest', is', r', reads', after') =
    let (gaves, rests) = first-same plan suffix limit g' g rest' rest (sym is' ∙ is) in
    let replies : r' ≡ r = reply-unique limit g r' r (subst (λ x. IsReply limit x r') gaves reads') reads in
    same r one other rest after (subst (λ x. After x other rest) replies (subst (λ x. After r' other x) rests after'))

-- an exchange and at most so many more
step-short : (plan : Plan) (suffix : List ℕ) (limit : ℕ) (After : Reply → Outcome Checked → List Exchange → Type 0) (most : ℕ)
    → ((r : Reply) (o : Outcome Checked) (rest : List Exchange) → After r o rest → length rest ≤ most)
    → (o : Outcome Checked) (xs : List Exchange) → Step plan suffix limit After o xs → length xs ≤ most + 1
step-short plan suffix limit After most few o xs (g, rest, is, r, reads, after) = omega (arith, few r o rest after, ap length is)

-- ---- the side files
-- no more exchanges
abbrev Last : List ℕ → Side → Reply → Outcome Checked → List Exchange → Type 0
Last bytes s reply o xs = (o ≡ said_of bytes s reply) × (xs ≡ [])

last-unique : (bytes : List ℕ) (s : Side) (r : Reply) (a b : Outcome Checked) (xs : List Exchange) → Last bytes s r a xs → Last bytes s r b xs → a ≡ b
last-unique bytes s r a b xs x y = x.0 ∙ sym y.0

last-short : (bytes : List ℕ) (s : Side) (r : Reply) (o : Outcome Checked) (xs : List Exchange) → Last bytes s r o xs → length xs ≤ 0
last-short bytes s r o xs x = omega (arith, ap length x.1)

abbrev ByMd5 : Plan → List ℕ → Outcome Checked → List Exchange → Type 0
ByMd5 plan bytes = Step plan (suffix_of side.Md5) longest_side (Last bytes side.Md5)

md5-made : (plan : Plan) (bytes : List ℕ) (o : Outcome Checked) (old new : Sees) → IsByMd5 plan bytes o old new → Made old new (ByMd5 plan bytes o)
md5-made plan bytes o old new (reply, asked, is) =
    step-made plan (suffix_of side.Md5) longest_side (Last bytes side.Md5) reply o old new new asked (ends new new refl (is, refl))

md5-unique : (plan : Plan) (bytes : List ℕ) (a b : Outcome Checked) (xs : List Exchange) → ByMd5 plan bytes a xs → ByMd5 plan bytes b xs → a ≡ b
md5-unique plan bytes a b xs x y = step-unique plan (suffix_of side.Md5) longest_side (Last bytes side.Md5) (last-unique bytes side.Md5) a b xs x y

md5-short : (plan : Plan) (bytes : List ℕ) (o : Outcome Checked) (xs : List Exchange) → ByMd5 plan bytes o xs → length xs ≤ 1
md5-short plan bytes o xs x = step-short plan (suffix_of side.Md5) longest_side (Last bytes side.Md5) 0 (last-short bytes side.Md5) o xs x

abbrev AfterSha : Plan → List ℕ → Reply → Outcome Checked → List Exchange → Type 0
AfterSha plan bytes Gone o xs = ByMd5 plan bytes o xs
AfterSha plan bytes reply o xs = Last bytes side.Sha1 reply o xs

after-sha-made : (plan : Plan) (bytes : List ℕ) (reply : Reply) (o : Outcome Checked) (old new : Sees) → AfterSha1 plan bytes reply o old new → Made old new (AfterSha plan bytes reply o)
after-sha-made plan bytes (Body said) o old new (is, same) = ends old new same (is, refl)
after-sha-made plan bytes Gone o old new is = md5-made plan bytes o old new is
after-sha-made plan bytes (Refused status) o old new (is, same) = ends old new same (is, refl)
after-sha-made plan bytes TooLarge o old new (is, same) = ends old new same (is, refl)
after-sha-made plan bytes (Bad at) o old new (is, same) = ends old new same (is, refl)
after-sha-made plan bytes Fault o old new (is, same) = ends old new same (is, refl)

after-sha-unique : (plan : Plan) (bytes : List ℕ) (r : Reply) (a b : Outcome Checked) (xs : List Exchange) → AfterSha plan bytes r a xs → AfterSha plan bytes r b xs → a ≡ b
after-sha-unique plan bytes (Body said) a b xs x y = x.0 ∙ sym y.0
after-sha-unique plan bytes Gone a b xs x y = md5-unique plan bytes a b xs x y
after-sha-unique plan bytes (Refused status) a b xs x y = x.0 ∙ sym y.0
after-sha-unique plan bytes TooLarge a b xs x y = x.0 ∙ sym y.0
after-sha-unique plan bytes (Bad at) a b xs x y = x.0 ∙ sym y.0
after-sha-unique plan bytes Fault a b xs x y = x.0 ∙ sym y.0

after-sha-short : (plan : Plan) (bytes : List ℕ) (r : Reply) (o : Outcome Checked) (xs : List Exchange) → AfterSha plan bytes r o xs → length xs ≤ 1
after-sha-short plan bytes (Body said) o xs x = omega (arith, ap length x.1)
after-sha-short plan bytes Gone o xs x = md5-short plan bytes o xs x
after-sha-short plan bytes (Refused status) o xs x = omega (arith, ap length x.1)
after-sha-short plan bytes TooLarge o xs x = omega (arith, ap length x.1)
after-sha-short plan bytes (Bad at) o xs x = omega (arith, ap length x.1)
after-sha-short plan bytes Fault o xs x = omega (arith, ap length x.1)

abbrev BySides : Plan → List ℕ → Outcome Checked → List Exchange → Type 0
BySides plan bytes = Step plan (suffix_of side.Sha1) longest_side (AfterSha plan bytes)

-- ---- the whole
abbrev AfterFirst : Plan → Result (List ℕ) (Outcome Checked) → Outcome Checked → List Exchange → Type 0
AfterFirst plan (Ok bytes) o xs = BySides plan bytes o xs
AfterFirst plan (Err ended) o xs = (o ≡ ended) × (xs ≡ [])

after-first-made : (plan : Plan) (body : Result (List ℕ) (Outcome Checked)) (o : Outcome Checked) (old new : Sees) → AfterBody plan body o old new → Made old new (AfterFirst plan body o)
after-first-made plan (Ok bytes) o old new (reply, mid, asked, after) =
    step-made plan (suffix_of side.Sha1) longest_side (AfterSha plan bytes) reply o old mid new asked (after-sha-made plan bytes reply o mid new after)
after-first-made plan (Err ended) o old new (is, same) = ends old new same (is, refl)

after-first-unique : (plan : Plan) (body : Result (List ℕ) (Outcome Checked)) (a b : Outcome Checked) (xs : List Exchange) → AfterFirst plan body a xs → AfterFirst plan body b xs → a ≡ b
after-first-unique plan (Ok bytes) a b xs x y = step-unique plan (suffix_of side.Sha1) longest_side (AfterSha plan bytes) (after-sha-unique plan bytes) a b xs x y
after-first-unique plan (Err ended) a b xs x y = x.0 ∙ sym y.0

after-first-short : (plan : Plan) (body : Result (List ℕ) (Outcome Checked)) (o : Outcome Checked) (xs : List Exchange) → AfterFirst plan body o xs → length xs ≤ 2
after-first-short plan (Ok bytes) o xs x = step-short plan (suffix_of side.Sha1) longest_side (AfterSha plan bytes) 1 (after-sha-short plan bytes) o xs x
after-first-short plan (Err ended) o xs x = omega (arith, ap length x.1)

abbrev Whole : Plan → Outcome Checked → List Exchange → Type 0
Whole plan = Step plan [] plan.limit (λ reply. AfterFirst plan (body_in reply))

checked-made : (plan : Plan) (o : Outcome Checked) (old new : Sees) → IsChecked plan o old new → Made old new (Whole plan o)
checked-made plan o old new (reply, mid, asked, after) =
    step-made plan [] plan.limit (λ reply. AfterFirst plan (body_in reply)) reply o old mid new asked (after-first-made plan (body_in reply) o mid new after)

whole-unique : (plan : Plan) (a b : Outcome Checked) (xs : List Exchange) → Whole plan a xs → Whole plan b xs → a ≡ b
whole-unique plan a b xs x y = step-unique plan [] plan.limit (λ reply. AfterFirst plan (body_in reply)) (λ reply. after-first-unique plan (body_in reply)) a b xs x y

pub fetch-short : (plan : Plan) (o : Outcome Content) (old new : Sees) → IsFetched plan o old new
    → (xs : List Exchange) × (length xs ≤ 3) × (new.made ≡ behind old.made xs)
fetch-short plan o old new (checked, is, so) =
    let (xs, made, whole) = checked-made plan checked old new is in
    (xs, step-short plan [] plan.limit (λ reply. AfterFirst plan (body_in reply)) 2 (λ reply. after-first-short plan (body_in reply)) checked xs whole, made)

-- ---- what was made is all that counts
some-inj : {X : Type 0} (a b : X) → Some a ≡ Some b → a ≡ b
some-inj a b is = cc

same-after : {X : Type 0} (es xs ys : List X) → (es ++ xs) ≡ (es ++ ys) → xs ≡ ys
same-after [] xs ys is = is
same-after (e ∷ es) xs ys is = same-after es xs ys cc

-- what was made after what was told
made-is : (before made xs : List Exchange) (old new : Sees) → old.made ≡ Some before → new.made ≡ Some (before ++ made) → new.made ≡ behind old.made xs → xs ≡ made
made-is before made xs old new told grown is =
    same-after before xs made (some-inj (before ++ xs) (before ++ made) (sym (ap (λ m. behind m xs) told) ∙ sym is ∙ grown))

pub fetch-unique : (plan : Plan) (one other : Outcome Content) (old new old' new' : Sees) (before before' made : List Exchange)
    → IsFetched plan one old new → IsFetched plan other old' new' → old.made ≡ Some before → new.made ≡ Some (before ++ made)
    → old'.made ≡ Some before' → new'.made ≡ Some (before' ++ made) → one ≡ other
fetch-unique plan one other old new old' new' before before' made (a, is, so) (b, is', so') told grown told' grown' =
    let (xs, added, whole) = checked-made plan a old new is in
    let (ys, added', whole') = checked-made plan b old' new' is' in
    let first = subst (λ zs. Whole plan a zs) (made-is before made xs old new told grown added) whole in
    let second = subst (λ zs. Whole plan b zs) (made-is before' made ys old' new' told' grown' added') whole' in
    so ∙ ap (λ c. with_content plan.draft c) (whole-unique plan a b made first second) ∙ sym so'
