-- How far exchanges reach that did not fail.
use native.Mathlib.Omega.{arith}
use Rattle.std.proofs.Common.{◌≡◌, ◌⊎◌, ℕ, ◌+◌, ◌≤◌, inl, inr, List, [], ◌∷◌, ◌++◌, length, Option, Some, None, Result, Ok, Err, OnErr, refl, sym, ◌∙◌, ap, subst, length-append}
use Rattle.mvn_coords.specs.Path.{suffix_of}
use Rattle.mvn_coords.specs.declared.fault.Side.{Side}
use Rattle.mvn_coords.specs.declared.fault.Side.TheVariants as side
use Rattle.outside.specs.Told.{behind, in_front}
use Rattle.outside_remote.specs.declared.exchange.Asked.{Asked}
use Rattle.outside_remote.specs.declared.exchange.RemoteFault.{RemoteFault}
use Rattle.outside_remote.specs.declared.exchange.RemoteFault.TheVariants.{Failed, NoMemory}
use Rattle.outside_remote.specs.declared.exchange.Exchange.{Exchange}
use Rattle.outside_remote.specs.Exchanges.{Sees, IsExchange, exchanged}
use Rattle.fetch_plan.specs.declared.Plan.{Plan}
use Rattle.remote_fetch.specs.declared.replies.Reply.{Reply}
use Rattle.remote_fetch.specs.declared.replies.Reply.TheVariants.{Body, Gone, Refused, TooLarge, Bad, Fault}
use Rattle.fetch_plan.specs.declared.Outcome.{Outcome}
use Rattle.fetch_plan.specs.declared.Outcome.TheVariants as came
use Rattle.remote_fetch.specs.declared.fetching.Checked.{Checked}
use Rattle.remote_fetch.specs.Exchanged.{IsAsked, Reaches, asked_for}
use Rattle.remote_fetch.specs.Fetching.{HasGot, IsByMd5, AfterSha1, IsSided, IsChecked, body_in, said_of, longest_side}

-- ---- what is told
append-assoc : {X : Type 0} (xs ys zs : List X) → (xs ++ ys) ++ zs ≡ xs ++ (ys ++ zs)
append-assoc [] ys zs = refl
append-assoc (x ∷ xs) ys zs = ap (λ l. x ∷ l) (append-assoc xs ys zs)

append-nil : {X : Type 0} (xs : List X) → xs ++ [] ≡ xs
append-nil [] = refl
append-nil (x ∷ xs) = ap (λ l. x ∷ l) (append-nil xs)

pub after-twice : {X : Type 0} (told : Option (List X)) (xs ys : List X) → behind (behind told xs) ys ≡ behind told (xs ++ ys)
after-twice None xs ys = refl
after-twice (Some es) xs ys = ap (λ l. Some l) (append-assoc es xs ys)

pub after-none : {X : Type 0} (told : Option (List X)) → told ≡ behind told []
after-none None = refl
after-none (Some es) = ap (λ l. Some l) (sym (append-nil es))

in_front-twice : {X : Type 0} (xs ys : List X) (told : Option (List X)) → in_front xs (in_front ys told) ≡ in_front (xs ++ ys) told
in_front-twice xs ys None = refl
in_front-twice xs ys (Some es) = ap (λ l. Some l) (sym (append-assoc xs ys es))

in_front-none : {X : Type 0} (told : Option (List X)) → told ≡ in_front [] told
in_front-none None = refl
in_front-none (Some es) = refl

-- ---- exchanges
-- the exchange did not fail
abbrev pub HasNotFailed : Result (List ℕ) RemoteFault → Type 0
HasNotFailed (Ok bytes) = Unit {0}
HasNotFailed (Err NoMemory) = Unit {0}
HasNotFailed (Err Failed) = ⊥

pub reaches-none : (most : ℕ) (s : Sees) → Reaches most s s
reaches-none most s =
    record { faults = refl; made = ([], omega arith, after-none s.made); left = ([], omega arith, in_front-none s.left) }

pub exchange-reaches : (asked : Asked) (gave : Result (List ℕ) RemoteFault) (old new : Sees) → IsExchange asked gave old new → HasNotFailed gave → Reaches 1 old new
exchange-reaches asked (Ok bytes) old new is so =
    let (whole, _, left) = is.left in
    record { faults = is.cause; made = (exchanged asked (Ok bytes) ∷ [], omega arith, is.made); left = (whole ∷ [], omega arith, left) }
exchange-reaches asked (Err NoMemory) old new is so =
    record { faults = is.cause; made = made is.made; left = ([], omega arith, sym is.left ∙ in_front-none new.left) }
  where
    made : (new.made ≡ old.made) ⊎ (new.made ≡ behind old.made (exchanged asked (Err NoMemory) ∷ []))
        → (exchanges : List Exchange) × (length exchanges ≤ 1) × (new.made ≡ behind old.made exchanges)
    made (inl same) = ([], omega arith, same ∙ after-none old.made)
    made (inr added) = (exchanged asked (Err NoMemory) ∷ [], omega arith, added)
exchange-reaches asked (Err Failed) old new is so = absurd so

pub reaches-then : (n m most : ℕ) (old mid new : Sees) → Reaches n old mid → Reaches m mid new → n + m ≤ most → Reaches most old new
reaches-then n m most old mid new first more fits =
    let (xs, few, made) = first.made in
    let (ys, few', made') = more.made in
    let (given, some, left) = first.left in
    let (given', some', left') = more.left in
    record {
      faults = more.faults ∙ first.faults;
      made = (xs ++ ys, omega (arith, few, few', fits, length-append xs ys), made' ∙ ap (λ m. behind m ys) made ∙ after-twice old.made xs ys);
      left = (given ++ given', omega (arith, some, some', fits, length-append given given'), left ∙ ap (λ l. in_front given l) left' ∙ in_front-twice given given' new.left);
    }

-- the exchange of a reply did not fail
abbrev pub IsThere : Reply → Type 0
IsThere Fault = ⊥
IsThere reply = Unit {0}

asked-reaches : (plan : Plan) (suffix : List ℕ) (limit : ℕ) (reply : Reply) (old new : Sees) → IsAsked plan suffix limit reply old new → IsThere reply → Reaches 1 old new
asked-reaches plan suffix limit reply old new (Ok bytes, is, reads) there = exchange-reaches (asked_for plan suffix limit) (Ok bytes) old new is tt
asked-reaches plan suffix limit reply old new (Err Failed, is, reads) there = absurd (subst IsThere reads there)
asked-reaches plan suffix limit reply old new (Err NoMemory, is, reads) there = absurd reads

-- an exchange that did not fail, and then more
pub reaches-after : (plan : Plan) (suffix : List ℕ) (limit : ℕ) (reply : Reply) (more : ℕ) (old mid new : Sees) → IsAsked plan suffix limit reply old mid → IsThere reply → Reaches more mid new
    → Reaches (1 + more) old new
reaches-after plan suffix limit reply more old mid new asked there rest =
    reaches-then 1 more (1 + more) old mid new (asked-reaches plan suffix limit reply old mid asked there) rest (omega arith)

-- a body is no fault
pub body-there : (reply : Reply) (bytes : List ℕ) → body_in reply ≡ Ok bytes → IsThere reply
body-there (Body body) bytes is = tt
body-there Gone bytes is = tt
body-there (Refused status) bytes is = tt
body-there TooLarge bytes is = tt
body-there (Bad at) bytes is = tt
body-there Fault bytes is = absurd (cc)

pub err-then : {T E P Q : Type 0} (r : Result T E) → (P → Q) → OnErr r P → OnErr r Q
err-then (Ok x) f is = tt
err-then (Err e) f is = f is

-- ---- fetches in which bytes were got
said-there : (bytes : List ℕ) (s : Side) (reply : Reply) (o : Outcome Checked) → o ≡ said_of bytes s reply → HasGot o → IsThere reply
said-there bytes s (Body said) o is got = tt
said-there bytes s Gone o is got = tt
said-there bytes s (Refused status) o is got = tt
said-there bytes s TooLarge o is got = tt
said-there bytes s (Bad at) o is got = tt
said-there bytes s Fault o is got = absurd (subst HasGot is got)

-- one reply, and nothing more
said-reaches : (plan : Plan) (bytes : List ℕ) (s : Side) (reply : Reply) (o : Outcome Checked) (more : ℕ) (old mid new : Sees)
    → IsAsked plan (suffix_of s) longest_side reply old mid → (o ≡ said_of bytes s reply) × (new ≡ mid) → HasGot o → Reaches (1 + more) old new
said-reaches plan bytes s reply o more old mid new asked (is, same) got =
    subst (λ n. Reaches (1 + more) old n) (sym same)
    (reaches-after plan (suffix_of s) longest_side reply more old mid mid asked (said-there bytes s reply o is got) (reaches-none more mid))

md5-reaches : (plan : Plan) (bytes : List ℕ) (o : Outcome Checked) (old new : Sees) → IsByMd5 plan bytes o old new → HasGot o → Reaches 1 old new
md5-reaches plan bytes o old new (reply, asked, is) got = said-reaches plan bytes side.Md5 reply o 0 old new new asked (is, refl) got

after-sha-reaches : (plan : Plan) (bytes : List ℕ) (reply : Reply) (o : Outcome Checked) (old mid new : Sees) → IsAsked plan (suffix_of side.Sha1) longest_side reply old mid
    → AfterSha1 plan bytes reply o mid new → HasGot o → Reaches 2 old new
after-sha-reaches plan bytes (Body said) o old mid new asked after got = said-reaches plan bytes side.Sha1 (Body said) o 1 old mid new asked after got
after-sha-reaches plan bytes Gone o old mid new asked after got =
    reaches-after plan (suffix_of side.Sha1) longest_side Gone 1 old mid new asked tt (md5-reaches plan bytes o mid new after got)
after-sha-reaches plan bytes (Refused status) o old mid new asked after got = said-reaches plan bytes side.Sha1 (Refused status) o 1 old mid new asked after got
after-sha-reaches plan bytes TooLarge o old mid new asked after got = said-reaches plan bytes side.Sha1 TooLarge o 1 old mid new asked after got
after-sha-reaches plan bytes (Bad at) o old mid new asked after got = said-reaches plan bytes side.Sha1 (Bad at) o 1 old mid new asked after got
after-sha-reaches plan bytes Fault o old mid new asked after got = said-reaches plan bytes side.Sha1 Fault o 1 old mid new asked after got

sided-reaches : (plan : Plan) (bytes : List ℕ) (o : Outcome Checked) (old new : Sees) → IsSided plan bytes o old new → HasGot o → Reaches 2 old new
sided-reaches plan bytes o old new (reply, mid, asked, after) got = after-sha-reaches plan bytes reply o old mid new asked after got

-- what ended without a body was not got
ended-got : (ended o : Outcome Checked) (mid new : Sees) → (o ≡ ended) × (new ≡ mid) → HasGot o → HasGot ended
ended-got ended o mid new (is, same) got = subst HasGot is got

pub checked-reaches : (plan : Plan) (o : Outcome Checked) (old new : Sees) → IsChecked plan o old new → HasGot o → Reaches 3 old new
checked-reaches plan o old new (Body bytes, mid, asked, after) got =
    reaches-after plan [] plan.limit (Body bytes) 2 old mid new asked tt (sided-reaches plan bytes o mid new after got)
checked-reaches plan o old new (Gone, mid, asked, after) got = absurd (ended-got came.Gone o mid new after got)
checked-reaches plan o old new (Refused status, mid, asked, after) got = absurd (ended-got (came.Refused status) o mid new after got)
checked-reaches plan o old new (TooLarge, mid, asked, after) got = absurd (ended-got came.TooLarge o mid new after got)
checked-reaches plan o old new (Bad at, mid, asked, after) got = absurd (ended-got (came.BadAnswer at) o mid new after got)
checked-reaches plan o old new (Fault, mid, asked, after) got = absurd (ended-got came.Fault o mid new after got)
