-- Where a pass runs out of memory.
use Rattle.std.proofs.Common.{◌≡◌, ◌⊎◌, inl, inr, ℕ, Bool, true, false, List, [], ◌∷◌, ◌++◌, map, Result, Ok, Err, refl, sym, subst, ap, ◌∙◌}
use Rattle.std.specs.List.{AllByRecursion}
use Rattle.std.proofs.lemmas.Bool.{false≢true}
use Rattle.repo_model.specs.Command.{Command, collect, unlist}
use Rattle.repo_model.specs.History.{Entry, Fits, Legal, after}
use Rattle.repo_model.specs.Reply.{Reply, no_memory, store_fault, unlisted, is_free, is_unlist_reply, is_collect_reply, can_get}
use Rattle.repo_model.specs.Settings.{Settings}
use Rattle.repo_model.specs.State.{State}
use Rattle.repo_laws.proofs.Answered.{reply-can_get}
use Rattle.repo_course.specs.Asking.{LiesIn, IsWoven}
use Rattle.repo_course.specs.Cleaning.{Passes, Store, Removes, cause_of, cleaned, commands_in, not_collected, not_unlisted, removing, replies_in}
use Rattle.repo_course.specs.declared.outcomes.CleanFault.{CleanFault}
use Rattle.repo_course.specs.declared.outcomes.CleanFault.TheVariants.{NoMemory}
use Rattle.repo_course.specs.declared.outcomes.Cleaned.{Cleaned}
use Rattle.pass_laws.specs.Asked.{WantsByCommand, WantsByRemoval}

-- it fits some state
abbrev pub FitsOne : Settings → Entry → Type 0
FitsOne settings e = (s : State) × Fits settings s e

there : (settings : Settings) (before rest : List Entry) (e : Entry) (s : State) → Legal settings s (before ++ e ∷ rest) → FitsOne settings e × ((u : State) × Legal settings u rest)
there settings [] rest e s legal = ((s, legal.0), (after settings s e, legal.1))
there settings (b ∷ before) rest e s legal = there settings before rest e (after settings s b) legal.1

all-fit : (settings : Settings) (entries history : List Entry) (s : State) → Legal settings s history → LiesIn entries history → AllByRecursion (FitsOne settings) entries
all-fit settings [] history s legal lies = tt
all-fit settings (e ∷ entries) history s legal (before, rest, parts, lies) =
    let here = there settings before rest e s (subst (Legal settings s) parts legal) in
    (here.0, all-fit settings entries rest here.1.0 here.1.1 lies)

-- a reply that is free and counts as out of memory is out of memory
wants-free : (reply : Reply) → is_free reply ≡ true → NoMemory ≡ cause_of reply → reply ≡ no_memory
wants-free no_memory free cause = refl
wants-free store_fault free cause = cc
wants-free reply free cause = absurd (false≢true free)

by-free : (settings : Settings) (e : Entry) (b : Bool) → is_free e.reply ≡ b → FitsOne settings e → can_get e.command e.reply ≡ false → NoMemory ≡ cause_of e.reply → e.reply ≡ no_memory
by-free settings e true is fits cannot cause = wants-free e.reply is cause
by-free settings e false is fits cannot cause = absurd (false≢true (sym cannot ∙ reply-can_get settings fits.0 e fits.1 is))

none-behind : (replies : List Reply) (reply : Reply) → [] ≡ replies ++ reply ∷ [] → ⊥
none-behind [] reply same = cc
none-behind (r ∷ replies) reply same = cc

not-unlisted : (settings : Settings) (entries : List Entry) (asked : List (List ℕ)) (counts : List ℕ) (reply : Reply) → AllByRecursion (FitsOne settings) entries
    → commands_in entries ≡ map unlist asked → replies_in entries ≡ map unlisted counts ++ reply ∷ [] → is_unlist_reply reply ≡ false → NoMemory ≡ cause_of reply
    → WantsByCommand entries
not-unlisted settings [] asked counts reply fit commands replies isnt cause = absurd (none-behind (map unlisted counts) reply replies)
not-unlisted settings (e ∷ es) [] counts reply fit commands replies isnt cause = absurd (cc)
not-unlisted settings (e ∷ es) (repo ∷ asked) [] reply fit commands replies isnt cause =
    let command : e.command ≡ unlist repo = cc in
    let same : e.reply ≡ reply = cc in
    let cannot : can_get e.command e.reply ≡ false = subst (λ (c : Command). can_get c e.reply ≡ false) (sym command) (subst (λ (r : Reply). is_unlist_reply r ≡ false) (sym same) isnt) in
    inl (by-free settings e (is_free e.reply) refl fit.0 cannot (cause ∙ ap cause_of (sym same)))
not-unlisted settings (e ∷ es) (repo ∷ asked) (n ∷ counts) reply fit commands replies isnt cause =
    let commands' : commands_in es ≡ map unlist asked = cc in
    let replies' : replies_in es ≡ map unlisted counts ++ reply ∷ [] = cc in
    inr (not-unlisted settings es asked counts reply fit.1 commands' replies' isnt cause)

any-last : (first : List Entry) (last : Entry) → last.reply ≡ no_memory → WantsByCommand (first ++ last ∷ [])
any-last [] last is = inl is
any-last (e ∷ first) last is = inr (any-last first last is)

last-fits : (settings : Settings) (first : List Entry) (last : Entry) → AllByRecursion (FitsOne settings) (first ++ last ∷ []) → FitsOne settings last
last-fits settings [] last fit = fit.0
last-fits settings (e ∷ first) last fit = last-fits settings first last fit.1

not-collected : (settings : Settings) (last : Entry) → FitsOne settings last → last.command ≡ collect → is_collect_reply last.reply ≡ false → NoMemory ≡ cause_of last.reply
    → last.reply ≡ no_memory
not-collected settings last fits command isnt cause =
    by-free settings last (is_free last.reply) refl fits (subst (λ (c : Command). can_get c last.reply ≡ false) (sym command) isnt) cause

same-fault : (fault other : CleanFault) → (let r : Result Cleaned CleanFault = Err fault in r ≡ Err other) → fault ≡ other
same-fault fault other same = cc

removal-wants : (count : ℕ) (removed : Result ℕ CleanFault) → (let r : Result Cleaned CleanFault = Err NoMemory in r ≡ cleaned count removed) → removed ≡ Err NoMemory
removal-wants count (Ok n) same = absurd (cc)
removal-wants count (Err fault) same = let is : NoMemory ≡ fault = cc in ap Err (sym is)

pub wanting : (settings : Settings) (start end : State) (repos : List (List ℕ)) (entries : List Entry) (old new : Store) → IsWoven settings start entries end
    → Passes repos entries old new (Err NoMemory) → WantsByCommand entries ⊎ WantsByRemoval entries old new
wanting settings start end repos entries old new woven (not_unlisted fault (asked, rest, counts, reply, parts, commands, replies, (isnt, says)) same is) =
    let fit = all-fit settings entries woven.history start woven.legal woven.holds in
    inl (not-unlisted settings entries asked counts reply fit commands replies isnt (same-fault NoMemory fault is ∙ says))
wanting settings start end repos entries old new woven (not_collected first last count fault parts unlists (command, (isnt, says)) same is) =
    let fit = subst (AllByRecursion (FitsOne settings)) parts (all-fit settings entries woven.history start woven.legal woven.holds) in
    let wants = not-collected settings last (last-fits settings first last fit) command isnt (same-fault NoMemory fault is ∙ says) in
    inl (subst WantsByCommand (sym parts) (any-last first last wants))
wanting settings start end repos entries old new woven (removing first last count blobs removed parts unlists (command, (expired, says)) removes is) =
    inr (first, last, expired, blobs, parts, command, says, subst (Removes blobs old new) (removal-wants count removed is) removes)
