-- What a pass over repositories says: by the replies to its entries it ends as it says, and where nothing fails it is the one that is played.
use Rattle.std.proofs.Common.{◌≡◌, ◌≢◌, ◌⊎◌, inl, inr, ℕ, ◌+◌, List, [], ◌∷◌, ◌++◌, length, map, arith, Some, None, Ok, Err, refl, sym, subst, ap, ◌∙◌}
use Rattle.std.specs.Prelude.{IsSome, min, sum, sum_by}
use Rattle.std.specs.List.{AllByRecursion}
use Rattle.std.proofs.lemmas.List.{map-append}
use Rattle.std.proofs.lemmas.List.Sums.{sum_by-append, sum_by-cons}
use Rattle.outside.specs.Faults.{Rose, last_count}
use Rattle.repo_model.specs.Command.{Command, unlist, collect}
use Rattle.repo_model.specs.History.{Entry, IsReply, Legal, after, due, wants_memory, failed, end as end_of}
use Rattle.repo_model.specs.Reply.{Reply, collected, no_draft, no_memory, store_fault, unlisted}
use Rattle.repo_model.specs.Settings.{Settings}
use Rattle.repo_model.specs.State.{State, hosted_of}
use Rattle.repo_model.specs.Turn.{turn, unlist_of}
use Rattle.repo_course.specs.Cleaning.{Passes, not_unlisted, not_collected, removing, SaysCollected, Store, Unlists, cause_of, cleaned, commands_in, replies_in}
use Rattle.repo_course.specs.Course.{Pass}
use Rattle.repo_course.specs.declared.outcomes.CleanFault.{CleanFault}
use Rattle.repo_course.specs.declared.outcomes.Cleaned.{Cleaned}
use Rattle.repo_course.specs.declared.outcomes.CleanFault.TheVariants as clean
use Rattle.course_laws.specs.Faultless.{done_by, due_entries, due_entry, garbage_by, pass_entries, unlisted_by}
use Rattle.course_laws.proofs.Alls.{all-joined, all-mapped}
use Rattle.course_laws.proofs.Told.{clock-stays, due-is, faults-are, faults-grow, moment-is}
use Rattle.course_laws.proofs.Passes.{ArePass, IsPassCommand, all-last, all-over, all-under}
use Rattle.course_laws.proofs.Rising.{Calm, not-risen}

-- their replies

abbrev IsPassReply : Reply → Type 0
IsPassReply (unlisted n) = Unit {0}
IsPassReply (collected expired blobs) = Unit {0}
IsPassReply _ = ⊥

turn-says : (settings : Settings) (s : State) (now : ℕ) (c : Command) → IsPassCommand c → IsPassReply (turn settings s now c).reply
turn-says settings s now (unlist repo) is =
    elim (hosted_of repo s) as (λ o. IsPassReply (unlist_of now o).reply) [ None ↦ tt | Some h ↦ tt ]
turn-says settings s now collect is = tt
turn-says settings s now _ is = absurd is

abbrev Says : State → Entry → Type 0
Says s e = IsPassReply e.reply ⊎ (e.reply ≡ no_memory) ⊎ ((e.reply ≡ store_fault) × Rose s.faults e.faults)

entry-says : (settings : Settings) (s : State) (e : Entry) → IsReply settings s e → IsPassCommand e.command → Says s e
entry-says settings s e (due is did) asked = inl (subst IsPassReply (sym is) (turn-says settings s e.moment e.command asked))
entry-says settings s e (wants_memory is can did) asked = inr (inl is)
entry-says settings s e (failed is can rose) asked = inr (inr (is, rose))

no-draft-missing : (s : State) (e : Entry) → Says s e → e.reply ≢ no_draft
no-draft-missing s e (inl says) is = subst IsPassReply is says
no-draft-missing s e (inr (inl says)) is = absurd (cc)
no-draft-missing s e (inr (inr says)) is = let said = says.0 in absurd (cc)

pub entries-find : (settings : Settings) (entries : List Entry) (s : State) → Legal settings s entries → ArePass entries
    → AllByRecursion (λ (e : Entry). e.reply ≢ no_draft) entries
entries-find settings [] s legal all = tt
entries-find settings (e ∷ entries) s legal all =
    (no-draft-missing s e (entry-says settings s e legal.0.reply all.0), entries-find settings entries (after settings s e) legal.1 all.1)

-- where the records did not fail

module _ (settings : Settings) where
  calm-entry : (e : Entry) (entries : List Entry) (s : State) → Legal settings s (e ∷ entries) → Calm s.faults (end_of settings s (e ∷ entries)).faults
      → (e.faults ≡ s.faults) × Calm (after settings s e).faults (end_of settings (after settings s e) entries).faults
  calm-entry e entries s legal calm =
      let up = legal.0.faults in
      let is_up = faults-are settings s e in
      let more = faults-grow settings entries (after settings s e) legal.1 in
      let calm-end = calm.0 in
      let calm-most = calm.1 in
      (omega arith, (omega arith, omega arith))

  -- no reply says so
  pub no-store-faults : (entries : List Entry) (s : State) → Legal settings s entries → Calm s.faults (end_of settings s entries).faults → ArePass entries
      → AllByRecursion (λ (e : Entry). e.reply ≢ store_fault) entries
  no-store-faults [] s legal calm all = tt
  no-store-faults (e ∷ entries) s legal calm all =
      let stood = calm-entry e entries s legal calm in
      (none stood.0 (entry-says settings s e legal.0.reply all.0), no-store-faults entries (after settings s e) legal.1 stood.1 all.1)
    where
      none : e.faults ≡ s.faults → Says s e → e.reply ≢ store_fault
      none stood (inl says) is = subst IsPassReply is says
      none stood (inr (inl says)) is = absurd (cc)
      none stood (inr (inr says)) is = not-risen s.faults e.faults says.1 (omega (arith, stood)) calm.1

  -- and none that memory ran out: they are the entries that are played
  entries-due : (entries : List Entry) (s : State) → Legal settings s entries → Calm s.faults (end_of settings s entries).faults → IsSome s.clock
      → AllByRecursion (λ (e : Entry). e.reply ≢ no_memory) entries → entries ≡ due_entries settings s (commands_in entries)
  entries-due [] s legal calm told some = refl
  entries-due (e ∷ entries) s legal calm told some =
      let stood = calm-entry e entries s legal calm in
      let d = due_entry settings s e.command in
      let is : e ≡ d = one stood.0 legal.0.reply in
      let rest = entries-due entries (after settings s e) legal.1 stood.1 (clock-stays settings s e told) some.1 in
      ap (λ (x : Entry). x ∷ entries) is
      ∙ ap (λ (es : List Entry). d ∷ es) (rest ∙ ap (λ (x : Entry). due_entries settings (after settings s x) (commands_in entries)) is)
    where
      one : e.faults ≡ s.faults → IsReply settings s e → e ≡ due_entry settings s e.command
      one stood (due replied did) = due-is settings s e e.command refl (moment-is s e.moment told legal.0.moment) stood replied
      one stood (wants_memory replied can did) = absurd (some.0 replied)
      one stood (failed replied can rose) = absurd (not-risen s.faults e.faults rose (omega (arith, stood)) calm.1)

-- why a command was not done

cause-is : (reply : Reply) → cause_of reply ≡ clean.StoreFault → reply ≡ store_fault
cause-is store_fault is = refl
cause-is _ is = absurd (cc)

no-cause : (fault : CleanFault) (reply : Reply) → fault ≡ cause_of reply → reply ≢ store_fault → fault ≡ clean.StoreFault → ⊥
no-cause fault reply cause some is = some (cause-is reply (sym cause ∙ is))

replied-all : (P : Reply → Type 0) (entries : List Entry) (replies : List Reply) → replies_in entries ≡ replies → AllByRecursion (λ (e : Entry). P e.reply) entries
    → AllByRecursion P replies
replied-all P entries replies is all = subst (λ (rs : List Reply). AllByRecursion P rs) is (all-over P (λ (e : Entry). e.reply) entries all)

-- a pass does not end by the records where no reply says that they failed
pub passes-hold : (repos : List (List ℕ)) (entries : List Entry) (old new : Store) (result : Pass) → Passes repos entries old new result
    → AllByRecursion (λ (e : Entry). e.reply ≢ store_fault) entries → result ≡ Err clean.StoreFault → ⊥
passes-hold repos entries old new result (not_unlisted fault u still is) none ends =
    let same : fault ≡ clean.StoreFault = (cc) in
    no-cause fault u.3 u.7.1 (all-last (λ r. r ≢ store_fault) (map unlisted u.2) u.3 (replied-all (λ r. r ≢ store_fault) entries _ u.6 none)) same
passes-hold repos entries old new result (not_collected first last count fault parts u c still is) none ends =
    let same : fault ≡ clean.StoreFault = (cc) in
    no-cause fault last.reply c.1.1
    (all-last (λ (e : Entry). e.reply ≢ store_fault) first last (subst (λ (es : List Entry). AllByRecursion (λ (e : Entry). e.reply ≢ store_fault) es) parts none)) same
passes-hold repos entries old new result (removing first last count blobs (Err clean.StoreFault) parts u c r is) none ends = r.4
passes-hold repos entries old new result (removing first last count blobs removed parts u c r is) none ends = absurd (cc)

-- sums over entries are those over their replies

sum-under : {X Y : Type 0} (f : Y → ℕ) (g : X → Y) (xs : List X) → sum_by (λ x. f (g x)) xs ≡ sum_by f (map g xs)
sum-under f g [] = refl
sum-under f g (x ∷ xs) =
    let here = sum_by-cons (λ y. f (g y)) x xs in
    let there = sum_by-cons f (g x) (map g xs) in
    let rest = sum-under f g xs in
    omega (arith, here, there, rest)

sum-none : {X : Type 0} (f : X → ℕ) → ((x : X) → f x ≡ 0) → (xs : List X) → sum_by f xs ≡ 0
sum-none f none [] = refl
sum-none f none (x ∷ xs) = let here = sum_by-cons f x xs in let zero-here = none x in let rest = sum-none f none xs in omega (arith, here, zero-here, rest)

sum-after : (f : Reply → ℕ) (counts : List ℕ) (last : Reply) → sum_by f (map unlisted counts ++ last ∷ []) ≡ sum_by (λ n. f (unlisted n)) counts + f last
sum-after f counts last =
    let all = sum_by-append f (map unlisted counts) (last ∷ []) in
    let one = sum_by-cons f last [] in
    let same = sum-under f unlisted counts in
    omega (arith, all, one, same)

-- a pass that is done, where nothing failed, is the one that is played
module _ (settings : Settings) (repos : List (List ℕ)) (entries first : List Entry) (last : Entry) (count : ℕ) (blobs : List ℕ) (parts : entries ≡ first ++ last ∷ [])
    (u : Unlists repos first (Ok count)) (c : (last.command ≡ collect) × SaysCollected last.reply (Ok blobs)) where
  pass-commands : commands_in entries ≡ map unlist repos ++ collect ∷ []
  pass-commands =
      ap commands_in parts ∙ map-append (λ (e : Entry). e.command) first (last ∷ [])
      ∙ ap (λ (cs : List Command). cs ++ last.command ∷ []) u.1 ∙ ap (λ (x : Command). map unlist repos ++ x ∷ []) c.0

  pass-replies : replies_in entries ≡ map unlisted u.0 ++ collected c.1.0 blobs ∷ []
  pass-replies =
      ap replies_in parts ∙ map-append (λ (e : Entry). e.reply) first (last ∷ [])
      ∙ ap (λ (rs : List Reply). rs ++ last.reply ∷ []) u.2 ∙ ap (λ (x : Reply). map unlisted u.0 ++ x ∷ []) c.1.1

  some-memory : AllByRecursion (λ (e : Entry). e.reply ≢ no_memory) entries
  some-memory =
      all-under (λ r. r ≢ no_memory) (λ (e : Entry). e.reply) entries
      (subst (λ (rs : List Reply). AllByRecursion (λ r. r ≢ no_memory) rs) (sym pass-replies)
      (all-joined (λ r. r ≢ no_memory) (map unlisted u.0) (collected c.1.0 blobs ∷ [])
      (all-mapped (λ r. r ≢ no_memory) unlisted (λ n is. cc) u.0) (λ is. cc, tt)))

  pass-is-played : (s : State) → Legal settings s entries → Calm s.faults (end_of settings s entries).faults → IsSome s.clock
      → entries ≡ pass_entries settings s repos
  pass-is-played s legal calm told = entries-due settings entries s legal calm told some-memory ∙ ap (due_entries settings s) pass-commands

  summed : (f : Reply → ℕ) → sum_by (λ (e : Entry). f e.reply) entries ≡ sum_by (λ n. f (unlisted n)) u.0 + f (collected c.1.0 blobs)
  summed f = sum-under f (λ (e : Entry). e.reply) entries ∙ ap (sum_by f) pass-replies ∙ sum-after f u.0 (collected c.1.0 blobs)

  pass-done : cleaned count (Ok (length blobs)) ≡ Ok (done_by entries)
  pass-done =
      let unlisted-sum : sum_by (λ (e : Entry). unlisted_by e.reply) entries ≡ sum u.0 = omega (arith, summed unlisted_by) in
      let garbage-sum : sum_by (λ (e : Entry). garbage_by e.reply) entries ≡ length blobs =
      omega (arith, summed garbage_by, sum-none (λ n. garbage_by (unlisted n)) (λ n. refl) u.0) in
      let counted : count ≡ min (sum_by (λ (e : Entry). unlisted_by e.reply) entries) last_count = u.3 ∙ ap (λ n. min n last_count) (sym unlisted-sum) in
      ap Ok (λ i. record { unlisted = counted i; removed = sym garbage-sum i })

abbrev pub as_pass : Cleaned → Pass
as_pass done = Ok done

-- one that is done tells what its entries did, no blob failed, and where nothing else did either it is the one that is played
pub pass-was : (settings : Settings) (repos : List (List ℕ)) (entries : List Entry) (old new : Store) (done : Cleaned) → Passes repos entries old new (Ok done)
    → (as_pass done ≡ as_pass (done_by entries)) × (new.faults ≡ old.faults)
    × ((s : State) → Legal settings s entries → Calm s.faults (end_of settings s entries).faults → IsSome s.clock → entries ≡ pass_entries settings s repos)
pass-was settings repos entries old new done (not_unlisted fault u still is) = absurd (cc)
pass-was settings repos entries old new done (not_collected first last count fault parts u c still is) = absurd (cc)
pass-was settings repos entries old new done (removing first last count blobs (Ok n) parts u c r is) = (
  is ∙ ap (λ m. cleaned count (Ok m)) r.0 ∙ pass-done settings repos entries first last count blobs parts u c,
  ap (λ (s : Store). s.faults) r.1,
  pass-is-played settings repos entries first last count blobs parts u c,
)
pass-was settings repos entries old new done (removing first last count blobs (Err fault) parts u c r is) = absurd (cc)

pub passes-played : (settings : Settings) (repos : List (List ℕ)) (entries : List Entry) (old new : Store) (done : Cleaned) (s : State) → Legal settings s entries
    → Calm s.faults (end_of settings s entries).faults → IsSome s.clock → Passes repos entries old new (Ok done)
    → (entries ≡ pass_entries settings s repos) × (as_pass done ≡ as_pass (done_by (pass_entries settings s repos)))
passes-played settings repos entries old new done s legal calm told t =
    let was = pass-was settings repos entries old new done t in
    let same = was.2 s legal calm told in
    (same, was.0 ∙ ap (λ (es : List Entry). as_pass (done_by es)) same)

-- one that ends by a removal
no-removal : (reply : Reply) → clean.BlobFault ≡ cause_of reply → ⊥
no-removal store_fault same = cc
no-removal _ same = cc

pub passes-rose : (repos : List (List ℕ)) (entries : List Entry) (old new : Store) → Passes repos entries old new (Err clean.BlobFault) → Rose old.faults new.faults
passes-rose repos entries old new (not_unlisted fault u still is) = let same : clean.BlobFault ≡ fault = (cc) in absurd (no-removal u.3 (same ∙ u.7.1))
passes-rose repos entries old new (not_collected first last count fault parts u c still is) =
    let same : clean.BlobFault ≡ fault = (cc) in absurd (no-removal last.reply (same ∙ c.1.1))
passes-rose repos entries old new (removing first last count blobs (Err clean.BlobFault) parts u c r is) =
    subst (λ (s : Store). Rose old.faults s.faults) (sym r.4.2) r.4.1
passes-rose repos entries old new (removing first last count blobs removed parts u c r is) = absurd (cc)
