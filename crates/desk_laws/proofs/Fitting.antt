-- Entries that each fit some state, and what lists of them give back.
use Rattle.std.proofs.Common.{◌≡◌, ◌⊎◌, inl, inr, ℕ, false, List, [], ◌∷◌, ◌++◌, refl, sym, subst, IsTrue}
use Rattle.std.specs.List.{AllByRecursion}
use Rattle.std.proofs.lemmas.Bool.{false≢true}
use Rattle.repo_model.specs.Command.{Command, unlist, collect}
use Rattle.repo_model.specs.Data.{Blob}
use Rattle.repo_model.specs.History.{Entry, Legal, after}
use Rattle.repo_model.specs.Reply.{Reply, draft, file, fetches, is_free, can_get}
use Rattle.repo_model.specs.Settings.{Settings}
use Rattle.repo_model.specs.State.{State}
use Rattle.repo_laws.proofs.Answered.{reply-can_get}
pub use Rattle.repo_laws.proofs.HoldingLists.{all-split as all-cut}
use Rattle.repo_laws.specs.Laws.{AnyByRecursion}
use Rattle.repo_laws.specs.Replies.{GivesDraft}
use Rattle.repo_course.specs.Asking.{LiesIn}
use Rattle.course_laws.proofs.Passes.{ArePass, IsPassCommand}
pub use Rattle.answer_laws.proofs.Given.{FitsOne}
use Rattle.desk_laws.specs.Back.{GiveAllBack, SpendDrafts, ReturnLeases}

there : (settings : Settings) (before rest : List Entry) (e : Entry) (s : State) → Legal settings s (before ++ e ∷ rest) → FitsOne settings e × ((u : State) × Legal settings u rest)
there settings [] rest e s legal = ((s, legal.0), (after settings s e, legal.1))
there settings (b ∷ before) rest e s legal = there settings before rest e (after settings s b) legal.1

pub all-fit : (settings : Settings) (entries history : List Entry) (s : State) → Legal settings s history → LiesIn entries history → AllByRecursion (FitsOne settings) entries
all-fit settings [] history s legal lies = tt
all-fit settings (e ∷ entries) history s legal (before, rest, parts, lies) =
    let here = there settings before rest e s (subst (Legal settings s) parts legal) in
    (here.0, all-fit settings entries rest here.1.0 here.1.1 lies)

module _ {X : Type 0} (P : X → Type 0) where
  pub any-left : (xs ys : List X) → AnyByRecursion P xs → AnyByRecursion P (xs ++ ys)
  any-left [] ys any = absurd any
  any-left (x ∷ xs) ys (inl here) = inl here
  any-left (x ∷ xs) ys (inr later) = inr (any-left xs ys later)

  pub any-right : (xs ys : List X) → AnyByRecursion P ys → AnyByRecursion P (xs ++ ys)
  any-right [] ys any = any
  any-right (x ∷ xs) ys any = inr (any-right xs ys any)

pub any-cut : {X : Type 0} (P : X → Type 0) (xs ys : List X) → AnyByRecursion P (xs ++ ys) → AnyByRecursion P xs ⊎ AnyByRecursion P ys
any-cut P [] ys any = inr any
any-cut P (x ∷ xs) ys (inl here) = inl (inl here)
any-cut P (x ∷ xs) ys (inr any) = elim (any-cut P xs ys any) [ inl one ↦ inl (inr one) | inr two ↦ inr two ]

spend-both : (xs ys : List Entry) → SpendDrafts xs → SpendDrafts ys → SpendDrafts (xs ++ ys)
spend-both [] ys first rest = rest
spend-both (x ∷ xs) ys first rest = (λ n is. any-left _ xs ys (first.0 n is), spend-both xs ys first.1 rest)

return-both : (xs ys : List Entry) → ReturnLeases xs → ReturnLeases ys → ReturnLeases (xs ++ ys)
return-both [] ys first rest = rest
return-both (x ∷ xs) ys first rest = (λ n blob is. any-left _ xs ys (first.0 n blob is), return-both xs ys first.1 rest)

pub both-back : (xs ys : List Entry) → GiveAllBack xs → GiveAllBack ys → GiveAllBack (xs ++ ys)
both-back xs ys first rest = record { drafts = spend-both xs ys first.drafts rest.drafts; leases = return-both xs ys first.leases rest.leases }

pub none-back : GiveAllBack []
none-back = record { drafts = tt; leases = tt }

-- a reply that is given by the state is one that the command can get
pub given-bound : (n : ℕ) (reply : Reply) → GivesDraft n reply → is_free reply ≡ false
given-bound n (draft m) gives = refl
given-bound n (fetches plan) gives = refl
given-bound n reply gives = absurd gives

pub draft-by : (settings : Settings) (e : Entry) (n : ℕ) → FitsOne settings e → GivesDraft n e.reply → IsTrue (can_get e.command e.reply)
draft-by settings e n fits gives = reply-can_get settings fits.0 e fits.1 (given-bound n e.reply gives)

pub file-by : (settings : Settings) (e : Entry) (n : ℕ) (blob : Blob) → FitsOne settings e → e.reply ≡ file n blob → IsTrue (can_get e.command (file n blob))
file-by settings e n blob fits is =
    subst (λ (r : Reply). IsTrue (can_get e.command r)) is (reply-can_get settings fits.0 e fits.1 (subst (λ (r : Reply). is_free r ≡ false) (sym is) refl))

-- a pass is given nothing
pass-no-draft : (command : Command) (reply : Reply) (n : ℕ) → IsPassCommand command → IsTrue (can_get command reply) → GivesDraft n reply → ⊥
pass-no-draft (unlist repo) (draft m) n is can gives = false≢true can
pass-no-draft (unlist repo) (fetches plan) n is can gives = false≢true can
pass-no-draft (unlist repo) reply n is can gives = gives
pass-no-draft collect (draft m) n is can gives = false≢true can
pass-no-draft collect (fetches plan) n is can gives = false≢true can
pass-no-draft collect reply n is can gives = gives
pass-no-draft command reply n is can gives = absurd is

pass-no-file : (command : Command) (n : ℕ) (blob : Blob) → IsPassCommand command → IsTrue (can_get command (file n blob)) → ⊥
pass-no-file (unlist repo) n blob is can = false≢true can
pass-no-file collect n blob is can = false≢true can
pass-no-file command n blob is can = absurd is

pub pass-back : (settings : Settings) (entries : List Entry) → AllByRecursion (FitsOne settings) entries → ArePass entries → GiveAllBack entries
pass-back settings [] fit pass = none-back
pass-back settings (e ∷ es) fit pass =
    let rest = pass-back settings es fit.1 pass.1 in
    record {
      drafts = (λ n gives. absurd (pass-no-draft e.command e.reply n pass.0 (draft-by settings e n fit.0 gives) gives), rest.drafts);
      leases = (λ n blob is. absurd (pass-no-file e.command n blob pass.0 (file-by settings e n blob fit.0 is)), rest.leases);
    }
