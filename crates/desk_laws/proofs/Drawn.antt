-- A draft is given once: a number that an entry of a history gives is given by no other one.
use native.Mathlib.Omega.{arith}
use Rattle.std.proofs.Common.{◌≡◌, ◌≤◌, ◌+◌, inl, inr, ℕ, List, [], ◌∷◌, ◌++◌, Some, sym, subst, ap}
use Rattle.std.proofs.lemmas.Option.{none-some}
use Rattle.repo_model.specs.Command.{Command}
use Rattle.repo_model.specs.Effect.{Effect, with_effect, with_effects}
use Rattle.repo_model.specs.History.{Entry, Fits, Legal, after, effects_of, ticked}
use Rattle.repo_model.specs.Settings.{Settings}
use Rattle.repo_model.specs.State.{State}
use Rattle.repo_model.specs.Turn.{Turn, turn}
use Rattle.repo_laws.specs.Laws.{AnyByRecursion}
use Rattle.repo_laws.specs.Replies.{GivesDraft}
use Rattle.repo_laws.proofs.Answered.{reply-determined, state-determined}
use Rattle.repo_laws.proofs.Cases.{Case, gives_draft, plans_document, plans_file, turn-case}
use Rattle.repo_laws.proofs.Places.{next-counted}
use Rattle.desk_laws.proofs.Fitting.{any-left, any-right, given-bound}

-- one of these entries gives the draft
abbrev pub AnyGives : ℕ → List Entry → Type 0
AnyGives n entries = AnyByRecursion (λ (e : Entry). GivesDraft n e.reply) entries

-- each draft is given by one of them at most
abbrev pub GiveOnce : List Entry → Type 0
GiveOnce [] = Unit {0}
GiveOnce (e ∷ entries) = ((n : ℕ) → GivesDraft n e.reply → AnyGives n entries → ⊥) × GiveOnce entries

pub once-after : (xs ys : List Entry) → GiveOnce (xs ++ ys) → GiveOnce ys
once-after [] ys once = once
once-after (x ∷ xs) ys once = once-after xs ys once.1

pub once-front : (xs ys : List Entry) → GiveOnce (xs ++ ys) → GiveOnce xs
once-front [] ys once = tt
once-front (x ∷ xs) ys once = (λ n gives any. once.0 n gives (any-left _ xs ys any), once-front xs ys once.1)

-- so none of the first ones gives what one of the later ones does
pub given-apart : (n : ℕ) (xs ys : List Entry) → GiveOnce (xs ++ ys) → AnyGives n xs → AnyGives n ys → ⊥
given-apart n [] ys once first later = first
given-apart n (x ∷ xs) ys once (inl here) later = once.0 n here (any-right _ xs ys later)
given-apart n (x ∷ xs) ys once (inr first) later = given-apart n xs ys once.1 first later

module _ (settings : Settings) where
  -- the draft that is given is the next number, and after it the next one is greater
  case-next : (s : State) (now faults n : ℕ) (c : Command) (u : Turn) → Case settings s now c u → GivesDraft n u.reply
      → (s.yard.next_draft ≡ n) × ((with_effects (ticked s now faults) u.effects).yard.next_draft ≡ n + 1)
  case-next s now faults n c u (gives_draft place path more) is = (is, ap (λ (k : ℕ). k + 1) is)
  case-next s now faults n c u (plans_file repo path tried member rule at more found) is =
      let drawn : Some s.yard.next_draft ≡ Some n = is in
      let same : s.yard.next_draft ≡ n = cc in
      (same, ap (λ (k : ℕ). k + 1) same)
  case-next s now faults n c u (plans_document repo path tried member rule at found) is = absurd (none-some n is)
  case-next s now faults n c u case is = absurd is

  given-next : (s : State) (e : Entry) (n : ℕ) → Fits settings s e → GivesDraft n e.reply → (s.yard.next_draft ≡ n) × ((after settings s e).yard.next_draft ≡ n + 1)
  given-next s e n fits is =
      let bound = given-bound n e.reply is in
      let (drawn, next) =
      case-next s e.moment e.faults n e.command (turn settings s e.moment e.command) (turn-case settings s e.moment e.command) (subst (GivesDraft n) (reply-determined settings s e fits bound) is) in
      (drawn, subst (λ (t : State). t.yard.next_draft ≡ n + 1) (sym (state-determined settings s e bound)) next)

  grows : (es : List Effect) (s : State) → s.yard.next_draft ≤ (with_effects s es).yard.next_draft
  grows [] s = omega arith
  grows (e ∷ es) s = omega (arith, next-counted s e, grows es (with_effect s e))

  -- what is given later is no smaller than the next number
  pub given-above : (entries : List Entry) (s : State) (n : ℕ) → Legal settings s entries → AnyGives n entries → s.yard.next_draft ≤ n
  given-above [] s n legal any = absurd any
  given-above (e ∷ entries) s n legal (inl here) = omega (arith, (given-next s e n legal.0 here).0)
  given-above (e ∷ entries) s n legal (inr later) =
      omega (arith, grows (effects_of settings s e) (ticked s e.moment e.faults), given-above entries (after settings s e) n legal.1 later)

  pub given-once : (entries : List Entry) (s : State) → Legal settings s entries → GiveOnce entries
  given-once [] s legal = tt
  given-once (e ∷ entries) s legal = (
    λ n here later. omega (arith, (given-next s e n legal.0 here).1, given-above entries (after settings s e) n legal.1 later),
    given-once entries (after settings s e) legal.1,
  )
