-- When the records fail, and which moments entries have.
use native.Mathlib.Omega.{arith}
use Rattle.std.proofs.Common.{◌≡◌, suc, min, max, true, false, not, ◌||◌, ◌⊎◌, inl, inr, List, [], ◌∷◌, length, Option, Some, refl, sym, ◌∙◌, ap, subst}
use Rattle.std.specs.Prelude.{◌==◌, MatchOption, IsTrue, ◌≤◌}
use Rattle.std.specs.Option.{option_map}
use Rattle.std.proofs.lemmas.Bool.{false≢true, ne_eqb}
use Rattle.outside.specs.Moments.{Moments, moments_after}
use Rattle.outside.specs.Faults.{Rose}
use Rattle.repo_model.specs.declared.item.Item.{Item}
use Rattle.repo_model.specs.Settings.{Settings}
use Rattle.repo_model.specs.State.{State}
use Rattle.repo_model.specs.Effect.{Effect, with_effect, with_effects, recorded}
use Rattle.repo_model.specs.Command.{Command, look, collect}
use Rattle.repo_model.specs.Reply.{store_fault, is_free}
use Rattle.repo_model.specs.Turn.{turn}
use Rattle.repo_model.specs.History.{Entry, IsReply, due, wants_memory, failed, Fits, latest_moment, ticked, is_collect, commits, effects_of, after}
use Rattle.repo_laws.specs.Faults.{is_store_fault, AsksRecords}
use Rattle.repo_laws.proofs.Answered.{no-free}

collect-so : (c : Command) → is_collect c ≡ true → c ≡ collect
collect-so collect is = refl
collect-so (look repo path tried) is = absurd (false≢true is)
collect-so c is = absurd (false≢true is)

some-so : (items : List Item) → (items ≡ [] → ⊥) → not (length items == 0) ≡ true
some-so [] more = absurd (more refl)
some-so (item ∷ items) more = ap not (ne_eqb (suc (length items)) 0 (λ same. omega (arith, same)))

-- the records are asked, as the definition computes it
asks-so : (c : Command) (es : List Effect) → IsTrue (commits c es) → (c ≡ collect) ⊎ (recorded es ≡ [] → ⊥)
asks-so c es asked =
    elim (is_collect c) as (λ b. is_collect c ≡ b → (b || not (length (recorded es) == 0)) ≡ true → (c ≡ collect) ⊎ (recorded es ≡ [] → ⊥)) [
      | true ↦ λ is _. inl (collect-so c is)
      | false ↦ λ _ some. inr (λ none. false≢true (sym (ap (λ (items : List Item). not (length items == 0)) none) ∙ some))
    ] refl asked

so-asks : (c : Command) (es : List Effect) → (c ≡ collect) ⊎ (recorded es ≡ [] → ⊥) → IsTrue (commits c es)
so-asks c es (inl is) = subst (λ k. IsTrue (commits k es)) (sym is) refl
so-asks c es (inr some) =
    elim (is_collect c) as (λ b. (b || not (length (recorded es) == 0)) ≡ true) [ true ↦ refl | false ↦ some-so (recorded es) some ]

pub fault-cause : (settings : Settings) (old : State) (e : Entry) → Fits settings old e → e.reply ≡ store_fault → AsksRecords settings old e × Rose old.faults e.faults
fault-cause settings old e fits fault = by fits.reply where
  by : IsReply settings old e → AsksRecords settings old e × Rose old.faults e.faults
  by (due is _) = absurd (false≢true (sym (no-free settings old e.moment e.command) ∙ ap is_free (sym is ∙ fault)))
  by (wants_memory is _ _) = absurd (false≢true (ap is_store_fault (sym is ∙ fault)))
  by (failed is asked rose) = (asks-so e.command (turn settings old e.moment e.command).effects asked, rose)

pub no-fault : (settings : Settings) (old : State) (e : Entry) → Fits settings old e → AsksRecords settings old e → is_store_fault e.reply ≡ false → e.faults ≡ old.faults
no-fault settings old e fits asks other = by fits.reply where
  so : IsTrue (commits e.command (turn settings old e.moment e.command).effects)
  so = so-asks e.command (turn settings old e.moment e.command).effects asks

  by : IsReply settings old e → e.faults ≡ old.faults
  by (due is did) = did so
  by (wants_memory is _ did) = did so
  by (failed is _ _) = absurd (false≢true (sym other ∙ ap is_store_fault is))

pub moment-told : (settings : Settings) (old : State) (e : Entry) (left : Moments) → Fits settings old e → old.clock ≡ Some left → e.moment ≡ max old.last (min latest_moment left.next)
moment-told settings old e left fits told =
    subst (λ (clock : Option Moments). MatchOption clock ((old.last ≤ e.moment) × (e.moment ≤ latest_moment)) (λ c. e.moment ≡ max old.last (min latest_moment c.next))) told fits.moment

-- effects leave the clock
clock-of : (es : List Effect) (s : State) → (with_effects s es).clock ≡ s.clock
clock-of [] s = refl
clock-of (e ∷ es) s = clock-of es (with_effect s e)

pub clock-left : (settings : Settings) (old : State) (e : Entry) → (after settings old e).clock ≡ option_map moments_after old.clock
clock-left settings old e = clock-of (effects_of settings old e) (ticked old e.moment e.faults)
