-- A look, as a turn of the machine.
use Rattle.std.proofs.Common.{◌≡◌, ℕ, true, false, if◌then◌else◌, List, [], ◌∷◌, Some, inl, inr, refl, sym, ap, ◌∙◌, subst, ◌⊎◌}
use Rattle.std.specs.Prelude.{◌==◌, IsTrue}
use Rattle.repo_model.specs.Settings.{Settings}
use Rattle.repo_model.specs.State.{State, Yard, number_end}
use Rattle.repo_model.specs.Effect.{Effect, with_effects, draws, lends}
use Rattle.repo_model.specs.Command.{look}
use Rattle.repo_model.specs.Reply.{Reply, fetches, file, spent, no_memory, is_free, takes_memory}
use Rattle.repo_model.specs.Turn.{Turn, turn, says, Seen, is_file, is_to_fetch, file_limit, look_at, plan_of, shows, draws_or_spent}
use Rattle.repo_parts.specs.Numbers.{yard_looked}
use Rattle.repo_parts.specs.Looks.{IsDueOr}
use Rattle.repo_core.specs.Turn.{Turned}
use Rattle.repo_core.specs.Whole.{Parts}

-- what a look leaves, by its reply
abbrev Leaves : State → Reply → List Effect → Type 0
Leaves s reply effects = record s { yard = yard_looked reply s.yard } ≡ with_effects s (if is_free reply then [] else effects)

left-or-spent : (s : State) (n : ℕ) (t : Turn) → Leaves s t.reply t.effects → Leaves s (draws_or_spent n t).reply (draws_or_spent n t).effects
left-or-spent s n t leaves = elim (n == number_end) as (λ b. Leaves s (if b then says spent else t).reply (if b then says spent else t).effects) [ true ↦ refl | false ↦ leaves ]

left-due : (settings : Settings) (s : State) (seen : Seen) → Leaves s (shows settings s.yard seen).reply (shows settings s.yard seen).effects
left-due settings s (is_file blob) = left-or-spent s s.yard.next_lease (record { reply = file s.yard.next_lease blob; effects = lends blob.number ∷ [] }) refl
left-due settings s (is_to_fetch member rule path true) =
    left-or-spent s s.yard.next_draft (record { reply = fetches (plan_of member rule path (Some s.yard.next_draft) (file_limit settings)); effects = draws ∷ [] }) refl
left-due settings s seen = refl

left-looked : (settings : Settings) (s : State) (seen : Seen) (reply : Reply) → IsDueOr (shows settings s.yard seen).reply reply → Leaves s reply (shows settings s.yard seen).effects
left-looked settings s seen reply (inr is) = subst (λ r. Leaves s r (shows settings s.yard seen).effects) (sym is) refl
left-looked settings s seen reply (inl is) = subst (λ r. Leaves s r (shows settings s.yard seen).effects) (sym is) (left-due settings s seen)

-- the blob of a file is lent, or a draft is drawn for one, where numbers and memory are left
pub turned-looked : (w : Parts) (repo path tried : List ℕ) (reply : Reply) (yard : Yard)
    → IsDueOr (shows w.settings w.state.yard (look_at w.settings w.state w.state.last repo tried path)).reply reply → yard ≡ yard_looked reply w.state.yard
    → Turned w (record w { state = record w.state { yard = yard } }) (look repo path tried) reply
turned-looked w repo path tried reply yard given same = record {
  settings = refl;
  calls = refl;
  answered = elim given as (λ _. (reply ≡ (turn w.settings w.state w.state.last (look repo path tried)).reply) ⊎ ((reply ≡ no_memory) × IsTrue (takes_memory (look repo path tried))))
      [ (inl is) ↦ inl is | (inr is) ↦ inr (is, refl) ];
  left = ap (λ y. record w.state { yard = y }) same ∙ left-looked w.settings w.state (look_at w.settings w.state w.state.last repo tried path) reply given;
}
