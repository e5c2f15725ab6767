-- The moments of negative entries.
use Rattle.std.proofs.Common.{◌≡◌, ℕ, ◌≤◌, true, false, cond, not, List, [], ◌∷◌, length, fold, Option, Some, None, option_map, sym, subst, leb}
use Rattle.std.specs.Prelude.{IfSome, find}
use Rattle.std.specs.Cmp.Lexicographic.{slice_cmp}
use Rattle.std.specs.Ordering.{match_ordering, nat_cmp}
use Rattle.std.specs.declared.cmp.Ordering.{Ordering}
use Rattle.std.specs.declared.cmp.Ordering.TheVariants.{Less, Equal, Greater}
use Rattle.repo_model.specs.Data.{NegativeEntry}
use Rattle.repo_model.specs.Effect.{insert_negative, most_negatives, older, with_negative, with_room, without_negative, without_oldest}
use Rattle.repo_model.specs.History.{latest_moment}
use Rattle.repo_model.specs.State.{is_negative_of}
use Rattle.proxy_entries.specs.Stored.{AreInTime, shown_negative}

found-in-time : (path : List ℕ) (negatives : List NegativeEntry) → AreInTime negatives → IfSome (find (is_negative_of path) negatives) (λ (m : NegativeEntry). m.moment ≤ latest_moment)
found-in-time path [] all = tt
found-in-time path (m ∷ negatives) all =
    elim (is_negative_of path m) as (λ b. IfSome (cond b (Some m) (find (is_negative_of path) negatives)) (λ (x : NegativeEntry). x.moment ≤ latest_moment)) [
      | true ↦ all.0
      | false ↦ found-in-time path negatives all.1
    ]

moment-so : (path : List ℕ) (o : Option ℕ) → IfSome (option_map (shown_negative path) o) (λ (m : NegativeEntry). m.moment ≤ latest_moment) → IfSome o (λ n. n ≤ latest_moment)
moment-so path None h = tt
moment-so path (Some n) h = h

-- the moment of a negative entry that was found
pub negative-in-time : (path : List ℕ) (negatives : List NegativeEntry) (o : Option ℕ) → AreInTime negatives → option_map (shown_negative path) o ≡ find (is_negative_of path) negatives → IfSome o (λ n. n ≤ latest_moment)
negative-in-time path negatives o all is =
    moment-so path o (subst (λ (found : Option NegativeEntry). IfSome found (λ (m : NegativeEntry). m.moment ≤ latest_moment)) (sym is) (found-in-time path negatives all))

-- ---- negative entries stay in time
in-time-without : (path : List ℕ) (negatives : List NegativeEntry) → AreInTime negatives → AreInTime (without_negative path negatives)
in-time-without path [] all = tt
in-time-without path (m ∷ negatives) all =
    elim (is_negative_of path m) as (λ b. AreInTime (cond (not b) (m ∷ without_negative path negatives) (without_negative path negatives))) [
      | true ↦ in-time-without path negatives all.1
      | false ↦ (all.0, in-time-without path negatives all.1)
    ]

in-time-insert : (new : NegativeEntry) (negatives : List NegativeEntry) → new.moment ≤ latest_moment → AreInTime negatives → AreInTime (insert_negative new negatives)
in-time-insert new [] now all = (now, tt)
in-time-insert new (m ∷ negatives) now all =
    elim (slice_cmp nat_cmp new.path m.path) as (λ (o : Ordering). AreInTime (match_ordering o (new ∷ m ∷ negatives) (new ∷ m ∷ negatives) (m ∷ insert_negative new negatives))) [
      | Less ↦ (now, all)
      | Equal ↦ (now, all)
      | Greater ↦ (all.0, in-time-insert new negatives now all.1)
    ]

in-time-oldest : (oldest : Option NegativeEntry) (negatives : List NegativeEntry) → AreInTime negatives → AreInTime (without_oldest oldest negatives)
in-time-oldest None negatives all = all
in-time-oldest (Some m) negatives all = in-time-without m.path negatives all

in-time-room : (negatives : List NegativeEntry) → AreInTime negatives → AreInTime (with_room negatives)
in-time-room negatives all =
    elim (leb most_negatives (length negatives)) as (λ b. AreInTime (cond b (without_oldest (fold older None negatives) negatives) negatives)) [
      | true ↦ in-time-oldest (fold older None negatives) negatives all
      | false ↦ all
    ]

pub in-time-with : (new : NegativeEntry) (negatives : List NegativeEntry) → new.moment ≤ latest_moment → AreInTime negatives → AreInTime (with_negative new negatives)
in-time-with new negatives now all =
    in-time-insert new (with_room (without_negative new.path negatives)) now (in-time-room (without_negative new.path negatives) (in-time-without new.path negatives all))

pub in-time-left : (path : List ℕ) (negatives : List NegativeEntry) → AreInTime negatives → AreInTime (without_negative path negatives)
in-time-left path negatives all = in-time-without path negatives all
