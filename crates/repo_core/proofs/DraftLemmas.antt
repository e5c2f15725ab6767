-- Blobs that are put under drafts, as turns of the machine.
use Rattle.std.proofs.Common.{◌≡◌, ℕ, ◌<◌, Bool, true, false, if◌then◌else◌, List, [], Some, find, refl, sym, ap, ◌∙◌, subst, eqb-true}
use Rattle.std.specs.Prelude.{◌==◌, IsTrue, nat_lt}
use Rattle.std.proofs.lemmas.Bool.{and_parts, ltb-true}
use Rattle.repo_model.specs.Data.{Blob, Hosted}
use Rattle.repo_model.specs.Settings.{Settings}
use Rattle.repo_model.specs.Paths.{takes}
use Rattle.repo_model.specs.State.{Yard, is_among, is_repository, number_end, row_at, rows_of}
use Rattle.repo_model.specs.Effect.{recorded, with_effects}
use Rattle.repo_model.specs.Command.{put, meets, is_fit, is_parcel, rule_of}
use Rattle.repo_model.specs.Reply.{Reply, no_draft, is_free}
use Rattle.repo_model.specs.Turn.{Turn, turn, says, put_at}
use Rattle.hosted_repo.specs.Puts.{put_turn}
use Rattle.ordered_rows.specs.Rows.{rows_after_all}
use Rattle.row_tables.specs.Leaving.{Leaves, Shown, end_by}
use Rattle.repo_parts.specs.Numbers.{yard_put}
use Rattle.repo_core.specs.Turn.{Recorded}
use Rattle.repo_core.specs.Whole.{Parts}
use Rattle.repo_parts.proofs.HostedLemmas.{with_lent}
use Rattle.repo_parts.proofs.PutReplies.{IsGiven, left-put, put-here, put-left, state_put}
use Rattle.repo_core.proofs.Turning.{recorded-by, recorded-given}

pub if-so : {X : Type 0} (b : Bool) (x y : X) → true ≡ b → (if b then x else y) ≡ x
if-so true x y e = refl
if-so false x y e = cc

module _ (w : Parts) (repo path : List ℕ) (n : ℕ) (blob : Blob) where
  module _ (among : is_among n w.state.yard.drafts ≡ true) where
    by-draft : turn w.settings w.state w.state.last (put repo path n blob) ≡ put_at repo path n blob w.state.last (row_at path (rows_of repo w.state))
    by-draft = if-so (is_among n w.state.yard.drafts) (put_at repo path n blob w.state.last (row_at path (rows_of repo w.state))) (says no_draft) (sym among)

    -- the turn of a put is that at its repository
    module _ (named : blob.number ≡ n) (old : Hosted) (here : find (is_repository repo) w.state.hosted ≡ Some old) where
      abbrev at_place : Turn
      at_place = put_turn old path blob w.state.last

      pub turn-at : at_place ≡ turn w.settings w.state w.state.last (put repo path n blob)
      turn-at = put-here repo path blob w.state.last w.state.hosted old here ∙ ap (λ k. put_at repo path k blob w.state.last (row_at path (rows_of repo w.state))) named ∙ sym by-draft

      -- a put that had an outcome
      pub recorded-put : (new : Hosted) (yard : Yard) (reply : Reply) (before later : Shown) → IsGiven at_place reply
          → new ≡ (if is_free reply then old else record old { rows = rows_after_all at_place.effects old.rows }) → yard ≡ yard_put n reply w.state.yard
          → Leaves (recorded at_place.effects) (end_by reply) before later
          → Recorded w (record w { state = record w.state { hosted = with_lent repo w.state.hosted new; yard = yard } }) (put repo path n blob) reply before later
      recorded-put new yard reply before later given made yards leaves =
          let rows = put-left repo path blob w.state.last w.state.hosted old new reply here given made in
          let there = put-here repo path blob w.state.last w.state.hosted old here in
          recorded-by w (record w { state = record w.state { hosted = with_lent repo w.state.hosted new; yard = yard } }) (put repo path n blob) at_place reply before later
          (sym turn-at) refl (recorded-given at_place reply given) refl refl
          ((λ i. record w.state { hosted = rows i; yard = yards i }) ∙ ap (λ k. record (state_put repo path blob reply w.state) { yard = yard_put k reply w.state.yard }) (sym named)
          ∙ left-put w.state repo path blob reply (subst (λ (u : Turn). IsGiven u reply) there given) ∙ ap (λ (u : Turn). with_effects w.state (if is_free reply then [] else u.effects)) (sym there))
          leaves

module _ (settings : Settings) (repo path : List ℕ) (n : ℕ) (blob : Blob) (asked : IsTrue (meets settings (put repo path n blob))) where
  abbrev taken_there : Bool
  taken_there = is_fit (λ rule. takes rule path) (rule_of repo settings)

  put_met : (taken_there ≡ true) × (is_parcel n blob ≡ true)
  put_met = and_parts taken_there (is_parcel n blob) asked

  pub fit-so : taken_there ≡ true
  fit-so = put_met.0

  pub named-so : blob.number ≡ n
  named-so = eqb-true blob.number n (and_parts (blob.number == n) (nat_lt blob.print.length number_end) put_met.1).0

  pub short-so : blob.print.length < number_end
  short-so = ltb-true blob.print.length number_end (and_parts (blob.number == n) (nat_lt blob.print.length number_end) put_met.1).1
