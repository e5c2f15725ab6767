use Rattle.std.proofs.Common.{◌≡◌, ℕ, true, false, cond, List, [], ◌∷◌, Option, Some, None, refl, sym, ap, ◌∙◌, subst}
use Rattle.repo_model.specs.Data as plain
use Rattle.repo_model.specs.Data.{is_same_print}
use Rattle.repo_model.specs.declared.item.Item.TheVariants.{Relisted}
use Rattle.repo_model.specs.declared.print.Print.{Print}
use Rattle.repo_model.specs.Effect.{drops, recorded}
use Rattle.repo_model.specs.Reply.{taken}
use Rattle.repo_model.specs.Shown.{shown_parcel}
use Rattle.repo_model.specs.State.{row_at}
use Rattle.repo_model.specs.Turn.{Turn, put_again, put_at}
use Rattle.ordered_rows.specs.Standings.{standing, standing_by}
use Rattle.row_tables.specs.Leaving.{MayTake}
use Rattle.repo_model.specs.declared.item.Item.{Item}
use Rattle.ordered_rows.specs.declared.standings.Standing.TheVariants as stands
use Rattle.hosted_repo.specs.Releases.{FadesAt}
use Rattle.hosted_repo.proofs.ReleaseLemmas.{fading-at}
use Rattle.hosted_repo.proofs.hosted.Hosted.put.Goals as goal

phase-free : (p : plain.Phase) → standing_by p ≡ stands.Free → ⊥
phase-free plain.listed e = cc
phase-free (plain.fading since) e = cc

no_row : (sent : Print) (o : Option plain.Row) → standing sent o ≡ stands.Free → o ≡ None
no_row sent None e = refl
no_row sent (Some row) e =
    elim (is_same_print row.blob.print sent) as (λ b. cond b (standing_by row.phase) (stands.Other row.blob.print) ≡ stands.Free → Some row ≡ None) [
      | true ↦ λ h. absurd (phase-free row.phase h)
      | false ↦ λ h. cc
    ] e

again : (repo path : List ℕ) (n now : ℕ) (p : plain.Phase) → standing_by p ≡ stands.Unlisted → recorded (put_again repo path n now p).effects ≡ Relisted repo path now ∷ []
again repo path n now plain.listed e = cc
again repo path n now (plain.fading since) e = refl

is_again : (repo path : List ℕ) (n now : ℕ) (blob : plain.Blob) (o : Option plain.Row) → standing blob.print o ≡ stands.Unlisted
    → recorded (put_at repo path n blob now o).effects ≡ Relisted repo path now ∷ []
is_again repo path n now blob None e = cc
is_again repo path n now blob (Some row) e =
    let other : Turn = record { reply = taken row.blob.print blob.print; effects = drops n ∷ [] } in
    elim (is_same_print row.blob.print blob.print)
    as (λ b. cond b (standing_by row.phase) (stands.Other row.blob.print) ≡ stands.Unlisted → recorded (cond b (put_again repo path n now row.phase) other).effects ≡ Relisted repo path now ∷ []) [
      | true ↦ λ h. again repo path n now row.phase h
      | false ↦ λ h. cc
    ] e

-- a row that stands unlisted fades
phase-unlisted : (p : plain.Phase) → standing_by p ≡ stands.Unlisted → (since : ℕ) × (p ≡ plain.fading since)
phase-unlisted plain.listed e = absurd (let same : stands.Same ≡ stands.Unlisted = e in cc)
phase-unlisted (plain.fading since) e = (since, refl)

unlisted_row : (sent : Print) (o : Option plain.Row) → standing sent o ≡ stands.Unlisted → (row : plain.Row) × (since : ℕ) × (o ≡ Some row) × (row.phase ≡ plain.fading since)
unlisted_row sent None e = absurd (let free : stands.Free ≡ stands.Unlisted = e in cc)
unlisted_row sent (Some row) e =
    elim (is_same_print row.blob.print sent)
    as (λ b. cond b (standing_by row.phase) (stands.Other row.blob.print) ≡ stands.Unlisted → (r : plain.Row) × (since : ℕ) × (Some row ≡ Some r) × (r.phase ≡ plain.fading since)) [
      | true ↦ λ h. let (since, fades) = phase-unlisted row.phase h in (row, since, refl, fades)
      | false ↦ λ h. absurd (let other : stands.Other row.blob.print ≡ stands.Unlisted = h in cc)
    ] e

pub create-requires-clause-records : goal.create-requires-clause-records
create-requires-clause-records g c =
    let path = c.args.path.now in
    let blob = shown_parcel c.args.parcel in
    let old = c.args.self.now in
    let rows = c.self.inside.rows in
    let free = ap (λ (k : plain.Hosted). standing blob.print (row_at path k.rows)) (sym c.self.view_is) ∙ ap (λ (s : Print). standing s (row_at path rows)) (sym c.print_of.ensures) ∙ ap (λ rs. standing c.print_of.result (row_at path rs)) (sym c.map.ensures) ∙ sym c.standing.ensures ∙ c.in-Free.is in
    let records = c.args.records.now in
    subst (λ (o : Option plain.Row). MayTake (recorded (put_at old.rule.id path blob.number blob c.args.now o).effects) (g.K.Records.shows records))
    (no_row blob.print (row_at path old.rows) free) c.requires.records

pub relist-requires-clause-records : goal.relist-requires-clause-records
relist-requires-clause-records g c =
    let path = c.args.path.now in
    let blob = shown_parcel c.args.parcel in
    let old = c.args.self.now in
    let rows = c.self.inside.rows in
    let faded = ap (λ (k : plain.Hosted). standing blob.print (row_at path k.rows)) (sym c.self.view_is) ∙ ap (λ (s : Print). standing s (row_at path rows)) (sym c.print_of.ensures) ∙ ap (λ rs. standing c.print_of.result (row_at path rs)) (sym c.map.ensures) ∙ sym c.standing.ensures ∙ c.in-Unlisted.is in
    let records = c.args.records.now in
    subst (λ (items : List Item). MayTake items (g.K.Records.shows records)) (is_again old.rule.id path blob.number c.args.now blob (row_at path old.rows) faded) c.requires.records

pub relist-requires-clause-snapshot : goal.relist-requires-clause-snapshot
relist-requires-clause-snapshot g c =
    let path = c.args.path.now in
    let rows = c.self.inside.rows in
    let faded : standing c.print_of.result (row_at path rows) ≡ stands.Unlisted
    = ap (λ rs. standing c.print_of.result (row_at path rs)) (sym c.map.ensures) ∙ sym c.standing.ensures ∙ c.in-Unlisted.is in
    let (row, since, found, fades) = unlisted_row c.print_of.result (row_at path rows) faded in
    fading-at path rows row since c.self.invariant.fading found fades

pub relist-requires-clause-faded : goal.relist-requires-clause-faded
relist-requires-clause-faded g c =
    let path = c.args.path.now in
    let rows = c.self.inside.rows in
    let faded : standing c.print_of.result (row_at path rows) ≡ stands.Unlisted
    = ap (λ rs. standing c.print_of.result (row_at path rs)) (sym c.map.ensures) ∙ sym c.standing.ensures ∙ c.in-Unlisted.is in
    subst (λ (h : plain.Hosted). FadesAt path h.rows) c.self.view_is (unlisted_row c.print_of.result (row_at path rows) faded)
