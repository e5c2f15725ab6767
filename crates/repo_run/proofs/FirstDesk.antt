-- What a run does to its desks: only the first is another.
use Rattle.std.proofs.Common.{◌≡◌, ℕ, ◌<◌, List, [], ◌∷◌, length, get_or, set, Option, refl, subst, ap, ◌∙◌, arith}
use Rattle.run_desks.specs.Seen.{DeskResources}
use Rattle.repo_run.specs.Surroundings.{DeskState, FirstOnly}

abbrev pub desk_of : {X : Type 0} → Option (List X) → Option (List X) → ℕ → DeskResources → DeskState X
desk_of left given_back port_faults resources = record { left = left; given_back = given_back; port_faults = port_faults; resources = resources }

pub same_desk : {X : Type 0} (left left' given given' : Option (List X)) (faults faults' : ℕ) (resources : DeskResources) → left' ≡ left → given' ≡ given → faults' ≡ faults
    → desk_of left' given' faults' resources ≡ desk_of left given faults resources
same_desk left left' given given' faults faults' resources l g f =
    ap (λ x. desk_of x given' faults' resources) l ∙ ap (λ x. desk_of left x faults' resources) g ∙ ap (λ x. desk_of left given x resources) f

-- the first desk became another
pub first-set : {D : Type 0} (desks : List D) (old new : D) (R : D → D → Type 0) → 0 < length desks → old ≡ get_or desks 0 old → R old new
    → FirstOnly R desks (set desks 0 new)
first-set [] old new R some is related = absurd (omega arith)
first-set (desk ∷ desks) old new R some is related = (subst (λ d. R d new) is related, refl)

-- no desk became another
pub first-same : {D : Type 0} (desks : List D) (R : D → D → Type 0) → 0 < length desks → ((desk : D) → R desk desk) → FirstOnly R desks desks
first-same [] R some each = absurd (omega arith)
first-same (desk ∷ desks) R some each = (each desk, refl)
