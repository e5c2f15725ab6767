-- What was gathered, with a piece after it.
use Rattle.std.proofs.Common.{◌≡◌, ◌++◌, ◌∙◌, ◌≤◌, ℕ, List, Option, Some, None, length, take, ap, sym, subst, IfSome}
use Rattle.std.proofs.Math.Seq.{take-add}
use Rattle.std.proofs.lemmas.List.{take-append-le}
use Rattle.outside.specs.Gathered.{IsGathered}
use Rattle.outside.specs.Readings.{Gives, GivesPiece, GoesOn, ReadingState}
use Rattle.outside.specs.declared.readings.Step.{Step}
use Rattle.outside.specs.declared.readings.Step.TheVariants.{Piece}
use Rattle.outside.proofs.gatherings.Gathering.next.Goals as goal

-- one more piece
gathers : (told : Option (List ℕ)) (old new : ReadingState) (bytes : List ℕ) → IsGathered bytes old → GoesOn told old new → GivesPiece old new
    → IsGathered (bytes ++ new.piece) new
gathers told old new bytes was goes gives =
    let front : take old.given new.message ≡ take old.given old.message =
    ap (take old.given) goes.message.1 ∙ take-append-le old.given old.message goes.message.0 was.within in record {
      within = gives.read;
      given = (λ i. (was.given ∙ sym front) i ++ gives.piece i) ∙ sym (take-add old.given (length new.piece) new.message)
          ∙ ap (λ (k : ℕ). take k new.message) (sym gives.given);
    }

all-gathered : {X : Type 0} (items : X → List ℕ) (result : Option X) (all : List ℕ) (new : ReadingState)
    → IfSome result (λ v. items v ≡ all) → IsGathered all new → IfSome result (λ v. IsGathered (items v) new)
all-gathered items None all new is gathered = tt
all-gathered items (Some v) all new is gathered = subst (λ (b : List ℕ). IsGathered b new) (sym is) gathered

taken : {X : Type 0} (items : X → List ℕ) (before : Option X) (v : X) (old : ReadingState) → before ≡ Some v
    → IfSome before (λ v. IsGathered (items v) old) → IsGathered (items v) old
taken {X = X} items before v old is was = subst (λ (o : Option X). IfSome o (λ v. IsGathered (items v) old)) is was

pub invariant_of-self-in-Some-2 : goal.invariant_of-self-in-Some-2
invariant_of-self-in-Some-2 g c =
    let told = g.B.Held.Held.bytes c.args.held.now in
    let old = c.self.inside.reading in
    let new = c.next.new.self in
    let said = c.in-Ok-Piece.ensures in
    let gives : Gives old new Piece = subst (λ (step : Step). Gives old new step) c.in-Ok-Piece.field-0-is said.gives in
    let was : IsGathered c.in-Some.bytes.items old =
    taken (λ v. v.items) c.self.inside.bytes c.in-Some.bytes old (sym c.take-bytes.ensures.value ∙ c.in-Some.is) c.self.invariant in
    all-gathered (λ v. v.items) c.grown.result (c.in-Some.bytes.items ++ c.piece.result.now) new c.grown.ensures
    (subst (λ (p : List ℕ). IsGathered (c.in-Some.bytes.items ++ p) new) (sym c.piece.ensures) (gathers told old new c.in-Some.bytes.items was said.goes gives))
