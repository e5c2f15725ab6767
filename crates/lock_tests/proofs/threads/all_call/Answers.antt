use denote.RattleType.{RattleType}
use denote.Ref.{NamedLft}
use denote.Struct.Field as Field
use mathlib.Core.List.{[], ◌∷◌}
use denote.Struct.Declared.{shape}
use denote.Param.Send.{IsSend, struct_send, recorded_send, shr_send, sendable}
use Rattle.atomic_table.proofs.shared.Seat.TheSendSync.{the_send as seat_send}
use Rattle.turn_lock.specs.declared.thing.Thing.{Ghosts}
use Rattle.turn_lock.proofs.Crosses.{slot_crosses, token_crosses, note_crosses, turns_shared}
use Rattle.turn_lock.specs.contracts.turns.Turns as Turns
use Rattle.lock_tests.specs.contracts.threads.Told as Told
use Rattle.lock_tests.specs.contracts.threads.Caller as Caller
use Rattle.std.proofs.Common.{◌≡◌, ℕ, List, All, sum_by, refl, subst, arith}
use Rattle.std.specs.List.{AllZip}
use Rattle.std.proofs.lemmas.List.Elements.{All-nil, All-cons, All-tail, All-head}
use Rattle.std.proofs.lemmas.List.Sums.{sum_by-cons}
use Rattle.turn_lock.specs.History.{IsStep}
use Rattle.turn_lock.specs.Seats.{parts_of, IsSeatOf, IsNoteOf}
use Rattle.lock_tests.proofs.threads.all_call.Goals as goal

-- what each job gives holds of all that is given
each_gives : {A B : Type 0} (P : A → Type 0) (R : A → B → Type 0) (Q : B → Type 0) → ((x : A) (y : B) → P x → R x y → Q y) → (xs : List A) (ys : List B) → All P xs → AllZip R xs ys → All Q ys
each_gives P R Q gives [] [] each zip = All-nil Q
each_gives P R Q gives [] (y ∷ ys) each zip = absurd zip
each_gives P R Q gives (x ∷ xs) [] each zip = absurd zip
each_gives P R Q gives (x ∷ xs) (y ∷ ys) each zip = All-cons Q y ys (gives x y (All-head P x xs each) zip.0) (each_gives P R Q gives xs ys (All-tail P x xs each) zip.1)

same_sums : {A B : Type 0} (R : A → B → Type 0) (f : A → ℕ) (g : B → ℕ) → ((x : A) (y : B) → R x y → g y ≡ f x) → (xs : List A) (ys : List B) → AllZip R xs ys → sum_by g ys ≡ sum_by f xs
same_sums R f g same [] [] zip = refl
same_sums R f g same [] (y ∷ ys) zip = absurd zip
same_sums R f g same (x ∷ xs) [] zip = absurd zip
same_sums R f g same (x ∷ xs) (y ∷ ys) zip = let e = same x y zip.0 in let h = same_sums R f g same xs ys zip.1 in omega (arith, sum_by-cons f x xs, sum_by-cons g y ys)

-- a caller may go to another thread where its call and the object may
caller_crosses : (κ : NamedLft) (C T : RattleType) (g : Ghosts T.Denot C.Denot (Field.u64-field).Value) → IsSend C → IsSend T → IsSend (Caller.the_row κ C T g)
caller_crosses κ C T g call thing =
    let turns : IsSend (denote.Ref.ShrRef κ.mir κ.lft (Turns.the_row T C (Field.u64-field).row g)) = shr_send _ _ _ (turns_shared T C (Field.u64-field).row g thing) in
    let fields : IsSend (Caller.the_field κ C T g).row =
    struct_send (shape (Caller.the_type κ C T g)) (turns, (search (sendable, seat_send, slot_crosses) depth 30, (search (sendable, seat_send, slot_crosses) depth 30, (call, (search sendable, tt))))) in
    recorded_send (Caller.the_field κ C T g).row _ _ (Caller.the_type κ C T g).to_one fields

pub run_all-requires-send-A : goal.run_all-requires-send-A
run_all-requires-send-A g c κs within = let t = c.type_bounds.send-T in let u = c.type_bounds.send-C in search (sendable, caller_crosses) depth 40

-- what is told may go to another thread where the note may
told_crosses : (N : RattleType) → IsSend N → IsSend (Told.the_row N)
told_crosses N note = search sendable depth 30

pub run_all-requires-send-A-Out : goal.run_all-requires-send-A-Out
run_all-requires-send-A-Out g c κs within = let t = c.type_bounds.send-T in search (sendable, token_crosses, note_crosses, told_crosses) depth 40

pub returns-clause-outs : goal.returns-clause-outs
returns-clause-outs g c =
    let steps = IsStep g.T.Thing.fixed g.T.Thing.may_ask g.T.Thing.turned in
    let here = c.args.last.turns.now in
    each_gives (λ d. d.turns.now ≡ here) _ (λ out. IsSeatOf steps here out.0 × IsNoteOf steps here out.1.note)
    (λ d out same gives. subst (λ turns. IsSeatOf steps turns out.0 × IsNoteOf steps turns out.1.note) same (gives.0, gives.1))
    c.args.jobs.items c.run_all.result.0.items (λ k d within. (c.requires.jobs k d within).0) c.run_all.ensures.gives

pub returns-clause-parts : goal.returns-clause-parts
returns-clause-parts g c = same_sums _ (λ d. parts_of d.seat) (λ out. parts_of out.0) (λ d out gives. gives.2) c.args.jobs.items c.run_all.result.0.items c.run_all.ensures.gives
