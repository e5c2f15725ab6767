-- What comes of the jobs of desks, and of work as a whole.
use Rattle.std.proofs.Common.{◌≡◌, ℕ, Bool, ◌||◌, List, [], ◌∷◌, map, length, sum_by, All, refl, sym, subst, ap, ◌∙◌, arith}
use Rattle.std.specs.List.{AllZip, list_any}
use Rattle.std.proofs.lemmas.List.Sums.{sum_by-cons}
use Rattle.std.proofs.lemmas.List.Elements.{All-head, All-tail, All-cons, All-nil, All-weaker}
use Rattle.repo_model.specs.Command.{Command}
use Rattle.repo_model.specs.Reply.{Reply}
use Rattle.repo_model.specs.Settings.{Settings}
use Rattle.turn_lock.specs.declared.view.Entry.{Entry as Call}
use Rattle.turn_lock.specs.declared.turns.Turns.{Turns}
use Rattle.turn_lock.specs.History.{Legal}
use Rattle.turn_lock.specs.declared.seat.SeatToken.{SeatToken as Seat}
use Rattle.turn_lock.specs.Seats.{IsSeatOf, opening, parts_of}
use Rattle.run_desks.specs.Seen.{RunResources, Looks}
use Rattle.turn_seats.specs.Ending.{Ended}
use Rattle.turn_seats.specs.Histories.{IsHistory}
use Rattle.seat_server.specs.Rules.{Rules}
use Rattle.desk_work.specs.Working.{IsReady, IsBegun, DeskServes, DeskDone, CleanedBeside, Works}

module _ {T C R : Type 0} (rules : Rules T C R) where
  module _ {X J : Type 0} (turns_of : X → Turns T C R) (settings_of : X → Settings) (house : X) (house_of : J → X) (seat_of : J → Seat C R T) (first : Seat C R T) where
    -- seats that were begun at the turns of a house whose first seat is ready are ready there
    pub all_ready : (asked : C → Command) (answered : R → Reply) → IsReady rules asked answered (settings_of house) (turns_of house) first → (jobs : List J)
        → All (λ (j : J). (house_of j ≡ house) × IsSeatOf rules.steps (turns_of house) (seat_of j) × IsBegun first (seat_of j)) jobs
        → All (λ (j : J). IsReady rules asked answered (settings_of (house_of j)) (turns_of (house_of j)) (seat_of j)) jobs
    all_ready asked answered ready jobs begun =
        All-weaker (λ (j : J). (house_of j ≡ house) × IsSeatOf rules.steps (turns_of house) (seat_of j) × IsBegun first (seat_of j))
        (λ (j : J). IsReady rules asked answered (settings_of (house_of j)) (turns_of (house_of j)) (seat_of j))
        (λ j b. subst (λ (x : X). IsReady rules asked answered (settings_of x) (turns_of x) (seat_of j)) (sym b.0)
        (record { asks_so = ready.asks_so; answers_so = ready.answers_so; seat_is = b.1; settings_are = ready.settings_are }))
        jobs begun

    module _ {L P D : Type 0} (looks : Looks L P D) (desk_of : J → D) where
      -- each desk was served with a seat of its own
      pub jobs_done : (jobs : List J) (outs : List (Seat C R T × (D × Bool)))
          → All (λ (j : J). (house_of j ≡ house) × IsSeatOf rules.steps (turns_of house) (seat_of j) × IsBegun first (seat_of j)) jobs
          → AllZip (λ (j : J) (out : Seat C R T × (D × Bool)). DeskServes looks rules (settings_of (house_of j)) (turns_of (house_of j)) (seat_of j) (desk_of j) out) jobs outs
          → AllZip (DeskDone looks rules (settings_of house) (turns_of house) first) (map desk_of jobs) outs
      jobs_done [] [] begun zip = tt
      jobs_done [] (o ∷ os) begun zip = absurd zip
      jobs_done (j ∷ js) [] begun zip = absurd zip
      jobs_done (j ∷ js) (o ∷ os) begun zip =
          let here = All-head (λ (j : J). (house_of j ≡ house) × IsSeatOf rules.steps (turns_of house) (seat_of j) × IsBegun first (seat_of j)) j js begun in (
            (seat_of j, here.2, subst (λ (x : X). DeskServes looks rules (settings_of x) (turns_of x) (seat_of j) (desk_of j) o) here.0 zip.0),
            jobs_done js os (All-tail (λ (j : J). (house_of j ≡ house) × IsSeatOf rules.steps (turns_of house) (seat_of j) × IsBegun first (seat_of j)) j js begun) zip.1,
          )

  -- the seats that come back are of these turns, and have one part each
  pub done_seats : {L P D : Type 0} (looks : Looks L P D) (settings : Settings) (turns : Turns T C R) (first : Seat C R T) (desks : List D) (outs : List (Seat C R T × (D × Bool)))
      → AllZip (DeskDone looks rules settings turns first) desks outs
      → All (λ (out : Seat C R T × (D × Bool)). IsSeatOf rules.steps turns out.0) outs × (sum_by parts_of (map (λ (out : Seat C R T × (D × Bool)). out.0) outs) ≡ length outs)
  done_seats looks settings turns first [] [] zip = (All-nil _, refl)
  done_seats looks settings turns first [] (o ∷ os) zip = absurd zip
  done_seats looks settings turns first (d ∷ ds) [] zip = absurd zip
  done_seats {L} {P} {D} looks settings turns first (d ∷ ds) (o ∷ os) zip =
      let rest = done_seats looks settings turns first ds os zip.1 in
      let begun = zip.0.1 in
      let gained = zip.0.2.0.gained in
      let one : parts_of o.0 ≡ 1 = gained.stays.3 ∙ begun.3 in (
        All-cons (λ (out : Seat C R T × (D × Bool)). IsSeatOf rules.steps turns out.0) o os gained.seat rest.0,
        (let r = rest.1 in let c = sum_by-cons parts_of o.0 (map (λ (out : Seat C R T × (D × Bool)). out.0) os) in omega (arith, one, r, c)),
      )

  pub worked : ((x : T) (log : List (Call C R T)) → Legal rules.steps x log → IsHistory rules.sight x log)
      → {L P D : Type 0} (looks : Looks L P D) (settings : Settings) (turns : Turns T C R) (first cleaning : Seat C R T) (outs : List (Seat C R T × (D × Bool)))
      (old new : RunResources (List D)) (thing : T) (calls : ℕ) (failed : Bool)
      → AllZip (DeskDone looks rules settings turns first) old.desks outs → CleanedBeside rules settings turns first cleaning old.cleaner new.cleaner
      → Ended rules.steps turns cleaning (map (λ (out : Seat C R T × (D × Bool)). out.0) outs) thing calls
      → new.desks ≡ map (λ (out : Seat C R T × (D × Bool)). out.1.0) outs → failed ≡ list_any (λ (out : Seat C R T × (D × Bool)). out.1.1) outs
      → Works looks rules settings turns first old new thing calls failed
  worked seen looks settings turns first cleaning outs old new thing calls failed done cleaned ended back_are failed_is =
      let history = seen (opening turns) ended.log ended.legal in record {
        outs = outs;
        done = done;
        cleaning = cleaning;
        cleaned = cleaned;
        ended = ended;
        history = history;
        leaves = ap rules.sight.state ended.end ∙ history.ends;
        back_are = back_are;
        failed_is = failed_is;
      }

pub map-map : {A B C : Type 0} (f : B → C) (g : A → B) (xs : List A) → map f (map g xs) ≡ map (λ x. f (g x)) xs
map-map f g [] = refl
map-map f g (x ∷ xs) = ap (λ l. f (g x) ∷ l) (map-map f g xs)

pub list_any-map : {A B : Type 0} (p : B → Bool) (g : A → B) (xs : List A) → list_any p (map g xs) ≡ list_any (λ x. p (g x)) xs
list_any-map p g [] = refl
list_any-map p g (x ∷ xs) = ap (λ b. p (g x) || b) (list_any-map p g xs)
