-- A demonstration, from what was answered and what was told.
use Rattle.std.proofs.Common.{◌≡◌, ◌∷◌, ◌++◌, ◌≤◌, ◌<◌, ◌+◌, ◌*◌, ◌^◌, ℕ, List, [], Result, Ok, Err, inl, inr, refl, sym, subst, ◌∙◌, arith, length, length-append}
use Rattle.std.specs.Prelude.{min}
use Rattle.outside.specs.Faults.{last_count}
use Rattle.demo_requests.specs.Settings as fixed
use Rattle.repo_core.specs.CoreTurn.{CoreTurn}
use Rattle.repo_core.specs.Whole.{Whole}
use Rattle.repo_course.specs.Cleaning.{Store}
use Rattle.repo_model.specs.History.{Entry}
use Rattle.run_desks.specs.Seen.{DeskResources, with_blobs}
use Rattle.repo_server.proofs.Entries.{leads_on}
use Rattle.repo_run.specs.declared.tally.Tally.{Tally}
use Rattle.repo_run.specs.Begun.{Begins, HoldsRecords}
use Rattle.repo_run.specs.Demo.{Answer, Demonstrates, IsShown, TellsSummary, starved, summary, told}
use Rattle.repo_run.specs.DemoSteps.{Shows, ShowsAll, TellsShown}
use Rattle.repo_run.specs.FirstConnection.{Makes}
use Rattle.repo_run.specs.Surroundings.{DeskState, View}
use Rattle.repo_run.proofs.Alone.{core_counted}
use Rattle.repo_run.proofs.Shown.{shown-few}

-- so few calls are all counted
counted-all : (calls most made last n : ℕ) → calls ≡ min (0 + (made + last)) last_count → made ≤ 65000 * n → n ≤ most → most < 2 ^ 32 → last ≤ 1 → calls ≡ made + last
counted-all calls most made last n counted few fits small one = omega (arith, counted, few, fits, small, one)

module _ {X : Type 0} (tells : Type 0) (from requests : ℕ) (small : requests < 2 ^ 32) (old new : View (DeskState X)) (ends : ℕ)
    (begun mid core : Whole) (cleared : Store) (resources : DeskResources) (begins : Begins fixed.settings old.records old.place.resources.blobs cleared old.clock begun)
    (place : new.place ≡ record old.place { resources = resources }) (holds : HoldsRecords core new.records) (clock : new.clock ≡ core.state.clock) where
  shown-then : (n : ℕ) (answers : List Answer) (last : List Entry) → n ≤ requests → length last ≤ 1
      → Shows fixed.settings tells from n begun mid (with_blobs cleared old.place.resources) resources answers → Makes mid last core
      → IsShown tells from n old new answers last core.calls
  shown-then n answers last fits one shown then =
      let made = leads_on (λ (before : Whole) (entry : Entry) (after : Whole). CoreTurn before.settings before entry after) shown.0 last begun mid core shown.1 then in
      let all : List Entry = shown.0 ++ last in
      let none : begun.calls ≡ 0 = begins.calls_are in
      let counted : core.calls ≡ min (0 + length all) last_count =
      subst (λ (k : ℕ). core.calls ≡ min (k + length all) last_count) none (core_counted all begun core (omega (arith, none)) made) in
      let size : length all ≡ length shown.0 + length last = length-append shown.0 last in
      let few = shown-few fixed.settings tells begins.form from n shown.0 (with_blobs cleared old.place.resources) resources answers shown.2 in
      record {
        begun = begun;
        core = core;
        cleared = cleared;
        resources = resources;
        entries = shown.0;
        begins = begins;
        answered = shown.2;
        made = made;
        counted = counted-all core.calls requests (length shown.0) (length last) n (subst (λ (k : ℕ). core.calls ≡ min (0 + k) last_count) size counted) few fits small one ∙ sym size;
        place = place;
        holds = holds;
        clock = clock;
      }

  pub demonstrated : {E : Type 0} (result : Result Tally E)
      → ShowsAll fixed.settings tells from requests begun mid (with_blobs cleared old.place.resources) resources result
      → TellsShown requests result mid core old.out new.out ends → Demonstrates tells from requests old new ends
  demonstrated (Ok tally) shows tells_so =
      let last : List Entry = tells_so.0 ∷ [] in
      let all = shown-then requests shows.0 last (omega arith) (omega arith) shows.1 (core, tells_so.1, refl) in
      elim tells_so.3 as (λ _. Demonstrates tells from requests old new ends) [
        | inl said ↦
            told shows.0 tells_so.0 core.calls said.0 said.1 said.2 said.3 said.4 all shows.3 tells_so.2 said.5
            (subst (λ (t : Tally). TellsSummary (summary requests t core.calls said.0 said.1) old.out new.out ends) shows.2 said.6)
        | inr none ↦ starved requests shows.0 last core.calls (omega arith) all none.0 none.1
      ]
  demonstrated (Err fault) shows tells_so =
      starved shows.0 shows.2 [] core.calls shows.1 (shown-then shows.0 shows.2 [] shows.1 (omega arith) shows.3 tells_so.0) tells_so.1 tells_so.2
