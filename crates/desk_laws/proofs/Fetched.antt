-- Each file that a proxy of a server answers was fetched at one of its desks, or was kept at the start.
use Rattle.std.proofs.Common.{◌≡◌, ◌⊎◌, inl, inr, ℕ, ◌==◌, Bool, true, false, cond, List, [], ◌∷◌, ◌++◌, map, sym, subst}
use Rattle.std.specs.List.{AllByRecursion}
use Rattle.outside_remote.specs.Exchanges.{Sees}
use Rattle.repo_model.specs.Command.{Command, unlist, collect}
use Rattle.repo_model.specs.Data.{Blob}
use Rattle.repo_model.specs.History as machine
use Rattle.repo_model.specs.History.{Entry}
use Rattle.repo_model.specs.Settings.{Settings}
use Rattle.repo_model.specs.State.{State, files_of, rows_of}
use Rattle.repo_laws.specs.Laws.{AnyByRecursion}
use Rattle.repo_laws.specs.Looks.{IsRowOf}
use Rattle.repo_laws.specs.Proxied.{LandsAs, LandsFile, WasLanded}
use Rattle.repo_laws.proofs.Proxied.{all-proxied}
use Rattle.repo_course.specs.Cleaning.{Store}
use Rattle.course_laws.specs.Landed.{AllLandWhatCame, GoesOn, LandsWhatCame}
use Rattle.course_laws.proofs.Alls.{all-joined}
use Rattle.course_laws.proofs.Landed.{all-later, serves-lands}
use Rattle.course_laws.proofs.Origins.{landed-came}
use Rattle.course_laws.proofs.Passes.{ArePass, IsPassCommand, passes-ask}
use Rattle.course_laws.proofs.Remotes.{goes-on, goes-then, serves-go}
use Rattle.run_desks.specs.Seen.{RunResources, DeskResources, Looks}
use Rattle.turn_lock.specs.declared.view.Entry.{Entry as Call}
use Rattle.turn_lock.specs.declared.turns.Turns.{Turns}
use Rattle.turn_lock.specs.declared.seat.SeatToken.{SeatToken as Seat}
use Rattle.turn_lock.specs.History.{entries_by}
use Rattle.turn_lock.specs.Seats.{joined, mine, opening}
use Rattle.turn_seats.specs.Seated.{entry_of}
use Rattle.seat_server.specs.Passages.{Passage, PassesThrough, entries_in}
use Rattle.desk_work.specs.Visits.{Attends, Visit, entries_of}
use Rattle.seat_server.specs.Rules.{Rules}
use Rattle.desk_work.specs.Working.{Works}
use Rattle.desk_laws.specs.Fetched.{AreFilesFetched, FetchedAtDesks}
use Rattle.desk_laws.proofs.Callers.{any-who}
use Rattle.desk_laws.proofs.Fitting.{FitsOne, any-cut, any-left}
use Rattle.desk_laws.proofs.Servers.{all-fit, caller-so}

-- a pass lands nothing
module _ (id path : List ℕ) (blob : Blob) where
  pass-lands : (command : Command) → IsPassCommand command → LandsAs id path blob command → ⊥
  pass-lands (unlist repo) is lands = absurd (let same = lands.1 in cc)
  pass-lands collect is lands = absurd (let same = lands.1 in cc)
  pass-lands command is lands = absurd is

  passes-land : (entries : List Entry) → ArePass entries → AnyByRecursion (LandsFile id path blob) entries → ⊥
  passes-land [] pass any = any
  passes-land (e ∷ entries) pass (inl here) = pass-lands e.command pass.0 here.0
  passes-land (e ∷ entries) pass (inr later) = passes-land entries pass.1 later

  through-land : (settings : Settings) (before after : Store) (passages : List Passage) → PassesThrough settings before passages after
      → AnyByRecursion (LandsFile id path blob) (entries_in passages) → ⊥
  through-land settings before after [] through any = any
  through-land settings before after (p ∷ ps) through any =
      elim (any-cut (LandsFile id path blob) p.entries (entries_in ps) any) [
        | inl one ↦ passes-land p.entries (passes-ask _ p.entries before p.left p.result through.0) one
        | inr two ↦ through-land settings p.left after ps through.1 two
      ]

-- what a desk lands it fetched
module _ {L P D : Type 0} (looks : Looks L P D) (settings : Settings) where
  visits-go : (before after : DeskResources) (visits : List (Visit L)) → Attends looks settings before visits after → GoesOn before.remote after.remote
  visits-go before after [] attends = subst (λ (k : DeskResources). GoesOn before.remote k.remote) (sym attends) (goes-on before.remote)
  visits-go before after (v ∷ vs) attends =
      goes-then before.remote v.left.remote after.remote (serves-go looks.tells settings 1000 v.entries _ _ v.ending attends.0) (visits-go v.left after vs attends.1)

  visits-land : (first : Sees) (before after : DeskResources) (visits : List (Visit L)) → GoesOn first before.remote → Attends looks settings before visits after
      → AllLandWhatCame first after.remote (entries_of visits)
  visits-land first before after [] since attends = tt
  visits-land first before after (v ∷ vs) since attends =
      let goes = serves-go looks.tells settings 1000 v.entries _ _ v.ending attends.0 in
      all-joined (λ (e : Entry). LandsWhatCame first after.remote e.command) v.entries (entries_of vs)
      (all-later first settings looks.tells v.entries v.left.remote after.remote (visits-go v.left after vs attends.1)
      (serves-lands first settings looks.tells 1000 v.entries _ _ v.ending since attends.0))
      (visits-land first v.left after vs (goes-then first before.remote v.left.remote since goes) attends.1)

-- so it is of each caller of a server
module _ {L P D T C R : Type 0} (looks : Looks L P D) (settings : Settings) (rules : Rules T C R) where
  pub works-fetch : (turns : Turns T C R) (first : Seat C R T) (old new : RunResources (List D)) (thing : T) (calls : ℕ) (failed : Bool)
      → (works : Works looks rules settings turns first old new thing calls failed) → mine first ≡ [] → joined first ≡ []
      → AreFilesFetched looks (rules.sight.settings (opening turns)) (rules.sight.state (opening turns)) (map (entry_of rules.sight) works.ended.log) old.desks new.desks
  works-fetch turns first old new thing calls failed works alone apart before later e id path tried lease blob parts looks_at gives =
      let from = all-proxied under start (map (entry_of rules.sight) log) works.history.legal before later e id path tried lease blob parts looks_at gives in
      (from.0, from.1, pick from.0 from.2)
    where
      under : Settings
      under = rules.sight.settings (opening turns)

      start : State
      start = rules.sight.state (opening turns)

      log : List (Call C R T)
      log = works.ended.log

      fit : AllByRecursion (FitsOne under) (map (entry_of rules.sight) log)
      fit = all-fit under start (map (entry_of rules.sight) log) works.history.legal

      by : (one : List ℕ) (k : ℕ) → AnyByRecursion (LandsFile one path blob) (map (entry_of rules.sight) (entries_by k log)) → FetchedAtDesks looks old.desks new.desks one path blob
      by one k lands =
          subst (λ (backs : List D). FetchedAtDesks looks old.desks backs one path blob) (sym works.back_are)
          (elim (works.ended.nobody_else k) [
            | inl sum ↦
                caller-so looks settings rules turns first alone apart under log fit k (λ ds os. FetchedAtDesks looks ds (map (λ (out : Seat C R T × (D × Bool)). out.1.0) os) one path blob)
                (λ d o ds os it is.
                inl (landed-came (looks.resources d).remote (looks.resources o.1.0).remote one path blob (entries_of it.2.0.visits)
                (visits-land looks settings (looks.resources d).remote (looks.resources d) (looks.resources o.1.0) it.2.0.visits (goes-on (looks.resources d).remote) it.2.0.attends)
                (subst (AnyByRecursion (LandsFile one path blob)) (sym is) lands)))
                (λ d o ds os later. inr later) old.desks works.outs works.done works.ended.rest works.cleaning old.cleaner new.cleaner works.cleaned works.ended.first sum
                (λ is.
                absurd (through-land one path blob settings old.cleaner.blobs new.cleaner.blobs works.cleaned.2.passages works.cleaned.2.passes
                (subst (AnyByRecursion (LandsFile one path blob)) (sym is) lands)))
            | inr none ↦ absurd (subst (λ (cs : List (Call C R T)). AnyByRecursion (LandsFile one path blob) (map (entry_of rules.sight) cs)) none.1 lands)
          ])

      pick : (one : List ℕ) → IsRowOf (rows_of one (machine.end under start before)) path blob ⊎ WasLanded start before one path blob
          → IsRowOf (rows_of one (machine.end under start before)) path blob ⊎ IsRowOf (files_of one start) path blob ⊎ FetchedAtDesks looks old.desks new.desks one path blob
      pick one (inl row) = inl row
      pick one (inr (inl kept)) = inr (inl kept)
      pick one (inr (inr lands)) =
          let all : AnyByRecursion (LandsFile one path blob) (map (entry_of rules.sight) log) =
          subst (AnyByRecursion (LandsFile one path blob)) (sym parts) (any-left (LandsFile one path blob) before (e ∷ later) lands) in
          let who = any-who (entry_of rules.sight) (LandsFile one path blob) log all in
          inr (inr (by one who.0 who.1))
