-- A file that a stream answers was fetched, or was there before; and a landing of a fault is of a fetch that raised the remote's count.
use Rattle.std.proofs.Common.{◌≡◌, ◌⊎◌, inl, inr, ℕ, ◌≤◌, List, [], ◌∷◌, ◌++◌, Option, Some, None, refl, subst, arith}
use Rattle.fetch_plan.specs.declared.Outcome.{Outcome as Came}
use Rattle.fetch_plan.specs.declared.Outcome.TheVariants as came
use Rattle.fetch_plan.specs.declared.Plan.{Plan}
use Rattle.outside.specs.Faults.{Rose}
use Rattle.outside.specs.Told.{IsWhereTold}
use Rattle.outside_remote.specs.Exchanges.{Sees}
use Rattle.remote_fetch.specs.Got.{HasFetchCause}
use Rattle.remote_fetch.specs.declared.contents.Content.{Content}
use Rattle.remote_fetch.specs.declared.contents.Content.TheVariants as content
use Rattle.remote_fetch.proofs.Causes.{fetch-cause, fetch-got}
use Rattle.repo_model.specs.Command.{land, look}
use Rattle.repo_model.specs.Data.{Blob}
use Rattle.repo_model.specs.Fetched.{got_file}
use Rattle.repo_model.specs.History.{Entry, Legal, end}
use Rattle.repo_model.specs.Reply.{file}
use Rattle.repo_model.specs.Settings.{Settings}
use Rattle.repo_model.specs.State.{State, rows_of}
use Rattle.repo_laws.specs.Laws.{AnyByRecursion}
use Rattle.repo_laws.specs.Looks.{IsAsked, IsRowOf}
use Rattle.repo_laws.specs.Proxied.{LandsFile, WasLanded}
use Rattle.repo_laws.proofs.Proxied.{all-proxied}
use Rattle.repo_course.specs.Serving.{print_of}
use Rattle.course_laws.specs.Duties.{landing_of}
use Rattle.course_laws.specs.Landed.{AllLandWhatCame, FileWasFetched, HasOrigin, LandsWhatCame, WasFetched}
use Rattle.course_laws.proofs.Rising.{rose-before}

rose-after : (before after later : ℕ) → Rose before after → after ≤ later → Rose before later
rose-after before after later rose le = (omega arith, omega arith)

module _ (first now : Sees) where
  -- ---- a fault
  only-fault : (o : Came Content) (stored : Option Blob) → landing_of o stored ≡ Some came.Fault → o ≡ came.Fault
  only-fault (came.Got (content.File checked)) None is = absurd (cc)
  only-fault (came.Got (content.File checked)) (Some blob) is = absurd (cc)
  only-fault came.Fault stored is = refl
  only-fault _ stored is = absurd (cc)

  fault-rose : (plan : Plan) (o : Came Content) (stored : Option Blob) → WasFetched plan o stored first now → o ≡ came.Fault → Rose first.faults now.faults
  fault-rose plan o stored w is =
      let rose : Rose w.before.faults w.behind_it.faults =
      subst (λ (x : Came Content). HasFetchCause x w.before.faults w.behind_it.faults) is (fetch-cause plan o w.before w.behind_it w.fetched) in
      rose-after first.faults w.behind_it.faults now.faults (rose-before first.faults w.before.faults w.behind_it.faults w.since.faults rose) w.later.faults

  pub faults-rose : (entries : List Entry) → AllLandWhatCame first now entries
      → AnyByRecursion (λ (e : Entry). (plan : Plan) × (e.command ≡ land plan came.Fault)) entries → Rose first.faults now.faults
  faults-rose [] all any = absurd any
  faults-rose (e ∷ entries) all (inl here) =
      let w : LandsWhatCame first now (land here.0 came.Fault) = subst (LandsWhatCame first now) here.1 all.0 in
      fault-rose here.0 w.0 w.1 w.2 (only-fault w.0 w.1 w.3)
  faults-rose (e ∷ entries) all (inr later) = faults-rose entries all.1 later

  -- ---- a file
  file-came : (id path : List ℕ) (blob : Blob) (plan : Plan) → plan.proxy ≡ id → plan.path ≡ path → (o : Came Content) (stored : Option Blob)
      → WasFetched plan o stored first now → landing_of o stored ≡ Some (came.Got (got_file blob)) → FileWasFetched id path blob first now
  file-came id path blob plan of_proxy at (came.Got (content.File checked)) None w is = absurd (cc)
  file-came id path blob plan of_proxy at (came.Got (content.File checked)) (Some kept) w is =
      let same : kept ≡ blob = cc in
      record {
        plan = plan;
        of_proxy = of_proxy;
        at = at;
        checked = checked;
        before = w.before;
        behind_it = w.behind_it;
        agreed = (fetch-got plan (content.File checked) w.before w.behind_it w.fetched).1;
        since = w.since;
        later = w.later;
        print = subst (λ (b : Blob). b.print ≡ print_of checked.bytes) same w.file.0;
        bytes = subst (λ (b : Blob). IsWhereTold b.bytes checked.bytes) same w.file.1;
      }
  file-came id path blob plan of_proxy at _ stored w is = absurd (cc)

  pub landed-came : (id path : List ℕ) (blob : Blob) (entries : List Entry) → AllLandWhatCame first now entries → AnyByRecursion (LandsFile id path blob) entries
      → FileWasFetched id path blob first now
  landed-came id path blob [] all any = absurd any
  landed-came id path blob (e ∷ entries) all (inl here) =
      let w : LandsWhatCame first now (land here.0.0 (came.Got (got_file blob))) = subst (LandsWhatCame first now) here.0.1 all.0 in
      file-came id path blob here.0.0 here.0.2 here.0.3 w.0 w.1 w.2 w.3
  landed-came id path blob (e ∷ entries) all (inr later) = landed-came id path blob entries all.1 later

  front-of : (before later : List Entry) → AllLandWhatCame first now (before ++ later) → AllLandWhatCame first now before
  front-of [] later all = tt
  front-of (e ∷ before) later all = (all.0, front-of before later all.1)

  pub file-origin : (settings : Settings) (start : State) (before later : List Entry) (e : Entry) (id path tried : List ℕ) (lease : ℕ) (blob : Blob)
      → Legal settings start (before ++ e ∷ later) → AllLandWhatCame first now (before ++ e ∷ later) → e.command ≡ look id path tried → e.reply ≡ file lease blob
      → (one : List ℕ) × IsAsked settings id one × HasOrigin start (end settings start before) one path blob first now
  file-origin settings start before later e id path tried lease blob legal all looks gives =
      let from = all-proxied settings start (before ++ e ∷ later) legal before later e id path tried lease blob refl looks gives in
      (from.0, from.1, pick from.0 from.2)
    where
      pick : (one : List ℕ) → IsRowOf (rows_of one (end settings start before)) path blob ⊎ WasLanded start before one path blob
          → HasOrigin start (end settings start before) one path blob first now
      pick one (inl row) = inl row
      pick one (inr (inl kept)) = inr (inl kept)
      pick one (inr (inr lands)) = inr (inr (landed-came one path blob before (front-of before (e ∷ later) all) lands))
