-- How a replay may end: with 0, because memory ran out, or since something has failed or was refused.
use Rattle.std.proofs.Common.{◌≡◌, ◌⊎◌, inl, inr, ℕ, Err, refl, sym, ap, subst, arith}
use Rattle.outside.specs.declared.tells.Tells.{Ghosts as Telling}
use Rattle.outside.specs.Faults.{Rose}
use Rattle.repo_core.specs.declared.faults.StartFault.{StartFault}
use Rattle.repo_core.specs.declared.faults.StartFault.TheVariants as start
use Rattle.repo_course.specs.Cleaning.{Store}
use Rattle.repo_course.specs.declared.outcomes.End.{End}
use Rattle.repo_course.specs.declared.outcomes.End.TheVariants as stream
use Rattle.repo_model.specs.Settings.{Settings}
use Rattle.run_lines.specs.Printing.{Output}
use Rattle.run_lines.specs.Reading.{Reads}
use Rattle.repo_run.specs.Begun.{RefusesStart, StartFails}
use Rattle.repo_run.specs.Replay.{Finishes, Replays, ReplaysBy, Reports, accepted, counts, none_left, not_started, one_served, port_failed, refused}
use Rattle.repo_run.specs.Status.{HasStatus, done, memory_wanted, out_failed, sink_failed, source_failed}
use Rattle.repo_run.specs.Surroundings.{DeskState, View, connection}
use Rattle.memory_laws.specs.Failed as failed
use Rattle.memory_laws.specs.Failed.{HasFailed, IsStarved}

-- what a stream's end has printed, where the status is 8
starved-line : (calls : ℕ) (ending : End) (out out' : Output) (status : ℕ) → status ≡ 8 → Finishes calls ending out out' status → IsStarved out out' status
starved-line calls ending out out' status eight (inl whole) = absurd (omega (arith, eight, whole.1))
starved-line calls ending out out' status eight (inr (inl part)) = absurd (omega (arith, eight, part.1))
starved-line calls ending out out' status eight (inr (inr starved)) = starved

starved-report : (ending : End) (calls : ℕ) (out out' : Output) (status : ℕ) → status ≡ 8 → Reports ending calls out out' status → IsStarved out out' status
starved-report stream.SourceFault calls out out' status eight reports = absurd (omega (arith, eight, reports.1))
starved-report stream.SinkFault calls out out' status eight reports = absurd (omega (arith, eight, reports.1))
starved-report stream.Closed calls out out' status eight reports = starved-line calls stream.Closed out out' status eight reports
starved-report stream.TornRequest calls out out' status eight reports = starved-line calls stream.TornRequest out out' status eight reports
starved-report stream.TurnLimit calls out out' status eight reports = starved-line calls stream.TurnLimit out out' status eight reports

module _ {X : Type 0} (tells : Type 0) (links : Telling X) (old new : View (DeskState X)) (status : ℕ) where
  abbrev Failed : Type 0
  Failed = HasFailed links old new status

  abbrev pub EndsSo : Type 0
  EndsSo = (status ≡ 0) ⊎ (IsStarved old.out new.out status ⊎ Failed)

  -- the settings are not read
  unread : Reads old.source new.source old.out new.out (Err status) → EndsSo
  unread (inl (rose, _, six)) = inr (inr (failed.settings_failed rose six))
  unread (inr (refusal, _, says, inl (line, is_line, prints, three))) = inr (inr (failed.settings_refused refusal line says is_line prints three))
  unread (inr (refusal, _, _, inr starved)) = inr (inl starved)

  -- no repository is opened
  unopened : (fault : StartFault) → StartFails old.records new.records old.place.resources.blobs new.place.resources.blobs fault → RefusesStart fault old.out new.out status → EndsSo
  unopened start.NoMemory fails refuses = inr (inl refuses)
  unopened start.Store fails refuses = by fails.cause where
    by : (Rose old.records.faults new.records.faults × (new.place.resources.blobs.faults ≡ old.place.resources.blobs.faults)) ⊎ ((new.records.faults ≡ old.records.faults) × Rose old.place.resources.blobs.faults new.place.resources.blobs.faults) → EndsSo
    by (inl (rose, _)) = inr (inr (failed.records_failed rose refuses.1))
    by (inr (_, rose)) = inr (inr (failed.blobs_failed rose refuses.1))
  unopened start.NotOurs fails refuses = inr (inr (failed.start_refused start.NotOurs refl fails refuses (inl refuses.1)))
  unopened (start.Row frame at) fails (inl refuses) = inr (inr (failed.start_refused (start.Row frame at) refl fails (inl refuses) (inl refuses.1)))
  unopened (start.Row frame at) fails (inr starved) = inr (inl starved)
  unopened (start.Damaged damage) fails (inl refuses) = inr (inr (failed.start_refused (start.Damaged damage) refl fails (inl refuses) (inr refuses.1)))
  unopened (start.Damaged damage) fails (inr starved) = inr (inl starved)

  -- the connection was served
  served : (link link' : X) (ending : End) (calls : ℕ) → failed.IsGivenBack old.place new.place link link' → Reports ending calls old.out new.out status
      → HasStatus (counts (connection links link) old.out) (counts (connection links link') new.out) status → EndsSo
  served link link' ending calls back reports (done _ zero) = inl zero
  served link link' ending calls back reports (source_failed rose _ six) = inr (inr (failed.source_failed link link' back rose six))
  served link link' ending calls back reports (sink_failed _ rose _ seven) = inr (inr (failed.sink_failed link link' back rose seven))
  served link link' ending calls back reports (out_failed _ _ rose seven) = inr (inr (failed.out_failed rose seven))
  served link link' ending calls back reports (memory_wanted _ _ eight) = inr (inl (starved-report ending calls old.out new.out status eight reports))

  closed : Finishes 0 stream.Closed old.out new.out status → EndsSo
  closed (inl whole) = inl whole.1
  closed (inr (inl ((_, _, rose, _), seven))) = inr (inr (failed.out_failed rose seven))
  closed (inr (inr starved)) = inr (inl starved)

  by-settings : (settings : Settings) → Replays tells links settings old new status → EndsSo
  by-settings settings (not_started fault blobs fails after _ refuses) =
      unopened fault (subst (λ (b : Store). StartFails old.records new.records old.place.resources.blobs b fault) (sym (ap (λ (d : DeskState X). d.resources.blobs) after)) fails) refuses
  by-settings settings (port_failed _ _ faults _ rose after _ _ _ six) =
      inr (inr (failed.port_failed (subst (λ (n : ℕ). Rose old.place.port_faults n) (sym (ap (λ (d : DeskState X). d.port_faults) after)) rose) six))
  by-settings settings (none_left _ _ _ _ _ _ _ reports) = closed reports
  by-settings settings (one_served link link' left resources ending calls comes after _ reports has) =
      served link link' ending calls ((left, comes), ap (λ (d : DeskState X). d.given_back) after) reports has

  pub ends-so : ReplaysBy tells links old new status → EndsSo
  ends-so (refused reads _ _ _) = unread reads
  ends-so (accepted settings reads serves) = by-settings settings serves
