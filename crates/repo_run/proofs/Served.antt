-- A replay's first connection, from what the server says of the stream: its history, its bytes, its status.
use Rattle.std.proofs.Common.{◌≡◌, ◌∷◌, ◌++◌, ℕ, ◌+◌, ◌*◌, ◌≤◌, arith, length, length-append, List, [], Option, Some, None, inl, inr, refl, sym, subst, ap, ◌∙◌}
use Rattle.std.specs.Prelude.{max, min, map, nat_le, zero, suc, true}
use Rattle.std.specs.List.{list_all}
use Rattle.std.proofs.lemmas.Bool.{and_parts, leb-true}
use Rattle.std.proofs.lemmas.List.{length-map}
use Rattle.repo_config.specs.Form.{IsSettings, is_group_rule}
use Rattle.settings_keys.specs.Keys.{is_member_list}
use Rattle.repo_config.specs.Names.{ids_of}
use Rattle.settings_keys.specs.Ids.{is_id}
use Rattle.course_laws.specs.Duties.{looks_most, most_asked, most_members, most_rounds, twice}
use Rattle.repo_course.specs.Cleaning.{Store}
use Rattle.outside.specs.Faults.{last_count}
use Rattle.outside.specs.Moments.{Moments}
use Rattle.outside.specs.Told.{in_front}
use Rattle.repo_core.specs.Whole.{Whole}
use Rattle.repo_model.specs.History.{Entry, Legal, end}
use Rattle.repo_model.specs.Settings.{GroupRule, ProxyRule, Rule, Settings}
use Rattle.repo_model.specs.State.{State, opening}
use Rattle.repo_course.specs.declared.outcomes.End.{End}
use Rattle.repo_course.specs.declared.outcomes.End.TheVariants.{Closed, TornRequest, TurnLimit, SourceFault, SinkFault}
use Rattle.repo_course.specs.Serving.{Outside, ServesStream}
use Rattle.course_laws.specs.AsPlayed.{StoodStill}
use Rattle.course_laws.specs.Endings.{EndsByCause}
use Rattle.course_laws.specs.LeftBehind.{IsDrawn}
use Rattle.course_laws.proofs.Endings.{serves_few, serves_shows}
use Rattle.course_laws.proofs.LeftBehind.{serves_leaves}
use Rattle.course_laws.proofs.PlayedStream.{as-played, stream-upto}
use Rattle.course_laws.proofs.Told.{opening-told}
use Rattle.repo_run.proofs.Alone.{core_alone, core_counted}
use Rattle.repo_run.specs.FirstConnection.{Makes, ServesFirst, port_failed, none_left, one_served}
use Rattle.store_check.specs.Checking.{Recorded}
use Rattle.repo_run.specs.Begun.{Begins, HoldsRecords, IsFresh}
use Rattle.repo_run.specs.Replay.{Finishes, IsReplayed, Replays, Reports, ReportsFirst, counts}
use Rattle.repo_run.proofs.Fresh.{fresh-state, fresh-store}
use Rattle.repo_run.specs.Replay as replay
use Rattle.repo_run.specs.Status.{Counts, HasStatus, done, source_failed, sink_failed, out_failed, memory_wanted}
use Rattle.run_lines.specs.Printing.{Output}
use Rattle.outside.specs.declared.tells.Tells.{Ghosts as Telling}
use Rattle.run_desks.specs.Seen.{DeskResources, with_blobs}
use Rattle.repo_run.specs.Surroundings.{Connection, DeskState, Served, View, connection, outside_at, outside_of, outside_with, placed, served, with_store}

same-counts : (old new : Connection) (out out' : Output) → new.read_faults ≡ old.read_faults → new.write_faults ≡ old.write_faults
    → out'.faults ≡ out.faults → counts new out' ≡ counts old out
same-counts old new out out' r w o =
    let all : ℕ → ℕ → ℕ → Counts = λ a b c. record { source = a; sink = b; out = c } in
    ap (λ a. all a new.write_faults out'.faults) r ∙ ap (λ b. all old.read_faults b out'.faults) w
    ∙ ap (λ c. all old.read_faults old.write_faults c) o

-- a stream that neither side's failure ended
finished : (calls : ℕ) (ending : End) (old new : Connection) (out out' : Output) (status : ℕ) → new.read_faults ≡ old.read_faults
    → new.write_faults ≡ old.write_faults → Finishes calls ending out out' status → HasStatus (counts old out) (counts new out') status
finished calls ending old new out out' status r w (inl a) = done (same-counts old new out out' r w (ap (λ (o : Output). o.faults) a.0)) a.1
finished calls ending old new out out' status r w (inr (inl a)) = out_failed r w a.0.2 a.1
finished calls ending old new out out' status r w (inr (inr a)) = memory_wanted r w a.1

pub has-status : (calls : ℕ) (ending : End) (old new : Connection) (out out' : Output) (status : ℕ) (input input' : Option (List ℕ)) (blobs blobs' : DeskResources)
    → EndsByCause ending (outside_at input old blobs) (outside_at input' new blobs') → Reports ending calls out out' status
    → HasStatus (counts old out) (counts new out') status
has-status calls SourceFault old new out out' status input input' blobs blobs' ends told = source_failed ends.0 ends.1 told.1
has-status calls SinkFault old new out out' status input input' blobs blobs' ends told = sink_failed ends.0 ends.1 (ap (λ (o : Output). o.faults) told.0) told.1
has-status calls Closed old new out out' status input input' blobs blobs' ends told = finished calls Closed old new out out' status ends.0 ends.1 told
has-status calls TornRequest old new out out' status input input' blobs blobs' ends told = finished calls TornRequest old new out out' status ends.0 ends.1 told
has-status calls TurnLimit old new out out' status input input' blobs blobs' ends told = finished calls TurnLimit old new out out' status ends.0 ends.1 told

-- a request of such settings makes at most 65 commands
twice-is : (n : ℕ) → twice n ≡ n + n
twice-is zero = refl
twice-is (suc n) = let rest = twice-is n in omega (arith, rest)

members-few : (groups : List GroupRule) → list_all is_group_rule groups ≡ true → most_members groups ≤ 16
members-few [] all = omega arith
members-few (g ∷ groups) all =
    let each = and_parts (is_group_rule g) (list_all is_group_rule groups) all in
    let listed = (and_parts (is_id g.id) (is_member_list g.members) each.0).1 in
    let sizes = (and_parts _ _ (and_parts _ _ listed).0).0 in
    let here : length g.members ≤ 16 = leb-true (length g.members) 16 (and_parts _ _ sizes).1 in
    let rest = members-few groups each.1 in omega (arith, here, rest)

pub most-few : (settings : Settings) → IsSettings settings → most_asked settings ≤ 65
unfolding most_asked
most-few settings form =
    let mine : List (List ℕ) = map (λ (rule : Rule). rule.id) settings.hosted in
    let proxies : List (List ℕ) = map (λ (rule : ProxyRule). rule.id) settings.proxies in
    let groups : List (List ℕ) = map (λ (rule : GroupRule). rule.id) settings.groups in
    let count = length (ids_of settings) in
    let ids : count ≤ 64 = leb-true count 64 (and_parts (nat_le 1 count) (nat_le count 64) form.repositories).1 in
    let all : count ≡ length (mine ++ proxies) + length groups = length-append (mine ++ proxies) groups in
    let parts : length (mine ++ proxies) ≡ length mine + length proxies = length-append mine proxies in
    let hosted : length mine ≡ length settings.hosted = length-map settings.hosted (λ (rule : Rule). rule.id) in
    few (length settings.hosted) (most_rounds settings) (omega (arith, ids, all, parts, hosted)) (omega (arith, members-few settings.groups form.groups))
  where
    few : (n rounds : ℕ) → n ≤ 64 → rounds ≤ 16 → max (max 3 (n + 1)) (looks_most rounds) ≤ 65
    few n rounds most rounds-few = let double = twice-is rounds in omega (arith, most, rounds-few, double)

-- so few calls are all counted
all-counted : (calls made most : ℕ) → calls ≡ min (0 + made) last_count → made ≤ most * 1000 → most ≤ 65 → calls ≡ made
all-counted calls made most counted few limit = omega (arith, counted, few, limit)

-- a stream that begins with nothing read ahead
pub nothing_held : (told : Option (List ℕ)) → in_front [] told ≡ told
nothing_held None = refl
nothing_held (Some bytes) = refl

module _ (tells : Type 0) (settings : Settings) (form : IsSettings settings) where
  pub is-replayed : (old new : View Served) (cleared : Store) (begun core : Whole) (held : List ℕ) (ending : End) (entries : List Entry)
      → Begins settings old.records old.place.resources.blobs cleared old.clock begun → Makes begun entries core
      → ServesStream settings tells 1000 entries (outside_with [] (with_store cleared old.place)) (outside_with held new.place) ending
      → new.clock ≡ core.state.clock → HoldsRecords core new.records → IsReplayed tells settings old new ending core.calls
  is-replayed old new cleared begun core held ending entries begins made first clock-is holds =
      let records = old.records in
      let records' = new.records in
      let resources = old.place.resources in
      let link = old.place.connection in
      let before = outside_of (with_store cleared old.place) in
      let after = outside_with held new.place in
      let over : Store → Outside = λ (b : Store). outside_of (with_store b old.place) in
      let served = subst (λ (input : Option (List ℕ)). ServesStream settings tells 1000 entries (outside_at input link (with_blobs cleared resources)) after ending) (nothing_held link.left) first in
      let alone = core_alone entries begun core made in
      let legal : Legal settings begun.state entries = subst (λ (s : Settings). Legal s begun.state entries) begins.settings_are alone.legal in
      let ends : core.state ≡ end settings begun.state entries = alone.ends ∙ ap (λ (s : Settings). end s begun.state entries) begins.settings_are in
      let drawn : IsDrawn begun.state.yard = subst (λ (s : State). IsDrawn s.yard) (sym begins.starts.state) (record { drafts = tt; leases = tt }) in
      let left = serves_leaves tells settings 1000 entries begun.state legal before after ending served in
      let nothing = left.nothing drawn in
      let yard = ap (λ (s : State). s.yard) ends in
      let begun-yard = ap (λ (s : State). s.yard) begins.starts.state in
      let none : begun.calls ≡ 0 = begins.calls_are in
      let counted : core.calls ≡ min (0 + length entries) last_count =
      subst (λ (n : ℕ). core.calls ≡ min (n + length entries) last_count) none (core_counted entries begun core (omega (arith, none)) made) in
      record {
        entries = entries;
        begun = begun;
        core = core;
        cleared = cleared;
        held = held;
        begins = begins;
        serves = served;
        made = made;
        legal = legal;
        state = ends;
        clock_is = clock-is;
        holds = holds;
        counted = all-counted core.calls (length entries) (most_asked settings) counted
            (serves_few tells settings 1000 entries before after ending served) (most-few settings form);
        nothing_left = (ap (λ y. y.drafts) yard ∙ nothing.drafts ∙ ap (λ y. y.drafts) begun-yard, ap (λ y. y.leases) yard ∙ nothing.leases ∙ ap (λ y. y.leases) begun-yard);
        drafts_found = left.found;
        ends = serves_shows tells settings 1000 entries before after ending served;
        played = λ fresh moments input taken told calm.
            let start = opening settings (Some moments) in
            let first = fresh-state settings records records' resources.blobs cleared old.clock begun fresh begins ∙ ap (opening settings) told.clock_is in
            let stood = calm-records records records' begun core moments entries first ends holds fresh in
            stream-upto settings tells told.blobs_tell 1000 entries start (subst (λ (s : State). Legal settings s entries) first legal) stood
            (outside_of old.place) after ending input taken
            (record { input_is = told.left_is; output_is = told.taken_is; rows = opening-told settings (Some moments); clock = refl }) calm
            (subst (λ (b : Store). ServesStream settings tells 1000 entries (over b) after ending) (fresh-store settings records records' resources.blobs cleared old.clock begun fresh begins) served);
        faultless = λ fresh moments input taken told calm.
            let start = opening settings (Some moments) in
            let first = fresh-state settings records records' resources.blobs cleared old.clock begun fresh begins ∙ ap (opening settings) told.clock_is in
            let stood = calm-records records records' begun core moments entries first ends holds fresh in
            as-played settings tells told.blobs_tell 1000 entries start (subst (λ (s : State). Legal settings s entries) first legal) stood
            (outside_of old.place) after ending input taken
            (record { input_is = told.left_is; output_is = told.taken_is; rows = opening-told settings (Some moments); clock = refl }) calm
            (subst (λ (b : Store). ServesStream settings tells 1000 entries (over b) after ending) (fresh-store settings records records' resources.blobs cleared old.clock begun fresh begins) served);
      }
    where
      -- the records of the opening state have not failed in the end
      calm-records : (records records' : Recorded) (begun core : Whole) (moments : Moments) (entries : List Entry) → begun.state ≡ opening settings (Some moments)
          → core.state ≡ end settings begun.state entries → HoldsRecords core records' → {blobs : Store} → IsFresh records records' blobs
          → StoodStill 0 (end settings (opening settings (Some moments)) entries).faults
      calm-records records records' begun core moments entries first ends holds fresh =
          let last : core.state ≡ end settings (opening settings (Some moments)) entries = ends ∙ ap (λ (s : State). end settings s entries) first in
          let none : (end settings (opening settings (Some moments)) entries).faults ≡ 0 = sym (ap (λ (s : State). s.faults) last) ∙ sym holds.1 ∙ fresh.stood in
          (none, omega (arith, none))

  module _ {X : Type 0} (links : Telling X) (old new : View (DeskState X)) (status : ℕ) where
    abbrev Replayed : Type 0
    Replayed = Replays tells links settings old new status

    -- a repository that was not asked has its records and its clock as they were when it began
    unasked : (cleared : Store) (core core' : Whole) → Begins settings old.records old.place.resources.blobs cleared old.clock core → core' ≡ core → new.clock ≡ core'.state.clock
        → HoldsRecords core' new.records → HoldsRecords core new.records × (new.clock ≡ old.clock)
    unasked cleared core core' begins same clock-is holds =
        let first = ap (λ (w : Whole). w.state) same ∙ begins.starts.state in
        (subst (λ (w : Whole). HoldsRecords w new.records) same holds, clock-is ∙ ap (λ (s : State). s.clock) first)

    -- what was served, with the line that tells it
    pub replays : (cleared : Store) (core core' : Whole) (ended : Option End) → Begins settings old.records old.place.resources.blobs cleared old.clock core
        → ServesFirst tells links settings (record old.place { resources = with_blobs cleared old.place.resources }) new.place core core' ended
        → new.clock ≡ core'.state.clock → HoldsRecords core' new.records → ReportsFirst ended core'.calls old.out new.out status → Replayed
    replays cleared core core' ended begins (port_failed faults rose desk same ends) clock-is holds told =
        let last = subst (λ (e : Option End). ReportsFirst e core'.calls old.out new.out status) ends told in
        let left = unasked cleared core core' begins same clock-is holds in
        replay.port_failed core cleared faults begins rose desk left.0 left.1 last.0 last.1
    replays cleared core core' ended begins (none_left at-end desk same ends) clock-is holds told =
        let last = subst (λ (e : Option End). ReportsFirst e core'.calls old.out new.out status) ends told in
        let left = unasked cleared core core' begins same clock-is holds in
        replay.none_left core cleared begins at-end desk left.0 left.1
        (subst (λ (n : ℕ). Reports Closed n old.out new.out status) (ap (λ (w : Whole). w.calls) same ∙ begins.calls_are) last)
    replays cleared core core' ended begins (one_served link link' left held resources ending entries took desk makes serves ends) clock-is holds told =
        let last = subst (λ (e : Option End). ReportsFirst e core'.calls old.out new.out status) ends told in
        let all = is-replayed (placed (served (connection links link) old.place.resources) old) (placed (served (connection links link') resources) new) cleared core core' held ending entries begins makes serves clock-is holds in
        replay.one_served link link' left resources ending core'.calls took desk all last
        (has-status core'.calls ending (connection links link) (connection links link') old.out new.out status _ _ (with_blobs all.cleared old.place.resources) resources all.ends last)
