-- A file that has landed is not fetched again.
use Rattle.std.proofs.Common.{◌≡◌, ℕ, true, List, [], ◌∷◌, ◌++◌, Option, Some, None, Result, Ok, refl, sym, ◌∙◌, ap, subst}
use Rattle.std.specs.Prelude.{is_some}
use Rattle.std.specs.Option.{option_map_or}
use Rattle.std.proofs.lemmas.Bool.{false≢true, and_parts}
use Rattle.std.proofs.lemmas.Option.{none-some}
use Rattle.mvn_coords.specs.Kind.{kind}
use Rattle.mvn_coords.specs.declared.kind.Kind.{Kind}
use Rattle.mvn_coords.specs.declared.kind.Kind.TheVariants.{File, Doc}
use Rattle.mvn_coords.specs.declared.fault.PathFault.{PathFault}
use Rattle.mvn_coords.specs.Layout.{Coordinates}
use Rattle.fetch_plan.specs.declared.Plan.{Plan}
use Rattle.fetch_plan.specs.declared.Outcome.TheVariants.{Got}
use Rattle.repo_model.specs.Fetched.{got_file}
use Rattle.repo_model.specs.Data.{Blob, Row, Proxy}
use Rattle.repo_model.specs.Settings.{Settings}
use Rattle.repo_model.specs.State.{State, row_at, files_of}
use Rattle.repo_model.specs.Effect.{new_row}
use Rattle.repo_model.specs.Command.{Command, look, land, proxy_rule_of, is_landing, meets}
use Rattle.repo_model.specs.Reply.{Reply, fetches, is_free, can_get}
use Rattle.repo_model.specs.Turn.{turn}
use Rattle.repo_model.specs.History.{Entry, Fits, Legal, after, end}
use Rattle.repo_laws.specs.Proxied.{LandsFile}
use Rattle.repo_laws.specs.Sound.{AreNamedApart, IsSound}
use Rattle.repo_laws.proofs.Answered.{turn-can_get, reply-determined}
use Rattle.repo_laws.proofs.Keeping.{keeps-sound, ends-sound}
use Rattle.proxy_laws.specs.Limits.{kept_first}
use Rattle.proxy_laws.specs.Decisions.{KeepsTooLittle}
use Rattle.proxy_laws.proofs.Planning.{needed}
use Rattle.proxy_laws.proofs.Staying.{landed-kept, file-after-history}

-- only a look is answered by a plan
looks-alone : (settings : Settings) (s : State) (now : ℕ) (c : Command) (plan : Plan) → (turn settings s now c).reply ≡ fetches plan → (id path tried : List ℕ) × (c ≡ look id path tried)
looks-alone settings s now (look id path tried) plan is = (id, path, tried, refl)
looks-alone settings s now c plan is = absurd (false≢true (subst (λ (r : Reply). can_get c r ≡ true) is (turn-can_get settings s now c)))

-- a kept file is at no path that is to be fetched
no-plan-of-kept : (settings : Settings) (s : State) (now : ℕ) (c : Command) (plan : Plan) (coordinates : Coordinates) (row : Row) → (turn settings s now c).reply ≡ fetches plan
    → kind plan.path ≡ Ok (File coordinates) → row_at plan.path (files_of plan.proxy s) ≡ Some row → ⊥
no-plan-of-kept settings s now c plan coordinates row is file found =
    let (id, path, tried, asks) = looks-alone settings s now c plan is in
    let (p, there, (_, little, _, _, _)) = needed settings s now id path tried plan (ap (λ (x : Command). (turn settings s now x).reply) (sym asks) ∙ is) in
    let none : row_at plan.path p.files ≡ None = subst (KeepsTooLittle p now plan.path) file little in
    let here : row_at plan.path p.files ≡ Some row = subst (λ (x : Option Proxy). row_at plan.path (option_map_or (λ (q : Proxy). q.files) x []) ≡ Some row) there found in
    none-some row (sym none ∙ here)

-- a file lands at a file's path
landed-kind : (k : Result Kind PathFault) (under : Option ℕ) (blob : Blob) → is_landing k under (Got (got_file blob)) ≡ true → (coordinates : Coordinates) × (k ≡ Ok (File coordinates))
landed-kind (Ok (File coordinates)) (Some n) blob lands = (coordinates, refl)
landed-kind (Ok (Doc d)) None blob lands = absurd (false≢true lands)
landed-kind _ under blob lands = absurd (false≢true lands)

landed-path : (settings : Settings) (old : State) (e : Entry) (id path : List ℕ) (blob : Blob) → Fits settings old e → LandsFile id path blob e → (coordinates : Coordinates) × (kind path ≡ Ok (File coordinates))
landed-path settings old e id path blob fits ((plan, asks, proxy_is, path_is), replies) =
    let met : meets settings (land plan (Got (got_file blob))) ≡ true = ap (meets settings) (sym asks) ∙ fits.condition in
    let (coordinates, is) =
    landed-kind (kind plan.path) plan.draft blob (and_parts (is_some (proxy_rule_of plan.proxy settings)) (is_landing (kind plan.path) plan.draft (Got (got_file blob))) met).1 in
    (coordinates, ap kind (sym path_is) ∙ is)

-- the parts of a history
parts : (settings : Settings) (before later : List Entry) (s : State) → Legal settings s (before ++ later) → Legal settings s before × Legal settings (end settings s before) later
parts settings [] later s legal = (tt, legal)
parts settings (e ∷ before) later s legal = let rest = parts settings before later (after settings s e) legal.1 in ((legal.0, rest.0), rest.1)

pub never-again : (settings : Settings) (start : State) (before between later : List Entry) (one other : Entry) (id path : List ℕ) (blob : Blob) (plan : Plan)
    → AreNamedApart settings.hosted → IsSound settings start → Legal settings start (before ++ (one ∷ (between ++ (other ∷ later)))) → LandsFile id path blob one
    → other.reply ≡ fetches plan → plan.proxy ≡ id → plan.path ≡ path → ⊥
never-again settings start before between later one other id path blob plan apart sound legal lands answers proxy_is path_is =
    let (front, (one_fits, rest)) = parts settings before (one ∷ (between ++ (other ∷ later))) start legal in
    let s : State = end settings start before in
    let s_sound = ends-sound settings apart start before sound front in
    let (mid, (other_fits, _)) = parts settings between (other ∷ later) (after settings s one) rest in
    let row : Row = kept_first (row_at path (files_of id s)) (new_row path blob one.moment) in
    let kept = landed-kept settings s one id path blob s_sound one_fits lands in
    let still = file-after-history settings (after settings s one) between id path row apart (keeps-sound settings apart s one s_sound one_fits) mid kept in
    let t : State = end settings (after settings s one) between in
    let (coordinates, file) = landed-path settings s one id path blob one_fits lands in
    no-plan-of-kept settings t other.moment other.command plan coordinates row (sym (reply-determined settings t other other_fits (ap is_free answers)) ∙ answers)
    (ap kind path_is ∙ file)
    (subst (λ (x : List ℕ). row_at plan.path (files_of x t) ≡ Some row) (sym proxy_is) (subst (λ (x : List ℕ). row_at x (files_of id t) ≡ Some row) (sym path_is) still))
