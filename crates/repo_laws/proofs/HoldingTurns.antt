-- What a turn records, by its reply.
use native.Mathlib.Omega.{arith}
use Rattle.std.proofs.Common.{◌≡◌, ℕ, Bool, true, false, List, [], ◌∷◌, ◌++◌, map, length, Option, Some, None, refl, sym, ◌∙◌, ap, eqb-true, length-append}
use Rattle.std.specs.Prelude.{◌==◌, nat_le, count_by, if◌then◌else◌}
use Rattle.std.specs.List.{AllByRecursion, flat_map}
use Rattle.std.proofs.lemmas.Grind.{flat_map-append}
use Rattle.std.proofs.lemmas.List.{length-map}
use Rattle.repo_model.specs.declared.item.Item.TheVariants.{HostedPut, Relisted, SessionOpened, SessionEnded}
use Rattle.repo_model.specs.declared.session.SessionResult.{SessionResult}
use Rattle.repo_model.specs.declared.session.SessionResult.TheVariants.{Aborted, Done}
use Rattle.repo_model.specs.Data.{Blob, Row, Phase, listed, fading, Hosted, Staged, Session, is_same_print}
use Rattle.repo_model.specs.Settings.{Settings}
use Rattle.repo_model.specs.Prints.{recorded_print}
use Rattle.repo_model.specs.State.{State, is_session, is_open, hosted_of, row_at, rows_of, session_of, is_among, number_end, most_sessions}
use Rattle.repo_model.specs.Effect.{Effect, drops, discards, fades, forgets, opens, ends, with_effects, items_of, recorded}
use Rattle.repo_model.specs.Command.{Command, put, open_session, commit, abort, unlist, collect}
use Rattle.repo_model.specs.Reply as answered
use Rattle.repo_model.specs.Purge.{expire_all, due_rows, fade_all}
use Rattle.repo_model.specs.Deploy.{Offence, offence, without_pom, deliver_all, deliver_at, deliver_again}
use Rattle.repo_model.specs.Turn.{Turn, says, draws_or_spent, put_again, put_at, commit_by, unlist_of, unlent, turn}
use Rattle.repo_laws.specs.Holds.{can_record, item_again, item_at}
use Rattle.repo_laws.proofs.Cases.{Case, misses, turn-case}
use Rattle.repo_laws.proofs.HoldingLists.{all-map}
use Rattle.repo_laws.proofs.Lists.{found-passes}
use Rattle.repo_laws.proofs.Making.{expired-all}

module _ (settings : Settings) (s : State) (now : ℕ) where
  case-quiet : (c : Command) (t : Turn) → Case settings s now c t → can_record t.reply ≡ false → recorded t.effects ≡ []
  case-quiet c t (misses repo path tried) is = refl
  case-quiet c t case is = cc

  -- after any other reply nothing is recorded
  pub refused-quiet : (c : Command) → can_record (turn settings s now c).reply ≡ false → recorded (turn settings s now c).effects ≡ []
  refused-quiet c = case-quiet c (turn settings s now c) (turn-case settings s now c)

-- a put records one item, of a new row or of one that is visible again
abbrev PutRecords : List ℕ → List ℕ → Blob → ℕ → Turn → Type 0
PutRecords repo path blob now t =
    (t.reply ≡ answered.created → recorded t.effects ≡ HostedPut repo path blob.number (recorded_print blob.print) now ∷ [])
    × (t.reply ≡ answered.relisted → recorded t.effects ≡ Relisted repo path now ∷ [])

pub put-records : (settings : Settings) (s : State) (now : ℕ) (repo path : List ℕ) (n : ℕ) (blob : Blob) → PutRecords repo path blob now (turn settings s now (put repo path n blob))
put-records settings s now repo path n blob = if-records (is_among n s.yard.drafts) (put_at repo path n blob now (row_at path (rows_of repo s))) (says answered.no_draft) (at (row_at path (rows_of repo s))) ((λ is. cc), (λ is. cc)) where
  if-records : (b : Bool) (t u : Turn) → PutRecords repo path blob now t → PutRecords repo path blob now u → PutRecords repo path blob now (if b then t else u)
  if-records true t u one other = one
  if-records false t u one other = other

  again : (phase : Phase) → PutRecords repo path blob now (put_again repo path n now phase)
  again listed = ((λ is. cc), (λ is. cc))
  again (fading since) = ((λ is. cc), (λ is. refl))

  at : (found : Option Row) → PutRecords repo path blob now (put_at repo path n blob now found)
  at None = ((λ is. refl), (λ is. cc))
  at (Some row) = if-records (is_same_print row.blob.print blob.print) (put_again repo path n now row.phase) (record { reply = answered.taken row.blob.print blob.print; effects = drops n ∷ [] }) (again row.phase) ((λ is. cc), (λ is. cc))

-- opening a session records its number
abbrev OpenRecords : ℕ → Turn → Type 0
OpenRecords n t = t.reply ≡ answered.opened n → recorded t.effects ≡ SessionOpened n ∷ []

pub open-records : (settings : Settings) (s : State) (now : ℕ) (repo : List ℕ) (n : ℕ) → OpenRecords n (turn settings s now (open_session repo))
open-records settings s now repo n =
    if-records (nat_le most_sessions (count_by is_open s.sessions)) (says answered.sessions_full)
    (draws_or_spent s.yard.next_session (record { reply = answered.opened s.yard.next_session; effects = opens s.yard.next_session repo ∷ [] })) (λ is. cc)
    (if-records (s.yard.next_session == number_end) (says answered.spent) (record { reply = answered.opened s.yard.next_session; effects = opens s.yard.next_session repo ∷ [] }) (λ is. cc) numbered) where
      if-records : (b : Bool) (t u : Turn) → OpenRecords n t → OpenRecords n u → OpenRecords n (if b then t else u)
      if-records true t u one other = one
      if-records false t u one other = other

      numbered : OpenRecords n (record { reply = answered.opened s.yard.next_session; effects = opens s.yard.next_session repo ∷ [] })
      numbered is = let same : s.yard.next_session ≡ n = cc in ap (λ k. SessionOpened k ∷ []) same

-- a session that goes on is committed: its files in their order, and then its end
again-items : (one : Session) (now : ℕ) (file : Staged) (phase : Phase) → recorded (deliver_again one now file phase) ≡ item_again one.repo now file.path phase
again-items one now file listed = refl
again-items one now file (fading since) = refl

file-items : (one : Session) (now : ℕ) (file : Staged) (found : Option Row) → recorded (deliver_at one now file found) ≡ item_at one.repo now file found
file-items one now file None = refl
file-items one now file (Some row) = again-items one now file row.phase

files-items : (one : Session) (now : ℕ) (rows : List Row) (files : List Staged)
    → recorded (flat_map (λ (file : Staged). deliver_at one now file (row_at file.path rows)) files) ≡ flat_map (λ (file : Staged). item_at one.repo now file (row_at file.path rows)) files
files-items one now rows [] = refl
files-items one now rows (file ∷ files) =
    flat_map-append items_of (deliver_at one now file (row_at file.path rows)) (flat_map (λ (f : Staged). deliver_at one now f (row_at f.path rows)) files)
    ∙ ap (λ items. items ++ recorded (flat_map (λ (f : Staged). deliver_at one now f (row_at f.path rows)) files)) (file-items one now file (row_at file.path rows))
    ∙ ap (λ rest. item_at one.repo now file (row_at file.path rows) ++ rest) (files-items one now rows files)

pub deploy-items : (one : Session) (now : ℕ) (rows : List Row) (result : SessionResult)
    → recorded (deliver_all one now rows ++ ends one.number result ∷ []) ≡ flat_map (λ (file : Staged). item_at one.repo now file (row_at file.path rows)) one.staged ++ SessionEnded one.number result ∷ []
deploy-items one now rows result =
    flat_map-append items_of (deliver_all one now rows) (ends one.number result ∷ [])
    ∙ ap (λ items. items ++ SessionEnded one.number result ∷ []) (files-items one now rows one.staged)

abbrev CommitRecords : State → ℕ → Session → ℕ → Turn → Type 0
CommitRecords s now one k t =
    t.reply ≡ answered.ended (Done k)
    → recorded t.effects ≡ flat_map (λ (file : Staged). item_at one.repo now file (row_at file.path (rows_of one.repo s))) one.staged ++ SessionEnded one.number (Done k) ∷ []

pub commit-records : (settings : Settings) (s : State) (now n k : ℕ) (one : Session) → session_of n s ≡ Some one → one.ended ≡ None → CommitRecords s now one k (turn settings s now (commit n))
commit-records settings s now n k one known going =
    rw (known, going)
    (by (offence (rows_of one.repo s) one.staged) (without_pom (rows_of one.repo s) one.staged)) where
      by : (other : Option Offence) (pom : Option (List ℕ)) → CommitRecords s now one k (commit_by one now (rows_of one.repo s) other pom)
      by (Some other) pom is = cc
      by None (Some directory) is = cc
      by None None is =
          let same : Done (length one.staged) ≡ Done k = cc in
          deploy-items one now (rows_of one.repo s) (Done (length one.staged))
          ∙ ap (λ result. flat_map (λ (file : Staged). item_at one.repo now file (row_at file.path (rows_of one.repo s))) one.staged ++ SessionEnded one.number result ∷ []) same

-- a session that goes on is given up
discards-none : (n : ℕ) (files : List Staged) (more : List Effect) → recorded (map (λ (file : Staged). discards n file.path file.blob.number) files ++ more) ≡ recorded more
discards-none n [] more = refl
discards-none n (file ∷ files) more = discards-none n files more

pub abort-records : (settings : Settings) (s : State) (now n : ℕ) (one : Session) → session_of n s ≡ Some one → one.ended ≡ None → recorded (turn settings s now (abort n)).effects ≡ SessionEnded one.number Aborted ∷ []
abort-records settings s now n one known going = rw (known, going) (discards-none one.number one.staged (ends one.number Aborted ∷ []))

-- each of some effects records one item
one-each : (es : List Effect) → AllByRecursion (λ e. length (items_of e) ≡ 1) es → length (recorded es) ≡ length es
one-each [] all = refl
one-each (e ∷ es) all = omega (arith, length-append (items_of e) (recorded es), all.0, one-each es all.1)

fades-one : (id : List ℕ) (now : ℕ) (rows : List Row) → AllByRecursion (λ e. length (items_of e) ≡ 1) (map (λ (row : Row). fades id row.path now) rows)
fades-one id now = all-map (λ (row : Row). fades id row.path now) (λ e. length (items_of e) ≡ 1) (λ row. refl)

expires-one : (grace now : ℕ) (hosted : List Hosted) → AllByRecursion (λ e. length (items_of e) ≡ 1) (expire_all grace now hosted)
expires-one = expired-all (λ e. length (items_of e) ≡ 1) (λ repo path blob. refl)

-- the numbers that are answered are those of the items
pub unlist-records : (settings : Settings) (s : State) (now : ℕ) (repo : List ℕ) → (turn settings s now (unlist repo)).reply ≡ answered.unlisted (length (recorded (turn settings s now (unlist repo)).effects))
unlist-records settings s now repo = by (hosted_of repo s) where
  by : (found : Option Hosted) → (unlist_of now found).reply ≡ answered.unlisted (length (recorded (unlist_of now found).effects))
  by None = refl
  by (Some h) = ap answered.unlisted (sym (one-each (fade_all h now) (fades-one h.rule.id now (due_rows h.rule now h.rows)) ∙ length-map (due_rows h.rule now h.rows) (λ (row : Row). fades h.rule.id row.path now)))

pub collect-records : (settings : Settings) (s : State) (now : ℕ)
    → (turn settings s now collect).reply ≡ answered.collected (length (recorded (turn settings s now collect).effects)) (unlent (with_effects s (expire_all settings.grace now s.hosted)).yard)
collect-records settings s now =
    let expiring : List Effect = expire_all settings.grace now s.hosted in
    let yard = (with_effects s expiring).yard in
    let none : recorded (forgets (unlent yard) ∷ []) ≡ [] = refl in
    ap (λ k. answered.collected k (unlent yard))
    (sym (ap length (flat_map-append items_of expiring (forgets (unlent yard) ∷ [])) ∙ length-append (recorded expiring) [] ∙ omega (arith, one-each expiring (expires-one settings.grace now s.hosted))))

-- the number under which a session is found is its own
pub number-found : (n : ℕ) (s : State) (one : Session) → session_of n s ≡ Some one → one.number ≡ n
number-found n s one known = eqb-true one.number n (found-passes (is_session n) s.sessions one known)

-- an ended session answers its result again
pub ended-again : (settings : Settings) (s : State) (now n : ℕ) (one : Session) (result : SessionResult) → session_of n s ≡ Some one → one.ended ≡ Some result
    → (turn settings s now (commit n) ≡ says (answered.ended result)) × (turn settings s now (abort n) ≡ says (answered.ended result))
ended-again settings s now n one result known over = (rw (known, over) refl, rw (known, over) refl)
