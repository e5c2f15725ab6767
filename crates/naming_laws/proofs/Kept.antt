-- What keeps the files of a repository as they were, and what keeps each of them.
use native.Mathlib.Omega.{arith}
use Rattle.std.proofs.Common.{◌≡◌, ℕ, Bool, true, false, cond, List, [], ◌∷◌, ◌++◌, length, map, Option, Some, None, refl, sym, ◌∙◌, ap, subst}
use Rattle.std.specs.Prelude.{if◌then◌else◌}
use Rattle.std.specs.List.{AllByRecursion, flat_map}
use Rattle.std.proofs.lemmas.Bool.{false≢true}
use Rattle.std.proofs.lemmas.Option.{none-some}
use Rattle.std.proofs.lemmas.List.{length-map}
use Rattle.repo_model.specs.declared.session.SessionResult.{SessionResult}
use Rattle.repo_model.specs.Data.{Blob, Row, Phase, listed, fading, Staged, Session, is_same_print}
use Rattle.repo_model.specs.Settings.{Settings}
use Rattle.repo_model.specs.State.{State, change_where, is_row, row_at, rows_of, is_among}
use Rattle.repo_model.specs.Effect.{Effect, drops, discards, relists, fades, expires, ends, keeps_doc, adds_negative, clears_negative, list_again, fade, with_effect, with_effects}
use Rattle.repo_model.specs.May.{May, AllMay}
use Rattle.repo_model.specs.Command.{Command, put}
use Rattle.repo_model.specs.Reply.{no_draft, taken, is_free}
use Rattle.repo_model.specs.Purge.{due_rows}
use Rattle.repo_model.specs.Deploy.{deliver_at, deliver_again}
use Rattle.repo_model.specs.Turn.{Turn, says, put_again, put_at, turn, lands}
use Rattle.repo_model.specs.History.{Entry, IsReply, due, wants_memory, failed, Fits, Legal, is_collect, ticked, effects_of, after, end}
use Rattle.repo_laws.specs.Laws.{LastsFrom}
use Rattle.repo_laws.specs.Sound.{AreNamedApart, IsSound}
use Rattle.repo_laws.proofs.Answered.{free-none, no-free}
use Rattle.repo_laws.proofs.Cases.{Case, makes_row, lists_again, deploys, aborts, unlists, collects, turn-case, lands_one}
use Rattle.repo_laws.proofs.Histories.{entry-may}
use Rattle.repo_laws.proofs.HoldingLists.{all-join}
use Rattle.repo_laws.proofs.Keeping.{keeps-sound}
use Rattle.repo_laws.proofs.Rows.{rows-changed}
use Rattle.repo_laws.proofs.Stands.{stands-kept}
use Rattle.naming_laws.specs.Kept.{file_in, files_of, may_change_files, takes_away, KeepsFiles}
use Rattle.repo_laws.proofs.Making.{is_left, lands-made}

map-changed : {X Y : Type 0} (g : X → Y) (q : X → Bool) (f : X → X) → ((x : X) → g (f x) ≡ g x) → (xs : List X) → map g (change_where q f xs) ≡ map g xs
map-changed g q f same [] = refl
map-changed g q f same (x ∷ xs) =
    let rest = map-changed g q f same xs in
    elim (q x) as (λ b. (g (cond b (f x) x) ∷ map g (change_where q f xs)) ≡ (g x ∷ map g xs)) [
      | true ↦ rw (same x, rest) refl
      | false ↦ ap (λ ys. g x ∷ ys) rest
    ]

-- a row that is listed again, or fades, keeps its path and its blob
relists-none : (id repo path : List ℕ) (moment : ℕ) (s : State) → files_of id (with_effect s (relists repo path moment)) ≡ files_of id s
relists-none id repo path moment s =
    rows-changed id repo (change_where (is_row path) (list_again moment)) (λ rows. map file_in rows ≡ files_of id s) s.hosted refl
    (λ _. map-changed file_in (is_row path) (list_again moment) (λ row. refl) (rows_of id s))

fades-none : (id repo path : List ℕ) (moment : ℕ) (s : State) → files_of id (with_effect s (fades repo path moment)) ≡ files_of id s
fades-none id repo path moment s =
    rows-changed id repo (change_where (is_row path) (fade moment)) (λ rows. map file_in rows ≡ files_of id s) s.hosted refl
    (λ _. map-changed file_in (is_row path) (fade moment) (λ row. refl) (rows_of id s))

all-fade : (id repo : List ℕ) (moment : ℕ) (rows : List Row) (s : State) → files_of id (with_effects s (map (λ (row : Row). fades repo row.path moment) rows)) ≡ files_of id s
all-fade id repo moment [] s = refl
all-fade id repo moment (row ∷ rows) s =
    all-fade id repo moment rows (with_effect s (fades repo row.path moment)) ∙ fades-none id repo row.path moment s

all-discard : (id : List ℕ) (n : ℕ) (result : SessionResult) (files : List Staged) (s : State)
    → files_of id (with_effects s (map (λ (file : Staged). discards n file.path file.blob.number) files ++ ends n result ∷ [])) ≡ files_of id s
all-discard id n result [] s = refl
all-discard id n result (file ∷ files) s = all-discard id n result files (with_effect s (discards n file.path file.blob.number))

-- what lands changes no file of a hosted repository
same-files : (id : List ℕ) (e : Effect) → is_left e ≡ true → (v : State) → files_of id (with_effect v e) ≡ files_of id v
same-files id (drops n) is v = refl
same-files id (keeps_doc at path document moment) is v = refl
same-files id (adds_negative at path moment) is v = refl
same-files id (clears_negative at path) is v = refl
same-files id e is v = absurd (false≢true is)

lands-none : (id : List ℕ) (es : List Effect) → AllByRecursion (λ e. (v : State) → files_of id (with_effect v e) ≡ files_of id v) es → (u : State) → files_of id (with_effects u es) ≡ files_of id u
lands-none id [] all u = refl
lands-none id (e ∷ es) all u = lands-none id es all.1 (with_effect u e) ∙ all.0 u

none-away : (e : Effect) → is_left e ≡ true → takes_away e ≡ false
none-away (expires repo path blob) is = absurd (false≢true is)
none-away e is = refl

-- by the reply of a turn
module _ (settings : Settings) (s : State) (now : ℕ) where
  case-files : (id : List ℕ) (c : Command) (t : Turn) → Case settings s now c t → may_change_files t.reply ≡ false → (u : State) → files_of id (with_effects u t.effects) ≡ files_of id u
  case-files id c t (makes_row repo path n blob among free) still u = absurd (false≢true (sym still))
  case-files id c t (lists_again repo path n blob among row since found phase_is) still u = relists-none id repo path now u
  case-files id c t (deploys n one is going) still u = absurd (false≢true (sym still))
  case-files id c t (aborts n one is going) still u = all-discard id one.number _ one.staged u
  case-files id c t (unlists repo h is) still u = all-fade id h.rule.id now (due_rows h.rule now h.rows) u
  case-files id c t collects still u = absurd (false≢true (sym still))
  case-files id c t (lands_one plan outcome drawn) still u = lands-none id (lands s now plan outcome) (lands-made (λ e. (v : State) → files_of id (with_effect v e) ≡ files_of id v) (same-files id) s now plan outcome (λ blob _ v. refl)) u
  case-files id c t case still u = refl

  abbrev Still : Turn → Type 0
  Still t = may_change_files t.reply ≡ false

  -- a put where a row stands makes no file
  put-still : (repo path : List ℕ) (n : ℕ) (blob : Blob) (row : Row) → row_at path (rows_of repo s) ≡ Some row → Still (turn settings s now (put repo path n blob))
  put-still repo path n blob row is =
      if-still (is_among n s.yard.drafts) (put_at repo path n blob now (row_at path (rows_of repo s))) (says no_draft) (at (row_at path (rows_of repo s)) is) refl where
        if-still : (b : Bool) (t u : Turn) → Still t → Still u → Still (if b then t else u)
        if-still true t u one other = one
        if-still false t u one other = other

        again : (phase : Phase) → Still (put_again repo path n now phase)
        again listed = refl
        again (fading since) = refl

        at : (found : Option Row) → found ≡ Some row → Still (put_at repo path n blob now found)
        at None none = absurd (none-some row none)
        at (Some kept) _ =
            if-still (is_same_print kept.blob.print blob.print) (put_again repo path n now kept.phase) (record { reply = taken kept.blob.print blob.print; effects = drops n ∷ [] }) (again kept.phase) refl

pub entry-files : (settings : Settings) (old : State) (e : Entry) (id : List ℕ) → Fits settings old e → may_change_files e.reply ≡ false → files_of id (after settings old e) ≡ files_of id old
entry-files settings old e id fits still = by fits.reply where
  none : is_free e.reply ≡ true → files_of id (after settings old e) ≡ files_of id old
  none free = ap (λ es. files_of id (with_effects (ticked old e.moment e.faults) es)) (free-none settings old e free)

  by : IsReply settings old e → files_of id (after settings old e) ≡ files_of id old
  by (due is _) =
      let bound : is_free e.reply ≡ false = ap is_free is ∙ no-free settings old e.moment e.command in
      ap (λ b. files_of id (with_effects (ticked old e.moment e.faults) (if b then [] else (turn settings old e.moment e.command).effects))) bound
      ∙ case-files settings old e.moment id e.command (turn settings old e.moment e.command) (turn-case settings old e.moment e.command) (ap may_change_files (sym is) ∙ still)
      (ticked old e.moment e.faults)
  by (wants_memory is _ _) = none (ap is_free is)
  by (failed is _ _) = none (ap is_free is)

pub same-count : (id : List ℕ) (old new : State) → files_of id new ≡ files_of id old → length (rows_of id new) ≡ length (rows_of id old)
same-count id old new same = sym (length-map (rows_of id new) file_in) ∙ ap length same ∙ length-map (rows_of id old) file_in

pub put-keeps : (settings : Settings) (old : State) (e : Entry) (repo path : List ℕ) (n : ℕ) (blob : Blob) (row : Row) → Fits settings old e → e.command ≡ put repo path n blob
    → row_at path (rows_of repo old) ≡ Some row → may_change_files e.reply ≡ false
put-keeps settings old e repo path n blob row fits asks is = by fits.reply where
  by : IsReply settings old e → may_change_files e.reply ≡ false
  by (due reply _) =
      ap may_change_files reply
      ∙ subst (λ (c : Command). may_change_files (turn settings old e.moment c).reply ≡ false) (sym asks) (put-still settings old e.moment repo path n blob row is)
  by (wants_memory reply _ _) = ap may_change_files reply
  by (failed reply _ _) = ap may_change_files reply

-- each file stays, where none is taken away
may-now : (grace now : ℕ) (s : State) (e : Effect) → takes_away e ≡ false → May grace now s e → May now now s e
may-now grace now s (expires repo path blob) stays may = absurd (false≢true (sym stays))
may-now grace now s e stays may = may

from-first : (phase : Phase) → LastsFrom 0 phase
from-first listed = tt
from-first (fading since) = omega arith

pub effect-keeps : (grace now : ℕ) (s : State) (e : Effect) → May grace now s e → takes_away e ≡ false → KeepsFiles s (with_effect s e)
effect-keeps grace now s e may stays repo path row is =
    let (kept, found, same, _) =
    stands-kept path row.blob 0 now now s e repo (omega arith) (omega arith) (may-now grace now s e stays may) (row, is, refl, from-first row.phase) in
    (kept, found, same)

effects-keep : (grace now : ℕ) (es : List Effect) (s : State) → AllMay grace now s es → AllByRecursion (λ e. takes_away e ≡ false) es → KeepsFiles s (with_effects s es)
effects-keep grace now [] s may stays repo path row is = (row, is, refl)
effects-keep grace now (e ∷ es) s may stays repo path row is =
    let (next, found_next, same_next) = effect-keeps grace now s e may.0 stays.0 repo path row is in
    let (kept, found, same) = effects-keep grace now es (with_effect s e) may.1 stays.1 repo path next found_next in
    (kept, found, same ∙ same_next)

abbrev Stay : List Effect → Type 0
Stay es = AllByRecursion (λ e. takes_away e ≡ false) es

fading-stay : (repo : List ℕ) (moment : ℕ) (rows : List Row) → Stay (map (λ (row : Row). fades repo row.path moment) rows)
fading-stay repo moment [] = tt
fading-stay repo moment (row ∷ rows) = (refl, fading-stay repo moment rows)

discards-stay : (n : ℕ) (result : SessionResult) (files : List Staged) → Stay (map (λ (file : Staged). discards n file.path file.blob.number) files ++ ends n result ∷ [])
discards-stay n result [] = (refl, tt)
discards-stay n result (file ∷ files) = (refl, discards-stay n result files)

again-stay : (one : Session) (now : ℕ) (file : Staged) (phase : Phase) → Stay (deliver_again one now file phase)
again-stay one now file listed = (refl, tt)
again-stay one now file (fading since) = (refl, (refl, tt))

file-stays : (one : Session) (now : ℕ) (file : Staged) (found : Option Row) → Stay (deliver_at one now file found)
file-stays one now file None = (refl, tt)
file-stays one now file (Some row) = again-stay one now file row.phase

files-stay : (one : Session) (now : ℕ) (rows : List Row) (files : List Staged) → Stay (flat_map (λ (file : Staged). deliver_at one now file (row_at file.path rows)) files)
files-stay one now rows [] = tt
files-stay one now rows (file ∷ files) =
    all-join (λ e. takes_away e ≡ false) (deliver_at one now file (row_at file.path rows)) (flat_map (λ (f : Staged). deliver_at one now f (row_at f.path rows)) files)
    (file-stays one now file (row_at file.path rows)) (files-stay one now rows files)

module _ (settings : Settings) (s : State) (now : ℕ) where
  case-stay : (c : Command) (t : Turn) → Case settings s now c t → is_collect c ≡ false → Stay t.effects
  case-stay c t collects other = absurd (false≢true (sym other))
  case-stay c t (deploys n one is going) other =
      all-join (λ e. takes_away e ≡ false) (flat_map (λ (file : Staged). deliver_at one now file (row_at file.path (rows_of one.repo s))) one.staged) (ends one.number _ ∷ [])
      (files-stay one now (rows_of one.repo s) one.staged) (refl, tt)
  case-stay c t (aborts n one is going) other = discards-stay one.number _ one.staged
  case-stay c t (unlists repo h is) other = fading-stay h.rule.id now (due_rows h.rule now h.rows)
  case-stay c t (lands_one plan outcome drawn) other = lands-made (λ e. takes_away e ≡ false) none-away s now plan outcome (λ blob _. refl)
  case-stay c t case other = (assumption)

pub entry-stays : (settings : Settings) (old : State) (e : Entry) → AreNamedApart settings.hosted → IsSound settings old → Fits settings old e → is_collect e.command ≡ false
    → KeepsFiles old (after settings old e)
entry-stays settings old e apart sound fits other =
    effects-keep settings.grace e.moment (effects_of settings old e) (ticked old e.moment e.faults) (entry-may settings apart old e sound.order fits)
    (elim (is_free e.reply) as (λ b. Stay (if b then [] else (turn settings old e.moment e.command).effects)) [
      | true ↦ tt
      | false ↦ case-stay settings old e.moment e.command (turn settings old e.moment e.command) (turn-case settings old e.moment e.command) other
    ])

pub history-stays : (settings : Settings) (start : State) (entries : List Entry) → AreNamedApart settings.hosted → IsSound settings start → Legal settings start entries
    → AllByRecursion (λ (e : Entry). is_collect e.command ≡ false) entries → KeepsFiles start (end settings start entries)
history-stays settings start [] apart sound legal others repo path row is = (row, is, refl)
history-stays settings start (e ∷ entries) apart sound legal others repo path row is =
    let (next, found_next, same_next) = entry-stays settings start e apart sound legal.0 others.0 repo path row is in
    let (kept, found, same) = history-stays settings (after settings start e) entries apart (keeps-sound settings apart start e sound legal.0) legal.1 others.1 repo path next found_next in
    (kept, found, same ∙ same_next)
