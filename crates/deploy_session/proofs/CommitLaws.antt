-- What the effects of a commit come to: for the sessions, the rows, the blobs and the records.
use Rattle.std.proofs.Common.{◌≡◌, ℕ, ◌<◌, ◌≤◌, Bool, true, false, cond, List, [], ◌∷◌, ◌++◌, length, Option, Some, None, refl, sym, ap, ◌∙◌, arith}
use Rattle.std.specs.Prelude.{find, IsTrue}
use Rattle.std.proofs.Common.{◌⊎◌, inl, inr}
use Rattle.std.proofs.lemmas.Bool.{and_parts, and_from, false≢true, le-leb, leb-true, lt-ltb}
use Rattle.std.proofs.lemmas.List.{append-nil}
use Rattle.std.proofs.lemmas.List.Concat.{flat_map-append}
use Rattle.std.proofs.lemmas.Option.{none-some}
use Rattle.std.specs.List.{flat_map, list_all}
use Rattle.repo_model.specs.declared.item.Item.TheVariants.{HostedPut, Relisted, SessionEnded}
use Rattle.repo_model.specs.declared.session.SessionResult.{SessionResult}
use Rattle.repo_model.specs.declared.session.SessionResult.TheVariants.{Done}
use Rattle.repo_model.specs.Data as plain
use Rattle.repo_model.specs.Data.{Row, Staged, Session}
use Rattle.repo_model.specs.Deploy.{Offence, deliver_all, deliver_again, deliver_at, offence, without_pom}
use Rattle.repo_model.specs.Prints.{recorded_print}
use Rattle.repo_model.specs.Effect.{Effect, ends, items_of, list_again, new_row, recorded, with_row}
use Rattle.repo_model.specs.Reply as reply
use Rattle.repo_model.specs.State.{change_first, change_where, is_open_at, is_row, is_session, most_staged, number_end, row_at}
use Rattle.repo_model.specs.Turn.{Turn, commit_by, commit_of, with_open}
use Rattle.row_tables.specs.Items.{is_item, is_number}
use Rattle.hosted_delivery.specs.Deliveries.{is_done, is_recordable, left_by, session_with, shown_put_all}
use Rattle.ordered_rows.specs.Rows.{rows_after_all}
use Rattle.hosted_delivery.specs.declared.put_all.PutAll.{PutAll}
use Rattle.hosted_delivery.specs.declared.put_all.PutAll.TheVariants as did
use Rattle.hosted_delivery.proofs.DeliveryLemmas.{effects_by}
use Rattle.deploy_session.specs.Known.{Known, commit_turn, garbage_by, has_recordable, next_after_all, sessions_after_all}
use Rattle.deploy_session.proofs.SessionLaws.{after-append, aborted, given_up}

-- ---- what stands against a commit, or nothing
-- the reply is the same for sessions with the same files
pub reply-alike : (one other : Session) (now : ℕ) (rows : List Row) (a : Option Offence) (b : Option (List ℕ)) → one.staged ≡ other.staged → (commit_by one now rows a b).reply ≡ (commit_by other now rows a b).reply
reply-alike one other now rows (Some o) b same = refl
reply-alike one other now rows None (Some dir) same = refl
reply-alike one other now rows None None same = ap (λ (files : List Staged). reply.ended (Done (length files))) same

-- a commit that is refused does nothing
pub refused-quiet : (s : Session) (now : ℕ) (rows : List Row) (a : Option Offence) (b : Option (List ℕ)) (answer : PutAll) → shown_put_all answer ≡ (commit_by s now rows a b).reply → is_done answer ≡ false
    → (commit_by s now rows a b).effects ≡ []
refused-quiet s now rows (Some o) b answer told refused = refl
refused-quiet s now rows None (Some dir) answer told refused = refl
refused-quiet s now rows None None (did.Offends path kept sent) told refused = cc
refused-quiet s now rows None None (did.MissingPom dir) told refused = cc
refused-quiet s now rows None None did.StoreFault told refused = cc
refused-quiet s now rows None None did.NoMemory told refused = cc
refused-quiet s now rows None None (did.Done count blobs) told refused = cc

-- one that is done has nothing against it
pub done-clear : (s : Session) (now : ℕ) (rows : List Row) (a : Option Offence) (b : Option (List ℕ)) (result : SessionResult) → reply.ended result ≡ (commit_by s now rows a b).reply → (a ≡ None) × (b ≡ None) × (result ≡ Done (length s.staged))
done-clear s now rows (Some o) b result told = cc
done-clear s now rows None (Some dir) result told = cc
done-clear s now rows None None result told = (refl, refl, cc)

-- the records failed
pub fault-of : (answer : PutAll) → shown_put_all answer ≡ reply.store_fault → answer ≡ did.StoreFault
fault-of (did.Offends path kept sent) told = cc
fault-of (did.MissingPom dir) told = cc
fault-of did.StoreFault told = refl
fault-of did.NoMemory told = cc
fault-of (did.Done count blobs) told = cc

-- the turn of a session that is open, and what it does where nothing stands against it
pub turn-of : (self k : Known) (n now : ℕ) (rows : List Row) (one : Session) → k ≡ self → find (is_session n) k.sessions ≡ Some one → one.ended ≡ None
    → commit_turn self n now rows ≡ commit_by one now rows (offence rows one.staged) (without_pom rows one.staged)
turn-of self k n now rows one same is lasts =
    ap (λ (j : Known). commit_turn j n now rows) (sym same)
    ∙ ap (λ (o : Option Session). with_open o (λ found. commit_of found now rows found.ended)) is
    ∙ ap (commit_of one now rows) lasts

pub done-effects : (self k : Known) (n now : ℕ) (rows : List Row) (one : Session) → k ≡ self → find (is_session n) k.sessions ≡ Some one → one.ended ≡ None → offence rows one.staged ≡ None → without_pom rows one.staged ≡ None
    → (commit_turn self n now rows).effects ≡ deliver_all one now rows ++ ends one.number (Done (length one.staged)) ∷ []
done-effects self k n now rows one same is lasts none bare =
    ap (λ (t : Turn). t.effects) (turn-of self k n now rows one same is lasts)
    ∙ ap (λ (o : Option Offence). (commit_by one now rows o (without_pom rows one.staged)).effects) none
    ∙ ap (λ (o : Option (List ℕ)). (commit_by one now rows None o).effects) bare

-- the reply is due, where it is not a free one
pub due-reply : {A : Type 0} → A ⊎ IsTrue false → A
due-reply h = elim h [ inl a ↦ a | inr f ↦ absurd (false≢true f) ]

-- where a reply is not free nothing is done either
pub quiet : {A : Type 0} (free : Bool) (x y : A) → (free ≡ false → y ≡ x) → x ≡ cond free x y
quiet true x y none = refl
quiet false x y none = sym (none refl)

-- ---- what the files of a session come to, whatever its number
module _ (one other : Session) (same : one.repo ≡ other.repo) (now : ℕ) (rows : List Row) where
  pub items-alike : (files : List Staged) → recorded (effects_by one now rows files) ≡ recorded (effects_by other now rows files)
  items-alike [] = refl
  items-alike (file ∷ files) =
      let a : List Effect = effects_by one now rows files in
      let b : List Effect = effects_by other now rows files in
      elim (row_at file.path rows) as (λ o. recorded (deliver_at one now file o ++ a) ≡ recorded (deliver_at other now file o ++ b)) [
        | None ↦ λ i. HostedPut (same i) file.path file.blob.number (recorded_print file.blob.print) now ∷ items-alike files i
        | Some row ↦ elim (row.phase) as (λ p. recorded (deliver_again one now file p ++ a) ≡ recorded (deliver_again other now file p ++ b)) [
          | plain.listed ↦ items-alike files
          | plain.fading since ↦ λ i. Relisted (same i) file.path now ∷ items-alike files i
        ]
      ]

  pub rows-alike : (files : List Staged) (old : List Row) → rows_after_all (effects_by one now rows files) old ≡ rows_after_all (effects_by other now rows files) old
  rows-alike [] old = refl
  rows-alike (file ∷ files) old =
      let a : List Effect = effects_by one now rows files in
      let b : List Effect = effects_by other now rows files in
      elim (row_at file.path rows) as (λ o. rows_after_all (deliver_at one now file o ++ a) old ≡ rows_after_all (deliver_at other now file o ++ b) old) [
        | None ↦ rows-alike files (with_row (new_row file.path file.blob now) old)
        | Some row ↦ elim (row.phase) as (λ p. rows_after_all (deliver_again one now file p ++ a) old ≡ rows_after_all (deliver_again other now file p ++ b) old) [
          | plain.listed ↦ rows-alike files old
          | plain.fading since ↦ rows-alike files (change_where (is_row file.path) (list_again now) old)
        ]
      ]

  pub blobs-alike : (files : List Staged) → flat_map garbage_by (effects_by one now rows files) ≡ flat_map left_by (effects_by other now rows files)
  blobs-alike [] = refl
  blobs-alike (file ∷ files) =
      let a : List Effect = effects_by one now rows files in
      let b : List Effect = effects_by other now rows files in
      elim (row_at file.path rows) as (λ o. flat_map garbage_by (deliver_at one now file o ++ a) ≡ flat_map left_by (deliver_at other now file o ++ b)) [
        | None ↦ blobs-alike files
        | Some row ↦ elim (row.phase) as (λ p. flat_map garbage_by (deliver_again one now file p ++ a) ≡ flat_map left_by (deliver_again other now file p ++ b)) [
          | plain.listed ↦ ap (λ ns. file.blob.number ∷ ns) (blobs-alike files)
          | plain.fading since ↦ ap (λ ns. file.blob.number ∷ ns) (blobs-alike files)
        ]
      ]

-- ---- and once the session has ended
rows-append : (effects more : List Effect) (rows : List Row) → rows_after_all (effects ++ more) rows ≡ rows_after_all more (rows_after_all effects rows)
rows-append [] more rows = refl
rows-append (e ∷ effects) more rows = rows-append effects more (rows_after_all (e ∷ []) rows)

module _ (one : Session) (repo : List ℕ) (same : one.repo ≡ repo) (now : ℕ) (rows : List Row) (how : SessionResult) where
  -- its effects, and those of its files
  abbrev pub all_effects : List Effect
  all_effects = deliver_all one now rows ++ ends one.number how ∷ []

  pub items-ended : recorded all_effects ≡ recorded (deliver_all (session_with repo one.staged) now rows) ++ SessionEnded one.number how ∷ []
  items-ended =
      flat_map-append items_of (deliver_all one now rows) (ends one.number how ∷ [])
      ∙ ap (λ items. items ++ SessionEnded one.number how ∷ []) (items-alike one (session_with repo one.staged) same now rows one.staged)

  pub rows-ended : (old : List Row) → rows_after_all all_effects old ≡ rows_after_all (deliver_all (session_with repo one.staged) now rows) old
  rows-ended old = rows-append (deliver_all one now rows) (ends one.number how ∷ []) old ∙ rows-alike one (session_with repo one.staged) same now rows one.staged old

  pub blobs-ended : flat_map garbage_by all_effects ≡ flat_map left_by (deliver_all (session_with repo one.staged) now rows)
  blobs-ended =
      flat_map-append garbage_by (deliver_all one now rows) (ends one.number how ∷ [])
      ∙ append-nil (flat_map garbage_by (deliver_all one now rows))
      ∙ blobs-alike one (session_with repo one.staged) same now rows one.staged

-- the sessions change as where the files are given up
session-files : (one : Session) (now : ℕ) (rows : List Row) (files : List Staged) (ss : List Session) → sessions_after_all (effects_by one now rows files) ss ≡ sessions_after_all (given_up one.number files) ss
session-files one now rows [] ss = refl
session-files one now rows (file ∷ files) ss =
    let rest : List Effect = effects_by one now rows files in
    let left : List Session = sessions_after_all (given_up one.number (file ∷ [])) ss in
    elim (row_at file.path rows) as (λ o. sessions_after_all (deliver_at one now file o ++ rest) ss ≡ sessions_after_all (given_up one.number files) left) [
      | None ↦ session-files one now rows files left
      | Some row ↦ elim (row.phase) as (λ p. sessions_after_all (deliver_again one now file p ++ rest) ss ≡ sessions_after_all (given_up one.number files) left) [
        | plain.listed ↦ session-files one now rows files left
        | plain.fading since ↦ session-files one now rows files left
      ]
    ]

pub sessions-ended : (one : Session) (now : ℕ) (rows : List Row) (how : SessionResult) (ss : List Session) → find (is_open_at one.number) ss ≡ Some one
    → sessions_after_all (deliver_all one now rows ++ ends one.number how ∷ []) ss ≡ change_first (is_open_at one.number) (λ s. record s { staged = []; ended = Some how }) ss
sessions-ended one now rows how ss is =
    after-append (deliver_all one now rows) (ends one.number how ∷ []) ss
    ∙ ap (sessions_after_all (ends one.number how ∷ [])) (session-files one now rows one.staged ss)
    ∙ sym (after-append (given_up one.number one.staged) (ends one.number how ∷ []) ss)
    ∙ aborted one.number how one ss is

next-files : (one : Session) (now : ℕ) (rows : List Row) (files : List Staged) (more : List Effect) (next : ℕ) → next_after_all (effects_by one now rows files ++ more) next ≡ next_after_all more next
next-files one now rows [] more next = refl
next-files one now rows (file ∷ files) more next =
    let rest : List Effect = effects_by one now rows files in
    elim (row_at file.path rows) as (λ o. next_after_all ((deliver_at one now file o ++ rest) ++ more) next ≡ next_after_all more next) [
      | None ↦ next-files one now rows files more next
      | Some row ↦ elim (row.phase) as (λ p. next_after_all ((deliver_again one now file p ++ rest) ++ more) next ≡ next_after_all more next) [
        | plain.listed ↦ next-files one now rows files more next
        | plain.fading since ↦ next-files one now rows files more next
      ]
    ]

pub next-ended : (one : Session) (now : ℕ) (rows : List Row) (how : SessionResult) (next : ℕ) → next_after_all (deliver_all one now rows ++ ends one.number how ∷ []) next ≡ next
next-ended one now rows how next = next-files one now rows one.staged (ends one.number how ∷ []) next

-- ---- what is recorded of it
pub recordable-there : (n : ℕ) (ss : List Session) (one : Session) → find (is_session n) ss ≡ Some one → list_all has_recordable ss ≡ true → (list_all is_recordable one.staged ≡ true) × (length one.staged ≤ most_staged)
recordable-there n [] one is all = absurd (none-some one is)
recordable-there n (s ∷ ss) one is all =
    let parts = and_parts (has_recordable s) (list_all has_recordable ss) all in
    elim (is_session n s) as (λ b. cond b (Some s) (find (is_session n) ss) ≡ Some one → (list_all is_recordable one.staged ≡ true) × (length one.staged ≤ most_staged)) [
      | true ↦ λ e.
          let alike : s ≡ one = cc in
          let both = and_parts (list_all is_recordable one.staged) _ (sym (ap has_recordable alike) ∙ parts.0) in
          (both.0, leb-true (length one.staged) most_staged both.1)
      | false ↦ λ e. recordable-there n ss one e parts.1
    ] is

pub end-formed : (n count : ℕ) → 0 < n → n < number_end → count ≤ most_staged → is_item (SessionEnded n (Done count)) ≡ true
end-formed n count low high few =
    and_from (is_number n) _ (and_from _ _ (lt-ltb 0 n low) (le-leb n 9223372036854775807 (omega (arith, high)))) (le-leb count 9223372036854775807 (omega (arith, few)))

pub not-empty : {A : Type 0} (xs : List A) (x : A) → xs ++ x ∷ [] ≡ [] → ⊥
not-empty [] x e = cc
not-empty (y ∷ ys) x e = cc
