-- What changes of sessions keep, and what the effects of an abort come to.
use Rattle.std.proofs.Common.{◌≡◌, ℕ, ◌+◌, ◌-◌, ◌<◌, ◌≤◌, Bool, true, false, cond, not, ◌&&◌, ◌||◌, List, [], ◌∷◌, ◌++◌, map, length, Option, Some, None, option_map, Less, Equal, Greater, nat_cmp, nat_lt, nat_le, eqb, refl, sym, ap, ◌∙◌, subst, arith}
use Rattle.std.specs.Prelude.{find, filter, count_by, is_none, IsTrue}
use Rattle.std.proofs.lemmas.Bool.{and_parts, and_from, eqb-true, false≢true, le-leb, leb-false, lt-leb, lt-ltb, ltb-true}
use Rattle.std.proofs.lemmas.List.Folds.{list_all-append}
use Rattle.std.proofs.lemmas.List.Sums.{sum_by-cons, sum_by-append}
use Rattle.std.proofs.lemmas.Option.{none-some}
use Rattle.std.proofs.lemmas.Slice.Eq.{bytes_eq-Decides}
use Rattle.std.specs.Cmp.Lexicographic.{slice_cmp}
use Rattle.std.specs.List.{list_all, list_any, flat_map}
use Rattle.std.specs.Ordering.{match_ordering}
use Rattle.repo_model.specs.declared.session.SessionResult.{SessionResult}
use Rattle.repo_model.specs.declared.session.SessionResult.TheVariants.{Aborted}
use Rattle.repo_model.specs.declared.item.Item.TheVariants.{SessionEnded}
use Rattle.repo_model.specs.Data.{Blob, Staged, Session, is_same_print}
use Rattle.repo_model.specs.Effect.{Effect, drops, stages, discards, opens, ends, new_session, with_staged, without_staged, sessions_after, recorded}
use Rattle.repo_model.specs.State.{change_first, is_open, is_open_at, is_session, is_staged, most_sessions, most_staged, number_end}
use Rattle.repo_model.specs.declared.print.Print.{Print}
use Rattle.repo_model.specs.Reply as reply
use Rattle.repo_model.specs.Turn.{Turn, says, with_open, abort_of, draws_or_spent, has_room, stage_at, stage_in, staged_at}
use Rattle.deploy_session.specs.Known.{Known, IsSound, has_recordable, is_drawn, is_recordable, abort_turn, begin_turn, garbage_by, next_after_all, sessions_after_all}
use Rattle.deploy_session.specs.Shown.{standing}
use Rattle.deploy_session.specs.declared.answers.Standing.TheVariants as stands

-- no file is staged at a path
pub none_staged : (path : List ℕ) (files : List Staged) → staged_at path files ≡ None → list_any (is_staged path) files ≡ false
none_staged path [] none = refl
none_staged path (f ∷ files) none =
    elim (is_staged path f) as (λ b. option_map (λ (f : Staged). f.blob) (cond b (Some f) (find (is_staged path) files)) ≡ None → (b || list_any (is_staged path) files) ≡ false) [
      | true ↦ λ h. absurd (none-some f.blob (sym h))
      | false ↦ λ h. none_staged path files h
    ] none

-- a change that changes nothing
pub same_first : (test : Session → Bool) (ss : List Session) → change_first test (λ s. s) ss ≡ ss
same_first test [] = refl
same_first test (s ∷ ss) = elim (test s) as (λ b. cond b (s ∷ ss) (s ∷ change_first test (λ s. s) ss) ≡ s ∷ ss) [ true ↦ refl | false ↦ ap (λ r. s ∷ r) (same_first test ss) ]

none_so : (o : Option SessionResult) → is_none o ≡ true → o ≡ None
none_so None h = refl
none_so (Some r) h = absurd (false≢true h)

-- the open session of a number has not ended, and is of the number
pub is_open_so : (n : ℕ) (ss : List Session) (s : Session) → find (is_open_at n) ss ≡ Some s → (s.number ≡ n) × (s.ended ≡ None)
is_open_so n [] s h = absurd (none-some s h)
is_open_so n (t ∷ ts) s h =
    elim (is_open_at n t) as (λ b. is_open_at n t ≡ b → cond b (Some t) (find (is_open_at n) ts) ≡ Some s → (s.number ≡ n) × (s.ended ≡ None)) [
      | true ↦ λ p e.
          let same : t ≡ s = cc in
          let parts = and_parts (is_session n t) (is_open t) p in
          subst (λ (u : Session). (u.number ≡ n) × (u.ended ≡ None)) same (eqb-true t.number n parts.0, none_so t.ended parts.1)
      | false ↦ λ p e. is_open_so n ts s e
    ] refl h

-- a change that keeps who is open
pub open_kept : (test : Session → Bool) (f : Session → Session) → ((s : Session) → is_open (f s) ≡ is_open s) → (ss : List Session)
    → count_by is_open (change_first test f ss) ≡ count_by is_open ss
open_kept test f alike [] = refl
open_kept test f alike (s ∷ ss) =
    elim (test s) as (λ b. count_by is_open (cond b (f s ∷ ss) (s ∷ change_first test f ss)) ≡ count_by is_open (s ∷ ss)) [
      | true ↦ sum_by-cons (λ t. cond (is_open t) 1 0) (f s) ss ∙ ap (λ b. cond b 1 0 + count_by is_open ss) (alike s) ∙ sym (sum_by-cons (λ t. cond (is_open t) 1 0) s ss)
      | false ↦ sum_by-cons (λ t. cond (is_open t) 1 0) s (change_first test f ss) ∙ ap (λ n. cond (is_open s) 1 0 + n) (open_kept test f alike ss) ∙ sym (sum_by-cons (λ t. cond (is_open t) 1 0) s ss)
    ]

-- a change that keeps the numbers
pub drawn_kept : (next : ℕ) (test : Session → Bool) (f : Session → Session) → ((s : Session) → is_drawn next (f s) ≡ is_drawn next s) → (ss : List Session)
    → list_all (is_drawn next) (change_first test f ss) ≡ list_all (is_drawn next) ss
drawn_kept next test f alike [] = refl
drawn_kept next test f alike (s ∷ ss) =
    elim (test s) as (λ b. list_all (is_drawn next) (cond b (f s ∷ ss) (s ∷ change_first test f ss)) ≡ (is_drawn next s && list_all (is_drawn next) ss)) [
      | true ↦ ap (λ b. b && list_all (is_drawn next) ss) (alike s)
      | false ↦ ap (λ b. is_drawn next s && b) (drawn_kept next test f alike ss)
    ]

-- a change after which the files can still be recorded
pub formed_kept : (test : Session → Bool) (f : Session → Session) (ss : List Session) → ((s : Session) → find test ss ≡ Some s → has_recordable s ≡ true → has_recordable (f s) ≡ true)
    → list_all has_recordable ss ≡ true → list_all has_recordable (change_first test f ss) ≡ true
formed_kept test f [] alike h = refl
formed_kept test f (s ∷ ss) alike h =
    let parts = and_parts (has_recordable s) (list_all has_recordable ss) h in
    elim (test s) as (λ b. ((t : Session) → cond b (Some s) (find test ss) ≡ Some t → has_recordable t ≡ true → has_recordable (f t) ≡ true) → list_all has_recordable (cond b (f s ∷ ss) (s ∷ change_first test f ss)) ≡ true) [
      | true ↦ λ so. and_from (has_recordable (f s)) (list_all has_recordable ss) (so s refl parts.0) parts.1
      | false ↦ λ so. and_from (has_recordable s) (list_all has_recordable (change_first test f ss)) parts.0 (formed_kept test f ss so parts.1)
    ] alike

-- one more file that can be recorded
recordable_all : (new : Staged) (files : List Staged) → is_recordable new ≡ true → list_all is_recordable files ≡ true → list_all is_recordable (with_staged new files) ≡ true
recordable_all new [] is all = and_from (is_recordable new) true is refl
recordable_all new (f ∷ files) is all =
    let parts = and_parts (is_recordable f) (list_all is_recordable files) all in
    let first = and_from (is_recordable new) (list_all is_recordable (f ∷ files)) is all in
    elim (slice_cmp nat_cmp new.path f.path) as (λ o. list_all is_recordable (match_ordering o (new ∷ f ∷ files) (new ∷ f ∷ files) (f ∷ with_staged new files)) ≡ true) [
      | Less ↦ first
      | Equal ↦ first
      | Greater ↦ and_from (is_recordable f) (list_all is_recordable (with_staged new files)) parts.0 (recordable_all new files is parts.1)
    ]

one_more : (new : Staged) (files : List Staged) → length (with_staged new files) ≡ length files + 1
one_more new [] = refl
one_more new (f ∷ files) =
    elim (slice_cmp nat_cmp new.path f.path) as (λ o. length (match_ordering o (new ∷ f ∷ files) (new ∷ f ∷ files) (f ∷ with_staged new files)) ≡ length (f ∷ files) + 1) [
      | Less ↦ omega arith
      | Equal ↦ omega arith
      | Greater ↦ omega (arith, one_more new files)
    ]

pub recordable_more : (new : Staged) (s : Session) → is_recordable new ≡ true → staged_at new.path s.staged ≡ None → has_room new.path s.staged ≡ true → has_recordable s ≡ true
    → has_recordable (record s { staged = with_staged new s.staged }) ≡ true
recordable_more new s is none room all =
    let parts = and_parts (list_all is_recordable s.staged) (nat_le (length s.staged) most_staged) all in
    let free : not (nat_le most_staged (length s.staged)) ≡ true = sym (ap (λ b. b || not (nat_le most_staged (length s.staged))) (none_staged new.path s.staged none)) ∙ room in
    let few : length s.staged < most_staged = elim (nat_le most_staged (length s.staged)) as (λ b. nat_le most_staged (length s.staged) ≡ b → not b ≡ true → length s.staged < most_staged) [
      | true ↦ λ h e. cc
      | false ↦ λ h e. leb-false most_staged (length s.staged) h
    ] refl free in
    and_from (list_all is_recordable (with_staged new s.staged)) (nat_le (length (with_staged new s.staged)) most_staged) (recordable_all new s.staged is parts.0)
    (le-leb (length (with_staged new s.staged)) most_staged (omega (arith, one_more new s.staged, few)))

-- sessions of which one is changed, but not its number or whether it is open
pub sound_kept : (count next : ℕ) (test : Session → Bool) (f : Session → Session) → ((s : Session) → is_open (f s) ≡ is_open s) → ((s : Session) → is_drawn next (f s) ≡ is_drawn next s)
    → (ss : List Session) → ((s : Session) → find test ss ≡ Some s → has_recordable s ≡ true → has_recordable (f s) ≡ true) → IsSound count next ss → IsSound count next (change_first test f ss)
sound_kept count next test f open_so drawn_so ss formed_so sound = record {
  counted = sound.counted ∙ sym (open_kept test f open_so ss);
  drawn = subst IsTrue (sym (drawn_kept next test f drawn_so ss)) sound.drawn;
  formed = formed_kept test f ss formed_so sound.formed;
  first = sound.first;
  last = sound.last;
}

-- a session is full
full_room : (path : List ℕ) (files : List Staged) → staged_at path files ≡ None → most_staged ≤ length files → has_room path files ≡ false
full_room path files none full = ap (λ b. b || not (nat_le most_staged (length files))) (none_staged path files none) ∙ ap not (le-leb most_staged (length files) full)

pub full_turn : (one : Session) (path : List ℕ) (d : ℕ) (blob : Blob) → staged_at path one.staged ≡ None → most_staged ≤ length one.staged
    → stage_at one path d blob (staged_at path one.staged) ≡ record { reply = reply.session_full; effects = drops d ∷ [] }
full_turn one path d blob none full =
    ap (stage_at one path d blob) none
    ∙ ap (λ b. cond {A = Turn} b (record { reply = reply.staged; effects = stages one.number path blob ∷ [] }) (record { reply = reply.session_full; effects = drops d ∷ [] })) (full_room path one.staged none full)

-- where nothing stands
pub free_so : (sent : Print) (o : Option Blob) → stands.Free ≡ standing sent o → o ≡ None
free_so sent None h = refl
free_so sent (Some blob) h =
    elim (is_same_print blob.print sent) as (λ b. stands.Free ≡ cond b stands.Same (stands.Other blob.print) → Some blob ≡ None) [ true ↦ λ e. cc | false ↦ λ e. cc ] h

-- a file is staged only in an open session that has none at its path, and then it is added
staged_in : (path : List ℕ) (d : ℕ) (blob : Blob) (one : Session) (o : Option Blob) → (stage_at one path d blob o).reply ≡ reply.staged
    → (o ≡ None) × ((stage_at one path d blob o).effects ≡ stages one.number path blob ∷ [])
staged_in path d blob one None h =
    let nothing : Option Blob = None in
    let yes : Turn = record { reply = reply.staged; effects = stages one.number path blob ∷ [] } in
    let no : Turn = record { reply = reply.session_full; effects = drops d ∷ [] } in
    elim (has_room path one.staged) as (λ b. (cond {A = Turn} b yes no).reply ≡ reply.staged
    → (nothing ≡ None) × ((cond {A = Turn} b yes no).effects ≡ stages one.number path blob ∷ [])) [
      | true ↦ λ e. (refl, refl)
      | false ↦ λ e. cc
    ] h
staged_in path d blob one (Some kept) h =
    elim (is_same_print kept.print blob.print) as (λ b. cond b reply.same (reply.taken kept.print blob.print) ≡ reply.staged → (Some kept ≡ None) × (drops d ∷ [] ≡ stages one.number path blob ∷ [])) [
      | true ↦ λ e. cc
      | false ↦ λ e. cc
    ] h

pub staged_free : (path : List ℕ) (d : ℕ) (blob : Blob) (o : Option Session) → (stage_in path d blob o).reply ≡ reply.staged
    → option_map (λ (s : Session). staged_at path s.staged) o ≡ Some None
staged_free path d blob None h = cc
staged_free path d blob (Some one) h = ap Some (staged_in path d blob one (staged_at path one.staged) h).0

-- there was room for it
room_at : (path : List ℕ) (d : ℕ) (blob : Blob) (one : Session) (o : Option Blob) → (stage_at one path d blob o).reply ≡ reply.staged → has_room path one.staged ≡ true
room_at path d blob one None h =
    let yes : Turn = record { reply = reply.staged; effects = stages one.number path blob ∷ [] } in
    let no : Turn = record { reply = reply.session_full; effects = drops d ∷ [] } in
    elim (has_room path one.staged) as (λ b. (cond {A = Turn} b yes no).reply ≡ reply.staged → b ≡ true) [
      | true ↦ λ e. refl
      | false ↦ λ e. cc
    ] h
room_at path d blob one (Some kept) h =
    elim (is_same_print kept.print blob.print) as (λ b. cond b reply.same (reply.taken kept.print blob.print) ≡ reply.staged → has_room path one.staged ≡ true) [
      | true ↦ λ e. cc
      | false ↦ λ e. cc
    ] h

pub staged_room : (path : List ℕ) (d : ℕ) (blob : Blob) (o : Option Session) (one : Session) → o ≡ Some one → (stage_in path d blob o).reply ≡ reply.staged
    → (staged_at path one.staged ≡ None) × (has_room path one.staged ≡ true)
staged_room path d blob o one is h =
    let told : (stage_at one path d blob (staged_at path one.staged)).reply ≡ reply.staged = ap (λ (p : Option Session). (stage_in path d blob p).reply) (sym is) ∙ h in
    ((staged_in path d blob one (staged_at path one.staged) told).0, room_at path d blob one (staged_at path one.staged) told)

pub staged_effects : (n : ℕ) (path : List ℕ) (d : ℕ) (blob : Blob) (o : Option Session) → ((s : Session) → o ≡ Some s → s.number ≡ n) → (stage_in path d blob o).reply ≡ reply.staged
    → (stage_in path d blob o).effects ≡ stages n path blob ∷ []
staged_effects n path d blob None of h = cc
staged_effects n path d blob (Some one) of h =
    (staged_in path d blob one (staged_at path one.staged) h).1 ∙ ap (λ k. stages k path blob ∷ []) (of one refl)

-- a session is opened where there is room and a number
pub opens_so : (k : Known) (repo : List ℕ) → count_by is_open k.sessions < most_sessions → eqb k.next number_end ≡ false
    → begin_turn k repo ≡ record { reply = reply.opened k.next; effects = opens k.next repo ∷ [] }
opens_so k repo few left =
    ap (λ b. cond {A = Turn} b (says reply.sessions_full) (draws_or_spent k.next (record { reply = reply.opened k.next; effects = opens k.next repo ∷ [] }))) (lt-leb most_sessions (count_by is_open k.sessions) few)
    ∙ ap (λ b. cond {A = Turn} b (says reply.spent) (record { reply = reply.opened k.next; effects = opens k.next repo ∷ [] })) left

-- one more session
drawn_more : (next : ℕ) (ss : List Session) → list_all (is_drawn next) ss ≡ true → list_all (is_drawn (next + 1)) ss ≡ true
drawn_more next [] h = refl
drawn_more next (s ∷ ss) h =
    let parts = and_parts (is_drawn next s) (list_all (is_drawn next) ss) h in
    let range = and_parts (nat_lt 0 s.number) (nat_lt s.number next) parts.0 in
    and_from (is_drawn (next + 1) s) (list_all (is_drawn (next + 1)) ss)
    (and_from (nat_lt 0 s.number) (nat_lt s.number (next + 1)) range.0 (lt-ltb s.number (next + 1) (omega (arith, ltb-true s.number next range.1))))
    (drawn_more next ss parts.1)

-- the number of a session is from 1 on and below 2 ^ 63
pub number_range : (next : ℕ) (n : ℕ) (ss : List Session) (one : Session) → next ≤ number_end → list_all (is_drawn next) ss ≡ true → find (is_session n) ss ≡ Some one → (0 < n) × (n < number_end)
number_range next n [] one most drawn is = absurd (none-some one is)
number_range next n (s ∷ ss) one most drawn is =
    let parts = and_parts (is_drawn next s) (list_all (is_drawn next) ss) drawn in
    let range = and_parts (nat_lt 0 s.number) (nat_lt s.number next) parts.0 in
    elim (is_session n s) as (λ b. is_session n s ≡ b → cond b (Some s) (find (is_session n) ss) ≡ Some one → (0 < n) × (n < number_end)) [
      | true ↦ λ h e.
          let at : s.number ≡ n = eqb-true s.number n h in
          (omega (arith, ltb-true 0 s.number range.0, at), omega (arith, ltb-true s.number next range.1, at, most))
      | false ↦ λ h e. number_range next n ss one most parts.1 e
    ] refl is

pub sound_more : (count next : ℕ) (repo : List ℕ) (ss : List Session) → next < number_end → IsSound count next ss
    → IsSound (count + 1) (next + 1) (ss ++ new_session next repo ∷ [])
sound_more count next repo ss left sound =
    let one : Session = new_session next repo in
    let weight : Session → ℕ = λ s. cond (is_open s) 1 0 in
    record {
      counted = omega (arith, sound.counted, sum_by-append weight ss (one ∷ []), sum_by-cons weight one []);
      drawn = list_all-append (is_drawn (next + 1)) ss (one ∷ [])
          ∙ and_from (list_all (is_drawn (next + 1)) ss) (list_all (is_drawn (next + 1)) (one ∷ [])) (drawn_more next ss sound.drawn)
          (and_from (is_drawn (next + 1) one) true (and_from (nat_lt 0 next) (nat_lt next (next + 1)) (lt-ltb 0 next sound.first) (lt-ltb next (next + 1) (omega arith))) refl);
      formed = list_all-append has_recordable ss (one ∷ []) ∙ and_from (list_all has_recordable ss) (list_all has_recordable (one ∷ [])) sound.formed refl;
      first = omega arith;
      last = omega (arith, left);
    }

-- the open session of a number is the one of the number
pub open_of_session : (n : ℕ) (ss : List Session) (one : Session) → find (is_session n) ss ≡ Some one → one.ended ≡ None → find (is_open_at n) ss ≡ Some one
open_of_session n [] one is lasts = absurd (none-some one is)
open_of_session n (s ∷ ss) one is lasts =
    elim (is_session n s) as (λ b. cond b (Some s) (find (is_session n) ss) ≡ Some one → cond (b && is_open s) (Some s) (find (is_open_at n) ss) ≡ Some one) [
      | true ↦ λ h.
          let alike : s ≡ one = cc in
          ap (λ b. cond b (Some s) (find (is_open_at n) ss)) (ap is_open alike ∙ ap is_none lasts) ∙ h
      | false ↦ λ h. open_of_session n ss one h lasts
    ] is

-- two changes of the first, one after the other
twice : (test : Session → Bool) (f h : Session → Session) → ((s : Session) → test (f s) ≡ test s) → (ss : List Session)
    → change_first test h (change_first test f ss) ≡ change_first test (λ s. h (f s)) ss
twice test f h alike [] = refl
twice test f h alike (s ∷ ss) =
    elim (test s) as (λ b. test s ≡ b → change_first test h (cond b (f s ∷ ss) (s ∷ change_first test f ss)) ≡ cond b (h (f s) ∷ ss) (s ∷ change_first test (λ s. h (f s)) ss)) [
      | true ↦ λ is. ap (λ b. cond b (h (f s) ∷ ss) (f s ∷ change_first test h ss)) (alike s ∙ is)
      | false ↦ λ is. ap (λ b. cond b (h s ∷ change_first test f ss) (s ∷ change_first test h (change_first test f ss))) is ∙ ap (λ r. s ∷ r) (twice test f h alike ss)
    ] refl

-- changes that agree on the first
agree : (test : Session → Bool) (f h : Session → Session) (ss : List Session) → ((s : Session) → find test ss ≡ Some s → f s ≡ h s) → change_first test f ss ≡ change_first test h ss
agree test f h [] alike = refl
agree test f h (s ∷ ss) alike =
    elim (test s) as (λ b. ((t : Session) → cond b (Some s) (find test ss) ≡ Some t → f t ≡ h t) → cond b (f s ∷ ss) (s ∷ change_first test f ss) ≡ cond b (h s ∷ ss) (s ∷ change_first test h ss)) [
      | true ↦ λ so. ap (λ t. t ∷ ss) (so s refl)
      | false ↦ λ so. ap (λ r. s ∷ r) (agree test f h ss so)
    ] alike

-- files without those at some paths
abbrev without_all : List Staged → List Staged → List Staged
without_all [] files = files
without_all (one ∷ gone) files = without_all gone (filter (λ file. not (is_staged one.path file)) files)

filters : (p q : Staged → Bool) (files : List Staged) → filter p (filter q files) ≡ filter q (filter p files)
filters p q [] = refl
filters p q (f ∷ files) =
    elim (p f) as (λ a. p f ≡ a → filter p (cond (q f) (f ∷ filter q files) (filter q files)) ≡ filter q (cond a (f ∷ filter p files) (filter p files))) [
      | true ↦ λ pf. elim (q f) as (λ b. q f ≡ b → filter p (cond b (f ∷ filter q files) (filter q files)) ≡ cond b (f ∷ filter q (filter p files)) (filter q (filter p files))) [
        | true ↦ λ qf. ap (λ a. cond a (f ∷ filter p (filter q files)) (filter p (filter q files))) pf ∙ ap (λ r. f ∷ r) (filters p q files)
        | false ↦ λ qf. filters p q files
      ] refl
      | false ↦ λ pf. elim (q f) as (λ b. filter p (cond b (f ∷ filter q files) (filter q files)) ≡ filter q (filter p files)) [
        | true ↦ ap (λ a. cond a (f ∷ filter p (filter q files)) (filter p (filter q files))) pf ∙ filters p q files
        | false ↦ filters p q files
      ]
    ] refl

without-filter : (gone : List Staged) (p : Staged → Bool) (files : List Staged) → without_all gone (filter p files) ≡ filter p (without_all gone files)
without-filter [] p files = refl
without-filter (one ∷ gone) p files =
    ap (without_all gone) (filters (λ file. not (is_staged one.path file)) p files) ∙ without-filter gone p (filter (λ file. not (is_staged one.path file)) files)

without-self : (files : List Staged) → without_all files files ≡ []
without-self [] = refl
without-self (f ∷ files) =
    let other : Staged → Bool = λ file. not (is_staged f.path file) in
    ap (λ b. without_all files (cond (not b) (f ∷ filter other files) (filter other files))) ((bytes_eq-Decides f.path f.path).1 refl)
    ∙ without-filter files other files
    ∙ ap (filter other) (without-self files)

pub after-append : (xs ys : List Effect) (ss : List Session) → sessions_after_all (xs ++ ys) ss ≡ sessions_after_all ys (sessions_after_all xs ss)
after-append [] ys ss = refl
after-append (e ∷ xs) ys ss = after-append xs ys (sessions_after e ss)

abbrev pub given_up : ℕ → List Staged → List Effect
given_up n files = map (λ (file : Staged). discards n file.path file.blob.number) files

discarded : (n : ℕ) (files : List Staged) (ss : List Session)
    → sessions_after_all (given_up n files) ss ≡ change_first (is_open_at n) (λ s. record s { staged = without_all files s.staged }) ss
discarded n [] ss = sym (same_first (is_open_at n) ss)
discarded n (f ∷ files) ss =
    discarded n files (change_first (is_open_at n) (without_staged f.path) ss)
    ∙ twice (is_open_at n) (without_staged f.path) (λ s. record s { staged = without_all files s.staged }) (λ s. refl) ss

-- an abort ends the session without files
pub aborted : (n : ℕ) (how : SessionResult) (one : Session) (ss : List Session) → find (is_open_at n) ss ≡ Some one
    → sessions_after_all (given_up n one.staged ++ ends n how ∷ []) ss ≡ change_first (is_open_at n) (λ s. record s { staged = []; ended = Some how }) ss
aborted n how one ss is =
    after-append (given_up n one.staged) (ends n how ∷ []) ss
    ∙ ap (change_first (is_open_at n) (λ s. record s { ended = Some how })) (discarded n one.staged ss)
    ∙ twice (is_open_at n) (λ s. record s { staged = without_all one.staged s.staged }) (λ s. record s { ended = Some how }) (λ s. refl) ss
    ∙ agree (is_open_at n) (λ s. record s { staged = without_all one.staged s.staged; ended = Some how }) (λ s. record s { staged = []; ended = Some how }) ss
    (λ s found.
    let alike : one ≡ s = cc in
    ap (λ (files : List Staged). record s { staged = files; ended = Some how }) (ap (λ (t : Session). without_all t.staged s.staged) alike ∙ without-self s.staged))

pub next_aborted : (n : ℕ) (how : SessionResult) (files : List Staged) (next : ℕ) → next_after_all (given_up n files ++ ends n how ∷ []) next ≡ next
next_aborted n how [] next = refl
next_aborted n how (f ∷ files) next = next_aborted n how files next

pub recorded_aborted : (n : ℕ) (how : SessionResult) (files : List Staged) → recorded (given_up n files ++ ends n how ∷ []) ≡ SessionEnded n how ∷ []
recorded_aborted n how [] = refl
recorded_aborted n how (f ∷ files) = recorded_aborted n how files

pub garbage_aborted : (n : ℕ) (how : SessionResult) (files : List Staged) → flat_map garbage_by (given_up n files ++ ends n how ∷ []) ≡ map (λ (file : Staged). file.blob.number) files
garbage_aborted n how [] = refl
garbage_aborted n how (f ∷ files) = ap (λ r. f.blob.number ∷ r) (garbage_aborted n how files)

-- one session fewer is open
pub one_fewer : (n : ℕ) (how : SessionResult) (ss : List Session) (one : Session) → find (is_open_at n) ss ≡ Some one
    → count_by is_open (change_first (is_open_at n) (λ s. record s { staged = []; ended = Some how }) ss) + 1 ≡ count_by is_open ss
one_fewer n how [] one is = absurd (none-some one is)
one_fewer n how (s ∷ ss) one is =
    let weight : Session → ℕ = λ t. cond (is_open t) 1 0 in
    let over : Session = record s { staged = []; ended = Some how } in
    let rest : List Session = change_first (is_open_at n) (λ s. record s { staged = []; ended = Some how }) ss in
    elim (is_open_at n s) as (λ b. is_open_at n s ≡ b → cond b (Some s) (find (is_open_at n) ss) ≡ Some one → count_by is_open (cond b (over ∷ ss) (s ∷ rest)) + 1 ≡ count_by is_open (s ∷ ss)) [
      | true ↦ λ h e.
          let lasts : is_open s ≡ true = (and_parts (is_session n s) (is_open s) h).1 in
          let weighs : weight s ≡ 1 = ap (λ b. cond b 1 0) lasts in
          omega (arith, sum_by-cons weight over ss, sum_by-cons weight s ss, weighs)
      | false ↦ λ h e.
          omega (arith, sum_by-cons weight s rest, sum_by-cons weight s ss, one_fewer n how ss one e)
    ] refl is

pub sound_fewer : (count next n : ℕ) (how : SessionResult) (ss : List Session) (one : Session) → find (is_open_at n) ss ≡ Some one → IsSound count next ss
    → (0 < count) × IsSound (count - 1) next (change_first (is_open_at n) (λ s. record s { staged = []; ended = Some how }) ss)
sound_fewer count next n how ss one is sound =
    let fewer = one_fewer n how ss one is in (
      omega (arith, fewer, sound.counted),
      record {
        counted = omega (arith, fewer, sound.counted);
        drawn = subst IsTrue (sym (drawn_kept next (is_open_at n) (λ s. record s { staged = []; ended = Some how }) (λ s. refl) ss)) sound.drawn;
        formed = formed_kept (is_open_at n) (λ s. record s { staged = []; ended = Some how }) ss (λ s is h. refl) sound.formed;
        first = sound.first;
        last = sound.last;
      },
    )

-- a session of files is given up
abbrev pub gone : ℕ → List Staged → Turn
gone n files = record { reply = reply.ended Aborted; effects = given_up n files ++ ends n Aborted ∷ [] }

pub abort_so : (k : Known) (n : ℕ) (one : Session) → find (is_session n) k.sessions ≡ Some one → one.ended ≡ None → one.number ≡ n → abort_turn k n ≡ gone n one.staged
abort_so k n one is lasts number =
    ap (λ (o : Option Session). with_open o (λ found. abort_of found found.ended)) is
    ∙ ap (abort_of one) lasts
    ∙ ap (λ m. gone m one.staged) number
