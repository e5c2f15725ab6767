-- Why a file that is sent to a session, a side file, a document and a new session are refused.
use native.Mathlib.Omega.{arith}
use Rattle.std.proofs.Common.{◌≡◌, ◌≢◌, ℕ, Bool, true, false, not, ◌||◌, List, [], ◌∷◌, length, Option, Some, None, Result, Ok, refl, sym, ◌∙◌, ap, subst}
use Rattle.std.specs.Prelude.{◌<◌, nat_le, find, count_by, if◌then◌else◌, bytes_eq, IsTrue}
use Rattle.std.specs.Option.{option_map, option_and_then}
use Rattle.std.specs.List.{list_any}
use Rattle.std.proofs.lemmas.Bool.{false≢true, leb-true, leb-false, le-leb, not-false, or_parts}
use Rattle.std.proofs.lemmas.Option.{none-some}
use Rattle.std.proofs.lemmas.Slice.Eq.{bytes_eq-Decides}
use Rattle.mvn_coords.specs.Kind.{kind}
use Rattle.mvn_coords.specs.declared.kind.Kind.{Kind}
use Rattle.mvn_coords.specs.declared.kind.Kind.TheVariants.{FileSide}
use Rattle.mvn_coords.specs.declared.fault.PathFault.{PathFault}
use Rattle.mvn_coords.specs.declared.fault.Side.{Side}
use Rattle.mvn_coords.specs.Layout.{Coordinates, text_of}
use Rattle.mvn_digest.specs.Sides.{side_of}
use Rattle.repo_model.specs.Data.{Blob, Staged, Session, Place, repository, session, is_same_print}
use Rattle.repo_model.specs.State.{State, hosted_of, open_of, is_open, is_staged, is_among, most_sessions, most_staged}
use Rattle.repo_model.specs.Effect.{drops, stages, opens}
use Rattle.repo_model.specs.Reply.{Reply, kind_refused, session_full, no_session, no_draft, taken, same, staged, not_there, differs, agreed, noted, opened, sessions_full, spent}
use Rattle.repo_model.specs.Turn.{Turn, says, draws_or_spent, draws_draft, has_room, may_put_in, compared, judged, with_open, staged_at, stage_at, stage_in}
use Rattle.repo_laws.specs.Causes.{IsFull, MayPutRefused, IsOpenPlace, IsClosedPlace, blob_at, SideRefused, DocRefused, OpenRefused, StageRefused}
use Rattle.repo_laws.specs.Replies.{is_refusal, takes_at}
use Rattle.repo_laws.proofs.HoldingLists.{any-none, unfound-any}
use Rattle.repo_laws.proofs.CausesPut.{no-refusal, spent-caused, spent-so, in-taken, in-refused, draft-caused, draft-refused, prints-differ, differ-prints, taken-same}

module _ (path : List ℕ) (files : List Staged) where
  abbrev is_many : Bool
  is_many = nat_le most_staged (length files)

  pub full-so : has_room path files ≡ false → IsFull path files
  full-so is =
      let (none, many) = or_parts (list_any (is_staged path) files) (not is_many) is in
      (leb-true most_staged (length files) (not-false is_many many), any-none (is_staged path) files none)

  pub so-full : IsFull path files → has_room path files ≡ false
  so-full (many, none) =
      ap (λ b. b || not is_many) (unfound-any (is_staged path) files none) ∙ ap not (le-leb most_staged (length files) many)

  pub room-so : (IsFull path files → ⊥) → has_room path files ≡ true
  room-so other =
      elim (has_room path files) as (λ b. has_room path files ≡ b → b ≡ true) [ true ↦ λ is. refl | false ↦ λ is. absurd (other (full-so is)) ] refl

  pub so-room : has_room path files ≡ true → IsFull path files → ⊥
  so-room is full = false≢true (sym (so-full full) ∙ is)

module _ (s : State) (n : ℕ) (path : List ℕ) where
  abbrev Here : Reply → Type 0
  Here r = MayPutRefused s (session n) path r

  abbrev roomy : Session → Turn
  roomy one = if has_room path one.staged then draws_draft s.yard.next_draft else says session_full

  pub may_stage-caused : (r : Reply) → is_refusal r ≡ true → (found : Option Session) → open_of n s ≡ found → (may_put_in s path found).reply ≡ r → Here r
  may_stage-caused r refused None there is = subst Here is there
  may_stage-caused r refused (Some one) there is =
      elim (takes_at one.repo path s) as (λ b. takes_at one.repo path s ≡ b → Here r) [
        | true ↦ λ so.
            elim (has_room path one.staged)
            as (λ b. has_room path one.staged ≡ b → (if b then draws_draft s.yard.next_draft else says session_full).reply ≡ r → Here r) [
              | true ↦ λ room e. draft-caused Here s.yard.next_draft (λ last. (one, there, so, so-room path one.staged room, last)) r refused e
              | false ↦ λ full e. subst Here e (one, there, so, full-so path one.staged full)
            ] refl (ap (λ (t : Turn). t.reply) (sym (in-taken path (hosted_of one.repo s) (roomy one) so)) ∙ is)
        | false ↦ λ so. subst Here (ap (λ (t : Turn). t.reply) (sym (in-refused path (hosted_of one.repo s) (roomy one) so)) ∙ is) (one, there, so)
      ] refl

  pub may_stage-refused : (r : Reply) → Here r → (may_put_in s path (open_of n s)).reply ≡ r
  may_stage-refused no_session none = ap (λ f. (may_put_in s path f).reply) none
  may_stage-refused kind_refused (one, there, so) =
      ap (λ f. (may_put_in s path f).reply) there ∙ ap (λ (t : Turn). t.reply) (in-refused path (hosted_of one.repo s) (roomy one) so)
  may_stage-refused session_full (one, there, so, full) =
      ap (λ f. (may_put_in s path f).reply) there ∙ ap (λ (t : Turn). t.reply) (in-taken path (hosted_of one.repo s) (roomy one) so)
      ∙ ap (λ b. (if b then draws_draft s.yard.next_draft else says session_full).reply) (so-full path one.staged full)
  may_stage-refused spent (one, there, so, room, last) =
      ap (λ f. (may_put_in s path f).reply) there ∙ ap (λ (t : Turn). t.reply) (in-taken path (hosted_of one.repo s) (roomy one) so)
      ∙ ap (λ b. (if b then draws_draft s.yard.next_draft else says session_full).reply) (room-so path one.staged room)
      ∙ draft-refused s.yard.next_draft last
  may_stage-refused r cause = absurd cause

-- a side file, beside what is kept
module _ (s : State) (place : Place) (path said : List ℕ) (up : IsOpenPlace s place) where
  abbrev Side_so : Reply → Type 0
  Side_so r = SideRefused s place path said r

  differs-same : (a b c d : List ℕ) → a ≡ c → b ≡ d → differs a b ≡ differs c d
  differs-same a b c d one other = cc

  bytes-differ : (a b : List ℕ) → a ≢ b → bytes_eq a b ≡ false
  bytes-differ a b other = elim (bytes_eq a b) as (λ x. bytes_eq a b ≡ x → x ≡ false) [ true ↦ λ is. absurd (other ((bytes_eq-Decides a b).0 is)) | false ↦ λ is. refl ] refl

  compared-caused : (c : Coordinates) (side : Side) → kind path ≡ Ok (FileSide c side) → (r : Reply) → is_refusal r ≡ true → (kept : Option Blob) → blob_at s place (text_of c) ≡ kept
      → (compared said (option_map (λ (blob : Blob). side_of blob.print.digests side) kept)).reply ≡ r → Side_so r
  compared-caused c side is_kind r refused None there is = subst Side_so is (c, side, up, is_kind, there)
  compared-caused c side is_kind r refused (Some blob) there is =
      let kept : List ℕ = side_of blob.print.digests side in
      elim (bytes_eq said kept) as (λ b. bytes_eq said kept ≡ b → (if b then says agreed else says (differs said kept)).reply ≡ r → Side_so r) [
        | true ↦ λ _ e. absurd (no-refusal agreed r refl e refused)
        | false ↦ λ other e.
            subst Side_so e (c, side, blob, up, is_kind, there, refl, refl, λ one. false≢true (sym other ∙ (bytes_eq-Decides said kept).1 one))
      ] refl is

  pub side-caused : (r : Reply) → is_refusal r ≡ true → (k : Result Kind PathFault) → kind path ≡ k → (judged k said (blob_at s place)).reply ≡ r → Side_so r
  side-caused r refused (Ok (FileSide c side)) is_kind is = compared-caused c side is_kind r refused (blob_at s place (text_of c)) refl is
  side-caused r refused k is_kind is = absurd (no-refusal agreed r refl is refused)

  closed-never : IsClosedPlace s place → ⊥
  closed-never closed = by place up closed where
    by : (p : Place) → IsOpenPlace s p → IsClosedPlace s p → ⊥
    by (repository repo) up down = down
    by (session n) (one, there) down = none-some one (sym down ∙ there)

  pub side-refused : (r : Reply) → Side_so r → (judged (kind path) said (blob_at s place)).reply ≡ r
  side-refused no_session closed = absurd (closed-never closed)
  side-refused not_there (c, side, _, is_kind, none) =
      ap (λ k. (judged k said (blob_at s place)).reply) is_kind
      ∙ ap (λ kept. (compared said (option_map (λ (blob : Blob). side_of blob.print.digests side) kept)).reply) none
  side-refused (differs sent kept) (c, side, blob, _, is_kind, there, kept_is, sent_is, other) =
      ap (λ k. (judged k said (blob_at s place)).reply) is_kind
      ∙ ap (λ found. (compared said (option_map (λ (blob : Blob). side_of blob.print.digests side) found)).reply) there
      ∙ ap (λ b. (if b then says agreed else says (differs said (side_of blob.print.digests side))).reply)
      (bytes-differ said (side_of blob.print.digests side) (λ one. other (sym sent_is ∙ one ∙ kept_is)))
      ∙ differs-same said (side_of blob.print.digests side) sent kept sent_is kept_is
  side-refused r cause = absurd cause

-- where it is sent to a session
module _ (s : State) (n : ℕ) (path said : List ℕ) where
  abbrev at_session : Option Session → List ℕ → Option Blob
  at_session found at = option_and_then (λ (one : Session). staged_at at one.staged) found

  judged-there : (one : Session) → open_of n s ≡ Some one → judged (kind path) said (blob_at s (session n)) ≡ judged (kind path) said (λ at. staged_at at one.staged)
  judged-there one there = ap (λ found. judged (kind path) said (at_session found)) there

  abbrev side_turn : Option Session → Turn
  side_turn found = with_open found (λ one. judged (kind path) said (λ at. staged_at at one.staged))

  pub staged_side-caused : (r : Reply) → is_refusal r ≡ true → (found : Option Session) → open_of n s ≡ found → (side_turn found).reply ≡ r → SideRefused s (session n) path said r
  staged_side-caused r refused None there is = subst (SideRefused s (session n) path said) is there
  staged_side-caused r refused (Some one) there is =
      side-caused s (session n) path said (one, there) r refused (kind path) refl (ap (λ (t : Turn). t.reply) (judged-there one there) ∙ is)

  staged_side-by : (r : Reply) → IsOpenPlace s (session n) → SideRefused s (session n) path said r → (side_turn (open_of n s)).reply ≡ r
  staged_side-by r (one, there) cause =
      ap (λ f. (side_turn f).reply) there ∙ ap (λ (t : Turn). t.reply) (sym (judged-there one there)) ∙ side-refused s (session n) path said (one, there) r cause

  pub staged_side-refused : (r : Reply) → SideRefused s (session n) path said r → (side_turn (open_of n s)).reply ≡ r
  staged_side-refused no_session closed = ap (λ f. (side_turn f).reply) closed
  staged_side-refused not_there cause = staged_side-by not_there cause.2 cause
  staged_side-refused (differs sent kept) cause = staged_side-by (differs sent kept) cause.3 cause
  staged_side-refused r cause = absurd cause

  pub doc-caused : (r : Reply) → is_refusal r ≡ true → (found : Option Session) → open_of n s ≡ found → (with_open found (λ one. says noted)).reply ≡ r → DocRefused s (session n) r
  doc-caused r refused None there is = subst (DocRefused s (session n)) is there
  doc-caused r refused (Some one) there is = absurd (no-refusal noted r refl is refused)

  pub doc-refused : (r : Reply) → DocRefused s (session n) r → (with_open (open_of n s) (λ one. says noted)).reply ≡ r
  doc-refused no_session none = ap (λ f. (with_open f (λ one. says noted)).reply) none
  doc-refused r cause = absurd cause

module _ (s : State) (repo : List ℕ) where
  abbrev many : ℕ
  many = count_by is_open s.sessions

  abbrev opening_one : Turn
  opening_one = record { reply = opened s.yard.next_session; effects = opens s.yard.next_session repo ∷ [] }

  abbrev open_one : Turn
  open_one = draws_or_spent s.yard.next_session opening_one

  abbrev OpenTurn : Turn
  OpenTurn = if nat_le most_sessions many then says sessions_full else open_one

  pub open-caused : (r : Reply) → is_refusal r ≡ true → OpenTurn.reply ≡ r → OpenRefused s r
  open-caused r refused is =
      elim (nat_le most_sessions many) as (λ b. nat_le most_sessions many ≡ b → (if b then says sessions_full else open_one).reply ≡ r → OpenRefused s r) [
        | true ↦ λ full e. subst (OpenRefused s) e (leb-true most_sessions many full)
        | false ↦ λ few e. spent-caused (OpenRefused s) s.yard.next_session opening_one refl (λ last. (leb-false most_sessions many few, last)) r refused e
      ] refl is

  not-many : many < most_sessions → nat_le most_sessions many ≡ false
  not-many few =
      elim (nat_le most_sessions many) as (λ b. nat_le most_sessions many ≡ b → b ≡ false) [ true ↦ λ is. absurd (omega (arith, leb-true most_sessions many is, few)) | false ↦ λ is. refl ] refl

  pub open-refused : (r : Reply) → OpenRefused s r → OpenTurn.reply ≡ r
  open-refused sessions_full full = ap (λ b. (if b then says sessions_full else open_one).reply) (le-leb most_sessions many full)
  open-refused spent (few, last) =
      ap (λ b. (if b then says sessions_full else open_one).reply) (not-many few)
      ∙ spent-so s.yard.next_session opening_one last
  open-refused r cause = absurd cause

module _ (s : State) (at : ℕ) (path : List ℕ) (n : ℕ) (blob : Blob) where
  abbrev Stage_so : Reply → Type 0
  Stage_so r = StageRefused s at path n blob r

  abbrev blob_of : Option Staged → Option Blob
  blob_of found = option_map (λ (f : Staged). f.blob) found

  abbrev stages_or_not : Session → Bool → Turn
  stages_or_not one b = if b then record { reply = staged; effects = stages one.number path blob ∷ [] } else record { reply = session_full; effects = drops n ∷ [] }

  stage_at-caused : (r : Reply) → is_refusal r ≡ true → is_among n s.yard.drafts ≡ true → (one : Session) → open_of at s ≡ Some one → (found : Option Staged)
      → find (is_staged path) one.staged ≡ found → (stage_at one path n blob (blob_of found)).reply ≡ r → Stage_so r
  stage_at-caused r refused among one there None none is =
      elim (has_room path one.staged)
      as (λ b. has_room path one.staged ≡ b
      → (stages_or_not one b).reply ≡ r → Stage_so r) [
        | true ↦ λ _ e. absurd (no-refusal staged r refl e refused)
        | false ↦ λ full e. subst Stage_so e (one, among, there, full-so path one.staged full)
      ] refl is
  stage_at-caused r refused among one there (Some f) found is =
      elim (is_same_print f.blob.print blob.print)
      as (λ b. is_same_print f.blob.print blob.print ≡ b → (if b then same else taken f.blob.print blob.print) ≡ r → Stage_so r) [
        | true ↦ λ _ e. absurd (no-refusal same r refl e refused)
        | false ↦ λ other e. subst Stage_so e (one, f, among, there, found, refl, refl, differ-prints f.blob.print blob.print other)
      ] refl is

  stage_in-caused : (r : Reply) → is_refusal r ≡ true → is_among n s.yard.drafts ≡ true → (found : Option Session) → open_of at s ≡ found → (stage_in path n blob found).reply ≡ r → Stage_so r
  stage_in-caused r refused among None none is = subst Stage_so is (among, none)
  stage_in-caused r refused among (Some one) there is = stage_at-caused r refused among one there (find (is_staged path) one.staged) refl is

  abbrev StageTurn : Turn
  StageTurn = if is_among n s.yard.drafts then stage_in path n blob (open_of at s) else says no_draft

  pub stage-caused : (r : Reply) → is_refusal r ≡ true → StageTurn.reply ≡ r → Stage_so r
  stage-caused r refused is =
      elim (is_among n s.yard.drafts) as (λ b. is_among n s.yard.drafts ≡ b → (if b then stage_in path n blob (open_of at s) else says no_draft).reply ≡ r → Stage_so r) [
        | true ↦ λ among e. stage_in-caused r refused among (open_of at s) refl e
        | false ↦ λ none e. subst Stage_so e none
      ] refl is

  into : IsTrue (is_among n s.yard.drafts) → (found : Option Session) → open_of at s ≡ found → StageTurn.reply ≡ (stage_in path n blob found).reply
  into among found there =
      ap (λ b. (if b then stage_in path n blob (open_of at s) else says no_draft).reply) among ∙ ap (λ f. (stage_in path n blob f).reply) there

  pub stage-refused : (r : Reply) → Stage_so r → StageTurn.reply ≡ r
  stage-refused no_draft none = ap (λ b. (if b then stage_in path n blob (open_of at s) else says no_draft).reply) none
  stage-refused no_session (among, none) = into among None none
  stage-refused session_full (one, among, there, full) =
      into among (Some one) there
      ∙ ap (λ found. (stage_at one path n blob (blob_of found)).reply) full.1
      ∙ ap (λ b. (stages_or_not one b).reply) (so-full path one.staged full)
  stage-refused (taken kept sent) (one, f, among, there, found, kept_is, sent_is, other) =
      into among (Some one) there
      ∙ ap (λ x. (stage_at one path n blob (blob_of x)).reply) found
      ∙ ap (λ b. if b then same else taken f.blob.print blob.print) (prints-differ f.blob.print blob.print (λ one. other (sym kept_is ∙ one ∙ sent_is)))
      ∙ taken-same f.blob.print blob.print kept sent kept_is sent_is
  stage-refused r cause = absurd cause
