-- The turn that ends a session gives it its result, and later ones answer that and change nothing.
use Rattle.std.proofs.Common.{◌≡◌, inl, inr, ℕ, true, false, cond, ◌&&◌, List, [], ◌∷◌, ◌++◌, map, length, Option, Some, None, refl, sym, ◌∙◌, ap, subst, eqb-true}
use Rattle.std.specs.Prelude.{◌==◌, find, is_none, if◌then◌else◌}
use Rattle.std.specs.Option.{option_and_then}
use Rattle.std.specs.List.{AllByRecursion, flat_map}
use Rattle.std.proofs.lemmas.Bool.{false≢true}
use Rattle.std.proofs.lemmas.Option.{none-some}
use Rattle.repo_model.specs.declared.session.SessionResult.{SessionResult}
use Rattle.repo_model.specs.declared.session.SessionResult.TheVariants.{Aborted, Done}
use Rattle.repo_model.specs.Data.{Row, Phase, listed, fading, Staged, Session}
use Rattle.repo_model.specs.Settings.{Settings}
use Rattle.repo_model.specs.State.{State, change_first, is_session, is_open, is_open_at, row_at, rows_of, session_of}
use Rattle.repo_model.specs.Effect.{Effect, discards, ends, without_staged, sessions_after, with_effect, with_effects}
use Rattle.repo_model.specs.Command.{Command, commit, abort}
use Rattle.repo_model.specs.Reply.{ended, is_free}
use Rattle.repo_model.specs.Deploy.{Offence, offence, without_pom, deliver_all, deliver_at, deliver_again, discard_all}
use Rattle.repo_model.specs.Turn.{Turn, says, with_open, commit_by, commit_of, abort_of, turn}
use Rattle.repo_model.specs.History.{Entry, Fits, IsReply, due, wants_memory, failed, commits, ticked, after, Legal}
use Rattle.repo_laws.specs.Holds.{result_of}
use Rattle.repo_laws.proofs.Answered.{reply-determined}
use Rattle.repo_laws.proofs.Histories.{with_effects-append}
use Rattle.repo_laws.proofs.HoldingLists.{all-join}
use Rattle.repo_laws.proofs.HoldingTurns.{number-found, ended-again}
use Rattle.session_laws.specs.Ended.{ends_session, IsResultOrMemory}
use Rattle.session_laws.proofs.Lasting.{is-over, entry-result}

-- the session of a number is there and goes on
abbrev Going : ℕ → List Session → Type 0
Going n sessions = (one : Session) × (find (is_session n) sessions ≡ Some one) × (one.ended ≡ None)

-- an effect after which it goes on
abbrev Passes : ℕ → Effect → Type 0
Passes n e = (sessions : List Session) → Going n sessions → Going n (sessions_after e sessions)

unstaged-goes : (n m : ℕ) (path : List ℕ) (sessions : List Session) → Going n sessions → Going n (change_first (is_open_at m) (without_staged path) sessions)
unstaged-goes n m path [] old = old
unstaged-goes n m path (x ∷ sessions) (one, is, going) =
    elim (x.number == n)
    as (λ b. (x.number == n) ≡ b → cond b (Some x) (find (is_session n) sessions) ≡ Some one → Going n (change_first (is_open_at m) (without_staged path) (x ∷ sessions))) [
      | true ↦ λ here found.
          let x_is : x ≡ one = cc in
          let goes : x.ended ≡ None = ap (λ (y : Session). y.ended) x_is ∙ going in
          elim (is_open_at m x) as (λ b. Going n (cond b (without_staged path x ∷ sessions) (x ∷ change_first (is_open_at m) (without_staged path) sessions))) [
            | true ↦ (without_staged path x, rw here refl, goes)
            | false ↦ (x, rw here refl, goes)
          ]
      | false ↦ λ there found.
          let (y, found_y, y_goes) = unstaged-goes n m path sessions (one, found, going) in
          elim (is_open_at m x) as (λ b. Going n (cond b (without_staged path x ∷ sessions) (x ∷ change_first (is_open_at m) (without_staged path) sessions))) [
            | true ↦ (one, rw there found, going)
            | false ↦ (y, rw there found_y, y_goes)
          ]
    ] refl is

module _ (n : ℕ) (one : Session) where
  again-passes : (now : ℕ) (file : Staged) (phase : Phase) → AllByRecursion (Passes n) (deliver_again one now file phase)
  again-passes now file listed = (unstaged-goes n one.number file.path, tt)
  again-passes now file (fading since) = ((λ sessions going. going), (unstaged-goes n one.number file.path, tt))

  file-passes : (now : ℕ) (file : Staged) (found : Option Row) → AllByRecursion (Passes n) (deliver_at one now file found)
  file-passes now file None = (unstaged-goes n one.number file.path, tt)
  file-passes now file (Some row) = again-passes now file row.phase

  delivers-pass : (now : ℕ) (rows : List Row) (files : List Staged) → AllByRecursion (Passes n) (flat_map (λ (file : Staged). deliver_at one now file (row_at file.path rows)) files)
  delivers-pass now rows [] = tt
  delivers-pass now rows (file ∷ files) =
      all-join (Passes n) (deliver_at one now file (row_at file.path rows)) (flat_map (λ (f : Staged). deliver_at one now f (row_at f.path rows)) files)
      (file-passes now file (row_at file.path rows)) (delivers-pass now rows files)

  discards-pass : (files : List Staged) → AllByRecursion (Passes n) (map (λ (file : Staged). discards one.number file.path file.blob.number) files)
  discards-pass [] = tt
  discards-pass (file ∷ files) = (unstaged-goes n one.number file.path, discards-pass files)

effects-pass : (n : ℕ) (es : List Effect) (s : State) → AllByRecursion (Passes n) es → Going n s.sessions → Going n (with_effects s es).sessions
effects-pass n [] s all going = going
effects-pass n (e ∷ es) s all going = effects-pass n es (with_effect s e) all.1 (all.0 s.sessions going)

abbrev result_among : ℕ → List Session → Option SessionResult
result_among n sessions = option_and_then (λ (one : Session). one.ended) (find (is_session n) sessions)

-- it ends
gets-result : (n : ℕ) (r : SessionResult) (sessions : List Session) → Going n sessions → result_among n (change_first (is_open_at n) (λ one. record one { ended = Some r }) sessions) ≡ Some r
gets-result n r [] (one, is, going) = absurd (none-some one is)
gets-result n r (x ∷ sessions) (one, is, going) =
    elim (x.number == n)
    as (λ b. (x.number == n) ≡ b → cond b (Some x) (find (is_session n) sessions) ≡ Some one
    → result_among n (cond (b && is_open x) (record x { ended = Some r } ∷ sessions) (x ∷ change_first (is_open_at n) (λ one. record one { ended = Some r }) sessions)) ≡ Some r) [
      | true ↦ λ here found.
          let x_is : x ≡ one = cc in
          let goes : is_open x ≡ true = ap is_none (ap (λ (y : Session). y.ended) x_is ∙ going) in
          rw (goes, here) refl
      | false ↦ λ there found. rw there (gets-result n r sessions (one, found, going))
    ] refl is

ends-after : (n : ℕ) (one : Session) (r : SessionResult) (es : List Effect) (s : State) → one.number ≡ n → AllByRecursion (Passes n) es → Going n s.sessions
    → result_of (with_effects s (es ++ ends one.number r ∷ [])) n ≡ Some r
ends-after n one r es s numbered all going =
    subst (λ (k : ℕ). result_of (with_effects s (es ++ ends k r ∷ [])) n ≡ Some r) (sym numbered)
    (ap (λ (t : State). result_of t n) (with_effects-append es (ends n r ∷ []) s) ∙ gets-result n r (with_effects s es).sessions (effects-pass n es s all going))

module _ (settings : Settings) (s : State) (moment faults : ℕ) where
  abbrev left : List Effect → State
  left es = with_effects (ticked s moment faults) es

  abbrev Gives : ℕ → SessionResult → Turn → Type 0
  Gives n r t = t.reply ≡ ended r → result_of (left t.effects) n ≡ Some r

  commit-gives : (n : ℕ) (r : SessionResult) → Gives n r (turn settings s moment (commit n))
  commit-gives n r = by (session_of n s) refl where
    by : (found : Option Session) → session_of n s ≡ found → Gives n r (with_open found (λ known. commit_of known moment (rows_of known.repo s) known.ended))
    by None _ is = cc
    by (Some one) known is = over one.ended refl is where
      goes : one.ended ≡ None → (other : Option Offence) (pom : Option (List ℕ)) → Gives n r (commit_by one moment (rows_of one.repo s) other pom)
      goes going (Some other) pom is = cc
      goes going None (Some directory) is = cc
      goes going None None is =
          let same : Done (length one.staged) ≡ r = cc in
          subst (λ (x : SessionResult). result_of (left (deliver_all one moment (rows_of one.repo s) ++ ends one.number (Done (length one.staged)) ∷ [])) n ≡ Some x) same
          (ends-after n one (Done (length one.staged)) (deliver_all one moment (rows_of one.repo s)) (ticked s moment faults) (number-found n s one known)
          (delivers-pass n one moment (rows_of one.repo s) one.staged) (one, known, going))

      over : (result : Option SessionResult) → one.ended ≡ result → Gives n r (commit_of one moment (rows_of one.repo s) result)
      over (Some result) was is = let same : result ≡ r = cc in ap (option_and_then (λ (x : Session). x.ended)) known ∙ was ∙ ap Some same
      over None going is = goes going (offence (rows_of one.repo s) one.staged) (without_pom (rows_of one.repo s) one.staged) is

  abort-gives : (n : ℕ) (r : SessionResult) → Gives n r (turn settings s moment (abort n))
  abort-gives n r = by (session_of n s) refl where
    by : (found : Option Session) → session_of n s ≡ found → Gives n r (with_open found (λ known. abort_of known known.ended))
    by None _ is = cc
    by (Some one) known is = over one.ended refl is where
      over : (result : Option SessionResult) → one.ended ≡ result → Gives n r (abort_of one result)
      over (Some result) was is = let same : result ≡ r = cc in ap (option_and_then (λ (x : Session). x.ended)) known ∙ was ∙ ap Some same
      over None going is =
          let same : Aborted ≡ r = cc in
          subst (λ (x : SessionResult). result_of (left (discard_all one ++ ends one.number Aborted ∷ [])) n ≡ Some x) same
          (ends-after n one Aborted (discard_all one) (ticked s moment faults) (number-found n s one known) (discards-pass n one one.staged) (one, known, going))

  turn-gives : (n : ℕ) (r : SessionResult) (c : Command) → ends_session n c ≡ true → Gives n r (turn settings s moment c)
  turn-gives n r (commit m) same = subst (λ (k : ℕ). Gives k r (turn settings s moment (commit m))) (eqb-true m n same) (commit-gives m r)
  turn-gives n r (abort m) same = subst (λ (k : ℕ). Gives k r (turn settings s moment (abort m))) (eqb-true m n same) (abort-gives m r)
  turn-gives n r c other = absurd (false≢true other)

pub result-told : (settings : Settings) (old : State) (e : Entry) (n : ℕ) (r : SessionResult) → Fits settings old e → ends_session n e.command ≡ true → e.reply ≡ ended r
    → result_of (after settings old e) n ≡ Some r
result-told settings old e n r fits asks is =
    let bound : is_free e.reply ≡ false = ap is_free is in
    let so : (turn settings old e.moment e.command).reply ≡ ended r = sym (reply-determined settings old e fits bound) ∙ is in
    rw bound (turn-gives settings old e.moment e.faults n r e.command asks so)

-- once it has ended
turn-again : (settings : Settings) (s : State) (now n : ℕ) (r : SessionResult) (c : Command) → result_of s n ≡ Some r → ends_session n c ≡ true → turn settings s now c ≡ says (ended r)
turn-again settings s now n r c is asks = let (one, known, over) = is-over n r s is in by one known over c asks where
  by : (one : Session) → session_of n s ≡ Some one → one.ended ≡ Some r → (c : Command) → ends_session n c ≡ true → turn settings s now c ≡ says (ended r)
  by one known over (commit m) same = subst (λ (k : ℕ). turn settings s now (commit k) ≡ says (ended r)) (sym (eqb-true m n same)) (ended-again settings s now n one r known over).0
  by one known over (abort m) same = subst (λ (k : ℕ). turn settings s now (abort k) ≡ says (ended r)) (sym (eqb-true m n same)) (ended-again settings s now n one r known over).1
  by one known over c other = absurd (false≢true other)

commits-none : (n : ℕ) (c : Command) → ends_session n c ≡ true → commits c [] ≡ false
commits-none n (commit m) same = refl
commits-none n (abort m) same = refl
commits-none n c other = absurd (false≢true other)

pub result-again : (settings : Settings) (old : State) (e : Entry) (n : ℕ) (r : SessionResult) → result_of old n ≡ Some r → Fits settings old e → ends_session n e.command ≡ true
    → IsResultOrMemory r e.reply × (after settings old e ≡ ticked old e.moment e.faults)
result-again settings old e n r is fits asks = (replied fits.reply, still) where
  so : turn settings old e.moment e.command ≡ says (ended r)
  so = turn-again settings old e.moment n r e.command is asks

  replied : IsReply settings old e → IsResultOrMemory r e.reply
  replied (due reply did) = inl (reply ∙ ap (λ (t : Turn). t.reply) so)
  replied (wants_memory reply takes did) = inr reply
  replied (failed reply asked rose) =
      absurd (false≢true (sym (ap (λ (t : Turn). commits e.command t.effects) so ∙ commits-none n e.command asks) ∙ asked))

  still : after settings old e ≡ ticked old e.moment e.faults
  still =
      elim (is_free e.reply)
      as (λ b. with_effects (ticked old e.moment e.faults) (if b then [] else (turn settings old e.moment e.command).effects) ≡ ticked old e.moment e.faults) [
        | true ↦ refl
        | false ↦ ap (λ (t : Turn). with_effects (ticked old e.moment e.faults) t.effects) so
      ]

-- from one entry to a later one
later-again : (settings : Settings) (s : State) (other : Entry) (between rest : List Entry) (n : ℕ) (r : SessionResult) → result_of s n ≡ Some r → Legal settings s (between ++ other ∷ rest)
    → ends_session n other.command ≡ true → IsResultOrMemory r other.reply
later-again settings s other [] rest n r is legal asks = (result-again settings s other n r is legal.0 asks).0
later-again settings s other (e ∷ between) rest n r is legal asks =
    later-again settings (after settings s e) other between rest n r (entry-result settings s e n r is) legal.1 asks

pub history-again : (settings : Settings) (start : State) (one other : Entry) (between rest : List Entry) (n : ℕ) (r : SessionResult) → Legal settings start (one ∷ between ++ other ∷ rest)
    → ends_session n one.command ≡ true → one.reply ≡ ended r → ends_session n other.command ≡ true → IsResultOrMemory r other.reply
history-again settings start one other between rest n r legal asks is again =
    later-again settings (after settings start one) other between rest n r (result-told settings start one n r legal.0 asks is) legal.1 again
