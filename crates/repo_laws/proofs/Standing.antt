-- No blob number is lost: it stands somewhere from when it is drawn until a Collect gives it out.
use native.Mathlib.Omega.{arith}
use Rattle.std.proofs.Common.{◌≡◌, ◌≤◌, ◌<◌, ◌+◌, ℕ, Bool, true, false, not, ◌⊎◌, inl, inr, List, [], ◌∷◌, ◌++◌, length, Some, refl, sym, ◌∙◌, ap, subst, eqb-true}
use Rattle.std.specs.Prelude.{◌==◌, nat_lt, count_by, filter, find, if◌then◌else◌}
use Rattle.std.specs.List.{AllByRecursion, list_any}
use Rattle.std.proofs.lemmas.Bool.{eq-eqb, ne_eqb, false≢true, ltb-true, ltb-false}
use Rattle.std.proofs.lemmas.List.Sums.{sum_by-append, sum_by_push}
use Rattle.repo_model.specs.Data.{Row, Hosted, Staged, Session}
use Rattle.repo_model.specs.Settings.{Settings}
use Rattle.repo_model.specs.State.{State, change_where, change_first, is_repository, is_row, is_staged, is_open_at, rows_of, is_among}
use Rattle.repo_model.specs.Effect.{Effect, draws, drops, creates, stages, delivers, discards, relists, fades, expires, forgets, lends, returns, opens, ends, without_number, with_row, new_row, list_again, fade, with_staged, without_row, without_staged, new_session, with_effect, with_effects, caches, keeps_doc, adds_negative, clears_negative, proxy_after}
use Rattle.repo_model.specs.May.{May, AllMay}
use Rattle.repo_model.specs.Command.{Command, look, collect}
use Rattle.repo_model.specs.Reply.{is_free, collected}
use Rattle.repo_model.specs.Purge.{expire_all}
use Rattle.repo_model.specs.Turn.{turn, unlent}
use Rattle.repo_model.specs.History.{Entry, IsReply, due, wants_memory, failed, Fits, ticked, effects_of, after, Legal, end}
use Rattle.repo_laws.specs.Laws.{count_of, rows_with, staged_with, places_of, AreApart}
use Rattle.repo_laws.specs.Sound.{AreNamedApart, IsInOrder, Sound, OnePlace}
use Rattle.repo_laws.specs.Closed.{given_out, all_given_out}
use Rattle.repo_laws.proofs.Rows.{RowsApart, rows_in}
use Rattle.repo_laws.proofs.Counts.{one_if, count-all, count-others, count-push, count-same, one-goes, count-with_number, among-counts, count-with_row, count-with_staged, names, stages_it, rows-counted-back, rows-gained, sum-first}
use Rattle.repo_laws.proofs.HoldingLists.{unfound-any}
use Rattle.repo_laws.proofs.Places.{rows-apart, one-place-kept}
use Rattle.repo_laws.proofs.Lists.{all-then}
use Rattle.repo_laws.proofs.ByPath.{all-apart}
use Rattle.repo_laws.proofs.Orderly.{found-has, sound-kept}
use Rattle.repo_laws.proofs.Answered.{free-none}
use Rattle.repo_laws.proofs.Histories.{all-keep, with_effects-append, sound-ticked, one-place-ticked, entry-may, sound-entry, one-place-entry}
use Rattle.repo_laws.proofs.Making.{expired-all, is_common, turn-makes}
use Rattle.repo_laws.proofs.Files.{cached-stays, cached-gains}

-- a number that is taken out of a list where it stands once at most
one-out : (k n : ℕ) (ms : List ℕ) → count_of k ms ≤ 1 → count_of k ms ≤ count_of k (without_number n ms) + one_if (n == k)
one-out k n ms once =
    elim (n == k) as (λ b. (n == k) ≡ b → count_of k ms ≤ count_of k (without_number n ms) + one_if b) [
      | true ↦ λ is. omega (arith, once)
      | false ↦ λ is.
          omega (arith, count-all (λ m. m == k) (λ m. not (m == n)) (λ m at. ap not (ap (λ i. i == n) (eqb-true m k at) ∙ ne_eqb k n (λ same. false≢true (sym is ∙ eq-eqb n k (sym same))))) ms)
    ] refl

-- the one file that is staged at a path goes, and no other
file-goes : (p : Staged → Bool) (path : List ℕ) (files : List Staged) (file : Staged) → AreApart files → find (is_staged path) files ≡ Some file
    → count_by p files ≤ count_by p (filter (λ f. not (is_staged path f)) files) + one_if (p file)
file-goes = one-goes (λ (file : Staged). file.path)

staged-gained : (n : ℕ) (q : Session → Bool) (f : Session → Session) (a b : ℕ) (sessions : List Session) (one : Session) → find q sessions ≡ Some one
    → count_by (stages_it n) one.staged + a ≤ count_by (stages_it n) (f one).staged + b → staged_with n sessions + a ≤ staged_with n (change_first q f sessions) + b
staged-gained n q f a b sessions one found here = omega (arith, here, sum-first (λ (s : Session). count_by (stages_it n) s.staged) q f sessions one found)

-- the numbers that an effect forgets
abbrev pub forgotten_by : Effect → List ℕ
forgotten_by (forgets blobs) = blobs
forgotten_by effect = []

module _ (grace now : ℕ) (s : State) (n : ℕ) (once : places_of s n ≤ 1) where
  abbrev Stays : Effect → Type 0
  Stays e = places_of s n ≤ places_of (with_effect s e) n + one_if (is_among n (forgotten_by e))

  same-rows : (repo path : List ℕ) (f : Row → Row) → ((r : Row) → names n (f r) ≡ names n r)
      → count_by (names n) (rows_in repo s.hosted) ≤ count_by (names n) (change_where (is_row path) f (rows_in repo s.hosted)) + 0
  same-rows repo path f keeps = omega (arith, count-same (names n) (is_row path) f keeps (rows_in repo s.hosted))

  one-row-more : (repo path : List ℕ) (number : ℕ) (row : Row) → names n row ≡ (number == n) → list_any (is_repository repo) s.hosted ≡ true
      → rows_with n s.hosted + one_if (number == n) ≤ rows_with n (change_first (is_repository repo) (λ h. record h { rows = with_row row h.rows }) s.hosted) + 0
  one-row-more repo path number row named there =
      let same : one_if (names n row) ≡ one_if (number == n) = ap one_if named in
      rows-gained n repo (with_row row) (one_if (number == n)) 0 s.hosted (λ none. absurd (false≢true (sym (unfound-any (is_repository repo) s.hosted none) ∙ there))) (omega (arith, same, count-with_row (names n) row (rows_in repo s.hosted)))

  -- a number that stands somewhere does so still, but where it is forgotten
  pub places-stay : (e : Effect) → AllByRecursion (λ (h : Hosted). RowsApart h.rows) s.hosted → AllByRecursion (λ (one : Session). AreApart one.staged) s.sessions → May grace now s e → Stays e
  places-stay draws rows files may = omega (arith, count-push (λ m. m == n) s.yard.drafts s.yard.next_draft)
  places-stay (drops m) rows files may = omega (arith, one-out n m s.yard.drafts (omega (arith, once)), count-with_number n m s.yard.condemned)
  places-stay (creates repo path blob moment) rows files may =
      omega (arith, one-out n blob.number s.yard.drafts (omega (arith, once)), one-row-more repo path blob.number (new_row path blob moment) refl may.1)
  places-stay (stages m path blob) rows files may =
      let (one, found, _, _, _) = may in
      let new : Staged = record { path = path; blob = blob } in
      let here = staged-gained n (is_open_at m) (λ session. record session { staged = with_staged new session.staged }) (one_if (blob.number == n)) 0 s.sessions one found
      (omega (arith, count-with_staged (stages_it n) new one.staged)) in
      omega (arith, one-out n blob.number s.yard.drafts (omega (arith, once)), here)
  places-stay (delivers m repo path blob moment) rows files may =
      let (one, _, there, found, is, _) = may in
      let gone = staged-gained n (is_open_at m) (without_staged path) 0 (one_if (blob.number == n)) s.sessions one found
      (omega (arith, file-goes (stages_it n) path one.staged (record { path = path; blob = blob }) (found-has (λ (x : Session). AreApart x.staged) (is_open_at m) s.sessions one files found) is)) in
      omega (arith, gone, one-row-more repo path blob.number (new_row path blob moment) refl there)
  places-stay (discards m path draft) rows files may =
      let (one, file, found, is, named) = may in
      let same : one_if (file.blob.number == n) ≡ one_if (draft == n) = ap (λ k. one_if (k == n)) named in
      let gone = staged-gained n (is_open_at m) (without_staged path) 0 (one_if (file.blob.number == n)) s.sessions one found
      (omega (arith, file-goes (stages_it n) path one.staged file (found-has (λ (x : Session). AreApart x.staged) (is_open_at m) s.sessions one files found) is)) in
      omega (arith, gone, same, count-with_number n draft s.yard.condemned)
  places-stay (relists repo path moment) rows files may =
      omega (arith, rows-counted-back n repo (change_where (is_row path) (list_again moment)) 0 s.hosted (same-rows repo path (list_again moment) (λ r. refl)))
  places-stay (fades repo path moment) rows files may =
      omega (arith, rows-counted-back n repo (change_where (is_row path) (fade moment)) 0 s.hosted (same-rows repo path (fade moment) (λ r. refl)))
  places-stay (expires repo path blob) rows files may =
      let (row, since, found, _, named, _) = may in
      let same : one_if (row.blob.number == n) ≡ one_if (blob == n) = ap (λ k. one_if (k == n)) named in
      let gone = rows-counted-back n repo (without_row path) (one_if (row.blob.number == n)) s.hosted (one-goes (λ (r : Row). r.path) (names n) path (rows_of repo s) row (rows-apart repo s.hosted rows) found) in
      omega (arith, gone, same, count-with_number n blob s.yard.condemned)
  places-stay (forgets blobs) rows files may =
      elim (is_among n blobs) as (λ b. is_among n blobs ≡ b → places_of s n ≤ places_of (with_effect s (forgets blobs)) n + one_if b) [
        | true ↦ λ among. omega (arith, once)
        | false ↦ λ is. omega (arith, count-others n blobs s.yard.condemned is)
      ] refl
  places-stay (lends blob) rows files may = omega arith
  places-stay (returns lease) rows files may = omega arith
  places-stay (opens m repo) rows files may =
      let none : count_by (stages_it n) [] ≡ 0 = refl in
      omega (arith, none, sum_by_push (λ (x : Session). count_by (stages_it n) x.staged) s.sessions (new_session m repo))
  places-stay (caches id path blob moment) rows files may =
      let more = cached-gains n id (proxy_after (caches id path blob moment)) (one_if (blob.number == n)) (λ p. omega (arith, count-with_row (names n) (new_row path blob moment) p.files)) s.proxies may.1 in
      omega (arith, one-out n blob.number s.yard.drafts (omega (arith, once)), more)
  places-stay (keeps_doc id path document moment) rows files may =
      omega (arith, cached-stays n id (proxy_after (keeps_doc id path document moment)) (λ p. omega arith) s.proxies)
  places-stay (adds_negative id path moment) rows files may =
      omega (arith, cached-stays n id (proxy_after (adds_negative id path moment)) (λ p. omega arith) s.proxies)
  places-stay (clears_negative id path) rows files may =
      omega (arith, cached-stays n id (proxy_after (clears_negative id path)) (λ p. omega arith) s.proxies)
  places-stay (ends m result) rows files may =
      omega (arith, staged-gained n (is_open_at m) (λ session. record session { ended = Some result }) 0 0 s.sessions may.0 may.1 (omega arith))

-- the files of each session lie apart
files-apart : (settings : Settings) (sessions : List Session) → AllByRecursion (IsInOrder settings) sessions → AllByRecursion (λ (one : Session). AreApart one.staged) sessions
files-apart settings = all-then (IsInOrder settings) (λ (one : Session). AreApart one.staged) (λ one order. order.1)

module _ (settings : Settings) (grace now n : ℕ) where
  -- a number that was drawn stands somewhere, or was given out so often
  abbrev Stood : ℕ → State → Type 0
  Stood given s = n < s.yard.next_draft → 0 < n → 0 < places_of s n + given

  stood-effect : (s : State) (e : Effect) (given : ℕ) → Sound settings s → OnePlace s → May grace now s e → Stood given s → Stood (given + one_if (is_among n (forgotten_by e))) (with_effect s e)
  stood-effect s e given sound placed may stood below above =
      elim (nat_lt n s.yard.next_draft) as (λ b. nat_lt n s.yard.next_draft ≡ b → 0 < places_of (with_effect s e) n + (given + one_if (is_among n (forgotten_by e)))) [
        | true ↦ λ is.
            let drawn : n < s.yard.next_draft = ltb-true n s.yard.next_draft is in
            omega (arith, stood drawn above, places-stay grace now s n (placed.drawn n drawn) e (all-apart s.hosted sound.rows) (files-apart settings s.sessions sound.sessions) may)
        | false ↦ λ is.
            let new : 0 < places_of (with_effect s e) n = just-drawn e (ltb-false n s.yard.next_draft is) below in
            omega (arith, new)
      ] refl where
        just-drawn : (e : Effect) → s.yard.next_draft ≤ n → n < (with_effect s e).yard.next_draft → 0 < places_of (with_effect s e) n
        just-drawn draws up below =
            let same : s.yard.next_draft ≡ n = omega arith in
            let one : one_if (s.yard.next_draft == n) ≡ 1 = ap one_if (eq-eqb s.yard.next_draft n same) in
            omega (arith, one, count-push (λ m. m == n) s.yard.drafts s.yard.next_draft)
        just-drawn (drops m) up below = absurd (omega arith)
        just-drawn e up below = absurd (omega arith)

  -- so through effects that forget nothing
  stood-effects : (es : List Effect) (s : State) (given : ℕ) → Sound settings s → OnePlace s → AllMay grace now s es → AllByRecursion (λ e. forgotten_by e ≡ []) es → Stood given s → Stood given (with_effects s es)
  stood-effects [] s given sound placed may quiet stood = stood
  stood-effects (e ∷ es) s given sound placed may quiet stood =
      let none : one_if (is_among n (forgotten_by e)) ≡ 0 = ap (λ ns. one_if (is_among n ns)) quiet.0 in
      stood-effects es (with_effect s e) given (sound-kept settings grace now s e may.0 sound) (one-place-kept grace now s e (all-apart s.hosted sound.rows) may.0 placed) may.1 quiet.1
      (λ below above. omega (arith, none, stood-effect s e given sound placed may.0 stood below above))

none-forgotten : (e : Effect) → is_common e ≡ true → forgotten_by e ≡ []
none-forgotten (forgets blobs) is = absurd (false≢true is)
none-forgotten e is = refl

all-may-split : (grace now : ℕ) (es fs : List Effect) (s : State) → AllMay grace now s (es ++ fs) → AllMay grace now s es × AllMay grace now (with_effects s es) fs
all-may-split grace now [] fs s all = (tt, all)
all-may-split grace now (e ∷ es) fs s all = let rest = all-may-split grace now es fs (with_effect s e) all.1 in ((all.0, rest.0), rest.1)

collect-or-not : (c : Command) → (c ≡ collect) ⊎ (c ≡ collect → ⊥)
collect-or-not collect = inl refl
collect-or-not (look repo path tried) = inr (λ is. cc)
collect-or-not c = inr (λ is. cc)

module _ (settings : Settings) (apart : AreNamedApart settings.hosted) (n : ℕ) where
  once-or-more : (blobs : List ℕ) → one_if (is_among n blobs) ≤ count_of n blobs
  once-or-more blobs =
      elim (is_among n blobs) as (λ b. is_among n blobs ≡ b → one_if b ≤ count_of n blobs) [ true ↦ λ among. omega (arith, among-counts n blobs among) | false ↦ λ _. omega arith ] refl

  module _ (s : State) (e : Entry) (given : ℕ) (sound : Sound settings s) (placed : OnePlace s) (fits : Fits settings s e) (stood : Stood settings settings.grace e.moment n given s) where
    abbrev begun : State
    begun = ticked s e.moment e.faults

    abbrev Then : State → Type 0
    Then t = Stood settings settings.grace e.moment n (given + count_of n (given_out e.command e.reply)) t

    sound_so : Sound settings begun
    sound_so = sound-ticked settings s e.moment e.faults sound

    placed_so : OnePlace begun
    placed_so = one-place-ticked s e.moment e.faults placed

    -- where nothing is forgotten
    quiet-entry : AllByRecursion (λ f. forgotten_by f ≡ []) (effects_of settings s e) → Then (after settings s e)
    quiet-entry quiet below above =
        omega (arith, stood-effects settings settings.grace e.moment n (effects_of settings s e) begun given sound_so placed_so (entry-may settings apart s e sound fits) quiet stood below above)

    free-entry : is_free e.reply ≡ true → Then (after settings s e)
    free-entry free = quiet-entry (subst (AllByRecursion (λ f. forgotten_by f ≡ [])) (sym (free-none settings s e free)) tt)

    other-entry : (e.command ≡ collect → ⊥) → Then (after settings s e)
    other-entry other =
        quiet-entry
        (elim (is_free e.reply) as (λ b. AllByRecursion (λ f. forgotten_by f ≡ []) (if b then [] else (turn settings s e.moment e.command).effects)) [
          | true ↦ tt
          | false ↦ turn-makes (λ f. forgotten_by f ≡ []) none-forgotten settings s e.moment e.command (λ lease is. refl) (λ blobs is. absurd (other is)) (λ plan blob is. refl)
        ])

    abbrev expiring : List Effect
    expiring = expire_all settings.grace e.moment s.hosted

    abbrev blobs_out : List ℕ
    blobs_out = unlent (with_effects s expiring).yard

    collect-entry : e.command ≡ collect → e.reply ≡ (turn settings s e.moment e.command).reply → Then (after settings s e)
    collect-entry is_collect is =
        let reply_is : e.reply ≡ collected (length expiring) blobs_out = is ∙ ap (λ c. (turn settings s e.moment c).reply) is_collect in
        let effects_are : effects_of settings s e ≡ expiring ++ forgets blobs_out ∷ [] =
        ap (λ r. if is_free r then [] else (turn settings s e.moment e.command).effects) reply_is ∙ ap (λ c. (turn settings s e.moment c).effects) is_collect in
        let may = all-may-split settings.grace e.moment expiring (forgets blobs_out ∷ []) begun (subst (AllMay settings.grace e.moment begun) effects_are (entry-may settings apart s e sound fits)) in
        let cleared : State = with_effects begun expiring in
        let both = all-keep settings.grace e.moment (λ t. Sound settings t × OnePlace t)
        (λ t f can old. (sound-kept settings settings.grace e.moment t f can old.0, one-place-kept settings.grace e.moment t f (all-apart t.hosted old.0.rows) can old.1))
        expiring begun may.0 (sound_so, placed_so) in
        let stood_cleared = stood-effects settings settings.grace e.moment n expiring begun given sound_so placed_so may.0
        (expired-all (λ f. forgotten_by f ≡ []) (λ repo path blob. refl) settings.grace e.moment s.hosted) stood in
        let stood_then = stood-effect settings settings.grace e.moment n cleared (forgets blobs_out) given both.0 both.1 may.1.0 stood_cleared in
        let after_is : after settings s e ≡ with_effect cleared (forgets blobs_out) = ap (with_effects begun) effects_are ∙ with_effects-append expiring (forgets blobs_out ∷ []) begun in
        let count_is : count_of n (given_out e.command e.reply) ≡ count_of n blobs_out = ap (λ c. count_of n (given_out c e.reply)) is_collect ∙ ap (λ r. count_of n (given_out collect r)) reply_is in
        subst Then (sym after_is) (λ below above. omega (arith, stood_then below above, once-or-more blobs_out, count_is))

    pub entry-stood : Then (after settings s e)
    entry-stood =
        elim (collect-or-not e.command) as (λ _. Then (after settings s e)) [
          | inl is_collect ↦ by is_collect fits.reply
          | inr other ↦ other-entry other
        ] where
          by : e.command ≡ collect → IsReply settings s e → Then (after settings s e)
          by is_collect (due is _) = collect-entry is_collect is
          by is_collect (wants_memory is _ _) = free-entry (ap is_free is)
          by is_collect (failed is _ _) = free-entry (ap is_free is)

  -- at the end of a history each number that was drawn stands somewhere, or was given out
  pub stood-through : (entries : List Entry) (s : State) (given : ℕ) → Sound settings s → OnePlace s → Legal settings s entries → (n < s.yard.next_draft → 0 < n → 0 < places_of s n + given)
      → n < (end settings s entries).yard.next_draft → 0 < n → 0 < places_of (end settings s entries) n + (given + count_of n (all_given_out entries))
  stood-through [] s given sound placed legal stood below above = omega (arith, stood below above)
  stood-through (e ∷ entries) s given sound placed legal stood below above =
      let rest = stood-through entries (after settings s e) (given + count_of n (given_out e.command e.reply)) (sound-entry settings apart s e legal.0 sound) (one-place-entry settings apart s e legal.0 sound placed) legal.1
      (entry-stood s e given sound placed legal.0 stood) below above in
      omega (arith, rest, sum_by-append (λ (m : ℕ). one_if (m == n)) (given_out e.command e.reply) (all_given_out entries))
