-- What a Collect gave out to be removed stands nowhere from then on.
use native.Mathlib.Omega.{arith}
use Rattle.std.proofs.Common.{◌≡◌, ◌<◌, ◌+◌, ℕ, true, false, not, ◌||◌, List, [], ◌∷◌, ◌++◌, length, refl, sym, ◌∙◌, ap, subst}
use Rattle.std.specs.Prelude.{◌==◌, nat_lt, filter, if◌then◌else◌}
use Rattle.std.specs.List.{list_any}
use Rattle.std.proofs.lemmas.Bool.{false≢true, ne_eqb, not-true, or_from, false_from_ne_true, ltb-true, ltb-false}
use Rattle.std.proofs.lemmas.List.Folds.{list_any-append}
use Rattle.repo_model.specs.Settings.{Settings}
use Rattle.repo_model.specs.State.{State, Lease, is_among}
use Rattle.repo_model.specs.Effect.{Effect, forgets, lends, returns, with_effect, with_effects}
use Rattle.repo_model.specs.May.{May}
use Rattle.repo_model.specs.Command.{Command, look, collect}
use Rattle.repo_model.specs.Reply.{Reply, collected, is_free}
use Rattle.repo_model.specs.Purge.{expire_all}
use Rattle.repo_model.specs.Turn.{turn, unlent}
use Rattle.repo_model.specs.History.{Entry, Fits, IsReply, due, wants_memory, failed, ticked, effects_of, after, Legal}
use Rattle.repo_laws.specs.Laws.{places_of, rows_with, cached_with, count_of}
use Rattle.repo_laws.specs.Sound.{AreNamedApart, Sound, OnePlace}
use Rattle.repo_laws.specs.Closed.{given_out, IsGone, StaysGone, Untouched}
use Rattle.repo_laws.proofs.ByPath.{all-apart}
use Rattle.repo_laws.proofs.Counts.{among-counts, count-none}
use Rattle.repo_laws.proofs.HoldingLists.{any-filter}
use Rattle.repo_laws.proofs.Lists.{among-has}
use Rattle.repo_laws.proofs.Places.{rows-blob-counts, places-counted, next-counted, never-again, one-place-kept}
use Rattle.repo_laws.proofs.Orderly.{sound-kept}
use Rattle.repo_laws.proofs.Purges.{expires-all}
use Rattle.repo_laws.proofs.Turns.{unlent-has}
use Rattle.repo_laws.proofs.Histories.{all-keep, with_effects-append, ticked-later, entry-keeps, sound-entry, one-place-entry}

pub count-forgotten : (k : ℕ) (blobs ms : List ℕ) → is_among k blobs ≡ true → count_of k (filter (λ m. not (is_among m blobs)) ms) ≡ 0
count-forgotten k blobs ms among =
    count-none (λ m. m == k) (λ m. not (is_among m blobs))
    (λ m kept. ne_eqb m k (λ at. false≢true (sym (not-true (is_among m blobs) kept) ∙ ap (λ i. is_among i blobs) at ∙ among))) ms

-- a number that is gone stays so
unborrowed : (grace now : ℕ) (s : State) (e : Effect) (n : ℕ) → May grace now s e → places_of s n ≡ 0
    → list_any (λ (l : Lease). l.blob == n) s.yard.leases ≡ false → list_any (λ (l : Lease). l.blob == n) (with_effect s e).yard.leases ≡ false
unborrowed grace now s (lends blob) n may nowhere none =
    let there : 0 < rows_with blob s.hosted + cached_with blob s.proxies = rows-blob-counts s blob may.1 in
    let other : (blob == n) ≡ false = ne_eqb blob n (λ same. let here : 0 < rows_with n s.hosted + cached_with n s.proxies = subst (λ (k : ℕ). 0 < rows_with k s.hosted + cached_with k s.proxies) same there in omega (arith, here, nowhere)) in
    list_any-append (λ l. l.blob == n) s.yard.leases (record { number = s.yard.next_lease; blob = blob } ∷ [])
    ∙ or_from (list_any (λ (l : Lease). l.blob == n) s.yard.leases) ((blob == n) || false) none (or_from (blob == n) false other refl)
unborrowed grace now s (returns lease) n may nowhere none = any-filter (λ l. l.blob == n) (λ l. not (l.number == lease)) s.yard.leases none
unborrowed grace now s e n may nowhere none = none

pub gone-kept : (grace now : ℕ) (s : State) (e : Effect) (n : ℕ) → May grace now s e → IsGone n s → IsGone n (with_effect s e)
gone-kept grace now s e n may (drawn, nowhere, none) =
    (omega (arith, drawn, next-counted s e), omega (arith, places-counted grace now s n e may, never-again s e n drawn, nowhere), unborrowed grace now s e n may nowhere none)

-- what Collect gives out is gone as soon as it is forgotten
forgets-gone : (t : State) (n : ℕ) → OnePlace t → is_among n (unlent t.yard) ≡ true → IsGone n (with_effect t (forgets (unlent t.yard)))
forgets-gone t n placed among =
    let (garbage, unleased) = among-has (λ m. (is_among m t.yard.condemned ≡ true) × (not (list_any (λ (l : Lease). l.blob == m) t.yard.leases) ≡ true)) n (unlent t.yard) (unlent-has t.yard) among in
    let counts : 0 < count_of n t.yard.condemned = among-counts n t.yard.condemned garbage in
    elim (nat_lt n t.yard.next_draft) as (λ b. nat_lt n t.yard.next_draft ≡ b → IsGone n (with_effect t (forgets (unlent t.yard)))) [
      | true ↦ λ is.
          let drawn : n < t.yard.next_draft = ltb-true n t.yard.next_draft is in
          (drawn, omega (arith, counts, placed.drawn n drawn, count-forgotten n (unlent t.yard) t.yard.condemned among), not-true (list_any (λ (l : Lease). l.blob == n) t.yard.leases) unleased)
      | false ↦ λ is. absurd (omega (arith, counts, placed.later n (ltb-false n t.yard.next_draft is)))
    ] refl

-- only a Collect gives out something
pub only-collect : (n : ℕ) (c : Command) (r : Reply) → is_among n (given_out c r) ≡ true → c ≡ collect
only-collect n collect r among = refl
only-collect n (look repo path tried) r among = absurd (false≢true among)
only-collect n c r among = absurd (false≢true among)

module _ (settings : Settings) (apart : AreNamedApart settings.hosted) where
  -- the state of a Collect once the rows whose time is over are gone
  abbrev pub cleared : State → Entry → State
  cleared s e = with_effects s (expire_all settings.grace e.moment s.hosted)

  pub collects : (s : State) (e : Entry) (n : ℕ) → IsReply settings s e → e.command ≡ collect → is_among n (given_out collect e.reply) ≡ true
      → (is_among n (unlent (cleared s e).yard) ≡ true)
      × (after settings s e ≡ ticked (with_effect (cleared s e) (forgets (unlent (cleared s e).yard))) e.moment e.faults)
      × (given_out collect e.reply ≡ unlent (cleared s e).yard)
  collects s e n (due is _) is_collect among =
      let expiring : List Effect = expire_all settings.grace e.moment s.hosted in
      let blobs : List ℕ = unlent (cleared s e).yard in
      let reply_is : e.reply ≡ collected (length expiring) blobs = is ∙ ap (λ c. (turn settings s e.moment c).reply) is_collect in
      let effects_are : effects_of settings s e ≡ expiring ++ forgets blobs ∷ [] =
      ap (λ r. if is_free r then [] else (turn settings s e.moment e.command).effects) reply_is ∙ ap (λ c. (turn settings s e.moment c).effects) is_collect in (
        subst (λ r. is_among n (given_out collect r) ≡ true) reply_is among,
        ap (with_effects (ticked s e.moment e.faults)) effects_are ∙ ticked-later e.moment e.faults (expiring ++ forgets blobs ∷ []) s
            ∙ ap (λ t. ticked t e.moment e.faults) (with_effects-append expiring (forgets blobs ∷ []) s),
        ap (given_out collect) reply_is,
      )
  collects s e n (wants_memory is _ _) is_collect among = absurd (false≢true (subst (λ r. is_among n (given_out collect r) ≡ true) is among))
  collects s e n (failed is _ _) is_collect among = absurd (false≢true (subst (λ r. is_among n (given_out collect r) ≡ true) is among))

  pub cleared-keeps : (s : State) (e : Entry) (P : State → Type 0) → Sound settings s → ((t : State) (f : Effect) → Sound settings t → May settings.grace e.moment t f → P t → P (with_effect t f)) → P s → P (cleared s e)
  cleared-keeps s e P sound keeps old =
      (all-keep settings.grace e.moment (λ t. Sound settings t × P t)
      (λ t f may both. (sound-kept settings settings.grace e.moment t f may both.0, keeps t f both.0 may both.1))
      (expire_all settings.grace e.moment s.hosted) s (expires-all settings.grace e.moment s settings apart sound.rules (all-apart s.hosted sound.rows)) (sound, old)).1

  pub given-gone : (s : State) (e : Entry) (n : ℕ) → Sound settings s → OnePlace s → Fits settings s e → is_among n (given_out e.command e.reply) ≡ true → IsGone n (after settings s e)
  given-gone s e n sound placed fits among =
      let is_collect : e.command ≡ collect = only-collect n e.command e.reply among in
      let (given, is, _) = collects s e n fits.reply is_collect (subst (λ c. is_among n (given_out c e.reply) ≡ true) is_collect among) in
      subst (IsGone n) (sym is)
      (forgets-gone (cleared s e) n (cleared-keeps s e OnePlace sound (λ t f sound_then may old. one-place-kept settings.grace e.moment t f (all-apart t.hosted sound_then.rows) may old) placed) given)

  none-again : (s : State) (e : Entry) (n : ℕ) → Sound settings s → Fits settings s e → IsGone n s → is_among n (given_out e.command e.reply) ≡ false
  none-again s e n sound fits gone =
      false_from_ne_true (is_among n (given_out e.command e.reply))
      (λ among.
      let is_collect : e.command ≡ collect = only-collect n e.command e.reply among in
      let (given, _, _) = collects s e n fits.reply is_collect (subst (λ c. is_among n (given_out c e.reply) ≡ true) is_collect among) in
      let (_, nowhere, _) = cleared-keeps s e (IsGone n) sound (λ t f _ may old. gone-kept settings.grace e.moment t f n may old) gone in
      let (garbage, _) = among-has (λ m. (is_among m (cleared s e).yard.condemned ≡ true) × (not (list_any (λ (l : Lease). l.blob == m) (cleared s e).yard.leases) ≡ true)) n (unlent (cleared s e).yard) (unlent-has (cleared s e).yard) given in
      omega (arith, nowhere, among-counts n (cleared s e).yard.condemned garbage))

  stays-gone : (entries : List Entry) (s : State) (n : ℕ) → Sound settings s → Legal settings s entries → IsGone n s → StaysGone n settings s entries
  stays-gone [] s n sound legal gone = gone
  stays-gone (e ∷ entries) s n sound legal gone = (
    gone,
    none-again s e n sound legal.0 gone,
    stays-gone entries (after settings s e) n (sound-entry settings apart s e legal.0 sound) legal.1
        (entry-keeps settings apart s e (IsGone n) legal.0 sound (λ t f _ may old. gone-kept settings.grace e.moment t f n may old) gone),
  )

  pub untouched : (entries : List Entry) (s : State) → Sound settings s → OnePlace s → Legal settings s entries → Untouched settings s entries
  untouched [] s sound placed legal = tt
  untouched (e ∷ entries) s sound placed legal =
      let sound_then = sound-entry settings apart s e legal.0 sound in (
        (λ n among. stays-gone entries (after settings s e) n sound_then legal.1 (given-gone s e n sound placed legal.0 among)),
        untouched entries (after settings s e) sound_then (one-place-entry settings apart s e legal.0 sound placed) legal.1,
      )
