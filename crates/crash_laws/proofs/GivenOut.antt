-- What a Collect gave out to be removed is named by no row that a start finds from then on.
use native.Mathlib.Omega.{arith}
use Rattle.std.proofs.Common.{◌≡◌, ◌<◌, ℕ, true, false, not, List, [], ◌∷◌, ◌++◌, length, Option, Some, None, refl, sym, ◌∙◌, ap, subst}
use Rattle.std.specs.Prelude.{◌==◌, nat_lt, if◌then◌else◌}
use Rattle.std.specs.List.{list_any}
use Rattle.std.proofs.lemmas.Bool.{false≢true, false_from_ne_true, ltb-true, ltb-false}
use Rattle.std.proofs.lemmas.List.Sums.{fold-append}
use Rattle.repo_model.specs.declared.item.Item.{Item}
use Rattle.repo_model.specs.Command.{collect}
use Rattle.repo_model.specs.Effect.{Effect, creates, delivers, relists, fades, expires, forgets, caches, without_staged, list_again, fade, with_effect, with_effects, items_of, recorded}
use Rattle.repo_model.specs.History.{Entry, Fits, IsReply, Legal, after, due, effects_of, failed, ticked, wants_memory}
use Rattle.repo_model.specs.May.{AllMay, May}
use Rattle.repo_model.specs.Prints.{recorded_print}
use Rattle.repo_model.specs.Purge.{expire_all}
use Rattle.repo_model.specs.Reply.{collected, is_free, store_fault}
use Rattle.repo_model.specs.Settings.{Settings}
use Rattle.repo_model.specs.State.{State, Lease, is_among, is_open_at, is_staged}
use Rattle.repo_model.specs.Tables.{RecordedRow, Tables, is_recorded, item_on, names_blob, recorded_row}
use Rattle.repo_model.specs.Turn.{turn, unlent}
use Rattle.repo_laws.specs.Closed.{IsGone, given_out}
use Rattle.repo_laws.specs.Holds.{Holds, InOrder, loose_in, named_in, told, with_items}
use Rattle.repo_laws.specs.Laws.{places_of}
use Rattle.repo_laws.specs.Sound.{AreNamedApart, IsSound, Sound}
use Rattle.repo_laws.proofs.ByPath.{all-apart}
use Rattle.repo_laws.proofs.Counts.{among-counts, count-filter, count-same, count-with_recorded, found-goes, given-up, one_if, staged-counted, stages_it}
use Rattle.repo_laws.proofs.Histories.{entry-keeps, entry-may, moment-rises, one-place-ticked, sound-entry, sound-ticked, ticked-later}
use Rattle.repo_laws.proofs.Holding.{effects-recorded}
use Rattle.repo_laws.proofs.HoldingBlobs.{counts-named, named-counts}
use Rattle.repo_laws.proofs.Keeping.{keeps-sound}
use Rattle.repo_laws.proofs.Purges.{expires-all}
use Rattle.repo_laws.proofs.Turns.{unlent-has}
use Rattle.repo_laws.proofs.Lists.{among-has}
use Rattle.repo_laws.proofs.Untouched.{cleared, collects, given-gone, gone-kept}
use Rattle.row_tables.specs.Crashing.{HasCollected}
use Rattle.row_tables.specs.Crashes.{Rests, Unsettled}
use Rattle.crash_laws.specs.Found.{NamesNone}
use Rattle.crash_laws.specs.Runs.{FindsAlways, IsLeftBySome, CrashesAlong, tables_after}
use Rattle.crash_laws.specs.Crashes.{IsLeft, Pends, fails, stays, undone}
use Rattle.crash_laws.proofs.Fronts.{is-front, legal-front}
use Rattle.crash_laws.proofs.RunLaws.{finds-more, runs-find}
use Rattle.crash_laws.proofs.Spared.{none-named}

-- where a forgetting comes last, it records nothing
recorded-on : (es : List Effect) (blobs : List ℕ) → recorded (es ++ forgets blobs ∷ []) ≡ recorded es
recorded-on [] blobs = refl
recorded-on (e ∷ es) blobs = ap (λ (items : List Item). items_of e ++ items) (recorded-on es blobs)

module _ (grace now n : ℕ) where
  -- a number that stands nowhere and that no row names is named by none after an effect
  names-item : (s : State) (t : Tables) → places_of s n ≡ 0 → named_in t n ≡ 0 → (e : Effect) → May grace now s e → named_in (with_items t (items_of e)) n ≡ 0
  names-item s t nowhere none (creates repo path blob moment) may =
      omega (
        arith,
        none,
        nowhere,
        given-up n blob.number s.yard.drafts may.2,
        count-with_recorded (λ (r : RecordedRow). r.row.blob.number == n) (recorded_row repo path blob.number (recorded_print blob.print) moment) t.hosted,
      )
  names-item s t nowhere none (delivers m repo path blob moment) may =
      let (one, at_now, there, found, is, free) = may in
      omega (
        arith,
        none,
        nowhere,
        staged-counted n (is_open_at m) (without_staged path) (one_if (blob.number == n)) 0 s.sessions one found
            (omega (arith, found-goes (stages_it n) (is_staged path) one.staged (record { path = path; blob = blob }) is)),
        count-with_recorded (λ (r : RecordedRow). r.row.blob.number == n) (recorded_row repo path blob.number (recorded_print blob.print) moment) t.hosted,
      )
  names-item s t nowhere none (caches id path blob moment) may =
      omega (
        arith,
        none,
        nowhere,
        given-up n blob.number s.yard.drafts may.2,
        count-with_recorded (λ (r : RecordedRow). r.row.blob.number == n) (recorded_row id path blob.number (recorded_print blob.print) moment) t.cached,
      )
  names-item s t nowhere none (relists repo path moment) may =
      omega (arith, none, count-same (λ (r : RecordedRow). r.row.blob.number == n) (is_recorded repo path) (λ r. record r { row = list_again moment r.row }) (λ r. refl) t.hosted)
  names-item s t nowhere none (fades repo path moment) may =
      omega (arith, none, count-same (λ (r : RecordedRow). r.row.blob.number == n) (is_recorded repo path) (λ r. record r { row = fade moment r.row }) (λ r. refl) t.hosted)
  names-item s t nowhere none (expires repo path blob) may =
      omega (arith, none, count-filter (λ (r : RecordedRow). r.row.blob.number == n) (λ r. not (is_recorded repo path r)) t.hosted)
  names-item s t nowhere none effect may = none

  pub names-items : (es : List Effect) (s : State) (t : Tables) → AllMay grace now s es → IsGone n s → named_in t n ≡ 0 → named_in (with_items t (recorded es)) n ≡ 0
  names-items [] s t all gone none = none
  names-items (e ∷ es) s t all gone none =
      subst (λ (u : Tables). named_in u n ≡ 0) (sym (fold-append item_on t (items_of e) (recorded es)))
      (names-items es (with_effect s e) (with_items t (items_of e)) all.1 (gone-kept grace now s e n all.0 gone) (names-item s t gone.1 none e all.0))

module _ (settings : Settings) (apart : AreNamedApart settings.hosted) (n : ℕ) where
  -- so it is after entries
  names-none : (entries : List Entry) (s : State) (t : Tables) → Sound settings s → Legal settings s entries → IsGone n s → named_in t n ≡ 0
      → named_in (with_items t (told settings s entries)) n ≡ 0
  names-none [] s t sound legal gone none = none
  names-none (e ∷ entries) s t sound legal gone none =
      let gone_then : IsGone n (after settings s e) =
      entry-keeps settings apart s e (IsGone n) legal.0 sound (λ u f _ may old. gone-kept settings.grace e.moment u f n may old) gone in
      subst (λ (u : Tables). named_in u n ≡ 0) (sym (fold-append item_on t (recorded (effects_of settings s e)) (told settings (after settings s e) entries)))
      (names-none entries (after settings s e) (tables_after settings s e t) (sound-entry settings apart s e legal.0 sound) legal.1 gone_then
      (names-items settings.grace e.moment n (effects_of settings s e) (ticked s e.moment e.faults) t (entry-may settings apart s e sound legal.0) gone none))

  module _ (s : State) (e : Entry) (t : Tables) (sound : IsSound settings s) (fits : Fits settings s e) (ordered : InOrder t) (holds : Holds t s)
      (is_collect : e.command ≡ collect) (among : is_among n (given_out collect e.reply) ≡ true) where
    abbrev expiring : List Effect
    expiring = expire_all settings.grace e.moment s.hosted

    -- a Collect records that rows go
    does : IsReply settings s e → recorded (effects_of settings s e) ≡ recorded expiring
    does (due is _) =
        let blobs : List ℕ = unlent (cleared settings apart s e).yard in
        let reply_is : e.reply ≡ collected (length expiring) blobs = is ∙ ap (λ c. (turn settings s e.moment c).reply) is_collect in
        let effects_are : effects_of settings s e ≡ expiring ++ forgets blobs ∷ [] =
        ap (λ r. if is_free r then [] else (turn settings s e.moment e.command).effects) reply_is ∙ ap (λ c. (turn settings s e.moment c).effects) is_collect in
        ap recorded effects_are ∙ recorded-on expiring blobs
    does (wants_memory is _ _) = absurd (false≢true (subst (λ r. is_among n (given_out collect r) ≡ true) is among))
    does (failed is _ _) = absurd (false≢true (subst (λ r. is_among n (given_out collect r) ≡ true) is among))

    abbrev begun : State
    begun = ticked s e.moment e.faults

    -- the tables once they are gone hold the state then
    held : Holds (with_items t (recorded expiring)) (with_effects begun expiring)
    held =
        (effects-recorded settings settings.grace e.moment expiring begun t (expires-all settings.grace e.moment begun settings apart sound.order.rules (all-apart s.hosted sound.order.rows)) (omega arith)
        (sound-ticked settings s e.moment e.faults sound.order) (one-place-ticked s e.moment e.faults sound.places) (record { below = sound.sessions.below; apart = sound.sessions.apart }) ordered
        (record {
          rows = holds.rows;
          files = holds.files;
          documents = holds.documents;
          ended = holds.ended;
          opened = holds.opened;
          next_session = holds.next_session;
          drawn = holds.drawn;
          loose = holds.loose;
          moments = omega (arith, holds.moments, moment-rises s e.moment fits.moment);
        })).2

    -- what is given out is condemned then, so that no row names it
    condemned : 0 < loose_in (with_effects begun expiring) n
    condemned =
        let (given, _, _) = collects settings apart s e n fits.reply is_collect among in
        let (garbage, _) =
        among-has (λ m. (is_among m (cleared settings apart s e).yard.condemned ≡ true) × (not (list_any (λ (l : Lease). l.blob == m) (cleared settings apart s e).yard.leases) ≡ true)) n
        (unlent (cleared settings apart s e).yard) (unlent-has (cleared settings apart s e).yard) given in
        subst (λ (u : State). 0 < loose_in u n) (sym (ticked-later e.moment e.faults expiring s))
        (omega (arith, among-counts n (cleared settings apart s e).yard.condemned garbage))

    pub unnamed : named_in (tables_after settings s e t) n ≡ 0
    unnamed =
        let there : Tables = with_items t (recorded expiring) in
        subst (λ (items : List Item). named_in (with_items t items) n ≡ 0) (sym (does fits.reply))
        (elim (nat_lt 0 (named_in there n)) as (λ b. nat_lt 0 (named_in there n) ≡ b → named_in there n ≡ 0) [
          | true ↦ λ is. absurd (omega (arith, condemned, held.loose n (counts-named n there (ltb-true 0 (named_in there n) is))))
          | false ↦ λ is. omega (arith, ltb-false 0 (named_in there n) is)
        ] refl)

-- where a Collect collected, nothing is pending after it
pub collected-settles : (settings : Settings) (s : State) (e : Entry) (expired : ℕ) (blobs : List ℕ) (old new : Option (List Item)) → e.command ≡ collect → e.reply ≡ collected expired blobs
    → Pends settings s e old new → new ≡ None
collected-settles settings s e expired blobs old new is_collect done (undone none) = none
collected-settles settings s e expired blobs old new is_collect done (stays quiet other same) =
    absurd (other (subst (λ c. HasCollected e.reply c) (sym is_collect) (subst (λ r. HasCollected r collect) (sym done) tt)))
collected-settles settings s e expired blobs old new is_collect done (fails wrong pends) = absurd (let x : store_fault ≡ collected expired blobs = sym wrong ∙ done in cc)

-- what is left after such an entry and others
pub given-out-left : (settings : Settings) (s : State) (t u : Tables) (e : Entry) (later : List Entry) (expired : ℕ) (blobs : List ℕ) → AreNamedApart settings.hosted → IsSound settings s → InOrder t
    → Holds t s → Legal settings s (e ∷ later) → e.command ≡ collect → e.reply ≡ collected expired blobs → IsLeft settings (after settings s e) (tables_after settings s e t) later u → NamesNone blobs u
given-out-left settings s t u e later expired blobs apart sound ordered holds legal is_collect done left =
    none-named blobs u (λ n among.
    let next : State = after settings s e in
    let there : Tables = tables_after settings s e t in
    let given : is_among n (given_out collect e.reply) ≡ true = subst (λ r. is_among n (given_out collect r) ≡ true) (sym done) among in
    let gone = given-gone settings apart s e n sound.order sound.places legal.0 (subst (λ c. is_among n (given_out c e.reply) ≡ true) (sym is_collect) given) in
    let front = is-front settings next there u later legal.1 left in
    let none : named_in u n ≡ 0 =
    subst (λ (x : Tables). named_in x n ≡ 0) (sym front.left)
    (names-none settings apart n front.history next there (keeps-sound settings apart s e sound legal.0).order front.legal gone (unnamed settings apart n s e t sound legal.0 ordered holds is_collect given)) in
    false_from_ne_true (names_blob n u) (λ named. omega (arith, none, named-counts n u named)))

pub given-out-unnamed : (settings : Settings) (s : State) (t : Tables) (e : Entry) (later : List Entry) (old a b : Unsettled) (expired : ℕ) (blobs : List ℕ) → AreNamedApart settings.hosted → IsSound settings s → InOrder t
    → Holds t s → Legal settings s (e ∷ later) → e.command ≡ collect → e.reply ≡ collected expired blobs → CrashesAlong settings s t (e ∷ []) old a
    → CrashesAlong settings (after settings s e) (tables_after settings s e t) later a b → FindsAlways (NamesNone blobs) a.trace b.trace
given-out-unnamed settings s t e later old a b expired blobs apart sound ordered holds legal is_collect done (mid, did, last) runs =
    let next : State = after settings s e in
    let there : Tables = tables_after settings s e t in
    let rests : Rests (Some there) a = subst (Rests (Some there)) (sym last) did.rests in
    let quiet : a.pending ≡ None = ap (λ (w : Unsettled). w.pending) last ∙ collected-settles settings s e expired blobs old.pending mid.pending is_collect done did.pends in
    finds-more (IsLeftBySome settings next there later) (NamesNone blobs) a.trace b.trace
    (λ u so.
    given-out-left settings s t u e so.0 expired blobs apart sound ordered holds (legal.0, legal-front settings so.0 so.1 next (subst (Legal settings next) so.2 legal.1)) is_collect done so.3)
    (runs-find settings next there later a b quiet rests runs)
