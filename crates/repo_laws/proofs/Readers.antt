-- Who was answered a file can read it until the lease is given back.
use Rattle.std.proofs.Common.{◌≡◌, ℕ, Bool, true, false, not, ◌&&◌, ◌||◌, List, [], ◌∷◌, refl, sym, ◌∙◌, ap, subst, eqb-true}
use Rattle.std.specs.Prelude.{◌==◌, if◌then◌else◌}
use Rattle.std.specs.List.{AllByRecursion, list_any}
use Rattle.std.proofs.lemmas.Bool.{false≢true, and_parts, and_from, or_left, or_right, eq-eqb, ne_eqb, not-true, false_from_ne_true}
use Rattle.std.proofs.lemmas.List.Folds.{list_any-append}
use Rattle.repo_model.specs.Data.{Blob, Hosted}
use Rattle.repo_model.specs.Settings.{Settings}
use Rattle.repo_model.specs.State.{State, Lease, is_among}
use Rattle.repo_model.specs.Effect.{Effect, lends, returns, with_effect, with_effects}
use Rattle.repo_model.specs.Command.{Command, done, collect}
use Rattle.repo_model.specs.Reply.{file, is_free}
use Rattle.repo_model.specs.Purge.{expire_all}
use Rattle.repo_model.specs.Turn.{Turn, turn, unlent}
use Rattle.repo_model.specs.History.{Entry, Fits, ticked, after, Legal}
use Rattle.repo_laws.specs.Sound.{AreNamedApart}
use Rattle.repo_laws.specs.Closed.{given_out, IsLentAs, ReadsOn, ReadersLast}
use Rattle.repo_laws.proofs.Making.{expired-all, is_common, turn-makes}
use Rattle.repo_laws.proofs.Turns.{unlent-has}
use Rattle.repo_laws.proofs.Answered.{reply-determined, state-determined, lease-given_back}
use Rattle.repo_laws.proofs.Cases.{Case, lends_file, turn-case}
use Rattle.repo_laws.proofs.Counts.{count-none}
use Rattle.repo_laws.proofs.HoldingLists.{any-kept, any-one}
use Rattle.repo_laws.proofs.Lists.{all-among, among-has}
use Rattle.repo_laws.specs.Laws.{leases_of}
use Rattle.repo_laws.proofs.Untouched.{only-collect, collects, cleared}

module _ (lease : ℕ) where
  abbrev gives_back : Effect → Bool
  gives_back (returns l) = l == lease
  gives_back effect = false

  -- no effect of these gives the lease back
  abbrev Quiet : List Effect → Type 0
  Quiet es = AllByRecursion (λ e. gives_back e ≡ false) es

  most-quiet : (e : Effect) → is_common e ≡ true → gives_back e ≡ false
  most-quiet (returns l) is = absurd (false≢true is)
  most-quiet e is = refl

  expire-quiet : (grace now : ℕ) (hosted : List Hosted) → Quiet (expire_all grace now hosted)
  expire-quiet = expired-all (λ e. gives_back e ≡ false) (λ repo path blob. refl)

  -- only Done of this lease gives it back
  turn-quiet : (settings : Settings) (s : State) (now : ℕ) (c : Command) → (c ≡ done lease → ⊥) → Quiet (turn settings s now c).effects
  turn-quiet settings s now c other =
      turn-makes (λ e. gives_back e ≡ false) most-quiet settings s now c (λ l is. ne_eqb l lease (λ same. other (is ∙ ap done same))) (λ blobs is. refl) (λ plan blob is. refl)

module _ (lease n : ℕ) where
  abbrev is_it : Lease → Bool
  is_it l = (l.number == lease) && (l.blob == n)

  lent-then : (s : State) (e : Effect) → gives_back lease e ≡ false → IsLentAs lease n s → IsLentAs lease n (with_effect s e)
  lent-then s (lends blob) quiet lent =
      let new : List Lease = record { number = s.yard.next_lease; blob = blob } ∷ [] in
      list_any-append is_it s.yard.leases new ∙ or_left (list_any is_it s.yard.leases) (list_any is_it new) lent
  lent-then s (returns l) quiet lent =
      any-kept is_it (λ x. not (x.number == l))
      (λ x is.
      let at : x.number ≡ lease = eqb-true x.number lease (and_parts (x.number == lease) (x.blob == n) is).0 in
      ap not (ne_eqb x.number l (λ same. false≢true (sym quiet ∙ eq-eqb l lease (sym same ∙ at)))))
      s.yard.leases lent
  lent-then s e quiet lent = lent

  lent-through : (es : List Effect) (s : State) → Quiet lease es → IsLentAs lease n s → IsLentAs lease n (with_effects s es)
  lent-through [] s quiet lent = lent
  lent-through (e ∷ es) s quiet lent = lent-through es (with_effect s e) quiet.1 (lent-then s e quiet.0 lent)

  pub lent-entry : (settings : Settings) (s : State) (e : Entry) → (e.command ≡ done lease → ⊥) → IsLentAs lease n s → IsLentAs lease n (after settings s e)
  lent-entry settings s e other lent =
      elim (is_free e.reply) as (λ b. IsLentAs lease n (with_effects (ticked s e.moment e.faults) (if b then [] else (turn settings s e.moment e.command).effects))) [
        | true ↦ lent
        | false ↦ lent-through (turn settings s e.moment e.command).effects (ticked s e.moment e.faults) (turn-quiet lease settings s e.moment e.command other) lent
      ]

  module _ (settings : Settings) (apart : AreNamedApart settings.hosted) where
    not-given : (s : State) (e : Entry) → Fits settings s e → IsLentAs lease n s → is_among n (given_out e.command e.reply) ≡ false
    not-given s e fits lent =
        false_from_ne_true (is_among n (given_out e.command e.reply))
        (λ among.
        let is_collect : e.command ≡ collect = only-collect n e.command e.reply among in
        let t : State = cleared settings apart s e in
        let (given, _, _) = collects settings apart s e n fits.reply is_collect (subst (λ c. is_among n (given_out c e.reply) ≡ true) is_collect among) in
        let (_, unleased) = among-has (λ m. (is_among m t.yard.condemned ≡ true) × (not (list_any (λ (l : Lease). l.blob == m) t.yard.leases) ≡ true)) n (unlent t.yard) (unlent-has t.yard) given in
        let lent_then : IsLentAs lease n t = lent-through (expire_all settings.grace e.moment s.hosted) s (expire-quiet lease settings.grace e.moment s.hosted) lent in
        let borrowed : list_any (λ (l : Lease). l.blob == n) t.yard.leases ≡ true =
        let (l, is, among_so) = any-one (λ (x : Lease). list_any (λ (y : Lease). y.blob == x.blob) t.yard.leases ≡ true) is_it t.yard.leases (all-among (λ (x : Lease). x.blob) t.yard.leases) lent_then in
        subst (λ (k : ℕ). list_any (λ (x : Lease). x.blob == k) t.yard.leases ≡ true) (eqb-true l.blob n (and_parts (l.number == lease) (l.blob == n) is).1) among_so in
        false≢true (sym (ap not borrowed) ∙ unleased))

    reads-on : (entries : List Entry) (s : State) → Legal settings s entries → IsLentAs lease n s → ReadsOn lease n settings s entries
    reads-on [] s legal lent = lent
    reads-on (e ∷ entries) s legal lent = (lent, not-given s e legal.0 lent, (λ other. reads-on entries (after settings s e) legal.1 (lent-entry settings s e other lent)))

-- a file is answered with a lease on its blob
case-lent : (settings : Settings) (s : State) (now lease : ℕ) (blob : Blob) (c : Command) (t : Turn) → Case settings s now c t → t.reply ≡ file lease blob
    → (s.yard.next_lease ≡ lease) × (t.effects ≡ lends blob.number ∷ [])
case-lent settings s now lease blob c t (lends_file repo path tried b more is) answered =
    let one : file s.yard.next_lease b ≡ file lease blob = answered in
    let lease_is : s.yard.next_lease ≡ lease = cc in
    let blob_is : b ≡ blob = cc in
    (lease_is, ap (λ (x : Blob). lends x.number ∷ []) blob_is)
case-lent settings s now lease blob c t case answered = absurd (cc)

pub answered-lent : (settings : Settings) (s : State) (e : Entry) (lease : ℕ) (blob : Blob) → Fits settings s e → e.reply ≡ file lease blob → IsLentAs lease blob.number (after settings s e)
answered-lent settings s e lease blob fits says_it =
    let bound : is_free e.reply ≡ false = ap is_free says_it in
    let next = s.yard.next_lease in
    let (lease_is, lends_it) = case-lent settings s e.moment lease blob e.command (turn settings s e.moment e.command) (turn-case settings s e.moment e.command)
    (sym (reply-determined settings s e fits bound) ∙ says_it) in
    subst (λ t. IsLentAs lease blob.number t) (sym (state-determined settings s e bound))
    (subst (λ es. IsLentAs lease blob.number (with_effects (ticked s e.moment e.faults) es)) (sym lends_it)
    (list_any-append (is_it lease blob.number) s.yard.leases (record { number = next; blob = blob.number } ∷ [])
    ∙ or_right (list_any (is_it lease blob.number) s.yard.leases) (((next == lease) && (blob.number == blob.number)) || false)
    (or_left ((next == lease) && (blob.number == blob.number)) false (and_from (next == lease) (blob.number == blob.number) (eq-eqb next lease lease_is) (eq-eqb blob.number blob.number refl)))))

module _ (settings : Settings) (apart : AreNamedApart settings.hosted) where
  pub readers-last : (entries : List Entry) (s : State) → Legal settings s entries → ReadersLast settings s entries
  readers-last [] s legal = tt
  readers-last (e ∷ entries) s legal = (
    (λ repo path tried lease blob looks says_it.
        reads-on lease blob.number settings apart entries (after settings s e) legal.1 (answered-lent settings s e lease blob legal.0 says_it)),
    readers-last entries (after settings s e) legal.1,
  )

pub none-lent : (settings : Settings) (s : State) (e : Entry) (lease : ℕ) → Fits settings s e → e.command ≡ done lease → leases_of (after settings s e) lease ≡ 0
none-lent settings s e lease fits is =
    ap (λ (t : State). leases_of t lease) (state-determined settings s e (ap is_free (lease-given_back settings s e lease fits is)))
    ∙ ap (λ c. leases_of (with_effects (ticked s e.moment e.faults) (turn settings s e.moment c).effects) lease) is
    ∙ count-none (λ (l : Lease). l.number == lease) (λ (l : Lease). not (l.number == lease)) (λ l. not-true (l.number == lease)) s.yard.leases
