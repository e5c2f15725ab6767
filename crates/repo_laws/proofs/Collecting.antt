-- A Collect gives out the first of the garbage that nobody has borrowed.
use native.Mathlib.Omega.{arith}
use Rattle.std.proofs.Common.{◌≡◌, ◌≤◌, ◌<◌, ℕ, Bool, true, false, not, ◌||◌, ◌⊎◌, inl, inr, List, [], ◌∷◌, ◌++◌, length, take, zero, suc, refl, sym, ◌∙◌, ap, subst, eqb-true, length-take}
use Rattle.std.specs.Prelude.{◌==◌, nat_lt, filter, if◌then◌else◌}
use Rattle.std.specs.List.{AllByRecursion, list_any}
use Rattle.std.proofs.lemmas.Bool.{false≢true, ltb-true, ltb-false, not-true}
use Rattle.std.proofs.lemmas.List.Sums.{sum_by-take-le}
use Rattle.repo_model.specs.Settings.{Settings}
use Rattle.repo_model.specs.State.{State, Yard, Lease, is_among}
use Rattle.repo_model.specs.Effect.{Effect, forgets, with_effect, with_effects}
use Rattle.repo_model.specs.Command.{collect}
use Rattle.repo_model.specs.Reply.{collected, no_memory, store_fault, is_free}
use Rattle.repo_model.specs.Purge.{expire_all}
use Rattle.repo_model.specs.Turn.{turn, most_collected, unlent}
use Rattle.repo_model.specs.History.{Entry, IsReply, due, wants_memory, failed, Fits, effects_of, after, ticked}
use Rattle.repo_laws.specs.Laws.{count_of}
use Rattle.repo_laws.specs.Sound.{AreNamedApart, AreRising, OnePlace, IsSound}
use Rattle.repo_laws.specs.Collected.{IsUnlent, IsFirstGarbage, cleared}
use Rattle.repo_laws.proofs.ByPath.{all-apart}
use Rattle.repo_laws.proofs.Counts.{one_if, count-filter}
use Rattle.repo_laws.proofs.HoldingLists.{any-kept}
use Rattle.repo_laws.proofs.Histories.{ticked-later, with_effects-append}
use Rattle.repo_laws.proofs.Leases.{filter-rising, condemned-rising}
use Rattle.repo_laws.proofs.Lists.{all-among, all-take, among-has, filter-has}
use Rattle.repo_laws.proofs.Places.{one-place-kept}
use Rattle.repo_laws.proofs.Turns.{unlent-has}
use Rattle.repo_laws.proofs.Untouched.{cleared-keeps}

take-rising : (k : ℕ) (ns : List ℕ) → AreRising ns → AreRising (take k ns)
take-rising zero ns rising = tt
take-rising (suc k) [] rising = tt
take-rising (suc k) (n ∷ ns) rising = (all-take (λ m. n ≤ m) k ns rising.0, take-rising k ns rising.1)

-- what is taken is the first, or all
first-taken : (k n : ℕ) (ns : List ℕ) → AreRising ns → is_among n ns ≡ true → (is_among n (take k ns) ≡ true) ⊎ ((length (take k ns) ≡ k) × AllByRecursion (λ m. m ≤ n) (take k ns))
first-taken zero n ns rising among = inr (refl, tt)
first-taken (suc k) n [] rising among = absurd (false≢true among)
first-taken (suc k) n (m ∷ ns) rising among =
    elim (m == n)
    as (λ b. (m == n) ≡ b → (b || is_among n ns) ≡ true → ((b || is_among n (take k ns)) ≡ true) ⊎ ((length (m ∷ take k ns) ≡ suc k) × AllByRecursion (λ i. i ≤ n) (m ∷ take k ns))) [
      | true ↦ λ _ _. inl refl
      | false ↦ λ _ later.
          elim (first-taken k n ns rising.1 later)
          as (λ _. (is_among n (take k ns) ≡ true) ⊎ ((length (m ∷ take k ns) ≡ suc k) × AllByRecursion (λ i. i ≤ n) (m ∷ take k ns))) [
            | (inl there) ↦ inl there
            | (inr (full, below)) ↦ inr (omega (arith, full), (among-has (λ i. m ≤ i) n ns rising.0 later, below))
          ]
    ] refl among

among-filter : (q : ℕ → Bool) (n : ℕ) (ns : List ℕ) → is_among n (filter q ns) ≡ true → (is_among n ns ≡ true) × (q n ≡ true)
among-filter q n ns = among-has (λ m. (is_among m ns ≡ true) × (q m ≡ true)) n (filter q ns) (filter-has (λ m. is_among m ns ≡ true) q ns (all-among (λ m. m) ns))

module _ (yard : Yard) where
  abbrev unleased : ℕ → Bool
  unleased n = not (list_any (λ (l : Lease). l.blob == n) yard.leases)

  pub first-garbage : AreRising yard.condemned → ((n : ℕ) → count_of n yard.condemned ≤ 1) → IsFirstGarbage yard (unlent yard)
  first-garbage rising once =
      let free : List ℕ = filter unleased yard.condemned in (
        omega (arith, length-take most_collected free),
        take-rising most_collected free (filter-rising unleased yard.condemned rising),
        λ n. omega (arith, sum_by-take-le (λ (m : ℕ). one_if (m == n)) free most_collected, count-filter (λ m. m == n) unleased yard.condemned, once n),
        λ n among.
            let both = among-has (λ m. (is_among m yard.condemned ≡ true) × (unleased m ≡ true)) n (unlent yard) (unlent-has yard) among in
            (both.0, not-true (list_any (λ (l : Lease). l.blob == n) yard.leases) both.1),
        λ n unlent_so. first-taken most_collected n free (filter-rising unleased yard.condemned rising)
            (any-kept (λ m. m == n) unleased (λ m is. ap unleased (eqb-true m n is) ∙ ap not unlent_so.1) yard.condemned unlent_so.0),
      )

once-condemned : (s : State) → OnePlace s → (n : ℕ) → count_of n s.yard.condemned ≤ 1
once-condemned s placed n =
    elim (nat_lt n s.yard.next_draft) as (λ b. nat_lt n s.yard.next_draft ≡ b → count_of n s.yard.condemned ≤ 1) [
      | true ↦ λ is. omega (arith, placed.drawn n (ltb-true n s.yard.next_draft is))
      | false ↦ λ is. omega (arith, placed.later n (ltb-false n s.yard.next_draft is))
    ] refl

module _ (settings : Settings) (apart : AreNamedApart settings.hosted) (s : State) (e : Entry) (sound : IsSound settings s) (is_collect : e.command ≡ collect) where
  abbrev t : State
  t = cleared settings e.moment s

  cleared-garbage : IsFirstGarbage t.yard (unlent t.yard)
  cleared-garbage =
      first-garbage t.yard
      (cleared-keeps settings apart s e (λ u. AreRising u.yard.condemned) sound.order (λ u f _ may old. condemned-rising u f old) sound.condemned)
      (once-condemned t
      (cleared-keeps settings apart s e OnePlace sound.order (λ u f sound_then may old. one-place-kept settings.grace e.moment u f (all-apart u.hosted sound_then.rows) may old) sound.places))

  abbrev Given : ℕ → List ℕ → Type 0
  Given expired blobs = (expired ≡ length (expire_all settings.grace e.moment s.hosted)) × (blobs ≡ unlent t.yard)

  -- what is answered
  given-so : (expired : ℕ) (blobs : List ℕ) → Fits settings s e → e.reply ≡ collected expired blobs → Given expired blobs
  given-so expired blobs fits is_reply = by fits.reply where
    by : IsReply settings s e → Given expired blobs
    by (due is _) =
        let both : collected (length (expire_all settings.grace e.moment s.hosted)) (unlent t.yard) ≡ collected expired blobs =
        sym (ap (λ c. (turn settings s e.moment c).reply) is_collect) ∙ sym is ∙ is_reply in
        (let one : expired ≡ length (expire_all settings.grace e.moment s.hosted) = cc in one, let other : blobs ≡ unlent t.yard = cc in other)
    by (wants_memory is _ _) = absurd (let x : no_memory ≡ collected expired blobs = sym is ∙ is_reply in cc)
    by (failed is _ _) = absurd (let x : store_fault ≡ collected expired blobs = sym is ∙ is_reply in cc)

  pub collect-gives : (expired : ℕ) (blobs : List ℕ) → Fits settings s e → e.reply ≡ collected expired blobs → IsFirstGarbage t.yard blobs
  collect-gives expired blobs fits is_reply = subst (IsFirstGarbage t.yard) (sym (given-so expired blobs fits is_reply).1) cleared-garbage

  -- the yard after it
  yard-after : (expired : ℕ) (blobs : List ℕ) → Fits settings s e → e.reply ≡ collected expired blobs → (after settings s e).yard ≡ (with_effect t (forgets blobs)).yard
  yard-after expired blobs fits is_reply =
      let given = given-so expired blobs fits is_reply in
      let expiring : List Effect = expire_all settings.grace e.moment s.hosted in
      let effects_are : effects_of settings s e ≡ expiring ++ forgets (unlent t.yard) ∷ [] =
      ap (λ r. if is_free r then [] else (turn settings s e.moment e.command).effects) is_reply ∙ ap (λ c. (turn settings s e.moment c).effects) is_collect in
      ap (λ es. (with_effects (ticked s e.moment e.faults) es).yard) effects_are
      ∙ ap (λ (u : State). u.yard) (ticked-later e.moment e.faults (expiring ++ forgets (unlent t.yard) ∷ []) s)
      ∙ ap (λ (u : State). u.yard) (with_effects-append expiring (forgets (unlent t.yard) ∷ []) s)
      ∙ ap (λ bs. (with_effect t (forgets bs)).yard) (sym given.1)

  -- where it gives fewer than it may, all that is left is borrowed
  pub none-left : (expired : ℕ) (blobs : List ℕ) → Fits settings s e → e.reply ≡ collected expired blobs → length blobs < most_collected → (n : ℕ) → IsUnlent n (after settings s e).yard → ⊥
  none-left expired blobs fits is_reply few n unlent_then =
      let there = subst (IsUnlent n) (yard-after expired blobs fits is_reply) unlent_then in
      let both = among-filter (λ m. not (is_among m blobs)) n t.yard.condemned there.0 in
      let garbage = collect-gives expired blobs fits is_reply in
      elim (garbage.4 n (both.0, there.1)) as (λ _. ⊥) [
        | (inl given) ↦ false≢true (sym (ap not given) ∙ both.1)
        | (inr (full, _)) ↦ omega (arith, full, few)
      ]
