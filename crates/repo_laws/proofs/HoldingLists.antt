-- Lists of which some are changed, are taken away or come in: what is found then, and what all have.
use native.Mathlib.Omega.{arith}
use Rattle.std.proofs.Common.{◌≡◌, ◌≤◌, ℕ, Bool, true, false, not, cond, ◌||◌, max, List, [], ◌∷◌, ◌++◌, map, Option, Some, None, refl, sym, ◌∙◌, ap, option_map}
use Rattle.std.specs.Prelude.{filter, find, fold, is_some}
use Rattle.std.specs.Option.{option_and_then, option_or}
use Rattle.std.specs.List.{AllByRecursion, list_any, flat_map}
use Rattle.std.proofs.lemmas.Bool.{false≢true, or_left, or_right}
use Rattle.std.proofs.lemmas.Option.{none-some}
use Rattle.repo_model.specs.State.{change_where, change_first}
use Rattle.repo_laws.specs.Laws.{AreApartBy}

module _ {X : Type 0} where
  -- what is found, after those that pass the test were changed and pass it still
  pub find-changed : (q : X → Bool) (f : X → X) → ((x : X) → q (f x) ≡ q x) → (xs : List X) → find q (change_where q f xs) ≡ option_map f (find q xs)
  find-changed q f keeps [] = refl
  find-changed q f keeps (x ∷ xs) =
      elim (q x)
      as (λ b. q x ≡ b → cond (q (cond b (f x) x)) (Some (cond b (f x) x)) (find q (change_where q f xs)) ≡ option_map f (cond b (Some x) (find q xs))) [
        | true ↦ λ is. rw (keeps x ∙ is) refl
        | false ↦ λ is. rw is (find-changed q f keeps xs)
      ] refl

  -- another test finds what it found
  pub find-change-elsewhere : (p q : X → Bool) (f : X → X) → ((x : X) → q x ≡ true → p x ≡ false) → ((x : X) → p (f x) ≡ p x) → (xs : List X) → find p (change_where q f xs) ≡ find p xs
  find-change-elsewhere p q f other keeps [] = refl
  find-change-elsewhere p q f other keeps (x ∷ xs) =
      let rest = find-change-elsewhere p q f other keeps xs in
      elim (q x)
      as (λ b. q x ≡ b → cond (p (cond b (f x) x)) (Some (cond b (f x) x)) (find p (change_where q f xs)) ≡ cond (p x) (Some x) (find p xs)) [
        | true ↦ λ is. rw (keeps x, other x is) rest
        | false ↦ λ is. ap (λ found. cond (p x) (Some x) found) rest
      ] refl

  pub find-gone : (q : X → Bool) (xs : List X) → find q (filter (λ x. not (q x)) xs) ≡ None
  find-gone q [] = refl
  find-gone q (x ∷ xs) =
      let gone : X → Bool = λ y. not (q y) in
      elim (q x) as (λ b. q x ≡ b → find q (cond (not b) (x ∷ filter gone xs) (filter gone xs)) ≡ None) [
        | true ↦ λ is. find-gone q xs
        | false ↦ λ is. rw is (find-gone q xs)
      ] refl

  pub find-gone-elsewhere : (p q : X → Bool) → ((x : X) → q x ≡ true → p x ≡ false) → (xs : List X) → find p (filter (λ x. not (q x)) xs) ≡ find p xs
  find-gone-elsewhere p q other [] = refl
  find-gone-elsewhere p q other (x ∷ xs) =
      let gone : X → Bool = λ y. not (q y) in
      let rest = find-gone-elsewhere p q other xs in
      elim (q x) as (λ b. q x ≡ b → find p (cond (not b) (x ∷ filter gone xs) (filter gone xs)) ≡ cond (p x) (Some x) (find p xs)) [
        | true ↦ λ is. rw (other x is) rest
        | false ↦ λ is. ap (λ found. cond (p x) (Some x) found) rest
      ] refl

  -- the first that passes a test was changed
  pub find-first-elsewhere : (p q : X → Bool) (f : X → X) → ((x : X) → q x ≡ true → p x ≡ false) → ((x : X) → p (f x) ≡ p x) → (xs : List X) → find p (change_first q f xs) ≡ find p xs
  find-first-elsewhere p q f other keeps [] = refl
  find-first-elsewhere p q f other keeps (x ∷ xs) =
      elim (q x)
      as (λ b. q x ≡ b → find p (cond b (f x ∷ xs) (x ∷ change_first q f xs)) ≡ cond (p x) (Some x) (find p xs)) [
        | true ↦ λ is. rw (keeps x, other x is) refl
        | false ↦ λ is. ap (λ found. cond (p x) (Some x) found) (find-first-elsewhere p q f other keeps xs)
      ] refl

  pub any-first : (p q : X → Bool) (f : X → X) → ((x : X) → p (f x) ≡ p x) → (xs : List X) → list_any p (change_first q f xs) ≡ list_any p xs
  any-first p q f keeps [] = refl
  any-first p q f keeps (x ∷ xs) =
      elim (q x) as (λ b. list_any p (cond b (f x ∷ xs) (x ∷ change_first q f xs)) ≡ (p x || list_any p xs)) [
        | true ↦ ap (λ b. b || list_any p xs) (keeps x)
        | false ↦ ap (λ b. p x || b) (any-first p q f keeps xs)
      ]

  pub any-first-elsewhere : (p q : X → Bool) (f : X → X) → ((x : X) → q x ≡ true → p x ≡ false) → ((x : X) → q x ≡ true → p (f x) ≡ false) → (xs : List X) → list_any p (change_first q f xs) ≡ list_any p xs
  any-first-elsewhere p q f other then [] = refl
  any-first-elsewhere p q f other then (x ∷ xs) =
      elim (q x) as (λ b. q x ≡ b → list_any p (cond b (f x ∷ xs) (x ∷ change_first q f xs)) ≡ (p x || list_any p xs)) [
        | true ↦ λ is. rw (then x is, other x is) refl
        | false ↦ λ is. ap (λ b. p x || b) (any-first-elsewhere p q f other then xs)
      ] refl

  -- what is found by the test itself
  pub find-first : (q : X → Bool) (f : X → X) → ((x : X) → q (f x) ≡ q x) → (xs : List X) → find q (change_first q f xs) ≡ option_map f (find q xs)
  find-first q f keeps [] = refl
  find-first q f keeps (x ∷ xs) =
      elim (q x)
      as (λ b. q x ≡ b → find q (cond b (f x ∷ xs) (x ∷ change_first q f xs)) ≡ option_map f (cond b (Some x) (find q xs))) [
        | true ↦ λ is. rw (keeps x ∙ is) refl
        | false ↦ λ is. rw is (find-first q f keeps xs)
      ] refl

  -- what is read of what is found, where no change touches it
  pub find-part : {Y : Type 0} (g : Option X → Y) (p q : X → Bool) (f : X → X) → ((x : X) → p (f x) ≡ p x) → ((x : X) → g (Some (f x)) ≡ g (Some x)) → (xs : List X)
      → g (find p (change_first q f xs)) ≡ g (find p xs)
  find-part g p q f keeps same [] = refl
  find-part g p q f keeps same (x ∷ xs) =
      elim (q x)
      as (λ b. g (find p (cond b (f x ∷ xs) (x ∷ change_first q f xs))) ≡ g (find p (x ∷ xs))) [
        | true ↦ rw (keeps x) (elim (p x) as (λ b. g (cond b (Some (f x)) (find p xs)) ≡ g (cond b (Some x) (find p xs))) [ true ↦ same x | false ↦ refl ])
        | false ↦ elim (p x) as (λ b. g (cond b (Some x) (find p (change_first q f xs))) ≡ g (cond b (Some x) (find p xs))) [
          | true ↦ refl
          | false ↦ find-part g p q f keeps same xs
        ]
      ]

  -- one more at the end, which has no such part
  pub part-push : {Y : Type 0} (h : X → Option Y) (found : Option X) (b : Bool) (x : X) → h x ≡ None → option_and_then h (option_or found (cond b (Some x) None)) ≡ option_and_then h found
  part-push h (Some y) b x none = refl
  part-push h None true x none = none
  part-push h None false x none = refl

  pub none-any : (p : X → Bool) (xs : List X) → AllByRecursion (λ x. p x ≡ false) xs → find p xs ≡ None
  none-any p [] none = refl
  none-any p (x ∷ xs) none = rw none.0 (none-any p xs none.1)

  pub none-found : (p : X → Bool) (xs : List X) → find p xs ≡ None → AllByRecursion (λ x. p x ≡ false) xs
  none-found p [] none = tt
  none-found p (x ∷ xs) none =
      elim (p x) as (λ b. p x ≡ b → cond b (Some x) (find p xs) ≡ None → AllByRecursion (λ y. p y ≡ false) (x ∷ xs)) [
        | true ↦ λ _ found. absurd (none-some x (sym found))
        | false ↦ λ is rest. (is, none-found p xs rest)
      ] refl none

  -- one passes a test where one is found
  pub unfound-any : (p : X → Bool) (xs : List X) → find p xs ≡ None → list_any p xs ≡ false
  unfound-any p [] none = refl
  unfound-any p (x ∷ xs) none =
      elim (p x) as (λ b. cond b (Some x) (find p xs) ≡ None → (b || list_any p xs) ≡ false) [ true ↦ λ found. absurd (none-some x (sym found)) | false ↦ λ rest. unfound-any p xs rest ] none

  pub found-any : (p : X → Bool) (xs : List X) (one : X) → find p xs ≡ Some one → list_any p xs ≡ true
  found-any p [] one found = absurd (none-some one found)
  found-any p (x ∷ xs) one found =
      elim (p x) as (λ b. cond b (Some x) (find p xs) ≡ Some one → (b || list_any p xs) ≡ true) [ true ↦ λ _. refl | false ↦ λ later. found-any p xs one later ] found

  pub any-none : (p : X → Bool) (xs : List X) → list_any p xs ≡ false → find p xs ≡ None
  any-none p [] none = refl
  any-none p (x ∷ xs) none =
      elim (p x) as (λ b. (b || list_any p xs) ≡ false → cond b (Some x) (find p xs) ≡ None) [ true ↦ λ is. absurd (false≢true (sym is)) | false ↦ λ later. any-none p xs later ] none

  -- one that passes, with what all have
  pub any-one : (P : X → Type 0) (p : X → Bool) (xs : List X) → AllByRecursion P xs → list_any p xs ≡ true → (x : X) × (p x ≡ true) × P x
  any-one P p [] all any = absurd (false≢true any)
  any-one P p (x ∷ xs) all any =
      elim (p x) as (λ b. p x ≡ b → (b || list_any p xs) ≡ true → (y : X) × (p y ≡ true) × P y) [ true ↦ λ is _. (x, is, all.0) | false ↦ λ _ later. any-one P p xs all.1 later ] refl any

  -- a filter that it passes keeps it
  pub any-kept : (p q : X → Bool) → ((x : X) → p x ≡ true → q x ≡ true) → (xs : List X) → list_any p xs ≡ true → list_any p (filter q xs) ≡ true
  any-kept p q keeps [] any = any
  any-kept p q keeps (x ∷ xs) any =
      elim (p x) as (λ b. p x ≡ b → (b || list_any p xs) ≡ true → list_any p (cond (q x) (x ∷ filter q xs) (filter q xs)) ≡ true) [
        | true ↦ λ here _. rw (keeps x here) (or_left (p x) (list_any p (filter q xs)) here)
        | false ↦ λ _ later.
            let rest = any-kept p q keeps xs later in
            elim (q x) as (λ b. list_any p (cond b (x ∷ filter q xs) (filter q xs)) ≡ true) [ true ↦ or_right (p x) (list_any p (filter q xs)) rest | false ↦ rest ]
      ] refl any

  -- what passes no test before a filter, passes none after it
  pub none-filter : (p q : X → Bool) (xs : List X) → find p xs ≡ None → find p (filter q xs) ≡ None
  none-filter p q [] none = refl
  none-filter p q (x ∷ xs) none =
      elim (p x) as (λ b. p x ≡ b → cond b (Some x) (find p xs) ≡ None → find p (filter q (x ∷ xs)) ≡ None) [
        | true ↦ λ is found. absurd (none-some x (sym found))
        | false ↦ λ is rest.
            elim (q x) as (λ b. find p (cond b (x ∷ filter q xs) (filter q xs)) ≡ None) [ true ↦ rw is (none-filter p q xs rest) | false ↦ none-filter p q xs rest ]
      ] refl none

  pub any-filter : (p q : X → Bool) (xs : List X) → list_any p xs ≡ false → list_any p (filter q xs) ≡ false
  any-filter p q xs none = unfound-any p (filter q xs) (none-filter p q xs (any-none p xs none))

  pub filter-apart : (same : X → X → Bool) (q : X → Bool) (xs : List X) → AreApartBy same xs → AreApartBy same (filter q xs)
  filter-apart same q [] apart = tt
  filter-apart same q (x ∷ xs) apart =
      elim (q x) as (λ b. AreApartBy same (cond b (x ∷ filter q xs) (filter q xs))) [
        | true ↦ (none-filter (same x) q xs apart.0, filter-apart same q xs apart.1)
        | false ↦ filter-apart same q xs apart.1
      ]

  -- what all have
  pub all-change_where : (P : X → Type 0) (q : X → Bool) (f : X → X) → ((x : X) → P x → P (f x)) → (xs : List X) → AllByRecursion P xs → AllByRecursion P (change_where q f xs)
  all-change_where P q f keeps [] all = tt
  all-change_where P q f keeps (x ∷ xs) all =
      (elim (q x) as (λ b. P (cond b (f x) x)) [ true ↦ keeps x all.0 | false ↦ all.0 ], all-change_where P q f keeps xs all.1)

  pub all-change_first : (P : X → Type 0) (q : X → Bool) (f : X → X) → ((x : X) → P x → P (f x)) → (xs : List X) → AllByRecursion P xs → AllByRecursion P (change_first q f xs)
  all-change_first P q f keeps [] all = tt
  all-change_first P q f keeps (x ∷ xs) all =
      elim (q x) as (λ b. AllByRecursion P (cond b (f x ∷ xs) (x ∷ change_first q f xs))) [
        | true ↦ (keeps x all.0, all.1)
        | false ↦ (all.0, all-change_first P q f keeps xs all.1)
      ]

  pub all-filter : (P : X → Type 0) (q : X → Bool) (xs : List X) → AllByRecursion P xs → AllByRecursion P (filter q xs)
  all-filter P q [] all = tt
  all-filter P q (x ∷ xs) all =
      elim (q x) as (λ b. AllByRecursion P (cond b (x ∷ filter q xs) (filter q xs))) [ true ↦ (all.0, all-filter P q xs all.1) | false ↦ all-filter P q xs all.1 ]

  pub all-push : (P : X → Type 0) (xs : List X) (x : X) → AllByRecursion P xs → P x → AllByRecursion P (xs ++ x ∷ [])
  all-push P [] x all new = (new, tt)
  all-push P (y ∷ xs) x all new = (all.0, all-push P xs x all.1 new)

  pub all-split : (P : X → Type 0) (xs ys : List X) → AllByRecursion P (xs ++ ys) → AllByRecursion P xs × AllByRecursion P ys
  all-split P [] ys all = (tt, all)
  all-split P (x ∷ xs) ys all = let (here, then) = all-split P xs ys all.1 in ((all.0, here), then)

  pub all-join : (P : X → Type 0) (xs ys : List X) → AllByRecursion P xs → AllByRecursion P ys → AllByRecursion P (xs ++ ys)
  all-join P [] ys all more = more
  all-join P (x ∷ xs) ys all more = (all.0, all-join P xs ys all.1 more)

  pub all-so : (P : X → Type 0) → ((x : X) → P x) → (xs : List X) → AllByRecursion P xs
  all-so P so [] = tt
  all-so P so (x ∷ xs) = (so x, all-so P so xs)

  -- the greatest of some numbers is at most a bound exactly where all are
  pub greatest-below : (h : X → ℕ) (most : ℕ) (xs : List X) (start : ℕ) → fold (λ m x. max m (h x)) start xs ≤ most → (start ≤ most) × AllByRecursion (λ x. h x ≤ most) xs
  greatest-below h most [] start up = (up, tt)
  greatest-below h most (x ∷ xs) start up =
      let (both, rest) = greatest-below h most xs (max start (h x)) up in
      (omega (arith, both), (omega (arith, both), rest))

  pub all-greatest : (h : X → ℕ) (most : ℕ) (xs : List X) (start : ℕ) → start ≤ most → AllByRecursion (λ x. h x ≤ most) xs → fold (λ m x. max m (h x)) start xs ≤ most
  all-greatest h most [] start up all = up
  all-greatest h most (x ∷ xs) start up all = all-greatest h most xs (max start (h x)) (omega (arith, up, all.0)) all.1

  pub greatest-same : (h : X → ℕ) (q : X → Bool) (f : X → X) → ((x : X) → h (f x) ≡ h x) → (xs : List X) (start : ℕ)
      → fold (λ m x. max m (h x)) start (change_where q f xs) ≡ fold (λ m x. max m (h x)) start xs
  greatest-same h q f keeps [] start = refl
  greatest-same h q f keeps (x ∷ xs) start =
      let here : h (cond (q x) (f x) x) ≡ h x = elim (q x) as (λ b. h (cond b (f x) x) ≡ h x) [ true ↦ keeps x | false ↦ refl ] in
      ap (λ m. fold (λ k y. max k (h y)) (max start m) (change_where q f xs)) here ∙ greatest-same h q f keeps xs (max start (h x))

module _ {X Y : Type 0} (f : X → Y) where
  -- what is made of each
  pub all-map : (P : Y → Type 0) → ((x : X) → P (f x)) → (xs : List X) → AllByRecursion P (map f xs)
  all-map P so [] = tt
  all-map P so (x ∷ xs) = (so x, all-map P so xs)

  pub all-of-map : (P : Y → Type 0) (xs : List X) → AllByRecursion P (map f xs) → AllByRecursion (λ x. P (f x)) xs
  all-of-map P [] all = tt
  all-of-map P (x ∷ xs) all = (all.0, all-of-map P xs all.1)

  pub map-undone : (g : Y → X) → ((x : X) → g (f x) ≡ x) → (xs : List X) → map g (map f xs) ≡ xs
  map-undone g back [] = refl
  map-undone g back (x ∷ xs) = ap (λ y. y ∷ map g (map f xs)) (back x) ∙ ap (λ rest. x ∷ rest) (map-undone g back xs)

  pub map-first : (q : X → Bool) (g : X → X) → ((x : X) → f (g x) ≡ f x) → (xs : List X) → map f (change_first q g xs) ≡ map f xs
  map-first q g same [] = refl
  map-first q g same (x ∷ xs) =
      elim (q x) as (λ b. map f (cond b (g x ∷ xs) (x ∷ change_first q g xs)) ≡ map f (x ∷ xs)) [
        | true ↦ ap (λ y. y ∷ map f xs) (same x)
        | false ↦ ap (λ rest. f x ∷ rest) (map-first q g same xs)
      ]

  pub any-mapped : (q : Y → Bool) (xs : List X) → list_any (λ x. q (f x)) xs ≡ is_some (find q (map f xs))
  any-mapped q [] = refl
  any-mapped q (x ∷ xs) =
      elim (q (f x)) as (λ b. (b || list_any (λ y. q (f y)) xs) ≡ is_some (cond b (Some (f x)) (find q (map f xs)))) [ true ↦ refl | false ↦ any-mapped q xs ]

pub all-flat : {X Y : Type 0} (P : Y → Type 0) (f : X → List Y) → ((x : X) → AllByRecursion P (f x)) → (xs : List X) → AllByRecursion P (flat_map f xs)
all-flat P f so [] = tt
all-flat P f so (x ∷ xs) = all-join P (f x) (flat_map f xs) (so x) (all-flat P f so xs)
