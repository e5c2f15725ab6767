-- The first of some items that fit, and the rest.
use native.Mathlib.Omega.{arith}
use Rattle.std.proofs.Common.{◌≡◌, ℕ, ◌≤◌, true, List, [], ◌∷◌, ◌++◌, take, drop, zero, suc, Option, Some, None, Ok, refl, sym, ap, ◌∙◌, subst}
use Rattle.std.specs.Prelude.{IfSome}
use Rattle.std.specs.List.{AllByRecursion}
use Rattle.std.specs.Option.{ForSome, option_map}
use Rattle.std.proofs.lemmas.List.{append_assoc, length-take, take-append-drop}
use Rattle.repo_model.specs.declared.item.Item.{Item}
use Rattle.repo_model.specs.Tables.{Tables, applied}
use Rattle.row_tables.specs.Applying.{with_items}
use Rattle.row_tables.specs.Items.{IsChange, are_of}
use Rattle.row_tables.specs.declared.version.Version.TheVariants.{Second}
use Rattle.row_tables.proofs.Applied.{with_items-append}
use Rattle.ordered_rows.specs.Recording.{IsShort}
use Rattle.ordered_rows.proofs.ChangeLemmas.{all-whole, change-of}
use Rattle.row_completion.proofs.Fitting.{AllFit, applied-fit, fit-applied, fit-first, fit-rest}

pub short-first : (n : ℕ) (items : List Item) → AllByRecursion IsShort items → AllByRecursion IsShort (take n items)
short-first zero items all = tt
short-first (suc n) [] all = tt
short-first (suc n) (item ∷ items) all = (all.0, short-first n items all.1)

pub short-rest : (n : ℕ) (items : List Item) → AllByRecursion IsShort items → AllByRecursion IsShort (drop n items)
short-rest zero items all = all
short-rest (suc n) [] all = tt
short-rest (suc n) (item ∷ items) all = short-rest n items all.1

pub first-change : (n : ℕ) (items : List Item) → n ≤ 1000 → AllByRecursion IsShort items → IsChange (take n items)
first-change n items few all = change-of (take n items) (short-first n items all) (omega (arith, few, length-take n items))

pub first-whole : (n : ℕ) (items : List Item) → AllByRecursion IsShort items → are_of Second (take n items) ≡ true
first-whole n items all = all-whole (take n items) (short-first n items all)

fits-split : (n : ℕ) (items : List Item) (t : Tables) → applied t items ≡ Ok (with_items t items) → AllFit t (take n items ++ drop n items)
fits-split n items t fit = subst (AllFit t) (sym (take-append-drop n items)) (applied-fit items 0 t (with_items t items) fit)

pub first-fit : (n : ℕ) (items : List Item) (t : Tables) → applied t items ≡ Ok (with_items t items) → applied t (take n items) ≡ Ok (with_items t (take n items))
first-fit n items t fit = fit-applied (take n items) 0 t (fit-first (take n items) (drop n items) t (fits-split n items t fit))

pub rest-fit : (n : ℕ) (items : List Item) (t : Tables) → applied t items ≡ Ok (with_items t items)
    → applied (with_items t (take n items)) (drop n items) ≡ Ok (with_items (with_items t (take n items)) (drop n items))
rest-fit n items t fit = fit-applied (drop n items) 0 (with_items t (take n items)) (fit-rest (take n items) (drop n items) t (fits-split n items t fit))

pub rest-fit-so : (n : ℕ) (items rest : List Item) (t new : Tables) → new ≡ with_items t (take n items) → rest ≡ drop n items → applied t items ≡ Ok (with_items t items)
    → applied new rest ≡ Ok (with_items new rest)
rest-fit-so n items rest t new made is fit =
    subst (λ u. applied u rest ≡ Ok (with_items u rest)) (sym made)
    (subst (λ them. applied (with_items t (take n items)) them ≡ Ok (with_items (with_items t (take n items)) them)) (sym is) (rest-fit n items t fit))

-- what fits tables fits those that are told
pub told-fit : (told : Option Tables) (t : Tables) (items : List Item) → IfSome told (λ u. t ≡ u) → applied t items ≡ Ok (with_items t items)
    → ForSome told (λ u. applied u items ≡ Ok (with_items u items))
told-fit None t items alike fit u is = absurd (let e : None ≡ Some u = is in cc)
told-fit (Some v) t items alike fit u is =
    let same : t ≡ u = alike ∙ (let e : v ≡ u = cc in e) in
    subst (λ w. applied w items ≡ Ok (with_items w items)) same fit

-- a commit over tables that are told
pub told-next : (told : Option Tables) (t new : Tables) (items : List Item) → IfSome told (λ u. t ≡ u) → new ≡ with_items t items → option_map (λ u. with_items u items) told ≡ option_map (λ u. new) told
told-next None t new items alike is = refl
told-next (Some u) t new items alike is = ap (λ v. Some (with_items v items)) (sym alike) ∙ ap Some (sym is)

pub told-alike : (told now : Option Tables) (t : Tables) → now ≡ option_map (λ u. t) told → IfSome now (λ u. t ≡ u)
told-alike None now t is = subst (λ o. IfSome o (λ u. t ≡ u)) (sym is) tt
told-alike (Some u) now t is = subst (λ o. IfSome o (λ u. t ≡ u)) (sym is) refl

pub told-twice : (told now then : Option Tables) (t u : Tables) → now ≡ option_map (λ v. t) told → then ≡ option_map (λ v. u) now → then ≡ option_map (λ v. u) told
told-twice None now then t u first next = next ∙ ap (option_map (λ v. u)) first
told-twice (Some w) now then t u first next = next ∙ ap (option_map (λ v. u)) first

pub told-first : (told : Option Tables) (t : Tables) → IfSome told (λ u. t ≡ u) → told ≡ option_map (λ u. t) told
told-first None t alike = refl
told-first (Some u) t alike = ap Some (sym alike)

-- the items that were committed, and those that are left
pub record Left (old now : Tables) (all rest : List Item) : Type 0 where
  pub front : List Item
  pub parts : all ≡ front ++ rest
  pub tables : now ≡ with_items old front

pub none-yet : (t : Tables) (all : List Item) → Left t t all all
none-yet t all = record { front = []; parts = refl; tables = refl }

pub some-more : (n : ℕ) (old now new : Tables) (all rest more : List Item) → Left old now all rest → new ≡ with_items now (take n rest) → more ≡ drop n rest → Left old new all more
some-more n old now new all rest more left made is = record {
  front = left.front ++ take n rest;
  parts =
      left.parts ∙ ap (λ items. left.front ++ items) (sym (take-append-drop n rest)) ∙ sym (append_assoc left.front (take n rest) (drop n rest))
      ∙ ap (λ items. (left.front ++ take n rest) ++ items) (sym is);
  tables = made ∙ ap (λ t. with_items t (take n rest)) left.tables ∙ sym (with_items-append old left.front (take n rest));
}
