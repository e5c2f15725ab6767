-- Items applied one after the other, as a loop does.
use Rattle.std.proofs.Common.{◌≡◌, ℕ, suc, ◌+◌, ◌<◌, Bool, true, false, cond, ◌&&◌, IsTrue, List, [], ◌∷◌, ◌++◌, length, get_or, take, drop, Ok, Err, refl, sym, ◌∙◌, ap, subst, drop-cons, take-suc, add-one}
use Rattle.repo_model.specs.declared.item.Item.{Item}
use Rattle.repo_model.specs.Tables.{Tables, no_tables, fits_on, item_on, applied_from, applied}
use Rattle.row_tables.specs.Recorded.{AreRecorded}
use Rattle.std.specs.List.{list_all}
use Rattle.row_tables.specs.Applying.{with_items}
use Rattle.row_tables.specs.Items.{is_item}

both : (x y : Bool) → x && y ≡ true → (x ≡ true) × (y ≡ true)
both true true is = (refl, refl)
both true false is = absurd cc
both false y is = absurd cc

with_items-push : (t : Tables) (items : List Item) (item : Item) → with_items t (items ++ item ∷ []) ≡ item_on (with_items t items) item
with_items-push t [] item = refl
with_items-push t (i ∷ items) item = with_items-push (item_on t i) items item

anywhere : (p q : ℕ) (t u : Tables) (items : List Item) → applied_from p t items ≡ Ok u → applied_from q t items ≡ Ok u
anywhere p q t u [] is = is
anywhere p q t u (item ∷ items) is = by (anywhere (p + 1) (q + 1) (item_on t item) u items) (fits_on t item) is
  where
    by : (applied_from (p + 1) (item_on t item) items ≡ Ok u → applied_from (q + 1) (item_on t item) items ≡ Ok u) → (b : Bool) → cond b (applied_from (p + 1) (item_on t item) items) (Err p) ≡ Ok u → cond b (applied_from (q + 1) (item_on t item) items) (Err q) ≡ Ok u
    by go true h = go h
    by go false h = absurd cc

then_applied : (p : ℕ) (t u v : Tables) (items more : List Item) → applied_from p t items ≡ Ok u → applied_from 0 u more ≡ Ok v → applied_from p t (items ++ more) ≡ Ok v
then_applied p t u v [] more is next = anywhere 0 p t v more (subst (λ s. applied_from 0 s more ≡ Ok v) (sym (tables_is t u is)) next)
  where
    tables_is : (a b : Tables) → applied_from p a [] ≡ Ok b → a ≡ b
    tables_is a b h = cc
then_applied p t u v (item ∷ items) more is next = by (then_applied (p + 1) (item_on t item) u v items more) (fits_on t item) is
  where
    by : (applied_from (p + 1) (item_on t item) items ≡ Ok u → applied_from 0 u more ≡ Ok v → applied_from (p + 1) (item_on t item) (items ++ more) ≡ Ok v) → (b : Bool) → cond b (applied_from (p + 1) (item_on t item) items) (Err p) ≡ Ok u
        → cond b (applied_from (p + 1) (item_on t item) (items ++ more)) (Err p) ≡ Ok v
    by go true h = go h next
    by go false h = absurd cc

-- the tables after the items in front of a place, which fit; those from there on are still to come
pub record SoFar (old now : Tables) (items : List Item) (place : ℕ) : Type 0 where
  pub so_far : now ≡ with_items old (take place items)
  pub fit : applied old (take place items) ≡ Ok now
  pub rest : applied_from place now (drop place items) ≡ applied old items

pub starts : (t : Tables) (items : List Item) → SoFar t t items 0
starts t items = record { so_far = refl; fit = refl; rest = refl }

one_more : (now after : Tables) (item : Item) → true ≡ fits_on now item → after ≡ item_on now item → applied_from 0 now (item ∷ []) ≡ Ok after
one_more now after item fits then_so = sym (ap (λ b. cond b (Ok (item_on now item)) (Err 0)) fits) ∙ ap Ok (sym then_so)

module _ (old now : Tables) (items : List Item) (place : ℕ) (item : Item) (known : SoFar old now items place) (within : place < length items) (is : item ≡ get_or items place item) where
  next : drop place items ≡ item ∷ drop (suc place) items
  next = drop-cons items place item within ∙ ap (λ i. i ∷ drop (suc place) items) (sym is)

  by_fit : applied_from place now (drop place items) ≡ cond (fits_on now item) (applied_from (place + 1) (item_on now item) (drop (suc place) items)) (Err place)
  by_fit = ap (applied_from place now) next

  pub goes_on : (after : Tables) → true ≡ fits_on now item → after ≡ item_on now item → SoFar old after items (place + 1)
  goes_on after fits then_so =
      let one : suc place ≡ place + 1 = sym (add-one place) in
      let front : take place items ++ item ∷ [] ≡ take (place + 1) items =
      ap (λ i. take place items ++ i ∷ []) is ∙ sym (take-suc items place item within) ∙ ap (λ k. take k items) one in
      record {
        so_far = then_so ∙ ap (λ t. item_on t item) known.so_far ∙ sym (with_items-push old (take place items) item) ∙ ap (with_items old) front;
        fit = ap (applied old) (sym front) ∙ then_applied 0 old now after (take place items) (item ∷ []) known.fit (one_more now after item fits then_so);
        rest = ap (λ t. applied_from (place + 1) t (drop (place + 1) items)) then_so ∙ ap (λ k. applied_from (place + 1) (item_on now item) (drop k items)) (sym one)
            ∙ sym (ap (λ b. cond b (applied_from (place + 1) (item_on now item) (drop (suc place) items)) (Err place)) (sym fits)) ∙ sym by_fit ∙ known.rest;
      }

pub with_items-append : (t : Tables) (items more : List Item) → with_items t (items ++ more) ≡ with_items (with_items t items) more
with_items-append t [] more = refl
with_items-append t (item ∷ items) more = with_items-append (item_on t item) items more

all_append : (test : Item → Bool) (items more : List Item) → list_all test items ≡ true → list_all test more ≡ true → list_all test (items ++ more) ≡ true
all_append test [] more one two = two
all_append test (item ∷ items) more one two =
    let parts = both (test item) (list_all test items) one in
    λ i. parts.0 i && all_append test items more parts.1 two i

-- a change after what was recorded
pub recorded_more : (items more : List Item) → AreRecorded items → IsTrue (list_all is_item more) → applied (with_items no_tables items) more ≡ Ok (with_items (with_items no_tables items) more) → AreRecorded (items ++ more)
recorded_more items more are form fits = record {
  form = all_append is_item items more are.form form;
  fit = then_applied 0 no_tables (with_items no_tables items) (with_items (with_items no_tables items) more) items more are.fit fits ∙ ap Ok (sym (with_items-append no_tables items more));
}
