-- What a crash leaves is what a front of the entries records, in which one that failed may count as done.
use native.Mathlib.Omega.{arith}
use Rattle.std.proofs.Common.{◌≡◌, ◌⊎◌, inl, inr, List, [], ◌∷◌, ◌++◌, Option, Some, None, refl, sym, subst, ap, ◌∙◌, append_assoc, append-nil}
use Rattle.std.specs.Prelude.{ℕ, if◌then◌else◌}
use Rattle.std.proofs.lemmas.List.Sums.{fold-append}
use Rattle.repo_model.specs.declared.item.Item.{Item}
use Rattle.repo_model.specs.Effect.{recorded}
use Rattle.repo_model.specs.History.{Entry, Fits, Legal, after, due, effects_of, end}
use Rattle.repo_model.specs.Reply.{is_free, store_fault}
use Rattle.repo_model.specs.Settings.{Settings}
use Rattle.repo_model.specs.State.{State}
use Rattle.repo_model.specs.Tables.{Tables, item_on}
use Rattle.repo_model.specs.Turn.{turn}
use Rattle.repo_laws.specs.Described.{IsAmong}
use Rattle.repo_laws.specs.Holds.{told, with_items}
use Rattle.repo_laws.proofs.Answered.{no-free}
use Rattle.crash_laws.specs.Crashes.{AreNoCollects, IsFrontOf, MayNotGo, IsLeft, PendAlong, Pends, as_done, between, done, fails, front, left_by, stays, tried, undone, within}

module _ (settings : Settings) where
  -- an entry whose commit failed fits as done, and then records what it tried
  pub done-fits : (s : State) (e : Entry) → Fits settings s e → Fits settings s (as_done settings s e)
  done-fits s e fits = record { condition = fits.condition; moment = fits.moment; faults = omega arith; reply = due refl (λ _. refl) }

  pub done-records : (s : State) (e : Entry) → recorded (effects_of settings s (as_done settings s e)) ≡ tried settings s e
  done-records s e = ap (λ b. recorded (if b then [] else (turn settings s e.moment e.command).effects)) (no-free settings s e.moment e.command)

  pub failed-records : (s : State) (e : Entry) → e.reply ≡ store_fault → recorded (effects_of settings s e) ≡ []
  failed-records s e is = ap (λ r. recorded (if is_free r then [] else (turn settings s e.moment e.command).effects)) is

  told-parts : (xs ys : List Entry) (s : State) → told settings s (xs ++ ys) ≡ told settings s xs ++ told settings (end settings s xs) ys
  told-parts [] ys s = refl
  told-parts (x ∷ xs) ys s =
      ap (λ (l : List Item). recorded (effects_of settings s x) ++ l) (told-parts xs ys (after settings s x))
      ∙ sym (append_assoc (recorded (effects_of settings s x)) (told settings (after settings s x) xs) (told settings (end settings s (x ∷ xs)) ys))

  pub legal-front : (xs ys : List Entry) (s : State) → Legal settings s (xs ++ ys) → Legal settings s xs
  legal-front [] ys s legal = tt
  legal-front (x ∷ xs) ys s legal = (legal.0, legal-front xs ys (after settings s x) legal.1)

  legal-done : (xs ys : List Entry) (e : Entry) (s : State) → Legal settings s (xs ++ e ∷ ys) → Legal settings s (xs ++ as_done settings (end settings s xs) e ∷ [])
  legal-done [] ys e s legal = (done-fits s e legal.0, tt)
  legal-done (x ∷ xs) ys e s legal = (legal.0, legal-done xs ys e (after settings s x) legal.1)

  -- what is pending after entries: nothing; or what was, and they recorded nothing; or what one of them tried, and nothing was recorded since
  pub record Tried (s : State) (entries : List Entry) (items : List Item) : Type 0 where
    pub first : List Entry
    pub rest : List Entry
    pub e : Entry
    pub parts : entries ≡ first ++ e ∷ rest
    pub failed : e.reply ≡ store_fault
    pub items_are : items ≡ tried settings (end settings s first) e
    pub since : told settings s entries ≡ told settings s first

  abbrev Behind : State → List Entry → Option (List Item) → Option (List Item) → Type 0
  Behind s entries old new = (new ≡ None) ⊎ (((new ≡ old) × (told settings s entries ≡ [])) ⊎ ((items : List Item) × (new ≡ Some items) × Tried s entries items))

  one-more : (s : State) (e : Entry) (es : List Entry) (old mid new : Option (List Item)) → Pends settings s e old mid → Behind (after settings s e) es mid new → Behind s (e ∷ es) old new
  one-more s e es old mid new p (inl none) = inl none
  one-more s e es old mid new p (inr (inr (items, is, was))) = inr (inr (
    items,
    is,
    record {
      first = e ∷ was.first;
      rest = was.rest;
      e = was.e;
      parts = ap (λ (l : List Entry). e ∷ l) was.parts;
      failed = was.failed;
      items_are = was.items_are;
      since = ap (λ (l : List Item). recorded (effects_of settings s e) ++ l) was.since;
    },
  ))
  one-more s e es old mid new (undone gone) (inr (inl (same, nothing))) = inl (same ∙ gone)
  one-more s e es old mid new (stays quiet other was) (inr (inl (same, nothing))) =
      inr (inl (same ∙ was, ap (λ (l : List Item). l ++ told settings (after settings s e) es) quiet ∙ nothing))
  one-more s e es old mid new (fails failed now) (inr (inl (same, nothing))) = inr (inr (
    tried settings s e,
    same ∙ now,
    record {
      first = [];
      rest = es;
      e = e;
      parts = refl;
      failed = failed;
      items_are = refl;
      since = ap (λ (l : List Item). l ++ told settings (after settings s e) es) (failed-records s e failed) ∙ nothing;
    },
  ))

  behind : (entries : List Entry) (s : State) (old new : Option (List Item)) → PendAlong settings s entries old new → Behind s entries old new
  behind [] s old new p = inr (inl (p, refl))
  behind (e ∷ es) s old new (mid, here, rest) = one-more s e es old mid new here (behind es (after settings s e) mid new rest)

  -- a history that is a front of the entries, and leaves these tables
  pub record Front (s : State) (t : Tables) (entries : List Entry) (u : Tables) : Type 0 where
    pub history : List Entry
    pub is : IsFrontOf settings s entries history
    pub legal : Legal settings s history
    pub left : u ≡ with_items t (told settings s history)

  module _ (s : State) (t u : Tables) where
    as-front : (entries rest : List Entry) → Legal settings s (entries ++ rest) → u ≡ with_items t (told settings s entries) → Front s t (entries ++ rest) u
    as-front entries rest legal is = record { history = entries; is = front rest refl; legal = legal-front entries rest s legal; left = is }

    as-tried : (entries rest : List Entry) (items : List Item) → Legal settings s (entries ++ rest) → Tried s entries items
        → u ≡ with_items (with_items t (told settings s entries)) items → Front s t (entries ++ rest) u
    as-tried entries rest items legal was is =
        let there = end settings s was.first in
        let it = as_done settings there was.e in
        let parts : entries ++ rest ≡ was.first ++ was.e ∷ (was.rest ++ rest) =
        ap (λ (l : List Entry). l ++ rest) was.parts ∙ append_assoc was.first (was.e ∷ was.rest) rest in
        let records : told settings s (was.first ++ it ∷ []) ≡ told settings s was.first ++ items =
        told-parts was.first (it ∷ []) s
        ∙ ap (λ (l : List Item). told settings s was.first ++ l) (append-nil (recorded (effects_of settings there it)) ∙ done-records there was.e ∙ sym was.items_are) in
        record {
          history = was.first ++ it ∷ [];
          is = done was.first (was.rest ++ rest) was.e parts was.failed refl;
          legal = legal-done was.first (was.rest ++ rest) was.e s (subst (Legal settings s) parts legal);
          left =
              is ∙ ap (λ (l : List Item). with_items (with_items t l) items) was.since ∙ sym (fold-append item_on t (told settings s was.first) items)
              ∙ ap (with_items t) (sym records);
        }

    among : (entries rest : List Entry) (pending : Option (List Item)) → Legal settings s (entries ++ rest) → PendAlong settings s entries None pending
        → IsAmong u (left_by (with_items t (told settings s entries)) pending) → Front s t (entries ++ rest) u
    among entries rest pending legal along is = pick pending (behind entries s None pending along) is
      where
        nothing : (o : Option (List Item)) → o ≡ None → IsAmong u (left_by (with_items t (told settings s entries)) o) → Front s t (entries ++ rest) u
        nothing None none (inl same) = as-front entries rest legal (sym same)
        nothing None none (inr more) = absurd more
        nothing (Some items) none any = absurd (cc)

        pick : (o : Option (List Item)) → Behind s entries None o → IsAmong u (left_by (with_items t (told settings s entries)) o) → Front s t (entries ++ rest) u
        pick o (inl none) any = nothing o none any
        pick o (inr (inl (same, quiet))) any = nothing o same any
        pick None (inr (inr (items, same, was))) any = absurd (cc)
        pick (Some its) (inr (inr (items, same, was))) (inl is) = as-front entries rest legal (sym is)
        pick (Some its) (inr (inr (items, same, was))) (inr (inl is)) =
            let they : its ≡ items = cc in as-tried entries rest items legal was (sym is ∙ ap (with_items (with_items t (told settings s entries))) they)
        pick (Some its) (inr (inr (items, same, was))) (inr (inr more)) = absurd more

    pub is-front : (entries : List Entry) → Legal settings s entries → IsLeft settings s t entries u → Front s t entries u
    is-front entries legal (between pending along is) =
        subst (λ (l : List Entry). Front s t l u) (append-nil entries) (among entries [] pending (subst (Legal settings s) (sym (append-nil entries)) legal) along is)
    is-front entries legal (within first e pending later parts before all (inl is)) =
        subst (λ (l : List Entry). Front s t l u) (sym parts) (among first (e ∷ []) pending (subst (Legal settings s) parts legal) before is)
    is-front entries legal (within first e pending later parts before all (inr is)) =
        subst (λ (l : List Entry). Front s t l u) (append-nil entries) (among entries [] later (subst (Legal settings s) (sym (append-nil entries)) legal) all is)

  -- none of its entries asks for a Collect either
  collects-front : (xs ys : List Entry) → AreNoCollects (xs ++ ys) → AreNoCollects xs
  collects-front [] ys none = tt
  collects-front (x ∷ xs) ys none = (none.0, collects-front xs ys none.1)

  collects-done : (xs ys : List Entry) (e : Entry) (there : State) → AreNoCollects (xs ++ e ∷ ys) → AreNoCollects (xs ++ as_done settings there e ∷ [])
  collects-done [] ys e there none = (none.0, tt)
  collects-done (x ∷ xs) ys e there none = (none.0, collects-done xs ys e there none.1)

  no-collects : (s : State) (entries history : List Entry) → IsFrontOf settings s entries history → AreNoCollects entries → AreNoCollects history
  no-collects s entries history (front rest is) none = collects-front history rest (subst AreNoCollects is none)
  no-collects s entries history (done first rest e parts failed is) none =
      subst AreNoCollects (sym is) (collects-done first rest e (end settings s first) (subst AreNoCollects parts none))

  -- nor does one of them take a row away that may not go
  pub stays-front : (xs ys : List Entry) (path : List ℕ) → MayNotGo (xs ++ ys) path → MayNotGo xs path
  stays-front xs ys path (inl none) = inl (collects-front xs ys none)
  stays-front xs ys path (inr release) = inr release

  pub may-not-go : (s : State) (entries history : List Entry) (path : List ℕ) → IsFrontOf settings s entries history → MayNotGo entries path → MayNotGo history path
  may-not-go s entries history path is (inl none) = inl (no-collects s entries history is none)
  may-not-go s entries history path is (inr release) = inr release
