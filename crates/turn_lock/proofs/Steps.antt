-- Each step keeps the rule.
use Rattle.std.proofs.Common.{◌≡◌, ℕ, zero, suc, ◌+◌, ◌*◌, ◌%◌, ◌<◌, List, [], ◌∷◌, ◌++◌, length, set, eqb, Option, Some, true, refl, sym, ap, ◌∙◌, subst, arith}
use Rattle.std.specs.Prelude.{slice_index, IfSome}
use Rattle.std.specs.declared.snapshot.Snapshot.{Snapshot}
use mathlib.Core.Option.{some, none, some-injective, some-ne-none}
use lib.ListN.{get_elem?}
use prog.Atomic.{either}
use Rattle.atomic_table.specs.Table.{Me, Act, keeps, takes, gives, step, stepped, carried_after, Valid, Allows, Splits, Joins}
use Rattle.atomic_table.proofs.Lists.{exchanged, set_here}
use Rattle.turn_lock.specs.declared.view.Entry.{Entry}
use Rattle.turn_lock.specs.declared.view.View.{View}
use Rattle.turn_lock.specs.declared.view.Slot.{Slot}
use Rattle.turn_lock.specs.declared.view.Slot.TheVariants.{Home, Told}
use Rattle.turn_lock.specs.History.{Legal, end_of, AllKept}
use Rattle.turn_lock.specs.Rule.{accounts, Sound, Word, Lawful}
use Rattle.turn_lock.specs.Views.{looked, drawn, holding, gave, without, offshoot, noted, slip, both, spent}
use Rattle.turn_lock.specs.Plays.{Looks, Draws, Takes, Gives}
use Rattle.turn_lock.proofs.Histories.{begins_itself, none_before}
use Rattle.turn_lock.proofs.WordSteps.{word_same, word_take, word_give, word_split, word_join, at_home, word_is_double, word_is_odd, all_seen}
use Rattle.turn_lock.proofs.CallerSteps.{next_free, claims_once, callers_same, callers_draw, callers_give, callers_split, callers_note, callers_join}
use Rattle.turn_lock.proofs.PartSteps.{parts_same, parts_split, parts_join}

within : {A : Type 0} (l : List A) (i : ℕ) (a : A) → get_elem? l i ≡ some a → i < length l
within [] i a at = absurd (some-ne-none a (sym at))
within (x ∷ xs) zero a at = omega arith
within (x ∷ xs) (suc i) a at = let h = within xs i a at in omega arith

module _ {C R T : Type 0} (turned : T → C → R → T → Type 0) (opening : T) where
  if_some : (o : Option T) (P : T → Type 0) → o ≡ Some opening → P opening → IfSome o P
  if_some o P is p = subst (λ (x : Option T). IfSome x P) (sym is) p

  pub looks : (slots id : ℕ) (m : Me (Slot C R T) (View C R T)) → 0 < m.0.parts → m.0.named ≡ true
      → Allows (Lawful turned opening) slots id m 0 (λ n. n) (λ n w. Looks turned m w)
  looks slots id m live on s (log, k) wide at _ =
      let v = m.0 in let w = looked v log in
      let mine = k.word.seen id v at in
      let sound_here : Sound w = record { own = k.callers.kept id v at; once = claims_once log s.views k.callers id v at; below = (k.callers.known id v at).1 } in (
        w,
        keeps,
        tt,
        (
          log,
          record {
            word = word_same turned opening log s k.word id v at w refl (begins_itself log, mine.1, λ _. refl);
            callers = callers_same log s.views k.callers id v at w refl refl;
            parts = parts_same opening s.views id v k.parts at w live refl refl;
          },
        ),
        (mine.0, mine.1, if_some v.opening (λ o. Legal turned o log) (k.parts.alive id v at live) k.word.legal, sound_here, refl),
      )

  pub draws : (slots id : ℕ) (m : Me (Slot C R T) (View C R T)) → 0 < m.0.parts → m.0.named ≡ true
      → Allows (Lawful turned opening) slots id m 0 (λ n. n) (λ n w. Draws m w)
  draws slots id m live on s (log, k) wide at _ =
      let v = m.0 in let n = k.callers.given in let w = drawn v n in (
        w,
        keeps,
        tt,
        (
          log,
          record {
            word = word_same turned opening log s k.word id v at w refl (k.word.seen id v at);
            callers = callers_draw log s.views k.callers id v at on;
            parts = parts_same opening s.views id v k.parts at w live refl refl;
          },
        ),
        (n, (k.callers.known id v at).0, none_before n log v.seen (k.word.seen id v at).0 (next_free log s.views k.callers).1, refl),
      )

  pub takes_turn : (slots id : ℕ) (m : Me (Slot C R T) (View C R T)) (old : ℕ) → m.1 ≡ [] → 0 < m.0.parts → m.0.named ≡ true → old % 2 ≡ 0
      → Allows (Lawful turned opening) slots id m 0 (λ n. either (eqb n old) (old + 1) n) (Takes turned (step slots 0 old (old + 1) none) m)
  takes_turn slots id m old none_held live on even s (log, k) wide at _ =
      let n = slice_index s.words 0 in
      let v = m.0 in
      let st = step {S = Slot C R T} slots 0 old (old + 1) none in
      exchanged n old (old + 1)
      (λ x. (w : View C R T) × (a : Act (Slot C R T)) × Valid s.homes m.1 a × Lawful turned opening (stepped s 0 x id m.1 w a) × Takes turned st m n (w, carried_after m.1 a))
      (λ hit.
      let e : n % 2 ≡ 0 = subst (λ (x : ℕ). x % 2 ≡ 0) (sym hit) even in
      let w = holding v log in
      let y = Home (end_of opening log) in
      let bumped : n + 1 ≡ old + 1 = ap (λ (x : ℕ). x + 1) hit in (
        w,
        takes 0 y,
        at_home turned opening log s k.word id v at e,
        (
          log,
          record {
            word = subst (λ (x : ℕ). Word turned opening log (record { words = set s.words 0 x; homes = set s.homes 0 none; views = set s.views id w })) bumped (word_take turned opening log s k.word id v at e);
            callers = callers_same log s.views k.callers id v at w refl refl;
            parts = parts_same opening s.views id v k.parts at w live refl refl;
          },
        ),
        (
          (λ miss. absurd (miss hit)),
          (λ _. (
            word_is_double turned opening log s k.word id v at e,
            (k.word.seen id v at).0,
            if_some v.opening (λ o. Legal turned o log × (((0, y) ∷ m.1) ≡ (0, Home (end_of o log)) ∷ [])) (k.parts.alive id v at live) (k.word.legal, ap (λ l. (0, y) ∷ l) none_held),
            refl,
          )),
        ),
      ))
      (λ miss. (
        v,
        keeps,
        tt,
        (
          log,
          record {
            word = word_same turned opening log s k.word id v at v refl (k.word.seen id v at);
            callers = callers_same log s.views k.callers id v at v refl refl;
            parts = parts_same opening s.views id v k.parts at v live refl refl;
          },
        ),
        ((λ _. refl), (λ hit. absurd (miss hit))),
      ))

  pub splits : (id : ℕ) (v : View C R T) (amount n : ℕ) (ps : List (ℕ × List (Entry C R T))) → v.named ≡ true → v.joined ≡ (n, []) ∷ ps → 0 < amount → amount < v.parts
      → Splits (Lawful {C = C} {R = R} turned opening) id v (without amount v) (offshoot amount v)
  splits id v amount n ps on first some_parts fewer s (log, k) at =
      let mine = k.word.seen id v at in (
        log,
        record {
          word = word_split turned opening log s k.word id v at (without amount v) (offshoot amount v) refl refl mine (mine.0, (log, refl), λ has. absurd (omega arith));
          callers = callers_split log s.views k.callers id v at amount n ps on first;
          parts = parts_split opening s.views id v k.parts at (without amount v) (offshoot amount v) (omega arith) (omega arith) some_parts refl refl;
        },
      )

  pub notes : (id : ℕ) (v : View C R T) → v.named ≡ true → 1 < v.parts → Splits (Lawful {C = C} {R = R} turned opening) id v (noted v) (slip v)
  notes id v on more s (log, k) at =
      let mine = k.word.seen id v at in (
        log,
        record {
          word = word_split turned opening log s k.word id v at (noted v) (slip v) refl refl mine (mine.0, (log, refl), λ has. absurd (omega arith));
          callers = callers_note log s.views k.callers id v at on;
          parts = parts_split opening s.views id v k.parts at (noted v) (slip v) (omega arith) (omega arith) (omega arith) refl refl;
        },
      )

  pub joins : (id : ℕ) (v : View C R T) (other : ℕ) (w : View C R T) → v.named ≡ true → 0 < v.parts → w.turn ≡ 0
      → Joins (Lawful {C = C} {R = R} turned opening) id v other w (both v w) spent
  joins id v other w on live idle s (log, k) at apart there = (
    log,
    record {
      word = word_join turned opening log s k.word id v at other w idle apart there;
      callers = callers_join log s.views k.callers id v at other w on apart there;
      parts = parts_join opening s.views id v k.parts at other w live there;
    },
  )

  gives_from : (slots id : ℕ) (v : View C R T) (call : Snapshot C) (reply : Snapshot R) (after : T) (old : ℕ)
      → 0 < v.parts → v.named ≡ true → v.turn ≡ 1 → old ≡ 2 * length v.seen + 1 → turned (end_of opening v.seen) call.value reply.value after
      → Allows (Lawful turned opening) slots id (v, (0, Home after) ∷ []) 0 (λ n. either (eqb n old) (old + 1) n) (λ _ w. Gives (step slots 0 old (old + 1) (some (Told call reply))) (v, (0, Home after) ∷ []) w)
  gives_from slots id v call reply after old live on has is turn s (log, k) wide at _ =
      let n = slice_index s.words 0 in
      let m : Me (Slot C R T) (View C R T) = (v, (0, Home after) ∷ []) in
      let st = step {S = Slot C R T} slots 0 old (old + 1) (some (Told call reply)) in
      let e : Entry C R T = record { by = v.number; call = call.value; reply = reply.value; after = after } in
      let w = gave v e in
      let found : n ≡ old = word_is_odd turned opening log s k.word id v at has ∙ sym is in
      let callers = callers_give log s.views k.callers id v at e refl on in
      exchanged n old (old + 1)
      (λ x. (w : View C R T) × (a : Act (Slot C R T)) × Valid s.homes m.1 a × Lawful turned opening (stepped s 0 x id m.1 w a) × Gives st m (w, carried_after m.1 a))
      (λ hit.
      let bumped : n + 1 ≡ old + 1 = ap (λ (x : ℕ). x + 1) hit in
      let there : get_elem? (set s.views id w) id ≡ some w = set_here s.views id w (within s.views id v at) in
      let same : v.seen ≡ log = all_seen turned opening log s k.word id v at has in (
        w,
        gives,
        tt,
        (
          log ++ e ∷ [],
          record {
            word = subst (λ (x : ℕ). Word turned opening (log ++ e ∷ []) (record { words = set s.words 0 x; homes = set s.homes 0 (some (Home after)); views = set s.views id w })) bumped (word_give turned opening log s k.word id v at has e turn);
            callers = callers;
            parts = parts_same opening s.views id v k.parts at w live refl refl;
          },
        ),
        (λ call' reply' after' told held.
            let c : call ≡ call' = told_call call reply call' reply' (some-injective _ _ told) in
            let r : reply ≡ reply' = told_reply call reply call' reply' (some-injective _ _ told) in
            let a : after ≡ after' = held_same after after' held in (
              record {
                own = subst (λ l. AllKept (l ++ e ∷ []) (accounts w)) (sym same) (callers.kept id w there);
                once = claims_once (log ++ e ∷ []) (set s.views id w) callers id w there;
                below = (callers.known id w there).1;
              },
              λ i. (gave v (record { by = v.number; call = (c i).value; reply = (r i).value; after = a i }), []),
            )),
      ))
      (λ miss. absurd (miss found))
    where
      told_call : (c : Snapshot C) (r : Snapshot R) (c' : Snapshot C) (r' : Snapshot R) → ◌≡◌ {A = Slot C R T} (Told c r) (Told c' r') → c ≡ c'
      told_call c r c' r' e = cc

      told_reply : (c : Snapshot C) (r : Snapshot R) (c' : Snapshot C) (r' : Snapshot R) → ◌≡◌ {A = Slot C R T} (Told c r) (Told c' r') → r ≡ r'
      told_reply c r c' r' e = cc

      held_same : (a b : T) → ◌≡◌ {A = List (ℕ × Slot C R T)} ((0, Home a) ∷ []) ((0, Home b) ∷ []) → a ≡ b
      held_same a b e = let p : ◌≡◌ {A = ℕ × Slot C R T} (0, Home a) (0, Home b) = cc in let q : ◌≡◌ {A = Slot C R T} (Home a) (Home b) = ap (λ (x : ℕ × Slot C R T). x.1) p in cc

  pub gives_turn : (slots id : ℕ) (m : Me (Slot C R T) (View C R T)) (call : Snapshot C) (reply : Snapshot R) (after : T) (old : ℕ) → m.1 ≡ (0, Home after) ∷ []
      → 0 < m.0.parts → m.0.named ≡ true → m.0.turn ≡ 1 → old ≡ 2 * length m.0.seen + 1 → turned (end_of opening m.0.seen) call.value reply.value after
      → Allows (Lawful turned opening) slots id m 0 (λ n. either (eqb n old) (old + 1) n) (λ _ w. Gives (step slots 0 old (old + 1) (some (Told call reply))) m w)
  gives_turn slots id m call reply after old held live on has is turn =
      subst (λ (l : List (ℕ × Slot C R T)). Allows (Lawful turned opening) slots id (m.0, l) 0 (λ n. either (eqb n old) (old + 1) n) (λ _ w. Gives (step slots 0 old (old + 1) (some (Told call reply))) (m.0, l) w)) (sym held)
      (gives_from slots id m.0 call reply after old live on has is turn)
