-- What each step does to the word, the place of the object, and what views have seen.
use Rattle.std.proofs.Common.{◌≡◌, ◌≢◌, ℕ, ◌+◌, ◌*◌, ◌%◌, ◌≤◌, List, [], ◌∷◌, ◌++◌, length, set, refl, sym, ap, ◌∙◌, subst, arith, length-append}
use Rattle.std.specs.Prelude.{slice_index}
use mathlib.Core.Option.{some, none}
use lib.ListN.{get_elem?}
use Rattle.atomic_table.specs.Table.{State}
use Rattle.atomic_table.proofs.Lists.{set_else}
use Rattle.turn_lock.specs.declared.view.Entry.{Entry}
use Rattle.turn_lock.specs.declared.view.View.{View}
use Rattle.turn_lock.specs.declared.view.Slot.{Slot}
use Rattle.turn_lock.specs.declared.view.Slot.TheVariants.{Home}
use Rattle.turn_lock.specs.History.{end_of, BeginsWith}
use Rattle.turn_lock.specs.Rule.{total, turn_of, Each, place, Sees, Word}
use Rattle.turn_lock.specs.Views.{holding, gave, both, spent}
use Rattle.turn_lock.proofs.Totals.{total_set, total_snoc, total_at, total_two, each_set, each_snoc}
use Rattle.turn_lock.proofs.Histories.{legal_snoc, end_of-snoc, begins_itself, begins_more}

module _ {C R T : Type 0} (turned : T → C → R → T → Type 0) (opening : T) (log : List (Entry C R T)) (s : State (Slot C R T) (View C R T)) (kept : Word turned opening log s) where
  pub word_is : slice_index s.words 0 ≡ 2 * length log + total turn_of s.views
  word_is = ap (λ (ws : List ℕ). slice_index ws 0) kept.word

  -- the same word over other views, which have the turn as often
  pub word_views : (views : List (View C R T)) → total turn_of views ≡ total turn_of s.views → Each (Sees log) views → Word turned opening log (record { words = s.words; homes = s.homes; views = views })
  word_views views same sees = record {
    legal = kept.legal;
    one = (let k = kept.one in omega arith);
    word = rw same kept.word;
    home = rw same kept.home;
    seen = sees;
  }

  module _ (id : ℕ) (v : View C R T) (at : get_elem? s.views id ≡ some v) where
    pub word_same : (w : View C R T) → w.turn ≡ v.turn → Sees log w → Word turned opening log (record { words = set s.words 0 (slice_index s.words 0); homes = s.homes; views = set s.views id w })
    word_same w same sees =
        let t = total_set turn_of s.views id v w at in
        let e : total turn_of (set s.views id w) ≡ total turn_of s.views = omega arith in record {
          legal = kept.legal;
          one = (let k = kept.one in omega arith);
          word = rw e (ap (λ (ws : List ℕ). set ws 0 (slice_index ws 0)) kept.word);
          home = rw e kept.home;
          seen = each_set (Sees log) s.views id w (λ j u _ there. kept.seen j u there) sees;
        }

    -- the turn is taken where nobody has it
    module _ (even : slice_index s.words 0 % 2 ≡ 0) where
      pub nobody : total turn_of s.views ≡ 0
      nobody = let w = word_is in let one = kept.one in omega arith

      pub at_home : get_elem? s.homes 0 ≡ some (some (Home (end_of opening log)))
      at_home = ap (λ hs. get_elem? hs 0) (kept.home ∙ ap (λ n. place n (end_of opening log) ∷ []) nobody)

      pub word_is_double : slice_index s.words 0 ≡ 2 * length log
      word_is_double = let w = word_is in let n = nobody in omega arith

      pub word_take : Word turned opening log (record { words = set s.words 0 (slice_index s.words 0 + 1); homes = set s.homes 0 none; views = set s.views id (holding v log) })
      word_take =
          let w = holding v log in
          let n = nobody in
          let mine : v.turn ≤ total turn_of s.views = total_at turn_of s.views id v at in
          let t = total_set turn_of s.views id v w at in
          let one : total turn_of (set s.views id w) ≡ 1 = omega arith in
          let double = word_is_double in
          let now : slice_index s.words 0 + 1 ≡ 2 * length log + 1 = omega arith in record {
            legal = kept.legal;
            one = omega arith;
            word = rw one (ap (λ (ws : List ℕ). set ws 0 (slice_index s.words 0 + 1)) kept.word ∙ ap (λ k. k ∷ []) now);
            home = rw one (ap (λ hs. set hs 0 none) kept.home);
            seen = each_set (Sees log) s.views id w (λ j u _ there. kept.seen j u there) (begins_itself log, (kept.seen id v at).1, λ _. refl);
          }

    -- the turn is given back, with an entry
    module _ (holds : v.turn ≡ 1) where
      pub all_seen : v.seen ≡ log
      all_seen = (kept.seen id v at).2 (omega arith)

      pub somebody : total turn_of s.views ≡ 1
      somebody = let mine : v.turn ≤ total turn_of s.views = total_at turn_of s.views id v at in let one = kept.one in omega arith

      pub word_is_odd : slice_index s.words 0 ≡ 2 * length v.seen + 1
      word_is_odd = let w = word_is in let n = somebody in let e = ap (λ l. length l) all_seen in omega arith

      pub word_give : (e : Entry C R T) → turned (end_of opening v.seen) e.call e.reply e.after
          → Word turned opening (log ++ e ∷ []) (record { words = set s.words 0 (slice_index s.words 0 + 1); homes = set s.homes 0 (some (Home e.after)); views = set s.views id (gave v e) })
      word_give e turn =
          let w = gave v e in
          let one = somebody in
          let t = total_set turn_of s.views id v w at in
          let none_has : total turn_of (set s.views id w) ≡ 0 = omega arith in
          let is = word_is in
          let long = length-append log (e ∷ []) in
          let now : slice_index s.words 0 + 1 ≡ 2 * length (log ++ e ∷ []) + 0 = omega arith in
          let home : s.homes ≡ none ∷ [] = kept.home ∙ ap (λ n. place n (end_of opening log) ∷ []) one in record {
            legal = legal_snoc turned opening log e kept.legal (subst (λ l. turned (end_of opening l) e.call e.reply e.after) all_seen turn);
            one = omega arith;
            word = rw none_has (ap (λ (ws : List ℕ). set ws 0 (slice_index s.words 0 + 1)) kept.word ∙ ap (λ k. k ∷ []) now);
            home = rw (none_has, end_of-snoc opening log e) (ap (λ hs. set hs 0 (some (Home e.after))) home);
            seen = each_set (Sees (log ++ e ∷ [])) s.views id w
                (λ j u apart there.
                let old = kept.seen j u there in
                let among = total_two turn_of s.views id j v u (λ is. apart (sym is)) at there in
                (begins_more log (e ∷ []) u.seen old.0, begins_more log (e ∷ []) u.told old.1, λ has. absurd (omega arith))) (
                  subst (λ l. BeginsWith (log ++ e ∷ []) (l ++ e ∷ [])) (sym all_seen) (begins_itself (log ++ e ∷ [])),
                  begins_more log (e ∷ []) v.told (kept.seen id v at).1,
                  λ _. ap (λ l. l ++ e ∷ []) all_seen,
                );
          }

    -- a view is cut in two, and the second has not got the turn
    pub word_split : (w u : View C R T) → w.turn ≡ v.turn → u.turn ≡ 0 → Sees log w → Sees log u → Word turned opening log (record { words = s.words; homes = s.homes; views = set s.views id w ++ u ∷ [] })
    word_split w u same idle mine theirs =
        let t = total_set turn_of s.views id v w at in
        let n = total_snoc turn_of (set s.views id w) u in
        word_views (set s.views id w ++ u ∷ []) (omega arith)
        (each_snoc (Sees log) (set s.views id w) u (each_set (Sees log) s.views id w (λ j u _ there. kept.seen j u there) mine) theirs)

    pub word_join : (other : ℕ) (w : View C R T) → w.turn ≡ 0 → other ≢ id → get_elem? (set s.views id (both v w)) other ≡ some w
        → Word turned opening log (record { words = s.words; homes = s.homes; views = set (set s.views id (both v w)) other spent })
    word_join other w idle apart there =
        let x = both v w in
        let t = total_set turn_of s.views id v x at in
        let n = total_set turn_of (set s.views id x) other w spent there in
        let mine = kept.seen id v at in
        let theirs = kept.seen other w (sym (set_else s.views id other x apart) ∙ there) in
        word_views (set (set s.views id x) other spent) (omega arith)
        (each_set (Sees log) (set s.views id x) other spent
        (λ j u _ e. each_set (Sees log) s.views id x (λ j u _ there. kept.seen j u there) (mine.0, theirs.0, mine.2) j u e)
        ((log, refl), (log, refl), λ has. absurd (omega arith)))
