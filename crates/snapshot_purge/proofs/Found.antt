-- The builds that are due, one after another.
use Rattle.std.proofs.Common.{◌≡◌, ℕ, ◌+◌, ◌*◌, ◌<◌, ◌≤◌, Bool, true, false, ◌&&◌, if◌then◌else◌, cond, List, [], ◌∷◌, ◌++◌, length, take, get_or, map, filter, count_by, nat_le, nat_lt, refl, sym, ap, ◌∙◌}
use Rattle.std.specs.List.Sorted.{IsPermutation}
use Rattle.std.specs.Ordering.{is_lt}
use Rattle.std.proofs.lemmas.List.{append-nil, map-append, take_all}
use Rattle.std.proofs.lemmas.List.Elements.{filter_more}
use Rattle.std.proofs.lemmas.List.Sorted.{sum_by-IsPermutation}
use Rattle.std.proofs.lemmas.List.Sums.{sum_by-cons}
use Rattle.mvn_coords.specs.FileName.{BuildOf}
use Rattle.mvn_metadata.specs.Order.{build_cmp}
use Rattle.repo_model.specs.Purge as plain
use Rattle.snapshot_purge.specs.Shown.{shown_build, shown_builds, is_due_among}
use Rattle.snapshot_purge.specs.declared.builds.Aged.{Aged}

abbrev pub builds_in : List Aged → List BuildOf
builds_in builds = map (λ a. a.build) builds

-- one more build that passes a test, or does not
pub found_yes : (test : Aged → Bool) (builds : List Aged) (i : ℕ) (d : Aged) (found : List BuildOf) → i < length builds → test (get_or builds i d) ≡ true
    → found ≡ builds_in (filter test (take i builds)) → found ++ (get_or builds i d).build ∷ [] ≡ builds_in (filter test (take (i + 1) builds))
found_yes test builds i d found h is before =
    let x = get_or builds i d in
    let more = filter_more test builds i d h ∙ ap (λ b. filter test (take i builds) ++ cond b (x ∷ []) []) is in
    ap (λ bs. bs ++ x.build ∷ []) before ∙ sym (ap builds_in more ∙ map-append (λ (a : Aged). a.build) (filter test (take i builds)) (x ∷ []))

pub found_no : (test : Aged → Bool) (builds : List Aged) (i : ℕ) (d : Aged) (found : List BuildOf) → i < length builds → test (get_or builds i d) ≡ false
    → found ≡ builds_in (filter test (take i builds)) → found ≡ builds_in (filter test (take (i + 1) builds))
found_no test builds i d found h is before =
    let more = filter_more test builds i d h ∙ ap (λ b. filter test (take i builds) ++ cond b (get_or builds i d ∷ []) []) is in
    before ∙ sym (ap builds_in (more ∙ append-nil (filter test (take i builds))))

counts-shown : (p : BuildOf → Bool) (builds : List Aged) → count_by p (builds_in builds) ≡ count_by (λ (a : plain.Aged). p a.build) (shown_builds builds)
counts-shown p [] = refl
counts-shown p (a ∷ builds) = sum_by-cons (λ b. cond (p b) 1 0) a.build (builds_in builds) ∙ ap (λ n. cond (p a.build) 1 0 + n) (counts-shown p builds) ∙ sym (sum_by-cons (λ (b : plain.Aged). cond (p b.build) 1 0) (shown_build a) (shown_builds builds))

abbrev is_due : List plain.Aged → ℕ → ℕ → ℕ → plain.Aged → Bool
is_due builds count days now a =
    nat_le count (count_by (λ (other : plain.Aged). is_lt (build_cmp a.build other.build)) builds) && nat_lt (a.accepted + days * 86_400) now

-- beside the builds in order as beside the builds that were given
same-due : (order : List BuildOf) (builds : List Aged) (count days now : ℕ) → IsPermutation (builds_in builds) order → (a : Aged)
    → is_due_among order count days now a ≡ is_due (shown_builds builds) count days now (shown_build a)
same-due order builds count days now moved a =
    let newer : BuildOf → Bool = λ other. is_lt (build_cmp a.build other) in
    ap (λ n. nat_le count n && nat_lt (a.accepted + days * 86_400) now)
    (sum_by-IsPermutation (λ b. cond (newer b) 1 0) (builds_in builds) order moved ∙ counts-shown newer builds)

filter-shown : (p : Aged → Bool) (q : plain.Aged → Bool) → ((a : Aged) → p a ≡ q (shown_build a)) → (builds : List Aged) → builds_in (filter p builds) ≡ map (λ (a : plain.Aged). a.build) (filter q (shown_builds builds))
filter-shown p q same [] = refl
filter-shown p q same (a ∷ builds) =
    ap (λ b. builds_in (if b then a ∷ filter p builds else filter p builds)) (same a)
    ∙ elim (q (shown_build a)) as (λ b. builds_in (if b then a ∷ filter p builds else filter p builds) ≡ map (λ (x : plain.Aged). x.build) (if b then shown_build a ∷ filter q (shown_builds builds) else filter q (shown_builds builds))) [
      | true ↦ ap (λ bs. a.build ∷ bs) (filter-shown p q same builds)
      | false ↦ filter-shown p q same builds
    ]

-- all builds were looked at
pub found_all : (order : List BuildOf) (builds : List Aged) (count days now i : ℕ) → IsPermutation (builds_in builds) order → length builds ≤ i
    → builds_in (filter (is_due_among order count days now) (take i builds)) ≡ plain.due (shown_builds builds) count days now
found_all order builds count days now i moved long =
    ap (λ bs. builds_in (filter (is_due_among order count days now) bs)) (take_all i builds long)
    ∙ filter-shown (is_due_among order count days now) (is_due (shown_builds builds) count days now) (same-due order builds count days now moved) builds
