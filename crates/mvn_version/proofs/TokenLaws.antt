-- The tokens of a text, put together again, are the text; each is digits or letters alone; and seams stand between these.
use Rattle.std.proofs.Common.{◌≡◌, ℕ, Bool, true, false, ◌&&◌, ◌||◌, not, cond, ◌⊎◌, inl, inr, List, [], ◌∷◌, ◌++◌, refl, sym, ap, subst, ◌∙◌, eqb}
use Rattle.std.specs.Prelude.{Option, Some, None, is_none, MatchOption}
use Rattle.std.specs.Char.{is_ascii_digit}
use Rattle.std.specs.List.{list_all}
use borrow.Author.Tests.{eqb-true}
use Rattle.mvn_version.specs.declared.token.Mark.{Mark}
use Rattle.mvn_version.specs.declared.token.Mark.TheVariants.{Dot, Dash, Seam}
use Rattle.mvn_version.specs.Token.{Token, alternate, before, dotted, is_letter, is_seam, is_uniform, joined, mark_bytes, seam_fits, seam_follows, seams_fit, separator_mark, tokens, written}

-- how the first token of a text begins: with the text's first byte, unless that is a separator
abbrev BeginsBy : ℕ → Option Mark → List ℕ → Type 0
BeginsBy d o u = MatchOption o ((v : List ℕ) × (u ≡ d ∷ v)) (λ _. u ≡ [])

abbrev BeginsAs : List ℕ → List ℕ → Type 0
BeginsAs [] u = u ≡ []
BeginsAs (d ∷ ds) u = BeginsBy d (separator_mark d) u

abbrev are_uniform : List Token → Bool
are_uniform ts = list_all (λ t. is_uniform t.text) ts

record IsCut (text : List ℕ) (t : Token) (ts : List Token) : Type 0 where
  cut : tokens text ≡ t ∷ ts
  joins : t.text ++ written ts ≡ text
  uniform : are_uniform (t ∷ ts) ≡ true
  seams : seams_fit (t ∷ ts) ≡ true
  begins : BeginsAs text t.text

first_of_both : (a b : Bool) → (a && b) ≡ true → a ≡ true
first_of_both true b e = refl
first_of_both false b e = e

second_of_both : (a b : Bool) → (a && b) ≡ true → b ≡ true
second_of_both true b e = e
second_of_both false b e = absurd cc

-- a separator is the byte of its mark, and that is no seam
mark_by : (c : ℕ) (a b : Bool) (k : Mark) → eqb c 46 ≡ a → eqb c 45 ≡ b → cond a (Some Dot) (cond b (Some Dash) None) ≡ Some k
    → (mark_bytes k ≡ c ∷ []) × (is_seam k ≡ false)
mark_by c true b k p q e =
    let k_is : k ≡ Dot = cc in
    let c_is : c ≡ 46 = eqb-true c 46 p in
    (ap mark_bytes k_is ∙ sym (λ j. c_is j ∷ []), ap is_seam k_is)
mark_by c false true k p q e =
    let k_is : k ≡ Dash = cc in
    let c_is : c ≡ 45 = eqb-true c 45 q in
    (ap mark_bytes k_is ∙ sym (λ j. c_is j ∷ []), ap is_seam k_is)
mark_by c false false k p q e = absurd cc

at_separator : (c : ℕ) (cs : List ℕ) (k : Mark) (t : Token) (ts : List Token) → separator_mark c ≡ Some k → IsCut cs t ts
    → IsCut (c ∷ cs) (dotted []) (record t { mark = k } ∷ ts)
at_separator c cs k t ts m h =
    let by = mark_by c (eqb c 46) (eqb c 45) k refl refl m in
    record {
      cut = λ j. before c (m j) (seam_follows c cs) (h.cut j);
      joins = (λ j. by.0 j ++ (t.text ++ written ts)) ∙ ap (λ xs. c ∷ xs) h.joins;
      uniform = h.uniform;
      seams = (λ j. (not (by.1 j) || alternate [] t.text) && seams_fit (t ∷ ts)) ∙ h.seams;
      begins = subst (λ o. BeginsBy c o []) (sym m) refl;
    }

-- a text that a letter or digit may stand before with no cut between
abbrev GoesOn : ℕ → List ℕ → Type 0
GoesOn c u = (u ≡ []) ⊎ ((d : ℕ) × (v : List ℕ) × (u ≡ d ∷ v) × (separator_mark d ≡ None) × (is_ascii_digit d ≡ is_ascii_digit c))

by_first : (c d : ℕ) (u : List ℕ) (o : Option Mark) → (is_none o && alternate (c ∷ []) (d ∷ [])) ≡ true
    → BeginsBy d o u → alternate (c ∷ []) u ≡ true
by_first c d u None s b = ap (alternate (c ∷ [])) b.1 ∙ s
by_first c d u (Some m) s b = absurd cc

after_seam : (c : ℕ) (cs u : List ℕ) → seam_follows c cs ≡ true → BeginsAs cs u → alternate (c ∷ []) u ≡ true
after_seam c [] u s b = absurd cc
after_seam c (d ∷ ds) u s b = by_first c d u (separator_mark d) s b

either : (a : Bool) → ((a && true) || ((true && not a) && true)) ≡ true
either true = refl
either false = refl

one_uniform : (c : ℕ) → separator_mark c ≡ None → is_uniform (c ∷ []) ≡ true
one_uniform c m =
    (λ j. (is_ascii_digit c && true) || ((is_none (m j) && not (is_ascii_digit c)) && true)) ∙ either (is_ascii_digit c)

at_seam : (c : ℕ) (cs : List ℕ) (t : Token) (ts : List Token) → separator_mark c ≡ None → seam_follows c cs ≡ true → IsCut cs t ts
    → IsCut (c ∷ cs) (dotted (c ∷ [])) (record t { mark = Seam } ∷ ts)
at_seam c cs t ts m s h = record {
  cut = λ j. before c (m j) (s j) (h.cut j);
  joins = ap (λ xs. c ∷ xs) h.joins;
  uniform = λ j. one_uniform c m j && h.uniform j;
  seams = λ j. after_seam c cs t.text s h.begins j && h.seams j;
  begins = subst (λ o. BeginsBy c o (c ∷ [])) (sym m) ([], refl);
}

of_one_kind : (a b : Bool) → cond a (not b) b ≡ false → b ≡ a
of_one_kind true true e = refl
of_one_kind true false e = absurd cc
of_one_kind false true e = absurd cc
of_one_kind false false e = refl

goes_on_by : (c d : ℕ) (u : List ℕ) (o : Option Mark) → separator_mark d ≡ o → (is_none o && alternate (c ∷ []) (d ∷ [])) ≡ false
    → BeginsBy d o u → GoesOn c u
goes_on_by c d u None e s b = inr (d, b.0, b.1, e, of_one_kind (is_ascii_digit c) (is_ascii_digit d) s)
goes_on_by c d u (Some m) e s b = inl b

goes_on : (c : ℕ) (cs u : List ℕ) → seam_follows c cs ≡ false → BeginsAs cs u → GoesOn c u
goes_on c [] u s b = inl b
goes_on c (d ∷ ds) u s b = goes_on_by c d u (separator_mark d) refl s b

again : (a x y : Bool) → ((a && x) || ((true && not a) && y)) ≡ true → ((a && (a && x)) || ((true && not a) && ((true && not a) && y))) ≡ true
again true x y e = e
again false x y e = e

more_uniform : (c : ℕ) (u : List ℕ) → separator_mark c ≡ None → GoesOn c u → is_uniform u ≡ true → is_uniform (c ∷ u) ≡ true
more_uniform c u m (inl e) h = ap (λ w. is_uniform (c ∷ w)) e ∙ one_uniform c m
more_uniform c u m (inr g) h =
    let x = list_all is_ascii_digit g.1 in
    let y = list_all is_letter g.1 in
    let a = is_ascii_digit c in
    let known : ((a && x) || ((true && not a) && y)) ≡ true =
    sym (λ j. (g.4 j && x) || ((is_none (g.3 j) && not (g.4 j)) && y)) ∙ sym (ap is_uniform g.2) ∙ h in
    ap (λ w. is_uniform (c ∷ w)) g.2
    ∙ (λ j. (a && (g.4 j && x)) || ((is_none (m j) && not a) && ((is_none (g.3 j) && not (g.4 j)) && y)))
    ∙ again a x y known

or_more : (a b : Bool) → (a || false) ≡ true → (a || b) ≡ true
or_more true b e = refl
or_more false b e = absurd cc

as_before : (c d : ℕ) (u v x : List ℕ) → is_ascii_digit d ≡ is_ascii_digit c → alternate (c ∷ u) x ≡ alternate (d ∷ v) x
as_before c d u v [] e = refl
as_before c d u v (y ∷ ys) e = sym (λ j. cond (e j) (not (is_ascii_digit y)) (is_ascii_digit y))

more_fits : (c : ℕ) (u : List ℕ) (ts : List Token) → GoesOn c u → seam_fits u ts ≡ true → seam_fits (c ∷ u) ts ≡ true
more_fits c u [] g h = refl
more_fits c u (w ∷ ws) (inl e) h =
    or_more (not (is_seam w.mark)) (alternate (c ∷ u) w.text) (sym (λ j. not (is_seam w.mark) || alternate (e j) w.text) ∙ h)
more_fits c u (w ∷ ws) (inr g) h =
    (λ j. not (is_seam w.mark) || (as_before c g.0 u g.1 w.text g.4 ∙ sym (λ i. alternate (g.2 i) w.text)) j) ∙ h

at_inside : (c : ℕ) (cs : List ℕ) (t : Token) (ts : List Token) → separator_mark c ≡ None → seam_follows c cs ≡ false → IsCut cs t ts
    → IsCut (c ∷ cs) (record t { text = c ∷ t.text }) ts
at_inside c cs t ts m s h =
    let g = goes_on c cs t.text s h.begins in
    record {
      cut = λ j. before c (m j) (s j) (h.cut j);
      joins = ap (λ xs. c ∷ xs) h.joins;
      uniform = λ j. more_uniform c t.text m g (first_of_both (is_uniform t.text) (are_uniform ts) h.uniform) j
          && second_of_both (is_uniform t.text) (are_uniform ts) h.uniform j;
      seams = λ j. more_fits c t.text ts g (first_of_both (seam_fits t.text ts) (seams_fit ts) h.seams) j
          && second_of_both (seam_fits t.text ts) (seams_fit ts) h.seams j;
      begins = subst (λ o. BeginsBy c o (c ∷ t.text)) (sym m) (t.text, refl);
    }

cut_by : (c : ℕ) (cs : List ℕ) (o : Option Mark) (b : Bool) → separator_mark c ≡ o → seam_follows c cs ≡ b
    → (t : Token) (ts : List Token) → IsCut cs t ts → (t : Token) × (ts : List Token) × IsCut (c ∷ cs) t ts
cut_by c cs (Some k) b m s t ts h = (dotted [], record t { mark = k } ∷ ts, at_separator c cs k t ts m h)
cut_by c cs None true m s t ts h = (dotted (c ∷ []), record t { mark = Seam } ∷ ts, at_seam c cs t ts m s h)
cut_by c cs None false m s t ts h = (record t { text = c ∷ t.text }, ts, at_inside c cs t ts m s h)

cut_of : (text : List ℕ) → (t : Token) × (ts : List Token) × IsCut text t ts
cut_of [] = (dotted [], [], record { cut = refl; joins = refl; uniform = refl; seams = refl; begins = refl })
cut_of (c ∷ cs) =
    let r = cut_of cs in
    cut_by c cs (separator_mark c) (seam_follows c cs) refl refl r.0 r.1 r.2

pub joined_tokens : (text : List ℕ) → joined (tokens text) ≡ text
joined_tokens text = let r = cut_of text in ap joined r.2.cut ∙ r.2.joins

pub uniform_tokens : (text : List ℕ) → list_all (λ t. is_uniform t.text) (tokens text) ≡ true
uniform_tokens text = let r = cut_of text in ap are_uniform r.2.cut ∙ r.2.uniform

pub seams_fit_tokens : (text : List ℕ) → seams_fit (tokens text) ≡ true
seams_fit_tokens text = let r = cut_of text in ap seams_fit r.2.cut ∙ r.2.seams
