-- The attributes and the end of a tag, cut by cut.
use Rattle.std.proofs.Common.{ℕ, zero, suc, ◌≡◌, ◌<◌, ◌≤◌, ◌∙◌, ap, Bool, true, false, cond, List, [], ◌∷◌, length, Option, Some, None, arith, refl}
use Rattle.xml_subset.specs.Cut.{begins, is_white, or_else, without_white, ◌>>=◌}
use Rattle.xml_subset.specs.Tag.{attribute, tag_end, tag_rest}
use Rattle.xml_subset.proofs.Shorter.{AtMost, attribute_shorter, rest_lengthened, some_at_most, white_front}

-- the attribute after white space leaves less than the text
attribute_after : (c : ℕ) (text : List ℕ) → is_white c ≡ true → AtMost (length text) (attribute (without_white (c ∷ text)))
attribute_after c text white =
    rest_lengthened (length (without_white (c ∷ text))) (length text) (attribute (without_white (c ∷ text)))
    (white_front c text white) (attribute_shorter (without_white (c ∷ text)))

same_bind : {B : Type 0} (n : ℕ) (o : Option (List ℕ)) (f g : List ℕ → Option B) → AtMost n o → ((x : List ℕ) → length x ≤ n → f x ≡ g x) → (o >>= f) ≡ (o >>= g)
same_bind n None f g h k = refl
same_bind n (Some x) f g h k = k x h

same_where : {B : Type 0} (b : Bool) (x y : Option B) → (b ≡ true → x ≡ y) → cond b x None ≡ cond b y None
same_where true x y h = h refl
same_where false x y h = refl

-- more attributes than bytes make no difference
pub tag_rest-same : (m n : ℕ) (text : List ℕ) → length text ≤ m → length text ≤ n → tag_rest m text ≡ tag_rest n text
tag_rest-same zero zero text h k = refl
tag_rest-same zero (suc n) [] h k = refl
tag_rest-same (suc m) zero [] h k = refl
tag_rest-same (suc m) (suc n) [] h k = refl
tag_rest-same zero (suc n) (c ∷ text) h k = absurd (omega arith)
tag_rest-same (suc m) zero (c ∷ text) h k = absurd (omega arith)
tag_rest-same (suc m) (suc n) (c ∷ text) h k =
    ap (or_else (tag_end (without_white (c ∷ text))))
    (same_where (is_white c) (attribute (without_white (c ∷ text)) >>= tag_rest m) (attribute (without_white (c ∷ text)) >>= tag_rest n)
    (λ white. same_bind (length text) (attribute (without_white (c ∷ text))) (tag_rest m) (tag_rest n) (attribute_after c text white)
    (λ x le. tag_rest-same m n x (omega arith) (omega arith))))

-- the end of the tag
pub tag_rest-end : (n : ℕ) (text : List ℕ) (end : Bool × List ℕ) → tag_end (without_white text) ≡ Some end → tag_rest n text ≡ Some end
tag_rest-end zero text end h = h
tag_rest-end (suc n) text end h = ap (λ o. or_else o (cond (begins is_white text) (attribute (without_white text) >>= tag_rest n) None)) h

pub attribute_less : (text rest : List ℕ) → begins is_white text ≡ true → attribute (without_white text) ≡ Some rest → length rest < length text
attribute_less [] rest white found = absurd cc
attribute_less (c ∷ text) rest white found =
    omega (arith, some_at_most (length text) (attribute (without_white (c ∷ text))) rest found (attribute_after c text white))

pub tag_next : (b : Bool) (o : Option (Bool × List ℕ)) (a : Option (List ℕ)) (rest : List ℕ) (f : List ℕ → Option (Bool × List ℕ)) → o ≡ None → b ≡ true → a ≡ Some rest → or_else o (cond b (a >>= f) None) ≡ f rest
tag_next b o a rest f e white found = ap (λ o. or_else o (cond b (a >>= f) None)) e ∙ ap (λ b. cond b (a >>= f) None) white ∙ ap (λ a. a >>= f) found

-- one more attribute
pub tag_rest-more : (text rest : List ℕ) → tag_end (without_white text) ≡ None → begins is_white text ≡ true → attribute (without_white text) ≡ Some rest → tag_rest (length text) text ≡ tag_rest (length rest) rest
tag_rest-more [] rest e white found = absurd cc
tag_rest-more (c ∷ text) rest e white found =
    tag_next (is_white c) (tag_end (without_white (c ∷ text))) (attribute (without_white (c ∷ text))) rest (tag_rest (length text)) e white found
    ∙ tag_rest-same (length text) (length rest) rest
    (some_at_most (length text) (attribute (without_white (c ∷ text))) rest found (attribute_after c text white)) (omega arith)
