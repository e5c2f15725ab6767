-- No row of a directory is passed over by a step.
use Rattle.std.proofs.Common.{◌≡◌, ℕ, Bool, true, false, List, [], ◌∷◌, ◌++◌, Option, Some, None, Less, refl, sym, ap, ◌∙◌, subst, ◌⊎◌, inl, inr, ⊎_elim, append_assoc}
use Rattle.std.specs.Prelude.{is_some}
use Rattle.std.proofs.lemmas.Bool.{false≢true}
use Rattle.mvn_coords.specs.Layout.{Directory}
use Rattle.mvn_coords.proofs.Levels.{Whole}
use Rattle.repo_model.specs.Paths.{file_at, stands_in}
use Rattle.directory_rows.specs.Walks.{IsWalkOf}
use Rattle.directory_rows.proofs.DirectoryForms.{stands, artifact_row, snapshot_row}
use Rattle.directory_rows.proofs.TextLemmas.{cmp, UpTo, cmp-append, UpTo-append, append-UpTo, UpTo-front, UpTo-trans, not_before, segment_after, below_or_after, after_front}

some_version : (o : Option (List ℕ)) → true ≡ is_some o → (v : List ℕ) × (o ≡ Some v)
some_version None h = absurd (false≢true (sym h))
some_version (Some v) h = (v, refl)

no_version : (o : Option (List ℕ)) → false ≡ is_some o → o ≡ None
no_version None h = refl
no_version (Some v) h = absurd (false≢true h)

-- a row of a snapshot directory, and one of an artifact's
pub record Among (base word q : List ℕ) : Type 0 where
  pub rest : List ℕ
  pub path : q ≡ base ++ (word ++ rest)
  pub whole : Whole (word ++ rest)

pub record Below (base word q : List ℕ) : Type 0 where
  pub version : List ℕ
  pub rest : List ℕ
  pub path : q ≡ base ++ (version ++ 47 ∷ (word ++ rest))
  pub whole_version : Whole version
  pub whole : Whole (word ++ rest)

word_first : (artifact rest : List ℕ) → artifact ++ 45 ∷ rest ≡ (artifact ++ 45 ∷ []) ++ rest
word_first artifact rest = sym (append_assoc artifact (45 ∷ []) rest)

pub among : (d : Directory) (base word q : List ℕ) → IsWalkOf d base word true → stands_in d (file_at q) ≡ true → Among base word q
among d base word q walk h =
    let s = stands d q h in
    let v = some_version d.version walk.level_is in
    record {
      rest = s.rest;
      path = snapshot_row d q v.0 s v.1 ∙ (λ i. sym walk.base_is i ++ (sym walk.word_is i ++ s.rest));
      whole = subst Whole (word_first d.artifact s.rest ∙ ap (λ w. w ++ s.rest) (sym walk.word_is)) s.whole_name;
    }

pub below : (d : Directory) (base word q : List ℕ) → IsWalkOf d base word false → stands_in d (file_at q) ≡ true → Below base word q
below d base word q walk h =
    let s = stands d q h in
    record {
      version = s.version;
      rest = s.rest;
      path = artifact_row d q s (no_version d.version walk.level_is) ∙ (λ i. sym walk.base_is i ++ (s.version ++ 47 ∷ (sym walk.word_is i ++ s.rest)));
      whole_version = s.whole_version;
      whole = subst Whole (word_first d.artifact s.rest ∙ ap (λ w. w ++ s.rest) (sym walk.word_is)) s.whole_name;
    }

-- ---- in a snapshot directory
module _ (base word name : List ℕ) where
  abbrev here : List ℕ
  here = base ++ name

  up_name : (q : List ℕ) (a : Among base word q) → UpTo (base ++ name) q → UpTo name (word ++ a.rest)
  up_name q a up = UpTo-append base name (word ++ a.rest) (subst (UpTo (base ++ name)) a.path up)

  pub among_after : (q : List ℕ) → Among base word q → ((rest : List ℕ) → cmp (word ++ rest) name ≡ Less) → UpTo (base ++ name) q → ⊥
  among_after q a after up = not_before (word ++ a.rest) name (after a.rest) (up_name q a up)

  pub among_before : (q : List ℕ) → Among base word q → UpTo (base ++ word) q
  among_before q a = subst (UpTo (base ++ word)) (sym a.path) (append-UpTo base word (word ++ a.rest) (UpTo-front word a.rest))

  pub among_deeper : (q front rest : List ℕ) → Among base word q → name ≡ front ++ 47 ∷ rest → UpTo (base ++ name) q → UpTo (base ++ (front ++ 48 ∷ [])) q
  among_deeper q front rest a is up =
      subst (UpTo (base ++ (front ++ 48 ∷ []))) (sym a.path) (append-UpTo base (front ++ 48 ∷ []) (word ++ a.rest)
      (segment_after front rest (word ++ a.rest) a.whole (subst (λ n. UpTo n (word ++ a.rest)) is (up_name q a up))))

pub deeper_less : (base front rest name : List ℕ) → name ≡ front ++ 47 ∷ rest → cmp (base ++ name) (base ++ (front ++ 48 ∷ [])) ≡ Less
deeper_less base front rest name is =
    cmp-append base name (front ++ 48 ∷ []) ∙ ap (λ n. cmp n (front ++ 48 ∷ [])) is ∙ cmp-append front (47 ∷ rest) (48 ∷ [])

pub before_less : (base name word : List ℕ) → cmp name word ≡ Less → cmp (base ++ name) (base ++ word) ≡ Less
before_less base name word h = cmp-append base name word ∙ h

-- ---- in a version directory
module _ (base word version name : List ℕ) (whole : Whole version) where
  -- such a row stands in this version directory, or after all of it
  sides : (q : List ℕ) (b : Below base word q) → UpTo (base ++ (version ++ 47 ∷ name)) q → (UpTo name (word ++ b.rest) × (b.version ≡ version)) ⊎ UpTo (version ++ 48 ∷ []) (b.version ++ 47 ∷ (word ++ b.rest))
  sides q b up =
      let inner : UpTo (version ++ 47 ∷ name) (b.version ++ 47 ∷ (word ++ b.rest)) = UpTo-append base (version ++ 47 ∷ name) (b.version ++ 47 ∷ (word ++ b.rest)) (subst (UpTo (base ++ (version ++ 47 ∷ name))) b.path up) in
      ⊎_elim (λ same. inl (UpTo-append version (47 ∷ name) (47 ∷ (word ++ b.rest)) (subst (λ v. UpTo (version ++ 47 ∷ name) (v ++ 47 ∷ (word ++ b.rest))) same inner), same)) (λ behind. inr behind)
      (below_or_after version name b.version (word ++ b.rest) whole b.whole_version inner)

  to_path : (q next : List ℕ) (b : Below base word q) → UpTo next (b.version ++ 47 ∷ (word ++ b.rest)) → UpTo (base ++ next) q
  to_path q next b up = subst (UpTo (base ++ next)) (sym b.path) (append-UpTo base next (b.version ++ 47 ∷ (word ++ b.rest)) up)

  -- what lies below version/ lies before all after it
  within : (x : List ℕ) → UpTo (version ++ 47 ∷ x) (version ++ 48 ∷ [])
  within x = append-UpTo version (47 ∷ x) (48 ∷ []) refl

  pub below_after : (q : List ℕ) → Below base word q → ((rest : List ℕ) → cmp (word ++ rest) name ≡ Less) → UpTo (base ++ (version ++ 47 ∷ name)) q → UpTo (base ++ (version ++ 48 ∷ [])) q
  below_after q b after up =
      to_path q (version ++ 48 ∷ []) b (⊎_elim (λ inside. absurd (not_before (word ++ b.rest) name (after b.rest) inside.0)) (λ behind. behind) (sides q b up))

  pub below_before : (q : List ℕ) → Below base word q → UpTo (base ++ (version ++ 47 ∷ name)) q → UpTo (base ++ (version ++ 47 ∷ word)) q
  below_before q b up =
      to_path q (version ++ 47 ∷ word) b (⊎_elim
      (λ inside. subst (λ v. UpTo (version ++ 47 ∷ word) (v ++ 47 ∷ (word ++ b.rest))) (sym inside.1) (append-UpTo version (47 ∷ word) (47 ∷ (word ++ b.rest)) (UpTo-front word b.rest)))
      (λ behind. UpTo-trans (version ++ 47 ∷ word) (version ++ 48 ∷ []) (b.version ++ 47 ∷ (word ++ b.rest)) (within word) behind)
      (sides q b up))

  pub below_deeper : (q front rest : List ℕ) → Below base word q → name ≡ front ++ 47 ∷ rest → UpTo (base ++ (version ++ 47 ∷ name)) q → UpTo (base ++ (version ++ 47 ∷ (front ++ 48 ∷ []))) q
  below_deeper q front rest b is up =
      to_path q (version ++ 47 ∷ (front ++ 48 ∷ [])) b (⊎_elim
      (λ inside. subst (λ v. UpTo (version ++ 47 ∷ (front ++ 48 ∷ [])) (v ++ 47 ∷ (word ++ b.rest))) (sym inside.1)
      (append-UpTo version (47 ∷ (front ++ 48 ∷ [])) (47 ∷ (word ++ b.rest)) (segment_after front rest (word ++ b.rest) b.whole (subst (λ n. UpTo n (word ++ b.rest)) is inside.0))))
      (λ behind. UpTo-trans (version ++ 47 ∷ (front ++ 48 ∷ [])) (version ++ 48 ∷ []) (b.version ++ 47 ∷ (word ++ b.rest)) (within (front ++ 48 ∷ [])) behind)
      (sides q b up))

pub below_after_less : (base version name : List ℕ) → cmp (base ++ (version ++ 47 ∷ name)) (base ++ (version ++ 48 ∷ [])) ≡ Less
below_after_less base version name = cmp-append base (version ++ 47 ∷ name) (version ++ 48 ∷ []) ∙ cmp-append version (47 ∷ name) (48 ∷ [])

pub below_before_less : (base version name word : List ℕ) → cmp name word ≡ Less → cmp (base ++ (version ++ 47 ∷ name)) (base ++ (version ++ 47 ∷ word)) ≡ Less
below_before_less base version name word h = cmp-append base (version ++ 47 ∷ name) (version ++ 47 ∷ word) ∙ cmp-append version (47 ∷ name) (47 ∷ word) ∙ h

pub below_deeper_less : (base version front rest name : List ℕ) → name ≡ front ++ 47 ∷ rest → cmp (base ++ (version ++ 47 ∷ name)) (base ++ (version ++ 47 ∷ (front ++ 48 ∷ []))) ≡ Less
below_deeper_less base version front rest name is =
    cmp-append base (version ++ 47 ∷ name) (version ++ 47 ∷ (front ++ 48 ∷ [])) ∙ cmp-append version (47 ∷ name) (47 ∷ (front ++ 48 ∷ []))
    ∙ ap (λ n. cmp n (front ++ 48 ∷ [])) is ∙ cmp-append front (47 ∷ rest) (48 ∷ [])

-- ---- before and after the directory
pub in_front : (d : Directory) (base word q : List ℕ) (level : Bool) → IsWalkOf d base word level → stands_in d (file_at q) ≡ true → (x : List ℕ) × (q ≡ base ++ x)
in_front d base word q true walk h = let a = among d base word q walk h in (word ++ a.rest, a.path)
in_front d base word q false walk h = let b = below d base word q walk h in (b.version ++ 47 ∷ (word ++ b.rest), b.path)

pub past : (d : Directory) (base word path q : List ℕ) (level : Bool) → IsWalkOf d base word level → ((x : List ℕ) → path ≡ base ++ x → ⊥) → UpTo base path → stands_in d (file_at q) ≡ true → UpTo path q → ⊥
past d base word path q level walk other up h behind =
    let f = in_front d base word q level walk h in
    not_before (base ++ f.0) path (after_front base path other up f.0) (subst (UpTo path) f.1 behind)
