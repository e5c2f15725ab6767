-- What stays on shelves, and what is forgotten.
use native.Mathlib.Omega.{arith}
use Rattle.std.proofs.Common.{◌≡◌, ℕ, ◌+◌, ◌<◌, ◌≤◌, Bool, true, false, cond, ◌||◌, List, [], ◌∷◌, ◌++◌, length, get_or, set, suc, zero, Option, Some, None, inl, inr, bytes_eq, append-nil, refl, sym, ap, ◌∙◌, subst}
use Rattle.std.proofs.lemmas.Bool.{cases_order, false_from_ne_true}
use Rattle.std.proofs.lemmas.List.{get_or_default, get_or-set_other, get_or-set_same, length-set}
use Rattle.std.proofs.lemmas.Slice.Eq.{bytes_eq-Decides}
use Rattle.mvn_coords.specs.Layout.{Directory, text_of_directory, version_part}
use Rattle.mvn_coords.specs.Path.{IsDirectory}
use Rattle.mvn_coords.specs.Segment.{levels, path_of_levels}
use Rattle.mvn_coords.proofs.Levels.{filled, levels_below, path_of_levels-levels}
use Rattle.mvn_metadata.specs.Document.{Document, merge}
use Rattle.directory_rows.proofs.DirectoryForms.{stands}
use Rattle.group_view.specs.Shelved.{shelved_at}
use Rattle.group_view.specs.declared.shelf.GroupShelf.{GroupShelf}
use Rattle.repo_model.specs.Data.{Hosted, Proxy}
use Rattle.repo_model.specs.Paths.{file_at, same_version, stands_in}
use Rattle.repo_model.specs.Settings.{GroupRule}
use Rattle.repo_model.specs.Turn.{with_some}
use Rattle.repo_parts.specs.Shelves.{AreShelved, HasForgotten, HaveForgotten, IsShelved, document_now, documents_now, is_above, is_above_file}
use Rattle.repo_parts.proofs.AmongLemmas.{or-right}

-- ---- which paths are above another
pub no-file-above : (path text : List ℕ) → levels path ≡ path ∷ [] → is_above_file (levels path) text ≡ false
no-file-above path text one = ap (λ ls. is_above_file ls text) one

pub one-above : (path directory name text : List ℕ) → levels path ≡ name ∷ levels directory → levels directory ≡ directory ∷ [] → is_above_file (levels path) text ≡ false
one-above path directory name text first one = ap (λ ls. is_above_file ls text) (first ∙ ap (λ ls. name ∷ ls) one)

pub two-above : (path version artifact name v text : List ℕ) → levels path ≡ name ∷ levels version → levels version ≡ v ∷ levels artifact
    → is_above_file (levels path) text ≡ (bytes_eq text version || bytes_eq text artifact)
two-above path version artifact name v text first second =
    let f = filled artifact in
    let above = f.last ∷ f.above in
    ap (λ ls. is_above_file ls text) (first ∙ ap (λ ls. name ∷ ls) second ∙ ap (λ ls. name ∷ v ∷ ls) f.split)
    ∙ ap (λ p. bytes_eq text p || bytes_eq text (path_of_levels above)) (ap path_of_levels (sym (second ∙ ap (λ ls. v ∷ ls) f.split)) ∙ path_of_levels-levels version)
    ∙ ap (λ p. bytes_eq text version || bytes_eq text p) (ap path_of_levels (sym f.split) ∙ path_of_levels-levels artifact)

pub none-above : (path text : List ℕ) → levels path ≡ path ∷ [] → is_above (levels path) text ≡ false
none-above path text one = ap (λ ls. is_above ls text) one

pub right-above : (path directory name text : List ℕ) → levels path ≡ name ∷ levels directory → is_above (levels path) text ≡ bytes_eq text directory
right-above path directory name text first =
    let f = filled directory in
    ap (λ ls. is_above ls text) (first ∙ ap (λ ls. name ∷ ls) f.split) ∙ ap (λ p. bytes_eq text p) (ap path_of_levels (sym f.split) ∙ path_of_levels-levels directory)

-- one after the other is both
pub forgot-two : (a b : Bool) (doc : Option Document) → cond b None (cond a None doc) ≡ cond (a || b) None doc
forgot-two true true doc = refl
forgot-two true false doc = refl
forgot-two false true doc = refl
forgot-two false false doc = refl

-- the directories in which a file stands are above it
abbrev home_of : Directory → List ℕ
home_of d = d.group ++ 47 ∷ d.artifact

above-stands : (d : Directory) (path : List ℕ) → stands_in d (file_at path) ≡ true → is_above_file (levels path) (text_of_directory d) ≡ true
above-stands d path there =
    let s = stands d path there in
    let version = home_of d ++ 47 ∷ s.version in
    let first : levels path ≡ (d.artifact ++ 45 ∷ s.rest) ∷ levels version = ap levels s.path ∙ levels_below version (d.artifact ++ 45 ∷ s.rest) s.whole_name in
    let second : levels version ≡ s.version ∷ levels (home_of d) = levels_below (home_of d) s.version s.whole_version in
    let text : text_of_directory d ≡ home_of d ++ version_part d.version = ap (λ b. cond b (home_of d) d.artifact ++ version_part d.version) s.group in
    two-above path version (home_of d) (d.artifact ++ 45 ∷ s.rest) s.version (text_of_directory d) first second
    ∙ elim d.version as (λ v. d.version ≡ v → (bytes_eq (text_of_directory d) version || bytes_eq (text_of_directory d) (home_of d)) ≡ true) [
      | None ↦ λ none.
          let at : text_of_directory d ≡ home_of d = text ∙ ap (λ v. home_of d ++ version_part v) none ∙ append-nil (home_of d) in
          or-right (bytes_eq (text_of_directory d) version) (bytes_eq (text_of_directory d) (home_of d)) ((bytes_eq-Decides (text_of_directory d) (home_of d)).1 at)
      | Some v ↦ λ some.
          let whole : v ≡ s.version = (bytes_eq-Decides v s.version).0 (sym (ap (λ o. same_version o s.version) some) ∙ s.is_version) in
          let at : text_of_directory d ≡ version = text ∙ ap (λ o. home_of d ++ version_part o) some ∙ ap (λ w. home_of d ++ 47 ∷ w) whole in
          ap (λ b. b || bytes_eq (text_of_directory d) (home_of d)) ((bytes_eq-Decides (text_of_directory d) version).1 at)
    ] refl

pub stands-not : (d : Directory) (path : List ℕ) → is_above_file (levels path) (text_of_directory d) ≡ false → stands_in d (file_at path) ≡ false
stands-not d path not_gone =
    false_from_ne_true (stands_in d (file_at path)) (λ there. let wrong : true ≡ false = sym (above-stands d path there) ∙ not_gone in cc)

-- ---- shelves one after the other
-- those before a place have forgotten, and those from it on are as they were
pub record IsSwept (gone : List ℕ → Bool) (olds news : List GroupShelf) (i : ℕ) : Type 0 where
  pub same : length news ≡ length olds
  pub front : (k : ℕ) (d : GroupShelf) → k < i → HasForgotten gone (get_or olds k d) (get_or news k d)
  pub rest : (k : ℕ) (d : GroupShelf) → i ≤ k → get_or news k d ≡ get_or olds k d

pub swept-start : (gone : List ℕ → Bool) (shelves : List GroupShelf) → IsSwept gone shelves shelves 0
swept-start gone shelves = record { same = refl; front = λ k d below. absurd (let never : ⊥ = omega (arith, below) in never); rest = λ k d from. refl }

swept : (gone : List ℕ → Bool) (olds news : List GroupShelf) → length news ≡ length olds → ((k : ℕ) (d : GroupShelf) → k < length olds → HasForgotten gone (get_or olds k d) (get_or news k d)) → HaveForgotten gone olds news
swept gone [] [] same all = tt
swept gone [] (n ∷ news) same all = absurd (let never : ⊥ = omega (arith, same) in never)
swept gone (o ∷ olds) [] same all = absurd (let never : ⊥ = omega (arith, same) in never)
swept gone (o ∷ olds) (n ∷ news) same all =
    (all 0 o (omega arith), swept gone olds news (omega (arith, same)) (λ k d below. all (suc k) d (omega (arith, below))))

pub swept-all : (gone : List ℕ → Bool) (olds news : List GroupShelf) (i : ℕ) → length olds ≤ i → IsSwept gone olds news i → HaveForgotten gone olds news
swept-all gone olds news i far s = swept gone olds news s.same (λ k d below. s.front k d (omega (arith, below, far)))

-- ---- what is not gone stays right
module _ (hosted new_hosted : List Hosted) (proxies new_proxies : List Proxy) (gone : List ℕ → Bool) where
  -- each directory whose document is not gone has members with the documents that they had
  abbrev pub AreStill : Type 0
  AreStill = (d : Directory) → IsDirectory d → gone (text_of_directory d) ≡ false → (id : List ℕ) → document_now new_hosted new_proxies d id ≡ document_now hosted proxies d id

  same-documents : (d : Directory) → ((id : List ℕ) → document_now new_hosted new_proxies d id ≡ document_now hosted proxies d id) → (ids : List (List ℕ))
      → documents_now new_hosted new_proxies d ids ≡ documents_now hosted proxies d ids
  same-documents d same [] = refl
  same-documents d same (id ∷ ids) = λ i. with_some (same id i) (same-documents d same ids i)

  shelf-still : (ids : List (List ℕ)) (old new : GroupShelf) → AreStill → HasForgotten gone old new → IsShelved hosted proxies ids old → IsShelved new_hosted new_proxies ids new
  shelf-still ids old new still forgot right d rule doc is =
      elim (gone (text_of_directory d))
      as (λ b. gone (text_of_directory d) ≡ b → merge (documents_now new_hosted new_proxies d ids) ≡ Some doc) [
        | true ↦ λ yes.
            let none : shelved_at (text_of_directory d) new ≡ None = forgot (text_of_directory d) ∙ ap (λ b. cond b None (shelved_at (text_of_directory d) old)) yes in
            absurd (let wrong : None ≡ Some doc = sym none ∙ is in cc)
        | false ↦ λ not_gone.
            let stays : shelved_at (text_of_directory d) new ≡ shelved_at (text_of_directory d) old = forgot (text_of_directory d) ∙ ap (λ b. cond b None (shelved_at (text_of_directory d) old)) not_gone in
            ap merge (same-documents d (still d rule not_gone) ids) ∙ right d rule doc (sym stays ∙ is)
      ] refl

  pub shelves-still : (groups : List GroupRule) (olds news : List GroupShelf) → AreStill → HaveForgotten gone olds news → AreShelved groups hosted proxies olds → AreShelved groups new_hosted new_proxies news
  shelves-still [] [] [] still forgot right = tt
  shelves-still [] [] (n ∷ news) still forgot right = absurd forgot
  shelves-still [] (o ∷ olds) news still forgot right = absurd right
  shelves-still (g ∷ groups) [] news still forgot right = absurd right
  shelves-still (g ∷ groups) (o ∷ olds) [] still forgot right = absurd forgot
  shelves-still (g ∷ groups) (o ∷ olds) (n ∷ news) still forgot right =
      (shelf-still g.members o n still forgot.0 right.0, shelves-still groups olds news still forgot.1 right.1)

-- ---- the shelf at a group's place
module _ (hosted : List Hosted) (proxies : List Proxy) where
  pub as-many : (groups : List GroupRule) (shelves : List GroupShelf) → AreShelved groups hosted proxies shelves → length shelves ≡ length groups
  as-many [] [] right = refl
  as-many [] (s ∷ shelves) right = absurd right
  as-many (g ∷ groups) [] right = absurd right
  as-many (g ∷ groups) (s ∷ shelves) right = ap suc (as-many groups shelves right.1)

  pub shelf-at : (groups : List GroupRule) (shelves : List GroupShelf) (i : ℕ) (g : GroupRule) (s : GroupShelf) → i < length groups → AreShelved groups hosted proxies shelves
      → IsShelved hosted proxies (get_or groups i g).members (get_or shelves i s)
  shelf-at [] shelves i g s within right = absurd (let never : ⊥ = omega (arith, within) in never)
  shelf-at (x ∷ groups) [] i g s within right = absurd right
  shelf-at (x ∷ groups) (y ∷ shelves) zero g s within right = right.0
  shelf-at (x ∷ groups) (y ∷ shelves) (suc i) g s within right = shelf-at groups shelves i g s (omega (arith, within)) right.1

  pub shelf-set : (groups : List GroupRule) (shelves : List GroupShelf) (i : ℕ) (g : GroupRule) (new : GroupShelf) → i < length groups → AreShelved groups hosted proxies shelves
      → IsShelved hosted proxies (get_or groups i g).members new → AreShelved groups hosted proxies (set shelves i new)
  shelf-set [] shelves i g new within right one = absurd (let never : ⊥ = omega (arith, within) in never)
  shelf-set (x ∷ groups) [] i g new within right one = absurd right
  shelf-set (x ∷ groups) (y ∷ shelves) zero g new within right one = (one, right.1)
  shelf-set (x ∷ groups) (y ∷ shelves) (suc i) g new within right one = (right.0, shelf-set groups shelves i g new (omega (arith, within)) right.1 one)

  pub shelves-more : (groups : List GroupRule) (shelves : List GroupShelf) (g : GroupRule) (s : GroupShelf) → AreShelved groups hosted proxies shelves → IsShelved hosted proxies g.members s
      → AreShelved (groups ++ g ∷ []) hosted proxies (shelves ++ s ∷ [])
  shelves-more [] [] g s right one = (one, tt)
  shelves-more [] (y ∷ shelves) g s right one = absurd right
  shelves-more (x ∷ groups) [] g s right one = absurd right
  shelves-more (x ∷ groups) (y ∷ shelves) g s right one = (right.0, shelves-more groups shelves g s right.1 one)

  pub empty-shelved : (ids : List (List ℕ)) (s : GroupShelf) → ((text : List ℕ) → shelved_at text s ≡ None) → IsShelved hosted proxies ids s
  empty-shelved ids s none d rule doc is = absurd (let wrong : None ≡ Some doc = sym (none (text_of_directory d)) ∙ is in cc)

-- one more shelf has forgotten
pub swept-more : (gone : List ℕ → Bool) (olds news : List GroupShelf) (i : ℕ) (before new : GroupShelf) → i < length news → before ≡ get_or news i before → HasForgotten gone before new
    → IsSwept gone olds news i → IsSwept gone olds (set news i new) (i + 1)
swept-more gone olds news i before new within at forgot s = record {
  same = length-set news i new ∙ s.same;
  front = λ k d below. by k d below;
  rest = λ k d from. get_or-set_other news i k new d (λ is. omega (arith, from, is)) ∙ s.rest k d (omega (arith, from));
}
  where
    by : (k : ℕ) (d : GroupShelf) → k < i + 1 → HasForgotten gone (get_or olds k d) (get_or (set news i new) k d)
    by k d below =
        elim (cases_order k i) as (λ _. HasForgotten gone (get_or olds k d) (get_or (set news i new) k d)) [
          | inl is ↦
              let was : before ≡ get_or olds i d = at ∙ get_or_default news i before d within ∙ s.rest i d (omega arith) in
              subst (λ j. HasForgotten gone (get_or olds j d) (get_or (set news i new) j d)) (sym is)
              (λ text. ap (shelved_at text) (get_or-set_same news i new d within) ∙ forgot text ∙ ap (λ sh. cond (gone text) None (shelved_at text sh)) was)
          | inr (inl less) ↦
              subst (λ x. HasForgotten gone (get_or olds k d) x) (sym (get_or-set_other news i k new d (λ is. omega (arith, less, is)))) (s.front k d less)
          | inr (inr more) ↦ absurd (let never : ⊥ = omega (arith, below, more) in never)
        ]
