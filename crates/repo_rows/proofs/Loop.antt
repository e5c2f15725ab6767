-- Reading items one after the other, as a loop does.
use Rattle.std.proofs.Common.{◌≡◌, ℕ, suc, ◌-◌, ◌+◌, ◌≤◌, ◌<◌, List, [], ◌∷◌, ◌++◌, Result, Ok, Err, refl, sym, ap, ◌∙◌, append_assoc, arith}
use Rattle.std.proofs.lemmas.List.{append-nil}
use Rattle.repo_model.specs.declared.item.Item.{Item}
use Rattle.repo_rows.specs.declared.faults.ReadFault.{ReadFault}
use Rattle.repo_rows.specs.declared.faults.ReadFault.TheVariants as faults
use Rattle.row_tables.specs.declared.version.Version.{Version}
use Rattle.repo_rows.specs.Given.{Fails}
use Rattle.row_tables.specs.Reading.{◌>>=◌, item_at, items_at}

-- what was read before, and what is still read
abbrev pub with_front : List Item → Result (List Item × List ℕ) ℕ → Result (List Item × List ℕ) ℕ
with_front front read = read >>= λ x. Ok (front ++ x.0, x.1)

regroup : (front : List Item) (n : Item) (read : Result (List Item × List ℕ) ℕ) → with_front front (read >>= λ x. Ok (n ∷ x.0, x.1)) ≡ with_front (front ++ n ∷ []) read
regroup front n (Ok x) = ap (λ (ns : List Item). Ok (ns, x.1)) (simp append_assoc)
regroup front n (Err f) = refl

pub goes_on : (version : Version) (front : List Item) (count i : ℕ) (bytes : List ℕ) (n : Item) (after : List ℕ) (total : Result (List Item × List ℕ) ℕ) → i < count → item_at version bytes ≡ Ok (n, after)
    → with_front front (items_at version (count - i) bytes) ≡ total → with_front (front ++ n ∷ []) (items_at version (count - (i + 1)) after) ≡ total
unfolding items_at
goes_on version front count i bytes n after total lt h so_far =
    let k : count - i ≡ suc (count - (i + 1)) = omega arith in
    let one : with_front front (items_at version (count - i) bytes) ≡ with_front (front ++ n ∷ []) (items_at version (count - (i + 1)) after) = rw (k, h) (regroup front n (items_at version (count - (i + 1)) after)) in
    sym one ∙ so_far

pub ends : (version : Version) (e : ReadFault) (front : List Item) (count i : ℕ) (bytes : List ℕ) (total : Result (List Item × List ℕ) ℕ) → i < count → Fails e (item_at version bytes)
    → with_front front (items_at version (count - i) bytes) ≡ total → Fails e total
unfolding items_at
ends version faults.NoMemory front count i bytes total lt h so_far = tt
ends version (faults.Refused f) front count i bytes total lt h so_far =
    let k : count - i ≡ suc (count - (i + 1)) = omega arith in
    let one : with_front front (items_at version (count - i) bytes) ≡ Err f = rw (k, h) refl in
    sym so_far ∙ one

pub is_done : (version : Version) (front : List Item) (count i : ℕ) (bytes : List ℕ) (total : Result (List Item × List ℕ) ℕ) → count ≤ i → with_front front (items_at version (count - i) bytes) ≡ total → total ≡ Ok (front, bytes)
unfolding items_at
is_done version front count i bytes total le so_far =
    let k : count - i ≡ 0 = omega arith in
    let one : with_front front (items_at version (count - i) bytes) ≡ Ok (front, bytes) = rw k (ap (λ (ns : List Item). Ok (ns, bytes)) (append-nil front)) in
    sym so_far ∙ one
