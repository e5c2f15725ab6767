-- A walk over the frames of a file.
use Rattle.std.proofs.Common.{◌≡◌, ℕ, zero, suc, ◌+◌, ◌≤◌, Bool, true, false, List, [], ◌∷◌, length, take, drop, Result, Ok, Err, sym, ◌∙◌, ap, arith, length-drop}
use Rattle.std.specs.Prelude.{◌==◌, ◌&&◌, nat_lt, nat_le, nat_eq, if◌then◌else◌, Some}
use Rattle.std.specs.List.{starts_with}
use Rattle.record_log.specs.Frames.{Found, New, Foreign, Framed, nothing, cut_short, in_front, size_of, magic, found, frames, frames_of}
use Rattle.repo_model.specs.Tables.{Tables}
use Rattle.row_tables.specs.declared.faults.LoadFault.{LoadFault}
use Rattle.row_tables.specs.declared.faults.LoadFault.TheVariants.{Row}
use Rattle.row_tables.specs.Loading.{after_frame, next_frame, after_frames}

-- a file has no more frames than bytes
few_by : (p rest : List ℕ) (f : Found) (b c : Bool) → length f.payloads ≤ length rest → length (if b then (if c then in_front p f else cut_short) else nothing).payloads ≤ suc (length rest)
few_by p rest f true true few = omega (arith, few)
few_by p rest f true false few = omega arith
few_by p rest f false c few = omega arith

few_found : (n : ℕ) (bytes : List ℕ) → length (found n bytes).payloads ≤ length bytes
few_found zero [] = omega arith
few_found (suc n) [] = omega arith
few_found (suc n) (byte ∷ rest) = omega (arith, few_found n rest)
few_found zero (gate ∷ rest) =
    few_by (take (size_of rest) (drop 4 rest)) rest (found (4 + size_of rest) rest) ((gate == 1) && nat_lt 0 (length rest)) (nat_le (4 + size_of rest) (length rest)) (few_found (4 + size_of rest) rest)

some_is : (x y : Found) → Some x ≡ Some y → x ≡ y
some_is x y is = cc

few_magic : (file : List ℕ) (b c : Bool) (them : Found) → frames_of (if b then New else (if c then Framed (found 0 (drop 8 file)) else Foreign)) ≡ Some them → length them.payloads ≤ length file
few_magic file true c them is = omega (arith, ap (λ (f : Found). length f.payloads) (some_is nothing them is))
few_magic file false true them is = omega (arith, ap (λ (f : Found). length f.payloads) (some_is (found 0 (drop 8 file)) them is), few_found 0 (drop 8 file), length-drop 8 file)
few_magic file false false them is = absurd cc

pub few_frames : (file : List ℕ) (them : Found) → frames_of (frames file) ≡ Some them → length them.payloads ≤ length file
few_frames file them is = few_magic file (nat_le (length file) 9) (starts_with nat_eq file magic) them is

-- one step of the walk: `all` is what the frames build up
module _ (all : Result Tables LoadFault) (frame : ℕ) (t : Tables) (left : Found) (so_far : after_frames frame left.is_cut t left.payloads ≡ all) where
  abbrev at_front : List ℕ → Found → Result Tables LoadFault
  at_front payload rest = next_frame frame (λ u. after_frames (frame + 1) rest.is_cut u rest.payloads) (after_frame t payload)

  front : (payload : List ℕ) (rest : Found) → left ≡ in_front payload rest → at_front payload rest ≡ all
  front payload rest is = (λ i. after_frames frame (sym is i).is_cut t (sym is i).payloads) ∙ so_far

  pub goes_on : (payload : List ℕ) (rest : Found) (u : Tables) → left ≡ in_front payload rest → after_frame t payload ≡ Ok u → after_frames (frame + 1) rest.is_cut u rest.payloads ≡ all
  goes_on payload rest u is next = ap (next_frame frame (λ v. after_frames (frame + 1) rest.is_cut v rest.payloads)) (sym next) ∙ front payload rest is

  pub crashes : (payload : List ℕ) (rest : Found) (at : ℕ) → left ≡ in_front payload rest → after_frame t payload ≡ Err at → all ≡ Err (Row frame at)
  crashes payload rest at is next = sym (front payload rest is) ∙ ap (next_frame frame (λ v. after_frames (frame + 1) rest.is_cut v rest.payloads)) next

  pub ends : left ≡ nothing → all ≡ Ok t
  ends is = sym so_far ∙ (λ i. after_frames frame (is i).is_cut t (is i).payloads)

pub fewer : (left rest : Found) (payload : List ℕ) → left ≡ in_front payload rest → length left.payloads ≡ suc (length rest.payloads)
fewer left rest payload is = ap (λ (f : Found). length f.payloads) is
