-- The steps by which a path gets its kind.
use Rattle.std.proofs.Common.{◌≡◌, ℕ, true, false, eqb, ltb, List, length, Ok, Err, refl}
use Rattle.std.specs.List.{list_all}
use Rattle.mvn_coords.specs.declared.fault.PathFault.{PathFault}
use Rattle.mvn_coords.specs.declared.fault.PathFault.TheVariants as fault
use Rattle.mvn_coords.specs.Segment.{levels, is_segment}
use Rattle.mvn_coords.specs.Path.{Cut, parts_of, cut_side}
use Rattle.mvn_coords.specs.Kind.{kind, kind_by}

-- the steps before a path is cut
pub kind_cut : (path : List ℕ) (cut : Cut) → eqb (length path) 0 ≡ false → ltb 1024 (length path) ≡ false → list_all is_segment (levels path) ≡ true → cut_side path ≡ Ok cut → kind path ≡ kind_by cut
unfolding parts_of
kind_cut path cut filled short ok e = rw (filled, short, ok, e) refl

pub kind_empty : (path : List ℕ) → eqb (length path) 0 ≡ true → kind path ≡ Err fault.Empty
unfolding parts_of
kind_empty path h = rw h refl

pub kind_long : (path : List ℕ) → eqb (length path) 0 ≡ false → ltb 1024 (length path) ≡ true → kind path ≡ Err fault.Long
unfolding parts_of
kind_long path f h = rw (f, h) refl

pub kind_bad : (path : List ℕ) → eqb (length path) 0 ≡ false → ltb 1024 (length path) ≡ false → list_all is_segment (levels path) ≡ false → kind path ≡ Err fault.BadSegment
unfolding parts_of
kind_bad path f s h = rw (f, s, h) refl

pub kind_side : (path : List ℕ) (e : PathFault) → eqb (length path) 0 ≡ false → ltb 1024 (length path) ≡ false → list_all is_segment (levels path) ≡ true → cut_side path ≡ Err e → kind path ≡ Err e
unfolding parts_of
kind_side path e f s ok h = rw (f, s, ok, h) refl
