-- Being one of some tables, and what a start reads among them.
use Rattle.std.proofs.Common.{◌⊎◌, List, [], ◌∷◌, ◌++◌, Option, Some, None, inl, inr, refl}
use Rattle.record_disk.specs.Disk.{Trace}
use Rattle.record_disk.proofs.Moments.{weaker}
use Rattle.repo_model.specs.declared.item.Item.{Item}
use Rattle.repo_model.specs.Tables.{Tables}
use Rattle.row_tables.specs.Crashes.{IsOneOf, ReadsAmong, CrashesLeave, left_by}

pub front : (t : Tables) (xs ys : List Tables) → IsOneOf t xs → IsOneOf t (xs ++ ys)
front t [] ys is = absurd is
front t (x ∷ xs) ys (inl same) = inl same
front t (x ∷ xs) ys (inr more) = inr (front t xs ys more)

pub back : (t : Tables) (xs ys : List Tables) → IsOneOf t ys → IsOneOf t (xs ++ ys)
back t [] ys is = is
back t (x ∷ xs) ys is = inr (back t xs ys is)

pub either : (t : Tables) (xs ys : List Tables) → IsOneOf t (xs ++ ys) → IsOneOf t xs ⊎ IsOneOf t ys
either t [] ys is = inr is
either t (x ∷ xs) ys (inl same) = inl (inl same)
either t (x ∷ xs) ys (inr more) = elim (either t xs ys more) [ inl there ↦ inl (inr there) | inr there ↦ inr there ]

pub left-first : (t : Tables) (o : Option (List Item)) → IsOneOf t (left_by t o)
left-first t None = inl refl
left-first t (Some items) = inl refl

-- a crash leaves one of more tables
pub leaves-more : (ts us : List Tables) (a b : Option Trace) → CrashesLeave ts a b → CrashesLeave (ts ++ us) a b
leaves-more ts us None None left = tt
leaves-more ts us None (Some b) left = left
leaves-more ts us (Some a) None left = left
leaves-more ts us (Some a) (Some b) left =
    weaker (ReadsAmong ts) (ReadsAmong (ts ++ us)) a b (λ file is. (is.0, is.1, front is.0 ts us is.2)) left
