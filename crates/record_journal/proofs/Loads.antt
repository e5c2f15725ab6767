-- A file loads to what the frames that it holds build up.
use Rattle.std.proofs.Common.{◌≡◌, ℕ, ◌+◌, Bool, true, false, List, [], ◌∷◌, ◌++◌, length, Result, Ok, Err, refl, sym, ◌∙◌, ap, arith}
use Rattle.std.specs.Prelude.{◌==◌, if◌then◌else◌, Option, Some, None, IsSome, OnOk}
use Rattle.std.proofs.lemmas.List.{append-nil}
use Rattle.std.proofs.lemmas.Bool.Decides.{nat_tests}
use Rattle.record_log.specs.Frames.{Found, Frames, New, Foreign, Framed, frames, frames_of, payloads_of, HoldsFrames, IsWhole}
use Rattle.repo_model.specs.declared.item.Item.{Item}
use Rattle.repo_model.specs.Tables.{Tables, no_tables, applied}
use Rattle.row_tables.specs.Reading.{taken}
use Rattle.repo_rows.proofs.Changes.{again}
use Rattle.row_tables.specs.Applying.{with_items}
use Rattle.row_tables.specs.Items.{IsChange, are_of, change_bytes}
use Rattle.row_tables.specs.declared.version.Version.TheVariants.{Second}
use Rattle.row_tables.specs.declared.faults.LoadFault.{LoadFault}
use Rattle.record_journal.specs.Given.{Loads}
use Rattle.row_tables.specs.Loading.{of_size, change_in, by_bytes, with_change, after_frame, next_frame, after_frames, loading_of, loading, built_up}

-- frames with a cut one after them build up nothing
cut_is_refused : (frame : ℕ) (t u : Tables) (payloads : List (List ℕ)) → after_frames frame true t payloads ≡ Ok u → ⊥
cut_is_refused frame t u [] is = absurd cc
cut_is_refused frame t u (p ∷ payloads) is = by (λ v. cut_is_refused (frame + 1) v u payloads) (after_frame t p) is
  where
    by : ((v : Tables) → after_frames (frame + 1) true v payloads ≡ Ok u → ⊥) → (r : Result Tables ℕ) → next_frame frame (λ v. after_frames (frame + 1) true v payloads) r ≡ Ok u → ⊥
    by go (Ok v) is = go v is
    by go (Err at) is = absurd cc

some_is : {A : Type 0} (x y : A) → Some x ≡ Some y → x ≡ y
some_is x y is = cc

found_held : (found : Found) (cut : Bool) (payloads : List (List ℕ)) → found.is_cut ≡ cut → (if cut then None else Some found.payloads) ≡ Some payloads → after_frames 0 found.is_cut no_tables found.payloads ≡ built_up payloads
found_held found true payloads is holds = absurd cc
found_held found false payloads is holds = λ i. after_frames 0 (is i) no_tables (some_is found.payloads payloads holds i)

held : (read : Frames) (payloads : List (List ℕ)) → payloads_of read ≡ Some payloads → loading_of (frames_of read) ≡ built_up payloads
held New payloads holds = ap built_up (some_is [] payloads holds)
held Foreign payloads holds = absurd cc
held (Framed found) payloads holds = found_held found found.is_cut payloads refl holds

pub loads_held : (file : List ℕ) (payloads : List (List ℕ)) → HoldsFrames payloads file → loading file ≡ built_up payloads
loads_held file payloads holds = held (frames file) payloads holds

-- a file that loads holds frames that are whole
pub record HeldBy (file : List ℕ) (t : Tables) : Type 0 where
  pub payloads : List (List ℕ)
  pub holds : HoldsFrames payloads file
  pub builds : built_up payloads ≡ Ok t

found_loads : (file : List ℕ) (found : Found) (cut : Bool) (t : Tables) → frames file ≡ Framed found → found.is_cut ≡ cut → after_frames 0 cut no_tables found.payloads ≡ Ok t → HeldBy file t
found_loads file found true t framed is loads = absurd (cut_is_refused 0 no_tables t found.payloads loads)
found_loads file found false t framed is loads = record {
  payloads = found.payloads;
  holds = ap payloads_of framed ∙ (λ i. if is i then None else Some found.payloads);
  builds = loads;
}

held_loads : (file : List ℕ) (read : Frames) (t : Tables) → frames file ≡ read → loading_of (frames_of read) ≡ Ok t → HeldBy file t
held_loads file New t is loads = record { payloads = []; holds = ap payloads_of is; builds = loads }
held_loads file Foreign t is loads = absurd cc
held_loads file (Framed found) t is loads = found_loads file found found.is_cut t is refl loads

pub held_by : (file : List ℕ) (t : Tables) → loading file ≡ Ok t → HeldBy file t
held_by file t loads = held_loads file (frames file) t refl loads

pub whole_by : (file : List ℕ) (t : Tables) → loading file ≡ Ok t → IsWhole file
whole_by file t loads =
    let them = held_by file t loads in
    is_some them.payloads (payloads_of (frames file)) them.holds
  where
    is_some : (ps : List (List ℕ)) (o : Option (List (List ℕ))) → o ≡ Some ps → IsSome o
    is_some ps None is = absurd cc
    is_some ps (Some x) is = refl

pub whole_if : (file : List ℕ) (r : Result Tables LoadFault) → Loads (loading file) r → OnOk r (IsWhole file)
whole_if file (Ok t) is = whole_by file t is
whole_if file (Err e) is = tt

-- one frame more
pub pushed : (frame : ℕ) (t u v : Tables) (payloads : List (List ℕ)) (p : List ℕ) → after_frames frame false t payloads ≡ Ok u → after_frame u p ≡ Ok v → after_frames frame false t (payloads ++ p ∷ []) ≡ Ok v
pushed frame t u v [] p builds next =
    let same : t ≡ u = cc in
    ap (next_frame frame (λ w. after_frames (frame + 1) false w [])) (ap (λ x. after_frame x p) same ∙ next)
pushed frame t u v (q ∷ payloads) p builds next = by (λ w is. pushed (frame + 1) w u v payloads p is next) (after_frame t q) builds
  where
    by : ((w : Tables) → after_frames (frame + 1) false w payloads ≡ Ok u → after_frames (frame + 1) false w (payloads ++ p ∷ []) ≡ Ok v) → (r : Result Tables ℕ)
        → next_frame frame (λ w. after_frames (frame + 1) false w payloads) r ≡ Ok u → next_frame frame (λ w. after_frames (frame + 1) false w (payloads ++ p ∷ [])) r ≡ Ok v
    by go (Ok w) is = go w is
    by go (Err at) is = absurd cc

pub after_change : (t : Tables) (p : List ℕ) (items : List Item) → change_in p ≡ Ok items → applied t items ≡ Ok (with_items t items) → after_frame t p ≡ Ok (with_items t items)
after_change t p items change fits = ap (with_change t) change ∙ ap (by_bytes items) fits

-- a change whose files have their SHA-256 and SHA-512
abbrev pub IsWritable : List Item → Type 0
IsWritable items = IsChange items × (are_of Second items ≡ true)

-- what was written is read again
pub change_again : (items : List Item) → IsWritable items → change_in (change_bytes items) ≡ Ok items
change_again items is =
    let bytes = change_bytes items in
    let read : taken bytes ≡ Ok (items, length bytes) = ap taken (sym (append-nil bytes)) ∙ again Second items [] is.0 is.1 in
    let whole : (length bytes == length bytes) ≡ true = grind (arith, nat_tests) in
    ap (of_size (length bytes)) read ∙ (λ i. if whole i then Ok items else Err 0)
