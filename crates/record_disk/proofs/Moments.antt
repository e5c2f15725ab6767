-- How runs of disk calls are put together.
use Rattle.std.proofs.Common.{◌≡◌, ◌⊎◌, inl, inr, ℕ, List, take, refl, sym, subst, arith}
use Rattle.std.specs.Prelude.{Option, None, Some, Result, Ok, Err, MatchResult}
use Rattle.record_disk.specs.Disk.{Call, Write, Cut, Sync, Trace, After, content, Torn, IsImage, AllImages, Throughout, Here, Then, Told, MayHave, Tears, Cuts}

pub torn_same : (at n : ℕ) (file : List ℕ) → Torn at n file file
torn_same at n file = record { before = refl; after = refl; no_shorter = omega arith; no_longer = omega arith }

-- a run and one after it
pub joined : (P : List ℕ → Type 0) (old mid new : Trace) → Throughout P old mid → Throughout P mid new → Throughout P old new
joined P old mid new first (Here all) = first
joined P old mid new first (Then call file last rest all) = Then call file last (joined P old mid last first rest) all

pub weaker : (P Q : List ℕ → Type 0) (old new : Trace) → ((image : List ℕ) → P image → Q image) → Throughout P old new → Throughout Q old new
weaker P Q old new than (Here all) = Here (λ image is. than image (all image is))
weaker P Q old new than (Then call file last rest all) = Then call file last (weaker P Q old last than rest) (λ image is. than image (all image is))

pub at_last : (P : List ℕ → Type 0) (old new : Trace) → Throughout P old new → AllImages P new
at_last P old new (Here all) = all
at_last P old new (Then call file last rest all) = all

pub told_map : (a b : Option Trace) (R S : Trace → Trace → Type 0) → ((s t : Trace) → R s t → S s t) → Told a b R → Told a b S
told_map None None R S f told = tt
told_map None (Some t) R S f told = told
told_map (Some s) None R S f told = told
told_map (Some s) (Some t) R S f told = f s t told

pub told_both : (a b : Option Trace) (R S Q : Trace → Trace → Type 0) → ((s t : Trace) → R s t → S s t → Q s t) → Told a b R → Told a b S → Told a b Q
told_both None None R S Q f one two = tt
told_both None (Some t) R S Q f one two = one
told_both (Some s) None R S Q f one two = one
told_both (Some s) (Some t) R S Q f one two = f s t one two

pub told_then : (a b c : Option Trace) (R S Q : Trace → Trace → Type 0) → ((s t u : Trace) → R s t → S t u → Q s u) → Told a b R → Told b c S → Told a c Q
told_then None None None R S Q f one two = tt
told_then None None (Some u) R S Q f one two = two
told_then None (Some t) c R S Q f one two = absurd one
told_then (Some s) None c R S Q f one two = absurd one
told_then (Some s) (Some t) None R S Q f one two = two
told_then (Some s) (Some t) (Some u) R S Q f one two = f s t u one two

-- two facts on a call and one on the next
pub told_on : (a b c : Option Trace) (R S Q W : Trace → Trace → Type 0) → ((s t u : Trace) → R s t → S s t → Q t u → W s u) → Told a b R → Told a b S → Told b c Q → Told a c W
told_on a b c R S Q W f one two three =
    told_then a b c (λ s t. R s t × S s t) Q W (λ s t u both. f s t u both.0 both.1) (told_both a b R S (λ s t. R s t × S s t) (λ s t r q. (r, q)) one two) three

-- one call more
pub made : (P : List ℕ → Type 0) (call : Call) (old new : Trace) → MayHave call old new → AllImages P old → AllImages P (After call (content new) old) → Throughout P old new
made P call old new may here there = elim may.step [
  | inl same ↦ subst (Throughout P old) (sym same) (Here here)
  | inr next ↦ subst (Throughout P old) (sym next) (Then call (content new) old (Here here) there)
]

-- and a sync
pub synced : (P : List ℕ → Type 0) (old mid : Trace) → Throughout P old mid → IsImage mid (content mid) → Throughout P old (After Sync (content mid) mid)
synced P old mid run image = Then Sync (content mid) mid run (λ c is. subst P (sym is) (at_last P old mid run (content mid) image))

pub tears_write : (at n : ℕ) (s t : Trace) → MayHave (Write at n) s t → Tears at n s t
tears_write at n s t may = record {
  moments = made (λ image. (from : List ℕ) × IsImage s from × Torn at n from image) (Write at n) s t may (λ image is. (image, is, torn_same at n image)) (λ image is. is);
  image = may.image;
}

pub cuts_cut : (size : ℕ) (s t : Trace) → MayHave (Cut size) s t → Cuts size s t
cuts_cut size s t may = record {
  moments = made (λ image. (from : List ℕ) × IsImage s from × ((image ≡ from) ⊎ (image ≡ take size from))) (Cut size) s t may (λ image is. (image, is, inl refl)) (λ image is. is);
  image = may.image;
}

-- what a sync does to the story
abbrev pub Syncs : {T E : Type 0} → Result T E → Trace → Trace → Type 0
Syncs result s t = MatchResult result (λ _. t ≡ After Sync (content s) s) (λ _. t ≡ s)

pub tears_sync : {T E : Type 0} (at n : ℕ) (result : Result T E) (s t u : Trace) → Tears at n s t → Syncs result t u → Tears at n s u
tears_sync at n (Ok x) s t u tears is = subst (Tears at n s) (sym is) (record { moments = synced (λ image. (from : List ℕ) × IsImage s from × Torn at n from image) s t tears.moments tears.image; image = refl })
tears_sync at n (Err e) s t u tears is = subst (Tears at n s) (sym is) tears

pub cuts_sync : {T E : Type 0} (size : ℕ) (result : Result T E) (s t u : Trace) → Cuts size s t → Syncs result t u → Cuts size s u
cuts_sync size (Ok x) s t u cuts is = subst (Cuts size s) (sym is) (record { moments = synced (λ image. (from : List ℕ) × IsImage s from × ((image ≡ from) ⊎ (image ≡ take size from))) s t cuts.moments cuts.image; image = refl })
cuts_sync size (Err e) s t u cuts is = subst (Cuts size s) (sym is) cuts
