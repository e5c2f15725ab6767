-- The values of a parse, and the numbers that they write.
use Rattle.std.proofs.Common.{◌≡◌, ℕ, ◌^◌, ◌-◌, ◌<◌, Bool, true, false, cond, List, [], ◌∷◌, Bor, Some, Result, Ok, Err, map, refl, sym, arith, slice_get}
use Rattle.std.specs.List.{find}
use Rattle.std.specs.Option.{option_and_then, option_map}
use Rattle.std.specs.Str.{bytes_eq}
use Rattle.std.specs.Str.Parse.{IsNumeral, digits_value, without_leading_plus}
use Rattle.std.specs.Result.{OkIff}
use Rattle.std.proofs.lemmas.Bool.{false_from_ne_true}
use Rattle.std.proofs.lemmas.Result.{OkIff-at_err, OkIff-at_ok}
use Rattle.clap.specs.Facts.{Entry}
use Rattle.clap.specs.ValueTests.{is_unsigned_in}
use Rattle.clap.specs.Walk.{first_of, row_of, rows_of}
use Rattle.clap.specs.Matches.{first_value}
use Rattle.clap.specs.declared.builder.value_parser.ValueParser.TheVariants.{Unsigned}
use Rattle.clap.specs.declared.parser.matches.Found.{Found}
use Rattle.clap.specs.declared.parser.matches.MatchedArg.{MatchedArg}
use Rattle.clap.proofs.ValueTestLemmas.{Accepts-accepts, accepts-Accepts}
use Rattle.command_words.specs.Wanted.{number_of}

slice_get-map : {A B : Type 0} (f : A → B) (xs : List A) → slice_get (map f xs) 0 ≡ option_map f (slice_get xs 0)
slice_get-map f [] = refl
slice_get-map f (x ∷ xs) = refl

value_in : (id : List ℕ) (es : List Entry)
    → option_and_then (λ r. slice_get r.values 0) (find (λ r. bytes_eq r.id id) (map row_of es))
    ≡ option_and_then (λ (a : MatchedArg). option_map (λ s. s.now) (slice_get a.vals.items 0)) (option_map (λ e. e.1) (find (λ e. bytes_eq e.0.now id) es))
value_in id [] = refl
value_in id (e ∷ es) = by_first (bytes_eq e.0.now id) (value_in id es)
  where
    by_first : (b : Bool)
        → option_and_then (λ r. slice_get r.values 0) (find (λ r. bytes_eq r.id id) (map row_of es))
        ≡ option_and_then (λ (a : MatchedArg). option_map (λ s. s.now) (slice_get a.vals.items 0)) (option_map (λ e. e.1) (find (λ e. bytes_eq e.0.now id) es))
        → option_and_then (λ r. slice_get r.values 0) (cond b (Some (row_of e)) (find (λ r. bytes_eq r.id id) (map row_of es)))
        ≡ option_and_then (λ (a : MatchedArg). option_map (λ s. s.now) (slice_get a.vals.items 0)) (option_map (λ e. e.1) (cond b (Some e) (find (λ e. bytes_eq e.0.now id) es)))
    by_first true h = slice_get-map (λ (s : Bor (List ℕ)). s.now) e.1.vals.items
    by_first false h = h

-- the first value of an id, by the rows
pub first_of-rows : (f : Found) (id : List ℕ) → first_value f id ≡ first_of id (rows_of f)
first_of-rows f id = sym (value_in id f.entries.items)

-- what `parse` gives, or 0
abbrev pub IsRead : {E : Type 0} → List ℕ → Result ℕ E → Type 0
IsRead text r =
    OkIff r (IsNumeral 10 (without_leading_plus text) × (digits_value 10 (without_leading_plus text) < 2 ^ 64)) (digits_value 10 (without_leading_plus text))

pub number_of-ok : {E : Type 0} (text : List ℕ) (r : Result ℕ E) (n : ℕ) → IsRead text r → r ≡ Ok n → n ≡ number_of text
number_of-ok text r n h e =
    let got = OkIff-at_ok r _ _ n h e in
    let test : is_unsigned_in 0 (2 ^ 64 - 1) text ≡ true = Accepts-accepts false (Unsigned 0 (2 ^ 64 - 1)) text (got.0.0, got.0.1, omega arith, omega arith) in
    rw test got.1

pub number_of-err : {E : Type 0} (text : List ℕ) (r : Result ℕ E) (d : E) → IsRead text r → r ≡ Err d → 0 ≡ number_of text
number_of-err text r d h e =
    let test : is_unsigned_in 0 (2 ^ 64 - 1) text ≡ false = false_from_ne_true _ (λ t.
    let a = accepts-Accepts false (Unsigned 0 (2 ^ 64 - 1)) text t in OkIff-at_err r _ _ d h e (a.0, a.1)) in
    rw test refl
