use Rattle.std.proofs.Common.{◌≡◌, ◌+◌, ◌^◌, ◌≤◌, true, take}
use Rattle.std.specs.Char.{is_digit}
use Rattle.std.specs.List.{list_all}
use Rattle.std.specs.Str.Parse.{digits_value}
use Rattle.xml_subset.proofs.reference.number.Given as goal

-- the number of the digits so far
abbrev pub invariant-loop-c : goal.invariant-loop-c
invariant-loop-c l = record {
  value : l.number ≡ digits_value l.radix (take l.c-index l.digits);
  digits : list_all (λ c. is_digit c l.radix) (take l.c-index l.digits) ≡ true;
  small : l.number + 1 ≤ 16 ^ l.c-index;
}
