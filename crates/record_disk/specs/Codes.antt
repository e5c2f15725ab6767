-- How traces are told apart as values: a trace as its first file and the list of its calls.
use Rattle.std.specs.Prelude.{◌≡◌, ℕ, zero, suc, List, [], ◌∷◌, refl}
use Rattle.std.specs.Coded.{Coded, code_by, coded_ℕ, coded_list, coded×}
use mathlib.Core.Path.{ap}
use Rattle.record_disk.specs.Disk.{Call, Write, Cut, Sync, Trace, Opened, After}

abbrev numbers : Call → ℕ × (ℕ × ℕ)
numbers (Write at n) = (0, (at, n))
numbers (Cut size) = (1, (size, 0))
numbers Sync = (2, (0, 0))

abbrev call_of : ℕ × (ℕ × ℕ) → Call
call_of (zero, (at, n)) = Write at n
call_of (suc zero, (size, n)) = Cut size
call_of (suc (suc tag), (at, n)) = Sync

pub call_back : (call : Call) → call_of (numbers call) ≡ call
call_back (Write at n) = refl
call_back (Cut size) = refl
call_back Sync = refl

abbrev pub call_code : Coded Call
call_code = code_by (ℕ × (ℕ × ℕ)) (coded× coded_ℕ (coded× coded_ℕ coded_ℕ)) numbers call_of call_back

abbrev first_of : Trace → List ℕ
first_of (Opened file) = file
first_of (After call file before) = first_of before

abbrev calls_of : Trace → List (Call × List ℕ)
calls_of (Opened file) = []
calls_of (After call file before) = (call, file) ∷ calls_of before

abbrev trace_of : List ℕ → List (Call × List ℕ) → Trace
trace_of file [] = Opened file
trace_of file (c ∷ calls) = After c.0 c.1 (trace_of file calls)

pub trace_back : (trace : Trace) → trace_of (first_of trace) (calls_of trace) ≡ trace
trace_back (Opened file) = refl
trace_back (After call file before) = ap (After call file) (trace_back before)

abbrev pub trace_code : Coded Trace
trace_code =
    code_by (List ℕ × List (Call × List ℕ)) (coded× (coded_list coded_ℕ) (coded_list (coded× call_code (coded_list coded_ℕ)))) (λ s. (first_of s, calls_of s)) (λ p. trace_of p.0 p.1) trace_back
