use Rattle.std.proofs.Common.{ℕ, ◌+◌, List, Option, cond, eqb, unwrap_or, sum_by, ap, ◌∙◌, option_map, nat_cmp}
use Rattle.std.proofs.lemmas.Map.Entries.{sum_by-remove_entry}
use Rattle.std.specs.BTreeMap.{is_at}
use Rattle.std.specs.Map.{lookup, values_of}
use Rattle.blob_yard.proofs.MapLemmas.{remove_entry-number, remove_entry-rising, rising-from}
use Rattle.blob_yard.proofs.yard.drop_lease.Goals as goal

pub returns-clause-rest : goal.returns-clause-rest
returns-clause-rest c =
    let es = c.args.leases.now.entries in
    c.remove.ensures.entries ∙ remove_entry-number c.args.number es ∙ remove_entry-rising c.args.number es (rising-from es c.len-len.ensures.ordered)

pub returns-clause-count : goal.returns-clause-count
returns-clause-count c n =
    let es = c.args.leases.now.entries in
    let count : List (ℕ × ℕ) → Option ℕ → ℕ = λ ls o. sum_by (λ b. cond (eqb b n) 1 0) (values_of ls) + unwrap_or (option_map (λ b. cond (eqb b n) 1 0) o) 0 in
    ap (count c.remove.new.self.entries) c.remove.ensures.value
    ∙ ap (λ ls. count ls (lookup (is_at (nat_cmp c.args.number)) es)) c.remove.ensures.entries
    ∙ sum_by-remove_entry (λ b. cond (eqb b n) 1 0) (is_at (nat_cmp c.args.number)) es
