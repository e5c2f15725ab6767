use Rattle.std.proofs.Common.{◌≡◌, ◌≤◌, ℕ, List, length, min, take, Ok, Err, sym, ap, ◌∙◌, subst, arith}
use Rattle.std.specs.Prelude.{IsTrue, reverse}
use Rattle.row_tables.specs.Applying.{Applies, with_items}
use Rattle.row_tables.specs.Items.{IsChange, are_of}
use Rattle.row_tables.specs.Leaving.{Leaves, done}
use Rattle.row_tables.specs.declared.faults.ApplyFault.{ApplyFault}
use Rattle.row_tables.specs.declared.faults.ApplyFault.TheVariants.{Misfit}
use Rattle.row_tables.specs.declared.version.Version.TheVariants.{Second}
use Rattle.repo_model.specs.declared.item.Item.{Item}
use Rattle.repo_model.specs.Tables.{applied}
use Rattle.row_completion.proofs.Chunks.{first-change, first-fit, first-whole, told-fit}
use Rattle.row_completion.proofs.recording.commit_first.Goals as goal

-- the first of some items that stand the other way round
abbrev most : List Item → ℕ
most items = min 1000 (length items)

abbrev first_of : List Item → List Item
first_of items = take (most items) (reverse items)

pub of-change-requires : goal.of-change-requires
of-change-requires g c =
    let few : most c.args.items.items ≤ 1000 = omega arith in
    subst IsChange (sym c.in_ok-first.ensures.first) (first-change (most c.args.items.items) (reverse c.args.items.items) few c.requires.short)

pub unreachable-requires : goal.unreachable-requires
unreachable-requires g c =
    let t = c.args.tables.now in
    let change = c.of-change.result in
    let first = first_of c.args.items.items in
    let is = c.of-change.ensures ∙ c.in_ok-first.ensures.first in
    let fit = ap (applied t) is ∙ first-fit (most c.args.items.items) (reverse c.args.items.items) t c.requires.fit in
    let misfit : Applies t change c.apply.new.self (Err (Misfit c.in-Err-Misfit.field-0-0))
    = subst (λ (f : ApplyFault). Applies t change c.apply.new.self (Err f)) c.in-Err-Misfit.field-0-is c.in-Err-Misfit.ensures in
    absurd (let e : Err c.in-Err-Misfit.field-0-0 ≡ Ok (with_items t first) = sym misfit.0 ∙ fit in cc)

pub commit-requires-clause-whole : goal.commit-requires-clause-whole
commit-requires-clause-whole g c =
    subst (λ them. IsTrue (are_of Second them)) (sym (c.of-change.ensures ∙ c.in_ok-first.ensures.first))
    (first-whole (most c.args.items.items) (reverse c.args.items.items) c.requires.short)

pub commit-requires-clause-records : goal.commit-requires-clause-records
commit-requires-clause-records g c =
    let t = c.args.tables.now in
    let is = c.of-change.ensures ∙ c.in_ok-first.ensures.first in
    record {
      ready = c.requires.ready;
      fits = told-fit (g.K.Records.shows c.args.records.now).tables t c.of-change.result c.requires.told
          (ap (applied t) is ∙ first-fit (most c.args.items.items) (reverse c.args.items.items) t c.requires.fit ∙ ap (λ them. Ok (with_items t them)) (sym is));
    }

pub returns-clause-tables : goal.returns-clause-tables
returns-clause-tables g c =
    let t = c.args.tables.now in
    let first = first_of c.args.items.items in
    let fit = ap (applied t) (c.of-change.ensures ∙ c.in_ok-first.ensures.first) ∙ first-fit (most c.args.items.items) (reverse c.args.items.items) t c.requires.fit in
    (let e : Ok c.apply.new.self ≡ Ok (with_items t first) = sym c.in-Ok.ensures ∙ fit in cc)

pub returns-clause-records : goal.returns-clause-records
returns-clause-records g c =
    let is = c.of-change.ensures ∙ c.in_ok-first.ensures.first in
    subst (λ (them : List Item). Leaves them done (g.K.Records.shows c.args.records.now) (g.K.Records.shows c.commit.new.self)) is c.in_ok-commit.ensures.records
