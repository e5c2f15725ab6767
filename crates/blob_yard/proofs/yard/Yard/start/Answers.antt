use Rattle.std.proofs.Common.{ℕ, List, sym, ap, ◌∙◌, subst, arith}
use Rattle.repo_model.specs.State.{is_among}
use Rattle.blob_yard.specs.Places.{AreBelow}
use Rattle.blob_yard.specs.Shown.{AreCounted, numbers_from}
use Rattle.blob_yard.proofs.YardLemmas.{started_counted, started_shown, kept_all}
use Rattle.blob_yard.proofs.yard.Yard.start.Goals as goal

pub invariant_of-result : goal.invariant_of-result
invariant_of-result c =
    let h = c.in_ok-keep_all.ensures in
    let es = c.in_ok-keep_all.field-0 in
    let none = sym c.new.ensures.empty in
    record {
      drawn = h.below;
      lent = subst (λ (ls : List (ℕ × ℕ)). AreBelow 1 ls) none tt;
      counted = subst (λ (ls : List (ℕ × ℕ)). AreCounted es ls) none (started_counted es h.kept);
      draft = c.requires.next;
      lease = omega arith;
      session = c.requires.session;
    }

pub returns-clause-yard : goal.returns-clause-yard
returns-clause-yard c =
    let es = c.in_ok-keep_all.field-0 in
    ap (λ (ls : List (ℕ × ℕ)). (numbers_from es ls c.args.next 1 c.args.next_session).yard) c.new.ensures.empty
    ∙ started_shown es c.args.next 1 c.args.next_session c.in_ok-keep_all.ensures.kept

pub returns-clause-kept : goal.returns-clause-kept
returns-clause-kept c n =
    let es = c.in_ok-keep_all.field-0 in
    ap (is_among n) (kept_all es c.in_ok-keep_all.ensures.kept) ∙ c.in_ok-keep_all.ensures.numbers n
