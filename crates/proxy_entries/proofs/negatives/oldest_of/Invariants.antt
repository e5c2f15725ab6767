use Rattle.std.proofs.Common.{◌≡◌, None, fold, option_map}
use Rattle.repo_model.specs.Effect.{older}
use Rattle.proxy_entries.specs.Stored.{shown_negative, shown_negatives}
use Rattle.proxy_entries.proofs.negatives.oldest_of.Given as goal

-- the oldest so far, with those that are left
abbrev pub invariant-loop-path : goal.invariant-loop-path
invariant-loop-path l = fold older (option_map (λ m. shown_negative m.0.now m.1) l.oldest) (shown_negatives l.path-iterator) ≡ fold older None (shown_negatives l.fn.negatives.entries)
