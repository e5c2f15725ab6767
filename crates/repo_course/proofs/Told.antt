-- A reply to a PUT's first command that is no draft is only told.
use Rattle.std.proofs.Common.{◌≡◌, ℕ, Bool, List, refl}
use Rattle.outside.specs.declared.stores.Held.{Ghosts}
use Rattle.repo_model.specs.Data.{Place}
use Rattle.repo_model.specs.Shown.{shown_reply}
use Rattle.repo_model.specs.declared.reply.Reply.{Reply}
use Rattle.repo_model.specs.declared.reply.Reply.TheVariants.{Draft}
use Rattle.repo_course.specs.Course.{after_may_put, tells, with_unread}
use Rattle.repo_course.specs.declared.mode.ResponseMode.{ResponseMode}

pub no-draft-told : {X : Type 0} {G : Ghosts X} (place : Place) (path : List ℕ) (length : ℕ) (expects : Bool) (mode : ResponseMode) (reply : Reply X G)
    → ((n : ℕ) → reply ≡ Draft n → ⊥)
    → tells (with_unread length mode) (shown_reply reply) ≡ after_may_put place path length expects mode (shown_reply reply)
no-draft-told place path length expects mode (Draft n) none = absurd (none n refl)
no-draft-told place path length expects mode reply none = refl
