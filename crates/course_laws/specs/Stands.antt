-- Where a course stands.
use Rattle.std.specs.Prelude.{◌≡◌, ℕ, Bool, false, List, [], Option, None}
use Rattle.fetch_plan.specs.declared.Plan.{Plan}
use Rattle.repo_model.specs.Data.{Blob}
use Rattle.repo_course.specs.declared.fetched.Verdict.{Verdict}
use Rattle.repo_course.specs.declared.fetched.Verdict.TheVariants as verdict
use Rattle.repo_course.specs.Course.{Close, Fetch}

-- how often something may still be fetched for a look, which members were tried for it, and what their fetches came to
pub record Rounds : Type 0 where
  pub left : ℕ
  pub tried : List ℕ
  pub so_far : Verdict

-- nothing is looked for
abbrev pub no_rounds : Rounds
no_rounds = record { left = 0; tried = []; so_far = verdict.Unasked false }

-- where a course stands
pub record Stand : Type 0 where
  -- the draft that it must put or give up
  pub draft : Option ℕ
  -- the lease that it must give back
  pub lease : Option ℕ
  -- the body that was stored, and the file that was lent
  pub stored : Option Blob
  pub lent : Option Blob
  -- the length of the body that is to be read
  pub unread : Option ℕ
  -- the client waits for `100 Continue` before it
  pub waits : Bool
  -- the repositories that are to be passed over
  pub to_clean : Option (List (List ℕ))
  -- what is looked at: the repository and the path
  pub target : Option (List ℕ × List ℕ)
  -- what is to be fetched, and then landed; what came of it, once it was fetched; and a file of it, once it is stored
  pub plan : Option Plan
  pub came : Fetch
  pub kept : Option Blob
  -- what the look that is made has after it, and may have before it
  pub rounds : Rounds
  -- how it must end, once that is known
  pub due : Option Close

-- nothing is held, and nothing is to be done
abbrev pub idle : Stand
idle = record {
  draft = None;
  lease = None;
  stored = None;
  lent = None;
  unread = None;
  waits = false;
  to_clean = None;
  target = None;
  plan = None;
  came = None;
  kept = None;
  rounds = no_rounds;
  due = None;
}

-- the body is read and the pass made, where there is one, and nobody waits
abbrev pub IsReady : Stand → Type 0
IsReady s = (s.unread ≡ None) × (s.to_clean ≡ None) × (s.waits ≡ false)

-- and no end is due yet
abbrev pub IsFree : Stand → Type 0
IsFree s = (s.due ≡ None) × IsReady s

abbrev pub HoldsNothing : Stand → Type 0
HoldsNothing s = (s.draft ≡ None) × (s.lease ≡ None)
