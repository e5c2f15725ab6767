-- What is landed was fetched before, by exchanges that lie among those of the stream.
use Rattle.std.proofs.Common.{◌≡◌, ℕ, zero, suc, Bool, List, [], ◌∷◌, inl, inr, Option, Some, None, Result, Ok, Err, refl, sym, subst, ap, ◌∙◌}
use Rattle.std.specs.Prelude.{◌==◌}
use Rattle.std.proofs.lemmas.Option.{none-some}
use Rattle.fetch_plan.specs.declared.Outcome.{Outcome as Came}
use Rattle.fetch_plan.specs.declared.Outcome.TheVariants as came
use Rattle.fetch_plan.specs.declared.Plan.{Plan}
use Rattle.outside_remote.specs.Exchanges.{Sees}
use Rattle.remote_fetch.specs.declared.contents.Content.{Content}
use Rattle.remote_fetch.specs.declared.contents.Content.TheVariants as content
use Rattle.repo_model.specs.Command.{Command, look, land}
use Rattle.repo_model.specs.Data.{Blob}
use Rattle.repo_model.specs.History.{Entry}
use Rattle.repo_model.specs.Reply.{Reply}
use Rattle.repo_model.specs.Settings.{Settings}
use Rattle.repo_routes.specs.Intent.{Judged}
use Rattle.repo_routes.specs.Judge.{judge}
use Rattle.repo_routes.specs.declared.judging.Refused.{Refused}
use Rattle.repo_course.specs.Course.{Close, Course, IoAction, Fetch, Outcome, asks, does, says, stops, fetch, store_fetched}
use Rattle.repo_course.specs.declared.mode.ResponseMode.{ResponseMode}
use Rattle.repo_course.specs.declared.outcomes.End.{End}
use Rattle.repo_course.specs.Serving.{Does, Fetches, Follows, Opens, clean, torn, failed, refused, unread_head, starved, served, Outside, ServesStream, RequestTurn}
use Rattle.course_laws.specs.Duties.{Keeps, MayAsk, MayDo, Stand, duty_of, landing_by, left_by, stand_after, stand_done}
use Rattle.course_laws.specs.Landed.{AllLandWhatCame, GoesOn, IsFileOf, LandsWhatCame, WasFetched}
use Rattle.course_laws.proofs.Kept.{duty_at, opens-keeps}
use Rattle.course_laws.proofs.Passes.{ArePass, IsPassCommand, action-asks}
use Rattle.course_laws.proofs.Alls.{all-joined}
use Rattle.course_laws.proofs.Remotes.{action-goes, follows-go, goes-on, goes-then, opens-still, serves-go, still-goes, turn-goes}

no-file : (outcome : Came Content) → IsFileOf outcome None
no-file (came.Got (content.File checked)) = tt
no-file _ = tt

pass-lands : (first now : Sees) (e : Entry) → IsPassCommand e.command → LandsWhatCame first now e.command
pass-lands first now e is = pick e.command is
  where
    pick : (c : Command) → IsPassCommand c → LandsWhatCame first now c
    pick (land plan outcome) is = absurd is
    pick _ is = tt

module _ (first : Sees) where
  fetched-later : (plan : Plan) (outcome : Came Content) (kept : Option Blob) (a b : Sees) → GoesOn a b → WasFetched plan outcome kept first a → WasFetched plan outcome kept first b
  fetched-later plan outcome kept a b goes w =
      record { before = w.before; behind_it = w.behind_it; fetched = w.fetched; since = w.since; later = goes-then w.behind_it a b w.later goes; file = w.file }

  lands-later : (command : Command) (a b : Sees) → GoesOn a b → LandsWhatCame first a command → LandsWhatCame first b command
  lands-later (land plan outcome) a b goes w = (w.0, w.1, fetched-later plan w.0 w.1 a b goes w.2, w.3)
  lands-later command a b goes w = tt

  -- what was fetched for the plan that is to be landed
  abbrev Hand : Sees → Stand → Type 0
  Hand now s = (plan : Plan) (outcome : Came Content) → s.plan ≡ Some plan → s.came ≡ Some outcome → WasFetched plan outcome s.kept first now

  reply-hand : (now : Sees) (command : Command) (reply : Reply) (s : Stand) → Hand now s → Hand now (stand_after command reply s)
  reply-hand now (look repo path tried) reply s hand = λ plan outcome is came_is. absurd (none-some outcome came_is)
  reply-hand now (land p o) reply s hand = λ plan outcome is came_is. absurd (none-some plan is)
  reply-hand now command reply s hand = hand

  asked-lands : (now : Sees) (command : Command) (s : Stand) → MayAsk command s → Hand now s → LandsWhatCame first now command
  asked-lands now (land plan outcome) s may hand = pick s.came refl
    where
      pick : (c : Fetch) → s.came ≡ c → LandsWhatCame first now (land plan outcome)
      pick None is = absurd (none-some outcome (subst (λ (c : Fetch). landing_by c s.kept ≡ Some outcome) is may.3))
      pick (Some o) is = (o, s.kept, hand plan o may.1 is, subst (λ (c : Fetch). landing_by c s.kept ≡ Some outcome) is may.3)
  asked-lands now command s may hand = tt

  module _ (tells : Type 0) (by_text : List ℕ → Option Close) (mode : ResponseMode) where
    action-hand : (io_action : IoAction) (outcome : Outcome io_action) (mine : List Entry) (s : Stand) (old new : Outside) → MayDo mode io_action s → Does tells io_action outcome mine old new
        → GoesOn first old.remote → Hand old.remote s → Hand new.remote (stand_done by_text io_action outcome s)
    action-hand (fetch plan) outcome mine s old new may did since hand = λ p o is came_is.
        let same : plan ≡ p = let both : Some plan ≡ Some p = sym may.1.1 ∙ is in cc in
        let made : Fetches plan (Some o) old new = subst (λ (c : Fetch). Fetches plan c old new) came_is did.1 in
        subst (λ (x : Plan). WasFetched x o None first new.remote) same
        (record {
          before = old.remote;
          behind_it = made.0;
          fetched = made.1;
          since = since;
          later = subst (GoesOn made.0) (sym (ap (λ (x : Outside). x.remote) made.2)) (goes-on made.0);
          file = no-file o;
        })
    action-hand (store_fetched n checked) (Ok blob) mine s old new may did since hand = λ p o is came_is.
        let w = fetched-later p o s.kept old.remote new.remote (action-goes tells (store_fetched n checked) (Ok blob) mine old new did) (hand p o is came_is) in
        let same : came.Got (content.File checked) ≡ o = let both : Some (came.Got (content.File checked)) ≡ Some o = sym may.1.2 ∙ came_is in cc in
        record {
          before = w.before;
          behind_it = w.behind_it;
          fetched = w.fetched;
          since = w.since;
          later = w.later;
          file = subst (λ (x : Came Content). IsFileOf x (Some blob)) same (did.1.2, did.1.3);
        }
    action-hand io_action outcome mine s old new may did since hand = λ p o is came_is.
        fetched-later p o s.kept old.remote new.remote (action-goes tells io_action outcome mine old new did) (hand p o is came_is)

    follows-lands : (c : Course) (n : ℕ) (s : Stand) → Keeps by_text mode c n s → (entries : List Entry) (old new : Outside) (end : Option End) → GoesOn first old.remote
        → Hand old.remote s → Follows tells c entries old new end → AllLandWhatCame first new.remote entries
    follows-lands (asks command next) zero s k [] old new end since hand f = absurd f
    follows-lands (asks command next) zero s k (e ∷ entries) old new end since hand f = absurd k
    follows-lands (asks command next) (suc n) s k [] old new end since hand f = absurd f
    follows-lands (asks command next) (suc n) s k (e ∷ entries) old new end since hand f = (
      lands-later e.command old.remote new.remote (follows-go tells (next e.reply) entries old new end f.1)
          (subst (λ (c : Command). LandsWhatCame first old.remote c) (sym f.0) (asked-lands old.remote command s k.0 hand)),
      follows-lands (next e.reply) n (stand_after command e.reply s) (k.1 e.reply) entries old new end since (reply-hand old.remote command e.reply s hand) f.1,
    )
    follows-lands (does io_action next) n s k entries old new end since hand f =
        let goes = action-goes tells io_action f.0 f.1 old f.3 f.5 in
        let rest = follows-lands (next f.0) (left_by io_action n) (stand_done by_text io_action f.0 s) (k.2 f.0) f.2 f.3 new end (goes-then first old.remote f.3.remote since goes)
        (action-hand io_action f.0 f.1 s old f.3 k.0 f.5 since hand) f.6 in
        subst (AllLandWhatCame first new.remote) (sym f.4)
        (all-joined (λ (e : Entry). LandsWhatCame first new.remote e.command) f.1 f.2 (all-pass f.1 (action-asks tells io_action f.0 f.1 old f.3 f.5)) rest)
      where
        all-pass : (mine : List Entry) → ArePass mine → AllLandWhatCame first new.remote mine
        all-pass [] are = tt
        all-pass (e ∷ mine) are = (pass-lands first new.remote e are.0, all-pass mine are.1)
    follows-lands (says said own) n s k entries old new end since hand f = subst (AllLandWhatCame first new.remote) (sym f.0) tt
    follows-lands (stops next) n s k entries old new end since hand f = subst (AllLandWhatCame first new.remote) (sym f.0) tt

  -- before the first step nothing was fetched
  judged-bare : (judged : Result Judged Refused) (last : Bool) → (duty_of judged last).stand.came ≡ None
  judged-bare (Ok request) last = refl
  judged-bare (Err cause) last = refl

  bare : (settings : Settings) (last : Bool) (old new : Outside) (c : Course) (o : Opens settings last old new c) → (duty_at o).stand.came ≡ None
  bare settings last old new c (clean begins still is) = refl
  bare settings last old new c (torn begins still is) = refl
  bare settings last old new c (failed faults rose still is) = refl
  bare settings last old new c (refused fault begins still is) = refl
  bare settings last old new c (unread_head begins still is) = refl
  bare settings last old new c (starved head rest begins uses is) = refl
  bare settings last old new c (served head rest begins uses is) = judged-bare (judge settings head) last

  module _ (settings : Settings) (tells : Type 0) where
    pub turn-lands : (last : Bool) (entries : List Entry) (old new : Outside) (end : Option End) → GoesOn first old.remote → RequestTurn settings tells last entries old new end
        → AllLandWhatCame first new.remote entries
    turn-lands last entries old new end since (c, mid, o, f) =
        follows-lands tells (duty_at o).by_text (duty_at o).mode c (duty_at o).most (duty_at o).stand (opens-keeps settings last old mid c o) entries mid new end
        (goes-then first old.remote mid.remote since (still-goes old mid (opens-still settings last old mid c o)))
        (λ plan outcome is came_is. absurd (none-some outcome (sym (bare settings last old mid c o) ∙ came_is))) f

    pub all-later : (entries : List Entry) (a b : Sees) → GoesOn a b → AllLandWhatCame first a entries → AllLandWhatCame first b entries
    all-later [] a b goes all = tt
    all-later (e ∷ entries) a b goes all = (lands-later e.command a b goes all.0, all-later entries a b goes all.1)

    pub serves-lands : (n : ℕ) (entries : List Entry) (old new : Outside) (end : End) → GoesOn first old.remote → ServesStream settings tells n entries old new end
        → AllLandWhatCame first new.remote entries
    unfolding ServesStream
    serves-lands zero entries old new end since t = subst (AllLandWhatCame first new.remote) (sym t.0) tt
    serves-lands (suc left) entries old new end since (inl turn) = turn-lands (left == 0) entries old new (Some end) since turn
    serves-lands (suc left) entries old new end since (inr t) =
        let mid = t.2 in
        let goes = turn-goes tells settings (left == 0) t.0 old mid None t.4 in
        subst (AllLandWhatCame first new.remote) (sym t.3)
        (all-joined (λ (e : Entry). LandsWhatCame first new.remote e.command) t.0 t.1
        (all-later t.0 mid.remote new.remote (serves-go tells settings left t.1 mid new end t.5) (turn-lands (left == 0) t.0 old mid None since t.4))
        (serves-lands left t.1 mid new end (goes-then first old.remote mid.remote since goes) t.5))

pub stream-lands : (settings : Settings) (tells : Type 0) (n : ℕ) (entries : List Entry) (old new : Outside) (end : End) → ServesStream settings tells n entries old new end
    → AllLandWhatCame old.remote new.remote entries
stream-lands settings tells n entries old new end t = serves-lands old.remote settings tells n entries old new end (goes-on old.remote) t
