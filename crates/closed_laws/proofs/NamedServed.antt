-- A file that a served document named is seen as its answer.
use Rattle.std.proofs.Common.{◌≡◌, inl, inr, ℕ, Bool, List, [], ◌∷◌, ◌++◌, Option, sym, subst, ap, ◌∙◌}
use Rattle.std.specs.List.{AllByRecursion}
use Rattle.mvn_coords.specs.declared.fault.Side.{Side}
use Rattle.mvn_digest.specs.Sides.{side_text}
use Rattle.repo_model.specs.Command.{look}
use Rattle.repo_model.specs.Data.{Blob, Row}
use Rattle.repo_model.specs.History.{Entry, Legal, after, end}
use Rattle.repo_model.specs.Reply.{Reply, file, text, spent, no_memory}
use Rattle.repo_model.specs.Settings.{Settings}
use Rattle.repo_model.specs.State.{State, rows_of}
use Rattle.repo_laws.specs.Closed.{Answers, GivesFile, GivesText, StandsInTime, named}
use Rattle.repo_laws.specs.Described.{IsAmong}
use Rattle.repo_laws.specs.Sound.{AreNamedApart, IsSound}
use Rattle.repo_laws.proofs.Closed.{answers-up-to, named-in-time}
use Rattle.repo_laws.proofs.Keeping.{ends-sound, keeps-sound}
use Rattle.repo_course.specs.Serving.{Outside, whole as said_whole, memory as said_memory, cut as said_cut}
use Rattle.repo_course.specs.declared.mode.ResponseMode.{ResponseMode}
use Rattle.repo_course.specs.declared.outcomes.End.{End}
use Rattle.repo_course.specs.declared.response.Response.{Response}
use Rattle.repo_course.specs.declared.response.Response.TheVariants as response
use Rattle.closed_laws.specs.Answered.{ReadShows, IsLookedUp, looked, unread, failed, ShowsFile, starved, ShowsMemory, ShowsReply, ShowsResponse}
use Rattle.closed_laws.specs.Named.{IsSideOf, ShowsNamed, ShowsSide, WasNamed}
use Rattle.closed_laws.proofs.AnsweredReads.{By}
use Rattle.course_laws.proofs.LeftBehind.{end_append, legal_cut}

pub among-has : {X : Type 0} (P : X → Type 0) (x : X) (xs : List X) → AllByRecursion P xs → IsAmong x xs → P x
among-has P x [] all among = absurd among
among-has P x (y ∷ ys) all (inl is) = subst P is all.0
among-has P x (y ∷ ys) all (inr more) = among-has P x ys all.1 more

module _ (settings : Settings) (apart : AreNamedApart settings.hosted) where
  -- a look at what was named is answered with it
  pub named-answers : (start : State) (before later : List Entry) (e : Entry) (repo : List ℕ) (row : Row) → IsSound settings start
      → Legal settings start (before ++ e ∷ later) → WasNamed settings start before repo row e.moment
      → Answers repo row.path row.blob (end settings start before) e
  named-answers start before later e repo row sound legal was =
      let s = end settings start was.first in
      let now = after settings s was.asked in
      let t = was.asked.moment in
      let all : Legal settings start (was.first ++ (was.asked ∷ was.rest)) × Legal settings (end settings start before) (e ∷ later) =
      let both = legal_cut settings start before (e ∷ later) legal in (subst (Legal settings start) was.parts both.0, both.1) in
      let cut : Legal settings start was.first × Legal settings s (was.asked ∷ was.rest) = legal_cut settings start was.first (was.asked ∷ was.rest) all.0 in
      let sound_s : IsSound settings s = ends-sound settings apart start was.first sound cut.0 in
      let sound_now : IsSound settings now = keeps-sound settings apart s was.asked sound_s cut.1.0 in
      let in_time = among-has (λ (r : Row). StandsInTime settings.grace t repo r.path r.blob now) row (named was.directory (rows_of repo s) was.served)
      (named-in-time settings apart s was.asked repo was.directory was.served cut.1.0 sound_s.order) was.names in
      let then_too = (answers-up-to settings apart was.rest now t repo row.path row.blob sound_now.order cut.1.1 in_time).1 in
      let ends : end settings start before ≡ end settings now was.rest =
      ap (end settings start) was.parts ∙ end_append settings start was.first (was.asked ∷ was.rest) in
      let last_sound = ends-sound settings apart now was.rest sound_now cut.1.1 in
      let last_legal : Legal settings (end settings now was.rest) (e ∷ later) = subst (λ (x : State). Legal settings x (e ∷ later)) ends all.1 in
      let answered = (answers-up-to settings apart (e ∷ later) (end settings now was.rest) t repo row.path row.blob last_sound.order last_legal then_too).0.0 was.in_time in
      subst (λ (x : State). Answers repo row.path row.blob x e) (sym ends) answered

-- what is seen of running out of memory is among what is seen of an answer
memory-said : (answer : Response) (mode : ResponseMode) (old new : Outside) (end : Option End) → ShowsMemory mode.head_only old new end → ShowsResponse mode answer old new end
memory-said answer mode old new end (said_whole is ends) = said_memory is ends
memory-said answer mode old new end (said_memory is ends) = said_memory is ends
memory-said answer mode old new end (said_cut faults all part rose (inl which) front is ends) = said_cut faults all part rose (inr which) front is ends
memory-said answer mode old new end (said_cut faults all part rose (inr which) front is ends) = said_cut faults all part rose (inr which) front is ends

-- a reply that gives the file, or the text, is seen so
pub file-shown : (s : State) (blob : Blob) (reply : Reply) (mode : ResponseMode) (old new : Outside) (end : Option End) → GivesFile s blob reply
    → ShowsReply reply mode old new end → ShowsNamed s blob mode old new end
file-shown s blob (file lease given) mode old new end gives seen = inl (subst (λ (b : Blob). ShowsFile mode b old new end) gives seen)
file-shown s blob spent mode old new end gives seen = inr (gives, seen)
file-shown s blob no_memory mode old new end gives seen = inl (starved seen)
file-shown s blob _ mode old new end gives seen = absurd gives

pub text-shown : (wanted : List ℕ) (reply : Reply) (mode : ResponseMode) (old new : Outside) (end : Option End) → GivesText wanted reply
    → ShowsReply reply mode old new end → ShowsResponse mode (response.Text wanted) old new end
text-shown wanted (text bytes) mode old new end gives seen = subst (λ (b : List ℕ). ShowsResponse mode (response.Text b) old new end) gives seen
text-shown wanted no_memory mode old new end gives seen = memory-said (response.Text wanted) mode old new end seen
text-shown wanted _ mode old new end gives seen = absurd gives

-- what is seen, where more is known of it
pub answered-then : (settings : Settings) (last : Bool) (repo path : List ℕ) (P Q : ResponseMode → Outside → Outside → Option End → Type 0)
    → ((mode : ResponseMode) (old new : Outside) (end : Option End) → P mode old new end → Q mode old new end)
    → (old new : Outside) (end : Option End) → ReadShows settings last repo path P old new end → ReadShows settings last repo path Q old new end
answered-then settings last repo path P Q then_too old new end a = record {
  head = a.head;
  left = a.left;
  request = a.request;
  comes = a.comes;
  judged = a.judged;
  sort = a.sort;
  asks = a.asks;
  shows = then_too _ _ new end a.shows;
}

module _ (settings : Settings) (apart : AreNamedApart settings.hosted) (start : State) (sound : IsSound settings start) (before : List Entry) (repo : List ℕ) (row : Row) where
  abbrev s : State
  s = end settings start before

  pub file-answered : (later : List Entry) (e : Entry) (tried : List ℕ) (last : Bool) (old new : Outside) (stop : Option End)
      → Legal settings start (before ++ e ∷ later) → WasNamed settings start before repo row e.moment → e.command ≡ look repo row.path tried
      → ReadShows settings last repo row.path (ShowsReply e.reply) old new stop
      → ReadShows settings last repo row.path (ShowsNamed s row.blob) old new stop
  file-answered later e tried last old new stop legal was looks a =
      let gives = (named-answers settings apart start before later e repo row sound legal was).0 tried looks in
      answered-then settings last repo row.path (ShowsReply e.reply) (ShowsNamed s row.blob) (λ m from to ending seen. file-shown s row.blob e.reply m from to ending gives seen) old new stop a

  pub side-answered : (later : List Entry) (e : Entry) (at tried : List ℕ) (side : Side) (last : Bool) (old new : Outside) (stop : Option End)
      → Legal settings start (before ++ e ∷ later) → WasNamed settings start before repo row e.moment → e.command ≡ look repo at tried → IsSideOf row.path side at
      → ReadShows settings last repo at (ShowsReply e.reply) old new stop → ReadShows settings last repo at (ShowsSide side row.blob) old new stop
  side-answered later e at tried side last old new stop legal was looks beside a =
      let gives = (named-answers settings apart start before later e repo row sound legal was).1 at tried beside.0 side looks beside.1 beside.2 in
      answered-then settings last repo at (ShowsReply e.reply) (ShowsSide side row.blob) (λ m from to ending seen. text-shown (side_text side row.blob.print.digests) e.reply m from to ending gives seen) old new stop a

  pub file-looked : (entries later : List Entry) (mode : ResponseMode) (left : List ℕ) (old new : Outside) (stop : Option End)
      → IsLookedUp repo row.path By mode left entries old new stop
      → IsLookedUp repo row.path
      (λ e m from to ending. Legal settings start (before ++ e ∷ later) → WasNamed settings start before repo row e.moment → ShowsNamed s row.blob m from to ending)
      mode left entries old new stop
  file-looked entries later mode left old new stop (looked e more is looks seen) =
      looked e more is looks (λ legal was.
      let gives = (named-answers settings apart start before later e repo row sound legal was).0 [] looks in
      file-shown s row.blob e.reply mode _ new stop gives seen)
  file-looked entries later mode left old new stop (unread mid head_only to_head none reads seen) = unread mid head_only to_head none reads seen
  file-looked entries later mode left old new stop (failed none rose still ends) = failed none rose still ends

  pub side-looked : (entries later : List Entry) (at : List ℕ) (side : Side) (mode : ResponseMode) (left : List ℕ) (old new : Outside) (stop : Option End)
      → IsSideOf row.path side at → IsLookedUp repo at By mode left entries old new stop
      → IsLookedUp repo at
      (λ e m from to ending. Legal settings start (before ++ e ∷ later) → WasNamed settings start before repo row e.moment → ShowsSide side row.blob m from to ending)
      mode left entries old new stop
  side-looked entries later at side mode left old new stop beside (looked e more is looks seen) =
      looked e more is looks (λ legal was.
      let gives = (named-answers settings apart start before later e repo row sound legal was).1 at [] beside.0 side looks beside.1 beside.2 in
      text-shown (side_text side row.blob.print.digests) e.reply mode _ new stop gives seen)
  side-looked entries later at side mode left old new stop beside (unread mid head_only to_head none reads seen) = unread mid head_only to_head none reads seen
  side-looked entries later at side mode left old new stop beside (failed none rose still ends) = failed none rose still ends
