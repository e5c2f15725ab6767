-- What a stream has written beside what is played where nothing fails: all of it, or up to where the source, the sink or memory failed.
use Rattle.std.specs.Prelude.{◌≡◌, ◌⊎◌, ℕ, zero, suc, ◌<◌, ◌≤◌, ◌==◌, Bool, true, List, [], ◌∷◌, ◌++◌, length, Option, Some, None, IsSome}
use Rattle.std.specs.List.{AllByRecursion, flat_map}
use Rattle.fetch_plan.specs.declared.Outcome.{Outcome as Came}
use Rattle.fetch_plan.specs.declared.Plan.{Plan}
use Rattle.outside.specs.Faults.{Rose, last_count}
use Rattle.outside_remote.specs.Exchanges.{Sees}
use Rattle.remote_fetch.specs.Exchanged.{Reaches}
use Rattle.remote_fetch.specs.Fetching.{IsFetched}
use Rattle.remote_fetch.specs.declared.contents.Content.{Content}
use Rattle.http_wire.specs.Answer.{continue_bytes, shown}
use Rattle.http_wire.specs.Front.{Front, Whole, front}
use Rattle.repo_model.specs.Command.{Command, look}
use Rattle.repo_model.specs.Data.{Hosted, Proxy, Row, Session, Staged}
use Rattle.repo_model.specs.History.{Entry}
use Rattle.repo_model.specs.Reply.{Reply, fetches}
use Rattle.repo_model.specs.Settings.{Settings}
use Rattle.repo_model.specs.State.{State}
use Rattle.repo_routes.specs.Framing.{is_head}
use Rattle.repo_course.specs.Answers.{memory_answer}
use Rattle.repo_course.specs.Course.{Fetch}
use Rattle.repo_course.specs.declared.outcomes.End.{End}
use Rattle.repo_course.specs.declared.outcomes.End.TheVariants as stream
use Rattle.repo_course.specs.Serving.{IsFrontOf, Outside}
use Rattle.course_laws.specs.Faultless.{Scene, play_stream, play_turn}

-- the bytes of each file's blob are told, of those in sessions and of those that proxies keep too
abbrev pub RowsTold : State → Type 0
RowsTold s =
    AllByRecursion (λ (h : Hosted). AllByRecursion (λ (row : Row). IsSome row.blob.bytes) h.rows) s.hosted
    × AllByRecursion (λ (x : Session). AllByRecursion (λ (file : Staged). IsSome file.blob.bytes) x.staged) s.sessions
    × AllByRecursion (λ (p : Proxy). AllByRecursion (λ (row : Row). IsSome row.blob.bytes) p.files) s.proxies

-- the plan that a look was answered
abbrev pub planned_by : Command → Reply → List Plan
planned_by (look repo path tried) (fetches plan) = plan ∷ []
planned_by command reply = []

-- the plans that the looks among these entries were answered, in their order
abbrev pub plans_of : List Entry → List Plan
plans_of entries = flat_map (λ (e : Entry). planned_by e.command e.reply) entries

-- What the fetch of a plan came to by what was seen of the remote before it and after it. Where memory ran out for it at most three
-- exchanges were made, and where it was wanted for what follows, the fetch was made.
abbrev pub IsFetch : Plan → Fetch → Sees → Sees → Type 0
IsFetch plan (Some outcome) old new = IsFetched plan outcome old new
IsFetch plan None old new = Reaches 3 old new ⊎ ((outcome : Came Content) × IsFetched plan outcome old new)

-- These plans were fetched, one after another, and came to this, and of the remote nothing else was seen. Only the last of them may be
-- left, by a look after which no fetch may come any more.
abbrev pub AreFetched : List Plan → List Fetch → Sees → Sees → Type 0
AreFetched plans [] old new = (length plans ≤ 1) × (new ≡ old)
AreFetched [] (came ∷ more) old new = ⊥
AreFetched (plan ∷ plans) (came ∷ more) old new = (mid : Sees) × IsFetch plan came old mid × AreFetched plans more mid new

-- the count stood still, and not because it is at the end of its type
abbrev pub StoodStill : ℕ → ℕ → Type 0
StoodStill before after = (after ≡ before) × (after < last_count)

-- nothing of the outside failed
pub record NoFaults (old new : Outside) : Type 0 where
  pub reads : StoodStill old.read_faults new.read_faults
  pub writes : StoodStill old.write_faults new.write_faults
  pub blobs : StoodStill old.blob_faults new.blob_faults

-- the head of a HEAD request comes
abbrev pub AsksHead : Front → Type 0
AsksHead (Whole head rest) = is_head head ≡ true
AsksHead _ = ⊥

-- Whole answers of the first requests, as they are played, and after them nothing, or `100 Continue` where the next one is
-- played so. A next one may still come, and an answer to it that is its head alone is one to HEAD.
unfoldable pub IsAnswers : Settings → ℕ → Scene → Bool → List ℕ → Type 0
IsAnswers settings zero scene head_only written = ⊥
IsAnswers settings (suc left) scene head_only written =
    let played = play_turn settings (left == 0) (front scene.input) scene in
    ((head_only ≡ true → AsksHead (front scene.input))
    × ((written ≡ []) ⊎ ((written ≡ continue_bytes) × IsFrontOf continue_bytes played.written)))
    ⊎ ((rest : List ℕ) × (played.end ≡ None) × (written ≡ played.written ++ rest) × IsAnswers settings left played.scene head_only rest)

-- The stream of at most so many requests has taken what is played and ended so, or, from where memory ran out, the answer
-- that says so, or its head alone: after the whole answers of the requests before it, and maybe its own `100 Continue`.
pub data IsAsPlayed (settings : Settings) (n : ℕ) (scene : Scene) (before : List ℕ) (output : Option (List ℕ)) (end : End) : Type 0 where
  in_full : output ≡ Some (before ++ (play_stream settings n scene).written) → end ≡ (play_stream settings n scene).end
      → IsAsPlayed settings n scene before output end
  wants_memory : (written : List ℕ) (head_only : Bool) → IsFrontOf written (play_stream settings n scene).written
      → IsAnswers settings n scene head_only written
      → output ≡ Some (before ++ written ++ shown (memory_answer head_only))
      → end ≡ stream.Closed → IsAsPlayed settings n scene before output end

-- the source or the sink failed, and the stream ended by it
abbrev pub Broke : Outside → Outside → End → Type 0
Broke old new end =
    ((end ≡ stream.SourceFault) × Rose old.read_faults new.read_faults)
    ⊎ ((end ≡ stream.SinkFault) × Rose old.write_faults new.write_faults)

-- As played, or a front of that, up to where the source or the sink failed; or the sink failed in the answer that memory ran out.
pub data IsPlayedUpTo (settings : Settings) (n : ℕ) (scene : Scene) (before : List ℕ) (old new : Outside) (end : End) : Type 0 where
  unbroken : IsAsPlayed settings n scene before new.output end → IsPlayedUpTo settings n scene before old new end
  broken : (written : List ℕ) → IsFrontOf written (play_stream settings n scene).written → new.output ≡ Some (before ++ written)
      → Broke old new end → IsPlayedUpTo settings n scene before old new end
  cut_starved : (written part : List ℕ) (head_only : Bool) → IsFrontOf written (play_stream settings n scene).written
      → IsAnswers settings n scene head_only written
      → IsFrontOf part (shown (memory_answer head_only)) → new.output ≡ Some (before ++ written ++ part)
      → end ≡ stream.SinkFault → Rose old.write_faults new.write_faults → IsPlayedUpTo settings n scene before old new end

-- the stream tells this input and output, and the machine what it has
pub record BeginsAt (start : State) (input output : List ℕ) (o : Outside) : Type 0 where
  pub input_is : o.input ≡ Some input
  pub output_is : o.output ≡ Some output
  pub rows : RowsTold start
  pub clock : IsSome start.clock

-- the last that the stream has taken says that memory ran out
abbrev pub WantedMemory : List ℕ → Option (List ℕ) → Type 0
WantedMemory before output = (front : List ℕ) × (head_only : Bool) × (output ≡ Some (before ++ front ++ shown (memory_answer head_only)))
