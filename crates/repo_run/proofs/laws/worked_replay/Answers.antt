use Rattle.std.proofs.Common.{◌≡◌, ◌⊎◌, ◌++◌, [], Some, inl, inr, List, ℕ, Option, ap, ◌∙◌}
use Rattle.course_laws.specs.AsPlayed.{IsAsPlayed, in_full, wants_memory, WantedMemory}
use Rattle.course_laws.specs.Faultless.{Scene, play_stream}
use Rattle.repo_model.specs.Settings.{Settings}
use Rattle.course_laws.specs.Worked.{last_get, put_abc}
use Rattle.course_laws.proofs.PutAndGet.{put_and_get}
use Rattle.repo_course.specs.declared.outcomes.End.{End}
use Rattle.repo_run.proofs.laws.worked_replay.Goals as goal

taken : (settings : Settings) (n : ℕ) (scene : Scene) (written : List ℕ) (end : End) → (play_stream settings n scene).written ≡ written
    → (play_stream settings n scene).end ≡ end → (output : Option (List ℕ)) (ending : End) → IsAsPlayed settings n scene [] output ending
    → ((output ≡ Some written) × (ending ≡ end)) ⊎ WantedMemory [] output
taken settings n scene written end is ends output ending (in_full out so) = inl (out ∙ ap Some is, so ∙ ends)
taken settings n scene written end is ends output ending (wants_memory front head_only is_front answers out so) = inr (front, head_only, out)

pub returns : goal.returns
returns g c settings old new moments ending calls replayed fresh told calm =
    let played = replayed.faultless fresh moments (put_abc ++ last_get) [] told (record { reads = calm.reads; writes = calm.writes; blobs = calm.blobs }) in
    let worked = put_and_get settings (Some moments) played.0 in
    taken _ _ _ _ _ worked.0 worked.1 new.place.connection.taken ending played.2
