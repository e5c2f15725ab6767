-- What a side file says, as a turn of the machine.
use Rattle.std.proofs.Common.{◌≡◌, ℕ, List, Option, Some, None, refl, sym, subst}
use Rattle.std.specs.Option.{option_map}
use Rattle.mvn_coords.specs.Kind.{kind}
use Rattle.repo_model.specs.Command.{put_side}
use Rattle.repo_model.specs.Data.{Blob, Row, Session, repository, session}
use Rattle.repo_model.specs.Reply.{Reply}
use Rattle.repo_model.specs.State.{open_of, row_at}
use Rattle.repo_model.specs.Turn.{Turn, judged, says, staged_at, with_open}
use Rattle.repo_parts.specs.Hosted.{rows_in}
use Rattle.repo_core.specs.Turn.{Turned}
use Rattle.repo_core.specs.Whole.{Parts}
use Rattle.repo_core.proofs.Turning.{judged-says, turned-says}

pub turned-side : (w : Parts) (repo path said : List ℕ) (reply : Reply)
    → reply ≡ (judged (kind path) said (λ at. option_map (λ (row : Row). row.blob) (row_at at (rows_in repo w.state.hosted)))).reply → Turned w w (put_side (repository repo) path said) reply
turned-side w repo path said reply is =
    let blob_at : List ℕ → Option Blob = λ at. option_map (λ (row : Row). row.blob) (row_at at (rows_in repo w.state.hosted)) in
    subst (Turned w w (put_side (repository repo) path said)) (sym is)
    (turned-says w (put_side (repository repo) path said) (judged (kind path) said blob_at).reply (judged-says (kind path) said blob_at))

-- a side file of a session
pub turned-staged-side : (w : Parts) (n : ℕ) (path said : List ℕ) (reply : Reply)
    → reply ≡ (with_open (open_of n w.state) (λ (found : Session). judged (kind path) said (λ at. staged_at at found.staged))).reply → Turned w w (put_side (session n) path said) reply
turned-staged-side w n path said reply is =
    subst (Turned w w (put_side (session n) path said)) (sym is)
    (turned-says w (put_side (session n) path said) (with_open (open_of n w.state) (λ (found : Session). judged (kind path) said (λ at. staged_at at found.staged))).reply (by (open_of n w.state))) where
      by : (found : Option Session) → let t : Turn = with_open found (λ (one : Session). judged (kind path) said (λ at. staged_at at one.staged)) in t ≡ says t.reply
      by None = refl
      by (Some one) = judged-says (kind path) said (λ at. staged_at at one.staged)
