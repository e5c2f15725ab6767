-- The questions, which change nothing: their names, and what is found to each of them.
use Rattle.std.specs.Prelude.{ℕ, not, if◌then◌else◌, List, length, count_by, sum_by, Option, Some, None, bytes_eq, codes}
use Rattle.repo_model.specs.declared.question.Question.{Question}
use Rattle.repo_model.specs.declared.question.Question.TheVariants.{Status}
use Rattle.repo_model.specs.declared.question.Finding.{Finding}
use Rattle.repo_model.specs.declared.question.Finding.TheVariants.{Counts}
use Rattle.repo_model.specs.Data.{Proxy}
use Rattle.repo_model.specs.Document.{is_listed}
use Rattle.repo_model.specs.State.{State, is_open}

-- the question of a name
abbrev pub question_named : List ℕ → Option Question
question_named name = if bytes_eq name (codes "status") then Some Status else None

-- what is found to a question in a state
abbrev pub finding_of : State → Question → Finding
finding_of s Status =
    Counts (sum_by (λ h. length h.rows) s.hosted) (sum_by (λ h. count_by (λ row. not (is_listed row.phase)) h.rows) s.hosted)
    (sum_by (λ (p : Proxy). length p.files) s.proxies) (sum_by (λ (p : Proxy). length p.documents) s.proxies)
    (count_by is_open s.sessions)
