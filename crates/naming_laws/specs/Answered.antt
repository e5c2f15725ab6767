-- How a file is answered after an entry that served a document.
use Rattle.std.specs.Prelude.{ℕ, ◌+◌, List}
use Rattle.repo_model.specs.Data.{Row}
use Rattle.repo_model.specs.Settings.{Settings}
use Rattle.repo_model.specs.State.{State}
use Rattle.repo_model.specs.History.{Entry, after}
use Rattle.repo_laws.specs.Closed.{AnswersUpTo}

-- each later entry up to the grace after this one answers the row's path with the blob that it has here
abbrev pub IsAnswered : Settings → State → Entry → List Entry → List ℕ → Row → Type 0
IsAnswered settings s e later repo row = AnswersUpTo (e.moment + settings.grace) repo row.path row.blob settings (after settings s e) later
