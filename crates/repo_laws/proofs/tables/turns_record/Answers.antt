use Rattle.std.proofs.Common.{◌≡◌, [], ◌∷◌, ◌++◌, ℕ, subst}
use Rattle.std.specs.List.{flat_map}
use Rattle.repo_model.specs.declared.item.Item.TheVariants.{SessionEnded}
use Rattle.repo_model.specs.declared.session.SessionResult.TheVariants.{Aborted, Done}
use Rattle.repo_model.specs.Data.{Staged}
use Rattle.repo_model.specs.State.{row_at, rows_of}
use Rattle.repo_model.specs.Effect.{recorded}
use Rattle.repo_model.specs.Command.{commit, abort}
use Rattle.repo_model.specs.Turn.{turn}
use Rattle.repo_laws.specs.Holds.{item_at}
use Rattle.repo_laws.proofs.HoldingTurns.{refused-quiet, put-records, open-records, commit-records, abort-records, number-found, ended-again, unlist-records, collect-records}
use Rattle.repo_laws.proofs.tables.turns_record.Goals as goal

pub returns-clause-refused : goal.returns-clause-refused
returns-clause-refused c = refused-quiet

pub returns-clause-created : goal.returns-clause-created
returns-clause-created c = λ settings s now repo path n blob. (put-records settings s now repo path n blob).0

pub returns-clause-relisted : goal.returns-clause-relisted
returns-clause-relisted c = λ settings s now repo path n blob. (put-records settings s now repo path n blob).1

pub returns-clause-opened : goal.returns-clause-opened
returns-clause-opened c = open-records

pub returns-clause-committed : goal.returns-clause-committed
returns-clause-committed c = λ settings s now n k one known going is.
    subst (λ (m : ℕ). recorded (turn settings s now (commit n)).effects ≡ flat_map (λ (file : Staged). item_at one.repo now file (row_at file.path (rows_of one.repo s))) one.staged ++ SessionEnded m (Done k) ∷ [])
    (number-found n s one known) (commit-records settings s now n k one known going is)

pub returns-clause-aborted : goal.returns-clause-aborted
returns-clause-aborted c = λ settings s now n one known going.
    subst (λ (m : ℕ). recorded (turn settings s now (abort n)).effects ≡ SessionEnded m Aborted ∷ []) (number-found n s one known) (abort-records settings s now n one known going)

pub returns-clause-again : goal.returns-clause-again
returns-clause-again c = ended-again

pub returns-clause-unlisted : goal.returns-clause-unlisted
returns-clause-unlisted c = unlist-records

pub returns-clause-collected : goal.returns-clause-collected
returns-clause-collected c = collect-records
