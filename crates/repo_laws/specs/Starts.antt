-- Worked starts: over the tables of a purge that had begun, and over those of sessions that had ended.
use Rattle.std.specs.Prelude.{List, [], ◌∷◌, Some, None, codes}
use Rattle.repo_model.specs.declared.session.SessionResult.TheVariants.{Aborted, Done}
use Rattle.repo_model.specs.Data.{repository}
use Rattle.repo_model.specs.State.{State, opening}
use Rattle.repo_model.specs.Command.{look, done, may_put, open_session, commit, abort, collect}
use Rattle.repo_model.specs.Reply.{file, missed, given_back, draft, no_session, opened, ended, collected}
use Rattle.repo_model.specs.Tables.{no_tables}
use Rattle.repo_model.specs.Restart.{started}
use Rattle.repo_model.specs.History.{Entry}
use Rattle.repo_laws.specs.Holds.{with_items, told}
use Rattle.repo_laws.specs.Histories.{faded}
use Rattle.repo_laws.specs.Worked.{shop, abc, at, snapshots, releases, jar_1, jar_3, later_jar}

-- a start after a build that fades; the store has the rows' blobs and one that no row names
abbrev pub purge_begun : State
purge_begun = started shop (λ n. Some (codes "abc")) (1 ∷ 2 ∷ 7 ∷ []) None 0 (with_items no_tables (told shop (opening shop None) faded))

-- the build is read up to the grace, and goes after it
abbrev pub purged_later : List Entry
purged_later =
    at 2060 (look snapshots jar_1 []) (file 1 (abc 1))
    ∷ at 2060 (done 1) given_back
    ∷ at 2060 (may_put (repository snapshots) jar_3) (draft 8)
    ∷ at 2061 collect (collected 1 (1 ∷ []))
    ∷ at 2061 (look snapshots jar_1 []) missed
    ∷ []

-- sessions of which one was given up, one was committed and one stayed open
abbrev pub sessions_of_three : List Entry
sessions_of_three =
    at 3000 (open_session releases) (opened 1)
    ∷ at 3000 (abort 1) (ended Aborted)
    ∷ at 3000 (open_session releases) (opened 2)
    ∷ at 3010 (commit 2) (ended (Done 0))
    ∷ at 3010 (open_session releases) (opened 3)
    ∷ []

-- a start after them, over a store that has one blob
abbrev pub sessions_ended : State
sessions_ended = started shop (λ n. None) (4 ∷ []) None 0 (with_items no_tables (told shop (opening shop None) sessions_of_three))

-- results are kept, the open session is gone, and numbers go on
abbrev pub asked_again : List Entry
asked_again =
    at 3030 (commit 2) (ended (Done 0))
    ∷ at 3030 (abort 1) (ended Aborted)
    ∷ at 3030 (commit 3) no_session
    ∷ at 3030 (open_session releases) (opened 4)
    ∷ at 3030 (may_put (repository releases) later_jar) (draft 5)
    ∷ []
