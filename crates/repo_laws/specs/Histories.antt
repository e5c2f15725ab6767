-- Worked histories: builds that fade, are read, go, and are listed again; sessions that are committed or refused; what is sent or staged once more.
use Rattle.std.specs.Prelude.{ℕ, List, [], ◌∷◌, ◌++◌, map, codes}
use Rattle.std.specs.List.{range_with_len}
use Rattle.repo_model.specs.declared.question.Finding.TheVariants.{Counts}
use Rattle.repo_model.specs.declared.question.Question.TheVariants.{Status}
use Rattle.repo_model.specs.declared.session.SessionResult.TheVariants.{Aborted, Done}
use Rattle.repo_model.specs.Data.{repository, session}
use Rattle.repo_model.specs.Command.{look, done, may_put, put, put_side, put_doc, drop_draft, open_session, stage, commit, abort, unlist, collect, ask}
use Rattle.repo_model.specs.Reply.{file, text, missed, given_back, kind_refused, draft, no_draft, taken, same, created, relisted, not_there, differs, agreed, noted, dropped, opened, sessions_full, no_session, staged, offends, missing_pom, ended, unlisted, collected, finds}
use Rattle.repo_model.specs.History.{Entry}
use Rattle.repo_laws.specs.Worked.{abc, letter_a, nothing, print_of_abc, print_of_a, print_of_nothing, sha1_of_abc, sha1_of_nothing, sha1_text_of_abc, at, snapshots, nightly, releases, jar_1, pom_1, pom_2, pom_3, jar_3, release_jar, release_pom, release_sources, other_jar, next_jar, next_pom, later_jar, sha1_file, artifact_document}

-- a build's jar and pom, and the pom of a newer build
abbrev pub two_builds : List Entry
two_builds =
    at 1709208000 (may_put (repository snapshots) jar_1) (draft 1)
    ∷ at 1709208000 (put snapshots jar_1 1 (abc 1)) created
    ∷ at 1709208000 (may_put (repository snapshots) pom_1) (draft 2)
    ∷ at 1709208000 (put snapshots pom_1 2 (abc 2)) created
    ∷ at 1709208000 (may_put (repository snapshots) pom_2) (draft 3)
    ∷ at 1709208000 (put snapshots pom_2 3 (abc 3)) created
    ∷ []

-- two builds, of which the older fades
abbrev pub faded : List Entry
faded =
    at 1000 (may_put (repository snapshots) jar_1) (draft 1)
    ∷ at 1000 (put snapshots jar_1 1 (abc 1)) created
    ∷ at 1010 (may_put (repository snapshots) pom_2) (draft 2)
    ∷ at 1010 (put snapshots pom_2 2 (abc 2)) created
    ∷ at 2000 (unlist snapshots) (unlisted 1)
    ∷ []

-- it is read up to the grace, and gone after it
abbrev pub purged : List Entry
purged =
    faded
    ++ at 2060 (look snapshots jar_1 []) (file 1 (abc 1))
    ∷ at 2060 (done 1) given_back
    ∷ at 2060 collect (collected 0 [])
    ∷ at 2061 collect (collected 1 (1 ∷ []))
    ∷ at 2061 (look snapshots jar_1 []) missed
    ∷ []

-- its blob stays while somebody reads it
abbrev pub read_to_its_end : List Entry
read_to_its_end =
    faded
    ++ at 2060 (look snapshots jar_1 []) (file 1 (abc 1))
    ∷ at 2061 collect (collected 1 [])
    ∷ at 2061 (look snapshots jar_1 []) missed
    ∷ at 2061 (done 1) given_back
    ∷ at 2062 collect (collected 0 (1 ∷ []))
    ∷ []

-- the same content is sent again, and the build is listed again
abbrev pub listed_again : List Entry
listed_again =
    faded
    ++ at 2030 (may_put (repository snapshots) jar_1) (draft 3)
    ∷ at 2030 (put snapshots jar_1 3 (abc 3)) relisted
    ∷ []

abbrev pub still_there : List Entry
still_there = at 2061 collect (collected 0 (3 ∷ [])) ∷ at 2061 (look snapshots jar_1 []) (file 1 (abc 1)) ∷ []

-- a session that is not committed since one of its files is there with another content, and one that is
abbrev pub deployed : List Entry
deployed =
    at 3000 (may_put (repository releases) release_jar) (draft 1)
    ∷ at 3000 (put releases release_jar 1 (abc 1)) created
    ∷ at 3000 (open_session releases) (opened 1)
    ∷ at 3000 (may_put (session 1) next_jar) (draft 2)
    ∷ at 3000 (stage 1 next_jar 2 (abc 2)) staged
    ∷ at 3000 (may_put (session 1) next_pom) (draft 3)
    ∷ at 3000 (stage 1 next_pom 3 (letter_a 3)) staged
    ∷ at 3000 (may_put (session 1) release_jar) (draft 4)
    ∷ at 3000 (stage 1 release_jar 4 (nothing 4)) staged
    ∷ at 3010 (commit 1) (offends release_jar print_of_abc print_of_nothing)
    ∷ at 3010 (look releases next_jar []) missed
    ∷ at 3010 (abort 1) (ended Aborted)
    ∷ at 3020 (open_session releases) (opened 2)
    ∷ at 3020 (may_put (session 2) next_jar) (draft 5)
    ∷ at 3020 (stage 2 next_jar 5 (abc 5)) staged
    ∷ at 3020 (may_put (session 2) next_pom) (draft 6)
    ∷ at 3020 (stage 2 next_pom 6 (letter_a 6)) staged
    ∷ at 3020 (ask Status) (finds (Counts 1 0 0 0 1))
    ∷ at 3030 (commit 2) (ended (Done 2))
    ∷ at 3030 (commit 2) (ended (Done 2))
    ∷ at 3030 (look releases next_jar []) (file 1 (abc 5))
    ∷ at 3030 collect (collected 0 (2 ∷ 3 ∷ 4 ∷ []))
    ∷ at 3030 (ask Status) (finds (Counts 3 0 0 0 0))
    ∷ []

-- the sessions of these numbers are opened
abbrev pub opens_each : List ℕ → List Entry
opens_each numbers = map (λ n. at 4000 (open_session releases) (opened n)) numbers

-- a session without the pom of its version, one that was never opened, and one too many
abbrev pub refused : List Entry
refused =
    at 4000 (open_session releases) (opened 1)
    ∷ at 4000 (may_put (session 1) later_jar) (draft 1)
    ∷ at 4000 (stage 1 later_jar 1 (abc 1)) staged
    ∷ at 4000 (commit 1) (missing_pom (codes "org/acme/lib/3.0"))
    ∷ at 4000 (commit 999) no_session
    ∷ opens_each (range_with_len 2 63)
    ++ at 4000 (open_session releases) sessions_full
    ∷ []

-- what is sent once more: a file, another content in its place, side files that agree, differ or have no file, a document
abbrev pub sent_again : List Entry
sent_again =
    at 1709208000 (may_put (repository releases) jar_1) kind_refused
    ∷ at 1709208000 (may_put (repository snapshots) release_jar) kind_refused
    ∷ at 1709208000 (may_put (repository releases) release_jar) (draft 1)
    ∷ at 1709208000 (put releases release_jar 1 (abc 1)) created
    ∷ at 1709208000 (put releases release_jar 1 (abc 1)) no_draft
    ∷ at 1709208000 (may_put (repository releases) release_jar) (draft 2)
    ∷ at 1709208010 (put releases release_jar 2 (abc 2)) same
    ∷ at 1709208010 (may_put (repository releases) release_jar) (draft 3)
    ∷ at 1709208010 (put releases release_jar 3 (nothing 3)) (taken print_of_abc print_of_nothing)
    ∷ at 1709208010 (put_side (repository releases) (sha1_file release_jar) sha1_of_abc) agreed
    ∷ at 1709208010 (put_side (repository releases) (sha1_file release_jar) sha1_of_nothing) (differs sha1_of_nothing sha1_of_abc)
    ∷ at 1709208010 (put_side (repository releases) (sha1_file next_jar) sha1_of_abc) not_there
    ∷ at 1709208010 (put_side (repository releases) (sha1_file artifact_document) sha1_of_nothing) agreed
    ∷ at 1709208010 (put_doc (repository releases) artifact_document) noted
    ∷ at 1709208010 (may_put (repository releases) other_jar) (draft 4)
    ∷ at 1709208010 (put releases other_jar 4 (abc 4)) created
    ∷ at 1709208010 (may_put (repository releases) next_jar) (draft 5)
    ∷ at 1709208010 (drop_draft 5) dropped
    ∷ at 1709208010 (drop_draft 5) dropped
    ∷ at 1709208010 collect (collected 0 (2 ∷ 3 ∷ 5 ∷ []))
    ∷ at 1709208010 (look releases release_jar []) (file 1 (abc 1))
    ∷ at 1709208010 (look releases (sha1_file release_jar) []) (text sha1_text_of_abc)
    ∷ []

-- a build fades as a whole, after the moment at which its last file was accepted, where its own directory has a newer one
abbrev pub aged : List Entry
aged =
    at 980 (may_put (repository snapshots) jar_3) (draft 1)
    ∷ at 980 (put snapshots jar_3 1 (abc 1)) created
    ∷ at 990 (may_put (repository snapshots) pom_2) (draft 2)
    ∷ at 990 (put snapshots pom_2 2 (abc 2)) created
    ∷ at 1000 (may_put (repository snapshots) jar_1) (draft 3)
    ∷ at 1000 (put snapshots jar_1 3 (abc 3)) created
    ∷ at 1005 (may_put (repository snapshots) pom_1) (draft 4)
    ∷ at 1005 (put snapshots pom_1 4 (abc 4)) created
    ∷ at 1005 (unlist snapshots) (unlisted 0)
    ∷ at 1006 (unlist releases) (unlisted 0)
    ∷ at 1006 (unlist snapshots) (unlisted 2)
    ∷ at 1006 (ask Status) (finds (Counts 4 2 0 0 0))
    ∷ at 1066 (look snapshots (sha1_file jar_1) []) (text sha1_text_of_abc)
    ∷ at 1067 collect (collected 2 (3 ∷ 4 ∷ []))
    ∷ at 1067 (look snapshots (sha1_file jar_1) []) missed
    ∷ []

-- three builds, of which the two older ones fade a second after the day from which their files were accepted, and the newest never
abbrev pub kept_a_day : List Entry
kept_a_day =
    at 1000 (may_put (repository snapshots) jar_1) (draft 1)
    ∷ at 1000 (put snapshots jar_1 1 (abc 1)) created
    ∷ at 2000 (may_put (repository snapshots) pom_2) (draft 2)
    ∷ at 2000 (put snapshots pom_2 2 (abc 2)) created
    ∷ at 3000 (may_put (repository snapshots) pom_3) (draft 3)
    ∷ at 3000 (put snapshots pom_3 3 (abc 3)) created
    ∷ at 87400 (unlist snapshots) (unlisted 0)
    ∷ at 87401 (unlist snapshots) (unlisted 1)
    ∷ at 88400 (unlist snapshots) (unlisted 0)
    ∷ at 88401 (unlist snapshots) (unlisted 1)
    ∷ at 1000000 (unlist snapshots) (unlisted 0)
    ∷ at 1000000 (ask Status) (finds (Counts 3 2 0 0 0))
    ∷ at 1000000 collect (collected 2 (1 ∷ 2 ∷ []))
    ∷ at 1000000 (look snapshots pom_3 []) (file 1 (abc 3))
    ∷ []

-- the same two builds in each of two repositories
abbrev pub shelved : List Entry
shelved =
    at 1000 (may_put (repository nightly) jar_1) (draft 1)
    ∷ at 1000 (put nightly jar_1 1 (abc 1)) created
    ∷ at 1000 (may_put (repository nightly) pom_2) (draft 2)
    ∷ at 1000 (put nightly pom_2 2 (abc 2)) created
    ∷ at 1000 (may_put (repository snapshots) pom_1) (draft 3)
    ∷ at 1000 (put snapshots pom_1 3 (abc 3)) created
    ∷ at 1000 (may_put (repository snapshots) jar_1) (draft 4)
    ∷ at 1000 (put snapshots jar_1 4 (abc 4)) created
    ∷ at 1000 (may_put (repository snapshots) pom_2) (draft 5)
    ∷ at 1000 (put snapshots pom_2 5 (abc 5)) created
    ∷ []

-- each lets its own fade
abbrev pub shelves_faded : List Entry
shelves_faded =
    shelved
    ++ at 87401 (unlist nightly) (unlisted 1)
    ∷ at 87401 (ask Status) (finds (Counts 5 1 0 0 0))
    ∷ at 87401 (unlist snapshots) (unlisted 2)
    ∷ []

abbrev pub shelves_cleared : List Entry
shelves_cleared =
    shelves_faded
    ++ at 87461 collect (collected 0 [])
    ∷ at 87462 collect (collected 3 (1 ∷ 3 ∷ 4 ∷ []))
    ∷ at 87462 (look nightly jar_1 []) missed
    ∷ at 87462 (look nightly pom_2 []) (file 1 (abc 2))
    ∷ []

-- what is staged once more; the first directory without its pom; a pom that is there already; what an ended session answers
abbrev pub staged_again : List Entry
staged_again =
    at 5000 (may_put (repository releases) release_pom) (draft 1)
    ∷ at 5000 (put releases release_pom 1 (letter_a 1)) created
    ∷ at 5000 (open_session releases) (opened 1)
    ∷ at 5000 (may_put (session 1) jar_1) kind_refused
    ∷ at 5000 (may_put (session 1) release_sources) (draft 2)
    ∷ at 5000 (stage 2 release_sources 2 (abc 2)) no_session
    ∷ at 5000 (may_put (session 1) release_sources) (draft 3)
    ∷ at 5000 (stage 1 release_sources 3 (abc 3)) staged
    ∷ at 5000 (stage 1 release_sources 3 (abc 3)) no_draft
    ∷ at 5000 (may_put (session 1) release_sources) (draft 4)
    ∷ at 5000 (stage 1 release_sources 4 (abc 4)) same
    ∷ at 5000 (may_put (session 1) release_sources) (draft 5)
    ∷ at 5000 (stage 1 release_sources 5 (letter_a 5)) (taken print_of_abc print_of_a)
    ∷ at 5000 (put_side (session 1) (sha1_file release_sources) sha1_of_abc) agreed
    ∷ at 5000 (put_side (session 1) (sha1_file release_sources) sha1_of_nothing) (differs sha1_of_nothing sha1_of_abc)
    ∷ at 5000 (put_side (session 1) (sha1_file release_pom) sha1_of_abc) not_there
    ∷ at 5000 (put_doc (session 1) artifact_document) noted
    ∷ at 5010 (commit 1) (ended (Done 1))
    ∷ at 5010 (abort 1) (ended (Done 1))
    ∷ at 5010 (put_doc (session 1) artifact_document) no_session
    ∷ at 5010 (put_side (session 1) (sha1_file release_sources) sha1_of_abc) no_session
    ∷ at 5010 (may_put (session 1) release_sources) no_session
    ∷ at 5010 (look releases release_sources []) (file 1 (abc 3))
    ∷ at 5020 (open_session releases) (opened 2)
    ∷ at 5020 (may_put (session 2) later_jar) (draft 6)
    ∷ at 5020 (stage 2 later_jar 6 (abc 6)) staged
    ∷ at 5020 (may_put (session 2) next_jar) (draft 7)
    ∷ at 5020 (stage 2 next_jar 7 (abc 7)) staged
    ∷ at 5020 (commit 2) (missing_pom (codes "org/acme/lib/2.0"))
    ∷ at 5020 (may_put (session 2) next_pom) (draft 8)
    ∷ at 5020 (stage 2 next_pom 8 (letter_a 8)) staged
    ∷ at 5020 (commit 2) (missing_pom (codes "org/acme/lib/3.0"))
    ∷ []
