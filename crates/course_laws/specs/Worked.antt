-- A worked exchange with an empty repository: a file is put and read (RFC 9112, sections 3 and 4; RFC 9110, section 9.3; the digests of `abc` are those of FIPS 180 and RFC 1321).
use Rattle.std.specs.Prelude.{◌≡◌, ℕ, true, false, List, [], ◌∷◌, ◌++◌, Option, codes}
use Rattle.outside.specs.Moments.{Moments}
use Rattle.repo_model.specs.Settings.{Rule, Settings}
use Rattle.repo_course.specs.declared.outcomes.End.TheVariants.{Closed}
use Rattle.repo_course.specs.Answers.{line}
use Rattle.repo_course.specs.Course.{Fetch}
use Rattle.course_laws.specs.Faultless.{first_scene, play_stream}

-- a repository that takes releases, and one that takes snapshots and keeps one of each
abbrev pub releases : Rule
releases = record { id = codes "releases"; releases = true; snapshots = false; keep_count = 1000; keep_days = 36500 }

abbrev pub snapshots : Rule
snapshots = record { id = codes "snapshots"; releases = false; snapshots = true; keep_count = 1; keep_days = 0 }

-- settings with these two hosted repositories and the longest files, whatever else they say
abbrev pub worked_settings : Settings → Settings
worked_settings settings = record settings { max_file = 16777216; hosted = releases ∷ snapshots ∷ [] }

-- from an empty repository the stream is answered so, and closed, whatever the clock tells and fetches would come to
abbrev pub IsAnswered : List ℕ → List ℕ → Type 0
IsAnswered input output =
    (settings : Settings) (clock : Option Moments) (fetched : List Fetch) →
    let played = play_stream (worked_settings settings) 1000 (first_scene (worked_settings settings) clock input fetched) in
    (played.written ≡ output) × (played.end ≡ Closed)

-- lines that end in CR LF, and an empty one
abbrev pub head_of_lines : List (List ℕ) → List ℕ
head_of_lines [] = 13 ∷ 10 ∷ []
head_of_lines (l ∷ lines) = l ++ 13 ∷ 10 ∷ head_of_lines lines

-- the requests

abbrev pub put_abc : List ℕ
put_abc =
    head_of_lines (
    codes "PUT /repository/releases/org/acme/lib/1.0/lib-1.0.jar HTTP/1.1"
    ∷ codes "Host: x"
    ∷ codes "Content-Length: 3"
    ∷ [])
    ++ codes "abc"

abbrev pub last_get : List ℕ
last_get =
    head_of_lines (
    codes "GET /repository/releases/org/acme/lib/1.0/lib-1.0.jar HTTP/1.1"
    ∷ codes "Host: x"
    ∷ codes "Connection: close"
    ∷ [])

-- their answers

abbrev pub created_201 : List ℕ
created_201 =
    head_of_lines (
    codes "HTTP/1.1 201 Created"
    ∷ codes "Content-Type: text/plain"
    ∷ codes "Content-Length: 8"
    ∷ [])
    ++ line (codes "created")

abbrev pub abc_200 : List ℕ
abc_200 =
    head_of_lines (
    codes "HTTP/1.1 200 OK"
    ∷ codes "Content-Type: application/octet-stream"
    ∷ codes "Content-Length: 3"
    ∷ codes "X-Checksum-SHA1: a9993e364706816aba3e25717850c26c9cd0d89d"
    ∷ codes "X-Checksum-MD5: 900150983cd24fb0d6963f7d28e17f72"
    ∷ codes "Connection: close"
    ∷ [])
    ++ codes "abc"
