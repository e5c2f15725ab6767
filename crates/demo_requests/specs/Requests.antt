-- The request of a number x at a place i (RFC 9112; paths of the Maven 2 repository layout).
use Rattle.std.specs.Prelude.{ℕ, ◌+◌, ◌/◌, ◌%◌, nat_lt, ◌==◌, if◌then◌else◌, List, ◌++◌, length, codes}
use Rattle.std.specs.Fmt.{decimal}
use Rattle.httparse.specs.Ascii.{crlf_bytes}
use Rattle.mvn_coords.specs.Calendar.{civil_of}
use Rattle.mvn_coords.specs.Civil.{text_of_time}

-- the artifact is one of 7, the version one of 9
abbrev pub artifact_of : ℕ → ℕ
artifact_of x = x / 10 % 7

abbrev pub version_of : ℕ → ℕ
version_of x = x / 70 % 9

-- the directory of an artifact, and the beginning of the names of a version's files
abbrev pub directory : ℕ → List ℕ
directory a = codes "demo/a" ++ decimal a ++ codes "/"

abbrev pub name : (a v : ℕ) → List ℕ
name a v = codes "/a" ++ decimal a ++ codes "-" ++ decimal v ++ codes ".0"

-- the file of a release, the directory of a snapshot, and the file of a build of it
abbrev pub release : (a v : ℕ) → List ℕ
release a v = directory a ++ decimal v ++ codes ".0" ++ name a v ++ codes ".jar"

abbrev pub snapshot : (a v : ℕ) → List ℕ
snapshot a v = directory a ++ decimal v ++ codes ".0-SNAPSHOT"

-- one moment after another, each a second after the last
abbrev pub stamp : ℕ → List ℕ
stamp i = text_of_time (civil_of (1709208000 + i))

abbrev pub dashed : List ℕ → ℕ → List ℕ
dashed text n = codes "-" ++ text ++ codes "-" ++ decimal n

-- a build, whose number is that of its place
abbrev pub build_text : ℕ → List ℕ
build_text i = dashed (stamp i) i

abbrev pub build : (a v i : ℕ) → List ℕ
build a v i = snapshot a v ++ name a v ++ build_text i ++ codes ".jar"

-- the end of a request's line, and the fields that each request has; the last asks that the connection is closed
abbrev pub fields : List ℕ
fields = codes " HTTP/1.1" ++ crlf_bytes ++ codes "Host: x" ++ crlf_bytes ++ codes "Connection: close" ++ crlf_bytes

abbrev pub bodiless : List ℕ
bodiless = fields ++ crlf_bytes

abbrev pub length_field : ℕ → List ℕ
length_field n = codes "Content-Length: " ++ decimal n ++ crlf_bytes

abbrev pub with_body : List ℕ → List ℕ
with_body body = fields ++ length_field (length body) ++ crlf_bytes ++ body

-- a file that is put to `releases`, with the digits of its artifact and version, or to `snapshots`, with those of the number
abbrev pub puts_release : (a v : ℕ) → List ℕ
puts_release a v = codes "PUT /repository/releases/" ++ release a v ++ with_body (decimal a ++ decimal v)

abbrev pub puts_build : (a v x i : ℕ) → List ℕ
puts_build a v x i = codes "PUT /repository/snapshots/" ++ build a v i ++ with_body (decimal x)

-- the documents of an artifact and of a snapshot, and a release's file, of both
abbrev pub gets_versions : ℕ → List ℕ
gets_versions a = codes "GET /repository/public/" ++ directory a ++ codes "maven-metadata.xml" ++ bodiless

abbrev pub gets_builds : (a v : ℕ) → List ℕ
gets_builds a v = codes "GET /repository/public/" ++ snapshot a v ++ codes "/maven-metadata.xml" ++ bodiless

abbrev pub gets_release : (a v : ℕ) → List ℕ
gets_release a v = codes "GET /repository/public/" ++ release a v ++ bodiless

-- a pass over the repositories
abbrev pub cleans : List ℕ
cleans = codes "POST /api/clean" ++ bodiless

-- of ten kinds
abbrev pub request_by : (kind a v x i : ℕ) → List ℕ
request_by kind a v x i =
    if nat_lt kind 3 then puts_release a v
    else if nat_lt kind 6 then puts_build a v x i
    else if kind == 6 then gets_versions a
    else if kind == 7 then gets_builds a v
    else if kind == 8 then gets_release a v
    else cleans

abbrev pub request : (x i : ℕ) → List ℕ
request x i = request_by (x % 10) (artifact_of x) (version_of x) x i
