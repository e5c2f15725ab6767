-- Request heads with what each of them asks for or is refused for, written out.
use Rattle.std.specs.Prelude.{◌≡◌, ℕ, Bool, true, false, List, [], ◌∷◌, ◌++◌, Result, Ok, Err, codes}
use Rattle.mvn_coords.specs.declared.fault.PathFault.TheVariants.{BadSegment, Short}
use Rattle.mvn_coords.specs.declared.fault.Side.TheVariants.{Sha1}
use Rattle.http_wire.specs.declared.requests.Field.{Field}
use Rattle.http_wire.specs.Head.{Head}
use Rattle.repo_model.specs.Data.{repository, session}
use Rattle.repo_model.specs.Settings.{Settings}
use Rattle.repo_model.specs.declared.question.Question.TheVariants.{Status}
use Rattle.repo_model.specs.declared.update.Update.TheVariants.{Daily}
use Rattle.repo_routes.specs.declared.intent.Sort.TheVariants as sort
use Rattle.repo_routes.specs.declared.judging.Refused.{Refused}
use Rattle.repo_routes.specs.declared.refusal.Allow.TheVariants.{Post, Read, ReadAndPut}
use Rattle.repo_routes.specs.declared.refusal.Refusal.{Refusal}
use Rattle.repo_routes.specs.declared.refusal.Refusal.TheVariants.{BadTarget, BadHost, NoLength, BadLength, NoRoute, NoRepository, Method, UnexpectedBody, NoSession, Unread, BadPath, NoPath, TooLarge}
use Rattle.repo_routes.specs.Intent.{Intent, Judged, reads, puts_file, puts_side, puts_document, asks, cleans, opens, commits, aborts}
use Rattle.repo_routes.specs.Judge.{judge}

-- a hosted repository `releases`, a proxy `central` and a group `all`; files of at most 2,000 bytes
abbrev pub settings : Settings
settings = record {
  grace = 86400;
  clean = 3600;
  max_file = 2000;
  hosted = record { id = codes "releases"; releases = true; snapshots = false; keep_count = 1000; keep_days = 36500 } ∷ [];
  proxies = record {
    id = codes "central";
    host = codes "repo.example";
    port = 80;
    prefix = [];
    update = Daily;
    negative_seconds = 3600;
    allow = codes "**" ∷ [];
    block = [];
  } ∷ [];
  groups = record { id = codes "all"; members = codes "releases" ∷ [] } ∷ [];
}

abbrev pub field : List ℕ → List ℕ → Field
field name value = record { name = name; value = value }

abbrev pub host : Field
host = field (codes "host") (codes "a")

abbrev pub length_is : List ℕ → Field
length_is digits = field (codes "Content-Length") digits

-- a head of HTTP/1.1, and one that names its host
abbrev pub bare : List ℕ → List ℕ → List Field → Head
bare method target fields = record { method = method; target = target; old = false; fields = fields }

abbrev pub head : List ℕ → List ℕ → List Field → Head
head method target fields = bare method target (host ∷ fields)

-- the head of HTTP/1.0 without fields
abbrev pub old_head : List ℕ → List ℕ → Head
old_head method target = record { method = method; target = target; old = true; fields = [] }

-- the refusal, whether the connection ends, and that the answer has a body or none
abbrev pub refusal : Refusal → (close : Bool) → Result Judged Refused
refusal cause close = Err (record { refusal = cause; head_only = false; close = close })

abbrev pub head_refusal : Refusal → (close : Bool) → Result Judged Refused
head_refusal cause close = Err (record { refusal = cause; head_only = true; close = close })

-- the request, on a connection that goes on
abbrev pub request : Intent → Result Judged Refused
request intent = Ok (record { intent = intent; head_only = false; close = false; expects = false })

abbrev pub jar : List ℕ
jar = codes "a/b/1/b-1.jar"

abbrev pub at_jar : List ℕ
at_jar = codes "/repository/releases/a/b/1/b-1.jar"

-- each step refuses before the later ones, which would refuse too
pub record RefusesInOrder : Type 0 where
  pub target : judge settings (bare (codes "PUT") (codes "*") []) ≡ refusal BadTarget true
  pub no_host : judge settings (bare (codes "PUT") (codes "/") []) ≡ refusal BadHost true
  pub two_hosts : judge settings (head (codes "PUT") (codes "/") (host ∷ [])) ≡ refusal BadHost true
  pub no_length : judge settings (head (codes "PUT") (codes "/") []) ≡ refusal NoLength true
  pub chunks : judge settings (head (codes "GET") (codes "/") (field (codes "transfer-encoding") (codes "chunked") ∷ length_is (codes "x") ∷ [])) ≡ refusal NoLength true
  pub bad_length : judge settings (head (codes "GET") (codes "/") (length_is (codes "5 ") ∷ [])) ≡ refusal BadLength true
  pub two_lengths : judge settings (head (codes "PUT") (codes "/") (length_is (codes "5") ∷ length_is (codes "6") ∷ [])) ≡ refusal BadLength true
  pub route : judge settings (head (codes "DELETE") (codes "/repository/no/") (length_is (codes "5") ∷ [])) ≡ refusal NoRoute true
  pub repository : judge settings (head (codes "DELETE") (codes "/repository/no/x") (length_is (codes "5") ∷ [])) ≡ refusal NoRepository true
  pub method : judge settings (head (codes "DELETE") (codes "/repository/releases/x") (length_is (codes "5") ∷ [])) ≡ refusal (Method ReadAndPut) true
  pub put_to_proxy : judge settings (head (codes "PUT") (codes "/repository/central/x") (length_is (codes "99999") ∷ [])) ≡ refusal (Method Read) true
  pub put_to_group : judge settings (head (codes "PUT") (codes "/repository/all/x") (length_is (codes "99999") ∷ [])) ≡ refusal (Method Read) true
  pub proxy_body : judge settings (head (codes "GET") (codes "/repository/central/x") (length_is (codes "5") ∷ [])) ≡ refusal UnexpectedBody true
  pub body : judge settings (head (codes "GET") (codes "/repository/releases/x") (length_is (codes "5") ∷ [])) ≡ refusal UnexpectedBody true
  pub clean_body : judge settings (head (codes "POST") (codes "/api/clean") (length_is (codes "5") ∷ [])) ≡ refusal UnexpectedBody true
  pub path : judge settings (head (codes "PUT") (codes "/repository/releases/x") (length_is (codes "99999") ∷ [])) ≡ refusal (BadPath Short) true
  pub limit : judge settings (head (codes "PUT") at_jar (length_is (codes "2001") ∷ [])) ≡ refusal (TooLarge 2000) true
  pub session_repository : judge settings (head (codes "GET") (codes "/api/repositories/no/sessions") (length_is (codes "5") ∷ [])) ≡ refusal NoRepository true
  pub session_method : judge settings (head (codes "DELETE") (codes "/api/sessions/0/commit") (length_is (codes "5") ∷ [])) ≡ refusal (Method Post) true
  pub session_body : judge settings (head (codes "POST") (codes "/api/sessions/0/commit") (length_is (codes "5") ∷ [])) ≡ refusal UnexpectedBody true
  pub session_number : judge settings (head (codes "PUT") (codes "/api/sessions/0/files/x") (length_is (codes "99999") ∷ [])) ≡ refusal NoSession true
  pub session_path : judge settings (head (codes "PUT") (codes "/api/sessions/1/files/x") (length_is (codes "99999") ∷ [])) ≡ refusal (BadPath Short) true
  pub session_limit : judge settings (head (codes "PUT") (codes "/api/sessions/1/files/a/b/1/b-1.jar") (length_is (codes "2001") ∷ [])) ≡ refusal (TooLarge 2000) true

-- what a refusal without a body does to the connection and to the answer
pub record RefusesWithoutBody : Type 0 where
  pub goes_on : judge settings (head (codes "DELETE") at_jar []) ≡ refusal (Method ReadAndPut) false
  pub ends : judge settings (head (codes "GET") (codes "/") (field (codes "Connection") (codes "Close") ∷ [])) ≡ refusal NoRoute true
  pub old : judge settings (old_head (codes "GET") (codes "/")) ≡ refusal NoRoute true
  pub of_head : judge settings (head (codes "HEAD") (codes "/repository/releases/x") []) ≡ head_refusal (NoPath Short) false
  pub of_head_at_host : judge settings (bare (codes "HEAD") (codes "/") []) ≡ head_refusal BadHost true
  pub small_letters : judge settings (head (codes "get") (codes "/api/status") []) ≡ refusal (Method Read) false
  pub get_clean : judge settings (head (codes "GET") (codes "/api/clean") []) ≡ refusal (Method Post) false
  pub head_clean : judge settings (head (codes "HEAD") (codes "/api/clean") []) ≡ head_refusal (Method Post) false
  pub put_clean : judge settings (head (codes "PUT") (codes "/api/clean") (length_is (codes "0") ∷ [])) ≡ refusal (Method Post) false
  pub post_file : judge settings (head (codes "POST") at_jar []) ≡ refusal (Method ReadAndPut) false
  pub post_status : judge settings (head (codes "POST") (codes "/api/status") []) ≡ refusal (Method Read) false
  pub below_clean : judge settings (head (codes "POST") (codes "/api/clean/") []) ≡ refusal NoRoute false
  pub below_commit : judge settings (head (codes "POST") (codes "/api/sessions/1/commit/") []) ≡ refusal NoRoute false
  pub no_number : judge settings (head (codes "POST") (codes "/api/sessions//commit") []) ≡ refusal NoRoute false
  pub no_file : judge settings (head (codes "PUT") (codes "/api/sessions/1/files/") (length_is (codes "0") ∷ [])) ≡ refusal NoRoute false
  pub of_proxy : judge settings (head (codes "POST") (codes "/api/repositories/central/sessions") []) ≡ refusal NoRepository false
  pub get_sessions : judge settings (head (codes "GET") (codes "/api/repositories/releases/sessions") []) ≡ refusal (Method Post) false
  pub get_commit : judge settings (head (codes "GET") (codes "/api/sessions/1/commit") []) ≡ refusal (Method Post) false
  pub put_abort : judge settings (head (codes "PUT") (codes "/api/sessions/1/abort") (length_is (codes "0") ∷ [])) ≡ refusal (Method Post) false
  pub post_staged : judge settings (head (codes "POST") (codes "/api/sessions/1/files/x") []) ≡ refusal (Method ReadAndPut) false
  pub zero : judge settings (head (codes "POST") (codes "/api/sessions/0/commit") []) ≡ refusal NoSession false
  pub leading_zero : judge settings (head (codes "POST") (codes "/api/sessions/01/commit") []) ≡ refusal NoSession false
  pub no_digit : judge settings (head (codes "POST") (codes "/api/sessions/%31/abort") []) ≡ refusal NoSession false
  pub great_number : judge settings (head (codes "POST") (codes "/api/sessions/9223372036854775808/abort") []) ≡ refusal NoSession false
  pub long_number : judge settings (head (codes "POST") (codes "/api/sessions/10000000000000000000/abort") []) ≡ refusal NoSession false
  pub no_session : judge settings (head (codes "GET") (codes "/api/sessions/x/files/x") []) ≡ refusal NoSession false
  pub get_staged : judge settings (head (codes "GET") (codes "/api/sessions/1/files/x") []) ≡ refusal Unread false
  pub head_staged : judge settings (head (codes "HEAD") (codes "/api/sessions/1/files/x") []) ≡ head_refusal Unread false
  pub of_group : judge settings (head (codes "POST") (codes "/api/repositories/all/sessions") []) ≡ refusal NoRepository false
  pub proxy : judge settings (head (codes "GET") (codes "/repository/central/x") []) ≡ refusal (NoPath Short) false
  pub group : judge settings (head (codes "GET") (codes "/repository/all/x") []) ≡ refusal (NoPath Short) false
  pub post_to_proxy : judge settings (head (codes "POST") (codes "/repository/central/x") []) ≡ refusal (Method Read) false
  pub escape : judge settings (head (codes "GET") (codes "/repository/releases/%zz") []) ≡ refusal (NoPath BadSegment) false
  pub no_text : judge settings (head (codes "GET") (codes "/repository/releases/%ff") []) ≡ refusal (NoPath BadSegment) false
  pub escaped_id : judge settings (head (codes "GET") (codes "/repository/%72eleases/x") []) ≡ refusal NoRepository false

-- what the requests ask for that are not refused
pub record AsksFor : Type 0 where
  pub file : judge settings (head (codes "GET") at_jar []) ≡ request (reads (codes "releases") jar sort.Hosted)
  pub no_body : judge settings (head (codes "GET") (codes "http://h/repository/releases/a%2Fb/1/b-1.jar?x") (length_is (codes "0") ∷ [])) ≡ request (reads (codes "releases") jar sort.Hosted)
  pub file_of_proxy : judge settings (head (codes "GET") (codes "/repository/central/a/b/1/b-1.jar") []) ≡ request (reads (codes "central") jar sort.Proxy)
  pub file_of_group : judge settings (head (codes "GET") (codes "/repository/all/a/b/1/b-1.jar") []) ≡ request (reads (codes "all") jar (sort.Group 1))
  pub status : judge settings (head (codes "GET") (codes "/api/status?x") []) ≡ request (asks Status)
  pub clean : judge settings (head (codes "POST") (codes "/api/clean") []) ≡ request (cleans (codes "releases" ∷ []))
  pub clean_without_body : judge settings (head (codes "POST") (codes "http://h/api/clean?x") (length_is (codes "0") ∷ [])) ≡ request (cleans (codes "releases" ∷ []))
  pub put : judge settings (head (codes "PUT") at_jar (length_is (codes "2000") ∷ length_is (codes "02000") ∷ [])) ≡ request (puts_file (repository (codes "releases")) jar 2000)
  pub put_side : judge settings (head (codes "PUT") (at_jar ++ codes ".sha1") (length_is (codes "40") ∷ [])) ≡ request (puts_side (repository (codes "releases")) (jar ++ codes ".sha1") Sha1 40)
  pub put_document : judge settings (head (codes "PUT") (codes "/repository/releases/a/b/maven-metadata.xml") (length_is (codes "2001") ∷ []))
      ≡ request (puts_document (repository (codes "releases")) (codes "a/b/maven-metadata.xml") 2001)
  pub of_head : judge settings (head (codes "HEAD") at_jar []) ≡ Ok (record { intent = reads (codes "releases") jar sort.Hosted; head_only = true; close = false; expects = false })
  pub old : judge settings (old_head (codes "GET") at_jar) ≡ Ok (record { intent = reads (codes "releases") jar sort.Hosted; head_only = false; close = true; expects = false })
  pub expects : judge settings (head (codes "PUT") at_jar (length_is (codes "1") ∷ field (codes "expect") (codes "100-Continue") ∷ []))
      ≡ Ok (record { intent = puts_file (repository (codes "releases")) jar 1; head_only = false; close = false; expects = true })
  pub expects_nothing : judge settings (head (codes "PUT") at_jar (length_is (codes "0") ∷ field (codes "expect") (codes "100-continue") ∷ []))
      ≡ request (puts_file (repository (codes "releases")) jar 0)
  pub open_session : judge settings (head (codes "POST") (codes "/api/repositories/releases/sessions") []) ≡ request (opens (codes "releases"))
  pub commit_session : judge settings (head (codes "POST") (codes "/api/sessions/9223372036854775807/commit") []) ≡ request (commits 9223372036854775807)
  pub abort_session : judge settings (head (codes "POST") (codes "/api/sessions/1/abort") (length_is (codes "0") ∷ [])) ≡ request (aborts 1)
  pub stage : judge settings (head (codes "PUT") (codes "/api/sessions/20/files/a/b/1/b%2D1.jar") (length_is (codes "2000") ∷ [])) ≡ request (puts_file (session 20) jar 2000)
  pub stage_side : judge settings (head (codes "PUT") (codes "/api/sessions/1/files/a/b/1/b-1.jar.sha1") (length_is (codes "40") ∷ []))
      ≡ request (puts_side (session 1) (jar ++ codes ".sha1") Sha1 40)
  pub stage_document : judge settings (head (codes "PUT") (codes "/api/sessions/1/files/a/b/maven-metadata.xml") (length_is (codes "2001") ∷ []))
      ≡ request (puts_document (session 1) (codes "a/b/maven-metadata.xml") 2001)
