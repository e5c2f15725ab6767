-- The commands of the machine, as plain data, and the condition that each of them meets.
use Rattle.std.specs.Prelude.{ℕ, Bool, true, false, ◌&&◌, ◌||◌, ◌==◌, nat_lt, nat_le, List, length, find, Option, Some, None, Result, Ok, Err, is_some, bytes_eq}
use Rattle.mvn_coords.specs.Kind.{kind}
use Rattle.mvn_coords.specs.declared.kind.Kind.{Kind}
use Rattle.mvn_coords.specs.declared.kind.Kind.TheVariants.{File, FileSide, DocSide, Doc}
use Rattle.mvn_coords.specs.declared.fault.PathFault.{PathFault}
use Rattle.mvn_digest.specs.Sides.{digest_size}
use Rattle.mvn_metadata.specs.Written as written
use Rattle.repo_model.specs.Data.{Blob, Place, repository, session}
use Rattle.repo_model.specs.declared.question.Question.{Question}
use Rattle.fetch_plan.specs.declared.Plan.{Plan}
use Rattle.fetch_plan.specs.declared.Outcome.TheVariants.{Got as Landed}
use Rattle.repo_model.specs.Fetched.{Landing, got_file, got_doc}
use Rattle.repo_model.specs.Settings.{GroupRule, ProxyRule, Rule, Settings}
use Rattle.repo_model.specs.Paths.{takes, file_at}
use Rattle.repo_model.specs.State.{number_end}

pub data Command : Type 0 where
  -- asks what is at a path, and for a lease on the blob of a file; these members of a group were tried
  look : (repo path : List ℕ) (tried : List ℕ) → Command
  -- gives a lease back
  done : (lease : ℕ) → Command
  -- asks for a draft, the number of a blob to store, for a file at a path
  may_put : Place → (path : List ℕ) → Command
  -- makes the blob stored under a draft the file at a path
  put : (repo path : List ℕ) (draft : ℕ) (blob : Blob) → Command
  -- compares the digest that a side file says with that of its file
  put_side : Place → (path said : List ℕ) → Command
  -- a document was sent, which is not kept
  put_doc : Place → (path : List ℕ) → Command
  -- gives a draft up
  drop_draft : (draft : ℕ) → Command
  -- opens a deployment session for a repository
  open_session : (repo : List ℕ) → Command
  -- makes the blob stored under a draft a file of a session
  stage : (session : ℕ) (path : List ℕ) (draft : ℕ) (blob : Blob) → Command
  -- deploys all files of a session at once
  commit : (session : ℕ) → Command
  -- gives a session up
  abort : (session : ℕ) → Command
  -- lets the builds of a repository fade that are not to be kept
  unlist : (repo : List ℕ) → Command
  -- takes away what has faded for longer than the grace period, and asks for garbage to remove
  collect : Command
  -- asks a question
  ask : Question → Command
  -- what came of a fetch
  land : Plan → Landing → Command

abbrev pub rule_of : List ℕ → Settings → Option Rule
rule_of id settings = find (λ rule. bytes_eq rule.id id) settings.hosted

abbrev pub is_fit : {A : Type 0} → (A → Bool) → Option A → Bool
is_fit test None = false
is_fit test (Some value) = test value

abbrev pub is_there : List ℕ → Settings → Bool
is_there repo settings = is_some (rule_of repo settings)

abbrev pub proxy_rule_of : List ℕ → Settings → Option ProxyRule
proxy_rule_of id settings = find (λ rule. bytes_eq rule.id id) settings.proxies

abbrev pub group_rule_of : List ℕ → Settings → Option GroupRule
group_rule_of id settings = find (λ rule. bytes_eq rule.id id) settings.groups

-- a repository of any kind
abbrev pub is_known : List ℕ → Settings → Bool
is_known id settings = is_there id settings || (is_some (proxy_rule_of id settings) || is_some (group_rule_of id settings))

abbrev pub is_place : Place → Settings → Bool
is_place (repository repo) settings = is_there repo settings
is_place (session n) settings = true

abbrev pub names_something : Result Kind PathFault → Bool
names_something (Ok k) = true
names_something (Err fault) = false

-- a digest of the side that the path names
abbrev pub is_digest : Result Kind PathFault → List ℕ → Bool
is_digest (Ok (FileSide c side)) said = length said == digest_size side
is_digest (Ok (DocSide d side)) said = length said == digest_size side
is_digest _ said = false

abbrev pub names_document : Result Kind PathFault → Bool
names_document (Ok (Doc d)) = true
names_document _ = false

abbrev pub is_file_path : List ℕ → Bool
is_file_path path = is_some (file_at path)

-- a parcel has its draft's number, and a length below 2 ^ 63
abbrev pub is_parcel : ℕ → Blob → Bool
is_parcel n blob = (blob.number == n) && nat_lt blob.print.length number_end

-- the longest written text of a document that lands
abbrev pub longest_landed : ℕ
longest_landed = 4_000_000

-- a file lands under a draft, with which it is stored, and a document without one
abbrev pub is_landing : Result Kind PathFault → Option ℕ → Landing → Bool
is_landing (Ok (File c)) (Some n) (Landed (got_file blob)) = is_parcel n blob
is_landing (Ok (File c)) (Some n) (Landed (got_doc document)) = false
is_landing (Ok (File c)) (Some n) outcome = true
is_landing (Ok (Doc d)) None (Landed (got_file blob)) = false
is_landing (Ok (Doc d)) None (Landed (got_doc document)) = nat_le (length (written.text document)) longest_landed
is_landing (Ok (Doc d)) None outcome = true
is_landing k draft outcome = false

-- the condition of a command
abbrev pub meets : Settings → Command → Bool
meets settings (look repo path tried) = is_known repo settings && names_something (kind path)
meets settings (done lease) = true
meets settings (may_put place path) = is_place place settings && is_file_path path
meets settings (put repo path n blob) = is_fit (λ rule. takes rule path) (rule_of repo settings) && is_parcel n blob
meets settings (put_side place path said) = is_place place settings && is_digest (kind path) said
meets settings (put_doc place path) = is_place place settings && names_document (kind path)
meets settings (drop_draft n) = true
meets settings (open_session repo) = is_there repo settings
meets settings (stage at path n blob) = is_file_path path && is_parcel n blob
meets settings (commit n) = true
meets settings (abort n) = true
meets settings (unlist repo) = is_there repo settings
meets settings collect = true
meets settings (ask question) = true
meets settings (land plan outcome) = is_some (proxy_rule_of plan.proxy settings) && is_landing (kind plan.path) plan.draft outcome
