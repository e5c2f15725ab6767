-- What a look finds among repositories of any kind, as the machine's plain data, and replies, and what members of a group do about a path.
use Rattle.std.specs.Prelude.{◌≡◌, ◌⊎◌, ℕ, Bool, true, false, IsTrue, List, [], ◌∷◌, Option, Some, None}
use Rattle.mvn_coords.specs.Layout.{Coordinates, Directory}
use Rattle.mvn_coords.specs.declared.fault.Side.{Side}
use Rattle.mvn_coords.specs.declared.kind.Kind.{Kind}
use Rattle.mvn_coords.specs.declared.kind.Kind.TheVariants.{File, FileSide, Doc, DocSide}
use Rattle.outside.specs.declared.stores.Held.{Ghosts}
use Rattle.group_view.specs.Members.{fetches}
use Rattle.group_view.specs.declared.stances.Stance.{Stance}
use Rattle.group_laws.specs.Seen.{stance_of}
use Rattle.hosted_repo.specs.Seens.{shown_seen}
use Rattle.proxy_rules.specs.Rules.{shown_rule}
use Rattle.repo_model.specs.Data as plain
use Rattle.repo_model.specs.Reply.{Reply, no_memory}
use Rattle.repo_model.specs.State.{State, is_among}
use Rattle.repo_model.specs.Turn as turn
use Rattle.repo_model.specs.Turn.{fetches_one}
use Rattle.repo_parts.specs.declared.looked.Looked.{Looked}
use Rattle.repo_parts.specs.declared.looked.Looked.TheVariants.{Here, Nothing, Fetch, Blocked, Negative, Never}

abbrev pub shown_looked : {X : Type 0} {G : Ghosts X} → Looked X G → turn.Seen
shown_looked (Here seen) = shown_seen (Some seen)
shown_looked Nothing = turn.is_nothing
shown_looked (Fetch member rule path of_file) = turn.is_to_fetch member (shown_rule rule.now) path.now of_file
shown_looked Blocked = turn.is_blocked
shown_looked Negative = turn.is_negative
shown_looked Never = turn.is_never

-- the kind of a file's path, or of that of a side file
abbrev pub file_kind : Coordinates → Option Side → Kind
file_kind c None = File c
file_kind c (Some side) = FileSide c side

-- and of a document's
abbrev pub document_kind : Directory → Option Side → Kind
document_kind d None = Doc d
document_kind d (Some side) = DocSide d side

-- a state with these hosted repositories and proxies
pub record HasGoods (s : State) (hosted : List plain.Hosted) (proxies : List plain.Proxy) : Type 0 where
  pub hosted_so : s.hosted ≡ hosted
  pub proxies_so : s.proxies ≡ proxies

-- the reply that is due, or out of memory
abbrev pub IsDueOr : Reply → Reply → Type 0
IsDueOr due reply = (reply ≡ due) ⊎ (reply ≡ no_memory)

-- a file that is seen has a blob in use
abbrev pub IsLendable : List ℕ → turn.Seen → Type 0
IsLendable kept (turn.is_file blob) = IsTrue (is_among blob.number kept)
IsLendable kept seen = Unit {0}

-- What a member does that has this. Of a document only whether it asks its remote counts.
abbrev pub IsStance : Bool → turn.Seen → Stance → Type 0
IsStance true seen stance = fetches stance ≡ fetches_one seen
IsStance false seen stance = stance ≡ stance_of seen

-- the same of each member
abbrev pub AreStances : Bool → List turn.Seen → List Stance → Type 0
AreStances of_document [] [] = Unit {0}
AreStances of_document (seen ∷ seens) (stance ∷ stances) = IsStance of_document seen stance × AreStances of_document seens stances
AreStances of_document seens stances = ⊥
