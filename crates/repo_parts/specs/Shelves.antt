-- The shelves of groups: what their documents are, and what is forgotten of them.
use Rattle.std.specs.Prelude.{◌≡◌, ℕ, Bool, true, false, ◌||◌, if◌then◌else◌, List, [], ◌∷◌, find, Option, Some, None, bytes_eq}
use Rattle.std.specs.Option.{ForSome, option_map, option_map_or}
use Rattle.mvn_coords.specs.Layout.{Directory, text_of_directory, text_of_document}
use Rattle.mvn_coords.specs.Path.{IsDirectory}
use Rattle.mvn_coords.specs.Segment.{Segment, levels, path_of_levels}
use Rattle.mvn_metadata.specs.Document.{Document, merge}
use Rattle.path_patterns.specs.Pattern.{is_let_through}
use Rattle.group_view.specs.Shelved.{shelved_at}
use Rattle.group_view.specs.declared.shelf.GroupShelf.{GroupShelf}
use Rattle.repo_model.specs.Data.{Hosted, Kept, Proxy}
use Rattle.repo_model.specs.Document.{document}
use Rattle.repo_model.specs.Proxies.{kept_at}
use Rattle.repo_model.specs.Settings.{GroupRule}
use Rattle.repo_model.specs.State.{is_proxy, is_repository}
use Rattle.repo_model.specs.Turn.{with_some}
use Rattle.repo_parts.specs.declared.shelves.Changed.{Changed}
use Rattle.repo_parts.specs.declared.shelves.Changed.TheVariants as changed

-- the document that a proxy keeps of a directory, where its patterns let the document's path through
abbrev pub document_kept : Proxy → Directory → Option Document
document_kept p d =
    if is_let_through p.rule.allow p.rule.block (text_of_document d)
    then option_map (λ (k : Kept). k.document) (kept_at (text_of_document d) p.documents) else None

-- the document that a member has now, a hosted repository or a proxy
abbrev pub document_now : List Hosted → List Proxy → Directory → List ℕ → Option Document
document_now hosted proxies d id =
    option_map_or (λ (h : Hosted). document d h.rows) (find (is_repository id) hosted)
    (option_map_or (λ (p : Proxy). document_kept p d) (find (is_proxy id) proxies) None)

-- those of all members, in their order
abbrev pub documents_now : List Hosted → List Proxy → Directory → List (List ℕ) → List Document
documents_now hosted proxies d [] = []
documents_now hosted proxies d (id ∷ ids) = with_some (document_now hosted proxies d id) (documents_now hosted proxies d ids)

-- each document on the shelf of a group with these members is the one that theirs are now
abbrev pub IsShelved : List Hosted → List Proxy → List (List ℕ) → GroupShelf → Type 0
IsShelved hosted proxies ids shelf =
    (d : Directory) → IsDirectory d → ForSome (shelved_at (text_of_directory d) shelf) (λ doc. merge (documents_now hosted proxies d ids) ≡ Some doc)

-- each group has a shelf
abbrev pub AreShelved : List GroupRule → List Hosted → List Proxy → List GroupShelf → Type 0
AreShelved [] hosted proxies [] = Unit {0}
AreShelved (group ∷ groups) hosted proxies (shelf ∷ shelves) = IsShelved hosted proxies group.members shelf × AreShelved groups hosted proxies shelves
AreShelved groups hosted proxies shelves = ⊥

-- the directories above a file, that of its version and that of its artifact: its path up to the last slash, and up to the one before
abbrev pub is_above_file : List Segment → List ℕ → Bool
is_above_file (name ∷ version ∷ artifact ∷ above) text =
    bytes_eq text (path_of_levels (version ∷ artifact ∷ above)) || bytes_eq text (path_of_levels (artifact ∷ above))
is_above_file _ text = false

-- the directory of a document: its path up to the last slash
abbrev pub is_above : List Segment → List ℕ → Bool
is_above (name ∷ last ∷ above) text = bytes_eq text (path_of_levels (last ∷ above))
is_above _ text = false

abbrev pub nowhere : List ℕ → Bool
nowhere text = false

abbrev pub everywhere : List ℕ → Bool
everywhere text = true

-- the paths of directories whose documents are forgotten
abbrev pub is_gone : Changed → List ℕ → Bool
is_gone changed.Nothing = nowhere
is_gone (changed.File path) = is_above_file (levels path.now)
is_gone (changed.Document path) = is_above (levels path.now)
is_gone changed.All = everywhere

-- what is gone was forgotten, and the rest stays
abbrev pub HasForgotten : (List ℕ → Bool) → GroupShelf → GroupShelf → Type 0
HasForgotten gone old new = (text : List ℕ) → shelved_at text new ≡ (if gone text then None else shelved_at text old)

abbrev pub HaveForgotten : (List ℕ → Bool) → List GroupShelf → List GroupShelf → Type 0
HaveForgotten gone [] [] = Unit {0}
HaveForgotten gone (old ∷ olds) (new ∷ news) = HasForgotten gone old new × HaveForgotten gone olds news
HaveForgotten gone olds news = ⊥
