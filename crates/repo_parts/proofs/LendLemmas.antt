-- The blob of a file that a look finds, in a repository of any kind, is in use.
use Rattle.std.proofs.Common.{◌≡◌, ℕ, ◌+◌, Bool, true, false, if◌then◌else◌, List, [], ◌∷◌, Option, Some, None, Result, Ok, Err, refl}
use Rattle.std.specs.Prelude.{find}
use Rattle.std.specs.List.{AllByRecursion}
use Rattle.std.specs.Option.{option_map_or}
use Rattle.mvn_coords.specs.Kind.{kind}
use Rattle.mvn_coords.specs.declared.kind.Kind.{Kind}
use Rattle.mvn_coords.specs.declared.kind.Kind.TheVariants.{File, FileSide, Doc, DocSide}
use Rattle.mvn_coords.specs.declared.fault.PathFault.{PathFault}
use Rattle.mvn_coords.specs.Layout.{Directory, text_of}
use Rattle.mvn_digest.specs.Digests.{digests_of}
use Rattle.mvn_digest.specs.Sides.{side_text}
use Rattle.mvn_metadata.specs.Document.{Document}
use Rattle.repo_model.specs.Data.{Row, Kept, Hosted, Proxy}
use Rattle.repo_model.specs.Proxies.{decided, kept_at, subject_of}
use Rattle.repo_model.specs.Settings.{GroupRule, Settings}
use Rattle.repo_model.specs.State.{State, hosted_of, is_among, is_proxy, is_repository, proxy_of, row_at}
use Rattle.repo_model.specs.Command.{group_rule_of}
use Rattle.repo_model.specs.declared.step.Step.{Step}
use Rattle.repo_model.specs.declared.step.Step.TheVariants.{Serve}
use Rattle.repo_model.specs.Turn.{Seen, is_file, is_text, is_doc, is_nothing, directory_of, document_shown, document_text, each_seen, fetches_one, file_shown, first_or, group_seen, is_of_file, look_at, member_seen, merged_of, or_nothing, proxy_seen, seen_at, served_by, serves_or_fetches, stepped}
use Rattle.repo_parts.specs.Hosted.{AreInUse}
use Rattle.repo_parts.specs.Looks.{IsLendable}
use Rattle.repo_parts.specs.Proxies.{AreCachedInUse}
use Rattle.repo_parts.proofs.UseLemmas.{IsUsed, RowsUsed, row-used}
use Rattle.repo_laws.proofs.Orderly.{found-has}

module _ (kept : List ℕ) where
  -- what is seen of one that is found
  or-lendable : {X : Type 0} (f : X → Seen) (found : Option X) → ((x : X) → found ≡ Some x → IsLendable kept (f x)) → IsLendable kept (or_nothing f found)
  or-lendable f None each = tt
  or-lendable f (Some x) each = each x refl

  hosted-lendable : (path : List ℕ) (rows : List Row) (k : Result Kind PathFault) → RowsUsed kept rows → IsLendable kept (seen_at rows path k)
  hosted-lendable path rows (Ok (File c)) used = or-lendable (λ (row : Row). is_file row.blob) (row_at path rows) (λ row is. row-used kept path rows row used is)
  hosted-lendable path rows (Ok (FileSide c side)) used = or-lendable (λ (row : Row). is_text (side_text side row.blob.print.digests)) (row_at (text_of c) rows) (λ row is. tt)
  hosted-lendable path rows (Ok (Doc d)) used = or-lendable is_doc (document_text d rows) (λ bytes is. tt)
  hosted-lendable path rows (Ok (DocSide d side)) used = or-lendable (λ bytes. is_text (side_text side (digests_of bytes))) (document_text d rows) (λ bytes is. tt)
  hosted-lendable path rows (Err fault) used = tt

  -- ---- a proxy
  file-case : (k : Result Kind PathFault) (row : Row) → IsUsed kept row → IsLendable kept (file_shown k row)
  file-case (Ok (FileSide c side)) row used = tt
  file-case k row used = used

  document-case : (k : Result Kind PathFault) (document : Document) → IsLendable kept (document_shown k document)
  document-case (Ok (DocSide d side)) document = tt
  document-case k document = tt

  module _ (p : Proxy) (used : RowsUsed kept p.files) (at : List ℕ) (k : Result Kind PathFault) where
    served-lendable : IsLendable kept (served_by p at k)
    served-lendable =
        elim (is_of_file k)
        as (λ b. IsLendable kept (if b then or_nothing (file_shown k) (row_at at p.files) else or_nothing (λ (one : Kept). document_shown k one.document) (kept_at at p.documents))) [
          | true ↦ or-lendable (file_shown k) (row_at at p.files) (λ row is. file-case k row (row-used kept at p.files row used is))
          | false ↦ or-lendable (λ (one : Kept). document_shown k one.document) (kept_at at p.documents) (λ one is. document-case k one.document)
        ]

    stepped-lendable : (member : ℕ) (step : Step) → IsLendable kept (stepped member p at k step)
    stepped-lendable member Serve = served-lendable
    stepped-lendable member step = tt

  -- ---- any member
  module _ (s : State) (used : AreInUse kept s.hosted) (cached : AreCachedInUse kept s.proxies) (now : ℕ) (tried path : List ℕ) (k : Result Kind PathFault) where
    by-proxy : (member : ℕ) (id : List ℕ) (found : Option Proxy) → find (is_proxy id) s.proxies ≡ found → IsLendable kept (option_map_or (λ (p : Proxy). proxy_seen member p now tried path k) found is_nothing)
    by-proxy member id None is = tt
    by-proxy member id (Some p) is =
        stepped-lendable p (found-has (λ (q : Proxy). RowsUsed kept q.files) (is_proxy id) s.proxies p cached is) (subject_of path k) k member
        (decided p now (is_among member tried) (subject_of path k))

    by-hosted : (path' : List ℕ) (k' : Result Kind PathFault) (id : List ℕ) (found : Option Hosted) (rest : Seen) → find (is_repository id) s.hosted ≡ found → IsLendable kept rest
        → IsLendable kept (option_map_or (λ (h : Hosted). seen_at h.rows path' k') found rest)
    by-hosted path' k' id None rest is other = other
    by-hosted path' k' id (Some h) rest is other = hosted-lendable path' h.rows k' (found-has (λ (g : Hosted). RowsUsed kept g.rows) (is_repository id) s.hosted h used is)

    member-lendable : (member : ℕ) (id : List ℕ) → IsLendable kept (member_seen s now tried path k member id)
    member-lendable member id =
        by-hosted path k id (hosted_of id s) (option_map_or (λ (p : Proxy). proxy_seen member p now tried path k) (proxy_of id s) is_nothing) refl (by-proxy member id (proxy_of id s) refl)

    each-lendable : (member : ℕ) (ids : List (List ℕ)) → AllByRecursion (IsLendable kept) (each_seen s now tried path k member ids)
    each-lendable member [] = tt
    each-lendable member (id ∷ ids) = (member-lendable member id, each-lendable (member + 1) ids)

    first-lendable : (test : Seen → Bool) (seens : List Seen) (found : Option Seen) (rest : Seen) → AllByRecursion (IsLendable kept) seens → find test seens ≡ found → IsLendable kept rest
        → IsLendable kept (first_or found rest)
    first-lendable test seens None rest all is other = other
    first-lendable test seens (Some x) rest all is other = found-has (IsLendable kept) test seens x all is

    group-lendable : (ids : List (List ℕ)) (d : Option Directory) → IsLendable kept (group_seen s now tried path k ids d)
    group-lendable ids None =
        let seens = each_seen s now tried path k 0 ids in
        first-lendable serves_or_fetches seens (find serves_or_fetches seens) is_nothing (each-lendable 0 ids) refl tt
    group-lendable ids (Some d) =
        let seens = each_seen s now tried path k 0 ids in
        first-lendable fetches_one seens (find fetches_one seens) (or_nothing (document_shown k) (merged_of s now tried (subject_of path k) d ids)) (each-lendable 0 ids) refl
        (or-lendable (document_shown k) (merged_of s now tried (subject_of path k) d ids) (λ document is. document-case k document))

-- what a look finds is lendable
pub look-lendable : (kept : List ℕ) (s : State) → AreInUse kept s.hosted → AreCachedInUse kept s.proxies → (settings : Settings) (now : ℕ) (id tried path : List ℕ) → IsLendable kept (look_at settings s now id tried path)
look-lendable kept s used cached settings now id tried path =
    by-hosted kept s used cached now tried path (kind path) path (kind path) id (hosted_of id s)
    (option_map_or (λ (g : GroupRule). group_seen s now tried path (kind path) g.members (directory_of (kind path))) (group_rule_of id settings) (member_seen s now tried path (kind path) 0 id)) refl
    (by (group_rule_of id settings))
  where
    by : (found : Option GroupRule)
        → IsLendable kept (option_map_or (λ (g : GroupRule). group_seen s now tried path (kind path) g.members (directory_of (kind path))) found (member_seen s now tried path (kind path) 0 id))
    by None = member-lendable kept s used cached now tried path (kind path) 0 id
    by (Some g) = group-lendable kept s used cached now tried path (kind path) g.members (directory_of (kind path))
