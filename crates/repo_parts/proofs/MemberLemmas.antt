-- What a member of a group does about a path, and what it has there.
use Rattle.std.proofs.Common.{◌≡◌, ◌≢◌, ℕ, Bool, true, false, if◌then◌else◌, List, Option, Some, None, Result, Ok, Err, refl, subst}
use Rattle.std.specs.Prelude.{find, is_some}
use Rattle.mvn_coords.specs.Kind.{kind}
use Rattle.mvn_coords.specs.Layout.{Coordinates, Directory, text_of, text_of_document}
use Rattle.mvn_coords.specs.declared.fault.PathFault.{PathFault}
use Rattle.mvn_coords.specs.declared.fault.Side.{Side}
use Rattle.mvn_coords.specs.declared.kind.Kind.{Kind}
use Rattle.mvn_coords.specs.declared.kind.Kind.TheVariants.{File, FileSide, Doc, DocSide}
use Rattle.mvn_coords.proofs.ExactPaths.{exact}
use Rattle.path_patterns.specs.Pattern.{is_let_through}
use Rattle.group_view.specs.declared.stances.Stance.TheVariants as stance
use Rattle.group_laws.specs.Seen.{stance_of}
use Rattle.hosted_repo.specs.Seens.{is_of_document}
use Rattle.repo_model.specs.Data.{Kept, Proxy, Row}
use Rattle.repo_model.specs.Proxies.{asks_never, decided, document_step, is_fresh_negative, kept_at, step_for, step_out, subject_of}
use Rattle.repo_model.specs.State.{is_negative_of, row_at}
use Rattle.repo_model.specs.Turn.{document_shown, file_shown, or_nothing, served_by}
use Rattle.repo_model.specs.declared.step.Step.TheVariants.{Serve, Missed, Blocked, Negative, Never, Fetch}
use Rattle.repo_parts.specs.Looks.{document_kind}

-- the kind of a document's path, or of that of its side file
pub of-document : (d : Directory) (side : Option Side) → is_of_document (Ok (document_kind d side)) ≡ true
of-document d None = refl
of-document d (Some side) = refl

-- what goes out to the remote does not serve
out-cases : (tried never known_missing : Bool) → (if tried then Missed else if never then Never else if known_missing then Negative else Fetch) ≢ Serve
out-cases true never known_missing is = cc
out-cases false true known_missing is = cc
out-cases false false true is = cc
out-cases false false false is = cc

module _ (p : Proxy) (now : ℕ) (tried : Bool) (at : List ℕ) where
  out-not : step_out p now tried at ≢ Serve
  out-not is = out-cases tried (asks_never p.rule.update) (is_fresh_negative p.rule.negative_seconds now (find (is_negative_of at) p.negatives)) is

  step-is : decided p now tried at ≡ Serve → step_for p now tried at (kind at) ≡ Serve
  step-is is = elim (is_let_through p.rule.allow p.rule.block at) as (λ b. (if b then step_for p now tried at (kind at) else Blocked) ≡ Serve → step_for p now tried at (kind at) ≡ Serve) [
    | true ↦ λ so. so
    | false ↦ λ no. absurd (let never : Blocked ≡ Serve = no in cc)
  ] is

  -- a file that is served stands there
  file-there : (c : Coordinates) → kind at ≡ Ok (File c) → decided p now tried at ≡ Serve → row_at at p.files ≡ None → ⊥
  file-there c kind_is is none =
      let step : step_for p now tried at (Ok (File c)) ≡ Serve = subst (λ k. step_for p now tried at k ≡ Serve) kind_is (step-is is) in
      out-not (subst (λ (found : Option Row). (if is_some found then Serve else step_out p now tried at) ≡ Serve) none step)

  -- and so does a document
  document-there : (d : Directory) → kind at ≡ Ok (Doc d) → decided p now tried at ≡ Serve → kept_at at p.documents ≡ None → ⊥
  document-there d kind_is is none =
      let step : step_for p now tried at (Ok (Doc d)) ≡ Serve = subst (λ k. step_for p now tried at k ≡ Serve) kind_is (step-is is) in
      out-not (subst (λ (found : Option Kept). document_step p now (step_out p now tried at) found ≡ Serve) none step)

file-serves : (k : Result Kind PathFault) (found : Option Row) → (found ≡ None → ⊥) → stance_of (or_nothing (file_shown k) found) ≡ stance.Serve
file-serves k None there = absurd (there refl)
file-serves (Ok (FileSide c side)) (Some row) there = refl
file-serves k (Some row) there = refl

document-serves : (k : Result Kind PathFault) (found : Option Kept) → (found ≡ None → ⊥) → stance_of (or_nothing (λ (kept : Kept). document_shown k kept.document) found) ≡ stance.Serve
document-serves k None there = absurd (there refl)
document-serves (Ok (DocSide d side)) (Some kept) there = refl
document-serves k (Some kept) there = refl

-- what a proxy decides to serve it has, so that it serves
pub serves-so : (p : Proxy) (now : ℕ) (tried : Bool) (path : List ℕ) (k : Result Kind PathFault) → kind path ≡ k → decided p now tried (subject_of path k) ≡ Serve
    → stance_of (served_by p (subject_of path k) k) ≡ stance.Serve
serves-so p now tried path (Ok (File c)) is decides = file-serves (Ok (File c)) (row_at path p.files) (file-there p now tried path c is decides)
serves-so p now tried path (Ok (FileSide c side)) is decides =
    file-serves (Ok (FileSide c side)) (row_at (text_of c) p.files) (file-there p now tried (text_of c) c (exact.file path c side is) decides)
serves-so p now tried path (Ok (Doc d)) is decides = document-serves (Ok (Doc d)) (kept_at path p.documents) (document-there p now tried path d is decides)
serves-so p now tried path (Ok (DocSide d side)) is decides =
    document-serves (Ok (DocSide d side)) (kept_at (text_of_document d) p.documents) (document-there p now tried (text_of_document d) d (exact.document path d side is) decides)
serves-so p now tried path (Err fault) is decides =
    absurd (let step : step_for p now tried path (Err fault) ≡ Serve = subst (λ k. step_for p now tried path k ≡ Serve) is (step-is p now tried path decides) in
    let never : Missed ≡ Serve = step in cc)
