-- What is seen depends on the repositories and proxies alone: on no moment before, on no clock and on no count.
use Rattle.std.proofs.Common.{◌≡◌, ℕ, ◌+◌, List, [], ◌∷◌, Option, Some, None, Result, refl, ap, ◌∙◌}
use Rattle.std.specs.Prelude.{find}
use Rattle.std.specs.Option.{option_map_or}
use Rattle.outside.specs.Moments.{Moments}
use Rattle.mvn_coords.specs.Kind.{kind}
use Rattle.mvn_coords.specs.declared.kind.Kind.{Kind}
use Rattle.mvn_coords.specs.declared.fault.PathFault.{PathFault}
use Rattle.mvn_coords.specs.Layout.{Directory}
use Rattle.mvn_metadata.specs.Document.{merge}
use Rattle.repo_model.specs.Data.{Hosted}
use Rattle.repo_model.specs.Proxies.{subject_of}
use Rattle.repo_model.specs.Settings.{GroupRule, Settings}
use Rattle.repo_model.specs.State.{State, hosted_of}
use Rattle.repo_model.specs.Command.{group_rule_of}
use Rattle.repo_model.specs.Turn.{directory_of, document_shown, each_document, each_seen, fetches_one, first_or, group_seen, is_nothing, look_at, member_document, member_seen, merged_of, or_nothing, seen_at, serves_or_fetches, with_some}

module _ (s : State) (last : ℕ) (clock : Option Moments) (faults : ℕ) where
  abbrev t : State
  t = record s { last = last; clock = clock; faults = faults }

  module _ (now : ℕ) (tried path : List ℕ) where
    each-seen : (k : Result Kind PathFault) (member : ℕ) (ids : List (List ℕ)) → each_seen t now tried path k member ids ≡ each_seen s now tried path k member ids
    each-seen k member [] = refl
    each-seen k member (id ∷ ids) = ap (λ rest. member_seen s now tried path k member id ∷ rest) (each-seen k (member + 1) ids)

    each-document : (d : Directory) (member : ℕ) (ids : List (List ℕ)) → each_document t now tried path d member ids ≡ each_document s now tried path d member ids
    each-document d member [] = refl
    each-document d member (id ∷ ids) = ap (with_some (member_document s now tried path d member id)) (each-document d (member + 1) ids)

  group-same : (now : ℕ) (tried path : List ℕ) (k : Result Kind PathFault) (ids : List (List ℕ)) (d : Option Directory) → group_seen t now tried path k ids d ≡ group_seen s now tried path k ids d
  group-same now tried path k ids None = ap (λ seens. first_or (find serves_or_fetches seens) is_nothing) (each-seen now tried path k 0 ids)
  group-same now tried path k ids (Some d) =
      ap (λ seens. first_or (find fetches_one seens) (or_nothing (document_shown k) (merged_of t now tried (subject_of path k) d ids))) (each-seen now tried path k 0 ids)
      ∙ ap (λ docs. first_or (find fetches_one (each_seen s now tried path k 0 ids)) (or_nothing (document_shown k) (merge docs))) (each-document now tried (subject_of path k) d 0 ids)

  pub look-same : (settings : Settings) (now : ℕ) (id tried path : List ℕ) → look_at settings t now id tried path ≡ look_at settings s now id tried path
  look-same settings now id tried path =
      ap (option_map_or (λ (h : Hosted). seen_at h.rows path (kind path)) (hosted_of id s)) (by (group_rule_of id settings))
    where
      by : (found : Option GroupRule)
          → option_map_or (λ (g : GroupRule). group_seen t now tried path (kind path) g.members (directory_of (kind path))) found (member_seen s now tried path (kind path) 0 id)
          ≡ option_map_or (λ (g : GroupRule). group_seen s now tried path (kind path) g.members (directory_of (kind path))) found (member_seen s now tried path (kind path) 0 id)
      by None = refl
      by (Some g) = group-same now tried path (kind path) g.members (directory_of (kind path))
