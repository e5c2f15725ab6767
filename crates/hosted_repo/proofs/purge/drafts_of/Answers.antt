use Rattle.std.proofs.Common.{◌∷◌, [], ◌++◌, String, Global, take, string_bytes, sym, ap, ◌∙◌, subst}
use Rattle.std.proofs.lemmas.List.{take_more}
use Rattle.std.proofs.Common.{◌≡◌, true}
use Rattle.std.specs.Prelude.{IsSome}
use Rattle.mvn_coords.specs.Layout.{Directory, text_of_directory}
use Rattle.mvn_coords.specs.Path.{IsDirectory}
use Rattle.repo_model.specs.Paths.{file_at, stands_in}
use Rattle.kept_docs.specs.Drafted.{draft_at}
use Rattle.hosted_repo.specs.Fades.{AreApartFrom}
use Rattle.hosted_repo.proofs.FadeDocs.{apart_more}
use Rattle.hosted_repo.proofs.purge.drafts_of.Goals as goal

pub loop-path-preserved : goal.loop-path-preserved
loop-path-preserved g c =
    let i = c.loop-path.path-index in
    let paths = c.args.paths.now in
    let path = c.path-item.result in
    let new = c.walk.new.self in
    let walked : (d : Directory) → IsDirectory d → stands_in d (file_at (string_bytes path)) ≡ true → IsSome (draft_at (text_of_directory d) new) =
    λ d rule there. c.in_ok-walk.ensures.walked d rule (ap (λ t. stands_in d (file_at t)) c.as_str.ensures.value ∙ there) in
    record {
      right = c.in_ok-walk.ensures.right;
      walked = λ d rule none.
          subst (AreApartFrom d) (ap (λ (p : String Global). take i paths ++ p ∷ []) c.path-item.is ∙ sym (take_more paths i path c.loop-path-test.true))
          (apart_more c.loop-path.drafts new (take i paths) path c.in_ok-walk.ensures.kept walked c.loop-path.invariant.walked d rule none);
    }
