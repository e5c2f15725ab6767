use Rattle.std.proofs.Common.{rules, true, false, map, length, refl, sym, ◌∙◌, ap}
use Rattle.std.proofs.lemmas.List.{length-map}
use Rattle.std.proofs.lemmas.Result.{IfOk-weaker}
use Rattle.itertools.specs.List.{merge_by}
use Rattle.blob_audit.specs.Files.{shown_file}
use Rattle.blob_audit.specs.Order.{File, comes_first, files_of}
use Rattle.blob_audit.proofs.Merging.{map-merge, map-twice}
use Rattle.blob_audit.proofs.order.all_files.Goals as goal

pub returns-clause-files : goal.returns-clause-files
returns-clause-files c =
    IfOk-weaker c.collect_vec.result _ _ (λ v run.
    let (p, from, whole, items) = run in
    let (a, a_from, second) = c.merge_by.ensures.runs p p.seen from in
    let (b, b_from, facts) = second in
    let (a_whole, b_whole) = facts.0 whole in
    let merged = (facts.1 (λ x y. comes_first (shown_file x) (shown_file y)) (λ x y r f' called. search rules)).1 whole in
    let ones = (c.into_iter.ensures.runs a a.seen).4 a_whole ∙ ap (λ it. it.rest.items) a_from in
    let others = (c.into_iter-2.ensures.runs b b.seen).4 b_whole ∙ ap (λ it. it.rest.items) (b_from ∙ c.merge_by.ensures.second.0) in
    ap (map shown_file) (items ∙ merged)
    ∙ map-merge shown_file (λ x y. comes_first (shown_file x) (shown_file y)) comes_first (λ x y. refl) a.items b.items
    ∙ ap (λ xs. merge_by comes_first xs (map shown_file b.items)) (ap (map shown_file) (ones ∙ c.into_iter.ensures.rest) ∙ c.in_ok-hosted.ensures ∙ ap (files_of true) c.hosted.ensures)
    ∙ ap (merge_by comes_first _) (ap (map shown_file) (others ∙ c.into_iter-2.ensures.rest) ∙ c.in_ok-cached.ensures ∙ ap (files_of false) c.cached.ensures)) c.collect_vec.ensures.runs

pub returns-clause-rows : goal.returns-clause-rows
returns-clause-rows c =
    IfOk-weaker c.collect_vec.result _ _ (λ v is. map-twice (λ (f : File). f.row) shown_file v.items ∙ ap (map (λ (f : File). f.row)) is) (returns-clause-files c)

pub returns-clause-count : goal.returns-clause-count
returns-clause-count c =
    IfOk-weaker c.collect_vec.result _ _ (λ v is. sym (length-map v.items (λ f. (shown_file f).row)) ∙ ap length is) (returns-clause-rows c)
