use Rattle.std.proofs.Common.{◌≡◌, Bor, option_map, sym, ap, ◌∙◌}
use Rattle.std.proofs.lemmas.Result.{on_ok_weaker}
use Rattle.mvn_coords.specs.Layout.{Directory, text_of_directory}
use Rattle.mvn_coords.specs.Path.{IsDirectory}
use Rattle.repo_model.specs.Data.{Blob}
use Rattle.repo_model.specs.Effect.{new_row}
use Rattle.directory_rows.specs.Documents.{added}
use Rattle.ordered_rows.specs.Rows.{shown_at, shown_phase}
use Rattle.ordered_rows.specs.declared.row.Row.{Row}
use Rattle.kept_docs.specs.Drafted.{drafted}
use Rattle.hosted_repo.specs.Delivered.{with_delivered, with_delivered_by}
use Rattle.hosted_repo.proofs.delivering.add_file.Goals as goal

pub returns-in_default : goal.returns-in_default
returns-in_default g c =
    let path = c.args.path.now in
    let docs = c.args.docs.now in
    on_ok_weaker c.add.result
    (λ (made : (d : Directory) (blob : Blob) → IsDirectory d → drafted (text_of_directory d) docs c.add.new.self ≡ added d (drafted (text_of_directory d) docs c.args.drafts.now) (new_row path blob c.args.now)).
    λ d blob rule. made d blob rule
    ∙ ap (λ o. with_delivered d path c.args.now blob o (drafted (text_of_directory d) docs c.args.drafts.now))
    (ap (option_map (λ (row : Bor (Row g.row.H.Denot g.H.Held)). shown_at path row.now)) (sym c.in_default.is)))
    c.add.ensures

pub returns-in-Fading : goal.returns-in-Fading
returns-in-Fading g c =
    let path = c.args.path.now in
    let docs = c.args.docs.now in
    on_ok_weaker c.add-in-Fading.result
    (λ (made : (d : Directory) (blob : Blob) → IsDirectory d → drafted (text_of_directory d) docs c.add-in-Fading.new.self ≡ added d (drafted (text_of_directory d) docs c.args.drafts.now) (new_row path blob c.args.now)).
    λ d blob rule. made d blob rule
    ∙ ap (λ p. with_delivered_by d path c.args.now blob (shown_phase p) (drafted (text_of_directory d) docs c.args.drafts.now)) (sym c.in-Fading.is)
    ∙ ap (λ o. with_delivered d path c.args.now blob o (drafted (text_of_directory d) docs c.args.drafts.now))
    (ap (option_map (λ (row : Bor (Row g.row.H.Denot g.H.Held)). shown_at path row.now)) (sym c.in-Some.is)))
    c.add-in-Fading.ensures
