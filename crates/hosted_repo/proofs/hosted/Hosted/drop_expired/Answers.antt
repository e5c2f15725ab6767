use Rattle.std.proofs.Common.{List, take, sym, ap, ◌∙◌, subst}
use Rattle.repo_model.specs.Data as plain
use Rattle.repo_model.specs.Document.{document}
use Rattle.repo_model.specs.Purge.{expired_of}
use Rattle.repo_model.specs.Settings.{Rule}
use Rattle.hosted_repo.specs.Releases.{AllFadeRightly}
use Rattle.repo_model.specs.Paths.{FadesRightly}
use Rattle.ordered_rows.specs.Rows.{AreFiles, IsFileRow, rows_after_all, without_first}
use Rattle.directory_rows.specs.Rules.{shown_rule}
use Rattle.kept_docs.proofs.Beside.{document_after_first}
use Rattle.hosted_repo.proofs.Expiry.{dropped}
use Rattle.ordered_rows.proofs.Rising.{AreRising, rising-shown}
use Rattle.ordered_rows.proofs.EachRow.{each-left}
use Rattle.hosted_repo.proofs.hosted.Hosted.drop_expired.Goals as goal

abbrev whole : Rule → List plain.Row → plain.Hosted
whole rule rows = record { rule = rule; rows = rows }

pub invariant_of-self : goal.invariant_of-self
invariant_of-self g c = record {
  named = c.self.invariant.named;
  files = subst AreFiles (sym c.drop_first.ensures) (each-left IsFileRow c.args.count c.saturating_sub.result c.self.inside.rows c.self.invariant.files);
  fading = subst AllFadeRightly (sym c.drop_first.ensures) (each-left FadesRightly c.args.count c.saturating_sub.result c.self.inside.rows c.self.invariant.fading);
  kept = λ d is.
      c.self.invariant.kept d is ∙ sym (document_after_first d c.args.count c.saturating_sub.result c.self.inside.rows) ∙ ap (document d) (sym c.drop_first.ensures);
}

pub returns : goal.returns
returns g c =
    let y = c.self.inside in
    let rising = subst AreRising c.map.ensures (rising-shown c.map.result.now.entries c.len-len.ensures.ordered) in
    ap (whole (shown_rule y.rule))
    (c.drop_first.ensures ∙ ap (λ limit. without_first c.args.count limit y.rows) c.saturating_sub.ensures
    ∙ sym (dropped c.args.count c.args.grace c.args.now (shown_rule y.rule).id y.rows rising))
    ∙ ap (λ (h : plain.Hosted). whole h.rule (rows_after_all (take c.args.count (expired_of c.args.grace c.args.now h)) h.rows)) c.self.view_is
