use Rattle.std.proofs.Common.{◌≡◌, ℕ, IfOk, OnOk, List, Result, length, sym, ap, ◌∙◌, subst}
use Rattle.std.proofs.lemmas.Result.{on_err_weaker, on_ok_weaker}
use Rattle.mvn_coords.specs.Kind.{kind}
use Rattle.repo_model.specs.Data as plain
use Rattle.repo_model.specs.Effect.{recorded}
use Rattle.repo_model.specs.Purge.{due_rows, fade_all}
use Rattle.repo_model.specs.Turn.{seen_at}
use Rattle.row_tables.specs.Leaving.{Leaves, MayTake, end_of}
use Rattle.hosted_repo.specs.Releases.{AllFadeRightly}
use Rattle.ordered_rows.specs.Rows.{AreFiles, rows_after_all}
use Rattle.hosted_repo.specs.Fades.{hosted_of}
use Rattle.hosted_repo.proofs.FadeLaws.{answered_alike, rightly_faded}
use Rattle.hosted_repo.proofs.FormLemmas.{fades-change, files-faded, from-both}
use Rattle.hosted_repo.proofs.hosted.Hosted.unlist.Goals as goal

pub unlist_rows-requires-clause-change : goal.unlist_rows-requires-clause-change
unlist_rows-requires-clause-change g c = fades-change (hosted_of c.self.inside.rule c.self.inside.rows) c.args.now c.self.invariant.named c.self.invariant.files c.requires.moment

pub unlist_rows-requires-clause-records : goal.unlist_rows-requires-clause-records
unlist_rows-requires-clause-records g c =
    subst (λ (h : plain.Hosted). MayTake (recorded (fade_all h c.args.now)) (g.K.Records.shows c.args.records.now)) (sym c.self.view_is) c.requires.records

pub invariant_of-self : goal.invariant_of-self
invariant_of-self g c =
    let h = hosted_of c.self.inside.rule c.self.inside.rows in
    record {
      named = c.self.invariant.named;
      files = from-both c.unlist_rows.result c.unlist_rows.ensures.rows c.unlist_rows.ensures.err
          (λ made. subst AreFiles (sym made) (files-faded h.rule.id c.args.now (due_rows h.rule c.args.now h.rows) h.rows c.self.invariant.files))
          (λ same. subst AreFiles (sym same) c.self.invariant.files);
      fading = from-both c.unlist_rows.result c.unlist_rows.ensures.rows c.unlist_rows.ensures.err
          (λ made. subst AllFadeRightly (sym made) (rightly_faded h.rule c.args.now h.rows c.self.invariant.fading))
          (λ same. subst AllFadeRightly (sym same) c.self.invariant.fading);
      kept = c.unlist_rows.ensures.docs;
    }

pub returns-clause-count : goal.returns-clause-count
returns-clause-count g c =
    subst (λ (h : plain.Hosted). IfOk c.unlist_rows.result (λ n. n ≡ length (due_rows h.rule c.args.now h.rows))) c.self.view_is c.unlist_rows.ensures.count

abbrev with : plain.Hosted → List plain.Row → plain.Hosted
with h rows = record { rule = h.rule; rows = rows }

with_rows : {T E : Type 0} (r : Result T E) (h k : plain.Hosted) (rows : List plain.Row) (now : ℕ) → h ≡ k → OnOk r (rows ≡ rows_after_all (fade_all h now) h.rows)
    → OnOk r (with h rows ≡ with k (rows_after_all (fade_all k now) k.rows))
with_rows r h k rows now same told =
    on_ok_weaker r (λ (made : rows ≡ rows_after_all (fade_all h now) h.rows). ap (with h) made ∙ ap (λ (x : plain.Hosted). with x (rows_after_all (fade_all x now) x.rows)) same) told

pub returns-clause-rows : goal.returns-clause-rows
returns-clause-rows g c =
    with_rows c.unlist_rows.result (hosted_of c.self.inside.rule c.self.inside.rows) c.args.self.now c.unlist_rows.new.rows c.args.now c.self.view_is c.unlist_rows.ensures.rows

pub returns-clause-err : goal.returns-clause-err
returns-clause-err g c =
    let h = hosted_of c.self.inside.rule c.self.inside.rows in
    on_err_weaker c.unlist_rows.result (λ same. ap (with h) same ∙ c.self.view_is) c.unlist_rows.ensures.err

pub returns-clause-asked : goal.returns-clause-asked
returns-clause-asked g c = λ failed none. c.unlist_rows.ensures.asked failed (ap (λ (k : plain.Hosted). recorded (fade_all k c.args.now)) c.self.view_is ∙ none)

pub returns-clause-answered : goal.returns-clause-answered
returns-clause-answered g c path other =
    let h = hosted_of c.self.inside.rule c.self.inside.rows in
    from-both c.unlist_rows.result c.unlist_rows.ensures.rows c.unlist_rows.ensures.err
    (λ made. ap (λ rows. seen_at rows path (kind path)) made ∙ answered_alike h.rule.id c.args.now (due_rows h.rule c.args.now h.rows) h.rows path (kind path) other)
    (λ same. ap (λ rows. seen_at rows path (kind path)) same)
    ∙ ap (λ (k : plain.Hosted). seen_at k.rows path (kind path)) c.self.view_is

pub returns-clause-records : goal.returns-clause-records
returns-clause-records g c =
    subst (λ (k : plain.Hosted). Leaves (recorded (fade_all k c.args.now)) (end_of c.unlist_rows.result) (g.K.Records.shows c.args.records.now) (g.K.Records.shows c.unlist_rows.new.records))
    c.self.view_is c.unlist_rows.ensures.records
