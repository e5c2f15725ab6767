use native.Mathlib.Omega.{arith}
use Rattle.std.proofs.Common.{◌≡◌, List, ℕ, Option, None, [], ◌∷◌, sym, ap, ◌∙◌, subst}
use Rattle.std.specs.Prelude.{IsTrue}
use Rattle.repo_model.specs.Data as plain
use Rattle.repo_model.specs.declared.item.Item.TheVariants.{CachedFile}
use Rattle.repo_model.specs.Effect.{new_row, recorded}
use Rattle.repo_model.specs.Prints.{recorded_print}
use Rattle.repo_model.specs.Shown.{shown_parcel, shown_print}
use Rattle.repo_model.specs.State.{row_at}
use Rattle.repo_model.specs.Turn.{lands_file}
use Rattle.row_tables.specs.Items.{is_file_path}
use Rattle.row_tables.specs.Leaving.{MayTake}
use Rattle.ordered_rows.specs.Rows.{AreFiles, IsFileRow}
use Rattle.ordered_rows.proofs.EachRow.{each-with}
use Rattle.proxy_entries.proofs.Results.{from-either}
use Rattle.proxy_rules.proofs.Forms.{file-change}
use Rattle.proxy_rules.proofs.LandLemmas.{none-there}
use Rattle.proxy_rules.proofs.proxy.Proxy.land_file.Goals as goal

pub keep_file-requires-clause-change : goal.keep_file-requires-clause-change
keep_file-requires-clause-change g c =
    file-change c.self.inside.rule.id c.as_str-path.result.now c.args.parcel.blob (shown_print c.args.parcel) c.args.now c.self.invariant.named
    (subst (λ p. IsTrue (is_file_path p)) (sym c.as_str-path.ensures) c.requires.path) c.requires.blob c.requires.length
    (record { sha1 = c.sizes.ensures.sha1; md5 = c.sizes.ensures.md5; sha256 = c.sizes.ensures.sha256; sha512 = c.sizes.ensures.sha512 }) c.requires.moment

pub keep_file-requires-clause-records : goal.keep_file-requires-clause-records
keep_file-requires-clause-records g c =
    let plan = c.args.plan.now in
    let path = c.as_str-path.result.now in
    let told = g.K.Records.shows c.args.records.now in
    let there = none-there _ c.find.result _ c.find.ensures (sym c.is_some.ensures ∙ c.if-is_some.false) in
    let none : row_at plan.path c.args.self.now.files ≡ None =
    ap (λ (p : plain.Proxy). row_at plan.path p.files) (sym c.self.view_is) ∙ ap (λ p. row_at p c.self.inside.files) (sym c.as_str-path.ensures) ∙ ap (λ rows. row_at path rows) (sym c.map.ensures) ∙ there in
    let fits = subst (λ (o : Option plain.Row). MayTake (recorded (lands_file plan (shown_parcel c.args.parcel) c.args.now o)) told) none c.requires.records in
    let id : plan.proxy ≡ c.self.inside.rule.id = c.requires.proxy ∙ ap (λ (p : plain.Proxy). p.rule.id) (sym c.self.view_is) in
    subst (λ (one : List ℕ). MayTake (CachedFile one path c.args.parcel.blob (recorded_print (shown_print c.args.parcel)) c.args.now ∷ []) told) id
    (subst (λ (p : List ℕ). MayTake (CachedFile plan.proxy p c.args.parcel.blob (recorded_print (shown_print c.args.parcel)) c.args.now ∷ []) told) (sym c.as_str-path.ensures) fits)

pub invariant_of-self-2 : goal.invariant_of-self-2
invariant_of-self-2 g c =
    let old = c.self.inside.files in
    let path = c.as_str-path.result.now in
    let new : plain.Row = new_row path (shown_parcel c.args.parcel) c.args.now in
    let named = subst (λ p. IsTrue (is_file_path p)) (sym c.as_str-path.ensures) c.requires.path in
    record {
      named = c.self.invariant.named;
      seconds = c.self.invariant.seconds;
      files = from-either c.keep_file.result c.keep_file.ensures.ok c.keep_file.ensures.err
          (λ made. subst AreFiles (sym made) (each-with IsFileRow new old named c.self.invariant.files))
          (λ same. subst AreFiles (sym same) c.self.invariant.files);
      few = omega (arith, c.remove_negative-2.ensures.few, c.self.invariant.few);
      timely = c.remove_negative-2.ensures.timely c.self.invariant.timely;
    }
