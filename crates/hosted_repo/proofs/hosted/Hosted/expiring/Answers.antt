use Rattle.std.proofs.Common.{◌≡◌, ℕ, ◌-◌, ◌++◌, IfOk, OnOk, List, length, map, filter, min, take, sym, ap, ◌∙◌, subst, arith}
use Rattle.std.proofs.lemmas.List.{length-map, length-take}
use Rattle.std.proofs.lemmas.List.Elements.{filter_agree}
use Rattle.std.proofs.lemmas.Simd.{map-map}
use Rattle.repo_model.specs.Data as plain
use Rattle.repo_model.specs.Effect.{Effect, expires, recorded}
use Rattle.repo_model.specs.Purge.{expired_of, is_over, most_rows}
use Rattle.row_tables.specs.Items.{IsChange}
use Rattle.hosted_repo.specs.Expired.{blob_of, shown_expired}
use Rattle.hosted_repo.specs.Fades.{hosted_of}
use Rattle.ordered_rows.specs.Rows.{is_before}
use Rattle.hosted_repo.specs.declared.purge.Expired.{Expired}
use Rattle.hosted_repo.proofs.Expiry.{over_so}
use Rattle.hosted_repo.proofs.FormLemmas.{goes-change}
use Rattle.hosted_repo.proofs.hosted.Hosted.expiring.Goals as goal

abbrev gone_of : plain.Hosted → plain.Row → Effect
gone_of h row = expires h.rule.id row.path row.blob.number

-- the rows that were found are those whose grace is over, while the change has room
module _ (h : plain.Hosted) (grace now limit most n : ℕ) (found : List Expired) (is-limit : limit ≡ now - grace) (is-most : most ≡ most_rows - n)
    (told : (repo : List ℕ) → map (shown_expired repo) found ≡ take most (map (λ (row : plain.Row). expires repo row.path row.blob.number) (filter (λ (row : plain.Row). is_before limit row.phase) h.rows))) where
  goes : map (shown_expired h.rule.id) found ≡ take (most_rows - n) (expired_of grace now h)
  goes =
      told h.rule.id
      ∙ ap (λ m. take m (map (gone_of h) (filter (λ (row : plain.Row). is_before limit row.phase) h.rows))) is-most
      ∙ ap (λ rows. take (most_rows - n) (map (gone_of h) rows))
      (filter_agree (λ (row : plain.Row). is_before limit row.phase) (λ (row : plain.Row). is_over grace now row.phase) (λ row. ap (λ l. is_before l row.phase) is-limit ∙ over_so grace now row.phase) h.rows)

  counted : length found ≡ min (most_rows - n) (length (expired_of grace now h))
  counted = sym (length-map found (shown_expired h.rule.id)) ∙ ap length goes ∙ length-take (most_rows - n) (expired_of grace now h)

  blobs : map (λ (e : Expired). e.blob) found ≡ map blob_of (take (most_rows - n) (expired_of grace now h))
  blobs = sym (map-map blob_of (shown_expired h.rule.id) found) ∙ ap (map blob_of) goes

pub add_gone-requires : goal.add_gone-requires
add_gone-requires g c =
    let h = hosted_of c.self.inside.rule c.self.inside.rows in
    let n = length c.args.change.now in
    let most : c.saturating_sub-most.result ≡ most_rows - n = omega (arith, c.saturating_sub-most.ensures, ap length c.items.ensures.items) in
    let told = goes h c.args.grace c.args.now c.saturating_sub.result c.saturating_sub-most.result n c.in_ok-gone.gone.items c.saturating_sub.ensures most c.in_ok-gone.ensures in
    subst (λ (es : List Effect). IsChange (c.args.change.now ++ recorded es)) (sym (ap (map (shown_expired h.rule.id)) c.deref.ensures.value ∙ told))
    (goes-change c.args.change.now h c.args.grace c.args.now c.items.ensures.form c.requires c.self.invariant.named c.self.invariant.files)

pub returns-clause-count : goal.returns-clause-count
returns-clause-count g c =
    let h = hosted_of c.self.inside.rule c.self.inside.rows in
    let n = length c.args.change.now in
    let most : c.saturating_sub-most.result ≡ most_rows - n = omega (arith, c.saturating_sub-most.ensures, ap length c.items.ensures.items) in
    let told = counted h c.args.grace c.args.now c.saturating_sub.result c.saturating_sub-most.result n c.in_ok-gone.gone.items c.saturating_sub.ensures most c.in_ok-gone.ensures in
    subst (λ (m : ℕ). IfOk c.add_gone.result (λ k. k ≡ m))
    (ap length c.deref.ensures.value ∙ told ∙ ap (λ (k : plain.Hosted). min (most_rows - n) (length (expired_of c.args.grace c.args.now k))) c.self.view_is) c.add_gone.ensures.count

pub returns-clause-change : goal.returns-clause-change
returns-clause-change g c =
    let h = hosted_of c.self.inside.rule c.self.inside.rows in
    let n = length c.args.change.now in
    let most : c.saturating_sub-most.result ≡ most_rows - n = omega (arith, c.saturating_sub-most.ensures, ap length c.items.ensures.items) in
    let told = goes h c.args.grace c.args.now c.saturating_sub.result c.saturating_sub-most.result n c.in_ok-gone.gone.items c.saturating_sub.ensures most c.in_ok-gone.ensures in
    subst (λ (es : List Effect). OnOk c.add_gone.result (c.add_gone.new.change ≡ c.args.change.now ++ recorded es))
    (ap (map (shown_expired h.rule.id)) c.deref.ensures.value ∙ told ∙ ap (λ (k : plain.Hosted). take (most_rows - n) (expired_of c.args.grace c.args.now k)) c.self.view_is) c.add_gone.ensures.change

pub returns-clause-blobs : goal.returns-clause-blobs
returns-clause-blobs g c =
    let h = hosted_of c.self.inside.rule c.self.inside.rows in
    let n = length c.args.change.now in
    let most : c.saturating_sub-most.result ≡ most_rows - n = omega (arith, c.saturating_sub-most.ensures, ap length c.items.ensures.items) in
    let told = blobs h c.args.grace c.args.now c.saturating_sub.result c.saturating_sub-most.result n c.in_ok-gone.gone.items c.saturating_sub.ensures most c.in_ok-gone.ensures in
    subst (λ (xs : List ℕ). OnOk c.add_gone.result (c.add_gone.new.blobs.items ≡ c.args.blobs.now.items ++ xs))
    (ap (map (λ (e : Expired). e.blob)) c.deref.ensures.value ∙ told ∙ ap (λ (k : plain.Hosted). map blob_of (take (most_rows - n) (expired_of c.args.grace c.args.now k))) c.self.view_is) c.add_gone.ensures.blobs
