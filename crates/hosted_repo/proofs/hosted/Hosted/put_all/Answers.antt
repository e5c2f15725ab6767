use Rattle.std.proofs.Common.{[], ◌≡◌, ◌∷◌, ◌++◌, List, None, Err, inl, refl, sym, ap, ◌∙◌, subst}
use Rattle.repo_model.specs.Data as plain
use Rattle.repo_model.specs.Deploy.{offence, without_pom}
use Rattle.repo_model.specs.Effect.{recorded}
use Rattle.repo_model.specs.declared.item.Item.{Item}
use Rattle.row_tables.specs.Leaving.{FitWhereTold, Shown}
use Rattle.row_tables.proofs.Leavings.{quiet}
use Rattle.hosted_delivery.specs.Deliveries.{IsJudged, LeavesDelivery, deliveries, session_with, shown_files}
use Rattle.hosted_delivery.specs.declared.put_all.PutAll.{PutAll}
use Rattle.hosted_delivery.specs.declared.put_all.PutAll.TheVariants as did
use Rattle.hosted_repo.specs.Releases.{AllFadeRightly}
use Rattle.ordered_rows.specs.Rows.{AreFiles}
use Rattle.hosted_delivery.proofs.DeliveryLemmas.{files-delivered}
use Rattle.hosted_repo.proofs.FormLemmas.{from-both}
use Rattle.hosted_repo.proofs.ReleaseLemmas.{rightly-delivered}
use Rattle.hosted_repo.proofs.hosted.Hosted.put_all.Goals as goal

pub deliver_all-requires-clause-records : goal.deliver_all-requires-clause-records
deliver_all-requires-clause-records g c =
    let files = shown_files c.args.staged.now.entries in
    let told = (g.K.Records.shows c.args.records.now).tables in
    let fits = subst (λ (h : plain.Hosted). (offence h.rows files ≡ None → without_pom h.rows files ≡ None → FitWhereTold told (recorded (deliveries h files c.args.now) ++ c.args.also ∷ [])))
    (sym c.self.view_is) c.requires.fits
    (ap (λ rows. offence rows files) (sym c.map.ensures) ∙ c.in_default.ensures.0)
    (ap (λ rows. without_pom rows files) (sym c.map.ensures) ∙ c.in_default.ensures.1) in
    record { ready = c.requires.ready; fits = fits }

-- what stands against it is found with no records asked
judged-leaves : (rows : List plain.Row) (files : List plain.Staged) (answer : PutAll) (items : List Item) (now : Shown) → IsJudged rows files (Err answer) → now.IsReady → LeavesDelivery items answer now now
judged-leaves rows files (did.Offends path kept sent) items now judged ready = (quiet [] now refl ready, refl)
judged-leaves rows files (did.MissingPom dir) items now judged ready = (quiet [] now refl ready, refl)
judged-leaves rows files did.StoreFault items now judged ready = absurd judged
judged-leaves rows files did.NoMemory items now judged ready = record { tables = refl; cause = refl; crashes = inl refl; ready = ready }
judged-leaves rows files (did.Done count blobs) items now judged ready = absurd judged

pub returns-in-Err-clause-records : goal.returns-in-Err-clause-records
returns-in-Err-clause-records g c =
    judged-leaves _ (shown_files c.args.staged.now.entries) c.in-Err.answer (recorded (deliveries c.args.self.now (shown_files c.args.staged.now.entries) c.args.now) ++ c.args.also ∷ []) (g.K.Records.shows c.args.records.now)
    c.in-Err.ensures c.requires.ready

pub invariant_of-self : goal.invariant_of-self
invariant_of-self g c =
    let rows = c.self.inside.rows in
    let files = shown_files c.args.staged.now.entries in
    record {
      named = c.self.invariant.named;
      files = from-both c.deliver_all.result c.deliver_all.ensures.rows c.deliver_all.ensures.err
          (λ made. subst AreFiles (sym made) (files-delivered (session_with c.self.inside.rule.id files) c.args.now rows files rows c.requires.files c.self.invariant.files))
          (λ same. subst AreFiles (sym same) c.self.invariant.files);
      fading = from-both c.deliver_all.result c.deliver_all.ensures.rows c.deliver_all.ensures.err
          (λ made. subst AllFadeRightly (sym made) (rightly-delivered (session_with c.self.inside.rule.id files) c.args.now rows files rows c.self.invariant.fading))
          (λ same. subst AllFadeRightly (sym same) c.self.invariant.fading);
      kept = c.deliver_all.ensures.docs;
    }
