use Rattle.std.proofs.Common.{◌≡◌, true, sym, ap, ◌∙◌, subst}
use Rattle.std.specs.Prelude.{IsTrue}
use Rattle.blob_yard.specs.Numbers.{Numbers}
use Rattle.hosted_repo.specs.Puts.{shown_put}
use Rattle.repo_model.specs.Command.{meets, put, rule_of}
use Rattle.repo_model.specs.Effect.{recorded}
use Rattle.repo_model.specs.Paths.{takes}
use Rattle.repo_model.specs.State.{is_among}
use Rattle.repo_model.specs.Shown.{shown_parcel}
use Rattle.repo_model.specs.Turn.{Turn}
use Rattle.row_tables.specs.Items.{is_number}
use Rattle.repo_parts.specs.Hosted.{AreInUse, rules_of}
use Rattle.repo_parts.specs.Shelves.{AreShelved, HaveForgotten}
use Rattle.repo_parts.proofs.CachedLemmas.{cached-put}
use Rattle.repo_core.proofs.DraftLemmas.{fit-so, named-so, recorded-put, short-so, turn-at}
use Rattle.repo_parts.proofs.HostedLemmas.{named-there, rules-kept}
use Rattle.repo_core.proofs.ItemForms.{draft-number, fit-file}
use Rattle.repo_parts.proofs.PutReplies.{put-left}
use Rattle.repo_parts.proofs.SessionNumbers.{session-put}
use Rattle.repo_parts.proofs.ShelfChanges.{put-still}
use Rattle.repo_parts.proofs.StagedLemmas.{staged-put}
use Rattle.repo_parts.proofs.UseLemmas.{put-used}
use Rattle.row_tables.specs.Leaving.{MayTake}
use Rattle.repo_core.proofs.machine.Machine.put.Goals as goal

pub repo_mut-requires : goal.repo_mut-requires
repo_mut-requires g c =
    let settings = c.self.inside.settings in
    let asked = subst (λ w. IsTrue (meets w.settings (put c.args.repo.now c.args.path.now c.args.draft (shown_parcel c.args.parcel)))) (sym c.self.view_is) c.requires.meets in
    let fit = fit-so settings c.args.repo.now c.args.path.now c.args.draft (shown_parcel c.args.parcel) asked in
    named-there c.args.repo.now (λ rule. takes rule c.args.path.now) c.self.inside.repos.items (rw c.self.invariant.rules fit)

pub put-outcome-requires-clause-form : goal.put-outcome-requires-clause-form
put-outcome-requires-clause-form g c =
    let settings = c.args.self.now.settings in
    let repo = c.args.repo.now in
    let path = c.args.path.now in
    let blob = shown_parcel c.args.parcel in
    let among : is_among c.args.draft c.self.inside.yard.yard.drafts ≡ true = cc in
    let orderly = rw (← c.self.view_is) at c.requires.orderly in
    record {
      moment = c.self.invariant.moment;
      file = fit-file path (rule_of repo settings) (fit-so settings repo path c.args.draft blob c.requires.meets);
      number = subst (λ n. IsTrue (is_number n)) (sym (named-so settings repo path c.args.draft blob c.requires.meets)) (draft-number _ c.args.draft orderly.places orderly.order.draft among);
      length = short-so settings repo path c.args.draft blob c.requires.meets;
    }

pub put-outcome-requires-clause-records : goal.put-outcome-requires-clause-records
put-outcome-requires-clause-records g c =
    let among : is_among c.args.draft c.self.inside.yard.yard.drafts ≡ true = cc in
    let named = named-so c.args.self.now.settings c.args.repo.now c.args.path.now c.args.draft (shown_parcel c.args.parcel) c.requires.meets in
    let records = c.args.records.now in
    subst (λ (t : Turn). MayTake (recorded t.effects) (g.K.Records.shows records))
    (sym (turn-at (c.self.view_is 0) c.args.repo.now c.args.path.now c.args.draft (shown_parcel c.args.parcel) among named c.repo_mut.result.now c.repo_mut.ensures.found)) (rw (← c.self.view_is) at c.requires.records)

pub invariant_of-self : goal.invariant_of-self
invariant_of-self g c =
    let id = c.args.repo.now in
    let path = c.args.path.now in
    let blob = shown_parcel c.args.parcel in
    let items = c.self.inside.repos.items in
    let reply = shown_put c.put-outcome.result in
    let named = named-so c.args.self.now.settings id path c.args.draft blob c.requires.meets in
    let left = put-left id path blob c.self.inside.last items c.repo_mut.result.now c.put-outcome.new.self reply c.repo_mut.ensures.found c.put-outcome.ensures.reply c.put-outcome.ensures.rows in
    record {
      moment = c.self.invariant.moment;
      shelved = subst (λ hs. AreShelved c.self.inside.settings.groups hs c.self.inside.proxies.items c.forget.new.shelves.items) (sym left)
          (put-still c.self.inside.settings.groups items c.self.inside.proxies.items id path blob c.self.inside.last reply c.self.inside.shelves.items c.forget.new.shelves.items
          (subst (λ gone. HaveForgotten gone c.self.inside.shelves.items c.forget.new.shelves.items) c.changed_by_put.ensures c.forget.ensures) c.self.invariant.shelved);
      blobs = rw c.settle_put.ensures (subst (AreInUse _) (sym left) (put-used c.self.inside.yard.kept id path c.args.draft c.self.inside.last blob reply items c.self.invariant.blobs named));
      cached = rw c.settle_put.ensures (cached-put c.args.draft reply c.self.inside.yard.kept c.self.inside.proxies.items c.self.invariant.cached);
      proxy_rules = c.self.invariant.proxy_rules;
      rules = ap rules_of left ∙ rules-kept id _ items ∙ c.self.invariant.rules;
      staged = rw c.settle_put.ensures (staged-put c.args.draft reply c.self.inside.yard.kept c.self.inside.sessions.sessions c.self.invariant.staged);
      numbers = ap (λ (y : Numbers). y.yard.next_session) c.settle_put.ensures ∙ session-put c.args.draft reply c.self.inside.yard.yard ∙ c.self.invariant.numbers;
    }

pub returns : goal.returns
returns g c =
    let among : is_among c.args.draft c.self.inside.yard.yard.drafts ≡ true = cc in
    let named = named-so c.args.self.now.settings c.args.repo.now c.args.path.now c.args.draft (shown_parcel c.args.parcel) c.requires.meets in
    let did = c.put-outcome.ensures in
    rw (c.reply_of_put.ensures, ← c.self.view_is)
    (recorded-put _ c.args.repo.now c.args.path.now c.args.draft (shown_parcel c.args.parcel) among named c.repo_mut.result.now c.repo_mut.ensures.found c.put-outcome.new.self _ (shown_put c.put-outcome.result) (g.K.Records.shows c.args.records.now)
    (g.K.Records.shows c.put-outcome.new.records) did.reply did.rows (ap (λ (y : Numbers). y.yard) c.settle_put.ensures) did.records)
