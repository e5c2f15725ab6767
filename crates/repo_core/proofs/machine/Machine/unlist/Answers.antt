use Rattle.std.proofs.Common.{◌≡◌, Err, sym, ap, ◌∙◌, subst}
use Rattle.std.specs.Prelude.{IsTrue}
use Rattle.repo_model.specs.Command.{meets, unlist}
use Rattle.repo_model.specs.Effect.{recorded}
use Rattle.repo_model.specs.Turn.{unlist_of}
use Rattle.row_tables.specs.Leaving.{MayTake}
use Rattle.repo_parts.specs.Hosted.{AreInUse, rules_of}
use Rattle.repo_parts.specs.Changes.{gone_by_unlist}
use Rattle.repo_parts.specs.Shelves.{AreShelved, HaveForgotten}
use Rattle.repo_core.specs.Whole.{Parts}
use Rattle.repo_parts.proofs.ShelfChanges.{nothing-changed, unlisted-still}
use Rattle.repo_parts.proofs.HostedLemmas.{rule-there, rules-kept}
use Rattle.repo_core.proofs.PurgeTurns.{unlist-done, unlist-failed, unlist-without, unlisted-count, unlisted-or-not}
use Rattle.repo_parts.proofs.UseLemmas.{unlisted-used}
use Rattle.repo_core.proofs.machine.Machine.unlist.Goals as goal
use Rattle.repo_core.proofs.machine.Machine.unlist.Goals.{in-Ok, in-Err-Failed, in-Err-NoMemory}

pub repo_mut-requires : goal.repo_mut-requires
repo_mut-requires g c =
    let there = subst (λ (w : Parts). IsTrue (meets w.settings (unlist c.args.repo.now))) (sym c.self.view_is) c.requires.meets in
    rule-there c.args.repo.now c.self.inside.repos.items (rw c.self.invariant.rules there)

pub unlist-did-requires-clause-records : goal.unlist-did-requires-clause-records
unlist-did-requires-clause-records g c =
    let records = c.args.records.now in
    subst (λ found. MayTake (recorded (unlist_of c.self.inside.last found).effects) (g.K.Records.shows records)) c.repo_mut.ensures.found (rw (← c.self.view_is) at c.requires.records)

pub invariant_of-self : goal.invariant_of-self
invariant_of-self g c =
    let id = c.args.repo.now in
    let items = c.self.inside.repos.items in
    let last = c.self.inside.last in
    let groups = c.self.inside.settings.groups in
    let proxies = c.self.inside.proxies.items in
    let olds = c.self.inside.shelves.items in
    let news = c.forget.new.shelves.items in
    let did = c.unlist-did.result in
    let said = c.unlist-did.ensures in
    let forgot : HaveForgotten (gone_by_unlist did) olds news = subst (λ gone. HaveForgotten gone olds news) c.changed_by_unlist.ensures c.forget.ensures in
    let either = unlisted-or-not id items last c.repo_mut.result.now c.unlist-did.new.self c.repo_mut.ensures.found in
    record {
      moment = c.self.invariant.moment;
      shelved = either (λ hs. AreShelved groups hs proxies news) did said.rows said.err
          (λ n is. unlisted-still groups items proxies id last n olds news (unlisted-count id items last c.repo_mut.result.now c.unlist-did.new.self c.repo_mut.ensures.found n (rw is at said.count))
          (subst (λ r. HaveForgotten (gone_by_unlist r) olds news) is forgot) c.self.invariant.shelved)
          (nothing-changed groups items proxies (gone_by_unlist did) olds news forgot c.self.invariant.shelved);
      blobs = either (AreInUse c.self.inside.yard.kept) did said.rows said.err (λ n is. unlisted-used c.self.inside.yard.kept id last items c.self.invariant.blobs) c.self.invariant.blobs;
      cached = c.self.invariant.cached;
      proxy_rules = c.self.invariant.proxy_rules;
      rules = either (λ hs. rules_of hs ≡ c.self.inside.settings.hosted) did said.rows said.err (λ n is. rules-kept id _ items ∙ c.self.invariant.rules) c.self.invariant.rules;
      staged = c.self.invariant.staged;
      numbers = c.self.invariant.numbers;
    }

pub returns : goal.returns
returns g c =
    let old = c.repo_mut.result.now in
    let new = c.unlist-did.new.self in
    let here = c.repo_mut.ensures.found in
    let before = g.K.Records.shows c.args.records.now in
    let later = g.K.Records.shows c.unlist-did.new.records in
    elim c.match-did.branch [
      | in-Ok w ↦
          let did = rw w.in-Ok.is at c.unlist-did.ensures in
          rw (← c.self.view_is, w.result-is) (unlist-done _ c.args.repo.now old new here before later w.in-Ok.count did.count did.rows did.records)
      | in-Err-Failed w ↦
          let did = rw w.in-Err-Failed.is at c.unlist-did.ensures in
          let fault = rw w.in-Err-Failed.is at w.in-Err-Failed.field-0-is in
          rw (← c.self.view_is, w.result-is) (unlist-failed _ c.args.repo.now old new here before later did.err (did.asked (ap Err fault)) (rw fault at did.records))
      | in-Err-NoMemory w ↦
          let did = rw w.in-Err-NoMemory.is at c.unlist-did.ensures in
          let fault = rw w.in-Err-NoMemory.is at w.in-Err-NoMemory.field-0-is in
          rw (← c.self.view_is, w.result-is) (unlist-without _ c.args.repo.now old new here before later did.err (rw fault at did.records))
    ]
