use Rattle.std.proofs.Common.{◌≡◌, ◌⊎◌, ℕ, List, [], None, Some, inl, refl, sym, ap, ◌∙◌, subst}
use Rattle.std.specs.Prelude.{IsTrue, find, if◌then◌else◌}
use Rattle.std.specs.List.{flat_map}
use Rattle.deploy_session.specs.Known.{commit_turn, garbage_by, known_after}
use Rattle.deploy_session.specs.Shown.{blobs_over, shown_commit, shown_files}
use Rattle.deploy_session.specs.declared.answers.Commit.TheVariants.{StoreFault}
use Rattle.ordered_rows.specs.Rows.{rows_after_all}
use Rattle.repo_laws.proofs.Lists.{found-passes}
use Rattle.repo_laws.proofs.Releases.{same_path}
use Rattle.repo_model.specs.Data.{Session, Staged}
use Rattle.repo_model.specs.Effect.{recorded}
use Rattle.repo_model.specs.Reply.{is_free, no_session}
use Rattle.repo_model.specs.State.{is_open_at, is_repository}
use Rattle.repo_model.specs.Turn.{Turn, says}
use Rattle.row_tables.specs.Leaving.{Leaves, MayTake, end_by}
use Rattle.row_tables.proofs.Leavings.{quiet}
use Rattle.repo_parts.specs.Deploys.{commit_in, hosted_after_all}
use Rattle.repo_parts.proofs.EndTurns.{commit-ending, commit-none, commit-same, placed}
use Rattle.repo_parts.proofs.deploys.commit.Goals as goal

abbrev opened : ℕ → List ℕ → List Staged → Session
opened n repo files = record { number = n; repo = repo; staged = files; ended = None }

pub returns-in_default-opened : goal.returns-in_default-opened
returns-in_default-opened g c =
    let items = c.args.repos.now.items in
    let idle : commit_in c.args.session c.args.now c.args.sessions.now.sessions items ≡ says no_session =
    commit-none c.args.session c.args.now c.args.sessions.now.sessions items (cc) (sym c.in_default-opened.ensures) in
    record {
      reply = inl (ap (λ (t : Turn). t.reply) (sym idle));
      asked = λ is none. cc;
      sessions = ap (λ (t : Turn). known_after t.effects c.args.sessions.now) (sym idle);
      rows = ap (λ (t : Turn). hosted_after_all t.effects items) (sym idle);
      blobs = ap (λ (t : Turn). flat_map garbage_by t.effects) (sym idle);
      records = quiet (recorded (commit_in c.args.session c.args.now c.args.sessions.now.sessions items).effects) (g.K.Records.shows c.args.records.now) (ap (λ (t : Turn). recorded t.effects) idle) c.requires.records.ready;
    }

pub repo_mut-hosted-requires : goal.repo_mut-hosted-requires
repo_mut-hosted-requires g c =
    let one = opened c.args.session c.in-Some-opened.repo.now (shown_files c.in-Some-opened.field-0-1.now.entries) in
    c.requires.there one (sym c.in-Some-opened.ensures)

pub commit-requires-clause-repository : goal.commit-requires-clause-repository
commit-requires-clause-repository g c =
    let one = opened c.args.session c.in-Some-opened.repo.now (shown_files c.in-Some-opened.field-0-1.now.entries) in
    let there : find (is_open_at c.args.session) c.args.sessions.now.sessions ≡ Some one = sym c.in-Some-opened.ensures in
    let old = c.repo_mut-hosted.result.now in
    let named : old.rule.id ≡ one.repo = same_path old.rule.id one.repo (found-passes (is_repository one.repo) c.args.repos.now.items old c.repo_mut-hosted.ensures.found) in
    λ s found. let is : s ≡ one = cc in ap (λ (x : Session). x.repo) is ∙ sym named

pub commit-requires-clause-records : goal.commit-requires-clause-records
commit-requires-clause-records g c =
    let k = c.args.sessions.now in
    let items = c.args.repos.now.items in
    let one = opened c.args.session c.in-Some-opened.repo.now (shown_files c.in-Some-opened.field-0-1.now.entries) in
    let old = c.repo_mut-hosted.result.now in
    let same : commit_turn k c.args.session c.args.now old.rows ≡ commit_in c.args.session c.args.now k.sessions items =
    commit-same c.args.session c.args.now k.sessions items (cc) one (sym c.in-Some-opened.ensures) k old refl c.repo_mut-hosted.ensures.found in
    let records = c.args.records.now in
    subst (λ (t : Turn). MayTake (recorded t.effects) (g.K.Records.shows records)) (sym same) c.requires.records

pub returns : goal.returns
returns g c =
    let k = c.args.sessions.now in
    let items = c.args.repos.now.items in
    let one = opened c.args.session c.in-Some-opened.repo.now (shown_files c.in-Some-opened.field-0-1.now.entries) in
    let there : find (is_open_at c.args.session) k.sessions ≡ Some one = sym c.in-Some-opened.ensures in
    let old = c.repo_mut-hosted.result.now in
    let same : commit_turn k c.args.session c.args.now old.rows ≡ commit_in c.args.session c.args.now k.sessions items =
    commit-same c.args.session c.args.now k.sessions items (cc) one there k old refl c.repo_mut-hosted.ensures.found in
    let did = c.commit.ensures in
    let r = shown_commit c.commit.result in
    let made = subst (λ (t : Turn). c.commit.new.hosted ≡ (if is_free r then old else record old { rows = rows_after_all t.effects old.rows })) same did.rows in
    record {
      reply = subst (λ (t : Turn). (r ≡ t.reply) ⊎ IsTrue (is_free r)) same did.reply;
      asked = subst (λ (t : Turn). c.commit.result ≡ StoreFault → recorded t.effects ≡ [] → ⊥) same did.asked;
      sessions = subst (λ (t : Turn). c.commit.new.self ≡ (if is_free r then k else known_after t.effects k)) same did.sessions;
      rows = placed one.repo (commit_in c.args.session c.args.now k.sessions items).effects items old c.commit.new.hosted (is_free r)
          (commit-ending c.args.session c.args.now k.sessions items (cc) one there) c.repo_mut-hosted.ensures.found made;
      blobs = subst (λ (t : Turn). blobs_over c.commit.result ≡ (if is_free r then [] else flat_map garbage_by t.effects)) same did.blobs;
      records = subst (λ (t : Turn). Leaves (recorded t.effects) (end_by r) (g.K.Records.shows c.args.records.now) (g.K.Records.shows c.commit.new.records)) same did.records;
    }
