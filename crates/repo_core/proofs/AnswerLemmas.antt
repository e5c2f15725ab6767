-- A draft for a file of a repository is given only where the repository takes the file, and what is to be fetched is a plan of the
-- settings.
use Rattle.std.proofs.Common.{◌≡◌, ℕ, Bool, true, false, if◌then◌else◌, List, Option, Some, None, refl, sym, ap, ◌∙◌, subst}
use Rattle.std.specs.Prelude.{IsTrue, find, bytes_eq}
use Rattle.std.specs.Option.{option_map}
use Rattle.repo_model.specs.Asking.{IsAnswerTo}
use Rattle.repo_model.specs.Data.{Hosted, repository}
use Rattle.repo_model.specs.Settings.{Settings, Rule}
use Rattle.repo_model.specs.Paths.{takes}
use Rattle.repo_model.specs.State.{State, hosted_of}
use Rattle.repo_model.specs.Command.{Command, look, may_put, is_fit, rule_of}
use Rattle.repo_model.specs.Reply.{Reply, draft, fetches, kind_refused}
use Rattle.repo_model.specs.Turn.{Turn, says, in_repository, draws_draft}
use Rattle.repo_model.specs.History.{Entry, IsReply, due, wants_memory, failed, Fits}
use Rattle.repo_laws.specs.Sound.{IsSound}
use Rattle.repo_laws.proofs.Plans.{look-plans}
use Rattle.repo_parts.proofs.HostedLemmas.{rule-found}

fit-mapped : (path : List ℕ) (found : Option Hosted) → is_fit (λ rule. takes rule path) (option_map (λ (h : Hosted). h.rule) found) ≡ is_fit (λ (h : Hosted). takes h.rule path) found
fit-mapped path None = refl
fit-mapped path (Some h) = refl

taken-by : (b : Bool) (n : ℕ) (t : Turn) → draft n ≡ (if b then t else says kind_refused).reply → IsTrue b
taken-by true n t is = refl
taken-by false n t is = cc

taken-in : (path : List ℕ) (found : Option Hosted) (n : ℕ) (t : Turn) → draft n ≡ (in_repository path found t).reply → IsTrue (is_fit (λ (h : Hosted). takes h.rule path) found)
taken-in path None n t is = cc
taken-in path (Some h) n t is = taken-by (takes h.rule path) n t is

module _ (settings : Settings) (s : State) (sound : IsSound settings s) where
  taken : (repo path : List ℕ) (n : ℕ) → draft n ≡ (in_repository path (hosted_of repo s) (draws_draft s.yard.next_draft)).reply → IsTrue (is_fit (λ rule. takes rule path) (rule_of repo settings))
  taken repo path n is =
      let found : find (λ rule. bytes_eq rule.id repo) settings.hosted ≡ option_map (λ (h : Hosted). h.rule) (hosted_of repo s) =
      subst (λ rules. find (λ (rule : Rule). bytes_eq rule.id repo) rules ≡ option_map (λ (h : Hosted). h.rule) (hosted_of repo s)) sound.order.rules (rule-found repo s.hosted) in
      ap (is_fit (λ rule. takes rule path)) found ∙ fit-mapped path (hosted_of repo s) ∙ taken-in path (hosted_of repo s) n (draws_draft s.yard.next_draft) is

  by-reply : (command : Command) (reply : Reply) (moment faults : ℕ) → IsReply settings s (record { command = command; moment = moment; reply = reply; faults = faults }) → IsAnswerTo settings command reply
  by-reply (may_put (repository repo) path) (draft n) moment faults (due is did) = taken repo path n is
  by-reply (may_put (repository repo) path) (draft n) moment faults (wants_memory is may did) = cc
  by-reply (may_put (repository repo) path) (draft n) moment faults (failed is may rose) = cc
  by-reply (look id path tried) (fetches plan) moment faults (due is did) = look-plans settings s moment sound.order.proxies id path tried plan (sym is)
  by-reply (look id path tried) (fetches plan) moment faults (wants_memory is may did) = cc
  by-reply (look id path tried) (fetches plan) moment faults (failed is may rose) = cc
  by-reply command reply moment faults r = tt

  -- an entry that fits a sound state
  pub answers : (e : Entry) → Fits settings s e → IsAnswerTo settings e.command e.reply
  answers e fits = by-reply e.command e.reply e.moment e.faults fits.reply
