-- What proxies keep changes only where something lands.
use Rattle.std.proofs.Common.{◌≡◌, ℕ, true, List, [], ◌∷◌, length, refl, ◌∙◌, ap}
use Rattle.std.specs.List.{AllByRecursion}
use Rattle.std.proofs.lemmas.Bool.{false≢true}
use Rattle.repo_model.specs.declared.session.SessionResult.TheVariants.{Aborted, Done}
use Rattle.repo_model.specs.Settings.{Settings}
use Rattle.repo_model.specs.State.{State, rows_of}
use Rattle.repo_model.specs.Effect.{Effect, caches, keeps_doc, adds_negative, clears_negative, with_effect, with_effects}
use Rattle.repo_model.specs.Command.{Command}
use Rattle.repo_model.specs.Reply.{landed, is_free}
use Rattle.repo_model.specs.Purge.{expire_all}
use Rattle.repo_model.specs.Turn.{Turn, turn, unlent}
use Rattle.repo_model.specs.History.{Entry, IsReply, due, wants_memory, failed, Fits, Legal, ticked, after, end}
use Rattle.repo_laws.proofs.Answered.{free-none, no-free, state-determined}
use Rattle.repo_laws.proofs.Cases.{Case, lands_one, deploys, aborts, unlists, collects, turn-case}
use Rattle.repo_laws.proofs.Making.{is_bulk, deploys-made, aborts-made, unlists-made, collects-made}

-- the effect leaves each proxy as it is
abbrev Leaves : Effect → Type 0
Leaves e = (s : State) → (with_effect s e).proxies ≡ s.proxies

all-leave : (es : List Effect) → AllByRecursion Leaves es → (s : State) → (with_effects s es).proxies ≡ s.proxies
all-leave [] all s = refl
all-leave (e ∷ es) all s = all-leave es all.1 (with_effect s e) ∙ all.0 s

-- so do those that a turn makes of a list of files or of rows
bulk : (e : Effect) → is_bulk e ≡ true → Leaves e
bulk (caches id path blob moment) is = absurd (false≢true is)
bulk (keeps_doc id path document moment) is = absurd (false≢true is)
bulk (adds_negative id path moment) is = absurd (false≢true is)
bulk (clears_negative id path) is = absurd (false≢true is)
bulk e is = λ s. refl

module _ (settings : Settings) (s : State) (now : ℕ) where
  case-leaves : (c : Command) (t : Turn) → Case settings s now c t → (t.reply ≡ landed → ⊥) → (u : State) → (with_effects u t.effects).proxies ≡ u.proxies
  case-leaves c t (lands_one plan outcome drawn) other u = absurd (other refl)
  case-leaves c t (deploys n one is going) other u = all-leave t.effects (deploys-made Leaves bulk one now (rows_of one.repo s) (Done (length one.staged))) u
  case-leaves c t (aborts n one is going) other u = all-leave t.effects (aborts-made Leaves bulk one Aborted) u
  case-leaves c t (unlists repo h is) other u = all-leave t.effects (unlists-made Leaves bulk h now) u
  case-leaves c t collects other u =
      let blobs = unlent (with_effects s (expire_all settings.grace now s.hosted)).yard in
      all-leave t.effects (collects-made Leaves bulk settings.grace now s.hosted blobs (λ v. refl)) u
  case-leaves c t case other u = refl

pub entry-leaves : (settings : Settings) (old : State) (e : Entry) → Fits settings old e → (e.reply ≡ landed → ⊥) → (after settings old e).proxies ≡ old.proxies
entry-leaves settings old e fits other = by fits.reply where
  none : is_free e.reply ≡ true → (after settings old e).proxies ≡ old.proxies
  none free = ap (λ es. (with_effects (ticked old e.moment e.faults) es).proxies) (free-none settings old e free)

  by : IsReply settings old e → (after settings old e).proxies ≡ old.proxies
  by (due is _) =
      ap (λ (s : State). s.proxies) (state-determined settings old e (ap is_free is ∙ no-free settings old e.moment e.command))
      ∙ case-leaves settings old e.moment e.command (turn settings old e.moment e.command) (turn-case settings old e.moment e.command) (λ lands. other (is ∙ lands))
      (ticked old e.moment e.faults)
  by (wants_memory is _ _) = none (ap is_free is)
  by (failed is _ _) = none (ap is_free is)

pub history-leaves : (settings : Settings) (start : State) (entries : List Entry) → Legal settings start entries → AllByRecursion (λ (e : Entry). e.reply ≡ landed → ⊥) entries
    → (end settings start entries).proxies ≡ start.proxies
history-leaves settings start [] legal others = refl
history-leaves settings start (e ∷ entries) legal others =
    history-leaves settings (after settings start e) entries legal.1 others.1 ∙ entry-leaves settings start e legal.0 others.0
