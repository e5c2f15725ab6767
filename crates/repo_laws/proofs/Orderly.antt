-- A state in order stays so under each effect.
use native.Mathlib.Omega.{arith}
use Rattle.std.proofs.Common.{◌≡◌, ◌≤◌, ℕ, Bool, true, false, not, cond, List, [], ◌∷◌, map, Some, None, refl, sym, ◌∙◌, ap, subst}
use Rattle.std.specs.Prelude.{find, bytes_eq, is_some}
use Rattle.std.specs.List.{AllByRecursion, list_any}
use Rattle.std.specs.Ordering.{nat_cmp, match_ordering}
use Rattle.std.specs.declared.cmp.Ordering.TheVariants.{Less, Equal, Greater}
use Rattle.std.specs.Cmp.Lexicographic.{slice_cmp}
use Rattle.std.proofs.lemmas.Bool.{false≢true}
use Rattle.std.proofs.lemmas.Option.{none-some}
use Rattle.repo_model.specs.Data.{Hosted, Staged, Session}
use Rattle.repo_model.specs.Settings.{Rule, Settings}
use Rattle.repo_model.specs.State.{State, Yard, change_first, is_repository, is_staged, is_open_at, number_end}
use Rattle.repo_model.specs.Effect.{Effect, draws, stages, delivers, discards, lends, opens, ends, with_staged, without_staged, new_session, hosted_after, repo_of, rows_after, in_repo, with_effect}
use Rattle.repo_model.specs.May.{May}
use Rattle.repo_model.specs.Command.{is_there}
use Rattle.repo_laws.specs.Laws.{AreApart}
use Rattle.repo_laws.specs.Sound.{IsInOrder, Sound}
use Rattle.repo_laws.proofs.ByPath.{rows-kept, files-kept}
use Rattle.repo_laws.proofs.Files.{proxy-rules-kept}
use Rattle.repo_laws.proofs.HoldingLists.{all-push, any-mapped, filter-apart, map-first}
use Rattle.repo_laws.proofs.Inserted.{find-keyed, with_staged-is}
pub use Rattle.repo_laws.proofs.Lists.{found-has}
use Rattle.repo_laws.proofs.Releases.{is_itself, other_path}

-- where the first that passes a test is changed, all have it still
pub first-keeps : {X : Type 0} (P : X → Type 0) (q : X → Bool) (f : X → X) (xs : List X) (x : X) → AllByRecursion P xs → find q xs ≡ Some x → P (f x) → AllByRecursion P (change_first q f xs)
first-keeps P q f [] x all is new = tt
first-keeps P q f (first ∷ xs) x all is new =
    elim (q first) as (λ b. cond b (Some first) (find q xs) ≡ Some x → AllByRecursion P (cond b (f first ∷ xs) (first ∷ change_first q f xs))) [
      | true ↦ λ found. let x_is : x ≡ first = cc in (subst (λ y. P (f y)) x_is new, all.1)
      | false ↦ λ found. (all.0, first-keeps P q f xs x all.1 found new)
    ] is

-- staged files
with_staged-elsewhere : (path : List ℕ) (new : Staged) (files : List Staged) → bytes_eq new.path path ≡ false → find (is_staged path) (with_staged new files) ≡ find (is_staged path) files
with_staged-elsewhere path new files other =
    ap (find (is_staged path)) (with_staged-is new files) ∙ find-keyed (λ (f : Staged). f.path) true path new files ∙ ap (λ b. cond b (Some new) (find (is_staged path) files)) other

with_staged-apart : (new : Staged) (files : List Staged) → find (is_staged new.path) files ≡ None → AreApart files → AreApart (with_staged new files)
with_staged-apart new [] free apart = (refl, tt)
with_staged-apart new (file ∷ files) free apart =
    elim (bytes_eq file.path new.path)
    as (λ b. bytes_eq file.path new.path ≡ b → cond b (Some file) (find (is_staged new.path) files) ≡ None → AreApart (with_staged new (file ∷ files))) [
      | true ↦ λ is found. absurd (none-some file (sym found))
      | false ↦ λ is rest.
          let other : bytes_eq new.path file.path ≡ false = other_path new.path file.path (λ same. false≢true (sym is ∙ ap (λ p. bytes_eq file.path p) same ∙ is_itself file.path)) in
          elim (slice_cmp nat_cmp new.path file.path)
          as (λ o. AreApart (match_ordering o (new ∷ file ∷ files) (new ∷ file ∷ files) (file ∷ with_staged new files))) [
            | Less ↦ (free, apart)
            | Equal ↦ (free, apart)
            | Greater ↦ (with_staged-elsewhere file.path new files other ∙ apart.0, with_staged-apart new files rest apart.1)
          ]
    ] refl free

-- repositories
rules-kept : (e : Effect) (hosted : List Hosted) → map (λ (h : Hosted). h.rule) (hosted_after e hosted) ≡ map (λ h. h.rule) hosted
rules-kept e hosted = elim (repo_of e) as (λ at. map (λ (h : Hosted). h.rule) (in_repo at (rows_after e) hosted) ≡ map (λ h. h.rule) hosted)
    [ None ↦ refl | (Some repo) ↦ map-first (λ (h : Hosted). h.rule) (is_repository repo) (λ h. record h { rows = rows_after e h.rows }) (λ h. refl) hosted ]

-- a repository is there exactly where the settings name it
pub there-as-set : (settings : Settings) (s : State) (repo : List ℕ) → map (λ (h : Hosted). h.rule) s.hosted ≡ settings.hosted → list_any (is_repository repo) s.hosted ≡ is_there repo settings
there-as-set settings s repo rules = any-mapped (λ (h : Hosted). h.rule) (λ (rule : Rule). bytes_eq rule.id repo) s.hosted ∙ ap (λ rs. is_some (find (λ (rule : Rule). bytes_eq rule.id repo) rs)) rules

module _ (settings : Settings) (grace now : ℕ) (s : State) where
  without-ordered : (n : ℕ) (path : List ℕ) (one : Session) → AllByRecursion (IsInOrder settings) s.sessions → find (is_open_at n) s.sessions ≡ Some one
      → AllByRecursion (IsInOrder settings) (change_first (is_open_at n) (without_staged path) s.sessions)
  without-ordered n path one all found =
      let (there, apart) = found-has (IsInOrder settings) (is_open_at n) s.sessions one all found in
      first-keeps (IsInOrder settings) (is_open_at n) (without_staged path) s.sessions one all found (there, filter-apart (λ (file : Staged). is_staged file.path) (λ file. not (is_staged path file)) one.staged apart)

  sessions-kept : (e : Effect) → map (λ (h : Hosted). h.rule) s.hosted ≡ settings.hosted → May grace now s e → AllByRecursion (IsInOrder settings) s.sessions → AllByRecursion (IsInOrder settings) (with_effect s e).sessions
  sessions-kept (stages n path blob) rules may all =
      let (one, found, _, free, _) = may in
      let new : Staged = record { path = path; blob = blob } in
      let (there, apart) = found-has (IsInOrder settings) (is_open_at n) s.sessions one all found in
      first-keeps (IsInOrder settings) (is_open_at n) (λ session. record session { staged = with_staged new session.staged }) s.sessions one all found (there, with_staged-apart new one.staged free apart)
  sessions-kept (delivers n repo path blob moment) rules may all = without-ordered n path may.0 all may.3
  sessions-kept (discards n path draft) rules may all = without-ordered n path may.0 all may.2
  sessions-kept (opens n repo) rules may all = all-push (IsInOrder settings) s.sessions (new_session n repo) all (λ _. sym (there-as-set settings s repo rules) ∙ may.2, tt)
  sessions-kept (ends n outcome) rules may all =
      first-keeps (IsInOrder settings) (is_open_at n) (λ session. record session { ended = Some outcome }) s.sessions may.0 all may.1 (λ is. cc, (found-has (IsInOrder settings) (is_open_at n) s.sessions may.0 all may.1).1)
  sessions-kept e rules may all = all

abbrev Numbers : Yard → Type 0
Numbers yard = (yard.next_draft ≤ number_end) × (yard.next_lease ≤ number_end) × (yard.next_session ≤ number_end)

numbers-kept : (grace now : ℕ) (s : State) (e : Effect) → May grace now s e → Numbers s.yard → Numbers (with_effect s e).yard
numbers-kept grace now s draws may old = (omega (arith, may), old.1, old.2)
numbers-kept grace now s (lends blob) may old = (old.0, omega (arith, may.0), old.2)
numbers-kept grace now s (opens n repo) may old = (old.0, old.1, omega (arith, may.1))
numbers-kept grace now s e may old = old

pub sound-kept : (settings : Settings) (grace now : ℕ) (s : State) (e : Effect) → May grace now s e → Sound settings s → Sound settings (with_effect s e)
sound-kept settings grace now s e may old =
    let (draft, lease, session) = numbers-kept grace now s e may (old.draft, old.lease, old.session) in
    record {
      rules = rules-kept e s.hosted ∙ old.rules;
      rows = rows-kept grace now s e may old.rows;
      proxies = proxy-rules-kept e s.proxies ∙ old.proxies;
      files = files-kept grace now s e may old.files;
      sessions = sessions-kept settings grace now s e old.rules may old.sessions;
      draft = draft;
      lease = lease;
      session = session;
    }
