-- What each state of a history keeps: it is in order, and each blob number stands in one place.
use Rattle.std.specs.Prelude.{◌≡◌, ℕ, ◌+◌, ◌<◌, ◌≤◌, List, [], ◌∷◌, map, None, IsTrue, bytes_eq}
use Rattle.std.specs.List.{AllByRecursion}
use Rattle.std.specs.Ordering.{nat_cmp}
use Rattle.std.specs.declared.cmp.Ordering.TheVariants.{Less}
use Rattle.std.specs.Cmp.Lexicographic.{slice_cmp}
use Rattle.repo_model.specs.Data.{Row, Hosted, Proxy, Session}
use Rattle.repo_model.specs.Settings.{Rule, Settings, ProxyRule}
use Rattle.repo_model.specs.State.{State, Lease, number_end}
use Rattle.repo_model.specs.Command.{is_there}
use Rattle.repo_model.specs.History.{latest_moment}
use Rattle.repo_laws.specs.Numbered.{Numbered}
use Rattle.repo_laws.specs.Laws.{FadingAreSnapshots, AreApartBy, AreApart, places_of, leases_of, rows_with, cached_with, count_of}

-- no later rule has the id of an earlier one
abbrev pub AreNamedApart : List Rule → Type 0
AreNamedApart = AreApartBy (λ (rule other : Rule). bytes_eq other.id rule.id)

-- no later proxy has the id of an earlier one
abbrev pub AreProxiesApart : List ProxyRule → Type 0
AreProxiesApart = AreApartBy (λ (rule other : ProxyRule). bytes_eq other.id rule.id)

-- the path is below that of a row, in byte order
abbrev pub IsBelow : List ℕ → Row → Type 0
IsBelow path row = slice_cmp nat_cmp path row.path ≡ Less

-- in byte order of path, each path once
abbrev pub AreByPath : List Row → Type 0
AreByPath [] = Unit {0}
AreByPath (row ∷ rows) = AllByRecursion (IsBelow row.path) rows × AreByPath rows

-- an open session's repository is there, and no path is staged twice
abbrev pub IsInOrder : Settings → Session → Type 0
IsInOrder settings one = (one.ended ≡ None → IsTrue (is_there one.repo settings)) × AreApart one.staged

-- a state in order: the repositories of the settings, their rows in byte order of path, open sessions of repositories that are there, numbers up to their end
pub record Sound (settings : Settings) (s : State) : Type 0 where
  pub rules : map (λ h. h.rule) s.hosted ≡ settings.hosted
  pub rows : AllByRecursion (λ (h : Hosted). AreByPath h.rows) s.hosted
  pub proxies : map (λ (p : Proxy). p.rule) s.proxies ≡ settings.proxies
  pub files : AllByRecursion (λ (p : Proxy). AreByPath p.files) s.proxies
  pub sessions : AllByRecursion (IsInOrder settings) s.sessions
  pub draft : s.yard.next_draft ≤ number_end
  pub lease : s.yard.next_lease ≤ number_end
  pub session : s.yard.next_session ≤ number_end

-- each drawn number stands in at most one place, and no other number stands anywhere; what is borrowed is a row's or condemned
pub record OnePlace (s : State) : Type 0 where
  pub drawn : (n : ℕ) → n < s.yard.next_draft → places_of s n ≤ 1
  pub later : (n : ℕ) → s.yard.next_draft ≤ n → places_of s n ≡ 0
  pub none : places_of s 0 ≡ 0
  pub begun : 0 < s.yard.next_draft
  pub lent : AllByRecursion (λ (lease : Lease). 0 < rows_with lease.blob s.hosted + cached_with lease.blob s.proxies + count_of lease.blob s.yard.condemned) s.yard.leases

-- each lease that is taken has a number of its own, which was drawn
pub record LentOnce (s : State) : Type 0 where
  pub once : (n : ℕ) → leases_of s n ≤ 1
  pub later : (n : ℕ) → s.yard.next_lease ≤ n → leases_of s n ≡ 0
  pub none : leases_of s 0 ≡ 0
  pub begun : 0 < s.yard.next_lease

-- numbers that do not fall
abbrev pub AreRising : List ℕ → Type 0
AreRising [] = Unit {0}
AreRising (n ∷ ns) = AllByRecursion (λ m. n ≤ m) ns × AreRising ns

-- what holds of a state at every reachable moment
pub record IsSound (settings : Settings) (s : State) : Type 0 where
  pub order : Sound settings s
  pub places : OnePlace s
  pub leases : LentOnce s
  pub sessions : Numbered s
  pub condemned : AreRising s.yard.condemned
  pub fading : FadingAreSnapshots s
  pub last : s.last ≤ latest_moment
