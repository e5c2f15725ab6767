-- How proxies keep their documents and negative entries, and which of two files at a path stays.
use Rattle.std.specs.Prelude.{◌≤◌, length, Option, Some, None}
use Rattle.std.specs.List.{AllByRecursion}
use Rattle.std.specs.List.Sorted.{IsStrictlySortedBy}
use Rattle.std.specs.Ordering.{nat_cmp}
use Rattle.std.specs.declared.cmp.Ordering.{Ordering}
use Rattle.std.specs.Cmp.Lexicographic.{slice_cmp}
use Rattle.repo_model.specs.Data.{Row, Kept, NegativeEntry, Proxy}
use Rattle.repo_model.specs.State.{State}
use Rattle.repo_model.specs.Effect.{most_negatives}

abbrev pub kept_cmp : Kept → Kept → Ordering
kept_cmp a b = slice_cmp nat_cmp a.path b.path

abbrev pub negative_cmp : NegativeEntry → NegativeEntry → Ordering
negative_cmp a b = slice_cmp nat_cmp a.path b.path

-- documents and negative entries stand in byte order of path, each path once, and there are at most 10,000 negative entries
pub record KeepsLimits (p : Proxy) : Type 0 where
  pub documents : IsStrictlySortedBy kept_cmp p.documents
  pub negatives : IsStrictlySortedBy negative_cmp p.negatives
  pub few : length p.negatives ≤ most_negatives

abbrev pub KeepLimits : State → Type 0
KeepLimits s = AllByRecursion KeepsLimits s.proxies

-- the file that is kept stays; where there is none, the new one is
abbrev pub kept_first : Option Row → Row → Row
kept_first None new = new
kept_first (Some row) new = row
