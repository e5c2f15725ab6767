-- Hosted repositories: the first of an id, its rows and what it takes.
use Rattle.std.proofs.Common.{◌≡◌, ℕ, Bool, true, false, cond, ◌||◌, List, [], ◌∷◌, set, Option, Some, None, find, refl, ap, sym, ◌∙◌}
use Rattle.std.specs.Option.{is_some, option_map, option_map_or}
use Rattle.std.specs.List.{list_any, position_or_len}
use Rattle.std.specs.Str.{bytes_eq}
use Rattle.std.proofs.lemmas.Bool.{false≢true}
use Rattle.repo_model.specs.Data as plain
use Rattle.repo_model.specs.Settings.{Rule}
use Rattle.repo_model.specs.Command.{is_fit}
use Rattle.repo_model.specs.State.{is_repository}
use Rattle.repo_parts.specs.Hosted.{rules_of, rows_in, with_rows}
use Rattle.repo_parts.proofs.ListLemmas.{find-map, map-change, same-all}
use Rattle.repo_parts.proofs.PlacedLemmas.{set-found}

-- the rows of a repository that was found
pub rows-found : (id : List ℕ) (items : List plain.Hosted) (old : plain.Hosted) → find (is_repository id) items ≡ Some old → old.rows ≡ rows_in id items
rows-found id items old here = ap (λ found. option_map_or (λ (h : plain.Hosted). h.rows) found []) (sym here)

-- the repositories where one that was found is lent and comes back: with other rows, or as it was
abbrev pub with_lent : List ℕ → List plain.Hosted → plain.Hosted → List plain.Hosted
with_lent id items new = set items (position_or_len (is_repository id) items) new

pub lent-rows : (id : List ℕ) (items : List plain.Hosted) (old new : plain.Hosted) (rows : List plain.Row) → find (is_repository id) items ≡ Some old → new ≡ record old { rows = rows } → with_lent id items new ≡ with_rows id rows items
lent-rows id items old new rows here made = ap (with_lent id items) made ∙ set-found (is_repository id) (λ h. record h { rows = rows }) items old here

pub lent-still : (id : List ℕ) (items : List plain.Hosted) (old new : plain.Hosted) → find (is_repository id) items ≡ Some old → new ≡ old → with_lent id items new ≡ items
lent-still id items old new here made = ap (with_lent id items) made ∙ set-found (is_repository id) (λ h. h) items old here ∙ same-all (is_repository id) items

found-there : (b r : Bool) (test : Rule → Bool) (rule : Rule) (rest : Option Rule) → is_fit test (cond b (Some rule) rest) ≡ true → (is_fit test rest ≡ true → r ≡ true) → (b || r) ≡ true
found-there true r test rule rest h k = refl
found-there false r test rule rest h k = k h

-- where a rule of the id is found, a repository is
pub named-there : (id : List ℕ) (test : Rule → Bool) (repos : List plain.Hosted) → is_fit test (find (λ rule. bytes_eq rule.id id) (rules_of repos)) ≡ true → list_any (is_repository id) repos ≡ true
named-there id test [] h = absurd (false≢true h)
named-there id test (repo ∷ repos) h =
    found-there (is_repository id repo) (list_any (is_repository id) repos) test repo.rule (find (λ rule. bytes_eq rule.id id) (rules_of repos)) h (named-there id test repos)

some-fit : (found : Option Rule) → is_some found ≡ true → is_fit (λ rule. true) found ≡ true
some-fit None h = h
some-fit (Some rule) h = refl

-- where a repository's rule is there, the repository is
pub rule-there : (id : List ℕ) (repos : List plain.Hosted) → is_some (find (λ rule. bytes_eq rule.id id) (rules_of repos)) ≡ true → list_any (is_repository id) repos ≡ true
rule-there id repos there = named-there id (λ rule. true) repos (some-fit (find (λ rule. bytes_eq rule.id id) (rules_of repos)) there)

-- the rules that are found are those of the repositories
pub rule-found : (id : List ℕ) (repos : List plain.Hosted) → find (λ rule. bytes_eq rule.id id) (rules_of repos) ≡ option_map (λ (h : plain.Hosted). h.rule) (find (is_repository id) repos)
rule-found id repos = find-map (λ (h : plain.Hosted). h.rule) (λ rule. bytes_eq rule.id id) repos

-- other rows change no rule
pub rules-kept : (id : List ℕ) (rows : List plain.Row) (hosted : List plain.Hosted) → rules_of (with_rows id rows hosted) ≡ rules_of hosted
rules-kept id rows hosted = map-change (λ (h : plain.Hosted). h.rule) (is_repository id) (λ h. record h { rows = rows }) (λ h. refl) hosted
