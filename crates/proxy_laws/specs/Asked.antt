-- By whom a proxy's files are asked for: by its own id, or by that of a group in which it comes first.
use Rattle.std.specs.Prelude.{◌≡◌, ℕ, false, List, ◌∷◌, None, Some, IsTrue}
use Rattle.path_patterns.specs.Pattern.{is_let_through}
use Rattle.repo_model.specs.Settings.{GroupRule, ProxyRule, Settings}
use Rattle.repo_model.specs.Command.{group_rule_of, is_there, proxy_rule_of}

-- the settings name a proxy of an id, and no hosted repository, and its patterns let the path through
pub record LetsThrough (settings : Settings) (id path : List ℕ) : Type 0 where
  pub rule : ProxyRule
  pub named : proxy_rule_of id settings ≡ Some rule
  pub not_hosted : is_there id settings ≡ false
  pub lets : IsTrue (is_let_through rule.allow rule.block path)

-- who asks, asks the proxy itself, or a group whose first member it is
pub data AsksFirst (settings : Settings) (asked id : List ℕ) : Type 0 where
  itself : asked ≡ id → group_rule_of asked settings ≡ None → AsksFirst settings asked id
  by_group : (g : GroupRule) (others : List (List ℕ)) → is_there asked settings ≡ false → group_rule_of asked settings ≡ Some g → g.members ≡ id ∷ others
      → AsksFirst settings asked id
