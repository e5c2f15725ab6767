-- The rule of a proxy as the machine's plain data.
use Rattle.repo_model.specs.Settings as plain
use Rattle.proxy_rules.specs.declared.rule.Rule.{Rule}

abbrev pub shown_rule : Rule → plain.ProxyRule
shown_rule r = record {
  id = r.id;
  host = r.host;
  port = r.port;
  prefix = r.prefix;
  update = r.update;
  negative_seconds = r.negative_seconds;
  allow = r.allow;
  block = r.block;
}
