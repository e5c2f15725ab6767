use Rattle.std.proofs.Common.{refl}
use Rattle.repo_routes.specs.Worked.{RefusesInOrder}
use Rattle.repo_routes.proofs.OnLiterals.{routes_on_literals}
use Rattle.repo_routes.proofs.laws.refusals_in_order.Goals as goal

computed : RefusesInOrder
unfolding routes_on_literals
computed = record {
  target = refl;
  no_host = refl;
  two_hosts = refl;
  no_length = refl;
  chunks = refl;
  bad_length = refl;
  two_lengths = refl;
  route = refl;
  repository = refl;
  method = refl;
  put_to_proxy = refl;
  put_to_group = refl;
  proxy_body = refl;
  body = refl;
  clean_body = refl;
  path = refl;
  limit = refl;
  session_repository = refl;
  session_method = refl;
  session_body = refl;
  session_number = refl;
  session_path = refl;
  session_limit = refl;
}

pub returns : goal.returns
returns c = computed
