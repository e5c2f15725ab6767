use Rattle.std.proofs.Common.{refl}
use Rattle.repo_routes.specs.Worked.{RefusesWithoutBody}
use Rattle.repo_routes.proofs.OnLiterals.{routes_on_literals}
use Rattle.repo_routes.proofs.laws.refusals_without_body.Goals as goal

computed : RefusesWithoutBody
unfolding routes_on_literals
computed = record {
  goes_on = refl;
  ends = refl;
  old = refl;
  of_head = refl;
  of_head_at_host = refl;
  small_letters = refl;
  get_clean = refl;
  head_clean = refl;
  put_clean = refl;
  post_file = refl;
  post_status = refl;
  below_clean = refl;
  below_commit = refl;
  no_number = refl;
  no_file = refl;
  of_proxy = refl;
  get_sessions = refl;
  get_commit = refl;
  put_abort = refl;
  post_staged = refl;
  zero = refl;
  leading_zero = refl;
  no_digit = refl;
  great_number = refl;
  long_number = refl;
  no_session = refl;
  get_staged = refl;
  head_staged = refl;
  of_group = refl;
  proxy = refl;
  group = refl;
  post_to_proxy = refl;
  escape = refl;
  no_text = refl;
  escaped_id = refl;
}

pub returns : goal.returns
returns c = computed
