use Rattle.std.proofs.Common.{refl}
use Rattle.repo_routes.specs.Worked.{AsksFor}
use Rattle.repo_routes.proofs.OnLiterals.{routes_on_literals}
use Rattle.repo_routes.proofs.laws.worked_requests.Goals as goal

computed : AsksFor
unfolding routes_on_literals
computed = record {
  file = refl;
  no_body = refl;
  file_of_proxy = refl;
  file_of_group = refl;
  status = refl;
  clean = refl;
  clean_without_body = refl;
  put = refl;
  put_side = refl;
  put_document = refl;
  of_head = refl;
  old = refl;
  expects = refl;
  expects_nothing = refl;
  open_session = refl;
  commit_session = refl;
  abort_session = refl;
  stage = refl;
  stage_side = refl;
  stage_document = refl;
}

pub returns : goal.returns
returns c = computed
