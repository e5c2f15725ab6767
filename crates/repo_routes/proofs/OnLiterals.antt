-- What a proof unfolds to compute this crate's definitions on a given head.
use Rattle.std.specs.Prelude.{⊤}
use Rattle.percent_encoding.specs.Percent.{percent_decode}
use Rattle.mvn_coords.specs.Path.{parts_of}
use Rattle.http_wire.proofs.OnLiterals.{http_wire_on_literals}
use Rattle.repo_routes.specs.Framing.{asks_continue, check_host, ends_connection, expects_continue, has_body, is_head, is_post, is_put, is_read, length_of}
use Rattle.repo_routes.specs.Judge.{check_body, in_repo, intent_of, into_session, judge, of_session}
use Rattle.repo_routes.specs.Numbers.{number_in, session_of}
use Rattle.repo_routes.specs.Paths.{check_limit, decoded, limit_of, path_refusal, put_at, put_to, read_from, thing_at}
use Rattle.repo_routes.specs.Routes.{check_method, check_repository, named_route, number_route, repository_route, route_at, route_of, session_route, sessions_route, sort_of}
use Rattle.repo_routes.specs.Target.{origin_form, path_after, target_path, without_query}

unfoldable pub routes_on_literals : ⊤
unfolding http_wire_on_literals percent_decode parts_of asks_continue check_host ends_connection expects_continue has_body is_head is_post is_put is_read length_of check_body in_repo intent_of into_session judge of_session number_in session_of check_limit decoded limit_of path_refusal put_at put_to read_from thing_at check_method check_repository named_route number_route repository_route route_at route_of session_route sessions_route sort_of origin_form path_after target_path without_query
routes_on_literals = tt
