use Rattle.std.proofs.Common.{◌≡◌, Some, None, ap, refl, Option}
use Rattle.std.specs.Option.{ok_or, option_map}
use Rattle.repo_routes.specs.declared.refusal.Refusal.TheVariants.{NoRoute}
use Rattle.repo_routes.specs.Routes.{Route, pattern_of, route_at, route_of}
use Rattle.repo_routes.proofs.RouteLemmas.{route-by, route-none}
use Rattle.repo_routes.proofs.routes.Routes.route_of.Goals as goal

pub returns-in_default : goal.returns-in_default
unfolding route_of
returns-in_default c =
    let none : option_map pattern_of (route_at c.args.path.now) ≡ None = cc in rw (route-none c.args.path.now none) refl

pub returns-in-Some-route_by : goal.returns-in-Some-route_by
unfolding route_of
returns-in-Some-route_by c =
    let of_pattern : option_map pattern_of (route_at c.args.path.now) ≡ Some c.in-Some.pattern = cc in
    rw (route-by c.args.path.now c.in-Some.pattern of_pattern)
    (ap (λ (r : Option Route). ok_or r NoRoute) (rw c.in-Some-route_by.is at c.route_by.ensures))

pub returns-in-None : goal.returns-in-None
unfolding route_of
returns-in-None c =
    let of_pattern : option_map pattern_of (route_at c.args.path.now) ≡ Some c.in-Some.pattern = cc in
    rw (route-by c.args.path.now c.in-Some.pattern of_pattern)
    (ap (λ (r : Option Route). ok_or r NoRoute) (rw c.in-None.is at c.route_by.ensures))
