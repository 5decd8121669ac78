use Rattle.hy_connect.proofs.CaseProofs.{places_receive, routes_are_wires}
use Rattle.hy_connect.proofs.laws.route_laws.Goals as goal

pub returns-clause-sent : goal.returns-clause-sent
returns-clause-sent c = routes_are_wires

pub returns-clause-receive : goal.returns-clause-receive
returns-clause-receive c = places_receive
