use Rattle.std.proofs.Common.{◌≡◌, [], map, take, drop}
use Rattle.al_plan.specs.Accept as spec
use Rattle.al_infer.proofs.datasets.dataset_refusal.Given as goal

abbrev pub invariant-loop-i : goal.invariant-loop-i
invariant-loop-i l =
    spec.dataset_refusal [] l.decls l.places 0 ≡ spec.dataset_refusal (map (λ d. d.name) (take l.i l.decls)) (drop l.i l.decls) l.places l.i
