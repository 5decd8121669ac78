use Rattle.std.proofs.Common.{◌≡◌, map, filter, filter_map, take}
use Rattle.al_phys.specs.Properties.{equi_key}
use Rattle.al_jobgen.specs.Columns.{column_of, is_none}
use Rattle.al_jobgen.proofs.join.parts_of.Given as goal

abbrev pub invariant-loop-e : goal.invariant-loop-e
invariant-loop-e l = record {
  left : l.left ≡ map (λ k. column_of l.ls k.0.name) (filter_map (equi_key l.ls l.rs) (take l.e-index l.all));
  right : l.right ≡ map (λ k. column_of l.rs k.1.name) (filter_map (equi_key l.ls l.rs) (take l.e-index l.all));
  rest : l.rest ≡ filter (λ e. is_none (equi_key l.ls l.rs e)) (take l.e-index l.all);
}
