use Rattle.std.proofs.Common.{◌≡◌, ◌≤◌, take, drop}
use Rattle.al_value.specs.Outside.{Told}
use Rattle.al_query.specs.Tells.{AreSetsOf}
use Rattle.al_query.proofs.Loads.{LoadedSoFar}
use Rattle.al_query.proofs.data.load_all.Given as goal

abbrev pub invariant-loop-decl : goal.invariant-loop-decl
invariant-loop-decl g l = record {
  files : g.S.Source.files l.source ≡ g.S.Source.files l.initial.source;
  faults : g.S.Source.faults l.source ≡ g.S.Source.faults l.initial.source;
  room : l.before ≤ 67108864;
  sets : AreSetsOf (take l.decl-index l.decls) l.sets;
  so_far : Told (g.S.Source.files l.initial.source) (λ fs. LoadedSoFar fs l.decls (drop l.decl-index l.decls) l.before l.sets);
}
