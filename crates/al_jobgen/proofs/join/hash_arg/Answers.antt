use Rattle.std.proofs.Common.{ap, map, filter, filter_map, ◌∙◌, ◌++◌}
use Rattle.al_conj.specs.Conj.{all_of}
use Rattle.al_phys.specs.Properties.{equi_key}
use Rattle.al_jobgen.specs.Columns.{column_of, is_none, rex_of}
use Rattle.al_jobgen.proofs.PieceJoin.{hash_arg_is}
use Rattle.al_jobgen.proofs.join.hash_arg.Goals as goal

pub returns-clause-is : goal.returns-clause-is
returns-clause-is c =
    let ls = c.args.ls.now in
    let rs = c.args.rs.now in
    let all = c.as_slice.ensures ∙ c.in_ok-all.ensures in
    hash_arg_is c.args.outer ls rs c.args.cond.now c.in_ok-parts.parts.left c.in_ok-parts.parts.right c.in_ok-rest.rest
    (c.in_ok-parts.ensures.left ∙ ap (λ es. map (λ k. column_of ls k.0.name) (filter_map (equi_key ls rs) es)) all)
    (c.in_ok-parts.ensures.right ∙ ap (λ es. map (λ k. column_of rs k.1.name) (filter_map (equi_key ls rs) es)) all)
    (c.in_ok-rest.ensures.is ∙ ap (λ es. rex_of (ls ++ rs) (all_of es)) (c.in_ok-parts.ensures.rest ∙ ap (filter (λ e. is_none (equi_key ls rs e))) all))
