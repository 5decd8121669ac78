use Rattle.std.proofs.Common.{◌<◌, [], length, get_or, ap, refl, ◌∙◌, arith}
use Rattle.al_value.specs.Hash.{fnv}
use Rattle.hy_connect.proofs.Hashing.{hash_more, hash_none}
use Rattle.hy_connect.proofs.route.part.Goals as goal

pub loop-column-init : goal.loop-column-init
loop-column-init c = c.hash_start-hash.ensures ∙ hash_none []

pub loop-column-preserved : goal.loop-column-preserved
loop-column-preserved c =
    let columns = c.args.columns.now in
    let i = c.loop-column.column-index in
    let low : i < length columns = omega arith in
    c.hash_add-hash.ensures ∙ ap (fnv c.loop-column.hash) c.field.ensures.field
    ∙ hash_more columns i (get_or columns i 0) c.loop-column.hash c.args.row.now low refl c.requires.fields (c.requires.columns i 0 low) c.loop-column.invariant
