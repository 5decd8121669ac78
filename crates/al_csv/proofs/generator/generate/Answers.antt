use Rattle.std.proofs.Common.{◌++◌, ◌∙◌, sym, ap, ap₂, append_assoc, codes, List, ℕ}
use Rattle.std.specs.List.{flat_map, range_with_len}
use Rattle.al_csv.specs.Generator.{generated_row, row_at, next}
use Rattle.al_csv.proofs.GeneratedRows.{number_next, number_none, rows_more}
use Rattle.al_csv.proofs.generator.generate.Goals as goal

pub loop-i-init : goal.loop-i-init
loop-i-init c = (rw c.new-text.ensures at c.in_ok-extend.ensures.ok, c.from-x.ensures ∙ sym (number_none c.args.seed))

pub loop-i-preserved : goal.loop-i-preserved
loop-i-preserved c =
    let seed = c.args.seed in
    let i = c.loop-i.i in
    let number = c.next-x.ensures ∙ ap next c.loop-i.invariant.1 ∙ number_next seed i in
    let header = codes "id,grp,val,tag\n" in
    let before = flat_map (row_at seed) (range_with_len 0 i) in
    let grown = append_assoc header before (row_at seed i) ∙ ap (λ (t : List ℕ). header ++ t) (sym (rows_more seed i)) in
    (c.in_ok-push_row.ensures ∙ ap₂ (λ (t : List ℕ) (x : ℕ). t ++ generated_row i x) c.loop-i.invariant.0 number ∙ grown, number)
