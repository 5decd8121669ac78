use Rattle.al_csv.proofs.GeneratedRows.{row_is}
use Rattle.al_csv.proofs.generator.push_row.Goals as goal

pub returns : goal.returns
returns c =
    let last = c.in_ok-extend.ensures.ok in
    let third = c.in_ok-push_number-3.ensures in
    let second = c.in_ok-push_number-2.ensures in
    let first = c.in_ok-push_number.ensures in
    rw (last, third, second, first, c.from.ensures, c.letter.ensures, c.letter-2.ensures, c.letter-3.ensures, c.letter-4.ensures, c.letter-5.ensures, c.letter-6.ensures) (row_is c.args.id c.args.x c.args.text.now)
