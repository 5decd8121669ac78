use Rattle.std.proofs.Common.{◌≡◌, ◌≤◌, ◌+◌, All, length, vec_capacity, []}
use Rattle.hy_abort.specs.Seats.{fresh_of}
use Rattle.hy_abort.proofs.word.AbortWord.new.Given as goal

abbrev pub invariant-loop : goal.invariant-loop
invariant-loop l = (length l.dealt.items + 1 ≡ l.counter) × All (λ s. s ≡ fresh_of l.table.shared.table_id) l.dealt.items
    × (l.maker.table_id ≡ l.table.shared.table_id) × (l.maker.me.1 ≡ []) × (l.maker.me.0.raises ≡ 0) × (l.maker.me.0.found ≡ 0) × (l.maker.me.0.steps ≡ 0)
    × (l.maker.me.0.seats + length l.dealt.items ≡ l.fn.seats) × (l.fn.seats ≤ vec_capacity l.dealt)
