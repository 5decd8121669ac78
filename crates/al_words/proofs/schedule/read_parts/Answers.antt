use Rattle.std.proofs.Common.{◌≡◌, ◌≢◌, ◌+◌, ◌<◌, ◌≤◌, ℕ, ◌++◌, ◌∷◌, [], arith, ap, sym, subst, length, map, lit<}
use Rattle.std.proofs.lemmas.Iterator.Consumers.{YieldsList-end, YieldsList-so_far, YieldsList-turn}
use Rattle.std.proofs.lemmas.Iterator.Splits.{YieldsList-from_str_split}
use Rattle.al_words.specs.Words.{Each, IsPart, count}
use Rattle.al_words.proofs.Asking.{each_same, part_same}
use Rattle.al_words.proofs.Schedules.{all_items, count_over, count_push, each_in, each_more, now}
use Rattle.al_words.proofs.schedule.read_parts.Goals as goal

-- the numbers so far and those of this part are too many
over_full : (so_far left part count_all : ℕ) (len : ℕ) → so_far + left ≡ 100000 → so_far + part ≤ count_all → len ≡ part → left < len → count_all ≤ 100000 → ⊥
over_full so_far left part count_all len counted over is lt few = absurd (omega arith)

-- no number was counted
none_counted : (so_far left all : ℕ) → so_far + left ≡ 100000 → left ≡ 100000 → all ≡ so_far → 0 < all → ⊥
none_counted so_far left all counted full same some = absurd (omega arith)

-- some number was counted
some_counted : (so_far left : ℕ) → so_far + left ≡ 100000 → left ≢ 100000 → (0 < so_far) × (so_far ≤ 100000)
some_counted so_far left counted other = (omega arith, omega arith)

pub returns-in-Err : goal.returns-in-Err
returns-in-Err c = λ e parts h.
    let items = c.loop-part.yielded in
    let chain = YieldsList-from_str_split 47 c.args.text.now (lit< tt) (cc) (cc) (cc) in
    let turn = YieldsList-turn chain items _ c.loop-part.yielded_by _ _ c.in-Some.part c.in-Some.is c.next.ensures.steps in
    let split = all_items _ (map now items) (length items) c.in-Some.part.now (YieldsList-so_far chain items _ c.loop-part.yielded_by) turn in
    each_in IsPart (map now items) c.in-Some.part.now _ parts (subst (λ ts. Each IsPart ts parts) split h.0) (c.in-Err.ensures e)

pub returns-then-len-left : goal.returns-then-len-left
returns-then-len-left c = λ _ parts h.
    let items = c.loop-part.yielded in
    let chain = YieldsList-from_str_split 47 c.args.text.now (lit< tt) (cc) (cc) (cc) in
    let turn = YieldsList-turn chain items _ c.loop-part.yielded_by _ _ c.in-Some.part c.in-Some.is c.next.ensures.steps in
    let split = all_items _ (map now items) (length items) c.in-Some.part.now (YieldsList-so_far chain items _ c.loop-part.yielded_by) turn in
    let over = count_over (map now items) c.in-Some.part.now _ c.loop-part.parts parts c.in-Ok.numbers c.loop-part.invariant.read
    (subst (λ ts. Each IsPart ts parts) split h.0) c.in-Ok.ensures in
    over_full _ _ _ _ _ c.loop-part.invariant.counted over c.len.ensures c.if-len-left.true h.2

pub loop-part-preserved : goal.loop-part-preserved
loop-part-preserved c =
    let more = each_more IsPart c.loop-part.yielded c.in-Some.part c.loop-part.parts c.in-Ok.numbers c.loop-part.invariant.read c.in-Ok.ensures in
    let pushed = c.in-Ok-push.ensures.ok in
    let sum : count c.push.new.self ≡ count c.loop-part.parts + length c.in-Ok.numbers = rw pushed (count_push c.loop-part.parts c.in-Ok.numbers) in
    let counted = c.loop-part.invariant.counted in
    record {
      read = subst (λ ps. Each IsPart (map now (c.loop-part.yielded ++ c.in-Some.part ∷ [])) ps) (sym pushed) more;
      counted = omega (arith, c.len-left.ensures, c.len.ensures, c.if-len-left.false);
    }

pub returns-then-left-eq-MAX_NUMBERS : goal.returns-then-left-eq-MAX_NUMBERS
returns-then-left-eq-MAX_NUMBERS c = λ _ parts h.
    let chain = YieldsList-from_str_split 47 c.args.text.now (lit< tt) (cc) (cc) (cc) in
    let end = YieldsList-end chain c.loop-part.yielded _ c.loop-part.yielded_by _ _ c.in-None.is c.next.ensures.steps in
    let same = ap count (each_same IsPart part_same _ parts c.loop-part.parts h.0 (subst (λ ts. Each IsPart ts c.loop-part.parts) end.0 c.loop-part.invariant.read)) in
    none_counted _ _ _ c.loop-part.invariant.counted c.if-left-eq-MAX_NUMBERS.true same h.1

pub returns : goal.returns
returns c =
    let chain = YieldsList-from_str_split 47 c.args.text.now (lit< tt) (cc) (cc) (cc) in
    let end = YieldsList-end chain c.loop-part.yielded _ c.loop-part.yielded_by _ _ c.in-None.is c.next.ensures.steps in
    let some = some_counted _ _ c.loop-part.invariant.counted c.if-left-eq-MAX_NUMBERS.false in
    (subst (λ ts. Each IsPart ts c.loop-part.parts) end.0 c.loop-part.invariant.read, some.0, some.1)
