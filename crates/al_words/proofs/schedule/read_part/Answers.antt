use Rattle.std.proofs.Common.{◌==◌, ◌++◌, ◌∷◌, [], sym, subst, length, map, lit<}
use Rattle.std.specs.List.{slice_split}
use Rattle.std.proofs.lemmas.Iterator.Consumers.{YieldsList-end, YieldsList-so_far, YieldsList-turn}
use Rattle.std.proofs.lemmas.Iterator.Splits.{YieldsList-from_str_split}
use Rattle.al_words.specs.Words.{Each, IsNumber}
use Rattle.al_words.proofs.Schedules.{all_items, each_in, each_more, now, part_from, part_to}
use Rattle.al_words.proofs.schedule.read_part.Goals as goal

pub returns-in_default : goal.returns-in_default
returns-in_default c = λ _ ns h.
    let all = slice_split (λ b. b == 44) c.args.text.now in
    let items = c.loop-number.yielded in
    let chain = YieldsList-from_str_split 44 c.args.text.now (lit< tt) (cc) (cc) (cc) in
    let so_far = YieldsList-so_far chain items _ c.loop-number.yielded_by in
    let turn = YieldsList-turn chain items _ c.loop-number.yielded_by _ _ c.in-Some.number c.in-Some.is c.next.ensures.steps in
    let split = all_items all (map now items) (length items) c.in-Some.number.now so_far turn in
    each_in (IsNumber 0 4294967295) (map now items) c.in-Some.number.now _ ns
    (subst (λ ts. Each (IsNumber 0 4294967295) ts ns) split (part_to c.args.text.now ns c.if-is_empty.ensures h)) c.in_default.ensures

pub loop-number-preserved : goal.loop-number-preserved
loop-number-preserved c =
    let more = each_more (IsNumber 0 4294967295) c.loop-number.yielded c.in-Some.number c.loop-number.numbers c.in-Some-read_number.number c.loop-number.invariant
    c.in-Some-read_number.ensures in
    subst (λ ns. Each (IsNumber 0 4294967295) (map now (c.loop-number.yielded ++ c.in-Some.number ∷ [])) ns) (sym c.in-Ok.ensures.ok) more

pub returns : goal.returns
returns c =
    let end = YieldsList-end (YieldsList-from_str_split 44 c.args.text.now (lit< tt) (cc) (cc) (cc)) c.loop-number.yielded _ c.loop-number.yielded_by _ _ c.in-None.is c.next.ensures.steps in
    part_from c.args.text.now c.loop-number.numbers c.if-is_empty.ensures
    (subst (λ ts. Each (IsNumber 0 4294967295) ts c.loop-number.numbers) end.0 c.loop-number.invariant)
