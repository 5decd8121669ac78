-- How calls of a driver are put together.
use Rattle.std.proofs.Common.{◌≡◌, ◌+◌, ◌==◌, ◌||◌, Bool, true, false, true≢false, List, [], ◌∷◌, ◌++◌, map, Option, Some, None, refl, sym, ap, subst, ◌∙◌, append_assoc, append-nil, add-zero, ◌≤◌, arith}
use Rattle.hy_rest.proofs.Rest.{continues_then}
use Rattle.hy_driver.specs.Rows.{Row, Fed}
use Rattle.hy_driver.specs.Seen.{Check, Seen}
use Rattle.hy_driver.specs.Forms.{may_come}
use Rattle.hy_driver.specs.Steps.{MayCome, Pass, Tested}
use Rattle.hy_driver.specs.Laws.{FedComes, EndedComes, TurnedComes, ComesThen, StepsThen, NoneComes, LentAgain, WholeRun}
use Rattle.hy_driver.proofs.Forms.{EndsMore, come_from, none_comes}

-- what comes is as wide as before
comes_as_wide : (old new : Seen) → new.fixed ≡ old.fixed → EndsMore old.ended new.ended → (took : List Fed) → MayCome new took → MayCome old took
comes_as_wide old new fixed less took h =
    come_from old.ended new.ended old.fixed.width less took (subst (λ f. may_come new.ended f.width took) fixed h)

pub turned_comes : (old new : Seen) → TurnedComes old new
turned_comes old new ended fixed took h = comes_as_wide old new fixed (λ k e. sym (ended k) ∙ e) took h

pub fed_comes : (old new : Seen) → FedComes old new
fed_comes old new fed ended fixed may took h = (may, turned_comes old new ended fixed took h)

pub ended_comes : (old new : Seen) → EndedComes old new
ended_comes old new input ended fixed took h = comes_as_wide old new fixed (λ k e. open_before (k == input) (old.ended k) (sym (ended k) ∙ e)) took h
  where
    open_before : (a b : Bool) → (a || b) ≡ false → b ≡ false
    open_before false b e = e
    open_before true b e = absurd (true≢false e)

pub comes_then : (first second third : Seen) → ComesThen first second third
comes_then first second third fed fed' a b took h = subst (MayCome first) (sym (append_assoc fed fed' took)) (a (fed' ++ took) (b took h))

pub none_come : (s : Seen) → NoneComes s
none_come s = none_comes s.ended s.fixed.width

passes_both : (check : Option Check) (rows more : List Row) → Pass check rows → Pass check more → Pass check (rows ++ more)
passes_both None rows more p q = tt
passes_both (Some check) [] more p q = q
passes_both (Some check) (row ∷ rows) more p q = (p.0, passes_both (Some check) rows more p.1 q)

tested_then : (check : Option Check) (before between after fed fed' : List Row) → Tested check (before ++ fed) between → Tested check (between ++ fed') after → Tested check (before ++ (fed ++ fed')) after
tested_then check before between after fed fed' a b = (
  a.0 ++ b.0,
  sym (append_assoc before fed fed') ∙ (ap (λ r. r ++ fed') a.1 ∙ (append_assoc a.0 between fed' ∙ (ap (λ r. a.0 ++ r) b.1 ∙ sym (append_assoc a.0 b.0 after)))),
  passes_both check a.0 b.0 a.2 b.2,
)

rows_of_both : (fed fed' : List Fed) → map (λ x. x.1) (fed ++ fed') ≡ map (λ x. x.1) fed ++ map (λ x. x.1) fed'
rows_of_both [] fed' = refl
rows_of_both (x ∷ fed) fed' = ap (λ r. x.1 ∷ r) (rows_of_both fed fed')

pub steps_then : (first second third : Seen) → StepsThen first second third
steps_then first second third fed fed' sent sent' fixed comes a b = record {
  sound = λ h. b.sound (a.sound h);
  rest = λ h. continues_then first.rest second.rest third.rest fed fed' sent sent' (a.rest h) (b.rest (a.sound h));
  alive = λ h. b.alive (a.sound h);
  makes = λ h took may.
      b.makes (a.sound h) took may ∙ (a.makes h (fed' ++ took) (comes took may) ∙ ap (λ t. first.store.runs.made + first.makes t) (sym (append_assoc fed fed' took)));
  tested = subst (λ r. Tested first.fixed.check (first.untested ++ r) third.untested) (sym (rows_of_both fed fed'))
      (tested_then first.fixed.check first.untested second.untested third.untested (map (λ x. x.1) fed) (map (λ x. x.1) fed')
      a.tested (subst (λ f. Tested f.check (second.untested ++ map (λ x. x.1) fed') third.untested) fixed b.tested));
  served = b.served ∙ a.served;
}

pub whole_run : (first last : Seen) (out : List Fed → List Row → Type 0) → WholeRun first last out
whole_run first last out fed sent new sound steps over =
    let put = subst (λ t. first.rest t (sent ++ last.hands_on)) (append-nil fed) ((steps.rest sound).back [] last.hands_on over.finished.some) in
    let runs : last.store.runs.made + last.makes [] ≡ first.store.runs.made + first.makes (fed ++ []) = steps.makes sound [] tt in (
      ((new.rest sound fed (sent ++ last.hands_on)).0 put).1,
      sym (add-zero last.store.runs.made) ∙ (ap (λ n. last.store.runs.made + n) (sym over.makes) ∙ (runs ∙ ap (λ t. first.store.runs.made + first.makes t) (append-nil fed))),
    )

pub lent_again : (old new : Seen) → LentAgain old new
lent_again old new bank bank' fixed lent of =
    let frames : old.frames ≤ bank.out = of.out in
    let out : bank'.out + old.frames ≡ bank.out + new.frames = lent.out in
    let limit : bank'.limit ≡ bank.limit = lent.limit in (
      record { unit = lent.unit ∙ (of.unit ∙ ap (λ f. f.unit) (sym fixed)); out = omega (arith, frames, out) },
      λ room.
          let memory : new.fixed.memory ≡ old.fixed.memory = ap (λ f. f.memory) fixed in
          let enough : bank.out + (old.fixed.memory + 1) ≤ bank.limit + old.frames = room in
          omega (arith, out, limit, memory, enough),
    )
