use Rattle.std.proofs.Common.{rules, arith, false, true, ◌∷◌}
use Rattle.std.proofs.lemmas.Int.{to_z-of_z}
use Rattle.std.specs.Int.{w64}
use Rattle.al_value.specs.declared.value.Value.TheVariants as V
use Rattle.al_value.proofs.FieldLaws.{through, reads_as, no_more_bytes, no_text}
use Rattle.al_value.proofs.field.get_tagged.Goals as goal

pub returns-in-0-clause-bad : goal.returns-in-0-clause-bad
returns-in-0-clause-bad c =
    through c.get_no_bytes.ensures.bad (no_more_bytes V.Null c.args.tag c.args.rest.now tt (omega arith) (cc))

pub returns-in-1-clause-bad : goal.returns-in-1-clause-bad
returns-in-1-clause-bad c =
    through c.get_no_bytes-in-1.ensures.bad (no_more_bytes (V.Bool false) c.args.tag c.args.rest.now tt (omega arith) (cc))

pub returns-in-2-clause-bad : goal.returns-in-2-clause-bad
returns-in-2-clause-bad c =
    through c.get_no_bytes-in-2.ensures.bad (no_more_bytes (V.Bool true) c.args.tag c.args.rest.now tt (omega arith) (cc))

pub returns-in-4-clause-bad : goal.returns-in-4-clause-bad
returns-in-4-clause-bad c = through c.get_text.ensures.bad (no_text c.args.tag c.args.rest.now (search rules))

pub returns-in-Some-clause-bad : goal.returns-in-Some-clause-bad
returns-in-Some-clause-bad c =
    let is = c.in-Some.ensures.value in
    rw (to_z-of_z w64 c.in-Some.n is.0) (reads_as (V.Int c.in-Some.n) (c.args.tag ∷ c.args.rest.now) is.0 (cc (is.1)))
