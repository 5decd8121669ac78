use Rattle.std.proofs.Common.{arith, rules}
use Rattle.hy_mail_tests.proofs.ClosedLaws.{first_closes, one_more, second_closes}
use Rattle.hy_mail_tests.proofs.threads.take_one.Goals as goal

pub returns-in-Frame-clause-closed : goal.returns-in-Frame-clause-closed
returns-in-Frame-clause-closed g c = one_more _ _ c.in-Some.sender c.in-Some.parcel _ _ c.in-Some.ensures.0 c.requires.closed

pub returns-in-Open-clause-closed : goal.returns-in-Open-clause-closed
returns-in-Open-clause-closed g c = one_more _ _ c.in-Some.sender c.in-Some.parcel _ _ c.in-Some.ensures.0 c.requires.closed

pub returns-in-Close-clause-closed : goal.returns-in-Close-clause-closed
returns-in-Close-clause-closed g c = first_closes _ _ c.in-Some.sender c.in-Some.parcel _ _ c.in-Some.ensures.0 (search rules) (search rules) c.requires.closed

pub returns-in-Close-2-clause-closed : goal.returns-in-Close-2-clause-closed
returns-in-Close-2-clause-closed g c = second_closes _ _ c.in-Some.sender c.in-Some.parcel _ _ c.in-Some.ensures.0 (let low = c.in-Some.ensures.1 in omega arith) (search rules) c.requires.closed
