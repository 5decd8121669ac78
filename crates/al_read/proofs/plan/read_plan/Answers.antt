use Rattle.std.proofs.Common.{ℕ, ap}
use Rattle.al_plan.specs.declared.file.RefusedKind.TheVariants as kind
use Rattle.al_read.specs.Reads.{utf8, token, refusal}
use Rattle.al_read.proofs.PlanReads.{given}
use Rattle.al_read.proofs.plan.read_plan.Goals as goal

pub returns-in-Ok : goal.returns-in-Ok
returns-in-Ok c = given c.args.bytes.now c.as_slice.result.now c.file_of.result (rw c.as_slice.ensures c.in-Ok.ensures) c.file_of.ensures

pub returns-in-Err-Utf8 : goal.returns-in-Err-Utf8
returns-in-Err-Utf8 c =
    let h = rw c.in-Err-Utf8.field-0-is at c.in-Err-Utf8.ensures in
    rw c.refused-in-Err-Utf8.ensures (utf8 h.0 h.1 c.in-Err-Utf8.at h.2 (ap (λ (n : ℕ). refusal kind.Utf8 n) c.in-Err-Utf8.at-is))

pub returns-in-Err-Token : goal.returns-in-Err-Token
returns-in-Err-Token c =
    let h = rw c.in-Err-Token.field-0-is at c.in-Err-Token.ensures in
    rw c.refused-in-Err-Token.ensures (token h.0 c.in-Err-Token.at h.1 (ap (λ (n : ℕ). refusal kind.Token n) c.in-Err-Token.at-is))
