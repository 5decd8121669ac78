-- The turns that a driver keeps for asking and for ending, behind those for its rows.
use Rattle.std.proofs.Common.{◌≢◌, ◌<◌, ◌≤◌, ◌+◌, ℕ, refl, arith}
use Rattle.hy_driver.specs.Seen.{turns_in}
use Rattle.hy_driver.specs.declared.phase.Phase.{Phase}
use Rattle.hy_driver.specs.declared.phase.Phase.TheVariants.{Working, Hungry, Ended, GivenUp}

pub turns_asking : (phase : Phase) → phase ≢ GivenUp → phase ≢ Ended → (turns_in Hungry ≤ turns_in phase) × (phase ≢ Hungry → turns_in Hungry < turns_in phase)
turns_asking Working going some = (omega arith, λ h. omega arith)
turns_asking Hungry going some = (omega arith, λ h. absurd (h refl))
turns_asking Ended going some = absurd (some refl)
turns_asking GivenUp going some = absurd (going refl)

pub turns_ending : (phase : Phase) → phase ≢ GivenUp → (turns_in Ended ≤ turns_in phase) × (phase ≢ Ended → turns_in Ended < turns_in phase)
turns_ending Working going = (omega arith, λ h. omega arith)
turns_ending Hungry going = (omega arith, λ h. omega arith)
turns_ending Ended going = (omega arith, λ h. absurd (h refl))
turns_ending GivenUp going = absurd (going refl)

-- beside those for its rows
pub beside : (n : ℕ) {P : Type 0} {a b : ℕ} → (a ≤ b) × (P → a < b) → (n + a ≤ n + b) × (P → n + a < n + b)
beside n {P} {a} {b} h = (omega (arith, h.0), λ p. let less : a < b = h.1 p in omega (arith, less))
