-- The last rule of the set.
use Rattle.std.proofs.Common.{◌≡◌, ◌≢◌, ℕ, zero, suc, refl}
use Rattle.al_rule.specs.declared.names.RuleName.TheVariants as N
use Rattle.al_rules_join.specs.JoinSet.{join_name}

pub last_name : (k : ℕ) → k ≢ 0 → k ≢ 1 → k ≢ 2 → k ≢ 3 → join_name k ≡ N.LeftJoinCondRight
last_name zero a b c d = absurd (a refl)
last_name (suc zero) a b c d = absurd (b refl)
last_name (suc (suc zero)) a b c d = absurd (c refl)
last_name (suc (suc (suc zero))) a b c d = absurd (d refl)
last_name (suc (suc (suc (suc k)))) a b c d = refl
