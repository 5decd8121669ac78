-- Which status a number is.
use Rattle.std.proofs.Common.{◌≡◌, ◌≢◌, ℕ, refl, ◌∙◌}
use Rattle.al_query.specs.declared.status.Status.{Status}
use Rattle.al_query.specs.declared.status.Status.TheVariants as St
use Rattle.al_query.specs.Lines.{code_of}

-- 0 is done alone
pub done_alone : (s : Status) → code_of s ≡ 0 → s ≡ St.Done
done_alone St.Done e = refl
done_alone St.Usage e = absurd cc
done_alone (St.PlanRefused r) e = absurd cc
done_alone (St.DataRefused d) e = absurd cc
done_alone (St.CheckFailed name) e = absurd cc
done_alone St.SourceFault e = absurd cc
done_alone St.SinkFault e = absurd cc
done_alone St.NoMemory e = absurd cc

-- a status with another number than those of done and of a sink's fault is neither
pub is_not : (s t : Status) (n : ℕ) → n ≡ code_of s → n ≢ code_of t → s ≢ t
is_not s t n is other same = other (is ∙ (λ i. code_of (same i)))
