-- The nested plan of a job's subplan is sound for the rows that the subplan takes.
use Rattle.std.proofs.Common.{◌≡◌, ◌<◌, ◌+◌, ◌-◌, ℕ, true, length, get_or, sym, subst, ap, ◌∙◌, arith}
use Rattle.hy_job.specs.declared.nested.NestedPlan.{NestedPlan}
use Rattle.hy_job.specs.declared.job.Kind.{Kind}
use Rattle.hy_job.specs.declared.job.Kind.TheVariants as K
use Rattle.hy_job.specs.declared.job.Activity.{Activity}
use Rattle.hy_job.specs.declared.job.Job.{Job}
use Rattle.hy_job.specs.Nested.{n_width}
use Rattle.hy_job.specs.Sound.{SoundJob, SoundNested, is_aggregate, HasArity, HasSoundNested, widths_of}
use Rattle.hy_job.proofs.RowLaws.{at_place}

pub subplan_sound : (job : Job) → SoundJob job → (i : ℕ) (a : Activity) (n : NestedPlan) (made : ℕ) → i < length job.activities → a ≡ get_or job.activities i a → a.kind ≡ K.Subplan n → ((width : ℕ) → is_aggregate n ≡ true → n_width n width ≡ made) → SoundNested n (a.arity - made)
subplan_sound job sound i a n made low at kind counts =
    let w = widths_of job a.number in
    let nested : SoundNested n (w.taken 0) = subst (λ (k : Kind). HasSoundNested k w) kind (at_place (λ (b : Activity). HasSoundNested b.kind (widths_of job b.number)) job.activities i a low at sound.nested) in
    let arity : a.arity ≡ w.taken 0 + n_width n (w.taken 0) = subst (λ (k : Kind). HasArity k w a.arity) kind (at_place (λ (b : Activity). HasArity b.kind (widths_of job b.number) b.arity) job.activities i a low at sound.arities) in
    let same : w.taken 0 ≡ a.arity - made = omega (arith, arity, counts (w.taken 0) nested.root) in
    subst (SoundNested n) same nested
