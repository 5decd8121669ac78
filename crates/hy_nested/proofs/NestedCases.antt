-- The worked cases of running nested plans.
use Rattle.std.proofs.Common.{◌≡◌, ℕ, [], refl, arith}
use Rattle.std.proofs.lemmas.List.Sorted.{IsPermutation-refl}
use Rattle.std.specs.Int.{int_wrap}
use Rattle.al_func.specs.declared.rex.Rex.TheVariants as R
use Rattle.al_func.specs.Rex.{IsSound}
use Rattle.al_func.proofs.RexLaws.{column_below, is_sound_laws}
use Rattle.al_agg.specs.Agg.{agg}
use Rattle.hy_job.specs.Cases.{counting}
use Rattle.hy_job.specs.Sound.{SoundNested}
use Rattle.hy_nested.specs.Opens.{nested_shape, nested_hidden, row_hidden}
use Rattle.hy_nested.specs.Cases.{CountingFits, NarrowRowsFail, NoneAreCounted, NoRowsFit, RootIsAggregate, UnevenRowsFail}

sound_two : SoundNested counting 2
unfolding nested_shape nested_hidden row_hidden
sound_two = record { root = refl; each = (tt, (tt, ((column_one, tt), tt))) }
  where
    column_one : IsSound 2 (R.Col 1)
    column_one = simp is_sound_laws

-- it reads the second value
reads_second : (width : ℕ) → SoundNested counting width → 1 ≡ width → ⊥
unfolding nested_shape nested_hidden row_hidden
reads_second width sound same = absurd (omega (arith, column_below width 1 (R.Col 1) refl sound.each.1.1.0.0, same))

pub counting_fits : CountingFits
counting_fits = (2, (refl, (refl, tt)), sound_two)

pub narrow_fail : NarrowRowsFail
narrow_fail h = reads_second h.0 h.2 h.1.0

pub uneven_fail : UnevenRowsFail
uneven_fail h = absurd (omega (arith, h.1.0, h.1.1.0))

pub root_fails : RootIsAggregate
unfolding nested_shape nested_hidden row_hidden
root_fails h = let e = h.2.root in cc

pub no_rows_fit : NoRowsFit
no_rows_fit = (2, tt, sound_two)

pub none_counted : NoneAreCounted
unfolding nested_shape nested_hidden row_hidden agg int_wrap
none_counted = (([], IsPermutation-refl [], refl), λ h. absurd (cc (h.2)))
