-- Whether two rows are joined.
use Rattle.std.proofs.Common.{◌≡◌, ◌+◌, ◌&&◌, ℕ, Bool, true, false, List, ◌++◌, length, sym, ap, subst, ◌∙◌}
use Rattle.std.proofs.lemmas.List.{map-append, length-append}
use Rattle.al_func.specs.Rex.{IsSound}
use Rattle.al_func.specs.declared.rex.Rex.{Rex}
use Rattle.hy_frame.specs.Row.{Fields, IsRow}
use Rattle.hy_driver.specs.Rows.{Row, value_of, values_of}
use Rattle.hy_job.specs.Columns.{are_keys_equal, holds, is_pair}
use Rattle.hy_job.specs.declared.job.JoinArg.{JoinArg}

pub values_of_both : (left right : Fields) → values_of (left ++ right) ≡ values_of left ++ values_of right
unfolding values_of
values_of_both left right = map-append value_of left right

pub reads_both : (rest : Rex) (left right out : Fields) → out ≡ left ++ right → IsSound (length left + length right) rest → IsSound (length out) rest
reads_both rest left right out is sound = subst (λ (n : ℕ). IsSound n rest) (sym (ap (λ (r : Fields). length r) is ∙ length-append left right)) sound

pub no_pair : (arg : JoinArg) (lefts rights : List ℕ) (left right : Fields) (same : Bool) → lefts ≡ arg.left → rights ≡ arg.right
    → same ≡ are_keys_equal lefts rights (values_of left) (values_of right) → same ≡ false → false ≡ is_pair arg (values_of left) (values_of right)
no_pair arg lefts rights left right same is_left is_right is differ =
    sym (ap (λ b. b && holds arg.rest (values_of left ++ values_of right)) ((λ i. are_keys_equal (sym is_left i) (sym is_right i) (values_of left) (values_of right)) ∙ sym is ∙ differ))

pub as_rest : (arg : JoinArg) (lefts rights : List ℕ) (left right out : Fields) (same b : Bool) → lefts ≡ arg.left → rights ≡ arg.right
    → same ≡ are_keys_equal lefts rights (values_of left) (values_of right) → same ≡ true → out ≡ left ++ right → b ≡ holds arg.rest (values_of out) → b ≡ is_pair arg (values_of left) (values_of right)
as_rest arg lefts rights left right out same b is_left is_right is so both rest =
    rest ∙ ap (holds arg.rest) (ap values_of both ∙ values_of_both left right)
    ∙ sym (ap (λ c. c && holds arg.rest (values_of left ++ values_of right)) ((λ i. are_keys_equal (sym is_left i) (sym is_right i) (values_of left) (values_of right)) ∙ sym is ∙ so))

pub row_of_both : (left right out : Fields) → out ≡ left ++ right → IsRow (length out) out → IsRow (length left + length right) out
row_of_both left right out is row = subst (λ (n : ℕ). IsRow n out) (ap (λ (r : Fields). length r) is ∙ length-append left right) row

pub ruleset pair_laws = (reads_both, no_pair, as_rest, row_of_both)
