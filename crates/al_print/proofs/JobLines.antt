-- The lines of the stages of a job, one after the other.
use Rattle.std.proofs.Common.{◌≡◌, ℕ, suc, ◌+◌, ◌<◌, List, [], ◌∷◌, ◌++◌, take, get_or, length, refl, ap, sym, ◌∙◌, append_assoc, append-nil, arith, add-one}
use Rattle.std.proofs.Math.Seq.{take-suc}
use Rattle.std.proofs.lemmas.List.{length-take-le}
use Rattle.hy_job.specs.declared.job.Stage.{Stage}
use Rattle.al_print.specs.Jobs.{stage_line, stage_lines}

stages_append : (number : ℕ) (xs ys : List Stage) → stage_lines number (xs ++ ys) ≡ stage_lines number xs ++ stage_lines (number + length xs) ys
unfolding stage_lines
stages_append number [] ys = ap (λ n. stage_lines n ys) (omega arith)
stages_append number (x ∷ xs) ys =
    ap (λ ws. stage_line number x ++ ws) (stages_append (suc number) xs ys ∙ ap (λ n. stage_lines (suc number) xs ++ stage_lines n ys) (omega arith))
    ∙ sym (append_assoc (stage_line number x) (stage_lines (suc number) xs) (stage_lines (number + length (x ∷ xs)) ys))

one_stage : (n i : ℕ) (s : Stage) → n ≡ i → stage_lines (0 + n) (s ∷ []) ≡ stage_line i s
unfolding stage_lines
one_stage n i s e = append-nil _ ∙ ap (λ m. stage_line m s) (omega arith)

stages_next : (stages : List Stage) (i : ℕ) (d : Stage) → i < length stages → stage_lines 0 (take (i + 1) stages) ≡ stage_lines 0 (take i stages) ++ stage_line i (get_or stages i d)
stages_next stages i d h =
    ap (stage_lines 0) (rw (add-one) (take-suc stages i d h)) ∙ stages_append 0 (take i stages) (get_or stages i d ∷ [])
    ∙ ap (λ ws. stage_lines 0 (take i stages) ++ ws) (one_stage (length (take i stages)) i (get_or stages i d) (length-take-le i stages (omega arith)))

pub stages_none : (text : List ℕ) → text ≡ text ++ stage_lines 0 []
unfolding stage_lines
stages_none text = sym (append-nil text)

pub stages_kept : (stages : List Stage) (i : ℕ) (d : Stage) (first text more : List ℕ) → i < length stages → text ≡ first ++ stage_lines 0 (take i stages) → more ≡ text ++ stage_line i (get_or stages i d) → more ≡ first ++ stage_lines 0 (take (i + 1) stages)
stages_kept stages i d first text more h so next =
    next ∙ ap (λ ws. ws ++ stage_line i (get_or stages i d)) so ∙ append_assoc first (stage_lines 0 (take i stages)) (stage_line i (get_or stages i d)) ∙ ap (λ ws. first ++ ws) (sym (stages_next stages i d h))
