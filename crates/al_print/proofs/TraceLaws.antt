-- Pieces of a step's line, put one after the other.
use Rattle.std.proofs.Common.{◌≡◌, ℕ, suc, ◌+◌, ◌<◌, List, [], ◌∷◌, ◌++◌, codes, decimal, take, get_or, length, refl, ap, sym, ◌∙◌, Result, Ok, Err, OnOk, append_assoc, append-nil, arith, add-one}
use Rattle.std.proofs.Math.Seq.{take-suc}
use Rattle.std.proofs.lemmas.List.{length-take-le}
use Rattle.al_rule.specs.declared.trace.TraceStep.{TraceStep}
use Rattle.al_print.specs.Traces.{set_word, rule_word, place_word, step_line, step_lines}

onto : (t u v x y : List ℕ) → u ≡ t ++ x → v ≡ u ++ y → v ≡ t ++ (x ++ y)
onto t u v x y h k = k ∙ ap (λ ws. ws ++ y) h ∙ append_assoc t x y

on_ok : {T E : Type 0} (r : Result T E) (P Q : Type 0) → (P → Q) → OnOk r P → OnOk r Q
on_ok (Ok x) P Q f h = f h
on_ok (Err e) P Q f h = h

pub step_of : {T E : Type 0} (r : Result T E) (number : ℕ) (s : TraceStep) (t0 t1 t2 t3 t4 t5 t6 t7 t8 : List ℕ)
    → t1 ≡ t0 ++ decimal number → t2 ≡ t1 ++ codes " " → t3 ≡ t2 ++ set_word s.set → t4 ≡ t3 ++ codes " " → t5 ≡ t4 ++ rule_word s.rule → t6 ≡ t5 ++ codes " " → t7 ≡ t6 ++ place_word s.place.children
    → OnOk r (t8 ≡ t7 ++ codes "\n") → OnOk r (t8 ≡ t0 ++ step_line number s)
step_of r number s t0 t1 t2 t3 t4 t5 t6 t7 t8 h1 h2 h3 h4 h5 h6 h7 h8 =
    on_ok r (t8 ≡ t7 ++ codes "\n") (t8 ≡ t0 ++ step_line number s)
    (λ h. onto t0 t1 t8 _ _ h1 (onto t1 t2 t8 _ _ h2 (onto t2 t3 t8 _ _ h3 (onto t3 t4 t8 _ _ h4 (onto t4 t5 t8 _ _ h5 (onto t5 t6 t8 _ _ h6 (onto t6 t7 t8 _ _ h7 h))))))) h8

pub lines_append : (before : ℕ) (xs ys : List TraceStep) → step_lines before (xs ++ ys) ≡ step_lines before xs ++ step_lines (before + length xs) ys
unfolding step_lines
lines_append before [] ys = ap (λ n. step_lines n ys) (omega arith)
lines_append before (x ∷ xs) ys = ap (λ ws. step_line (suc before) x ++ ws) (lines_append (suc before) xs ys ∙ ap (λ n. step_lines (suc before) xs ++ step_lines n ys) (omega arith)) ∙ sym (append_assoc (step_line (suc before) x) (step_lines (suc before) xs) (step_lines (before + length (x ∷ xs)) ys))

one_line : (n i : ℕ) (s : TraceStep) → n ≡ i → step_lines (0 + n) (s ∷ []) ≡ step_line (i + 1) s
unfolding step_lines
one_line n i s e = append-nil _ ∙ ap (λ m. step_line m s) (omega arith)

pub lines_next : (steps : List TraceStep) (i : ℕ) (d : TraceStep) → i < length steps → step_lines 0 (take (i + 1) steps) ≡ step_lines 0 (take i steps) ++ step_line (i + 1) (get_or steps i d)
lines_next steps i d h =
    ap (step_lines 0) (rw (add-one) (take-suc steps i d h)) ∙ lines_append 0 (take i steps) (get_or steps i d ∷ []) ∙ ap (λ ws. step_lines 0 (take i steps) ++ ws) (one_line (length (take i steps)) i (get_or steps i d) (length-take-le i steps (omega arith)))

pub lines_none : (text : List ℕ) → text ≡ text ++ step_lines 0 []
unfolding step_lines
lines_none text = sym (append-nil text)

pub lines_kept : (steps : List TraceStep) (i : ℕ) (d : TraceStep) (first text more : List ℕ) → i < length steps → text ≡ first ++ step_lines 0 (take i steps) → more ≡ text ++ step_line (i + 1) (get_or steps i d) → more ≡ first ++ step_lines 0 (take (i + 1) steps)
lines_kept steps i d first text more h so next = onto first text more _ _ so next ∙ ap (λ ws. first ++ ws) (sym (lines_next steps i d h))
