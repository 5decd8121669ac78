-- The old keys of a group, each once.
use Rattle.std.proofs.Common.{◌≡◌, ◌<◌, ◌+◌, ℕ, List, [], ◌∷◌, ◌++◌, map, take, length, get_or, refl, ap, sym, ◌∙◌, arith, add-one}
use Rattle.std.proofs.Math.Seq.{take-suc}
use Rattle.std.proofs.lemmas.List.{map-append, length-map}
use Rattle.std.specs.Prelude.{if◌then◌else◌}
use Rattle.al_plan.specs.declared.expr.Var.{Var}
use Rattle.al_plan.specs.Eval.{Bytes}
use Rattle.al_plan.specs.Allows.{is_among}
use Rattle.al_plan.specs.Uses.{firsts, named, with_name, with_names}
use Rattle.al_plan.proofs.UsesLaws.{with_names_append, with_names_one, with_names_none, gathered_all}

pub name_behind : (vars : List Var) (q : Bytes) → with_name vars q ≡ (if is_among vars q then vars else vars ++ named q ∷ [])
unfolding with_name
name_behind vars q = refl

-- one variable more
pub name_next : (once next vars : List Var) (i : ℕ) (d : Var) → i < length vars → once ≡ with_names [] (map (λ v. v.name) (take i vars)) → next ≡ with_name once (get_or vars i d).name
    → next ≡ with_names [] (map (λ v. v.name) (take (i + 1) vars))
name_next once next vars i d h m n =
    let v = get_or vars i d in
    let names = map (λ (v : Var). v.name) (take i vars) in
    let all : map (λ (v : Var). v.name) (take (i + 1) vars) ≡ names ++ v.name ∷ [] = rw (add-one, take-suc vars i d h, map-append (λ (v : Var). v.name) (take i vars) (v ∷ [])) refl in
    n ∙ ap (λ vs. with_name vs v.name) m ∙ sym (with_names_one (with_names [] names) v.name) ∙ sym (with_names_append [] names (v.name ∷ [])) ∙ ap (with_names []) (sym all)

-- no variable
pub name_none : [] ≡ with_names [] []
name_none = sym (with_names_none [])

-- as many as are different
pub names_count : (qs : List Bytes) → length (with_names [] qs) ≡ length (firsts qs)
names_count qs = ap length (gathered_all qs) ∙ length-map (firsts qs) named
