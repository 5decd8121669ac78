-- The laws of the two forms.
use Rattle.std.proofs.Common.{◌≡◌, ℕ, Bool, false, true≢false, List, [], ◌∷◌, ◌++◌, sym, refl, ap, ◌∙◌, subst, append_assoc, append-nil}
use Rattle.std.specs.List.Sorted.{IsPermutation}
use Rattle.std.proofs.lemmas.List.Sorted.{IsPermutation-refl, IsPermutation-trans, IsPermutation-append_right}
use Rattle.hy_rest.specs.Rest.{ThroughContinues, ThroughAlive, ThroughFinished, FinishesWithNone, RunsToEnd, Free, IsOpen, AnyOrder, InOrderContinues, FreeContinues, HeldContinues, ContinuesThen, IdleContinues, InOrderAlive, FreeAlive, HeldAlive, InOrderFinished, FreeFinished, HeldFinished, NoneIsOpen}

pub in_order_continues : {F A : Type 0} (may may' : List F → Type 0) (out out' : List F → List A → Type 0) → InOrderContinues may may' out out'
in_order_continues may may' out out' owed owed' held held' fed sent opens step = record {
  back = λ t p h.
      let q = step t h.1.rest h.0 h.1.output in
      (opens t h.0, record { rest = q.0; output = q.1; is = ap (λ x. sent ++ x) h.1.is ∙ sym q.2 });
}

pub continues_then : {F A : Type 0} (first second third : List F → List A → Type 0) → ContinuesThen first second third
continues_then first second third fed fed' sent sent' a b = record {
  back = λ t p h.
      subst (λ x. first x ((sent ++ sent') ++ p)) (sym (append_assoc fed fed' t))
      (subst (λ y. first (fed ++ (fed' ++ t)) y) (sym (append_assoc sent sent' p)) (a.back (fed' ++ t) (sent' ++ p) (b.back t p h)));
}

-- what is owed and an output, moved as the output may be
settled : {F A : Type 0} (owed : List A) (held : List F) (out : List F → List A → Type 0) (t : List F) (q p : List A) → AnyOrder out → out (held ++ t) q → IsPermutation (owed ++ q) p → Free owed held out t p
settled [] held out t q p any output all = record { rest = p; output = any (held ++ t) q p output all; among = IsPermutation-refl p; alone = λ _. refl }
settled (x ∷ xs) held out t q p any output all = record { rest = q; output = output; among = all; alone = λ e. absurd (no e) }
  where
    no : (x ∷ xs) ≡ [] → ⊥
    no e = cc

pub free_continues : {F A : Type 0} (may may' : List F → Type 0) (out out' : List F → List A → Type 0) → FreeContinues may may' out out'
free_continues may may' out out' owed owed' held held' fed sent any opens step = record {
  back = λ t p h.
      let q = step t h.1.rest h.0 h.1.output in
      let all = IsPermutation-trans (owed ++ q.0) (sent ++ (owed' ++ h.1.rest)) (sent ++ p) q.2 (IsPermutation-append_right sent (owed' ++ h.1.rest) p h.1.among) in
      (opens t h.0, settled owed held out (fed ++ t) q.0 (sent ++ p) any q.1 all);
}

pub held_continues : {F A : Type 0} (may may' stands stands' : List F → Type 0) (out out' : List F → List A → Type 0) → HeldContinues may may' stands stands' out out'
held_continues may may' stands stands' out out' owed owed' fed sent any opens step = record {
  back = λ t p h. (
    opens t h.0,
    λ held is.
        let s = step held is in
        let f = h.1 s.0 s.1 in
        let q = s.2 t f.rest h.0 f.output in
        settled owed held out (fed ++ t) q.0 (sent ++ p) any q.1 (IsPermutation-trans (owed ++ q.0) (sent ++ (owed' ++ f.rest)) (sent ++ p) q.2 (IsPermutation-append_right sent (owed' ++ f.rest) p f.among)),
  );
}

pub idle_continues : {F A : Type 0} (rest : List F → List A → Type 0) → IdleContinues rest
idle_continues rest = record { back = λ t p h. h }

-- ---- something to put

pub in_order_alive : {F A : Type 0} (may : List F → Type 0) (out : List F → List A → Type 0) → InOrderAlive may out
in_order_alive may out owed held some t h = let q = some t h in (owed ++ q.0, (h, record { rest = q.0; output = q.1; is = refl }))

-- the output behind what is owed
behind : {F A : Type 0} (owed : List A) (held : List F) (out : List F → List A → Type 0) (t : List F) (q : List A) → out (held ++ t) q → Free owed held out t (owed ++ q)
behind owed held out t q output = record { rest = q; output = output; among = IsPermutation-refl (owed ++ q); alone = λ e. ap (λ x. x ++ q) e }

pub free_alive : {F A : Type 0} (may : List F → Type 0) (out : List F → List A → Type 0) → FreeAlive may out
free_alive may out owed held some t h = let q = some t h in (owed ++ q.0, (h, behind owed held out t q.0 q.1))

pub held_alive : {F A : Type 0} (may stands : List F → Type 0) (out : List F → List A → Type 0) → HeldAlive may stands out
held_alive may stands out owed some t h = let q = some t h in (owed ++ q.0, (h, λ held is. behind owed held out t q.0 (q.1 held is)))

-- ---- nothing left

-- fewer inputs are to come
pub open_from : {A : Type 0} (ended ended' : ℕ → Bool) → ((k : ℕ) → ended' k ≡ false → ended k ≡ false) → (t : List (ℕ × A)) → IsOpen ended' t → IsOpen ended t
open_from ended ended' less [] h = tt
open_from ended ended' less (x ∷ xs) h = (less x.0 h.0, open_from ended ended' less xs h.1)

pub none_open : {A : Type 0} → NoneIsOpen A
none_open ended all [] h = refl
none_open ended all (x ∷ xs) h = absurd (true≢false (sym (all x.0) ∙ h.0))

pub in_order_finished : {F A : Type 0} (may : List F → Type 0) (out : List F → List A → Type 0) → InOrderFinished may out
in_order_finished may out may_none no_more nothing none = record {
  some = (may_none, record { rest = []; output = nothing; is = refl });
  only = λ t p h.
      let e = no_more t h.0 in
      (e, h.1.is ∙ none h.1.rest (subst (λ l. out l h.1.rest) e h.1.output));
}

pub free_finished : {F A : Type 0} (may : List F → Type 0) (out : List F → List A → Type 0) → FreeFinished may out
free_finished may out may_none no_more nothing none = record {
  some = (may_none, behind [] [] out [] [] nothing);
  only = λ t p h.
      let e = no_more t h.0 in
      (e, h.1.alone refl ∙ none h.1.rest (subst (λ l. out l h.1.rest) e h.1.output));
}

pub held_finished : {F A : Type 0} (may stands : List F → Type 0) (out : List F → List A → Type 0) → HeldFinished may stands out
held_finished may stands out may_none no_more one each = record {
  some = (may_none, λ held is. behind [] held out [] [] (subst (λ l. out l []) (sym (append-nil held)) (each held is).0));
  only = λ t p h.
      let e = no_more t h.0 in
      let f = h.1 one.0 one.1 in
      (e, f.alone refl ∙ (each one.0 one.1).1 f.rest (subst (λ l. out l f.rest) (ap (λ x. one.0 ++ x) e ∙ append-nil one.0) f.output));
}

pub finishes_with_none : {F A : Type 0} (rest : List F → List A → Type 0) → FinishesWithNone rest
finishes_with_none rest = (λ f. record { some = f.some; only = f.only }, λ f. record { some = f.some; only = f.only })

pub runs_to_end : {F A : Type 0} (first final : List F → List A → Type 0) → RunsToEnd first final
runs_to_end first final took put last goes_on ends = subst (λ t. first t (put ++ last)) (append-nil took) (goes_on.back [] last ends.some)

-- ---- what goes through others

pub through_continues : {F G B A : Type 0} (into into' : List F → List G) (works works' : List G → List B → Type 0) (out out' : List B → List A → Type 0) → ThroughContinues into into' works works' out out'
through_continues into into' works works' out out' fed given gave sent feeds goes_on puts = record {
  back = λ t p h. record {
    made = gave ++ h.made;
    works_on = subst (λ g. works g (gave ++ h.made)) (sym (feeds t)) (goes_on.back (into' t) h.made h.works_on);
    puts = puts h.made p h.puts;
  };
}

pub through_alive : {F G B A : Type 0} (may : List F → Type 0) (may_work : List G → Type 0) (into : List F → List G) (works : List G → List B → Type 0) (out : List B → List A → Type 0) → ThroughAlive may may_work into works out
through_alive may may_work into works out comes alive all t h =
    let made = alive (into t) (comes t h) in
    let put = all made.0 in
    (put.0, record { made = made.0; works_on = made.1; puts = put.1 })

pub through_finished : {F G B A : Type 0} (into : List F → List G) (works : List G → List B → Type 0) (out : List B → List A → Type 0) → ThroughFinished into works out
through_finished into works out last put none only_none ends puts one = record {
  some = record { made = last; works_on = subst (λ g. works g last) (sym none) ends.some; puts = puts };
  only = λ t p h.
      let e = ends.only (into t) h.made h.works_on in
      (only_none t e.0, one p (subst (λ m. out m p) e.1 h.puts));
}
