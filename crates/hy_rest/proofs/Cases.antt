-- The worked cases.
use Rattle.std.proofs.Common.{◌≡◌, ◌+◌, ℕ, true, false, List, [], ◌∷◌, ◌++◌, map, sym, refl, ap, ◌∙◌, subst, arith}
use Rattle.std.specs.List.Sorted.{IsPermutation}
use Rattle.std.proofs.lemmas.List.Sorted.{IsPermutation-refl}
use Rattle.hy_rest.specs.Rest.{InOrder, Free, Continues}
use Rattle.hy_rest.specs.Words.{Open, Close, WriterWord}
use Rattle.hy_rest.specs.Cases.{tens, InOrderStands, FreeMoves, FreeStands, SendIsOwed, FeedIsHeld, EndedStaysAway, AliveHasSome, FinishedOwesNone, PassesThrough, WordsBegin, WordsGoOn}

differ : {x y : ℕ} {xs ys : List ℕ} → (x ≡ y → ⊥) → (x ∷ xs) ≡ (y ∷ ys) → ⊥
differ n e = n (head e)
  where
    head : {x y : ℕ} {xs ys : List ℕ} → (x ∷ xs) ≡ (y ∷ ys) → x ≡ y
    head e = cc

no_cons : {x : ℕ} {xs : List ℕ} → (x ∷ xs) ≡ [] → ⊥
no_cons e = cc

pub in_order_stands : InOrderStands
in_order_stands put = (λ h. h.is ∙ ap (λ r. 1 ∷ r) h.output, λ e. record { rest = 12 ∷ 13 ∷ []; output = refl; is = e })

pub free_moves : FreeMoves
free_moves put = (λ h. subst (λ r. IsPermutation (1 ∷ r) put) h.output h.among, λ m. record { rest = 12 ∷ 13 ∷ []; output = refl; among = m; alone = λ e. absurd (no_cons e) })

stands : (put : List ℕ) → put ≡ 12 ∷ 13 ∷ [] → Free [] (2 ∷ []) tens (3 ∷ []) put
stands put e = record { rest = 12 ∷ 13 ∷ []; output = refl; among = subst (IsPermutation (12 ∷ 13 ∷ [])) (sym e) (IsPermutation-refl (12 ∷ 13 ∷ [])); alone = λ _. e }

pub free_stands : FreeStands
free_stands = (
  λ put. (λ h. h.alone refl ∙ h.output, stands put),
  λ put. (λ h. (h (2 ∷ []) refl).alone refl ∙ (h (2 ∷ []) refl).output, λ e held is. subst (λ k. Free [] k tens (3 ∷ []) put) (sym is) (stands put e)),
  λ put h.
      let some = h [] tt in
      let other = h (2 ∷ []) tt in
      differ (λ e. omega (arith, e)) (sym (some.alone refl ∙ some.output) ∙ (other.alone refl ∙ other.output)),
)

step : {owed owed' : List ℕ} {fed held' sent : List ℕ} → ((took : List ℕ) → owed ++ map (λ x. x + 10) (fed ++ took) ≡ sent ++ (owed' ++ map (λ x. x + 10) (held' ++ took)))
    → Continues (InOrder owed [] tens) fed sent (InOrder owed' held' tens)
step {owed} {owed'} {fed} {held'} {sent} is = record {
  back = λ took put h. record { rest = map (λ x. x + 10) (fed ++ took); output = refl; is = ap (λ x. sent ++ x) (h.is ∙ ap (λ r. owed' ++ r) h.output) ∙ sym (is took) };
}

pub send_is_owed : SendIsOwed
send_is_owed = (
  step (λ took. refl),
  λ c. let h = c.back [] [] (record { rest = []; output = refl; is = refl }) in differ (λ e. omega (arith, e)) h.is,
  λ c. let h = c.back [] [] (record { rest = []; output = refl; is = refl }) in no_cons (sym h.is),
)

pub feed_is_held : FeedIsHeld
feed_is_held = (
  step (λ took. refl),
  step (λ took. refl),
  λ c. let h = c.back [] (15 ∷ []) (record { rest = 15 ∷ []; output = refl; is = refl }) in no_cons (h.is ∙ h.output),
)

pub ended_stays_away : EndedStaysAway
ended_stays_away = ((refl, (refl, tt)), λ h. no h.1.0)
  where
    no : true ≡ false → ⊥
    no e = cc

pub alive_has_some : AliveHasSome
alive_has_some = (
  λ took may. (1 ∷ 12 ∷ map (λ x. x + 10) took, record { rest = 12 ∷ map (λ x. x + 10) took; output = refl; is = refl }),
  λ all. no_cons (all (1 ∷ []) tt).1,
)

pub finished_owes_none : FinishedOwesNone
finished_owes_none = (
  record { some = (refl, record { rest = []; output = refl; is = refl }); only = λ took put h. (h.0, h.1.is ∙ (h.1.output ∙ ap (map (λ x. x + 10)) h.0)) },
  λ f. no_cons (sym f.some.1.is),
  λ f. no_cons (f.only (1 ∷ []) (11 ∷ []) (record { rest = 11 ∷ []; output = refl; is = refl })).0,
  λ f. f.some,
  record { some = (refl, record { rest = []; output = refl; is = refl }); only = λ took put h. (h.0, h.1.is ∙ ap (λ r. 1 ∷ r) (h.1.output ∙ ap (map (λ x. x + 10)) h.0)) },
)

pub passes_through : PassesThrough
passes_through put = (
  λ h. h.puts ∙ ap (λ r. 7 ∷ r) (h.works_on.is ∙ ap (λ r. 1 ∷ r) h.works_on.output),
  λ e. record { made = 1 ∷ 15 ∷ 13 ∷ []; works_on = record { rest = 15 ∷ 13 ∷ []; output = refl; is = refl }; puts = e },
)

pub words_begin : WordsBegin
unfolding WriterWord
words_begin = (tt, λ h. h, λ h. h, λ h. h)

pub words_go_on : WordsGoOn
unfolding WriterWord
words_go_on = ((Open ∷ Close ∷ [], tt), (Close ∷ [], tt), λ h. h.1, refl)
