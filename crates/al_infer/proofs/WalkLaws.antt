-- The first refusal of a plan, put together from its inputs and its operator.
use Rattle.std.proofs.Common.{◌≡◌, ℕ, suc, ◌+◌, true, List, [], ◌∷◌, ◌++◌, Option, Some, None, Result, Ok, Err, refl, ap, sym, subst, ◌∙◌, append_assoc}
use Rattle.std.specs.Result.{IsErrAnd}
use Rattle.al_plan.specs.declared.expr.Var.{Var}
use Rattle.al_plan.specs.declared.plan.Plan.{Plan, out-Plan}
use Rattle.al_csv.specs.declared.decl.Decl.{Decl}
use Rattle.al_plan.specs.declared.file.Refused.{Refused}
use Rattle.al_plan.specs.declared.file.RefusedKind.{RefusedKind}
use Rattle.al_plan.specs.Allows.{live}
use Rattle.al_plan.specs.Refines.{makes}
use Rattle.al_plan.specs.Accept.{Site, or_else, refused_at, place_at, broken, site_refusal, sites, made_by, size}
use Rattle.al_infer.specs.declared.live.Seen.{Seen}
use Rattle.al_infer.specs.declared.walk.Spot.{Spot}
use Rattle.al_infer.specs.declared.walk.Stopped.{Stopped}
use Rattle.al_infer.specs.declared.walk.Stopped.TheVariants as S
use Rattle.al_infer.specs.Inputs.{One, Two, Nesting, parts, left_live, right_live, Sees, inner_makes, inner_sites}
use Rattle.al_infer.specs.Walk.{site_of, inner_at, sites_at, TellsStop, TellsInputs, TellsPlan, TellsOperator}
use Rattle.al_infer.proofs.InputLaws.{sites_by, makes_by}

or_else-assoc : {A : Type 0} (a b c : Option A) → or_else (or_else a b) c ≡ or_else a (or_else b c)
or_else-assoc None b c = refl
or_else-assoc (Some x) b c = refl

module _ (decls : List Decl) (places : List ℕ) where
  pub refusal-append : (xs ys : List Site) → site_refusal decls places (xs ++ ys) ≡ or_else (site_refusal decls places xs) (site_refusal decls places ys)
  refusal-append [] ys = refl
  refusal-append (s ∷ xs) ys =
      let own = refused_at (place_at places s.number) (broken decls s) in
      ap (or_else own) (refusal-append xs ys) ∙ sym (or_else-assoc own (site_refusal decls places xs) (site_refusal decls places ys))

  pub none_both : (xs ys : List Site) → site_refusal decls places xs ≡ None → site_refusal decls places ys ≡ None → site_refusal decls places (xs ++ ys) ≡ None
  none_both xs ys h g = refusal-append xs ys ∙ ap (λ r. or_else r (site_refusal decls places ys)) h ∙ g

  pub stops_first : (xs ys : List Site) (stop : Stopped) → TellsStop decls places xs stop → TellsStop decls places (xs ++ ys) stop
  stops_first xs ys (S.Refused r) h = refusal-append xs ys ∙ ap (λ o. or_else o (site_refusal decls places ys)) h
  stops_first xs ys S.NoMemory h = tt

  pub stops_second : (xs ys : List Site) (stop : Stopped) → site_refusal decls places xs ≡ None → TellsStop decls places ys stop → TellsStop decls places (xs ++ ys) stop
  stops_second xs ys (S.Refused r) n h = refusal-append xs ys ∙ ap (λ o. or_else o (site_refusal decls places ys)) n ∙ h
  stops_second xs ys S.NoMemory n h = tt

  pub stops_same : (xs ys : List Site) (stop : Stopped) → xs ≡ ys → TellsStop decls places ys stop → TellsStop decls places xs stop
  stops_same xs ys (S.Refused r) e h = ap (site_refusal decls places) e ∙ h
  stops_same xs ys S.NoMemory e h = tt

-- a call that ends by an error tells why it stopped
module _ (decls : List Decl) (places : List ℕ) (spot : Spot) (before : List Var) (op : Plan) (made : List Var) (x : Stopped) where
  pub told_inputs : (r : Result Seen Stopped) → IsErrAnd r (λ e. e ≡ x) → TellsStop decls places (inner_at spot before op) x → TellsInputs decls places spot before op r made
  told_inputs (Ok seen) h t = absurd h
  told_inputs (Err e) h t = subst (TellsStop decls places (inner_at spot before op)) (sym h) t

  pub told_plan : (r : Result (List Var) Stopped) → IsErrAnd r (λ e. e ≡ x) → TellsStop decls places (sites_at spot before op) x → TellsPlan decls places spot before op r made
  told_plan (Ok vars) h t = absurd h
  told_plan (Err e) h t = subst (TellsStop decls places (sites_at spot before op)) (sym h) t

  pub told_operator : (r : Result (List Var) Stopped) → IsErrAnd r (λ e. e ≡ x) → TellsStop decls places (site_of spot before op ∷ []) x → TellsOperator decls places spot before op r made
  told_operator (Ok vars) h t = absurd h
  told_operator (Err e) h t = subst (TellsStop decls places (site_of spot before op ∷ [])) (sym h) t

-- a spot behind another one, and behind operators that are written before it
pub record IsBehind (spot next : Spot) (number : ℕ) : Type 0 where
  pub at : next.number ≡ number
  pub same_inside : next.inside ≡ spot.inside
  pub same_given : next.given.now ≡ spot.given.now

same_sites : (p : Plan) (spot next : Spot) (number : ℕ) (before : List Var) → IsBehind spot next number → sites p number spot.inside spot.given.now before ≡ sites_at next before p
same_sites p spot next number before b = λ i. sites p (sym b.at i) (sym b.same_inside i) (sym b.same_given i) before

module _ (spot : Spot) (before : List Var) (op : Plan) where
  opened : (x : _) → x ≡ parts (out-Plan op) → inner_at spot before op ≡ inner_sites x spot.number spot.inside spot.given.now before
  opened x e = ap (λ y. inner_sites y spot.number spot.inside spot.given.now before) (sym e)

  pub inner_one : (q : Plan) → One q ≡ parts (out-Plan op) → (next : Spot) → IsBehind spot next (suc spot.number) → inner_at spot before op ≡ sites_at next before q
  inner_one q e next b = opened (One q) e ∙ same_sites q spot next (suc spot.number) before b

  pub inner_two : (l r : Plan) → Two l r ≡ parts (out-Plan op) → (first second : Spot) → IsBehind spot first (suc spot.number) → IsBehind spot second (suc spot.number + size l)
      → (made : List Var) → made ≡ before ++ makes l → inner_at spot before op ≡ sites_at first before l ++ sites_at second made r
  inner_two l r e first second b d made m =
      opened (Two l r) e ∙ (λ i. same_sites l spot first (suc spot.number) before b i ++ same_sites r spot second (suc spot.number + size l) (before ++ makes l) d i)
      ∙ ap (λ ms. sites_at first before l ++ sites_at second ms r) (sym m)

  -- the one that is checked first, whatever stands behind it
  pub first_two : (l r : Plan) → Two l r ≡ parts (out-Plan op) → (first : Spot) → IsBehind spot first (suc spot.number)
      → inner_at spot before op ≡ sites_at first before l ++ sites r (suc spot.number + size l) spot.inside spot.given.now (before ++ makes l)
  first_two l r e first b = opened (Two l r) e ∙ ap (λ ss. ss ++ sites r (suc spot.number + size l) spot.inside spot.given.now (before ++ makes l)) (same_sites l spot first (suc spot.number) before b)

  pub first_nesting : (n p : Plan) → Nesting n p ≡ parts (out-Plan op) → (first : Spot) → IsBehind spot first (suc spot.number + size n)
      → inner_at spot before op ≡ sites_at first before p ++ sites n (suc spot.number) true (live p spot.given.now) (before ++ makes p)
  first_nesting n p e first b = opened (Nesting n p) e ∙ ap (λ ss. ss ++ sites n (suc spot.number) true (live p spot.given.now) (before ++ makes p)) (same_sites p spot first (suc spot.number + size n) before b)

  pub inner_nesting : (n p : Plan) → Nesting n p ≡ parts (out-Plan op) → (first second : Spot) → IsBehind spot first (suc spot.number + size n)
      → second.number ≡ suc spot.number → second.inside ≡ true → second.given.now ≡ live p spot.given.now
      → (made : List Var) → made ≡ before ++ makes p → inner_at spot before op ≡ sites_at first before p ++ sites_at second made n
  inner_nesting n p e first second b en ei eg made m =
      opened (Nesting n p) e ∙ (λ i. same_sites p spot first (suc spot.number + size n) before b i ++ sites n (sym en i) (sym ei i) (sym eg i) (before ++ makes p))
      ∙ ap (λ ms. sites_at first before p ++ sites_at second ms n) (sym m)

  -- ---- what the inputs make, and what is live in them

  pub made_one : (q : Plan) → One q ≡ parts (out-Plan op) → (made : List Var) → made ≡ before ++ makes q → made ≡ before ++ inner_makes (parts (out-Plan op))
  made_one q e made h = h ∙ ap (λ x. before ++ inner_makes x) e

  pub made_two : (l r : Plan) → Two l r ≡ parts (out-Plan op) → (mid made : List Var) → mid ≡ before ++ makes l → made ≡ mid ++ makes r → made ≡ before ++ inner_makes (parts (out-Plan op))
  made_two l r e mid made h g = g ∙ ap (λ b. b ++ makes r) h ∙ append_assoc before (makes l) (makes r) ∙ ap (λ x. before ++ inner_makes x) e

  pub made_nesting : (n p : Plan) → Nesting n p ≡ parts (out-Plan op) → (mid made : List Var) → mid ≡ before ++ makes p → made ≡ mid ++ makes n → made ≡ before ++ inner_makes (parts (out-Plan op))
  made_nesting n p e mid made h g = g ∙ ap (λ b. b ++ makes n) h ∙ append_assoc before (makes p) (makes n) ∙ ap (λ x. before ++ inner_makes x) e

  pub sees_one : (q : Plan) → One q ≡ parts (out-Plan op) → (left right : List Var) → left ≡ live q spot.given.now → right ≡ [] → Sees spot.given.now (out-Plan op) left right
  sees_one q e left right h g = record { on_left = h ∙ ap (left_live spot.given.now) e; on_right = g ∙ ap (right_live spot.given.now) e }

  pub sees_two : (l r : Plan) → Two l r ≡ parts (out-Plan op) → (left right : List Var) → left ≡ live l spot.given.now → right ≡ live r spot.given.now → Sees spot.given.now (out-Plan op) left right
  sees_two l r e left right h g = record { on_left = h ∙ ap (left_live spot.given.now) e; on_right = g ∙ ap (right_live spot.given.now) e }

  pub sees_nesting : (n p : Plan) → Nesting n p ≡ parts (out-Plan op) → (left right : List Var) → left ≡ live p spot.given.now → right ≡ live n (live p spot.given.now) → Sees spot.given.now (out-Plan op) left right
  sees_nesting n p e left right h g = record { on_left = h ∙ ap (left_live spot.given.now) e; on_right = g ∙ ap (right_live spot.given.now) e }

  -- ---- the whole plan: its inputs, then the operator

  pub whole : (made : List Var) → made ≡ before ++ inner_makes (parts (out-Plan op)) → sites_at spot before op ≡ inner_at spot before op ++ site_of spot made op ∷ []
  whole made e = sites_by op spot.number spot.inside spot.given.now before ∙ ap (λ b. inner_at spot before op ++ site_of spot b op ∷ []) (sym e)

  pub all_made : (inner made : List Var) → inner ≡ before ++ inner_makes (parts (out-Plan op)) → made ≡ inner ++ made_by (out-Plan op) → made ≡ before ++ makes op
  all_made inner made h g =
      g ∙ ap (λ b. b ++ made_by (out-Plan op)) h ∙ append_assoc before (inner_makes (parts (out-Plan op))) (made_by (out-Plan op)) ∙ ap (λ ms. before ++ ms) (sym (makes_by op))

-- the operator behind its inputs
module _ (decls : List Decl) (places : List ℕ) (spot : Spot) (before inner made : List Var) (op : Plan) where
  pub tells_whole : site_refusal decls places (inner_at spot before op) ≡ None → inner ≡ before ++ inner_makes (parts (out-Plan op))
      → (r : Result (List Var) Stopped) → TellsOperator decls places spot inner op r made → TellsPlan decls places spot before op r made
  tells_whole none e (Ok vars) h = (
    ap (site_refusal decls places) (whole spot before op inner e) ∙ none_both decls places (inner_at spot before op) (site_of spot inner op ∷ []) none h.0,
    h.1,
    all_made spot before op inner made e h.2,
  )
  tells_whole none e (Err stop) h =
      stops_same decls places (sites_at spot before op) (inner_at spot before op ++ site_of spot inner op ∷ []) stop (whole spot before op inner e) (stops_second decls places (inner_at spot before op) (site_of spot inner op ∷ []) stop none h)

abbrev pub refused : RefusedKind → ℕ → Refused
refused kind place = record { kind = kind; place = place }

-- one operator alone
module _ (decls : List Decl) (places : List ℕ) (spot : Spot) (before : List Var) (op : Plan) (made : List Var) (m : made ≡ before) where
  first_broken : (o : Option RefusedKind) → o ≡ broken decls (site_of spot made op) → site_refusal decls places (site_of spot before op ∷ []) ≡ or_else (refused_at (place_at places spot.number) o) None
  first_broken o e = ap (λ b. or_else (refused_at (place_at places spot.number) b) None) (ap (λ vs. broken decls (site_of spot vs op)) (sym m) ∙ sym e)

  pub keeps_all : None ≡ broken decls (site_of spot made op) → site_refusal decls places (site_of spot before op ∷ []) ≡ None
  keeps_all e = first_broken None e

  pub breaks : (kind : RefusedKind) (place : ℕ) → Some kind ≡ broken decls (site_of spot made op) → place ≡ place_at places spot.number → site_refusal decls places (site_of spot before op ∷ []) ≡ Some (refused kind place)
  breaks kind place e p = first_broken (Some kind) e ∙ ap (λ n. Some (refused kind n)) (sym p)
