-- Plans and files.
use Rattle.std.proofs.Common.{◌≡◌, ℕ, zero, suc, ◌<◌, ◌≤◌, Bool, true, false, ◌&&◌, List, [], ◌∷◌, ◌++◌, map, length, Option, Some, None, pos, refl, sym, ap, subst, ◌∙◌, append_assoc, codes, arith}
use Rattle.std.specs.List.{flat_map, list_all}
use Rattle.std.proofs.lemmas.List.{append-nil}
use Rattle.std.proofs.lemmas.Bool.{false≢true, and_from, and_parts}
use Rattle.al_csv.specs.declared.decl.Column.{Column}
use Rattle.al_csv.specs.declared.decl.Decl.{Decl}
use Rattle.al_plan.specs.declared.expr.Var.{Var}
use Rattle.al_plan.specs.declared.plan.Plan.{Plan, roll-Plan, map-Plan, ind-Plan, fold-roll-Plan, rec-roll-Plan}
use Rattle.al_plan.specs.declared.plan.Plan.TheVariants as P
use Rattle.al_plan.specs.declared.plan.Plan.TheOpen as L
use Rattle.al_plan.specs.Grammar.{Word, Open, Close, Name, Text, Mark, Dataset, Operator, Other, Marked, plain, enclosed, headed, operator, variable, variables, column_words, count_word, is_filled, plan_words, plan_words_step, plan_fits, plan_fits_step, IsRoot, root_step, dataset_words}
use Rattle.al_read.specs.declared.token.Token.{Token}
use Rattle.al_read.specs.declared.token.Token.TheVariants as kinds
use Rattle.al_read.specs.declared.token.Placed.{Placed}
use Rattle.al_read.specs.declared.plan.operator.Parts.{Parts}
use Rattle.al_read.specs.declared.plan.head.Head.{Head}
use Rattle.al_read.specs.declared.plan.head.Head.TheVariants as H
use Rattle.al_read.specs.declared.plan.head.Leaf.{Leaf}
use Rattle.al_read.specs.declared.plan.head.Leaf.TheVariants as S
use Rattle.al_read.specs.declared.plan.head.One.{One}
use Rattle.al_read.specs.declared.plan.head.One.TheVariants as O
use Rattle.al_read.specs.declared.plan.head.Two.{Two}
use Rattle.al_read.specs.declared.plan.head.Two.TheVariants as T
use Rattle.al_read.specs.Reads.{said}
use Rattle.al_read.specs.PlanReading.{State, Outcome, Read, Stops, ◌>>=◌, behind, with_operator, with_dataset, open_at, close_at, filled_at, variable_at, column_at, name_at, file_name_at, title_at, version_at, is_root_at, head_at, plan_of, over, over_both, placed, place_at, begin_at, inputs_at, plan_at, dataset_at, part_behind, part_at, parts_at, root_at, file_at}
use Rattle.al_read.proofs.PlanForms.{Forms, Found, Ready, Taken, Steps, noted, itself, done, skip, nest, keep, shaped, mapped, AllFit, Filled, filled_form, items_form, starts, starts_words, taken_length, taken_append, taken_split, ready_after, bind_read, read_value, read_state}
use Rattle.al_read.proofs.PlanWords.{opens_form, closes_form, name_form, file_form, title_form, version_form, root_word_form, root_name}
use Rattle.al_read.proofs.PlanArgs.{some_vars_form, column_form, closed, all_always}
use Rattle.al_read.proofs.PlanItems.{all_from, all_to}
use Rattle.al_read.proofs.PlanHeads.{leaf_words, one_words, one_fits, two_words, two_fits, op_of_head, head_word, head_args, head_fits, HeadFits, head_words, head_form}

-- ---- the words of plans

abbrev pub PFits : Plan → Type 0
PFits p = plan_fits p ≡ true

words-roll : (x : L.Plan-F Plan) (p : Plan) → roll-Plan x ≡ p → plan_words p ≡ plan_words_step (map-Plan Plan (List Marked) plan_words x)
unfolding plan_words
words-roll x p e = ap plan_words (sym e) ∙ fold-roll-Plan (List Marked) plan_words_step x

fits-roll : (x : L.Plan-F Plan) (p : Plan) → roll-Plan x ≡ p → plan_fits p ≡ plan_fits_step (map-Plan Plan Bool plan_fits x)
unfolding plan_fits
fits-roll x p e = ap plan_fits (sym e) ∙ fold-roll-Plan Bool plan_fits_step x

words-leaf : (l : Leaf) → plan_words (plan_of l) ≡ operator (head_word (H.Leaf l)) (leaf_words l)
words-leaf (S.Scan set vars) = words-roll (L.Scan set vars) (P.Scan set vars) (P.rolls-Scan set vars)
words-leaf S.Empty = words-roll L.Empty P.Empty P.rolls-Empty
words-leaf S.Nested = words-roll L.Nested P.Nested P.rolls-Nested

fits-leaf : (l : Leaf) → plan_fits (plan_of l) ≡ true
fits-leaf (S.Scan set vars) = fits-roll (L.Scan set vars) (P.Scan set vars) (P.rolls-Scan set vars)
fits-leaf S.Empty = fits-roll L.Empty P.Empty P.rolls-Empty
fits-leaf S.Nested = fits-roll L.Nested P.Nested P.rolls-Nested

words-over : (o : One) (p : Plan) → plan_words (over o p) ≡ operator (head_word (H.One o)) (one_words o ++ plan_words p)
words-over (O.Assign made) p = words-roll (L.Assign made p) (P.Assign made p) (P.rolls-Assign made p)
words-over (O.Select c) p = words-roll (L.Select c p) (P.Select c p) (P.rolls-Select c p)
words-over (O.Project vars) p = words-roll (L.Project vars p) (P.Project vars p) (P.rolls-Project vars p)
words-over (O.Unnest v g) p = words-roll (L.Unnest v g p) (P.Unnest v g p) (P.rolls-Unnest v g p)
words-over O.Distinct p = words-roll (L.Distinct p) (P.Distinct p) (P.rolls-Distinct p)
words-over (O.Aggregate made) p = words-roll (L.Aggregate made p) (P.Aggregate made p) (P.rolls-Aggregate made p)
words-over (O.Order keys) p = words-roll (L.Order keys p) (P.Order keys p) (P.rolls-Order keys p)
words-over (O.Limit n k) p = words-roll (L.Limit n k p) (P.Limit n k p) (P.rolls-Limit n k p)
words-over (O.Check name c) p = words-roll (L.Check name c p) (P.Check name c p) (P.rolls-Check name c p)

pub fits-over : (o : One) (p : Plan) → plan_fits (over o p) ≡ one_fits o && plan_fits p
fits-over (O.Assign made) p = fits-roll (L.Assign made p) (P.Assign made p) (P.rolls-Assign made p)
fits-over (O.Select c) p = fits-roll (L.Select c p) (P.Select c p) (P.rolls-Select c p)
fits-over (O.Project vars) p = fits-roll (L.Project vars p) (P.Project vars p) (P.rolls-Project vars p)
fits-over (O.Unnest v g) p = fits-roll (L.Unnest v g p) (P.Unnest v g p) (P.rolls-Unnest v g p)
fits-over O.Distinct p = fits-roll (L.Distinct p) (P.Distinct p) (P.rolls-Distinct p)
fits-over (O.Aggregate made) p = fits-roll (L.Aggregate made p) (P.Aggregate made p) (P.rolls-Aggregate made p)
fits-over (O.Order keys) p = fits-roll (L.Order keys p) (P.Order keys p) (P.rolls-Order keys p)
fits-over (O.Limit n k) p = fits-roll (L.Limit n k p) (P.Limit n k p) (P.rolls-Limit n k p)
fits-over (O.Check name c) p = fits-roll (L.Check name c p) (P.Check name c p) (P.rolls-Check name c p)

words-both : (t : Two) (p q : Plan) → plan_words (over_both t p q) ≡ operator (head_word (H.Two t)) (two_words t ++ (plan_words p ++ plan_words q))
words-both T.Subplan p q = words-roll (L.Subplan p q) (P.Subplan p q) (P.rolls-Subplan p q)
words-both (T.Join c) p q = words-roll (L.Join c p q) (P.Join c p q) (P.rolls-Join c p q)
words-both (T.LeftJoin c) p q = words-roll (L.LeftJoin c p q) (P.LeftJoin c p q) (P.rolls-LeftJoin c p q)
words-both (T.Group keys) p q = words-roll (L.Group keys p q) (P.Group keys p q) (P.rolls-Group keys p q)
words-both (T.Union made ls rs) p q = words-roll (L.Union made ls rs p q) (P.Union made ls rs p q) (P.rolls-Union made ls rs p q)
    ∙ ap (λ (l : List Marked). operator (codes "union") l) (ap (λ (l : List Marked). variables made ++ l) (sym (append_assoc (variables ls) (variables rs) (plan_words p ++ plan_words q))) ∙ sym (append_assoc (variables made) (variables ls ++ variables rs) (plan_words p ++ plan_words q)))

pub fits-both : (t : Two) (p q : Plan) → plan_fits (over_both t p q) ≡ two_fits t && plan_fits p && plan_fits q
fits-both T.Subplan p q = fits-roll (L.Subplan p q) (P.Subplan p q) (P.rolls-Subplan p q)
fits-both (T.Join c) p q = fits-roll (L.Join c p q) (P.Join c p q) (P.rolls-Join c p q)
fits-both (T.LeftJoin c) p q = fits-roll (L.LeftJoin c p q) (P.LeftJoin c p q) (P.rolls-LeftJoin c p q)
fits-both (T.Group keys) p q = fits-roll (L.Group keys p q) (P.Group keys p q) (P.rolls-Group keys p q)
fits-both (T.Union made ls rs) p q = fits-roll (L.Union made ls rs p q) (P.Union made ls rs p q) (P.rolls-Union made ls rs p q)

pub words-result : (vars : List Var) (p : Plan) → plan_words (P.Result vars p) ≡ operator (codes "result") (variables vars ++ plan_words p)
words-result vars p = words-roll (L.Result vars p) (P.Result vars p) (P.rolls-Result vars p)

pub fits-result : (vars : List Var) (p : Plan) → plan_fits (P.Result vars p) ≡ false
fits-result vars p = fits-roll (L.Result vars p) (P.Result vars p) (P.rolls-Result vars p)

-- ---- a plan is a head over its inputs

abbrev pub InputsOf : Head → Type 0
InputsOf (H.Leaf l) = Unit {0}
InputsOf (H.One o) = Plan
InputsOf (H.Two t) = Plan × Plan

abbrev pub built : (h : Head) → InputsOf h → Plan
built (H.Leaf l) u = plan_of l
built (H.One o) p = over o p
built (H.Two t) i = over_both t i.0 i.1

abbrev pub inputs_words : (h : Head) → InputsOf h → List Marked
inputs_words (H.Leaf l) u = []
inputs_words (H.One o) p = plan_words p
inputs_words (H.Two t) i = plan_words i.0 ++ plan_words i.1

abbrev pub InputsFit : (h : Head) → InputsOf h → Type 0
InputsFit (H.Leaf l) u = Unit {0}
InputsFit (H.One o) p = PFits p
InputsFit (H.Two t) i = PFits i.0 × PFits i.1

abbrev pub PlanShape : Type 0
PlanShape = (h : Head) × InputsOf h

abbrev pub shape_words : PlanShape → List Marked
shape_words x = (Operator, Open) ∷ (head_words x.0 ++ (inputs_words x.0 x.1 ++ plain Close ∷ []))

in_order : (w : List ℕ) (args inputs : List Marked) → (Operator, Open) ∷ (plain (Name w) ∷ (args ++ (inputs ++ plain Close ∷ []))) ≡ operator w (args ++ inputs)
in_order w args inputs = ap (λ (l : List Marked). (Operator, Open) ∷ (plain (Name w) ∷ l)) (sym (append_assoc args inputs (plain Close ∷ [])))

pub shape_to : (h : Head) (i : InputsOf h) → HeadFits h × InputsFit h i → (shape_words (h, i) ≡ plan_words (built h i)) × PFits (built h i)
shape_to (H.Leaf l) u fit =
    (in_order (head_word (H.Leaf l)) (leaf_words l) [] ∙ ap (λ (m : List Marked). operator (head_word (H.Leaf l)) m) (append-nil (leaf_words l)) ∙ sym (words-leaf l), fits-leaf l)
shape_to (H.One o) p fit = (in_order (head_word (H.One o)) (one_words o) (plan_words p) ∙ sym (words-over o p), fits-over o p ∙ and_from (one_fits o) (plan_fits p) fit.0 fit.1)
shape_to (H.Two t) i fit = (
  in_order (head_word (H.Two t)) (two_words t) (plan_words i.0 ++ plan_words i.1) ∙ sym (words-both t i.0 i.1),
  fits-both t i.0 i.1 ∙ and_from (two_fits t && plan_fits i.0) (plan_fits i.1) (and_from (two_fits t) (plan_fits i.0) fit.0 fit.1.0) fit.1.1,
)

pub shape_back : (h : Head) (i : InputsOf h) → PFits (built h i) → HeadFits h × InputsFit h i
shape_back (H.Leaf l) u fit = (refl, tt)
shape_back (H.One o) p fit = and_parts (one_fits o) (plan_fits p) (sym (fits-over o p) ∙ fit)
shape_back (H.Two t) i fit =
    let a = and_parts (two_fits t && plan_fits i.0) (plan_fits i.1) (sym (fits-both t i.0 i.1) ∙ fit) in
    let b = and_parts (two_fits t) (plan_fits i.0) a.0 in
    (b.0, (b.1, a.1))

abbrev Shaped : Plan → Type 0
Shaped p = (x : PlanShape) × (built x.0 x.1 ≡ p)

layer_shape : (x : L.Plan-F Plan) → PFits (roll-Plan x) → Shaped (roll-Plan x)
layer_shape (L.Scan set vars) fit = ((H.Leaf (S.Scan set vars), tt), sym (P.rolls-Scan set vars))
layer_shape L.Empty fit = ((H.Leaf S.Empty, tt), sym P.rolls-Empty)
layer_shape L.Nested fit = ((H.Leaf S.Nested, tt), sym P.rolls-Nested)
layer_shape (L.Assign made p) fit = ((H.One (O.Assign made), p), sym (P.rolls-Assign made p))
layer_shape (L.Select c p) fit = ((H.One (O.Select c), p), sym (P.rolls-Select c p))
layer_shape (L.Project vars p) fit = ((H.One (O.Project vars), p), sym (P.rolls-Project vars p))
layer_shape (L.Unnest v g p) fit = ((H.One (O.Unnest v g), p), sym (P.rolls-Unnest v g p))
layer_shape (L.Distinct p) fit = ((H.One O.Distinct, p), sym (P.rolls-Distinct p))
layer_shape (L.Aggregate made p) fit = ((H.One (O.Aggregate made), p), sym (P.rolls-Aggregate made p))
layer_shape (L.Order keys p) fit = ((H.One (O.Order keys), p), sym (P.rolls-Order keys p))
layer_shape (L.Limit n k p) fit = ((H.One (O.Limit n k), p), sym (P.rolls-Limit n k p))
layer_shape (L.Check name c p) fit = ((H.One (O.Check name c), p), sym (P.rolls-Check name c p))
layer_shape (L.Subplan p q) fit = ((H.Two T.Subplan, (p, q)), sym (P.rolls-Subplan p q))
layer_shape (L.Join c p q) fit = ((H.Two (T.Join c), (p, q)), sym (P.rolls-Join c p q))
layer_shape (L.LeftJoin c p q) fit = ((H.Two (T.LeftJoin c), (p, q)), sym (P.rolls-LeftJoin c p q))
layer_shape (L.Group keys p q) fit = ((H.Two (T.Group keys), (p, q)), sym (P.rolls-Group keys p q))
layer_shape (L.Union made ls rs p q) fit = ((H.Two (T.Union made ls rs), (p, q)), sym (P.rolls-Union made ls rs p q))
layer_shape (L.Result vars p) fit = absurd (false≢true (sym (fits-result vars p) ∙ ap plan_fits (sym (P.rolls-Result vars p)) ∙ fit))

pub plan_layer : (p : Plan) → (x : L.Plan-F Plan) × (roll-Plan x ≡ p)
plan_layer = ind-Plan (λ p. (x : L.Plan-F Plan) × (roll-Plan x ≡ p)) (λ x y h. (x, refl))

shape_of : (p : Plan) → PFits p → Shaped p
shape_of p fit =
    let x = plan_layer p in
    let s = layer_shape x.0 (ap plan_fits x.1 ∙ fit) in
    (s.0, s.1 ∙ x.1)

pub shape_from : (p : Plan) → PFits p → (x : PlanShape) × (built x.0 x.1 ≡ p) × (HeadFits x.0 × InputsFit x.0 x.1)
shape_from p fit = let s = shape_of p fit in (s.0, s.1, shape_back s.0.0 s.0.1 (ap plan_fits s.1 ∙ fit))

pub plan_starts : (p : Plan) → PFits p → starts (plan_words p) ≡ true
plan_starts p fit =
    let s = shape_from p fit in
    ap (λ (q : Plan). starts (plan_words q)) (sym s.1) ∙ ap starts (sym (shape_to s.0.0 s.0.1 s.2).0)

-- ---- reading them

pub record Begun (s at : State) (place : ℕ) : Type 0 where
  pub t : Placed
  pub ts : List Placed
  pub tokens : s.tokens ≡ t ∷ ts
  pub place_is : t.place ≡ place
  pub at_is : s ≡ at

pub place_takes : (s : State) (ts : List Placed) → s.tokens ≡ ts → (at : State) (place : ℕ) → placed s ts ≡ Read place at → Begun s at place
place_takes s [] same at place e = absurd cc
place_takes s (t ∷ ts) same at place e = record { t = t; ts = ts; tokens = same; place_is = read_value t.place place s at e; at_is = read_state t.place place s at e }

same_head : (t u : Placed) (ts us : List Placed) → t ∷ ts ≡ u ∷ us → t ≡ u
same_head t u ts us e = cc

-- a parenthesis, and its place
pub record Opened (s : State) (place : ℕ) (at : State) : Type 0 where
  pub t : Placed
  pub ts : List Placed
  pub tokens : s.tokens ≡ t ∷ ts
  pub says : said t.token ≡ Open
  pub place_is : t.place ≡ place
  pub at_is : behind s ts ≡ at

pub opened_takes : (s p q : State) (place : ℕ) (u : Unit {0}) → place_at s ≡ Read place p → open_at p ≡ Read u q → Opened s place q
unfolding place_at
opened_takes s p q place u e f =
    let b = place_takes s s.tokens refl p place e in
    let o = (opens_form zero).takes p q u f in
    let tokens : s.tokens ≡ o.taken.0 ∷ o.taken.1 = ap (λ (z : State). z.tokens) b.at_is ∙ o.taken.2 in
    let same = same_head b.t o.taken.0 b.ts o.taken.1 (sym b.tokens ∙ tokens) in
    record {
      t = o.taken.0;
      ts = o.taken.1;
      tokens = tokens;
      says = o.taken.3;
      place_is = ap (λ (z : Placed). z.place) (sym same) ∙ b.place_is;
      at_is = ap (λ (z : State). behind z o.taken.1) b.at_is ∙ o.taken.4;
    }

pub place_again : (s : State) (t : Placed) (ts : List Placed) → s.tokens ≡ t ∷ ts → place_at s ≡ Read t.place s
unfolding place_at
place_again s t ts e = ap (placed s) e

pub begins_form : (n : ℕ) → Forms n begin_at itself (λ u. (Operator, Open) ∷ []) (λ u. Unit {0})
unfolding begin_at
begins_form n = record {
  takes = λ s r y e.
      let b = bind_read (place_at s) (λ place p. open_at p >>= λ u q. Read tt (with_operator place q)) y r e in
      let d = bind_read (open_at b.at) (λ u q. Read tt (with_operator b.x q)) y r b.second in
      let o = opened_takes s b.at d.at b.x d.x b.first d.first in
      let there = read_state tt y (with_operator b.x d.at) r d.second in
      record {
        x = tt;
        value_is = read_value tt y (with_operator b.x d.at) r d.second;
        taken = (o.t, o.ts, o.tokens, o.says, ap (λ (z : State). with_operator o.t.place z) o.at_is ∙ ap (λ (k : ℕ). with_operator k d.at) o.place_is ∙ there);
        fit = tt;
      };
  again = λ s r u ready fit taken.
      let one = place_again s taken.0 taken.1 taken.2 in
      let two = (opens_form n).again s (behind s taken.1) tt ready tt (taken.0, taken.1, taken.2, taken.3, refl) in
      ap (λ (o : Outcome ℕ). o >>= λ place p. open_at p >>= λ u q. Read tt (with_operator place q)) one
      ∙ ap (λ (o : Outcome (Unit {0})). o >>= λ u q. Read tt (with_operator taken.0.place q)) two
      ∙ ap (λ (z : State). Read tt z) taken.4;
}

pub inputs_form : (n : ℕ) (read : State → Outcome Plan) → Forms n read itself plan_words PFits → (h : Head) → Forms n (inputs_at read h) (built h) (inputs_words h) (InputsFit h)
unfolding inputs_at
inputs_form n read f (H.Leaf l) = done n (plan_of l)
inputs_form n read f (H.One o) = mapped n (over o) f
inputs_form n read f (H.Two t) = keep n f (λ p. mapped n (λ (q : Plan). over_both t p q) f)

deeper : (n : ℕ) → Forms n (plan_at n) itself plan_words PFits → Forms (suc n) (plan_at (suc n)) itself plan_words PFits
unfolding plan_at
deeper n f =
    shaped (suc n) plan_words PFits
    (nest n (Operator, Open) begins_form (keep n {Y = InputsOf} {value = built} {print = λ h i. inputs_words h i ++ plain Close ∷ []} {fits = InputsFit} (head_form n) (λ h. closed n (inputs_form n (plan_at n) f h))))
    (λ x fit. shape_to x.0 x.1 fit)
    (λ p fit. shape_from p fit)

flat_plan : Forms zero (plan_at zero) itself plan_words PFits
unfolding plan_at
flat_plan = record {
  takes = λ s r y e. absurd cc;
  again = λ s r p ready fit taken.
      let fuel = ready.fuel in
      let some = starts_words (plan_words p) (plan_starts p fit) in
      absurd (omega (arith, taken_length (plan_words p) s r taken));
}

pub plan_form : (n : ℕ) → Forms n (plan_at n) itself plan_words PFits
plan_form zero = flat_plan
plan_form (suc n) = deeper n (plan_form n)

-- ---- datasets

abbrev pub DatasetFits : Decl → Type 0
DatasetFits d = is_filled d.columns ≡ true

abbrev pub dataset_shown : Decl → List Marked
dataset_shown d = plain (Name d.name) ∷ (plain (Text d.file) ∷ (flat_map column_words d.columns ++ plain Close ∷ []))

abbrev pub decl : List ℕ → List ℕ → List Column → Decl
decl name file columns = record { name = name; file = file; columns = columns }

pub columns_form : (n : ℕ) → Forms n (filled_at column_at) itself (λ cs. flat_map column_words cs ++ plain Close ∷ []) (Filled (λ c. Unit {0}))
columns_form n = filled_form n column_at column_words (λ c. Unit {0}) (column_form n) (closes_form n) (λ c fit. refl)

pub dataset_form : (n : ℕ) → Forms n dataset_at itself dataset_shown DatasetFits
unfolding dataset_at
dataset_form n =
    shaped n dataset_shown DatasetFits
    (keep n (name_form n) (λ name. keep n (file_form n) (λ file. mapped n (decl name file) (columns_form n))))
    (λ p fit. (refl, fit.1.1.0))
    (λ d suit. ((d.name, (d.file, d.columns)), refl, (tt, (tt, (suit, all_always d.columns)))))

abbrev pub root_begins : List Marked
root_begins = (Operator, Open) ∷ (plain (Name (codes "result")) ∷ [])

-- a part behind its parenthesis and its word
record PartBegun (s : State) (o : Option Decl) (r : State) : Type 0 where
  pub place : ℕ
  pub root : Bool
  pub opened : State
  pub named : State
  pub at : Opened s place opened
  pub word : Taken opened (plain (Name (root_name root)) ∷ []) named
  pub others : part_behind place root named ≡ Read o r

part_begins : (s r : State) (o : Option Decl) → part_at s ≡ Read o r → PartBegun s o r
unfolding part_at
part_begins s r o e =
    let b = bind_read (place_at s) (λ place z. open_at z >>= λ u q. is_root_at q >>= λ root p. part_behind place root p) o r e in
    let d = bind_read (open_at b.at) (λ u q. is_root_at q >>= λ root p. part_behind b.x root p) o r b.second in
    let w = bind_read (is_root_at d.at) (λ root p. part_behind b.x root p) o r d.second in
    let t = (root_word_form zero).takes d.at w.at w.x w.first in
    record {
      place = b.x;
      root = w.x;
      opened = d.at;
      named = w.at;
      at = opened_takes s b.at d.at b.x d.x b.first d.first;
      word = subst (λ (z : Bool). Taken d.at (plain (Name (root_name z)) ∷ []) w.at) t.value_is t.taken;
      others = w.second;
    }

-- with its mark, the parenthesis leads to a state with its place
pub marked_word : (m : Mark) (w : List ℕ) (s p q : State) (place : ℕ) → (o : Opened s place p) → (word : Taken p (plain (Name w) ∷ []) q) → (end : State) → noted m o.t.place (behind s word.1) word.1 ≡ end → Taken s ((m, Open) ∷ (plain (Name w) ∷ [])) end
marked_word Other w s p q place o word end e = (o.t, o.ts, o.tokens, o.says, (word.0, word.1, ap (λ (z : State). z.tokens) o.at_is ∙ word.2, word.3, e))
marked_word Dataset w s p q place o word end e = (o.t, o.ts, o.tokens, o.says, (word.0, word.1, ap (λ (z : State). z.tokens) o.at_is ∙ word.2, word.3, e))
marked_word Operator w s p q place o word end e = (o.t, o.ts, o.tokens, o.says, (word.0, word.1, ap (λ (z : State). z.tokens) o.at_is ∙ word.2, word.3, e))

-- where it stands behind the word
pub named_at : (s p q : State) (w : List ℕ) (place : ℕ) → (o : Opened s place p) → (word : Taken p (plain (Name w) ∷ []) q) → behind s word.1 ≡ q
named_at s p q w place o word = ap (λ (z : State). behind z word.1) o.at_is ∙ word.4

none_part : (s r : State) → part_at s ≡ Read None r → Taken s root_begins r
none_part s r e = go (part_begins s r None e).root (part_begins s r None e) refl where
  go : (b : Bool) (x : PartBegun s None r) → x.root ≡ b → Taken s root_begins r
  go true x is =
      let word = subst (λ (z : Bool). Taken x.opened (plain (Name (root_name z)) ∷ []) x.named) is x.word in
      let others = subst (λ (z : Bool). part_behind x.place z x.named ≡ Read None r) is x.others in
      let there = read_state None None (with_operator x.place x.named) r others in
      marked_word Operator (codes "result") s x.opened x.named x.place x.at word r
      (ap (λ (z : State). with_operator x.at.t.place z) (named_at s x.opened x.named (codes "result") x.place x.at word) ∙ ap (λ (k : ℕ). with_operator k x.named) x.at.place_is ∙ there)
  go false x is =
      let others = subst (λ (z : Bool). part_behind x.place z x.named ≡ Read None r) is x.others in
      let b = bind_read (dataset_at (with_dataset x.place x.named)) (λ d z. Read (Some d) z) None r others in
      let h = read_value (Some b.x) None b.at r b.second in
      absurd cc

some_part : (s r : State) (d : Decl) → part_at s ≡ Read (Some d) r → Taken s (dataset_words d) r × DatasetFits d
some_part s r d e = go (part_begins s r (Some d) e).root (part_begins s r (Some d) e) refl where
  go : (b : Bool) (x : PartBegun s (Some d) r) → x.root ≡ b → Taken s (dataset_words d) r × DatasetFits d
  go true x is =
      let others = subst (λ (z : Bool). part_behind x.place z x.named ≡ Read (Some d) r) is x.others in
      let h = read_value None (Some d) (with_operator x.place x.named) r others in
      absurd cc
  go false x is =
      let word = subst (λ (z : Bool). Taken x.opened (plain (Name (root_name z)) ∷ []) x.named) is x.word in
      let others = subst (λ (z : Bool). part_behind x.place z x.named ≡ Read (Some d) r) is x.others in
      let b = bind_read (dataset_at (with_dataset x.place x.named)) (λ y z. Read (Some y) z) (Some d) r others in
      let some = read_value (Some b.x) (Some d) b.at r b.second in
      let same : b.x ≡ d = cc in
      let t = (dataset_form zero).takes (with_dataset x.place x.named) b.at b.x b.first in
      let front = marked_word Dataset (codes "dataset") s x.opened x.named x.place x.at word (with_dataset x.place x.named)
      (ap (λ (z : State). with_dataset x.at.t.place z) (named_at s x.opened x.named (codes "dataset") x.place x.at word) ∙ ap (λ (k : ℕ). with_dataset k x.named) x.at.place_is) in
      let back = subst (λ (z : State). Taken (with_dataset x.place x.named) (dataset_shown d) z) (read_state (Some b.x) (Some d) b.at r b.second) (subst (λ (y : Decl). Taken (with_dataset x.place x.named) (dataset_shown y) b.at) (t.value_is ∙ same) t.taken) in
      (taken_append ((Dataset, Open) ∷ (plain (Name (codes "dataset")) ∷ [])) (dataset_shown d) s (with_dataset x.place x.named) r front back, subst DatasetFits (t.value_is ∙ same) t.fit)

-- reading a part again
part_again : (n : ℕ) (b : Bool) (m : Mark) (s q : State) (t : Placed) (ts : List Placed) → Ready n s → s.tokens ≡ t ∷ ts → said t.token ≡ Open → Taken (behind s ts) (plain (Name (root_name b)) ∷ []) q → part_at s ≡ part_behind t.place b q
unfolding part_at
part_again n b m s q t ts ready tokens says word =
    let one = place_again s t ts tokens in
    let open_taken : Taken s (plain Open ∷ []) (behind s ts) = (t, ts, tokens, says, refl) in
    let two = (opens_form n).again s (behind s ts) tt ready tt open_taken in
    let three = (root_word_form n).again (behind s ts) q b (ready_after n (plain Open ∷ []) s (behind s ts) open_taken ready) tt word in
    ap (λ (o : Outcome ℕ). o >>= λ place z. open_at z >>= λ u q. is_root_at q >>= λ root p. part_behind place root p) one
    ∙ ap (λ (o : Outcome (Unit {0})). o >>= λ u q. is_root_at q >>= λ root p. part_behind t.place root p) two
    ∙ ap (λ (o : Outcome Bool). o >>= λ root p. part_behind t.place root p) three

none_again_at : (n : ℕ) (s r : State) → Ready n s → Taken s root_begins r → part_at s ≡ Read None r
none_again_at n s r ready taken =
    let word = taken.4 in
    let q = behind s word.1 in
    part_again n true Operator s q taken.0 taken.1 ready taken.2 taken.3 (word.0, word.1, word.2, word.3, refl) ∙ ap (λ (z : State). Read None z) word.4

some_again_at : (n : ℕ) (s r : State) (d : Decl) → Ready n s → DatasetFits d → Taken s (dataset_words d) r → part_at s ≡ Read (Some d) r
some_again_at n s r d ready fit taken =
    let word = taken.4 in
    let q = behind s word.1 in
    let begun = part_again n false Dataset s q taken.0 taken.1 ready taken.2 taken.3 (word.0, word.1, word.2, word.3, refl) in
    let front : Taken s ((Dataset, Open) ∷ (plain (Name (codes "dataset")) ∷ [])) (with_dataset taken.0.place q) = (taken.0, taken.1, taken.2, taken.3, (word.0, word.1, word.2, word.3, refl)) in
    let read = (dataset_form n).again (with_dataset taken.0.place q) r d (ready_after n ((Dataset, Open) ∷ (plain (Name (codes "dataset")) ∷ [])) s (with_dataset taken.0.place q) front ready) fit word.4 in
    begun ∙ ap (λ (o : Outcome Decl). o >>= λ y z. Read (Some y) z) read

pub part_steps : (n : ℕ) → Steps n part_at dataset_words DatasetFits root_begins
part_steps n = record {
  none_takes = λ s r e. none_part s r e;
  some_takes = λ s r d e. some_part s r d e;
  none_again = λ s r ready taken. none_again_at n s r ready taken;
  some_again = λ s r d ready fit taken. some_again_at n s r d ready fit taken;
  some_words = λ d fit. omega arith;
  end_words = omega arith;
}

parts_form : (n : ℕ) → Forms n parts_at itself (λ ds. flat_map dataset_words ds ++ root_begins) (AllFit DatasetFits)
unfolding parts_at
parts_form n = items_form n part_at dataset_words DatasetFits root_begins (part_steps n)

-- ---- files

-- closed, and made into something else
pub closed_as : (n : ℕ) {A B X : Type 0} {read : State → Outcome A} {value : X → A} {print : X → List Marked} {fits : X → Type 0} (make : A → B) → Forms n read value print fits → Forms n (λ s. read s >>= λ x r. close_at r >>= λ u q. Read (make x) q) (λ x. make (value x)) (λ x. print x ++ plain Close ∷ []) fits
closed_as n {A} {B} {X} {read} {value} {print} {fits} make f = record {
  takes = λ s q y e.
      let b = bind_read (read s) (λ x r. close_at r >>= λ u z. Read (make x) z) y q e in
      let d = bind_read (close_at b.at) (λ u z. Read (make b.x) z) y q b.second in
      let t = f.takes s b.at b.x b.first in
      let c = (closes_form n).takes b.at d.at d.x d.first in
      let there = read_state (make b.x) y d.at q d.second in
      record {
        x = t.x;
        value_is = ap make t.value_is ∙ read_value (make b.x) y d.at q d.second;
        taken = subst (λ (z : State). Taken s (print t.x ++ plain Close ∷ []) z) there (taken_append (print t.x) (plain Close ∷ []) s b.at d.at t.taken c.taken);
        fit = t.fit;
      };
  again = λ s q x ready fit taken.
      let h = taken_split (print x) (plain Close ∷ []) s q taken in
      let one = f.again s h.middle x ready fit h.front in
      let two = (closes_form n).again h.middle q tt (ready_after n (print x) s h.middle h.front ready) tt h.back in
      ap (λ (o : Outcome A). o >>= λ x r. close_at r >>= λ u z. Read (make x) z) one ∙ ap (λ (o : Outcome (Unit {0})). o >>= λ u z. Read (make (value x)) z) two;
}

abbrev pub RootShape : Type 0
RootShape = List Var × Plan

abbrev pub root_value : RootShape → Plan
root_value x = P.Result x.0 x.1

abbrev pub root_shown : RootShape → List Marked
root_shown x = variables x.0 ++ (plan_words x.1 ++ plain Close ∷ [])

abbrev pub RootFits : RootShape → Type 0
RootFits x = Filled (λ v. Unit {0}) x.0 × PFits x.1

root_form : (n : ℕ) → Forms n (root_at n) root_value root_shown RootFits
unfolding root_at
root_form n = skip n (plain Open) (opens_form n) (keep n (some_vars_form n) (λ vars. closed_as n (λ (p : Plan). P.Result vars p) (plan_form n)))

natural_root : (X : Type 0) (up : X → Plan) (fn : Plan → Type 0) (x : L.Plan-F X) → root_step X up (λ p. fn (up p)) x ≡ root_step Plan (λ p. p) fn (map-Plan X Plan up x)
natural_root X up fn (L.Scan set vars) = refl
natural_root X up fn L.Empty = refl
natural_root X up fn L.Nested = refl
natural_root X up fn (L.Assign made p) = refl
natural_root X up fn (L.Select c p) = refl
natural_root X up fn (L.Project vars p) = refl
natural_root X up fn (L.Unnest v g p) = refl
natural_root X up fn (L.Distinct p) = refl
natural_root X up fn (L.Aggregate made p) = refl
natural_root X up fn (L.Order keys p) = refl
natural_root X up fn (L.Limit n k p) = refl
natural_root X up fn (L.Check name c p) = refl
natural_root X up fn (L.Subplan p q) = refl
natural_root X up fn (L.Join c p q) = refl
natural_root X up fn (L.LeftJoin c p q) = refl
natural_root X up fn (L.Group keys p q) = refl
natural_root X up fn (L.Union made ls rs p q) = refl
natural_root X up fn (L.Result vars p) = refl

root-roll : (x : L.Plan-F Plan) → IsRoot (roll-Plan x) ≡ root_step Plan (λ p. p) IsRoot x
unfolding IsRoot
root-roll x = rec-roll-Plan (Type 0) root_step natural_root x

is_root : (x : RootShape) → RootFits x → IsRoot (root_value x)
is_root x fit = subst IsRoot (P.rolls-Result x.0 x.1) (subst (λ (t : Type 0). t) (sym (root-roll (L.Result x.0 x.1))) (fit.0.0, fit.1))

root_layer : (x : L.Plan-F Plan) → root_step Plan (λ p. p) IsRoot x → (y : RootShape) × (root_value y ≡ roll-Plan x) × RootFits y
root_layer (L.Scan set vars) h = absurd h
root_layer L.Empty h = absurd h
root_layer L.Nested h = absurd h
root_layer (L.Assign made p) h = absurd h
root_layer (L.Select c p) h = absurd h
root_layer (L.Project vars p) h = absurd h
root_layer (L.Unnest v g p) h = absurd h
root_layer (L.Distinct p) h = absurd h
root_layer (L.Aggregate made p) h = absurd h
root_layer (L.Order keys p) h = absurd h
root_layer (L.Limit n k p) h = absurd h
root_layer (L.Check name c p) h = absurd h
root_layer (L.Subplan p q) h = absurd h
root_layer (L.Join c p q) h = absurd h
root_layer (L.LeftJoin c p q) h = absurd h
root_layer (L.Group keys p q) h = absurd h
root_layer (L.Union made ls rs p q) h = absurd h
root_layer (L.Result vars p) h = ((vars, p), sym (P.rolls-Result vars p), ((h.0, all_always vars), h.1))

root_from : (p : Plan) → IsRoot p → (y : RootShape) × (root_value y ≡ p) × RootFits y
root_from p h =
    let x = plan_layer p in
    let opened = subst (λ (t : Type 0). t) (root-roll x.0) (subst IsRoot (sym x.1) h) in
    let y = root_layer x.0 opened in
    (y.0, y.1 ∙ x.1, y.2)

abbrev pub parts_words : Parts → List Marked
parts_words x = enclosed (plain (Name (codes "algebricks")) ∷ count_word x.version ∷ (flat_map dataset_words x.datasets ++ plan_words x.root))

pub record PartsFit (x : Parts) : Type 0 where
  pub version : x.version ≡ 1
  pub columns : list_all (λ d. is_filled d.columns) x.datasets ≡ true
  pub root : IsRoot x.root

abbrev pub FileShape : Type 0
FileShape = ℕ × (List Decl × RootShape)

abbrev pub parts_value : FileShape → Parts
parts_value x = record { version = x.0; datasets = x.1.0; root = root_value x.1.1 }

abbrev pub file_shown : FileShape → List Marked
file_shown x = plain Open ∷ (plain (Name (codes "algebricks")) ∷ (count_word x.0 ∷ ((flat_map dataset_words x.1.0 ++ root_begins) ++ (root_shown x.1.1 ++ plain Close ∷ []))))

abbrev pub FileFits : FileShape → Type 0
FileFits x = (x.0 ≡ 1) × (AllFit DatasetFits x.1.0 × RootFits x.1.1)

root_words : (x : RootShape) → root_begins ++ root_shown x ≡ plan_words (root_value x)
root_words x = ap (λ (l : List Marked). (Operator, Open) ∷ (plain (Name (codes "result")) ∷ l)) (sym (append_assoc (variables x.0) (plan_words x.1) (plain Close ∷ []))) ∙ sym (words-result x.0 x.1)

pub file_shown_is : (x : FileShape) → file_shown x ≡ parts_words (parts_value x)
file_shown_is x =
    let ds = flat_map dataset_words x.1.0 in
    let inner : (ds ++ root_begins) ++ (root_shown x.1.1 ++ plain Close ∷ []) ≡ (ds ++ (root_begins ++ root_shown x.1.1)) ++ plain Close ∷ [] =
    append_assoc ds root_begins (root_shown x.1.1 ++ plain Close ∷ []) ∙ ap (λ (l : List Marked). ds ++ l) (sym (append_assoc root_begins (root_shown x.1.1) (plain Close ∷ []))) ∙ sym (append_assoc ds (root_begins ++ root_shown x.1.1) (plain Close ∷ [])) in
    ap (λ (l : List Marked). plain Open ∷ (plain (Name (codes "algebricks")) ∷ (count_word x.0 ∷ l))) (inner ∙ ap (λ (l : List Marked). (ds ++ l) ++ plain Close ∷ []) (root_words x.1.1))

pub file_to : (x : FileShape) → FileFits x → PartsFit (parts_value x)
file_to x fit = record { version = fit.0; columns = all_from (λ (d : Decl). is_filled d.columns) x.1.0 fit.1.0; root = is_root x.1.1 fit.1.1 }

pub file_from : (p : Parts) → PartsFit p → (x : FileShape) × (parts_value x ≡ p) × FileFits x
file_from p h =
    let r = root_from p.root h.root in
    let same : parts_value (p.version, (p.datasets, r.0)) ≡ p = ap (λ (q : Plan). let z : Parts = record { version = p.version; datasets = p.datasets; root = q } in z) r.1 in
    ((p.version, (p.datasets, r.0)), same, (h.version, (all_to (λ (d : Decl). is_filled d.columns) p.datasets h.columns, r.2)))

pub whole_form : (n : ℕ) → Forms n (file_at n) itself parts_words PartsFit
unfolding file_at
whole_form n =
    shaped n parts_words PartsFit
    (skip n (plain Open) (opens_form n) (skip n (plain (Name (codes "algebricks"))) (title_form n) (keep n (version_form n) (λ version. keep n (parts_form n) (λ datasets. closed_as n (λ (root : Plan). let z : Parts = record { version = version; datasets = datasets; root = root } in z) (root_form n))))))
    (λ x fit. (file_shown_is x, file_to x fit))
    (λ p suit. file_from p suit)
