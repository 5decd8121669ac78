-- What may stand next is told by the words alone, and each beginning can be completed.
use Rattle.std.proofs.Common.{◌≡◌, ℕ, zero, suc, ◌≤◌, Bool, true, false, ◌&&◌, ◌⊎◌, inl, inr, List, [], ◌∷◌, ◌++◌, length, map, Option, Some, None, ℤ, pos, refl, sym, ap, subst, ◌∙◌, append_assoc, codes, arith}
use Rattle.std.proofs.lemmas.List.{append-nil, map-append}
use Rattle.std.proofs.lemmas.Bool.{false≢true}
use Rattle.al_csv.specs.Fields.{number_of, int_of}
use Rattle.al_plan.specs.Grammar.{Word, Open, Close, Name, Variable, Number, Text, Mark, Dataset, Operator, Other, Marked, plain}
use Rattle.al_read.specs.declared.token.Token.{Token}
use Rattle.al_read.specs.declared.token.Token.TheVariants as kinds
use Rattle.al_read.specs.declared.token.Placed.{Placed}
use Rattle.al_read.specs.Reads.{said, words_of, unmarked}
use Rattle.al_read.specs.PlanReading.{second_of, op_named, func_named}
use Rattle.al_read.proofs.PlanForms.{IsSound, AreSound}
use Rattle.al_read.proofs.PlanWords.{op_again, func_again}
use Rattle.al_read.proofs.PlanMachine.{Sym, AnOpen, AClose, ATitle, AVersion, AName, AFile, AKind, AVar, AFunc, AnAgg, AGen, ADir, ACount, AnExpr, Args, Vars, Cols, Assigns, Aggs, Keys, Orders, APlan, AnOp, Parts, APart, ◌>>-◌, run, step, on_top, on, turn, marked_turn, part_turn, parts_turn, part_lead, marked_part, part_syms, lead, is_none, refuses, takes_numbers, root_syms}

-- ---- the same by words

abbrev pub word_step : List Sym → Word → Option (List Sym)
word_step [] w = None
word_step (y ∷ k) w = on_top k (turn y w)

abbrev pub word_run : List Sym → List Word → Option (List Sym)
word_run st [] = Some st
word_run st (w ∷ ws) = word_step st w >>- λ next. word_run next ws

bind_to : (o : Option (List Sym)) (f : List Sym → Option (List Sym)) (ws : List Word) → ((o >>- f) >>- λ next. word_run next ws) ≡ (o >>- λ st. f st >>- λ next. word_run next ws)
bind_to (Some x) f ws = refl
bind_to None f ws = refl

bind_with : (o : Option (List Sym)) (f g : List Sym → Option (List Sym)) → ((st : List Sym) → f st ≡ g st) → (o >>- f) ≡ (o >>- g)
bind_with (Some x) f g h = h x
bind_with None f g h = refl

pub word_run_append : (vs ws : List Word) (st : List Sym) → word_run st (vs ++ ws) ≡ (word_run st vs >>- λ next. word_run next ws)
word_run_append [] ws st = refl
word_run_append (v ∷ vs) ws st = bind_with (word_step st v) (λ next. word_run next (vs ++ ws)) (λ next. word_run next vs >>- λ z. word_run z ws) (λ next. word_run_append vs ws next) ∙ sym (bind_to (word_step st v) (λ next. word_run next vs) ws)

pub word_run_on : (vs ws : List Word) (st mid : List Sym) → word_run st vs ≡ Some mid → word_run st (vs ++ ws) ≡ word_run mid ws
word_run_on vs ws st mid e = word_run_append vs ws st ∙ ap (λ (o : Option (List Sym)). o >>- λ next. word_run next ws) e

-- ---- alike but for the marks of parts

pub data AlikeSym : Sym → Sym → Type 0 where
  same : {y : Sym} → AlikeSym y y
  parts : {k j : Mark} → AlikeSym (APart k) (APart j)

pub data Alike : List Sym → List Sym → Type 0 where
  none : Alike [] []
  more : {y z : Sym} {k l : List Sym} → AlikeSym y z → Alike k l → Alike (y ∷ k) (z ∷ l)

pub alike_refl : (st : List Sym) → Alike st st
alike_refl [] = none
alike_refl (y ∷ st) = more same (alike_refl st)

alike_append : (a b k l : List Sym) → Alike a b → Alike k l → Alike (a ++ k) (b ++ l)
alike_append [] [] k l none h = h
alike_append [] (z ∷ b) k l x h = elim x [ ]
alike_append (y ∷ a) [] k l x h = elim x [ ]
alike_append (y ∷ a) (z ∷ b) k l (more s t) h = more s (alike_append a b k l t h)

record Next (z : Sym) (w : Word) (ys : List Sym) : Type 0 where
  pub zs : List Sym
  pub turns : turn z w ≡ Some zs
  pub alike : Alike ys zs

same_syms : (a b : List Sym) → on a ≡ on b → a ≡ b
same_syms a b e = cc

part_next : (j k : Mark) (w : Word) (ys : List Sym) → part_turn k w ≡ Some ys → Next (APart j) w ys
part_next j k Open ys e = absurd cc
part_next j k Close ys e = absurd cc
part_next j k (Variable w) ys e = absurd cc
part_next j k (Number z) ys e = absurd cc
part_next j k (Text w) ys e = absurd cc
part_next j k (Name w) ys e = go (second_of (codes "dataset") (codes "result") w) refl e where
  named : (k : Mark) (b : Bool) → marked_part k b ≡ Some ys → part_syms b ≡ ys
  named Dataset false e = same_syms (part_syms false) ys e
  named Dataset true e = absurd cc
  named Operator false e = absurd cc
  named Operator true e = same_syms (part_syms true) ys e
  named Other b e = absurd cc

  go : (o : Option Bool) → second_of (codes "dataset") (codes "result") w ≡ o → part_lead k o ≡ Some ys → Next (APart j) (Name w) ys
  go None s e = absurd cc
  go (Some b) s e = record { zs = part_syms b; turns = ap (lead part_syms) s; alike = subst (λ (l : List Sym). Alike l (part_syms b)) (named k b e) (alike_refl (part_syms b)) }

next_same : (y : Sym) (k : Mark) (w : Word) (ys : List Sym) → marked_turn y k w ≡ Some ys → Next y w ys
next_same AnOpen Dataset w ys e = absurd cc
next_same AnOpen Operator w ys e = absurd cc
next_same AnOpen Other w ys e = record { zs = ys; turns = e; alike = alike_refl ys }
next_same AClose Dataset w ys e = absurd cc
next_same AClose Operator w ys e = absurd cc
next_same AClose Other w ys e = record { zs = ys; turns = e; alike = alike_refl ys }
next_same ATitle Dataset w ys e = absurd cc
next_same ATitle Operator w ys e = absurd cc
next_same ATitle Other w ys e = record { zs = ys; turns = e; alike = alike_refl ys }
next_same AVersion Dataset w ys e = absurd cc
next_same AVersion Operator w ys e = absurd cc
next_same AVersion Other w ys e = record { zs = ys; turns = e; alike = alike_refl ys }
next_same AName Dataset w ys e = absurd cc
next_same AName Operator w ys e = absurd cc
next_same AName Other w ys e = record { zs = ys; turns = e; alike = alike_refl ys }
next_same AFile Dataset w ys e = absurd cc
next_same AFile Operator w ys e = absurd cc
next_same AFile Other w ys e = record { zs = ys; turns = e; alike = alike_refl ys }
next_same AKind Dataset w ys e = absurd cc
next_same AKind Operator w ys e = absurd cc
next_same AKind Other w ys e = record { zs = ys; turns = e; alike = alike_refl ys }
next_same AVar Dataset w ys e = absurd cc
next_same AVar Operator w ys e = absurd cc
next_same AVar Other w ys e = record { zs = ys; turns = e; alike = alike_refl ys }
next_same AFunc Dataset w ys e = absurd cc
next_same AFunc Operator w ys e = absurd cc
next_same AFunc Other w ys e = record { zs = ys; turns = e; alike = alike_refl ys }
next_same AnAgg Dataset w ys e = absurd cc
next_same AnAgg Operator w ys e = absurd cc
next_same AnAgg Other w ys e = record { zs = ys; turns = e; alike = alike_refl ys }
next_same AGen Dataset w ys e = absurd cc
next_same AGen Operator w ys e = absurd cc
next_same AGen Other w ys e = record { zs = ys; turns = e; alike = alike_refl ys }
next_same ADir Dataset w ys e = absurd cc
next_same ADir Operator w ys e = absurd cc
next_same ADir Other w ys e = record { zs = ys; turns = e; alike = alike_refl ys }
next_same ACount Dataset w ys e = absurd cc
next_same ACount Operator w ys e = absurd cc
next_same ACount Other w ys e = record { zs = ys; turns = e; alike = alike_refl ys }
next_same AnExpr Dataset w ys e = absurd cc
next_same AnExpr Operator w ys e = absurd cc
next_same AnExpr Other w ys e = record { zs = ys; turns = e; alike = alike_refl ys }
next_same Args Dataset w ys e = absurd cc
next_same Args Operator w ys e = absurd cc
next_same Args Other w ys e = record { zs = ys; turns = e; alike = alike_refl ys }
next_same Vars Dataset w ys e = absurd cc
next_same Vars Operator w ys e = absurd cc
next_same Vars Other w ys e = record { zs = ys; turns = e; alike = alike_refl ys }
next_same Cols Dataset w ys e = absurd cc
next_same Cols Operator w ys e = absurd cc
next_same Cols Other w ys e = record { zs = ys; turns = e; alike = alike_refl ys }
next_same Assigns Dataset w ys e = absurd cc
next_same Assigns Operator w ys e = absurd cc
next_same Assigns Other w ys e = record { zs = ys; turns = e; alike = alike_refl ys }
next_same Aggs Dataset w ys e = absurd cc
next_same Aggs Operator w ys e = absurd cc
next_same Aggs Other w ys e = record { zs = ys; turns = e; alike = alike_refl ys }
next_same Keys Dataset w ys e = absurd cc
next_same Keys Operator w ys e = absurd cc
next_same Keys Other w ys e = record { zs = ys; turns = e; alike = alike_refl ys }
next_same Orders Dataset w ys e = absurd cc
next_same Orders Operator w ys e = absurd cc
next_same Orders Other w ys e = record { zs = ys; turns = e; alike = alike_refl ys }
next_same APlan Dataset w ys e = absurd cc
next_same APlan Operator w ys e = record { zs = ys; turns = e; alike = alike_refl ys }
next_same APlan Other w ys e = absurd cc
next_same AnOp Dataset w ys e = absurd cc
next_same AnOp Operator w ys e = absurd cc
next_same AnOp Other w ys e = record { zs = ys; turns = e; alike = alike_refl ys }
next_same Parts Dataset Open ys e = record { zs = APart Dataset ∷ []; turns = refl; alike = subst (λ (l : List Sym). Alike l (APart Dataset ∷ [])) (same_syms (APart Dataset ∷ []) ys e) (more parts none) }
next_same Parts Dataset Close ys e = absurd cc
next_same Parts Dataset (Name n) ys e = absurd cc
next_same Parts Dataset (Variable n) ys e = absurd cc
next_same Parts Dataset (Number z) ys e = absurd cc
next_same Parts Dataset (Text n) ys e = absurd cc
next_same Parts Operator Open ys e = record { zs = APart Dataset ∷ []; turns = refl; alike = subst (λ (l : List Sym). Alike l (APart Dataset ∷ [])) (same_syms (APart Operator ∷ []) ys e) (more parts none) }
next_same Parts Operator Close ys e = absurd cc
next_same Parts Operator (Name n) ys e = absurd cc
next_same Parts Operator (Variable n) ys e = absurd cc
next_same Parts Operator (Number z) ys e = absurd cc
next_same Parts Operator (Text n) ys e = absurd cc
next_same Parts Other Open ys e = record { zs = APart Dataset ∷ []; turns = refl; alike = subst (λ (l : List Sym). Alike l (APart Dataset ∷ [])) (same_syms (APart Other ∷ []) ys e) (more parts none) }
next_same Parts Other Close ys e = absurd cc
next_same Parts Other (Name n) ys e = absurd cc
next_same Parts Other (Variable n) ys e = absurd cc
next_same Parts Other (Number z) ys e = absurd cc
next_same Parts Other (Text n) ys e = absurd cc
next_same (APart j) Dataset w ys e = absurd cc
next_same (APart j) Operator w ys e = absurd cc
next_same (APart j) Other w ys e = part_next j j w ys e

next_alike : {y z : Sym} (k : Mark) (w : Word) (ys : List Sym) → AlikeSym y z → marked_turn y k w ≡ Some ys → Next z w ys
next_alike {y} k w ys same e = next_same y k w ys e
next_alike Other w ys (parts {k = i} {j = j}) e = part_next j i w ys e
next_alike Dataset w ys (parts {k = i} {j = j}) e = absurd cc
next_alike Operator w ys (parts {k = i} {j = j}) e = absurd cc

part_refuses : (i j : Mark) (w : Word) → refuses (APart i) w ≡ refuses (APart j) w
part_refuses i j Open = refl
part_refuses i j Close = refl
part_refuses i j (Name n) = refl
part_refuses i j (Variable n) = refl
part_refuses i j (Number n) = refl
part_refuses i j (Text n) = refl

pub refuses_alike : {y z : Sym} (w : Word) → AlikeSym y z → refuses y w ≡ refuses z w
refuses_alike w same = refl
refuses_alike w (parts {k = i} {j = j}) = part_refuses i j w

pub record Follows (l : List Sym) (ws : List Word) (end : List Sym) : Type 0 where
  pub at : List Sym
  pub runs : word_run l ws ≡ Some at
  pub alike : Alike end at

-- marked words go on as the words do
pub follows : (ms : List Marked) (st l end : List Sym) → Alike st l → run st ms ≡ Some end → Follows l (unmarked ms) end
follows [] st l end a e = record { at = l; runs = refl; alike = subst (λ (z : List Sym). Alike z l) (same_syms st end e) a }
follows (m ∷ ms) [] [] end none e = absurd cc
follows (m ∷ ms) [] (z ∷ l) end a e = elim a [ ]
follows (m ∷ ms) (y ∷ st) [] end a e = elim a [ ]
follows (m ∷ ms) (y ∷ st) (z ∷ l) end (more s a) e = go (λ next k b h. follows ms next k end b h) (marked_turn y m.0 m.1) refl e where
  go : ((next k : List Sym) → Alike next k → run next ms ≡ Some end → Follows k (unmarked ms) end) → (o : Option (List Sym)) → marked_turn y m.0 m.1 ≡ o → (on_top st o >>- λ next. run next ms) ≡ Some end → Follows (z ∷ l) (m.1 ∷ unmarked ms) end
  go rec None t e = absurd cc
  go rec (Some ys) t e =
      let n = next_alike m.0 m.1 ys s t in
      let f = rec (ys ++ st) (n.zs ++ l) (alike_append ys n.zs st l n.alike a) e in
      record { at = f.at; runs = ap (λ (o : Option (List Sym)). on_top l o >>- λ next. word_run next (unmarked ms)) n.turns ∙ f.runs; alike = f.alike }

-- ---- what completes a beginning

abbrev at_none : Token → Placed
at_none token = record { token = token; place = 0 }

abbrev open_token : Placed
open_token = at_none kinds.Open

abbrev close_token : Placed
close_token = at_none kinds.Close

abbrev name_token : List ℕ → Placed
name_token w = at_none (kinds.Name w)

abbrev pub number_token : List ℕ → Placed
number_token w = at_none (kinds.Number w)

abbrev var_token : Placed
var_token = at_none (kinds.Var (codes "a"))

abbrev file_token : Placed
file_token = at_none (kinds.Str [])

abbrev root_tokens : List Placed
root_tokens = name_token (codes "result") ∷ open_token ∷ var_token ∷ close_token ∷ open_token ∷ name_token (codes "empty") ∷ close_token ∷ close_token ∷ close_token ∷ []

abbrev completed : Sym → List Placed
completed AnOpen = open_token ∷ []
completed AClose = close_token ∷ []
completed ATitle = name_token (codes "algebricks") ∷ []
completed AVersion = number_token (codes "1") ∷ []
completed AName = name_token (codes "a") ∷ []
completed AFile = file_token ∷ []
completed AKind = name_token (codes "int") ∷ []
completed AVar = var_token ∷ []
completed AFunc = name_token (codes "not") ∷ []
completed AnAgg = name_token (codes "countall") ∷ []
completed AGen = name_token (codes "range") ∷ []
completed ADir = name_token (codes "asc") ∷ []
completed ACount = number_token (codes "1") ∷ []
completed AnExpr = name_token (codes "null") ∷ []
completed Args = close_token ∷ []
completed Vars = close_token ∷ []
completed Cols = close_token ∷ []
completed Assigns = close_token ∷ []
completed Aggs = close_token ∷ []
completed Keys = close_token ∷ []
completed Orders = close_token ∷ []
completed APlan = open_token ∷ name_token (codes "empty") ∷ close_token ∷ []
completed AnOp = name_token (codes "empty") ∷ []
completed Parts = open_token ∷ root_tokens
completed (APart k) = root_tokens

abbrev pub all_completed : List Sym → List Placed
all_completed [] = []
all_completed (y ∷ st) = completed y ++ all_completed st

sound_append : (ts us : List Placed) → AreSound ts → AreSound us → AreSound (ts ++ us)
sound_append [] us a b = b
sound_append (t ∷ ts) us a b = (a.0, sound_append ts us a.1 b)

completed_sound : (y : Sym) → AreSound (completed y)
completed_sound AnOpen = (tt, tt)
completed_sound AClose = (tt, tt)
completed_sound ATitle = (omega arith, tt)
completed_sound AVersion = (refl, tt)
completed_sound AName = (omega arith, tt)
completed_sound AFile = (tt, tt)
completed_sound AKind = (omega arith, tt)
completed_sound AVar = (tt, tt)
completed_sound AFunc = (omega arith, tt)
completed_sound AnAgg = (omega arith, tt)
completed_sound AGen = (omega arith, tt)
completed_sound ADir = (omega arith, tt)
completed_sound ACount = (refl, tt)
completed_sound AnExpr = (omega arith, tt)
completed_sound Args = (tt, tt)
completed_sound Vars = (tt, tt)
completed_sound Cols = (tt, tt)
completed_sound Assigns = (tt, tt)
completed_sound Aggs = (tt, tt)
completed_sound Keys = (tt, tt)
completed_sound Orders = (tt, tt)
completed_sound APlan = (tt, (omega arith, (tt, tt)))
completed_sound AnOp = (omega arith, tt)
completed_sound Parts = (tt, (omega arith, (tt, (tt, (tt, (tt, (omega arith, (tt, (tt, (tt, tt))))))))))
completed_sound (APart k) = (omega arith, (tt, (tt, (tt, (tt, (omega arith, (tt, (tt, (tt, tt)))))))))

pub all_sound : (st : List Sym) → AreSound (all_completed st)
all_sound [] = tt
all_sound (y ∷ st) = sound_append (completed y) (all_completed st) (completed_sound y) (all_sound st)

completes : (y : Sym) → word_run (y ∷ []) (words_of (completed y)) ≡ Some []
unfolding number_of op_named func_named
completes AnOpen = refl
completes AClose = refl
completes ATitle = refl
completes AVersion = refl
completes AName = refl
completes AFile = refl
completes AKind = refl
completes AVar = refl
completes AFunc = refl
completes AnAgg = refl
completes AGen = refl
completes ADir = refl
completes ACount = refl
completes AnExpr = refl
completes Args = refl
completes Vars = refl
completes Cols = refl
completes Assigns = refl
completes Aggs = refl
completes Keys = refl
completes Orders = refl
completes APlan = refl
completes AnOp = refl
completes Parts = refl
completes (APart k) = refl

-- what is below stays
word_below : (ws : List Word) (st k end : List Sym) → word_run st ws ≡ Some end → word_run (st ++ k) ws ≡ Some (end ++ k)
word_below [] st k end e = ap (λ (z : List Sym). on (z ++ k)) (same_syms st end e)
word_below (w ∷ ws) [] k end e = absurd cc
word_below (w ∷ ws) (y ∷ st) k end e = go (λ next h. word_below ws next k end h) (turn y w) e where
  go : ((next : List Sym) → word_run next ws ≡ Some end → word_run (next ++ k) ws ≡ Some (end ++ k)) → (o : Option (List Sym)) → (on_top st o >>- λ next. word_run next ws) ≡ Some end → (on_top (st ++ k) o >>- λ next. word_run next ws) ≡ Some (end ++ k)
  go rec None e = absurd cc
  go rec (Some ys) e = ap (λ (z : List Sym). word_run z ws) (sym (append_assoc ys st k)) ∙ rec (ys ++ st) e

pub all_complete : (st : List Sym) → word_run st (words_of (all_completed st)) ≡ Some []
all_complete [] = refl
all_complete (y ∷ st) =
    ap (word_run (y ∷ st)) (map-append (λ (t : Placed). said t.token) (completed y) (all_completed st))
    ∙ word_run_on (words_of (completed y)) (words_of (all_completed st)) (y ∷ st) st (word_below (words_of (completed y)) (y ∷ []) st [] (completes y)) ∙ all_complete st

-- where no number may stand, none does
pub no_numbers : (y : Sym) (z : ℤ) → takes_numbers y ≡ false → refuses y (Number z) ≡ true
no_numbers AnOpen z h = refl
no_numbers AClose z h = refl
no_numbers ATitle z h = refl
no_numbers AVersion z h = absurd (false≢true (sym h))
no_numbers AName z h = refl
no_numbers AFile z h = refl
no_numbers AKind z h = refl
no_numbers AVar z h = refl
no_numbers AFunc z h = refl
no_numbers AnAgg z h = refl
no_numbers AGen z h = refl
no_numbers ADir z h = refl
no_numbers ACount z h = absurd (false≢true (sym h))
no_numbers AnExpr z h = absurd (false≢true (sym h))
no_numbers Args z h = absurd (false≢true (sym h))
no_numbers Vars z h = refl
no_numbers Cols z h = refl
no_numbers Assigns z h = refl
no_numbers Aggs z h = refl
no_numbers Keys z h = refl
no_numbers Orders z h = refl
no_numbers APlan z h = refl
no_numbers AnOp z h = refl
no_numbers Parts z h = refl
no_numbers (APart k) z h = refl

-- where a number may stand, 1 may
pub one_stands : (y : Sym) (k : List Sym) → takes_numbers y ≡ true → (next : List Sym) × (step (y ∷ k) (plain (Number (pos 1))) ≡ Some next)
one_stands AnOpen k h = absurd (false≢true h)
one_stands AClose k h = absurd (false≢true h)
one_stands ATitle k h = absurd (false≢true h)
one_stands AVersion k h = (_, refl)
one_stands AName k h = absurd (false≢true h)
one_stands AFile k h = absurd (false≢true h)
one_stands AKind k h = absurd (false≢true h)
one_stands AVar k h = absurd (false≢true h)
one_stands AFunc k h = absurd (false≢true h)
one_stands AnAgg k h = absurd (false≢true h)
one_stands AGen k h = absurd (false≢true h)
one_stands ADir k h = absurd (false≢true h)
one_stands ACount k h = (_, refl)
one_stands AnExpr k h = (_, refl)
one_stands Args k h = (_, refl)
one_stands Vars k h = absurd (false≢true h)
one_stands Cols k h = absurd (false≢true h)
one_stands Assigns k h = absurd (false≢true h)
one_stands Aggs k h = absurd (false≢true h)
one_stands Keys k h = absurd (false≢true h)
one_stands Orders k h = absurd (false≢true h)
one_stands APlan k h = absurd (false≢true h)
one_stands AnOp k h = absurd (false≢true h)
one_stands Parts k h = absurd (false≢true h)
one_stands (APart j) k h = absurd (false≢true h)
