-- Words that are put at the end of a line one after the other are put there together.
use Rattle.std.proofs.Common.{◌≡◌, ℕ, Bool, List, [], ◌∷◌, ◌++◌, map, refl, ap, sym, ◌∙◌, codes, append_assoc, append-nil, ◌+◌, ◌<◌, length, take, get_or, add-one}
use Rattle.std.proofs.lemmas.List.{map-append}
use Rattle.std.proofs.Math.Seq.{take-suc}
use Rattle.std.proofs.lemmas.Grind.{flat_map-append}
use Rattle.std.specs.List.{flat_map}
use Rattle.std.specs.Prelude.{◌||◌, if◌then◌else◌, Result, Ok, Err, OnOk}
use Rattle.al_plan.specs.declared.expr.Expr.{Expr}
use Rattle.al_plan.specs.Grammar.{Word, Open, Close, Name, Operator, Marked, plain, enclosed, operator, call_words, expr_words}
use Rattle.al_print.specs.declared.line.Line.{Line}
use Rattle.al_print.specs.Canonical.{spelled, is_open, is_close, line_of, tight_behind, words_in, after}

words_in_append : (xs ys : List Marked) → words_in (xs ++ ys) ≡ words_in xs ++ words_in ys
words_in_append [] ys = refl
words_in_append (x ∷ xs) ys = ap (λ ws. x.1 ∷ ws) (words_in_append xs ys)

tight_append : (tight : Bool) (xs ys : List Word) → tight_behind tight (xs ++ ys) ≡ tight_behind (tight_behind tight xs) ys
tight_append tight [] ys = refl
tight_append tight (x ∷ xs) ys = tight_append (is_open x) xs ys

abbrev pub space : Bool → Word → List ℕ
space tight w = if tight || is_close w then [] else codes " "

pub line_append : (tight : Bool) (xs ys : List Word) → line_of tight (xs ++ ys) ≡ line_of tight xs ++ line_of (tight_behind tight xs) ys
unfolding line_of
line_append tight [] ys = refl
line_append tight (x ∷ xs) ys =
    ap (λ zs. space tight x ++ (spelled x ++ zs)) (line_append (is_open x) xs ys)
    ∙ ap (λ zs. space tight x ++ zs) (sym (append_assoc (spelled x) (line_of (is_open x) xs) (line_of (tight_behind (is_open x) xs) ys)))
    ∙ sym (append_assoc (space tight x) (spelled x ++ line_of (is_open x) xs) (line_of (tight_behind (is_open x) xs) ys))

same_line : (a b : Line) → a.text ≡ b.text → a.tight ≡ b.tight → a ≡ b
same_line a b e f i = record { text = e i; tight = f i }

pub after_nil : (line : Line) → after line [] ≡ line
unfolding after line_of
after_nil line = same_line (after line []) line (append-nil line.text) refl

pub after_after : (line : Line) (xs ys : List Marked) → after (after line xs) ys ≡ after line (xs ++ ys)
unfolding after
after_after line xs ys =
    same_line (after (after line xs) ys) (after line (xs ++ ys))
    (append_assoc line.text (line_of line.tight (words_in xs)) (line_of (tight_behind line.tight (words_in xs)) (words_in ys))
    ∙ ap (λ zs. line.text ++ zs) (sym (line_append line.tight (words_in xs) (words_in ys)) ∙ ap (line_of line.tight) (sym (words_in_append xs ys))))
    (sym (tight_append line.tight (words_in xs) (words_in ys)) ∙ ap (tight_behind line.tight) (sym (words_in_append xs ys)))

pub ruleset line_laws = (after_nil, after_after)

flat_map_next : {X : Type 0} {Y : Type 0} (f : X → List Y) (xs : List X) (i : ℕ) (x : X) → i < length xs → x ≡ get_or xs i x → flat_map f (take (i + 1) xs) ≡ flat_map f (take i xs) ++ f x
flat_map_next f xs i x h same =
    rw (add-one, take-suc xs i x h, flat_map-append f (take i xs) (get_or xs i x ∷ [])) (ap (λ ys. flat_map f (take i xs) ++ ys) (append-nil (f (get_or xs i x)) ∙ ap f (sym same)))

-- the words of one item more
pub after_next : {X : Type 0} (f : X → List Marked) (xs : List X) (i : ℕ) (x : X) (line more next : Line) → i < length xs → x ≡ get_or xs i x
    → more ≡ after line (flat_map f (take i xs)) → next ≡ after more (f x) → next ≡ after line (flat_map f (take (i + 1) xs))
after_next f xs i x line more next h same before put =
    put ∙ ap (λ l. after l (f x)) before ∙ after_after line (flat_map f (take i xs)) (f x) ∙ ap (after line) (sym (flat_map_next f xs i x h same))

-- a loop that puts one word for each item
pub after_next_word : {X : Type 0} (f : X → Marked) (xs : List X) (i : ℕ) (x : X) (line more next : Line) → i < length xs → x ≡ get_or xs i x
    → more ≡ after line (map f (take i xs)) → next ≡ after more (f x ∷ []) → next ≡ after line (map f (take (i + 1) xs))
after_next_word f xs i x line more next h same before put =
    put ∙ ap (λ l. after l (f x ∷ [])) before ∙ after_after line (map f (take i xs)) (f x ∷ [])
    ∙ ap (after line) (ap (λ y. map f (take i xs) ++ f y ∷ []) same ∙ sym (rw (add-one, take-suc xs i x h) (map-append f (take i xs) (get_or xs i x ∷ []))))

-- words behind words, where the last of them were put
pub then_more : {T E : Type 0} (r : Result T E) (line before all : Line) (xs ys zs : List Marked) → xs ++ ys ≡ zs → before ≡ after line xs → OnOk r (all ≡ after before ys) → OnOk r (all ≡ after line zs)
then_more (Ok x) line before all xs ys zs e first last = last ∙ ap (λ l. after l ys) first ∙ after_after line xs ys ∙ ap (after line) e
then_more (Err x) line before all xs ys zs e first last = tt

abbrev head_of : List ℕ → List Marked
head_of name = plain Open ∷ (plain (Name name) ∷ [])

both : (line a b : Line) (xs ys : List Marked) → a ≡ after line xs → b ≡ after a ys → b ≡ after line (xs ++ ys)
both line a b xs ys first last = last ∙ ap (λ l. after l ys) first ∙ after_after line xs ys

pub call_of_none : {T E : Type 0} (r : Result T E) (line head all : Line) (name : List ℕ) → head ≡ after line (head_of name) → OnOk r (all ≡ after head (plain Close ∷ [])) → OnOk r (all ≡ after line (call_words name []))
call_of_none r line head all name first last = then_more r line head all (head_of name) (plain Close ∷ []) (call_words name []) refl first last

pub call_of_one : {T E : Type 0} (r : Result T E) (line head one all : Line) (name : List ℕ) (e : Expr) → head ≡ after line (head_of name) → one ≡ after head (expr_words e)
    → OnOk r (all ≡ after one (plain Close ∷ [])) → OnOk r (all ≡ after line (call_words name (e ∷ [])))
call_of_one r line head one all name e first next last =
    then_more r line one all (head_of name ++ expr_words e) (plain Close ∷ []) (call_words name (e ∷ [])) (ap (λ ws. head_of name ++ (ws ++ plain Close ∷ [])) (sym (append-nil (expr_words e))))
    (both line head one (head_of name) (expr_words e) first next) last

pub call_of_two : {T E : Type 0} (r : Result T E) (line head one two all : Line) (name : List ℕ) (a b : Expr) → head ≡ after line (head_of name) → one ≡ after head (expr_words a) → two ≡ after one (expr_words b)
    → OnOk r (all ≡ after two (plain Close ∷ [])) → OnOk r (all ≡ after line (call_words name (a ∷ b ∷ [])))
call_of_two r line head one two all name a b first next more last =
    then_more r line two all ((head_of name ++ expr_words a) ++ expr_words b) (plain Close ∷ []) (call_words name (a ∷ b ∷ []))
    (ap (λ ws. head_of name ++ (ws ++ plain Close ∷ [])) (ap (λ ws. expr_words a ++ ws) (sym (append-nil (expr_words b)))))
    (both line one two (head_of name ++ expr_words a) (expr_words b) (both line head one (head_of name) (expr_words a) first next) more) last

-- an operator that holds two lists of words, one behind the other
pub operator_of_two : {T E : Type 0} (r : Result T E) (line head one two all : Line) (name : List ℕ) (xs ys zs : List Marked) → zs ≡ operator name (xs ++ ys)
    → head ≡ after line ((Operator, Open) ∷ (plain (Name name) ∷ [])) → one ≡ after head xs → two ≡ after one ys → OnOk r (all ≡ after two (plain Close ∷ [])) → OnOk r (all ≡ after line zs)
operator_of_two r line head one two all name xs ys zs e first next more last =
    then_more r line two all (((Operator, Open) ∷ (plain (Name name) ∷ [])) ++ (xs ++ ys)) (plain Close ∷ []) zs (sym e)
    (both line head two ((Operator, Open) ∷ (plain (Name name) ∷ [])) (xs ++ ys) first (both head one two xs ys next more)) last

-- an operator that holds five lists of words
pub operator_of_five : {T E : Type 0} (r : Result T E) (line head a b c d l all : Line) (name : List ℕ) (xs ys us vs ws zs : List Marked) → zs ≡ operator name (xs ++ (ys ++ (us ++ (vs ++ ws))))
    → head ≡ after line ((Operator, Open) ∷ (plain (Name name) ∷ [])) → a ≡ after head xs → b ≡ after a ys → c ≡ after b us → d ≡ after c vs → l ≡ after d ws
    → OnOk r (all ≡ after l (plain Close ∷ [])) → OnOk r (all ≡ after line zs)
operator_of_five r line head a b c d l all name xs ys us vs ws zs e h ha hb hc hd hl last =
    operator_of_two r line head a l all name xs (ys ++ (us ++ (vs ++ ws))) zs e h ha (both a b l ys (us ++ (vs ++ ws)) hb (both b c l us (vs ++ ws) hc (both c d l vs ws hd hl))) last

-- a head, a word, and two lists of words
pub file_of : {T E : Type 0} (r : Result T E) (line head one two three all : Line) (name : List ℕ) (w : Marked) (xs ys : List Marked)
    → head ≡ after line (head_of name) → one ≡ after head (w ∷ []) → two ≡ after one xs → three ≡ after two ys → OnOk r (all ≡ after three (plain Close ∷ []))
    → OnOk r (all ≡ after line (enclosed (plain (Name name) ∷ (w ∷ (xs ++ ys)))))
file_of r line head one two three all name w xs ys h a b c last =
    then_more r line three all (head_of name ++ (w ∷ (xs ++ ys))) (plain Close ∷ []) (enclosed (plain (Name name) ∷ (w ∷ (xs ++ ys)))) refl
    (both line head three (head_of name) (w ∷ (xs ++ ys)) h (both head one three (w ∷ []) (xs ++ ys) a (both one two three xs ys b c))) last
