-- From words to tokens: what the words between two states are, which tokens a text has, and where a parenthesis opens too deep.
use Rattle.std.proofs.Common.{◌≡◌, ℕ, zero, suc, ◌+◌, ◌-◌, ◌≤◌, ◌==◌, Bool, true, false, ◌&&◌, inl, inr, List, [], ◌∷◌, ◌++◌, length, take, drop, refl, sym, ap, subst, ◌∙◌, append_assoc, arith}
use Rattle.std.specs.Prelude.{nat_lt}
use Rattle.std.specs.Char.{is_ascii_digit}
use Rattle.std.specs.List.{list_all}
use Rattle.std.specs.Str.{all_ascii_digits}
use Rattle.std.proofs.lemmas.List.{append-nil}
use Rattle.std.proofs.lemmas.Bool.{cases_Bool, false≢true, and_parts, ltb-true}
use Rattle.std.proofs.lemmas.Bool.Decides.{nat_tests}
use Rattle.al_csv.specs.Fields.{is_digits, without_sign}
use Rattle.al_plan.specs.Grammar.{Word, Open, Close, Name, Number, Mark, Dataset, Operator, Other, Marked}
use Rattle.al_read.specs.declared.token.Token.{Token}
use Rattle.al_read.specs.declared.token.Token.TheVariants as kinds
use Rattle.al_read.specs.declared.token.Placed.{Placed}
use Rattle.al_read.specs.Tokens.{is_name, is_number, are_digits, IsTokenText, AreFirst, IsTokens}
use Rattle.al_read.specs.Reads.{said, words_of, unmarked, is_dataset, is_operator, places_of, open_behind, IsTooDeep, IsShallow}
use Rattle.al_read.specs.PlanReading.{State, behind, depth_behind, count_behind, shallow_len}
use Rattle.al_read.proofs.PlanForms.{Taken, noted, IsSound, AreSound}

-- ---- the words between two states

abbrev pub standing : List Placed → List ℕ → List ℕ → State
standing tokens datasets operators = record { tokens = tokens; datasets = datasets; operators = operators }

pub record Told (s : State) (ms : List Marked) (r : State) : Type 0 where
  pub words : words_of s.tokens ≡ unmarked ms ++ words_of r.tokens
  pub datasets : r.datasets ≡ s.datasets ++ places_of is_dataset ms s.tokens
  pub operators : r.operators ≡ s.operators ++ places_of is_operator ms s.tokens

told_head : (k : Mark) (w : Word) (ms : List Marked) (s r : State) (t : Placed) (ts : List Placed) → s.tokens ≡ t ∷ ts → said t.token ≡ w → Told (noted k t.place s ts) ms r → Told s ((k, w) ∷ ms) r
told_head Other w ms s r t ts e f h = record {
  words = ap words_of e ∙ ap (λ (x : Word). x ∷ words_of ts) f ∙ ap (λ (l : List Word). w ∷ l) h.words;
  datasets = h.datasets ∙ ap (λ (l : List Placed). s.datasets ++ places_of is_dataset ((Other, w) ∷ ms) l) (sym e);
  operators = h.operators ∙ ap (λ (l : List Placed). s.operators ++ places_of is_operator ((Other, w) ∷ ms) l) (sym e);
}
told_head Dataset w ms s r t ts e f h = record {
  words = ap words_of e ∙ ap (λ (x : Word). x ∷ words_of ts) f ∙ ap (λ (l : List Word). w ∷ l) h.words;
  datasets = h.datasets ∙ append_assoc s.datasets (t.place ∷ []) (places_of is_dataset ms ts) ∙ ap (λ (l : List Placed). s.datasets ++ places_of is_dataset ((Dataset, w) ∷ ms) l) (sym e);
  operators = h.operators ∙ ap (λ (l : List Placed). s.operators ++ places_of is_operator ((Dataset, w) ∷ ms) l) (sym e);
}
told_head Operator w ms s r t ts e f h = record {
  words = ap words_of e ∙ ap (λ (x : Word). x ∷ words_of ts) f ∙ ap (λ (l : List Word). w ∷ l) h.words;
  datasets = h.datasets ∙ ap (λ (l : List Placed). s.datasets ++ places_of is_dataset ((Operator, w) ∷ ms) l) (sym e);
  operators = h.operators ∙ append_assoc s.operators (t.place ∷ []) (places_of is_operator ms ts) ∙ ap (λ (l : List Placed). s.operators ++ places_of is_operator ((Operator, w) ∷ ms) l) (sym e);
}

pub told : (ms : List Marked) (s r : State) → Taken s ms r → Told s ms r
told [] s r a = record {
  words = ap (λ (z : State). words_of z.tokens) a;
  datasets = sym (append-nil s.datasets ∙ ap (λ (z : State). z.datasets) a);
  operators = sym (append-nil s.operators ∙ ap (λ (z : State). z.operators) a);
}
told (m ∷ ms) s r a = told_head m.0 m.1 ms s r a.0 a.1 a.2 a.3 (told ms (noted m.0 a.0.place s a.1) r a.4)

same_word : (w x : Word) (ws xs : List Word) → w ∷ ws ≡ x ∷ xs → w ≡ x
same_word w x ws xs e = cc

same_words : (w x : Word) (ws xs : List Word) → w ∷ ws ≡ x ∷ xs → ws ≡ xs
same_words w x ws xs e = cc

no_words : (w : Word) (ws : List Word) → w ∷ ws ≡ [] → ⊥
no_words w ws e = cc

abbrev end_of : List Marked → List Placed → List ℕ → List ℕ → State
end_of ms ts ds os = standing [] (ds ++ places_of is_dataset ms ts) (os ++ places_of is_operator ms ts)

taken_head : (k : Mark) (w : Word) (ms : List Marked) (t : Placed) (ts : List Placed) (ds os : List ℕ) → said t.token ≡ w → ((ds os : List ℕ) → Taken (standing ts ds os) ms (end_of ms ts ds os)) → Taken (standing (t ∷ ts) ds os) ((k, w) ∷ ms) (end_of ((k, w) ∷ ms) (t ∷ ts) ds os)
taken_head Other w ms t ts ds os e h = (t, ts, refl, e, h ds os)
taken_head Dataset w ms t ts ds os e h =
    (t, ts, refl, e, subst (λ (l : List ℕ). Taken (standing ts (ds ++ t.place ∷ []) os) ms (standing [] l (os ++ places_of is_operator ms ts))) (append_assoc ds (t.place ∷ []) (places_of is_dataset ms ts)) (h (ds ++ t.place ∷ []) os))
taken_head Operator w ms t ts ds os e h =
    (t, ts, refl, e, subst (λ (l : List ℕ). Taken (standing ts ds (os ++ t.place ∷ [])) ms (standing [] (ds ++ places_of is_dataset ms ts) l)) (append_assoc os (t.place ∷ []) (places_of is_operator ms ts)) (h ds (os ++ t.place ∷ [])))

-- tokens with these words are taken as these words
pub all_taken : (ms : List Marked) (ts : List Placed) (ds os : List ℕ) → words_of ts ≡ unmarked ms → Taken (standing ts ds os) ms (end_of ms ts ds os)
all_taken [] [] ds os e = ap (λ (l : List ℕ). standing [] l os) (sym (append-nil ds)) ∙ ap (λ (l : List ℕ). standing [] (ds ++ []) l) (sym (append-nil os))
all_taken [] (t ∷ ts) ds os e = absurd (no_words (said t.token) (words_of ts) e)
all_taken (m ∷ ms) [] ds os e = absurd (no_words m.1 (unmarked ms) (sym e))
all_taken (m ∷ ms) (t ∷ ts) ds os e =
    let others = same_words (said t.token) m.1 (words_of ts) (unmarked ms) e in
    taken_head m.0 m.1 ms t ts ds os (same_word (said t.token) m.1 (words_of ts) (unmarked ms) e) (λ d o. all_taken ms ts d o others)

-- ---- tokens of a text are sound

name_short : (name : List ℕ) → is_name name ≡ true → length name ≤ 32000
name_short [] h = absurd (false≢true h)
name_short (b ∷ name) h =
    let few = (and_parts _ (nat_lt (length name) 64) h).1 in
    omega (arith, ltb-true (length name) 64 few)

digits_all : (ds : List ℕ) → list_all is_ascii_digit ds ≡ all_ascii_digits ds
digits_all [] = refl
digits_all (d ∷ ds) = ap (λ (b : Bool). is_ascii_digit d && b) (digits_all ds)

digits_are : (ds : List ℕ) → are_digits ds ≡ true → is_digits ds ≡ true
digits_are [] h = absurd (false≢true h)
digits_are (d ∷ ds) h = ap (λ (b : Bool). is_ascii_digit d && b) (sym (digits_all ds)) ∙ h

plus_no_digit : (d : ℕ) → is_ascii_digit d ≡ true → d == 43 ≡ false
plus_no_digit d h = grind (arith, nat_tests)

number_digits : (number : List ℕ) → is_number number ≡ true → is_digits (without_sign number) ≡ true
number_digits [] h = absurd (false≢true h)
number_digits (b ∷ rest) h =
    elim (cases_Bool (b == 45)) [
      | inl on ↦ let k = rw on at h in rw on (digits_are rest k)
      | inr off ↦
          let k = rw off at h in
          let first = (and_parts (is_ascii_digit b) (list_all is_ascii_digit rest) k).0 in
          rw (off, plus_no_digit b first) (digits_are (b ∷ rest) k)
    ]

sound_text : (t : Token) (text rest : List ℕ) → IsTokenText t text rest → IsSound t
sound_text kinds.Open text rest h = tt
sound_text kinds.Close text rest h = tt
sound_text (kinds.Name name) text rest h = name_short name h.1
sound_text (kinds.Var name) text rest h = tt
sound_text (kinds.Number number) text rest h = number_digits number h.1
sound_text (kinds.Str content) text rest h = tt

sound_first : (ts : List Placed) (here behind : ℕ) (bytes rest : List ℕ) → AreFirst here bytes ts behind rest → AreSound ts
sound_first [] here behind bytes rest h = tt
sound_first (t ∷ ts) here behind bytes rest h =
    let next = h.2 in
    (sound_text t.token next.text h.1 next.spells, sound_first ts h.0 behind h.1 rest h.3)

pub sound_tokens : (bytes : List ℕ) (ts : List Placed) → IsTokens 0 bytes ts → AreSound ts
sound_tokens bytes ts h = sound_first ts 0 h.behind bytes h.rest h.first

pub sound_take : (n : ℕ) (ts : List Placed) → AreSound ts → AreSound (take n ts)
sound_take zero ts h = tt
sound_take (suc n) [] h = tt
sound_take (suc n) (t ∷ ts) h = (h.0, sound_take n ts h.1)

-- ---- where a parenthesis opens too deep

-- where so many are open in front of the words, none opens too deep
abbrev NoneDeep : ℕ → List Word → Type 0
NoneDeep depth ws = (before after : List Word) (w : Word) → ws ≡ before ++ w ∷ after → w ≡ Open → open_behind depth before ≡ 100 → ⊥

record Cut (depth : ℕ) (ts : List Placed) (n : ℕ) : Type 0 where
  pub within : n ≤ length ts
  pub none : NoneDeep depth (words_of (take n ts))
  pub deep : (t : Placed) (us : List Placed) → drop n ts ≡ t ∷ us → (said t.token ≡ Open) × (open_behind depth (words_of (take n ts)) ≡ 100)

no_word : (before after : List Word) (w : Word) → [] ≡ before ++ w ∷ after → ⊥
no_word [] after w e = cc
no_word (b ∷ bs) after w e = cc

none_behind : (depth inner : ℕ) (v : Word) (ws : List Word) → ((bs : List Word) → open_behind depth (v ∷ bs) ≡ open_behind inner bs) → (v ≡ Open → depth ≡ 100 → ⊥) → NoneDeep inner ws → NoneDeep depth (v ∷ ws)
none_behind depth inner v ws step first h = λ before after w e opens full. go before after w e opens full where
  go : (before after : List Word) (w : Word) → v ∷ ws ≡ before ++ w ∷ after → w ≡ Open → open_behind depth before ≡ 100 → ⊥
  go [] after w e opens full = first (same_word v w ws after e ∙ opens) full
  go (b ∷ bs) after w e opens full =
      let same = same_word v b ws (bs ++ w ∷ after) e in
      h bs after w (same_words v b ws (bs ++ w ∷ after) e) opens (sym (step bs) ∙ ap (λ (x : Word). open_behind depth (x ∷ bs)) same ∙ full)

cut_behind : (depth inner n : ℕ) (t : Placed) (ts : List Placed) → ((bs : List Word) → open_behind depth (said t.token ∷ bs) ≡ open_behind inner bs) → (said t.token ≡ Open → depth ≡ 100 → ⊥) → Cut inner ts n → Cut depth (t ∷ ts) (suc n)
cut_behind depth inner n t ts step first c =
    let within = c.within in
    record {
      within = omega arith;
      none = none_behind depth inner (said t.token) (words_of (take n ts)) step first c.none;
      deep = λ u us e. let d = c.deep u us e in (d.0, step (words_of (take n ts)) ∙ d.1);
    }

cut_here : (depth : ℕ) (t : Placed) (ts : List Placed) → said t.token ≡ Open → depth ≡ 100 → Cut depth (t ∷ ts) 0
cut_here depth t ts opens full = record {
  within = omega arith;
  none = λ before after w e _ _. no_word before after w e;
  deep = λ u us e. (ap (λ (x : Placed). said x.token) (same_placed u t us ts (sym e)) ∙ opens, full);
} where
  same_placed : (u t : Placed) (us ts : List Placed) → u ∷ us ≡ t ∷ ts → u ≡ t
  same_placed u t us ts e = cc

full_at : (depth : ℕ) → nat_lt depth 100 ≡ false → depth ≤ 100 → depth ≡ 100
full_at depth e h = grind (arith, nat_tests)

cut_token : (k : Token) (t : Placed) (ts : List Placed) (depth : ℕ) → t.token ≡ k → depth ≤ 100 → ((d : ℕ) → d ≤ 100 → Cut d ts (shallow_len d ts)) → Cut depth (t ∷ ts) (count_behind (depth_behind depth k) (λ d. shallow_len d ts))
cut_token kinds.Open t ts depth e h rec =
    elim (cases_Bool (nat_lt depth 100)) [
      | inl on ↦
          let below = ltb-true depth 100 on in
          rw on (cut_behind depth (suc depth) (shallow_len (suc depth) ts) t ts (λ bs. ap (λ (k : Token). open_behind depth (said k ∷ bs)) e) (λ opens full. absurd (omega arith)) (rec (suc depth) (omega arith)))
      | inr off ↦ rw off (cut_here depth t ts (ap said e) (full_at depth off h))
    ]
cut_token kinds.Close t ts depth e h rec = cut_behind depth (depth - 1) (shallow_len (depth - 1) ts) t ts (λ bs. ap (λ (k : Token). open_behind depth (said k ∷ bs)) e) (λ opens full. let no : Close ≡ Open = sym (ap said e) ∙ opens in absurd cc) (rec (depth - 1) (omega arith))
cut_token (kinds.Name w) t ts depth e h rec = cut_behind depth depth (shallow_len depth ts) t ts (λ bs. ap (λ (k : Token). open_behind depth (said k ∷ bs)) e) (λ opens full. let no : Name w ≡ Open = sym (ap said e) ∙ opens in absurd cc) (rec depth h)
cut_token (kinds.Var w) t ts depth e h rec = cut_behind depth depth (shallow_len depth ts) t ts (λ bs. ap (λ (k : Token). open_behind depth (said k ∷ bs)) e) (λ opens full. let no : said (kinds.Var w) ≡ Open = sym (ap said e) ∙ opens in absurd cc) (rec depth h)
cut_token (kinds.Number w) t ts depth e h rec = cut_behind depth depth (shallow_len depth ts) t ts (λ bs. ap (λ (k : Token). open_behind depth (said k ∷ bs)) e) (λ opens full. let no : said (kinds.Number w) ≡ Open = sym (ap said e) ∙ opens in absurd cc) (rec depth h)
cut_token (kinds.Str w) t ts depth e h rec = cut_behind depth depth (shallow_len depth ts) t ts (λ bs. ap (λ (k : Token). open_behind depth (said k ∷ bs)) e) (λ opens full. let no : said (kinds.Str w) ≡ Open = sym (ap said e) ∙ opens in absurd cc) (rec depth h)

cut_at : (ts : List Placed) (depth : ℕ) → depth ≤ 100 → Cut depth ts (shallow_len depth ts)
unfolding shallow_len
cut_at [] depth h = record { within = omega arith; none = λ before after w e _ _. no_word before after w e; deep = λ t us e. absurd cc }
cut_at (t ∷ ts) depth h = cut_token t.token t ts depth refl h (λ d few. cut_at ts d few)

pub front_shallow : (ts : List Placed) → IsShallow (words_of (take (shallow_len 0 ts) ts))
front_shallow ts = λ before after w e deep. (cut_at ts 0 (omega arith)).none before after w e deep.0 deep.1

pub behind_deep : (ts : List Placed) (t : Placed) (us : List Placed) → drop (shallow_len 0 ts) ts ≡ t ∷ us → IsTooDeep (words_of (take (shallow_len 0 ts) ts)) (said t.token)
behind_deep ts t us e = (cut_at ts 0 (omega arith)).deep t us e
