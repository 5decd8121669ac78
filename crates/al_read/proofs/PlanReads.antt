-- The file of all tokens is the one whose words they are.
use Rattle.std.proofs.Common.{◌≡◌, ℕ, suc, ◌+◌, ◌-◌, ◌≤◌, false, inl, inr, List, [], ◌∷◌, ◌++◌, length, take, drop, Option, None, Result, Ok, Err, refl, sym, ap, subst, ◌∙◌, arith}
use Rattle.std.specs.Prelude.{nat_lt, MatchResult}
use Rattle.std.proofs.lemmas.List.{append-nil, take-append-drop, map-append}
use Rattle.std.proofs.lemmas.Bool.{cases_Bool}
use Rattle.std.proofs.lemmas.Bool.Decides.{nat_tests}
use Rattle.al_plan.specs.declared.file.PlanFile.{PlanFile}
use Rattle.al_plan.specs.declared.file.RefusedKind.{RefusedKind}
use Rattle.al_plan.specs.Grammar.{Marked, Operator, Dataset, Other, file_words, CanBeWritten}
use Rattle.al_read.specs.declared.token.Placed.{Placed}
use Rattle.al_read.specs.declared.plan.operator.Parts.{Parts}
use Rattle.al_read.specs.declared.plan.ReadRefused.{ReadRefused}
use Rattle.al_read.specs.declared.plan.ReadRefused.TheVariants as refused
use Rattle.al_read.specs.Tokens.{IsPlanText, IsTokens}
use Rattle.al_read.specs.Reads.{said, words_of, unmarked, is_dataset, is_operator, places_of, operators_in, IsShallow, Reads, Refuses, form}
use Rattle.al_read.specs.PlanReading.{State, Outcome, Read, Stops, start, shallow_len, large_of, or_large, unless_large, whole_of, stopped_with, kind_stopped, file_with, answer_of, file_of_tokens, file_at, Answers}
use Rattle.al_read.proofs.Readings.{one}
use Rattle.al_read.proofs.PlanRefuses.{file_stops}
use Rattle.al_read.proofs.PlanForms.{Ready, Taken, AreSound}
use Rattle.al_read.proofs.PlanWhole.{whole_form, parts_words, PartsFit}
use Rattle.al_read.proofs.PlanText.{told, all_taken, sound_tokens, front_shallow, behind_deep}

-- what a file is of its tokens
pub record IsFileOf (tokens : List Placed) (f : PlanFile) : Type 0 where
  pub words : words_of tokens ≡ unmarked (file_words f)
  pub fits : CanBeWritten f
  pub dataset_places : f.dataset_places ≡ places_of is_dataset (file_words f) tokens
  pub places : f.places ≡ places_of is_operator (file_words f) tokens
  pub shallow : IsShallow (words_of tokens)
  pub few : operators_in (file_words f) ≤ 256

pub file_is : (bytes : List ℕ) (tokens : List Placed) (f : PlanFile) → IsPlanText bytes → IsTokens 0 bytes tokens → IsFileOf tokens f → Reads bytes f
file_is bytes tokens f text all h = record {
  tokens = tokens;
  text = text;
  are_all = all;
  words = h.words;
  fits = h.fits;
  dataset_places = h.dataset_places;
  places = h.places;
  shallow = h.shallow;
  few = h.few;
}

pub is_file : (bytes : List ℕ) (f : PlanFile) → (r : Reads bytes f) → IsFileOf r.tokens f
is_file bytes f r = record {
  words = r.words;
  fits = r.fits;
  dataset_places = r.dataset_places;
  places = r.places;
  shallow = r.shallow;
  few = r.few;
}

-- as many places as operators
pub place_count : (ms : List Marked) (ts : List Placed) → words_of ts ≡ unmarked ms → length (places_of is_operator ms ts) ≡ operators_in ms
place_count [] ts e = refl
place_count (m ∷ ms) [] e = absurd cc
place_count ((Other, w) ∷ ms) (t ∷ ts) e = let others : words_of ts ≡ unmarked ms = cc in place_count ms ts others
place_count ((Dataset, w) ∷ ms) (t ∷ ts) e = let others : words_of ts ≡ unmarked ms = cc in place_count ms ts others
place_count ((Operator, w) ∷ ms) (t ∷ ts) e = let others : words_of ts ≡ unmarked ms = cc in ap suc (place_count ms ts others)

few_large : (operators : List ℕ) → length operators ≤ 256 → large_of operators ≡ None
few_large operators h = let off : nat_lt 256 (length operators) ≡ false = grind (arith, nat_tests) in rw off refl

abbrev answered : PlanFile → Result PlanFile ReadRefused
answered f = Ok f

answered_same : (f g : PlanFile) → answered f ≡ answered g → f ≡ g
answered_same f g e = cc

-- ---- what is answered is the file

stopped_no_file : (k : RefusedKind) (rest deep : List Placed) (end : ℕ) (f : PlanFile) → stopped_with k rest deep end ≡ Ok f → ⊥
stopped_no_file k [] [] end f e = cc
stopped_no_file k [] (t ∷ ts) end f e = cc
stopped_no_file k (t ∷ ts) deep end f e = cc

few_or_not : (operators : List ℕ) (other : Result PlanFile ReadRefused) (f : PlanFile) → unless_large operators other ≡ Ok f → (length operators ≤ 256) × (other ≡ Ok f)
few_or_not operators other f e =
    elim (cases_Bool (nat_lt 256 (length operators))) [
      | inl on ↦ let k = rw on at e in absurd cc
      | inr off ↦ let few : length operators ≤ 256 = grind (arith, nat_tests) in (few, rw off at e)
    ]

whole_is : (parts : Parts) (s : State) (rest deep : List Placed) (end : ℕ) (f : PlanFile) → whole_of parts s rest deep end ≡ Ok f → (rest ≡ []) × (deep ≡ []) × (file_with parts s ≡ f)
whole_is parts s [] [] end f e = (refl, refl, answered_same (file_with parts s) f e)
whole_is parts s [] (t ∷ ts) end f e = absurd cc
whole_is parts s (t ∷ ts) deep end f e = absurd cc

record Parsed (tokens deep : List Placed) (o : Outcome Parts) (f : PlanFile) : Type 0 where
  pub parts : Parts
  pub s : State
  pub is : o ≡ Read parts s
  pub rest : s.tokens ≡ []
  pub nothing : deep ≡ []
  pub file : file_with parts s ≡ f
  pub few : length s.operators ≤ 256

parsed : (tokens deep : List Placed) (end : ℕ) (o : Outcome Parts) (f : PlanFile) → answer_of o deep end ≡ Ok f → Parsed tokens deep o f
unfolding answer_of
parsed tokens deep end (Read parts s) f e =
    let a = few_or_not s.operators (whole_of parts s s.tokens deep end) f e in
    let w = whole_is parts s s.tokens deep end f a.1 in
    record { parts = parts; s = s; is = refl; rest = w.0; nothing = w.1; file = w.2; few = a.0 }
parsed tokens deep end (Stops k s) f e =
    let a = few_or_not s.operators (stopped_with (kind_stopped k) s.tokens deep end) f e in
    absurd (stopped_no_file (kind_stopped k) s.tokens deep end f a.1)

pub file_takes : (tokens : List Placed) (end : ℕ) (f : PlanFile) → file_of_tokens tokens end ≡ Ok f → IsFileOf tokens f
unfolding file_of_tokens
file_takes tokens end f e =
    let n = shallow_len 0 tokens in
    let front = take n tokens in
    let p = parsed front (drop n tokens) end (file_at (length front) (start front)) f e in
    let t = (whole_form (length front)).takes (start front) p.s p.parts p.is in
    let taken = subst (λ (x : Parts). Taken (start front) (parts_words x) p.s) t.value_is t.taken in
    let fit = subst PartsFit t.value_is t.fit in
    let all : front ≡ tokens = sym (append-nil front) ∙ ap (λ (l : List Placed). front ++ l) (sym p.nothing) ∙ take-append-drop n tokens in
    let w = told (parts_words p.parts) (start front) p.s taken in
    let words : words_of front ≡ unmarked (parts_words p.parts) = w.words ∙ ap (λ (l : List Placed). unmarked (parts_words p.parts) ++ words_of l) p.rest ∙ append-nil (unmarked (parts_words p.parts)) in
    let own : IsFileOf front (file_with p.parts p.s) = record {
      words = words;
      fits = record { version = fit.version; columns = fit.columns; root = fit.root };
      dataset_places = w.datasets;
      places = w.operators;
      shallow = front_shallow tokens;
      few = let count = place_count (parts_words p.parts) front words in let few = p.few in omega (arith, ap length w.operators, count, few);
    } in
    subst (λ (l : List Placed). IsFileOf l f) all (subst (IsFileOf front) p.file own)

-- ---- the file is answered

abbrev parts_of : PlanFile → Parts
parts_of f = record { version = f.version; datasets = f.datasets; root = f.root }

-- no parenthesis of the tokens opens too deep
all_shallow : (tokens : List Placed) → IsShallow (words_of tokens) → drop (shallow_len 0 tokens) tokens ≡ []
all_shallow tokens h = go (drop (shallow_len 0 tokens) tokens) refl where
  go : (us : List Placed) → drop (shallow_len 0 tokens) tokens ≡ us → us ≡ []
  go [] e = refl
  go (t ∷ us) e =
      let n = shallow_len 0 tokens in
      let split : words_of tokens ≡ words_of (take n tokens) ++ said t.token ∷ words_of us =
      ap words_of (sym (take-append-drop n tokens)) ∙ ap (λ (l : List Placed). words_of (take n tokens ++ l)) e ∙ map-append (λ (x : Placed). said x.token) (take n tokens) (t ∷ us) in
      absurd (h (words_of (take n tokens)) (words_of us) (said t.token) split (behind_deep tokens t us e))

pub file_again : (tokens : List Placed) (end : ℕ) (f : PlanFile) → AreSound tokens → IsFileOf tokens f → file_of_tokens tokens end ≡ Ok f
unfolding file_of_tokens answer_of
file_again tokens end f sound h =
    let n = shallow_len 0 tokens in
    let nothing = all_shallow tokens h.shallow in
    let all : take n tokens ≡ tokens = sym (append-nil (take n tokens)) ∙ ap (λ (l : List Placed). take n tokens ++ l) (sym nothing) ∙ take-append-drop n tokens in
    let taken = all_taken (file_words f) tokens [] [] h.words in
    let fit : PartsFit (parts_of f) = record { version = h.fits.version; columns = h.fits.columns; root = h.fits.root } in
    let ready : Ready (length tokens) (start tokens) = record { fuel = omega arith; sound = sound } in
    let places = places_of is_operator (file_words f) tokens in
    let sets = places_of is_dataset (file_words f) tokens in
    let end_state : State = record { tokens = []; datasets = sets; operators = places } in
    let read : file_at (length tokens) (start tokens) ≡ Read (parts_of f) end_state = (whole_form (length tokens)).again (start tokens) end_state (parts_of f) ready fit taken in
    let few : length places ≤ 256 = let c = place_count (file_words f) tokens h.words in let most = h.few in omega arith in
    let file : file_with (parts_of f) end_state ≡ f = ap (λ (l : List ℕ). let g : PlanFile = record { version = f.version; datasets = f.datasets; dataset_places = l; root = f.root; places = places } in g) (sym h.dataset_places) ∙ ap (λ (l : List ℕ). let g : PlanFile = record { version = f.version; datasets = f.datasets; dataset_places = f.dataset_places; root = f.root; places = l } in g) (sym h.places) in
    ap (λ (l : List Placed). answer_of (file_at (length l) (start l)) (drop n tokens) end) all
    ∙ ap (λ (o : Outcome Parts). answer_of o (drop n tokens) end) read
    ∙ ap (λ (d : List Placed). unless_large places (whole_of (parts_of f) end_state [] d end)) nothing
    ∙ ap (λ (o : Option ℕ). or_large o (answered (file_with (parts_of f) end_state))) (few_large places few)
    ∙ ap answered file

-- ---- of a text

one_tokens : (bytes : List ℕ) (ts us : List Placed) → IsTokens 0 bytes ts → IsTokens 0 bytes us → ts ≡ us
one_tokens bytes ts us x y = (one bytes).tokens ts us x y

pub one_file : (bytes : List ℕ) (f g : PlanFile) → Reads bytes f → Reads bytes g → f ≡ g
one_file bytes f g x y =
    let same = one_tokens bytes x.tokens y.tokens x.are_all y.are_all in
    let first = file_again x.tokens 0 f (sound_tokens bytes x.tokens x.are_all) (is_file bytes f x) in
    let second = file_again y.tokens 0 g (sound_tokens bytes y.tokens y.are_all) (is_file bytes g y) in
    answered_same f g (sym first ∙ ap (λ (l : List Placed). file_of_tokens l 0) same ∙ second)

pub file_given : (bytes : List ℕ) (tokens : List Placed) (end : ℕ) (f : PlanFile) → IsPlanText bytes × IsTokens 0 bytes tokens → file_of_tokens tokens end ≡ Ok f → Reads bytes f
file_given bytes tokens end f h e = file_is bytes tokens f h.0 h.1 (file_takes tokens end f e)

pub refusal_given : (bytes : List ℕ) (tokens : List Placed) (e : ReadRefused) → IsPlanText bytes × IsTokens 0 bytes tokens → Answers (Err e) (file_of_tokens tokens (length bytes)) → Refuses bytes e
refusal_given bytes tokens (refused.Refused r) h e = form h.0 tokens h.1 (file_stops tokens (length bytes) r (sound_tokens bytes tokens h.1) e)
refusal_given bytes tokens refused.NoMemory h e = tt

-- ---- what code answers

pub given : (bytes : List ℕ) (tokens : List Placed) (r : Result PlanFile ReadRefused) → IsPlanText bytes × IsTokens 0 bytes tokens → Answers r (file_of_tokens tokens (length bytes)) → MatchResult r (Reads bytes) (Refuses bytes)
given bytes tokens (Ok f) h e = file_given bytes tokens (length bytes) f h e
given bytes tokens (Err e) h a = refusal_given bytes tokens e h a
