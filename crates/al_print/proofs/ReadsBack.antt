-- The canonical text of a file states the file again.
use Rattle.std.proofs.Common.{◌≡◌, ℕ, ◌+◌, Bool, true, false, List, [], ◌∷◌, ◌++◌, length, refl, sym, ap, ◌∙◌, subst, append_assoc, codes, arith}
use Rattle.std.specs.Prelude.{◌||◌, if◌then◌else◌, IsUtf8}
use Rattle.std.proofs.lemmas.Str.{IsUtf8-append, IsUtf8-nil, IsUtf8-from_ascii}
use Rattle.std.proofs.lemmas.Str.Ascii.{IsAscii-nil, IsAscii-cons}
use Rattle.al_plan.specs.declared.file.PlanFile.{PlanFile}
use Rattle.al_plan.specs.Grammar.{Word, Marked, file_words}
use Rattle.al_read.specs.declared.token.Token.{Token}
use Rattle.al_read.specs.declared.token.Token.TheVariants as kinds
use Rattle.al_read.specs.declared.token.Placed.{Placed}
use Rattle.al_read.specs.Tokens.{IsGap, EndsWord, IsTokenText, IsNext, AreFirst}
use Rattle.al_read.specs.Reads.{said, words_of, unmarked, is_dataset, is_operator, places_of, IsShallow, Reads}
use Rattle.al_print.specs.Canonical.{spelled, is_open, is_close, line_of, plan_text}
use Rattle.al_print.specs.Laws.{ReadsBack}
use Rattle.al_print.proofs.LineLaws.{space}
use Rattle.al_print.proofs.Spelling.{token_of, IsSound, HasFit, said_again, spells, word_utf8}
use Rattle.al_print.proofs.InRange.{AllFit, file_fit}

abbrev CanBeSpelled : List Word → Type 0
CanBeSpelled [] = Unit {0}
CanBeSpelled (w ∷ ws) = IsSound w × HasFit w × CanBeSpelled ws

-- ---- the words of a file that was read

sound : (t : Token) (text rest : List ℕ) → IsTokenText t text rest → IsSound (said t)
sound kinds.Open text rest h = tt
sound kinds.Close text rest h = tt
sound (kinds.Name name) text rest h = h.1
sound (kinds.Var name) text rest h = h.1
sound (kinds.Number digits) text rest h = tt
sound (kinds.Str content) text rest h = (h.1, h.2)

abbrev AllSound : List Word → Type 0
AllSound [] = Unit {0}
AllSound (w ∷ ws) = IsSound w × AllSound ws

all_sound : (here : ℕ) (bytes : List ℕ) (ts : List Placed) (behind : ℕ) (rest : List ℕ) → AreFirst here bytes ts behind rest → AllSound (words_of ts)
all_sound here bytes [] behind rest a = tt
all_sound here bytes (t ∷ ts) behind rest a = (sound t.token a.2.text a.1 a.2.spells, all_sound a.0 a.1 ts behind rest a.3)

both : (ms : List Marked) → AllSound (unmarked ms) → AllFit ms → CanBeSpelled (unmarked ms)
both [] a b = tt
both (m ∷ ms) a b = (a.0, b.0, both ms a.1 b.1)

-- ---- the tokens of a line

abbrev next_place : ℕ → Bool → Word → ℕ
next_place here tight w = (here + length (space tight w)) + length (spelled w)

abbrev placed : ℕ → Bool → List Word → List Placed
placed here tight [] = []
placed here tight (w ∷ ws) = record { token = token_of w; place = here + length (space tight w) } ∷ placed (next_place here tight w) (is_open w) ws

abbrev end_of : ℕ → Bool → List Word → ℕ
end_of here tight [] = here
end_of here tight (w ∷ ws) = end_of (next_place here tight w) (is_open w) ws

words_again : (here : ℕ) (tight : Bool) (ws : List Word) → CanBeSpelled ws → words_of (placed here tight ws) ≡ ws
words_again here tight [] s = refl
words_again here tight (w ∷ ws) s = λ i. said_again w s.1 i ∷ words_again (next_place here tight w) (is_open w) ws s.2 i

gap : (b : Bool) → IsGap false (if b then [] else codes " ") false
gap true = refl
gap false = (refl, refl)

are_first : (here : ℕ) (tight : Bool) (ws : List Word) (tail : List ℕ) → CanBeSpelled ws → EndsWord tail → AreFirst here (line_of tight ws ++ tail) (placed here tight ws) (end_of here tight ws) tail
unfolding line_of
are_first here tight [] tail s e = (refl, refl)
are_first here tight (w ∷ ws) tail s e =
    let rest = line_of (is_open w) ws in
    let next : IsNext here ((space tight w ++ (spelled w ++ rest)) ++ tail) (record { token = token_of w; place = here + length (space tight w) }) (next_place here tight w) (rest ++ tail) = record {
      gap = space tight w;
      text = spelled w;
      split = append_assoc (space tight w) (spelled w ++ rest) tail ∙ ap (λ (zs : List ℕ). space tight w ++ zs) (append_assoc (spelled w) rest tail);
      between = gap (tight || is_close w);
      begins = refl;
      ends = refl;
      spells = spells w ws tail s.0 s.1 e;
    } in
    (next_place here tight w, rest ++ tail, next, are_first (next_place here tight w) (is_open w) ws tail s.2 e)

line_utf8 : (tight : Bool) (ws : List Word) → CanBeSpelled ws → IsUtf8 (line_of tight ws)
unfolding line_of
line_utf8 tight [] s = IsUtf8-nil
line_utf8 tight (w ∷ ws) s = word_utf8 tight w (line_of (is_open w) ws) s.0 s.1 (line_utf8 (is_open w) ws s.2)

-- ---- files

pub reads_back : ReadsBack
reads_back bytes f r short =
    let words = unmarked (file_words f) in
    let first = r.are_all.first in
    let sounds = subst AllSound r.words (all_sound 0 bytes r.tokens r.are_all.behind r.are_all.rest first) in
    let can : CanBeSpelled words = both (file_words f) sounds (file_fit f r.fits) in
    let tokens = placed 0 true words in
    let again : words_of tokens ≡ words = words_again 0 true words can in
    let end = IsUtf8-from_ascii (codes "\n") (IsAscii-cons 10 [] (omega arith) IsAscii-nil) in
    let g : PlanFile = record {
      version = f.version;
      datasets = f.datasets;
      dataset_places = places_of is_dataset (file_words f) tokens;
      root = f.root;
      places = places_of is_operator (file_words f) tokens;
    } in
    let reads : Reads (plan_text f) g = record {
      tokens = tokens;
      text = (short, IsUtf8-append (line_of true words) (codes "\n") (line_utf8 true words can) end);
      are_all = record { behind = end_of 0 true words; rest = codes "\n"; first = are_first 0 true words (codes "\n") can refl; last = (false, (refl, refl)) };
      words = again;
      fits = record { version = r.fits.version; columns = r.fits.columns; root = r.fits.root };
      dataset_places = refl;
      places = refl;
      shallow = subst IsShallow (r.words ∙ sym again) r.shallow;
      few = r.few;
    } in
    (g, reads, refl, refl)
