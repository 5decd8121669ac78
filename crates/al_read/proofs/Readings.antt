-- The tokens of a text one after the other; a text has one reading.
use Rattle.std.proofs.Common.{◌≡◌, ℕ, ◌+◌, ◌-◌, ◌<◌, ◌≤◌, Bool, true, false, inl, inr, List, [], ◌∷◌, ◌++◌, length, take, drop, Some, None, refl, sym, ap, ◌∙◌, subst, length-append, length-drop, arith}
use Rattle.std.proofs.lemmas.List.{append-nil, take-append-drop, drop_at}
use Rattle.std.proofs.lemmas.Option.{none-some}
use Rattle.al_read.specs.declared.token.Token.{Token}
use Rattle.al_read.specs.declared.token.Token.TheVariants as kinds
use Rattle.al_read.specs.declared.token.Placed.{Placed}
use Rattle.al_read.specs.Tokens.{is_name, is_number, IsGap, IsLastGap, BeginsPiece, IsTokenText, IsNext, AreFirst, IsTokens, IsBadPiece, FirstBad, HasOneReading}
use Rattle.al_read.specs.TokenReading.{gap_len, token_at}
use Rattle.al_read.proofs.Cases.{same_pair}
use Rattle.al_read.proofs.GapLaws.{gap_len-gap, gap_len-whole, gap_len-piece, cuts}
use Rattle.al_read.proofs.TokenLaws.{token_again, no_token, token_takes, begins_piece}

-- ---- what is next is determined

record Front (here : ℕ) (bytes : List ℕ) (t : Placed) (behind : ℕ) (rest : List ℕ) : Type 0 where
  pub token_is : token_at (drop (gap_len false bytes) bytes) ≡ Some (t.token, rest)
  pub place_is : t.place ≡ here + gap_len false bytes
  pub behind_is : behind + length rest ≡ here + length bytes

-- behind a gap stands a piece
cut_is : (bytes gap piece : List ℕ) → bytes ≡ gap ++ piece → IsGap false gap false → BeginsPiece piece → (gap_len false bytes ≡ length gap) × (drop (gap_len false bytes) bytes ≡ piece)
cut_is bytes gap piece split between stands =
    let n : gap_len false bytes ≡ length gap = ap (gap_len false) split ∙ gap_len-gap false gap piece between (gap_len-piece piece stands) in
    (n, ap (λ (k : ℕ). drop k bytes) n ∙ ap (drop (length gap)) split ∙ drop_at gap piece (length gap) refl)

front : (here : ℕ) (bytes : List ℕ) (t : Placed) (behind : ℕ) (rest : List ℕ) → IsNext here bytes t behind rest → Front here bytes t behind rest
front here bytes t behind rest n =
    let c = cut_is bytes n.gap (n.text ++ rest) n.split n.between (begins_piece t.token n.text rest n.spells) in
    let all : length bytes ≡ length n.gap + (length n.text + length rest) = ap length n.split ∙ length-append n.gap (n.text ++ rest) ∙ ap (λ (k : ℕ). length n.gap + k) (length-append n.text rest) in
    let begins = n.begins in
    let ends = n.ends in
    record {
      token_is = ap token_at c.1 ∙ token_again t.token n.text rest n.spells;
      place_is = begins ∙ ap (λ (k : ℕ). here + k) (sym c.0);
      behind_is = omega arith;
    }

abbrev placed : Token → ℕ → Placed
placed token place = record { token = token; place = place }

record Same (t u : Placed) (m n : ℕ) (r s : List ℕ) : Type 0 where
  pub token_is : t ≡ u
  pub place_is : m ≡ n
  pub rest_is : r ≡ s

next_same : (here : ℕ) (bytes : List ℕ) (t u : Placed) (m n : ℕ) (r s : List ℕ) → IsNext here bytes t m r → IsNext here bytes u n s → Same t u m n r s
next_same here bytes t u m n r s x y =
    let f = front here bytes t m r x in
    let g = front here bytes u n s y in
    let both = same_pair (t.token, r) (u.token, s) (sym f.token_is ∙ g.token_is) in
    let token = both.0 in
    let rest = both.1 in
    let place : t.place ≡ u.place = f.place_is ∙ sym g.place_is in
    let here_is = f.behind_is in
    let there_is = g.behind_is in
    let long : length r ≡ length s = ap length rest in
    record {
      token_is = ap (λ (k : Token). placed k t.place) token ∙ ap (placed u.token) place;
      place_is = omega arith;
      rest_is = rest;
    }

-- ---- nothing is next

abbrev Stops : ℕ → List ℕ → Type 0
Stops here bytes = (t : Placed) (behind : ℕ) (rest : List ℕ) → IsNext here bytes t behind rest → ⊥

nothing_behind : (bytes : List ℕ) → drop (length bytes) bytes ≡ []
nothing_behind [] = refl
nothing_behind (b ∷ bytes) = nothing_behind bytes

last_cut : (bytes : List ℕ) → IsLastGap bytes → drop (gap_len false bytes) bytes ≡ []
last_cut bytes last = ap (λ (k : ℕ). drop k bytes) (gap_len-whole false last.0 bytes last.1) ∙ nothing_behind bytes

last_stops : (here : ℕ) (bytes : List ℕ) → IsLastGap bytes → Stops here bytes
unfolding token_at
last_stops here bytes last = λ t behind rest n.
    let f = front here bytes t behind rest n in
    none-some (t.token, rest) (ap token_at (sym (last_cut bytes last)) ∙ f.token_is)

bad_cut : (here : ℕ) (bytes : List ℕ) (at : ℕ) → (b : IsBadPiece here bytes at) → (gap_len false bytes ≡ length b.gap) × (drop (gap_len false bytes) bytes ≡ b.piece)
bad_cut here bytes at b = cut_is bytes b.gap b.piece b.split b.between b.stands

bad_place : (here : ℕ) (bytes : List ℕ) (at : ℕ) → IsBadPiece here bytes at → at ≡ here + gap_len false bytes
bad_place here bytes at b = b.begins ∙ ap (λ (k : ℕ). here + k) (sym (bad_cut here bytes at b).0)

bad_stops : (here : ℕ) (bytes : List ℕ) (at : ℕ) → IsBadPiece here bytes at → Stops here bytes
bad_stops here bytes at b = λ t behind rest n.
    let f = front here bytes t behind rest n in
    let taken = token_takes b.piece rest t.token (ap token_at (sym (bad_cut here bytes at b).1) ∙ f.token_is) in
    b.bad t.token taken.text rest taken.split taken.spells

last_not_bad : (here : ℕ) (bytes : List ℕ) (at : ℕ) → IsLastGap bytes → IsBadPiece here bytes at → ⊥
last_not_bad here bytes at last b = subst BeginsPiece (sym (bad_cut here bytes at b).1 ∙ last_cut bytes last) b.stands

-- ---- one reading

record SameFirst (ts us : List Placed) (m n : ℕ) (r s : List ℕ) : Type 0 where
  pub tokens : ts ≡ us
  pub behind_is : m ≡ n
  pub rest_is : r ≡ s

stops_there : (here m : ℕ) (bytes r : List ℕ) → m ≡ here → r ≡ bytes → Stops m r → Stops here bytes
stops_there here m bytes r e d stops = subst (λ (k : ℕ). Stops k bytes) e (subst (λ (x : List ℕ). Stops m x) d stops)

same_first : (ts us : List Placed) (here m n : ℕ) (bytes r s : List ℕ) → AreFirst here bytes ts m r → Stops m r → AreFirst here bytes us n s → Stops n s → SameFirst ts us m n r s
same_first [] [] here m n bytes r s x stops y ends = record { tokens = refl; behind_is = x.0 ∙ sym y.0; rest_is = x.1 ∙ sym y.1 }
same_first [] (u ∷ us) here m n bytes r s x stops y ends = absurd (stops_there here m bytes r x.0 x.1 stops u y.0 y.1 y.2)
same_first (t ∷ ts) [] here m n bytes r s x stops y ends = absurd (stops_there here n bytes s y.0 y.1 ends t x.0 x.1 x.2)
same_first (t ∷ ts) (u ∷ us) here m n bytes r s x stops y ends =
    let one = next_same here bytes t u x.0 y.0 x.1 y.1 x.2 y.2 in
    let moved = subst (λ (k : ℕ). AreFirst k x.1 us n s) (sym one.place_is) (subst (λ (l : List ℕ). AreFirst y.0 l us n s) (sym one.rest_is) y.3) in
    let others = same_first ts us x.0 m n x.1 r s x.3 stops moved ends in
    record {
      tokens = ap (λ (k : Placed). k ∷ ts) one.token_is ∙ ap (λ (l : List Placed). u ∷ l) others.tokens;
      behind_is = others.behind_is;
      rest_is = others.rest_is;
    }

pub one : (bytes : List ℕ) → HasOneReading bytes
one bytes = record {
  tokens = λ ts us x y. (same_first ts us 0 x.behind y.behind bytes x.rest y.rest x.first (last_stops x.behind x.rest x.last) y.first (last_stops y.behind y.rest y.last)).tokens;
  bad = λ i k x y.
      let s = same_first x.tokens y.tokens 0 x.behind y.behind bytes x.rest y.rest x.first (bad_stops x.behind x.rest i x.piece) y.first (bad_stops y.behind y.rest k y.piece) in
      let there = bad_place x.behind x.rest i x.piece in
      let here = bad_place y.behind y.rest k y.piece in
      there ∙ ap (λ (n : ℕ). n + gap_len false x.rest) s.behind_is ∙ ap (λ (l : List ℕ). y.behind + gap_len false l) s.rest_is ∙ sym here;
  apart = λ ts i x y.
      let s = same_first ts y.tokens 0 x.behind y.behind bytes x.rest y.rest x.first (last_stops x.behind x.rest x.last) y.first (bad_stops y.behind y.rest i y.piece) in
      last_not_bad y.behind y.rest i (subst IsLastGap s.rest_is x.last) y.piece;
}

-- ---- reading from the left

add_next : (ts : List Placed) (here n m : ℕ) (bytes r s : List ℕ) (t : Placed) → AreFirst here bytes ts n r → IsNext n r t m s → AreFirst here bytes (ts ++ t ∷ []) m s
add_next [] here n m bytes r s t x next = (m, s, subst (λ (k : ℕ). IsNext k bytes t m s) x.0 (subst (λ (l : List ℕ). IsNext n l t m s) x.1 next), (refl, refl))
add_next (u ∷ ts) here n m bytes r s t x next = (x.0, x.1, x.2, add_next ts x.0 n m x.1 r s t x.3 next)

-- the tokens so far, and the bytes behind them
pub record Kept (bytes : List ℕ) (tokens : List Placed) (rest : List ℕ) : Type 0 where
  pub first : AreFirst 0 bytes tokens (length bytes - length rest) rest
  pub within : length rest ≤ length bytes

piece_len : (r piece : List ℕ) → piece ≡ drop (gap_len false r) r → length piece ≤ length r
piece_len r piece e = omega (arith, ap length e, length-drop (gap_len false r) r)

-- what stands in front of a piece
record Cut (r piece : List ℕ) : Type 0 where
  pub gap : List ℕ
  pub split : r ≡ gap ++ piece
  pub between : IsGap false gap false
  pub stands : BeginsPiece piece

cut : (r piece : List ℕ) → piece ≡ drop (gap_len false r) r → (piece ≡ [] → ⊥) → Cut r piece
cut r piece e some =
    let n = gap_len false r in
    let c = cuts false r in
    elim c.behind [
      | inl none ↦ absurd (some (e ∙ none))
      | inr x ↦ record {
        gap = take n r;
        split = sym (take-append-drop n r) ∙ ap (λ (s : List ℕ). take n r ++ s) (sym e);
        between = subst (λ (b : Bool). IsGap false (take n r) b) x.0 c.gap;
        stands = subst BeginsPiece (sym e) x.1;
      }
    ]

pub keeps_on : (bytes rest piece after : List ℕ) (tokens : List Placed) (token : Token) (place : ℕ) → Kept bytes tokens rest → piece ≡ drop (gap_len false rest) rest → (piece ≡ [] → ⊥) → token_at piece ≡ Some (token, after) → place ≡ length bytes - length piece
    → Kept bytes (tokens ++ record { token = token; place = place } ∷ []) after
keeps_on bytes rest piece after tokens token place kept e some read at =
    let c = cut rest piece e some in
    let taken = token_takes piece after token read in
    let within = kept.within in
    let long : length rest ≡ length c.gap + length piece = ap length c.split ∙ length-append c.gap piece in
    let front_long : length piece ≡ length taken.text + length after = ap length taken.split ∙ length-append taken.text after in
    record {
      first = add_next tokens 0 (length bytes - length rest) (length bytes - length after) bytes rest after (placed token place) kept.first (record {
        gap = c.gap;
        text = taken.text;
        split = c.split ∙ ap (λ (s : List ℕ). c.gap ++ s) taken.split;
        between = c.between;
        begins = omega arith;
        ends = omega arith;
        spells = taken.spells;
      });
      within = omega arith;
    }

name_some : (name : List ℕ) → is_name name ≡ true → 0 < length name
name_some [] h = absurd cc
name_some (b ∷ name) h = omega arith

number_some : (number : List ℕ) → is_number number ≡ true → 0 < length number
number_some [] h = absurd cc
number_some (b ∷ number) h = omega arith

text_some : (token : Token) (text rest : List ℕ) → IsTokenText token text rest → 0 < length text
text_some kinds.Open text rest h = omega (arith, ap length h)
text_some kinds.Close text rest h = omega (arith, ap length h)
text_some (kinds.Name name) text rest h = omega (arith, ap length h.0, name_some name h.1)
text_some (kinds.Var name) text rest h = omega (arith, ap length h.0)
text_some (kinds.Number number) text rest h = omega (arith, ap length h.0, number_some number h.1)
text_some (kinds.Str content) text rest h = omega (arith, ap length h.0)

pub shorter : (rest piece after : List ℕ) (token : Token) → piece ≡ drop (gap_len false rest) rest → token_at piece ≡ Some (token, after) → length after < length rest
shorter rest piece after token e read =
    let taken = token_takes piece after token read in
    let front_long : length piece ≡ length taken.text + length after = ap length taken.split ∙ length-append taken.text after in
    let some = text_some token taken.text after taken.spells in
    let within = piece_len rest piece e in
    omega arith

pub is_bad : (bytes rest piece : List ℕ) (tokens : List Placed) (place : ℕ) → Kept bytes tokens rest → piece ≡ drop (gap_len false rest) rest → (piece ≡ [] → ⊥) → token_at piece ≡ None → place ≡ length bytes - length piece → FirstBad 0 bytes place
is_bad bytes rest piece tokens place kept e some read at =
    let c = cut rest piece e some in
    let within = kept.within in
    let long : length rest ≡ length c.gap + length piece = ap length c.split ∙ length-append c.gap piece in
    record {
      tokens = tokens;
      behind = length bytes - length rest;
      rest = rest;
      first = kept.first;
      piece = record { gap = c.gap; piece = piece; split = c.split; between = c.between; begins = omega arith; stands = c.stands; bad = no_token piece read };
    }

pub are_all : (bytes rest piece : List ℕ) (tokens : List Placed) → Kept bytes tokens rest → piece ≡ drop (gap_len false rest) rest → piece ≡ [] → IsTokens 0 bytes tokens
are_all bytes rest piece tokens kept e none =
    let n = gap_len false rest in
    let c = cuts false rest in
    let whole : take n rest ≡ rest = sym (append-nil (take n rest)) ∙ ap (λ (s : List ℕ). take n rest ++ s) (sym none ∙ e) ∙ take-append-drop n rest in
    record {
      behind = length bytes - length rest;
      rest = rest;
      first = kept.first;
      last = (c.after, subst (λ (s : List ℕ). IsGap false s c.after) whole c.gap);
    }
