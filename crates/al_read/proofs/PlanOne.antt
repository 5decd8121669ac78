-- A text has one answer.
use Rattle.std.proofs.Common.{◌≡◌, ℕ, zero, suc, ◌+◌, ◌<◌, ◌≤◌, ◌⊎◌, inl, inr, List, [], ◌∷◌, ◌++◌, length, map, refl, sym, ap, subst, ◌∙◌, append_assoc, arith}
use Rattle.std.specs.Prelude.{IsUtf8}
use Rattle.std.specs.Str.{IsValidUpTo}
use Rattle.std.proofs.lemmas.Str.{utf8_valid_len-IsValidUpTo}
use Rattle.std.proofs.lemmas.List.{append-nil, map-append}
use Rattle.al_plan.specs.declared.file.PlanFile.{PlanFile}
use Rattle.al_plan.specs.declared.file.Refused.{Refused}
use Rattle.al_plan.specs.declared.file.RefusedKind.{RefusedKind}
use Rattle.al_plan.specs.declared.file.RefusedKind.TheVariants as kind
use Rattle.al_plan.specs.Grammar.{Word, Open, Number, Mark, Dataset, Operator, Other, Marked, file_words, CanBeWritten}
use Rattle.al_read.specs.declared.token.Placed.{Placed}
use Rattle.al_read.specs.Tokens.{IsTokens}
use Rattle.al_read.specs.Reads.{said, words_of, unmarked, operators_in, IsTooDeep, IsShallow, Begins, CanStand, IsWhole, IsOutOfRange, IsMisplaced, IsOneTooMany, IsCause, place_of, IsRefusedAt, refusal, Reads, IsReadRefusal, too_large, utf8, token, form, HasOneAnswer}
use Rattle.al_read.proofs.Readings.{one}
use Rattle.al_read.proofs.PlanMachine.{run}
use Rattle.al_read.proofs.PlanHalts.{file_syms}
use Rattle.al_read.proofs.PlanMarks.{SameMarks, alike, forked, same_marks, none_begun, same_fronts}
use Rattle.al_read.proofs.PlanRefuses.{begin_runs, split_marked}
use Rattle.al_read.proofs.PlanReads.{one_file}

-- ---- beginnings

can_front : (ws vs : List Word) → CanStand (ws ++ vs) → CanStand ws
can_front ws vs c =
    let h = split_marked c.0 ws vs c.1 in
    (h.front, h.words, (c.2.0, h.back ++ c.2.1, c.2.2, c.2.3 ∙ ap (λ (l : List Marked). l ++ c.2.1) h.split ∙ append_assoc h.front h.back c.2.1))

operators_append : (ms ns : List Marked) → operators_in ms ≤ operators_in (ms ++ ns)
operators_append [] ns = omega arith
operators_append ((Dataset, w) ∷ ms) ns = operators_append ms ns
operators_append ((Operator, w) ∷ ms) ns = let h = operators_append ms ns in omega arith
operators_append ((Other, w) ∷ ms) ns = operators_append ms ns

operators_more : (ms : List Marked) → operators_in (ms ++ (Operator, Open) ∷ []) ≡ suc (operators_in ms)
operators_more [] = refl
operators_more ((Dataset, w) ∷ ms) = operators_more ms
operators_more ((Operator, w) ∷ ms) = ap suc (operators_more ms)
operators_more ((Other, w) ∷ ms) = operators_more ms

-- the 257th operator is in each beginning that goes on so
too_many : (ws vs : List Word) (w : Word) (ns : List Marked) → IsOneTooMany ws w → unmarked ns ≡ ws ++ w ∷ vs → Begins ns → operators_in ns ≤ 256 → ⊥
too_many ws vs w ns o words begins few =
    let ms = o.1 in
    let split = split_marked ns (ws ++ w ∷ []) vs (words ∙ sym (append_assoc ws (w ∷ []) vs)) in
    let front : Begins split.front = (begins.0, split.back ++ begins.1, begins.2, begins.3 ∙ ap (λ (l : List Marked). l ++ begins.1) split.split ∙ append_assoc split.front split.back begins.1) in
    let same : unmarked (ms ++ (Operator, Open) ∷ []) ≡ unmarked split.front = map-append (λ (m : Marked). m.1) ms ((Operator, Open) ∷ []) ∙ ap (λ (l : List Word). l ++ Open ∷ []) o.2 ∙ ap (λ (v : Word). ws ++ v ∷ []) (sym o.0) ∙ sym split.words in
    go split.front split.back split.split (same_marks (ms ++ (Operator, Open) ∷ []) split.front file_syms (begin_runs (ms ++ (Operator, Open) ∷ []) o.3).0 (begin_runs split.front front).0 (begin_runs (ms ++ (Operator, Open) ∷ []) o.3).1 (begin_runs split.front front).1 same)
  where
    go : (front back : List Marked) → ns ≡ front ++ back → SameMarks file_syms (o.1 ++ (Operator, Open) ∷ []) front → ⊥
    go front back split (alike same) =
        let more = operators_more o.1 in
        let many = o.4 in
        let all : operators_in front ≡ suc (operators_in o.1) = ap operators_in (sym same) ∙ more in
        let within = operators_append front back in
        let is : operators_in ns ≡ operators_in (front ++ back) = ap operators_in split in
        omega arith
    go front back split (forked f k x z left right begun) =
        let none = none_begun f k begun in
        let many = o.4 in
        let is : operators_in o.1 ≡ operators_in f = ap operators_in (same_fronts o.1 f (Operator, Open) (x, Open) left) in
        omega arith

-- ---- a word that is refused isn't read

-- behind a cause no beginning goes on
no_further : (k : RefusedKind) (before behind : List Word) (w : Word) (rest : List Word) (ns : List Marked) → IsCause before (w ∷ behind) k → IsShallow (before ++ w ∷ rest) → unmarked ns ≡ before ++ w ∷ rest → Begins ns → operators_in ns ≤ 256 → ⊥
no_further kind.Absent before behind w rest ns c shallow words begins few = c
no_further kind.Utf8 before behind w rest ns c shallow words begins few = c
no_further kind.Token before behind w rest ns c shallow words begins few = c
no_further kind.Form before behind w rest ns c shallow words begins few = c.1.0 (can_front (before ++ w ∷ []) rest (ns, words ∙ sym (append_assoc before (w ∷ []) rest), begins))
no_further kind.Number before behind w rest ns c shallow words begins few = c.0 (can_front (before ++ w ∷ []) rest (ns, words ∙ sym (append_assoc before (w ∷ []) rest), begins))
no_further kind.TooDeep before behind w rest ns c shallow words begins few = shallow before rest w refl c
no_further kind.TooLarge before behind w rest ns c shallow words begins few = too_many before rest w ns c.1 words begins few
no_further kind.UnknownDataset before behind w rest ns c shallow words begins few = c
no_further kind.WrongArity before behind w rest ns c shallow words begins few = c
no_further kind.NotInNested before behind w rest ns c shallow words begins few = c
no_further kind.UnionArity before behind w rest ns c shallow words begins few = c
no_further kind.TwiceMade before behind w rest ns c shallow words begins few = c
no_further kind.NotLive before behind w rest ns c shallow words begins few = c
no_further kind.TooWide before behind w rest ns c shallow words begins few = c

-- ---- two refusals

can_open : (before : List Word) (w : Word) → IsOneTooMany before w → CanStand (before ++ w ∷ [])
can_open before w o = (o.1 ++ (Operator, Open) ∷ [], map-append (λ (m : Marked). m.1) o.1 ((Operator, Open) ∷ []) ∙ ap (λ (l : List Word). l ++ Open ∷ []) o.2 ∙ ap (λ (v : Word). before ++ v ∷ []) (sym o.0), o.3)

open_number : (w : Word) (z : _) → w ≡ Open → w ≡ Number z → ⊥
open_number w z e f = let no : Open ≡ Number z = sym e ∙ f in absurd cc

same_kind : (before after : List Word) (k j : RefusedKind) → IsCause before after k → IsCause before after j → k ≡ j
same_kind before [] kind.Absent j c d = absurd c
same_kind before [] kind.Utf8 j c d = absurd c
same_kind before [] kind.Token j c d = absurd c
same_kind before [] kind.Form kind.Absent c d = absurd d
same_kind before [] kind.Form kind.Utf8 c d = absurd d
same_kind before [] kind.Form kind.Token c d = absurd d
same_kind before [] kind.Form kind.Form c d = refl
same_kind before [] kind.Form kind.Number c d = absurd d
same_kind before [] kind.Form kind.TooDeep c d = absurd d
same_kind before [] kind.Form kind.TooLarge c d = absurd d
same_kind before [] kind.Form kind.UnknownDataset c d = absurd d
same_kind before [] kind.Form kind.WrongArity c d = absurd d
same_kind before [] kind.Form kind.NotInNested c d = absurd d
same_kind before [] kind.Form kind.UnionArity c d = absurd d
same_kind before [] kind.Form kind.TwiceMade c d = absurd d
same_kind before [] kind.Form kind.NotLive c d = absurd d
same_kind before [] kind.Form kind.TooWide c d = absurd d
same_kind before [] kind.Number j c d = absurd c
same_kind before [] kind.TooDeep j c d = absurd c
same_kind before [] kind.TooLarge j c d = absurd c
same_kind before [] kind.UnknownDataset j c d = absurd c
same_kind before [] kind.WrongArity j c d = absurd c
same_kind before [] kind.NotInNested j c d = absurd c
same_kind before [] kind.UnionArity j c d = absurd c
same_kind before [] kind.TwiceMade j c d = absurd c
same_kind before [] kind.NotLive j c d = absurd c
same_kind before [] kind.TooWide j c d = absurd c
same_kind before (w ∷ ws) kind.Absent j c d = absurd c
same_kind before (w ∷ ws) kind.Utf8 j c d = absurd c
same_kind before (w ∷ ws) kind.Token j c d = absurd c
same_kind before (w ∷ ws) kind.Form kind.Absent c d = absurd d
same_kind before (w ∷ ws) kind.Form kind.Utf8 c d = absurd d
same_kind before (w ∷ ws) kind.Form kind.Token c d = absurd d
same_kind before (w ∷ ws) kind.Form kind.Form c d = refl
same_kind before (w ∷ ws) kind.Form kind.Number c d = absurd (c.1.1 d)
same_kind before (w ∷ ws) kind.Form kind.TooDeep c d = absurd (c.0 d)
same_kind before (w ∷ ws) kind.Form kind.TooLarge c d = absurd (c.1.0 (can_open before w d.1))
same_kind before (w ∷ ws) kind.Form kind.UnknownDataset c d = absurd d
same_kind before (w ∷ ws) kind.Form kind.WrongArity c d = absurd d
same_kind before (w ∷ ws) kind.Form kind.NotInNested c d = absurd d
same_kind before (w ∷ ws) kind.Form kind.UnionArity c d = absurd d
same_kind before (w ∷ ws) kind.Form kind.TwiceMade c d = absurd d
same_kind before (w ∷ ws) kind.Form kind.NotLive c d = absurd d
same_kind before (w ∷ ws) kind.Form kind.TooWide c d = absurd d
same_kind before (w ∷ ws) kind.Number kind.Absent c d = absurd d
same_kind before (w ∷ ws) kind.Number kind.Utf8 c d = absurd d
same_kind before (w ∷ ws) kind.Number kind.Token c d = absurd d
same_kind before (w ∷ ws) kind.Number kind.Form c d = absurd (d.1.1 c)
same_kind before (w ∷ ws) kind.Number kind.Number c d = refl
same_kind before (w ∷ ws) kind.Number kind.TooDeep c d = absurd (open_number w c.1 d.0 c.3)
same_kind before (w ∷ ws) kind.Number kind.TooLarge c d = absurd (open_number w c.1 d.1.0 c.3)
same_kind before (w ∷ ws) kind.Number kind.UnknownDataset c d = absurd d
same_kind before (w ∷ ws) kind.Number kind.WrongArity c d = absurd d
same_kind before (w ∷ ws) kind.Number kind.NotInNested c d = absurd d
same_kind before (w ∷ ws) kind.Number kind.UnionArity c d = absurd d
same_kind before (w ∷ ws) kind.Number kind.TwiceMade c d = absurd d
same_kind before (w ∷ ws) kind.Number kind.NotLive c d = absurd d
same_kind before (w ∷ ws) kind.Number kind.TooWide c d = absurd d
same_kind before (w ∷ ws) kind.TooDeep kind.Absent c d = absurd d
same_kind before (w ∷ ws) kind.TooDeep kind.Utf8 c d = absurd d
same_kind before (w ∷ ws) kind.TooDeep kind.Token c d = absurd d
same_kind before (w ∷ ws) kind.TooDeep kind.Form c d = absurd (d.0 c)
same_kind before (w ∷ ws) kind.TooDeep kind.Number c d = absurd (open_number w d.1 c.0 d.3)
same_kind before (w ∷ ws) kind.TooDeep kind.TooDeep c d = refl
same_kind before (w ∷ ws) kind.TooDeep kind.TooLarge c d = absurd (d.0 c)
same_kind before (w ∷ ws) kind.TooDeep kind.UnknownDataset c d = absurd d
same_kind before (w ∷ ws) kind.TooDeep kind.WrongArity c d = absurd d
same_kind before (w ∷ ws) kind.TooDeep kind.NotInNested c d = absurd d
same_kind before (w ∷ ws) kind.TooDeep kind.UnionArity c d = absurd d
same_kind before (w ∷ ws) kind.TooDeep kind.TwiceMade c d = absurd d
same_kind before (w ∷ ws) kind.TooDeep kind.NotLive c d = absurd d
same_kind before (w ∷ ws) kind.TooDeep kind.TooWide c d = absurd d
same_kind before (w ∷ ws) kind.TooLarge kind.Absent c d = absurd d
same_kind before (w ∷ ws) kind.TooLarge kind.Utf8 c d = absurd d
same_kind before (w ∷ ws) kind.TooLarge kind.Token c d = absurd d
same_kind before (w ∷ ws) kind.TooLarge kind.Form c d = absurd (d.1.0 (can_open before w c.1))
same_kind before (w ∷ ws) kind.TooLarge kind.Number c d = absurd (open_number w d.1 c.1.0 d.3)
same_kind before (w ∷ ws) kind.TooLarge kind.TooDeep c d = absurd (c.0 d)
same_kind before (w ∷ ws) kind.TooLarge kind.TooLarge c d = refl
same_kind before (w ∷ ws) kind.TooLarge kind.UnknownDataset c d = absurd d
same_kind before (w ∷ ws) kind.TooLarge kind.WrongArity c d = absurd d
same_kind before (w ∷ ws) kind.TooLarge kind.NotInNested c d = absurd d
same_kind before (w ∷ ws) kind.TooLarge kind.UnionArity c d = absurd d
same_kind before (w ∷ ws) kind.TooLarge kind.TwiceMade c d = absurd d
same_kind before (w ∷ ws) kind.TooLarge kind.NotLive c d = absurd d
same_kind before (w ∷ ws) kind.TooLarge kind.TooWide c d = absurd d
same_kind before (w ∷ ws) kind.UnknownDataset j c d = absurd c
same_kind before (w ∷ ws) kind.WrongArity j c d = absurd c
same_kind before (w ∷ ws) kind.NotInNested j c d = absurd c
same_kind before (w ∷ ws) kind.UnionArity j c d = absurd c
same_kind before (w ∷ ws) kind.TwiceMade j c d = absurd c
same_kind before (w ∷ ws) kind.NotLive j c d = absurd c
same_kind before (w ∷ ws) kind.TooWide j c d = absurd c

-- two ways to split a list
data Splits (a b c d : List Placed) : Type 0 where
  equal : a ≡ c → b ≡ d → Splits a b c d
  longer : (t : Placed) (us vs : List Placed) → c ≡ a ++ t ∷ us → b ≡ t ∷ vs → Splits a b c d
  shorter : (t : Placed) (us vs : List Placed) → a ≡ c ++ t ∷ us → d ≡ t ∷ vs → Splits a b c d

splits : (a b c d : List Placed) → a ++ b ≡ c ++ d → Splits a b c d
splits [] b [] d e = equal refl e
splits [] b (t ∷ c) d e = longer t c (c ++ d) refl e
splits (t ∷ a) b [] d e = shorter t a (a ++ b) refl (sym e)
splits (t ∷ a) b (u ∷ c) d e =
    let first : t ≡ u = cc in
    let others : a ++ b ≡ c ++ d = cc in
    lift first (splits a b c d others)
  where
    lift : t ≡ u → Splits a b c d → Splits (t ∷ a) b (u ∷ c) d
    lift first (equal x y) = equal (ap (λ (q : Placed). q ∷ a) first ∙ ap (λ (l : List Placed). u ∷ l) x) y
    lift first (longer q us vs x y) = longer q us vs (ap (λ (l : List Placed). u ∷ l) x ∙ ap (λ (p : Placed). p ∷ (a ++ q ∷ us)) (sym first)) y
    lift first (shorter q us vs x y) = shorter q us vs (ap (λ (l : List Placed). t ∷ l) x ∙ ap (λ (p : Placed). p ∷ (c ++ q ∷ us)) first) y

goes_on : (ts us : List Placed) (t : Placed) (before : List Placed) → ts ≡ before ++ t ∷ us → words_of ts ≡ words_of before ++ said t.token ∷ words_of us
goes_on ts us t before e = ap words_of e ∙ map-append (λ (x : Placed). said x.token) before (t ∷ us)

-- a refusal isn't in front of another
not_before : (tokens : List Placed) (end : ℕ) (r s : Refused) (x : IsRefusedAt tokens end r) (y : IsRefusedAt tokens end s) (t : Placed) (us vs : List Placed) → y.before ≡ x.before ++ t ∷ us → x.after ≡ t ∷ vs → ⊥
not_before tokens end r s x y t us vs more behind =
    let words = goes_on y.before us t x.before more in
    let can = y.stands in
    no_further r.kind (words_of x.before) (words_of vs) (said t.token) (words_of us) can.0
    (subst (λ (l : List Placed). IsCause (words_of x.before) (words_of l) r.kind) behind x.cause)
    (subst IsShallow words y.shallow) (can.1 ∙ words) can.2 (y.few can.0 can.1 can.2)

same_refused : (r s : Refused) → r.kind ≡ s.kind → r.place ≡ s.place → r ≡ s
same_refused r s k p = ap (λ (z : RefusedKind). refusal z r.place) k ∙ ap (λ (z : ℕ). refusal s.kind z) p

one_stop : (tokens : List Placed) (end : ℕ) (r s : Refused) → IsRefusedAt tokens end r → IsRefusedAt tokens end s → r ≡ s
one_stop tokens end r s x y = go (splits x.before x.after y.before y.after (sym x.split ∙ y.split)) where
  go : Splits x.before x.after y.before y.after → r ≡ s
  go (equal a b) =
      same_refused r s
      (same_kind (words_of y.before) (words_of y.after) r.kind s.kind (subst (λ (l : List Placed). IsCause (words_of l) (words_of y.after) r.kind) a (subst (λ (l : List Placed). IsCause (words_of x.before) (words_of l) r.kind) b x.cause)) y.cause)
      (x.place ∙ ap (λ (l : List Placed). place_of l end) b ∙ sym y.place)
  go (longer t us vs a b) = absurd (not_before tokens end r s x y t us vs a b)
  go (shorter t us vs a b) = absurd (not_before tokens end s r y x t us vs a b)

-- ---- of a text

one_tokens : (bytes : List ℕ) (ts us : List Placed) → IsTokens 0 bytes ts → IsTokens 0 bytes us → ts ≡ us
one_tokens bytes ts us x y = (one bytes).tokens ts us x y

one_refusal : (bytes : List ℕ) (r s : Refused) → IsReadRefusal bytes r → IsReadRefusal bytes s → r ≡ s
one_refusal bytes r s (too_large a e) (too_large b f) = e ∙ sym f
one_refusal bytes r s (too_large a e) (utf8 b n i v f) = absurd (omega arith)
one_refusal bytes r s (too_large a e) (token b i v f) = let h = b.0 in absurd (omega arith)
one_refusal bytes r s (too_large a e) (form b ts v f) = let h = b.0 in absurd (omega arith)
one_refusal bytes r s (utf8 a n i v e) (too_large b f) = absurd (omega arith)
one_refusal bytes r s (utf8 a n i v e) (utf8 b m j w f) = e ∙ ap (λ (k : ℕ). refusal kind.Utf8 k) (sym (utf8_valid_len-IsValidUpTo bytes i v) ∙ utf8_valid_len-IsValidUpTo bytes j w) ∙ sym f
one_refusal bytes r s (utf8 a n i v e) (token b j w f) = absurd (n b.1)
one_refusal bytes r s (utf8 a n i v e) (form b ts w f) = absurd (n b.1)
one_refusal bytes r s (token a i v e) (too_large b f) = let h = a.0 in absurd (omega arith)
one_refusal bytes r s (token a i v e) (utf8 b n j w f) = absurd (n a.1)
one_refusal bytes r s (token a i v e) (token b j w f) = e ∙ ap (λ (k : ℕ). refusal kind.Token k) ((one bytes).bad i j v w) ∙ sym f
one_refusal bytes r s (token a i v e) (form b ts w f) = absurd ((one bytes).apart ts i w v)
one_refusal bytes r s (form a ts v e) (too_large b f) = let h = a.0 in absurd (omega arith)
one_refusal bytes r s (form a ts v e) (utf8 b n j w f) = absurd (n a.1)
one_refusal bytes r s (form a ts v e) (token b j w f) = absurd ((one bytes).apart ts j v w)
one_refusal bytes r s (form a ts v e) (form b us w f) = one_stop ts (length bytes) r s e (subst (λ (l : List Placed). IsRefusedAt l (length bytes) s) (one_tokens bytes us ts w v) f)

-- a file isn't refused
not_both : (bytes : List ℕ) (f : PlanFile) (r : Refused) (x : Reads bytes f) → IsRefusedAt x.tokens (length bytes) r → ⊥
not_both bytes f r x y = go y.after refl where
  whole : Begins (file_words f)
  whole = (f, [], x.fits, sym (append-nil (file_words f)))

  at_end : (k : RefusedKind) → IsCause (words_of y.before) [] k → IsWhole (words_of y.before) → ⊥
  at_end kind.Absent c w = c
  at_end kind.Utf8 c w = c
  at_end kind.Token c w = c
  at_end kind.Form c w = c w
  at_end kind.Number c w = c
  at_end kind.TooDeep c w = c
  at_end kind.TooLarge c w = c
  at_end kind.UnknownDataset c w = c
  at_end kind.WrongArity c w = c
  at_end kind.NotInNested c w = c
  at_end kind.UnionArity c w = c
  at_end kind.TwiceMade c w = c
  at_end kind.NotLive c w = c
  at_end kind.TooWide c w = c

  go : (after : List Placed) → y.after ≡ after → ⊥
  go [] e =
      let all : x.tokens ≡ y.before = y.split ∙ ap (λ (l : List Placed). y.before ++ l) e ∙ append-nil y.before in
      at_end r.kind (subst (λ (l : List Placed). IsCause (words_of y.before) (words_of l) r.kind) e y.cause) (f, x.fits, sym x.words ∙ ap words_of all)
  go (t ∷ ts) e =
      let words = goes_on x.tokens ts t y.before (y.split ∙ ap (λ (l : List Placed). y.before ++ l) e) in
      no_further r.kind (words_of y.before) (words_of ts) (said t.token) (words_of ts) (file_words f)
      (subst (λ (l : List Placed). IsCause (words_of y.before) (words_of l) r.kind) e y.cause)
      (subst IsShallow words x.shallow) (sym x.words ∙ words) whole x.few

not_refused : (bytes : List ℕ) (f : PlanFile) (r : Refused) → Reads bytes f → IsReadRefusal bytes r → ⊥
not_refused bytes f r x (too_large b e) = let h = x.text.0 in absurd (omega arith)
not_refused bytes f r x (utf8 b n j w e) = n x.text.1
not_refused bytes f r x (token b j w e) = (one bytes).apart x.tokens j x.are_all w
not_refused bytes f r x (form b ts w e) = not_both bytes f r x (subst (λ (l : List Placed). IsRefusedAt l (length bytes) r) (one_tokens bytes ts x.tokens w x.are_all) e)

pub one_answer : (bytes : List ℕ) → HasOneAnswer bytes
one_answer bytes = record {
  file = λ f g x y. one_file bytes f g x y;
  refused = λ r s x y. one_refusal bytes r s x y;
  apart = λ f r x y. not_refused bytes f r x y;
}
