-- What stands between two quotes is read, and only that.
use Rattle.std.proofs.Common.{◌≡◌, ℕ, true, false, cond, eqb, ◌<◌, inl, inr, List, [], ◌∷◌, ◌++◌, length, Option, Some, None, refl, sym, ap, ◌∙◌, subst, append_assoc, arith}
use Rattle.std.specs.Prelude.{nat_le, ◌||◌, ◌↔◌, IsUtf8, IsErrOf, Ok}
use Rattle.al_value.specs.declared.text.TextFault.TheVariants as faults
use Rattle.std.specs.Str.{is_utf8}
use Rattle.std.proofs.lemmas.Str.{is_utf8-from_IsUtf8, IsUtf8-from_is_utf8}
use Rattle.std.specs.List.{flat_map, list_all}
use Rattle.std.proofs.lemmas.Bool.{and_from, and_parts, or_parts, cond-true, cond-false, cond_both, eqb-true, and_left, false_from_ne_true, le-leb}
use Rattle.std.proofs.lemmas.Bool.Decides.{nat_tests}
use Rattle.std.proofs.lemmas.List.{append-nil}
use Rattle.al_read.specs.Tokens.{written, is_content_byte}
use Rattle.al_read.specs.TokenReading.{unescaped, with_rest, escape_step, content_step, with_byte, content_at, is_text}
use Rattle.al_read.proofs.Cases.{chosen, same_pair, through_three}

-- ---- content by steps

abbrev pub goes_on : Option ℕ → List ℕ → Option (List ℕ × List ℕ)
goes_on None rest = Some ([], rest)
goes_on (Some byte) rest = with_byte (Some byte) (content_at false rest)

abbrev pub behind_step : Option (Option ℕ × List ℕ) → Option (List ℕ × List ℕ)
behind_step None = None
behind_step (Some x) = goes_on x.0 x.1

behind_escape : (o : Option ℕ) (rest : List ℕ) → behind_step (with_rest rest o) ≡ with_byte o (content_at false rest)
behind_escape None rest = refl
behind_escape (Some b) rest = refl

escape_is : (bytes : List ℕ) → behind_step (escape_step bytes) ≡ content_at true bytes
unfolding content_at
escape_is [] = refl
escape_is (b ∷ rest) = behind_escape (unescaped b) rest

pub by_steps : (bytes : List ℕ) → content_at false bytes ≡ behind_step (content_step bytes)
unfolding content_at content_step
by_steps [] = refl
by_steps (b ∷ rest) =
    let e = through_three behind_step (eqb b 34) (eqb b 92) (nat_le 32 b) (Some (None, rest)) (escape_step rest) (Some (Some b, rest)) None in
    sym (e ∙ ap (λ (o : Option (List ℕ × List ℕ)). cond (eqb b 34) (Some ([], rest)) (cond (eqb b 92) o (cond (nat_le 32 b) (with_byte (Some b) (content_at false rest)) None))) (escape_is rest))

-- ---- what is written is read

escaped_is : (b tail_byte : ℕ) (tail : List ℕ) → unescaped tail_byte ≡ Some b → content_at false (92 ∷ tail_byte ∷ tail) ≡ with_byte (Some b) (content_at false tail)
unfolding content_at
escaped_is b c tail e = ap (λ (o : Option ℕ). with_byte o (content_at false tail)) e

plain_is : (b : ℕ) (tail : List ℕ) → eqb b 34 ≡ false → eqb b 92 ≡ false → nat_le 32 b ≡ true → content_at false (b ∷ tail) ≡ with_byte (Some b) (content_at false tail)
unfolding content_at
plain_is b tail p q r = cond-false (eqb b 34) _ _ p ∙ cond-false (eqb b 92) _ _ q ∙ cond-true (nat_le 32 b) _ _ r

abbrev Read : ℕ → List ℕ → List ℕ → Type 0
Read b tail bytes = content_at false (bytes ++ tail) ≡ with_byte (Some b) (content_at false tail)

as_itself : (b : ℕ) → is_content_byte b ≡ true → eqb b 10 ≡ false → eqb b 9 ≡ false → eqb b 13 ≡ false → nat_le 32 b ≡ true
as_itself b h p q r = grind (arith, nat_tests)

written_is : (b : ℕ) (tail : List ℕ) → is_content_byte b ≡ true → Read b tail (written b)
written_is b tail h =
    cond_both (eqb b 34 || eqb b 92) (92 ∷ b ∷ []) (cond (eqb b 10) (92 ∷ 110 ∷ []) (cond (eqb b 9) (92 ∷ 116 ∷ []) (cond (eqb b 13) (92 ∷ 114 ∷ []) (b ∷ [])))) (Read b tail)
    (λ quote. escaped_is b b tail (cond-true (eqb b 34 || eqb b 92) _ _ quote))
    (λ no_quote. cond_both (eqb b 10) (92 ∷ 110 ∷ []) (cond (eqb b 9) (92 ∷ 116 ∷ []) (cond (eqb b 13) (92 ∷ 114 ∷ []) (b ∷ []))) (Read b tail)
    (λ line. subst (λ (k : ℕ). Read k tail (92 ∷ 110 ∷ [])) (sym (eqb-true b 10 line)) (escaped_is 10 110 tail refl))
    (λ no_line. cond_both (eqb b 9) (92 ∷ 116 ∷ []) (cond (eqb b 13) (92 ∷ 114 ∷ []) (b ∷ [])) (Read b tail)
    (λ tab. subst (λ (k : ℕ). Read k tail (92 ∷ 116 ∷ [])) (sym (eqb-true b 9 tab)) (escaped_is 9 116 tail refl))
    (λ no_tab. cond_both (eqb b 13) (92 ∷ 114 ∷ []) (b ∷ []) (Read b tail)
    (λ turn. subst (λ (k : ℕ). Read k tail (92 ∷ 114 ∷ [])) (sym (eqb-true b 13 turn)) (escaped_is 13 114 tail refl))
    (λ no_turn. let p = or_parts (eqb b 34) (eqb b 92) no_quote in plain_is b tail p.0 p.1 (as_itself b h no_line no_tab no_turn)))))

pub content_again : (content rest : List ℕ) → list_all is_content_byte content ≡ true → content_at false (flat_map written content ++ 34 ∷ rest) ≡ Some (content, rest)
unfolding content_at
content_again [] rest all = refl
content_again (b ∷ content) rest all =
    let p = and_parts (is_content_byte b) (list_all is_content_byte content) all in
    let tail = flat_map written content ++ 34 ∷ rest in
    ap (content_at false) (append_assoc (written b) (flat_map written content) (34 ∷ rest))
    ∙ written_is b tail p.0
    ∙ ap (with_byte (Some b)) (content_again content rest p.1)

-- ---- what is read is written

pub record IsWritten (bytes content rest : List ℕ) : Type 0 where
  pub split : bytes ≡ flat_map written content ++ 34 ∷ rest
  pub each : list_all is_content_byte content ≡ true

pub record IsMore (o : Option ℕ) (more : Option (List ℕ × List ℕ)) (content rest : List ℕ) : Type 0 where
  pub byte : ℕ
  pub others : List ℕ
  pub byte_is : o ≡ Some byte
  pub more_is : more ≡ Some (others, rest)
  pub content_is : content ≡ byte ∷ others

with_byte_some : (o : Option ℕ) (more : Option (List ℕ × List ℕ)) (content rest : List ℕ) → with_byte o more ≡ Some (content, rest) → IsMore o more content rest
with_byte_some None more content rest e = absurd cc
with_byte_some (Some b) None content rest e = absurd cc
with_byte_some (Some b) (Some x) content rest e =
    let p = same_pair (b ∷ x.0, x.1) (content, rest) e in
    record { byte = b; others = x.0; byte_is = refl; more_is = ap (λ (s : List ℕ). Some (x.0, s)) p.1; content_is = sym p.0 }

plain_written : (b : ℕ) → eqb b 34 ≡ false → eqb b 92 ≡ false → nat_le 32 b ≡ true → (written b ≡ b ∷ []) × (is_content_byte b ≡ true)
plain_written b p q r =
    let l : eqb b 10 ≡ false = grind (arith, nat_tests) in
    let t : eqb b 9 ≡ false = grind (arith, nat_tests) in
    let m : eqb b 13 ≡ false = grind (arith, nat_tests) in
    (rw (p, q, l, t, m) refl, rw r refl)

escape_written : (b c : ℕ) → unescaped b ≡ Some c → (written c ≡ 92 ∷ b ∷ []) × (is_content_byte c ≡ true)
escape_written b c e = elim (chosen (eqb b 34 || eqb b 92) (Some b) (cond (eqb b 110) (Some 10) (cond (eqb b 116) (Some 9) (cond (eqb b 114) (Some 13) None))) (Some c) e) [
  | inl x ↦ let s : b ≡ c = cc in subst (λ (k : ℕ). (written k ≡ 92 ∷ b ∷ []) × (is_content_byte k ≡ true)) s (cond-true (eqb b 34 || eqb b 92) _ _ x.0, quote_is_content b x.0)
  | inr y ↦ elim (chosen (eqb b 110) (Some 10) (cond (eqb b 116) (Some 9) (cond (eqb b 114) (Some 13) None)) (Some c) y.1) [
    | inl x ↦ let s : 10 ≡ c = cc in subst (λ (k : ℕ). (written k ≡ 92 ∷ b ∷ []) × (is_content_byte k ≡ true)) s (ap (λ (k : ℕ). 92 ∷ k ∷ []) (sym (eqb-true b 110 x.0)), refl)
    | inr z ↦ elim (chosen (eqb b 116) (Some 9) (cond (eqb b 114) (Some 13) None) (Some c) z.1) [
      | inl x ↦ let s : 9 ≡ c = cc in subst (λ (k : ℕ). (written k ≡ 92 ∷ b ∷ []) × (is_content_byte k ≡ true)) s (ap (λ (k : ℕ). 92 ∷ k ∷ []) (sym (eqb-true b 116 x.0)), refl)
      | inr w ↦ elim (chosen (eqb b 114) (Some 13) None (Some c) w.1) [
        | inl x ↦ let s : 13 ≡ c = cc in subst (λ (k : ℕ). (written k ≡ 92 ∷ b ∷ []) × (is_content_byte k ≡ true)) s (ap (λ (k : ℕ). 92 ∷ k ∷ []) (sym (eqb-true b 114 x.0)), refl)
        | inr x ↦ absurd (let n = x.1 in cc)
      ]
    ]
  ]
]
  where
    quote_is_content : (b : ℕ) → (eqb b 34 || eqb b 92) ≡ true → is_content_byte b ≡ true
    quote_is_content b h = grind (arith, nat_tests)

longer : (front bytes : List ℕ) (b : ℕ) (content rest : List ℕ) → written b ≡ front → is_content_byte b ≡ true → IsWritten bytes content rest → IsWritten (front ++ bytes) (b ∷ content) rest
longer front bytes b content rest w h t = record {
  split = ap (λ (s : List ℕ). s ++ bytes) (sym w) ∙ ap (λ (s : List ℕ). written b ++ s) t.split ∙ sym (append_assoc (written b) (flat_map written content) (34 ∷ rest));
  each = and_from (is_content_byte b) (list_all is_content_byte content) h t.each;
}

pub content_takes : (bytes content rest : List ℕ) → (content_at false bytes ≡ Some (content, rest) → IsWritten bytes content rest) × (content_at true bytes ≡ Some (content, rest) → IsWritten (92 ∷ bytes) content rest)
unfolding content_at
content_takes [] content rest = (λ e. absurd cc, λ e. absurd cc)
content_takes (b ∷ bytes) content rest = (
  λ e. elim (chosen (eqb b 34) (Some ([], bytes)) (cond (eqb b 92) (content_at true bytes) (cond (nat_le 32 b) (with_byte (Some b) (content_at false bytes)) None)) (Some (content, rest)) e) [
    | inl x ↦
        let h : b ≡ 34 = eqb-true b 34 x.0 in
        let p = same_pair ([], bytes) (content, rest) x.1 in
        let c : [] ≡ content = p.0 in
        let r : bytes ≡ rest = p.1 in
        subst (λ (s : List ℕ). IsWritten (b ∷ bytes) s rest) c (record { split = ap (λ (k : ℕ). k ∷ bytes) h ∙ ap (λ (s : List ℕ). 34 ∷ s) r; each = refl })
    | inr y ↦ elim (chosen (eqb b 92) (content_at true bytes) (cond (nat_le 32 b) (with_byte (Some b) (content_at false bytes)) None) (Some (content, rest)) y.1) [
      | inl x ↦ subst (λ (k : ℕ). IsWritten (k ∷ bytes) content rest) (sym (eqb-true b 92 x.0)) ((content_takes bytes content rest).1 x.1)
      | inr z ↦ elim (chosen (nat_le 32 b) (with_byte (Some b) (content_at false bytes)) None (Some (content, rest)) z.1) [
        | inl x ↦
            let m = with_byte_some (Some b) (content_at false bytes) content rest x.1 in
            let i = m.byte_is in
            let same : b ≡ m.byte = cc in
            let p = plain_written b y.0 z.0 x.0 in
            subst (λ (s : List ℕ). IsWritten (b ∷ bytes) s rest) (ap (λ (k : ℕ). k ∷ m.others) same ∙ sym m.content_is)
            (longer (b ∷ []) bytes b m.others rest p.0 p.1 ((content_takes bytes m.others rest).0 m.more_is))
        | inr x ↦ absurd (let n = x.1 in cc)
      ]
    ]
  ],
  λ e.
      let m = with_byte_some (unescaped b) (content_at false bytes) content rest e in
      let p = escape_written b m.byte m.byte_is in
      subst (λ (s : List ℕ). IsWritten (92 ∷ b ∷ bytes) s rest) (sym m.content_is)
      (longer (92 ∷ b ∷ []) bytes m.byte m.others rest p.0 p.1 ((content_takes bytes m.others rest).0 m.more_is)),
)

-- ---- a loop over the content

-- what was read before, and what is still read
abbrev pub with_front : List ℕ → Option (List ℕ × List ℕ) → Option (List ℕ × List ℕ)
with_front front None = None
with_front front (Some x) = Some (front ++ x.0, x.1)

pub more_front : (front : List ℕ) (b : ℕ) (read : Option (List ℕ × List ℕ)) → with_front front (with_byte (Some b) read) ≡ with_front (front ++ b ∷ []) read
more_front front b None = refl
more_front front b (Some x) = ap (λ (s : List ℕ). Some (s, x.1)) (sym (append_assoc front (b ∷ []) x.0))

pub step_more : (front rest next : List ℕ) (b : ℕ) (total : Option (List ℕ × List ℕ)) → with_front front (content_at false rest) ≡ total → content_step rest ≡ Some (Some b, next) → with_front (front ++ b ∷ []) (content_at false next) ≡ total
step_more front rest next b total so_far step =
    sym (more_front front b (content_at false next)) ∙ ap (with_front front) (ap behind_step (sym step) ∙ sym (by_steps rest)) ∙ so_far

pub step_ends : (front rest after : List ℕ) (total : Option (List ℕ × List ℕ)) → with_front front (content_at false rest) ≡ total → content_step rest ≡ Some (None, after) → total ≡ Some (front, after)
step_ends front rest after total so_far step =
    sym so_far ∙ ap (with_front front) (by_steps rest ∙ ap behind_step step) ∙ ap (λ (s : List ℕ). Some (s, after)) (append-nil front)

pub step_fails : (front rest : List ℕ) (total : Option (List ℕ × List ℕ)) → with_front front (content_at false rest) ≡ total → content_step rest ≡ None → total ≡ None
step_fails front rest total so_far step = sym so_far ∙ ap (with_front front) (by_steps rest ∙ ap behind_step step)

escape_shorter : (bytes rest : List ℕ) (o : Option ℕ) → escape_step bytes ≡ Some (o, rest) → length rest < length bytes
escape_shorter [] rest o e = absurd cc
escape_shorter (b ∷ bytes) rest o e = by_option (unescaped b) e
  where
    by_option : (u : Option ℕ) → with_rest bytes u ≡ Some (o, rest) → length rest < length (b ∷ bytes)
    by_option None h = absurd cc
    by_option (Some k) h = omega (arith, ap length (same_pair (Some k, bytes) (o, rest) h).1)

pub step_shorter : (bytes rest : List ℕ) (o : Option ℕ) → content_step bytes ≡ Some (o, rest) → length rest < length bytes
unfolding content_step
step_shorter [] rest o e = absurd cc
step_shorter (b ∷ bytes) rest o e = elim (chosen (eqb b 34) (Some (None, bytes)) (cond (eqb b 92) (escape_step bytes) (cond (nat_le 32 b) (Some (Some b, bytes)) None)) (Some (o, rest)) e) [
  | inl x ↦ omega (arith, ap length (same_pair (None, bytes) (o, rest) x.1).1)
  | inr y ↦ elim (chosen (eqb b 92) (escape_step bytes) (cond (nat_le 32 b) (Some (Some b, bytes)) None) (Some (o, rest)) y.1) [
    | inl x ↦ let s = escape_shorter bytes rest o x.1 in omega arith
    | inr z ↦ elim (chosen (nat_le 32 b) (Some (Some b, bytes)) None (Some (o, rest)) z.1) [
      | inl x ↦ omega (arith, ap length (same_pair (Some b, bytes) (o, rest) x.1).1)
      | inr x ↦ absurd (let n = x.1 in cc)
    ]
  ]
]

-- ---- the content as a text

pub no_text : (bytes : List ℕ) → ¬ (IsUtf8 bytes) → cond (is_text bytes) (Some bytes) None ≡ None
no_text bytes h =
    let bad : is_utf8 bytes ≡ false = false_from_ne_true (is_utf8 bytes) (λ e. h (IsUtf8-from_is_utf8 bytes e)) in
    cond-false (is_text bytes) (Some bytes) None (and_left (is_utf8 bytes) (nat_le (length bytes) 32000) bad)

pub some_text : (bytes seen text : List ℕ) → text ≡ seen → seen ≡ bytes → IsUtf8 bytes → (32000 < length seen → ⊥) → cond (is_text bytes) (Some bytes) None ≡ Some text
some_text bytes seen text e d utf8 short =
    let within : nat_le (length bytes) 32000 ≡ true = le-leb _ _ (omega (arith, short, ap length d)) in
    cond-true (is_text bytes) (Some bytes) None (and_from (is_utf8 bytes) (nat_le (length bytes) 32000) (is_utf8-from_IsUtf8 bytes utf8) within)
    ∙ ap (λ (s : List ℕ). Some s) (sym d ∙ sym e)

pub not_too_long : (text : List ℕ) (P : Type 0) → (IsErrOf {T = List ℕ} (Ok text) faults.TooLong ↔ P) → P → ⊥
not_too_long text P h p = let e = h.1 p in absurd cc
