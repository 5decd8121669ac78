-- Texts within the limit: a piece of a text is no longer than the text.
use Rattle.std.proofs.Common.{◌≡◌, ◌≤◌, ℕ, List, length, take, drop, ap, sym, ◌∙◌, arith, length-append}
use Rattle.std.proofs.lemmas.List.{take-append-drop}
use Rattle.std.proofs.lemmas.Str.{encodes-append, encodes-chars}
use Rattle.std.proofs.lemmas.Bool.{le-leb}
use Rattle.std.specs.Prelude.{encode_utf8_all, if◌then◌else◌}
use Rattle.std.specs.Str.{chars}
use Rattle.al_value.specs.Text.{IsText}
use Rattle.al_value.specs.declared.value.Value.TheVariants as V
use Rattle.al_func.specs.Func.{fitted_text, piece}

-- bytes within the limit are a text
pub fitted_text-short : (bytes : List ℕ) → length bytes ≤ 32000 → fitted_text bytes ≡ V.Text bytes
fitted_text-short bytes h = ap (λ b. if b then V.Text bytes else V.Null) (le-leb (length bytes) 32000 h)

length-encoded_drop : (cs : List ℕ) (i : ℕ) → length (encode_utf8_all (drop i cs)) ≤ length (encode_utf8_all cs)
length-encoded_drop cs i =
    let whole = ap length (sym (encodes-append (take i cs) (drop i cs)) ∙ ap encode_utf8_all (take-append-drop i cs)) in
    omega (arith, simp length-append at whole)

length-encoded_take : (cs : List ℕ) (n : ℕ) → length (encode_utf8_all (take n cs)) ≤ length (encode_utf8_all cs)
length-encoded_take cs n =
    let whole = ap length (sym (encodes-append (take n cs) (drop n cs)) ∙ ap encode_utf8_all (take-append-drop n cs)) in
    omega (arith, simp length-append at whole)

pub length-piece : (t : List ℕ) (start count : ℕ) → IsText t → length (piece t start count) ≤ 32000
length-piece t start count h =
    let a = length-encoded_take (drop start (chars t)) count in
    let b = length-encoded_drop (chars t) start in
    let same = ap length (encodes-chars t h.0) in
    let short : length t ≤ 32000 = h.1 in
    omega arith

pub fitted_text-piece : (t : List ℕ) (start count : ℕ) → IsText t → fitted_text (piece t start count) ≡ V.Text (piece t start count)
fitted_text-piece t start count h = fitted_text-short (piece t start count) (length-piece t start count h)

pub ruleset fitted_pieces = (fitted_text-piece)
