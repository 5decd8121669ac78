-- What is handed on are rows beside the bank.
use Rattle.std.proofs.Common.{◌≡◌, ℕ, List, [], ◌∷◌, ◌++◌, map, length, refl, sym, ap, ◌∙◌, inl, inr, append-nil, arith}
use Rattle.std.specs.List.{AllByRecursion, flat_map}
use Rattle.std.specs.List.Sorted.{IsPermutation}
use Rattle.std.proofs.lemmas.List.Sorted.{length_permutation}
use Rattle.hy_frame.specs.Frame.{FrameOf}
use Rattle.hy_frame.specs.Row.{Fields, IsRow}
use Rattle.hy_store.specs.Fields.{fields_of}
use Rattle.hy_driver.specs.Rows.{values_of}
use Rattle.hy_driver.specs.Handing.{handed_rows}
use Rattle.hy_driver.proofs.Values.{fields_again}
use Rattle.hy_sort.specs.Laws.{HandsToEmit}

none_long : {X : Type 0} (xs : List X) → length xs ≡ 0 → xs ≡ []
none_long [] long = refl
none_long (x ∷ xs) long = absurd (omega (arith, long))

none_moved : {X : Type 0} (xs : List X) → IsPermutation [] xs → xs ≡ []
none_moved xs moved = none_long xs (length_permutation [] xs moved)

fields_kept : (n : ℕ) (rows : List Fields) → AllByRecursion (IsRow n) rows → map fields_of (map values_of rows) ≡ rows
fields_kept n [] all = refl
fields_kept n (row ∷ rows) all = rw ((fields_again n row all.0).1, fields_kept n rows all.1) refl

pub hands_to_emit : HandsToEmit
hands_to_emit d h done on =
    let no_frames : h.frames ≡ [] = none_long h.frames on.frames in
    let no_runs : h.runs ≡ [] = elim done [ inl ended ↦ none_moved h.runs (on.runs ended) | inr given_up ↦ (on.none given_up).1 ] in
    record {
      fit = on.fit;
      no_frames = no_frames;
      no_runs = no_runs;
      values = λ ended sound.
          let rows : map fields_of (map values_of d.rows) ≡ handed_rows h (λ run. []) = on.rows ended sound in
          let all : handed_rows h (λ run. []) ≡ h.rows = (λ i. h.rows ++ (flat_map (λ (frame : FrameOf). frame.rows) (no_frames i) ++ flat_map (λ (run : ℕ). flat_map (λ (frame : FrameOf). frame.rows) []) (no_runs i))) ∙ append-nil h.rows in
          ap (map values_of) (sym (sym (fields_kept d.width d.rows sound) ∙ (rows ∙ all)));
    }
