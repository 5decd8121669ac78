-- The rows at hand of an input.
use Rattle.std.proofs.Common.{◌≡◌, ◌<◌, ℕ, Bool, List, [], length, drop, Option, Some, sym, ap, ◌∙◌, arith}
use Rattle.std.proofs.lemmas.List.{length-drop}
use Rattle.hy_frame.specs.Frame.{FrameOf}
use Rattle.hy_frame.specs.Row.{Fields}
use Rattle.hy_connect.specs.Sources.{frame_rows}
use Rattle.hy_input.specs.declared.taker.Taker.{Taker}
use Rattle.hy_input.specs.Inputs.{InputOf, hand, input_of}

pub left_some : (next : ℕ) (rows : List Fields) → next < length rows → drop next rows ≡ [] → ⊥
left_some next rows low none = let h = length-drop next rows in let l = ap length none in absurd (omega (arith, h, l))

pub some_left : (self : InputOf) (taker : Taker) (from : ℕ) (frame : Option FrameOf) (next : ℕ) (given_up : Bool) (f : FrameOf) (rows : ℕ) → input_of taker from frame next given_up ≡ self → frame ≡ Some f
    → rows ≡ length f.rows → next < rows → hand self ≡ [] → ⊥
some_left self taker from frame next given_up f rows view is count low none =
    left_some next f.rows (omega (arith, low, count)) (ap (λ (o : Option FrameOf). drop next (frame_rows o)) (sym is) ∙ ap hand view ∙ none)
