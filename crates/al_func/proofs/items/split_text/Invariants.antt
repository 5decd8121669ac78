use Rattle.std.proofs.Common.{◌≡◌, ◌++◌, ◌≤◌, length, map}
use denote.Text.{Utf8}
use denote.Shadow.{shadow}
use Rattle.al_value.specs.declared.value.Value.TheVariants as V
use Rattle.al_func.specs.Items as spec
use Rattle.al_func.proofs.items.split_text.Given as goal

abbrev pub invariant-loop-piece : goal.invariant-loop-piece
invariant-loop-piece l =
    shadow (Utf8 l.rest) × (l.items ++ map V.Text (spec.pieces l.separator 0 l.rest) ≡ map V.Text (spec.pieces l.separator 0 l.text)) × (length l.rest ≤ 32000)

abbrev pub decreases-loop-piece : goal.decreases-loop-piece
decreases-loop-piece l = length l.rest
