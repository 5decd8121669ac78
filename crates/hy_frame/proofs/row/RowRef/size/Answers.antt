use Rattle.std.proofs.Common.{◌∙◌, ap}
use Rattle.hy_frame.specs.Row.{row_size}
use Rattle.hy_frame.proofs.RowLaws.{size_is}
use Rattle.hy_frame.proofs.row.RowRef.size.Goals as goal

pub returns : goal.returns
returns c = size_is _ _ _ c.self.invariant ∙ ap row_size c.self.view_is
