-- What contracts see of a keeper of frames.
use Rattle.std.specs.Prelude.{List, map}
use Rattle.std.specs.List.{flat_map}
use Rattle.hy_frame.specs.Frame.{FrameOf}
use Rattle.hy_frame.specs.declared.writer.WriterState.{WriterState}
use Rattle.hy_driver.specs.Rows.{Row, values_of}

pub record KeeperOf : Type 0 where
  -- in the order in which they came
  pub frames : List FrameOf
  -- how far its word would have come, if it had a wire
  pub state : WriterState

abbrev pub frame_rows : FrameOf → List Row
frame_rows f = map values_of f.rows

abbrev pub kept_rows : KeeperOf → List Row
kept_rows k = flat_map frame_rows k.frames
