-- What the first driver of a sort hands on is what the second is made of.
use Rattle.std.specs.Prelude.{◌≡◌, [], map, length}
use Rattle.std.specs.List.{All}
use Rattle.hy_driver.specs.Rows.{values_of}
use Rattle.hy_driver.specs.Handing.{HandedOn, IsDone}
use Rattle.hy_driver.specs.declared.handed.Handed.{Handed}
use Rattle.hy_driver.specs.declared.phase.Phase.TheVariants.{Ended}
use Rattle.hy_sort.specs.declared.build.SortBuild.{SortBuild}
use Rattle.hy_sort.specs.Build.{build_seen}

-- rows beside the bank alone, as wide as those that were taken, and where it has ended with their values
pub record IsForEmit (d : SortBuild) (h : Handed) : Type 0 where
  pub fit : All (λ row. length row ≡ d.width) h.rows
  pub no_frames : h.frames ≡ []
  pub no_runs : h.runs ≡ []
  pub values : (build_seen d).phase ≡ Ended → (build_seen d).sound → map values_of h.rows ≡ (build_seen d).hands_on

abbrev pub HandsToEmit : Type 0
HandsToEmit = (d : SortBuild) (h : Handed) → IsDone (build_seen d) → HandedOn (build_seen d) h → IsForEmit d h
