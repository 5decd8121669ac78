-- The text of a job: its head, and a line for each stage, each activity, each wire and each block.
use Rattle.std.specs.Prelude.{◌≡◌, ℕ, suc, List, [], ◌∷◌, ◌++◌, codes, decimal}
use Rattle.std.specs.List.{flat_map}
use Rattle.al_plan.specs.Eval.{Bytes}
use Rattle.hy_job.specs.declared.job.Kind.{Kind}
use Rattle.hy_job.specs.declared.job.Kind.TheVariants as K
use Rattle.hy_job.specs.declared.job.Wire.{Wire}
use Rattle.hy_job.specs.declared.job.Wire.TheVariants as W
use Rattle.hy_job.specs.declared.job.Activity.{Activity}
use Rattle.hy_job.specs.declared.job.Edge.{Edge}
use Rattle.hy_job.specs.declared.job.Block.{Block}
use Rattle.hy_job.specs.declared.job.Stage.{Stage}
use Rattle.hy_job.specs.declared.job.Job.{Job}

abbrev pub kind_word : Kind → Bytes
kind_word (K.Scan set) = codes "scan"
kind_word K.One = codes "one"
kind_word (K.Assign made) = codes "assign"
kind_word (K.Select c) = codes "select"
kind_word (K.Project columns) = codes "project"
kind_word (K.Unnest items) = codes "unnest"
kind_word (K.Subplan n) = codes "subplan"
kind_word (K.Check name c) = codes "check"
kind_word (K.Union left right) = codes "union"
kind_word (K.Limit n k) = codes "limit"
kind_word (K.LocalLimit n) = codes "local-limit"
kind_word (K.PreGroup keys n) = codes "pre-group"
kind_word (K.Result columns) = codes "result"
kind_word (K.SortBuild keys) = codes "sort-build"
kind_word (K.SortEmit keys) = codes "sort-emit"
kind_word (K.GroupBuild arg) = codes "group-build"
kind_word (K.GroupEmit arg) = codes "group-emit"
kind_word (K.JoinBuild arg) = codes "join-build"
kind_word (K.JoinProbe arg) = codes "join-probe"
kind_word (K.AggPart made) = codes "agg-part"
kind_word (K.AggFinal made) = codes "agg-final"

abbrev pub wire_word : Wire → Bytes
wire_word W.OneToOne = codes "one-to-one"
wire_word (W.Hash columns) = codes "hash"
wire_word W.Broadcast = codes "broadcast"
wire_word W.Gather = codes "gather"
wire_word (W.Merge keys) = codes "merge"

-- a number behind a space
abbrev pub listed_number : ℕ → List ℕ
listed_number a = codes " " ++ decimal a

abbrev pub stage_line : ℕ → Stage → List ℕ
stage_line number s = codes "stage " ++ (decimal number ++ (codes ":" ++ (flat_map listed_number s.activities ++ codes "\n")))

-- the stages, numbered from this number
unfoldable pub stage_lines : ℕ → List Stage → List ℕ
stage_lines number [] = []
stage_lines number (s ∷ ss) = stage_line number s ++ stage_lines (suc number) ss

abbrev pub activity_line : Activity → List ℕ
activity_line a = codes "activity " ++ (decimal a.number ++ (codes " " ++ (kind_word a.kind ++ codes "\n")))

abbrev pub wire_line : Edge → List ℕ
wire_line e = codes "wire " ++ (decimal e.from ++ (codes " -> " ++ (decimal e.to ++ (codes " " ++ (wire_word e.wire ++ codes "\n")))))

abbrev pub block_line : Block → List ℕ
block_line b = codes "block " ++ (decimal b.before ++ (codes " -> " ++ (decimal b.after ++ codes "\n")))

-- the text of a job with these stages
abbrev pub job_text : Job → List Stage → List ℕ
job_text j ss = codes "job\n" ++ (stage_lines 0 ss ++ (flat_map activity_line j.activities ++ (flat_map wire_line j.edges ++ flat_map block_line j.blocks)))
