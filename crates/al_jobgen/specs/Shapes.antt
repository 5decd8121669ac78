-- The inputs of operators, and the piece of a job that stands over them.
use Rattle.std.specs.Prelude.{List, [], ◌∷◌}
use Rattle.al_phys.specs.declared.phys.Phys.{Phys}
use Rattle.al_phys.specs.declared.phys.Phys.TheOpen.{Phys-F}
use Rattle.al_phys.specs.declared.phys.Phys.TheOpen as P
use Rattle.hy_job.specs.declared.job.Wire.{Wire}
use Rattle.al_jobgen.specs.declared.inputs.Inputs.{Inputs}
use Rattle.al_jobgen.specs.declared.inputs.Inputs.TheVariants as I
use Rattle.al_jobgen.specs.JobOf.{Step, Piece, piece_of, source_piece, exchange_piece, one_piece, two_piece, union_piece, join_piece}

pub data Form : Type 0 where
  Source : Form
  Over : Phys → Form
  Both : Phys → Phys → Form

abbrev pub form : Phys-F Phys → Form
form (P.Scan set vars) = Source
form P.One = Source
form (P.Assign made p) = Over p
form (P.Select c p) = Over p
form (P.Project vars p) = Over p
form (P.Unnest v g p) = Over p
form (P.Subplan inner p) = Over p
form (P.Check name c p) = Over p
form (P.Join how c l r) = Both l r
form (P.HashGroup keys inner p) = Over p
form (P.PreGroup keys inner p) = Over p
form (P.HashDistinct p) = Over p
form (P.AggPart made p) = Over p
form (P.AggFinal made p) = Over p
form (P.Union made ls rs l r) = Both l r
form (P.Sort keys p) = Over p
form (P.Limit m k p) = Over p
form (P.LocalLimit m p) = Over p
form (P.Result vars p) = Over p
form (P.HashExchange vars p) = Over p
form (P.Broadcast p) = Over p
form (P.Gather p) = Over p
form (P.Merge keys p) = Over p

-- the same, as code has it
abbrev pub form_in : Inputs → Form
form_in I.None = Source
form_in (I.One p) = Over p.now
form_in (I.Two l r) = Both l.now r.now

-- by the number of activities: an exchange has none, and all others one or two
abbrev pub over_piece : Piece → List Step → Wire → Piece
over_piece q [] wire = exchange_piece q wire
over_piece q (a ∷ []) wire = one_piece q (a ∷ []) wire
over_piece q (a ∷ b ∷ more) wire = two_piece q (a ∷ b ∷ more) wire

abbrev pub both_piece : Piece → Piece → List Step → Wire → Piece
both_piece l r (a ∷ b ∷ more) wire = join_piece l r (a ∷ b ∷ more) wire
both_piece l r own wire = union_piece l r own wire

abbrev pub form_piece : Form → List Step → Wire → Piece
form_piece Source own wire = source_piece own wire
form_piece (Over p) own wire = over_piece (piece_of p) own wire
form_piece (Both l r) own wire = both_piece (piece_of l) (piece_of r) own wire
