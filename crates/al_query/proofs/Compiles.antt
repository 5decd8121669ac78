-- What reading and accepting a text tells of compiling it, and of the command that asked for it.
use Rattle.std.proofs.Common.{◌≡◌, List, Option, Some, None, Result, Ok, Err, refl, ap, subst, inl, inr}
use Rattle.std.specs.Prelude.{◌⊎◌}
use Rattle.al_io.specs.Outside.{Bytes}
use Rattle.al_plan.specs.declared.file.PlanFile.{PlanFile}
use Rattle.al_plan.specs.declared.file.Refused.{Refused}
use Rattle.al_read.specs.declared.plan.ReadRefused.{ReadRefused}
use Rattle.al_read.specs.declared.plan.ReadRefused.TheVariants as A
use Rattle.al_read.specs.Reads.{Reads, Refuses as ReadRefuses}
use Rattle.al_query.specs.declared.compiler.Compiled.{Compiled}
use Rattle.al_query.specs.declared.fault.CompileFault.{CompileFault}
use Rattle.al_query.specs.declared.fault.CompileFault.TheVariants as F
use Rattle.al_query.specs.Compiles.{TellsAccepted, TellsPlanText, TellsRead, unread_fault}
use Rattle.al_query.specs.Served.{IsPlan, IsPlanRefused, unread, unaccepted}
use Rattle.al_query.proofs.Dues.{IsOneText, no_plan, one_refusal}

-- ---- reading and accepting

pub read_unread : (bytes : Bytes) (why : ReadRefused) → ReadRefuses bytes why → TellsRead bytes (Err (unread_fault why))
read_unread bytes (A.Refused r) h = h
read_unread bytes A.NoMemory h = tt

pub read_stopped : (bytes : Bytes) (fault : CompileFault) → TellsRead bytes (Err fault) → TellsPlanText bytes (Err fault)
read_stopped bytes (F.Refused r) h = unread bytes refl h
read_stopped bytes F.NoMemory h = tt

pub accept_stopped : (bytes : Bytes) (f : PlanFile) (fault : CompileFault) → Reads bytes f → TellsAccepted f (Err fault) → TellsPlanText bytes (Err fault)
accept_stopped bytes f (F.Refused r) reads h = unaccepted bytes refl f reads h
accept_stopped bytes f F.NoMemory reads h = tt

-- ---- compiling

refused_same : (r s : Refused) → F.Refused s ≡ F.Refused r → s ≡ r
refused_same r s h = cc

memory_or_refused : (r : Refused) → F.NoMemory ≡ F.Refused r → ⊥
memory_or_refused r h = cc

-- a text that is refused is refused for that
pub fault_tells : (bytes : Bytes) (fault : CompileFault) → TellsPlanText bytes (Err fault) → (r : Refused) → fault ≡ F.Refused r → IsPlanRefused (Some bytes) r
fault_tells bytes (F.Refused s) h r e = subst (IsPlanRefused (Some bytes)) (refused_same r s e) h
fault_tells bytes F.NoMemory h r e = absurd (memory_or_refused r e)

abbrev pub IsRefusedOrCut : Result Compiled CompileFault → Refused → Type 0
IsRefusedOrCut result r = (result ≡ Err (F.Refused r)) ⊎ (result ≡ Err F.NoMemory)

-- a refusal is the answer, unless memory ran out
pub refused_exactly : IsOneText → (bytes : Bytes) (fault : CompileFault) → TellsPlanText bytes (Err fault) → (r : Refused) → IsPlanRefused (Some bytes) r → IsRefusedOrCut (Err fault) r
refused_exactly one bytes (F.Refused s) h r bad = inl (ap (λ (q : Refused). Err (F.Refused q)) (one_refusal one (Some bytes) s r h bad))
refused_exactly one bytes F.NoMemory h r bad = inr refl

-- an accepted text is refused for nothing
pub accepted_exactly : IsOneText → (bytes : Bytes) (f : PlanFile) (result : Result Compiled CompileFault) → IsPlan (Some bytes) f → (r : Refused) → IsPlanRefused (Some bytes) r → IsRefusedOrCut result r
accepted_exactly one bytes f result is r bad = absurd (no_plan one (Some bytes) r f bad is)
