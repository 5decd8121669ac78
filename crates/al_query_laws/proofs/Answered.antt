-- Every plan file is a plan or is refused.
use Rattle.std.proofs.Common.{◌≡◌, ◌⊎◌, inl, inr, Option, Some, None, refl}
use Rattle.std.specs.Prelude.{◌↔◌}
use Rattle.al_io.specs.Outside.{Bytes}
use Rattle.al_plan.specs.declared.file.PlanFile.{PlanFile}
use Rattle.al_plan.specs.declared.file.Refused.{Refused}
use Rattle.al_plan.specs.declared.file.RefusedKind.TheVariants as kind
use Rattle.al_plan.specs.Accept.{IsAccepted, accept_refusal}
use Rattle.al_read.specs.Reads.{Reads, refusal}
use Rattle.al_read_laws.specs.EveryText.{HasReadingOrRefusal}
use Rattle.al_query.specs.declared.status.Status.TheVariants as St
use Rattle.al_query.specs.Served.{IsPlan, IsPlanRefused, absent, unread, unaccepted, IsDue}
use Rattle.al_query_laws.specs.OneText.{FilesAreAnswered, UnplannedIsRefused}

abbrev Accepting : Type 0
Accepting = (f : PlanFile) → IsAccepted f ↔ (accept_refusal f ≡ None)

abbrev Answer : Option Bytes → Type 0
Answer file = ((f : PlanFile) × IsPlan file f) ⊎ ((r : Refused) × IsPlanRefused file r)

by_refusal : Accepting → (bytes : Bytes) (f : PlanFile) → Reads bytes f → (o : Option Refused) → accept_refusal f ≡ o → Answer (Some bytes)
by_refusal accepting bytes f reads None e = inl (f, (bytes, refl, reads, (accepting f).1 e))
by_refusal accepting bytes f reads (Some r) e = inr (r, unaccepted bytes refl f reads e)

by_reading : Accepting → (bytes : Bytes) → HasReadingOrRefusal bytes → Answer (Some bytes)
by_reading accepting bytes (inl (f, reads)) = by_refusal accepting bytes f reads (accept_refusal f) refl
by_reading accepting bytes (inr (r, bad)) = inr (r, unread bytes refl bad)

pub files_are_answered : ((bytes : Bytes) → HasReadingOrRefusal bytes) → Accepting → FilesAreAnswered
files_are_answered texts accepting None = inr (refusal kind.Absent 0, absent refl refl)
files_are_answered texts accepting (Some bytes) = by_reading accepting bytes (texts bytes)

pub unplanned_is_refused : FilesAreAnswered → UnplannedIsRefused
unplanned_is_refused answered words files c plan is of none = by_answer (answered (files plan)) where
  by_answer : Answer (files plan) → (r : Refused) × IsDue words files (St.PlanRefused r)
  by_answer (inl (f, states)) = absurd (none f states)
  by_answer (inr (r, refused)) = (r, (c, is, (plan, of, refused)))
