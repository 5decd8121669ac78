-- What waits for receivers whose word has not failed.
use Rattle.std.proofs.Common.{◌≡◌, ◌≢◌, ◌<◌, ℕ, List, [], ◌∷◌, ◌++◌, Option, Some, None, sym, ap, subst}
use Rattle.std.specs.List.{AllByRecursion}
use Rattle.hy_frame.specs.Frame.{FrameOf}
use Rattle.hy_frame.specs.declared.writer.WriterState.{WriterState}
use Rattle.hy_frame.specs.declared.writer.WriterState.TheVariants.{Opened, Failed, Closed}
use Rattle.hy_job.proofs.Members.{no_bool}
use Rattle.hy_mail.specs.declared.parcel.Parcel.{Parcel}
use Rattle.hy_mail.specs.declared.parcel.Parcel.TheVariants as P
use Rattle.hy_mail.specs.Words.{Leads}
use Rattle.hy_connect.specs.Many.{Each}
use Rattle.hy_connect.specs.Outlets.{OutletOf, closed, flushed, flushed_with}
use Rattle.hy_connect.specs.Writers.{WriterOf, outlet, receivers}
use Rattle.hy_output.specs.declared.way.Way.{Way}
use Rattle.hy_output.specs.declared.way.Way.TheVariants as W
use Rattle.hy_output.specs.Ways.{AreAsFar, HasNoFail, state_of}
use Rattle.hy_output.specs.Outputs.{Flushes, OutputOf, output_of}

abbrev NoFail : List Parcel → Type 0
NoFail = AllByRecursion (λ p. p ≢ P.Fail)

-- ---- words that are open

closed_leads : (ps : List Parcel) → Leads Closed ps Opened → ⊥
closed_leads [] h = cc
closed_leads (p ∷ ps) h = no_bool (sym h.0)

failed_leads : (ps : List Parcel) → Leads Failed ps Opened → ⊥
failed_leads [] h = cc
failed_leads (P.Open ∷ ps) h = no_bool (sym h.0)
failed_leads (P.Frame f ∷ ps) h = no_bool (sym h.0)
failed_leads (P.Fail ∷ ps) h = no_bool (sym h.0)
failed_leads (P.Close ∷ ps) h = closed_leads ps h.1

open_fails : P.Open ≡ P.Fail → ⊥
open_fails e = cc

frame_fails : (f : FrameOf) → P.Frame f ≡ P.Fail → ⊥
frame_fails f e = cc

close_fails : P.Close ≡ P.Fail → ⊥
close_fails e = cc

open_leads : (w : WriterState) (ps : List Parcel) → Leads w ps Opened → NoFail ps
open_leads w [] h = tt
open_leads w (P.Open ∷ ps) h = (open_fails, open_leads Opened ps h.1)
open_leads w (P.Frame f ∷ ps) h = (frame_fails f, open_leads w ps h.1)
open_leads w (P.Fail ∷ ps) h = absurd (failed_leads ps h.1)
open_leads w (P.Close ∷ ps) h = absurd (closed_leads ps h.1)

pub open_no_fail : (word : ℕ → WriterState) (way : Way) → AreAsFar word way → state_of way ≡ Opened → HasNoFail way
open_no_fail word (W.Wire w) far opened k lt = open_leads _ (outlet w k).waits (subst (Leads (word (outlet w k).mailbox) (outlet w k).waits) opened (far k lt))
open_no_fail word (W.Kept keeper) far opened k lt = tt

-- ---- the end of a word

no_fail_more : (ps qs : List Parcel) → NoFail ps → NoFail qs → NoFail (ps ++ qs)
no_fail_more [] qs h g = g
no_fail_more (p ∷ ps) qs h g = (h.0, no_fail_more ps qs h.1 g)

flushed_no_fail : (filling : Option FrameOf) (o : OutletOf) → NoFail o.waits → NoFail (flushed_with filling o).waits
flushed_no_fail None o h = h
flushed_no_fail (Some f) o h = no_fail_more o.waits (P.Frame f ∷ []) h (frame_fails f, tt)

closed_no_fail : (o : OutletOf) → NoFail o.waits → NoFail (closed o).waits
closed_no_fail o h = no_fail_more (flushed o).waits (P.Close ∷ []) (flushed_no_fail o.filling o h) (close_fails, tt)

pub wire_clean : (w w' : WriterOf) → Each closed w.outlets w'.outlets → HasNoFail (W.Wire w) → HasNoFail (W.Wire w')
wire_clean w w' each h k lt =
    let low : k < receivers w = subst (λ (n : ℕ). k < n) each.count lt in
    subst (λ (o : OutletOf). NoFail o.waits) (sym (each.each k low)) (closed_no_fail (outlet w k) (h k low))

-- behind what was packed
pub finish_clean : (old mid : OutputOf) (arity unit : ℕ) (filling : Option FrameOf) (way way' : Way) (word : ℕ → WriterState) → output_of arity unit filling way ≡ mid → Flushes old mid → state_of mid.way ≡ Opened
    → (HasNoFail way → HasNoFail way') → AreAsFar word old.way → HasNoFail way'
finish_clean old mid arity unit filling way way' word view h opened clean far =
    clean (subst HasNoFail (sym (ap (λ (o : OutputOf). o.way) view)) (open_no_fail word mid.way (h.way.words word far) opened))
