-- What goes over a wire or is kept, by what a writer and a keeper say.
use Rattle.std.proofs.Common.{◌≡◌, ℕ, nat_eq, List, [], ◌∷◌, ◌++◌, refl, sym, ap, ◌∙◌, append-nil, append_assoc, flat_map, Result, Ok, Err, OnOk, OnErr, arith}
use Rattle.std.proofs.lemmas.List.Elements.{filter-append}
use Rattle.hy_frame.specs.Frame.{FrameOf}
use Rattle.hy_frame.specs.declared.writer.WriterState.{WriterState}
use Rattle.hy_frame.specs.declared.writer.WriterState.TheVariants.{Opened}
use Rattle.hy_job.specs.Columns.{part_of}
use Rattle.hy_driver.specs.Rows.{Row}
use Rattle.hy_connect.specs.declared.route.Route.{Route}
use Rattle.hy_connect.specs.declared.route.Route.TheVariants as R
use Rattle.hy_connect.specs.Routes.{sent_by}
use Rattle.hy_connect.specs.Outlets.{owed_rows, waiting_rows}
use Rattle.hy_connect.specs.Writers as C
use Rattle.hy_connect.specs.Writers.{MayGive, TellsWritten, WriterOf, Writes, may_offer, outlet, receivers}
use Rattle.hy_output.specs.Keeper.{KeeperOf, frame_rows}
use Rattle.hy_output.specs.declared.way.Way.TheVariants as W
use Rattle.hy_output.specs.Ways.{Closes, Sends, Tears}

-- ---- over a wire

pub writes_sends : (w w' : WriterOf) (rows : List Row) → Writes w rows w' → Sends (W.Wire w) rows (W.Wire w')
writes_sends w w' rows h = record {
  still = h.still;
  offers = h.offers;
  keeps = record { back = λ given on e. e };
  words = h.words;
}

sent_more : (route : Route) (n k : ℕ) (xs ys : List Row) → sent_by route n k (xs ++ ys) ≡ sent_by route n k xs ++ sent_by route n k ys
sent_more R.Whole n k xs ys = refl
sent_more (R.ByHash columns) n k xs ys = filter-append (λ (row : Row). nat_eq (part_of n columns row) k) xs ys

-- what was owed and goes to a receiver of rows and of others behind them, by its front
pub front_more : (owed rows given waits lost put : List Row) (route : Route) (n k : ℕ) → owed ++ sent_by route n k rows ≡ waits ++ lost → put ≡ owed ++ sent_by route n k (rows ++ given)
    → put ≡ waits ++ (lost ++ sent_by route n k given)
front_more owed rows given waits lost put route n k front is =
    is ∙ ap (λ (r : List Row). owed ++ r) (sent_more route n k rows given) ∙ sym (append_assoc owed (sent_by route n k rows) (sent_by route n k given))
    ∙ ap (λ (r : List Row). r ++ sent_by route n k given) front ∙ append_assoc waits lost (sent_by route n k given)

pub tears_wire : (w w' : WriterOf) (rows : List Row) → C.Tears w rows w' → Tears (W.Wire w) rows (W.Wire w')
tears_wire w w' rows h = record {
  still = h.still;
  fronts = λ k low given put may.
      let f = h.fronts k low in (
        f.0 ++ sent_by w.route (receivers w) k given,
        front_more (owed_rows (outlet w k)) rows given (waiting_rows (outlet w' k)) f.0 put w.route (receivers w) k f.1
            (may.1.is ∙ ap (λ (r : List Row). owed_rows (outlet w k) ++ r) may.1.output),
      );
  words = h.words;
}

pub wire_ok : {E : Type 0} → (w w' : WriterOf) (rows : List Row) (result : Result Unit E) → TellsWritten w rows w' result → OnOk result (Sends (W.Wire w) rows (W.Wire w'))
wire_ok {E} w w' rows (Ok x) h = writes_sends w w' rows h
wire_ok {E} w w' rows (Err e) h = tt

pub wire_err : {E : Type 0} → (w w' : WriterOf) (rows : List Row) (result : Result Unit E) → TellsWritten w rows w' result → OnErr result (Tears (W.Wire w) rows (W.Wire w'))
wire_err {E} w w' rows (Ok x) h = tt
wire_err {E} w w' rows (Err e) h = tears_wire w w' rows h

pub wire_closes : (w w' : WriterOf) → Writes w [] w' → Closes (W.Wire w) (W.Wire w')
wire_closes w w' h = record {
  still = h.still;
  offers = h.offers;
  keeps = λ opened. record { back = λ given on e. e };
  words = h.words;
}

-- ---- kept

-- a keeper in this state
abbrev pub keeper : List FrameOf → WriterState → KeeperOf
keeper frames state = record { frames = frames; state = state }

pub keeper_opens : (frames : List FrameOf) (state : WriterState) → ((given : List Row) → MayGive state given) → Sends (W.Kept (keeper frames state)) [] (W.Kept (keeper frames Opened))
keeper_opens frames state may = record {
  still = tt;
  offers = λ k low. absurd (omega (arith, low));
  keeps = record { back = λ given on h. (may given, h.1) };
  words = λ word h. tt;
}

kept_more : (frames : List FrameOf) (f : FrameOf) → flat_map frame_rows (frames ++ f ∷ []) ≡ flat_map frame_rows frames ++ frame_rows f
kept_more [] f = append-nil (frame_rows f)
kept_more (g ∷ frames) f = ap (λ (r : List Row). frame_rows g ++ r) (kept_more frames f) ∙ sym (append_assoc (frame_rows g) (flat_map frame_rows frames) (frame_rows f))

pub keeper_keeps : (frames : List FrameOf) (f : FrameOf) → Sends (W.Kept (keeper frames Opened)) (frame_rows f) (W.Kept (keeper (frames ++ f ∷ []) Opened))
keeper_keeps frames f = record {
  still = tt;
  offers = λ k low. absurd (omega (arith, low));
  keeps = record { back = λ given on h. (tt, h.1 ∙ ap (λ (r : List Row). r ++ given) (kept_more frames f) ∙ append_assoc (flat_map frame_rows frames) (frame_rows f) given) };
  words = λ word h. tt;
}

pub keeper_tears : (k k' : KeeperOf) (rows : List Row) → Tears (W.Kept k) rows (W.Kept k')
keeper_tears k k' rows = record {
  still = tt;
  fronts = λ place low. absurd (omega (arith, low));
  words = λ word h. tt;
}
