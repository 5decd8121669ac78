use Rattle.std.proofs.Common.{refl, ◌+◌, Option, subst, sym, ap, ◌∙◌}
use Rattle.hy_frame.specs.Frame.{FrameOf}
use Rattle.hy_connect.specs.Outlets.{held_in}
use Rattle.hy_connect.specs.Merges.{source}
use Rattle.hy_connect.specs.Sources.{Brings, Returns}
use Rattle.hy_connect.specs.declared.taker.Taken.TheVariants as K
use Rattle.hy_input.specs.declared.taker.Taker.{Taker}
use Rattle.hy_input.specs.declared.input.Came.TheVariants as C
use Rattle.hy_input.specs.Inputs.{ComesAs, HoldsRows, InputOf, IsPlain, IsStill, TellsCame, TellsTakenBy, has_given_up, held, held_by, input_of}
use Rattle.hy_input.proofs.Holding.{kept_moved_holds, kept_moved_none, kept_moved_still, moved_holds, moved_none, moved_still, taken_none, taken_plain, taken_rows, taken_still}
use Rattle.hy_input.proofs.Merging.{merge_comes, merging}
use Rattle.hy_input.proofs.Taking.{bank_empty, bank_failed, bank_rows, bank_word, brings_then, held_none, moved, moved_rows, plain_empty, plain_failed, plain_word, returns_then}
use Rattle.hy_input.proofs.input.Input.take.Goals as goal

pub returns-in-Merge-clause-told : goal.returns-in-Merge-clause-told
returns-in-Merge-clause-told g c =
    let i = c.self.inside in
    let was = ap (λ (t : Taker). input_of t i.from i.frame i.next i.given_up) (sym c.in-Merge.is) ∙ c.self.view_is in
    subst (λ (x : InputOf). TellsCame g.P.Port.happens c.args.port.now c.take_merged.new.port x (merging c.take_merged.new.taker i.from i.frame i.next i.given_up) c.take_merged.result) was
    (merge_comes g.P.Port.happens c.args.port.now c.take_merged.new.port c.in-Merge.taker c.take_merged.new.taker i.from i.frame i.next i.given_up c.take_merged.result c.take_merged.ensures.told)

pub returns-in-Merge-clause-rows : goal.returns-in-Merge-clause-rows
returns-in-Merge-clause-rows g c = λ width comes h.
    let i = c.self.inside in
    let m = c.in-Merge.taker in
    let was = ap (λ (t : Taker). input_of t i.from i.frame i.next i.given_up) (sym c.in-Merge.is) ∙ c.self.view_is in
    let holds : HoldsRows (merging m i.from i.frame i.next i.given_up) width = subst (λ (x : InputOf). HoldsRows x width) (sym was) h in
    let all : ComesAs (g.P.Port.arity c.args.port.now) (merging m i.from i.frame i.next i.given_up) width = subst (λ (x : InputOf). ComesAs (g.P.Port.arity c.args.port.now) x width) (sym was) comes in
    record { rows = c.take_merged.ensures.rows width (λ s low. all (source m s).mailbox 0 s (low, refl, refl)) holds.rows; lone = holds.lone }

pub returns-in-Empty : goal.returns-in-Empty
returns-in-Empty g c =
    let i = c.self.inside in
    let j = c.self-2.inside in
    let happens = g.P.Port.happens in
    let port = c.args.port.now in
    let port' = c.take_plain.new.port in
    let t' = c.take_plain.new.taker in
    let told = c.in-Empty.ensures.told in
    let e = c.self-2.view_is ∙ c.let_go.ensures.input in
    let none = held_none happens port port' c.let_go.new.bank c.take_plain.new.bank i.from i.frame i.next i.given_up j.taker t' K.Empty told in
    record {
      told = moved happens port port' c.let_go.new.bank c.take_plain.new.bank i.from i.frame i.next i.given_up K.Empty C.Empty i.taker t' c.args.self.now (input_of j.taker j.from j.frame j.next j.given_up)
          (λ w h. (plain_empty happens port port' c.let_go.new.bank c.take_plain.new.bank i.from i.frame i.next i.given_up i.taker t' w h).0) c.self.view_is c.requires.wants e told;
      bank = subst (λ (y : InputOf). Returns (held y) (held_in j.frame + held_by t') c.args.bank.now c.take_plain.new.bank) c.self.view_is
          (subst (λ (x : Option FrameOf). Returns (held_in i.frame + held_by i.taker) (held_in x + held_by t') c.args.bank.now c.take_plain.new.bank) (sym (ap (λ (x : InputOf). x.frame) e))
          (returns_then (held_in i.frame) (held_by i.taker) (held_by t') c.args.bank.now c.let_go.new.bank c.take_plain.new.bank c.let_go.ensures.bank
          (bank_empty happens port port' c.let_go.new.bank c.take_plain.new.bank i.from i.frame i.next i.given_up j.taker t' told) (sym (ap (λ (x : InputOf). held_by x.taker) e) ∙ none.0) none.1));
      still = moved_still i.taker i.from i.frame i.next i.given_up c.args.self.now (input_of j.taker j.from j.frame j.next j.given_up) c.self.view_is e t'
          (taken_still happens port port' c.let_go.new.bank c.take_plain.new.bank j.taker t' K.Empty told);
      rows = λ width comes h. moved_holds i.taker i.from i.frame i.next i.given_up c.args.self.now (input_of j.taker j.from j.frame j.next j.given_up) c.self.view_is e t' width
          (taken_none happens port port' c.let_go.new.bank c.take_plain.new.bank j.taker t' K.Empty told i.from i.given_up width);
      none = λ gave was. moved_none i.taker i.from i.frame i.next i.given_up c.args.self.now (input_of j.taker j.from j.frame j.next j.given_up) c.self.view_is e t' none.1;
      kept = c.take_plain.ensures.kept;
    }

pub returns-in-Failed : goal.returns-in-Failed
returns-in-Failed g c =
    let i = c.self.inside in
    let j = c.self-2.inside in
    let happens = g.P.Port.happens in
    let port = c.args.port.now in
    let port' = c.take_plain.new.port in
    let t' = c.take_plain.new.taker in
    let told = c.in-Failed.ensures.told in
    let e = c.self-2.view_is ∙ c.let_go.ensures.input in
    let none = held_none happens port port' c.let_go.new.bank c.take_plain.new.bank i.from i.frame i.next i.given_up j.taker t' K.Failed told in
    record {
      told = moved happens port port' c.let_go.new.bank c.take_plain.new.bank i.from i.frame i.next i.given_up K.Failed C.Failed i.taker t' c.args.self.now (input_of j.taker j.from j.frame j.next j.given_up)
          (λ w h. (plain_failed happens port port' c.let_go.new.bank c.take_plain.new.bank i.from i.frame i.next i.given_up i.taker t' w h).0) c.self.view_is c.requires.wants e told;
      bank = subst (λ (y : InputOf). Returns (held y) (held_in j.frame + held_by t') c.args.bank.now c.take_plain.new.bank) c.self.view_is
          (subst (λ (x : Option FrameOf). Returns (held_in i.frame + held_by i.taker) (held_in x + held_by t') c.args.bank.now c.take_plain.new.bank) (sym (ap (λ (x : InputOf). x.frame) e))
          (returns_then (held_in i.frame) (held_by i.taker) (held_by t') c.args.bank.now c.let_go.new.bank c.take_plain.new.bank c.let_go.ensures.bank
          (bank_failed happens port port' c.let_go.new.bank c.take_plain.new.bank i.from i.frame i.next i.given_up j.taker t' told) (sym (ap (λ (x : InputOf). held_by x.taker) e) ∙ none.0) none.1));
      still = moved_still i.taker i.from i.frame i.next i.given_up c.args.self.now (input_of j.taker j.from j.frame j.next j.given_up) c.self.view_is e t'
          (taken_still happens port port' c.let_go.new.bank c.take_plain.new.bank j.taker t' K.Failed told);
      rows = λ width comes h. moved_holds i.taker i.from i.frame i.next i.given_up c.args.self.now (input_of j.taker j.from j.frame j.next j.given_up) c.self.view_is e t' width
          (taken_none happens port port' c.let_go.new.bank c.take_plain.new.bank j.taker t' K.Failed told i.from i.given_up width);
      none = λ gave was. moved_none i.taker i.from i.frame i.next i.given_up c.args.self.now (input_of j.taker j.from j.frame j.next j.given_up) c.self.view_is e t' none.1;
      kept = c.take_plain.ensures.kept;
    }

pub returns-in-Word : goal.returns-in-Word
returns-in-Word g c =
    let i = c.self.inside in
    let j = c.self-2.inside in
    let happens = g.P.Port.happens in
    let port = c.args.port.now in
    let port' = c.take_plain.new.port in
    let t' = c.take_plain.new.taker in
    let told = c.in-Word.ensures.told in
    let e = c.self-2.view_is ∙ c.let_go.ensures.input in
    let none = held_none happens port port' c.let_go.new.bank c.take_plain.new.bank i.from i.frame i.next i.given_up j.taker t' K.Word told in
    record {
      told = moved happens port port' c.let_go.new.bank c.take_plain.new.bank i.from i.frame i.next i.given_up K.Word C.Word i.taker t' c.args.self.now (input_of j.taker j.from j.frame j.next j.given_up)
          (λ w h. (plain_word happens port port' c.let_go.new.bank c.take_plain.new.bank i.from i.frame i.next i.given_up i.taker t' c.self.invariant w h).0) c.self.view_is c.requires.wants e told;
      bank = subst (λ (y : InputOf). Returns (held y) (held_in j.frame + held_by t') c.args.bank.now c.take_plain.new.bank) c.self.view_is
          (subst (λ (x : Option FrameOf). Returns (held_in i.frame + held_by i.taker) (held_in x + held_by t') c.args.bank.now c.take_plain.new.bank) (sym (ap (λ (x : InputOf). x.frame) e))
          (returns_then (held_in i.frame) (held_by i.taker) (held_by t') c.args.bank.now c.let_go.new.bank c.take_plain.new.bank c.let_go.ensures.bank
          (bank_word happens port port' c.let_go.new.bank c.take_plain.new.bank i.from i.frame i.next i.given_up j.taker t' told) (sym (ap (λ (x : InputOf). held_by x.taker) e) ∙ none.0) none.1));
      still = moved_still i.taker i.from i.frame i.next i.given_up c.args.self.now (input_of j.taker j.from j.frame j.next j.given_up) c.self.view_is e t'
          (taken_still happens port port' c.let_go.new.bank c.take_plain.new.bank j.taker t' K.Word told);
      rows = λ width comes h. moved_holds i.taker i.from i.frame i.next i.given_up c.args.self.now (input_of j.taker j.from j.frame j.next j.given_up) c.self.view_is e t' width
          (taken_none happens port port' c.let_go.new.bank c.take_plain.new.bank j.taker t' K.Word told i.from i.given_up width);
      none = λ gave was. moved_none i.taker i.from i.frame i.next i.given_up c.args.self.now (input_of j.taker j.from j.frame j.next j.given_up) c.self.view_is e t' none.1;
      kept = c.take_plain.ensures.kept;
    }

pub returns-in-Frame : goal.returns-in-Frame
returns-in-Frame g c =
    let i = c.self.inside in
    let j = c.self-2.inside in
    let happens = g.P.Port.happens in
    let port = c.args.port.now in
    let port' = c.take_plain.new.port in
    let t' = c.take_plain.new.taker in
    let f = c.in-Frame.frame in
    let told = c.in-Frame.ensures.told in
    let e = c.self-2.view_is ∙ c.let_go.ensures.input in
    let none = held_none happens port port' c.let_go.new.bank c.take_plain.new.bank i.from i.frame i.next i.given_up j.taker t' (K.Frame f) told in
    record {
      told = moved_rows happens port port' c.let_go.new.bank c.take_plain.new.bank i.from i.frame i.next i.given_up f i.taker t' c.args.self.now (input_of j.taker j.from j.frame j.next j.given_up) c.keep.new.self
          c.self.view_is c.requires.wants e told c.keep.ensures.input;
      bank = subst (λ (y : InputOf). Brings (held y) (held c.keep.new.self) c.args.bank.now c.keep.new.bank) c.self.view_is
          (brings_then (held_in i.frame) (held_by i.taker) (held_by t') (held c.keep.new.self) c.args.bank.now c.let_go.new.bank c.take_plain.new.bank c.keep.new.bank c.let_go.ensures.bank
          (bank_rows happens port port' c.let_go.new.bank c.take_plain.new.bank i.from i.frame i.next i.given_up j.taker t' f told) c.keep.ensures.bank (sym (ap (λ (x : InputOf). held_by x.taker) e) ∙ none.0) none.1);
      still = kept_moved_still i.taker i.from i.frame i.next i.given_up c.args.self.now (input_of j.taker j.from j.frame j.next j.given_up) c.self.view_is e t' f c.keep.new.self
          (taken_still happens port port' c.let_go.new.bank c.take_plain.new.bank j.taker t' (K.Frame f) told) c.keep.ensures.input;
      rows = λ width comes h. kept_moved_holds i.taker i.from i.frame i.next i.given_up c.args.self.now (input_of j.taker j.from j.frame j.next j.given_up) c.self.view_is e t' f c.keep.new.self width c.keep.ensures.input
          (taken_rows happens port port' c.let_go.new.bank c.take_plain.new.bank (g.P.Port.arity port) (λ m s p happened. (g.met.P.Port.takes port port' m s p happened).1) f c.keep.ensures.rows i.taker t'
          (subst (λ (x : InputOf). TellsTakenBy happens port port' c.let_go.new.bank c.take_plain.new.bank x.taker t' (K.Frame f)) e told) i.from i.next i.frame i.given_up i.given_up width
          (subst (λ (x : InputOf). ComesAs (g.P.Port.arity port) x width) (sym c.self.view_is) comes));
      none = λ gave was. kept_moved_none i.taker i.from i.frame i.next i.given_up c.args.self.now (input_of j.taker j.from j.frame j.next j.given_up) c.self.view_is e t' f c.keep.new.self
          (subst (λ (x : InputOf). IsPlain x.taker) e (taken_plain happens port port' c.let_go.new.bank c.take_plain.new.bank j.taker t' (K.Frame f) told)) none.1 c.keep.ensures.input gave;
      kept = c.take_plain.ensures.kept;
    }
