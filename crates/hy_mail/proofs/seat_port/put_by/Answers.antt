use Rattle.std.proofs.Common.{◌≡◌, ◌∙◌, ap, subst, sym, true}
use Rattle.hy_mail.specs.Passes.{IsSendOf}
use Rattle.hy_mail.specs.Seated.{place_in}
use Rattle.hy_mail.specs.Words.{HasArity, may}
use Rattle.hy_mail.proofs.Places.{arity_is, found, is_box, is_place, put_seated, put_told, same_box, sent_at, word_is}
use Rattle.hy_mail.proofs.seat_port.put_by.Goals as goal

pub unreachable-requires : goal.unreachable-requires
unreachable-requires g c =
    let m = c.args.mailbox in
    found c.args.sends.now.items m c.requires.there (ap (λ l. place_in l m) (sym c.deref.ensures.value) ∙ sym c.place_of.ensures ∙ c.in_default.is)

pub bounds-boxes-mailbox : goal.bounds-boxes-mailbox
bounds-boxes-mailbox g c =
    let xs = c.args.sends.now.items in
    let m = c.args.mailbox in
    let x = c.index_mut.result.now in
    let h = is_place xs m c.in-Some.place x (ap (λ l. place_in l m) (sym c.deref.ensures.value) ∙ sym c.place_of.ensures ∙ c.in-Some.is) in
    let old = sent_at c.args.boxes.now xs m c.in-Some.place x c.requires.seated h c.index_mut.ensures.value in
    old.1.there

pub put-requires-clause-mine : goal.put-requires-clause-mine
put-requires-clause-mine g c =
    let xs = c.args.sends.now.items in
    let m = c.args.mailbox in
    let x = c.index_mut.result.now in
    let h = is_place xs m c.in-Some.place x (ap (λ l. place_in l m) (sym c.deref.ensures.value) ∙ sym c.place_of.ensures ∙ c.in-Some.is) in
    let old = sent_at c.args.boxes.now xs m c.in-Some.place x c.requires.seated h c.index_mut.ensures.value in
    let b = c.index-boxes-mailbox.result in
    let own = same_box c.args.boxes.now m b old.0 c.index-boxes-mailbox.is old.1 in
    subst (λ a. IsSendOf a x.1) (sym own) old.2

pub put-requires-clause-fits : goal.put-requires-clause-fits
put-requires-clause-fits g c =
    let xs = c.args.sends.now.items in
    let m = c.args.mailbox in
    let x = c.index_mut.result.now in
    let h = is_place xs m c.in-Some.place x (ap (λ l. place_in l m) (sym c.deref.ensures.value) ∙ sym c.place_of.ensures ∙ c.in-Some.is) in
    subst (λ w. may w c.args.parcel ≡ true) (word_is xs m c.in-Some.place x h c.index_mut.ensures.value) c.requires.fits

pub put-requires-clause-arity : goal.put-requires-clause-arity
put-requires-clause-arity g c =
    let xs = c.args.sends.now.items in
    let m = c.args.mailbox in
    let x = c.index_mut.result.now in
    let h = is_place xs m c.in-Some.place x (ap (λ l. place_in l m) (sym c.deref.ensures.value) ∙ sym c.place_of.ensures ∙ c.in-Some.is) in
    let old = sent_at c.args.boxes.now xs m c.in-Some.place x c.requires.seated h c.index_mut.ensures.value in
    let b = c.index-boxes-mailbox.result in
    let box = is_box c.args.boxes.now m b old.1.there c.index-boxes-mailbox.is in
    subst (λ n. HasArity n c.args.parcel) (arity_is c.args.boxes.now m b box) c.requires.arity

pub returns-clause-told : goal.returns-clause-told
returns-clause-told g c =
    let xs = c.args.sends.now.items in
    let m = c.args.mailbox in
    let x = c.index_mut.result.now in
    let h = is_place xs m c.in-Some.place x (ap (λ l. place_in l m) (sym c.deref.ensures.value) ∙ sym c.place_of.ensures ∙ c.in-Some.is) in
    let old = sent_at c.args.boxes.now xs m c.in-Some.place x c.requires.seated h c.index_mut.ensures.value in
    let b = c.index-boxes-mailbox.result in
    let box = is_box c.args.boxes.now m b old.1.there c.index-boxes-mailbox.is in
    put_told c.args.boxes.now xs m c.in-Some.place x b c.put.new.pass c.args.parcel c.put.result h c.requires.there c.index_mut.ensures.value box c.put.ensures

pub returns-clause-seated : goal.returns-clause-seated
returns-clause-seated g c =
    let xs = c.args.sends.now.items in
    let m = c.args.mailbox in
    let x = c.index_mut.result.now in
    let h = is_place xs m c.in-Some.place x (ap (λ l. place_in l m) (sym c.deref.ensures.value) ∙ sym c.place_of.ensures ∙ c.in-Some.is) in
    put_seated c.args.boxes.now xs m c.in-Some.place x c.index-boxes-mailbox.result c.put.new.pass c.args.parcel c.put.result c.requires.seated h c.index_mut.ensures.value c.index-boxes-mailbox.is c.put.ensures
