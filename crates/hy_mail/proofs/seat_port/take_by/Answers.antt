use Rattle.std.proofs.Common.{◌∙◌, ap, subst, sym}
use Rattle.hy_mail.specs.Passes.{IsTakeOf}
use Rattle.hy_mail.specs.Seated.{place_in}
use Rattle.hy_mail.proofs.Places.{found, is_box, is_place, same_box, take_seated, take_told, taken_at}
use Rattle.hy_mail.proofs.seat_port.take_by.Goals as goal

pub unreachable-requires : goal.unreachable-requires
unreachable-requires g c =
    let m = c.args.mailbox in
    found c.args.takes.now.items m c.requires.there (ap (λ l. place_in l m) (sym c.deref.ensures.value) ∙ sym c.place_of.ensures ∙ c.in_default.is)

pub bounds-boxes-mailbox : goal.bounds-boxes-mailbox
bounds-boxes-mailbox g c =
    let xs = c.args.takes.now.items in
    let m = c.args.mailbox in
    let x = c.index_mut.result.now in
    let h = is_place xs m c.in-Some.place x (ap (λ l. place_in l m) (sym c.deref.ensures.value) ∙ sym c.place_of.ensures ∙ c.in-Some.is) in
    let old = taken_at c.args.boxes.now xs m c.in-Some.place x c.requires.seated h c.index_mut.ensures.value in
    old.1.there

pub take-requires : goal.take-requires
take-requires g c =
    let xs = c.args.takes.now.items in
    let m = c.args.mailbox in
    let x = c.index_mut.result.now in
    let h = is_place xs m c.in-Some.place x (ap (λ l. place_in l m) (sym c.deref.ensures.value) ∙ sym c.place_of.ensures ∙ c.in-Some.is) in
    let old = taken_at c.args.boxes.now xs m c.in-Some.place x c.requires.seated h c.index_mut.ensures.value in
    let b = c.index-boxes-mailbox.result in
    let own = same_box c.args.boxes.now m b old.0 c.index-boxes-mailbox.is old.1 in
    record { mine = subst (λ a. IsTakeOf a x.1) (sym own) old.2 }

pub returns-clause-told : goal.returns-clause-told
returns-clause-told g c =
    let xs = c.args.takes.now.items in
    let m = c.args.mailbox in
    let x = c.index_mut.result.now in
    let h = is_place xs m c.in-Some.place x (ap (λ l. place_in l m) (sym c.deref.ensures.value) ∙ sym c.place_of.ensures ∙ c.in-Some.is) in
    let old = taken_at c.args.boxes.now xs m c.in-Some.place x c.requires.seated h c.index_mut.ensures.value in
    let b = c.index-boxes-mailbox.result in
    let own = same_box c.args.boxes.now m b old.0 c.index-boxes-mailbox.is old.1 in
    take_told c.args.boxes.now xs m c.in-Some.place x b c.take.new.pass c.take.result h c.requires.there c.index_mut.ensures.value (is_box c.args.boxes.now m b old.1.there c.index-boxes-mailbox.is) (subst (λ a. IsTakeOf a x.1) (sym own) old.2) c.take.ensures

pub returns-clause-seated : goal.returns-clause-seated
returns-clause-seated g c =
    let xs = c.args.takes.now.items in
    let m = c.args.mailbox in
    let x = c.index_mut.result.now in
    let h = is_place xs m c.in-Some.place x (ap (λ l. place_in l m) (sym c.deref.ensures.value) ∙ sym c.place_of.ensures ∙ c.in-Some.is) in
    take_seated c.args.boxes.now xs m c.in-Some.place x c.take.new.pass c.take.result c.requires.seated h c.index_mut.ensures.value c.take.ensures
