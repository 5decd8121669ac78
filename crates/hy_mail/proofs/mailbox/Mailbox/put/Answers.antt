use Rattle.std.proofs.Common.{◌≡◌, ◌∙◌, ap, subst, sym, true}
use Rattle.hy_mail.specs.Passes.{SendState}
use Rattle.hy_mail.specs.Words.{HasArity, may}
use Rattle.hy_mail.proofs.Keeps.{learns_put, puts, sender_on}
use Rattle.hy_mail.proofs.WordLaws.{may_next}
use Rattle.hy_mail.proofs.mailbox.Mailbox.put.Goals as goal

pub push_as-requires-clause-rule : goal.push_as-requires-clause-rule
push_as-requires-clause-rule g c =
    let is = c.pass.invariant.1 in
    let arity = ap (λ (s : SendState). s.arity) c.pass.view_is ∙ c.requires.mine.arity in
    let fits = subst (λ (s : SendState). may s.word c.args.parcel ≡ true) (sym c.pass.view_is) c.requires.fits in
    (puts _ _ _ _ is.sends is.takes is.from (subst (λ n. HasArity n c.args.parcel) (sym arity) c.requires.arity) ((may_next _ _ c.args.parcel is.leads).0 fits), learns_put _ _ is.sends)

pub invariant_of-pass : goal.invariant_of-pass
invariant_of-pass g c =
    let fits = subst (λ (s : SendState). may s.word c.args.parcel ≡ true) (sym c.pass.view_is) c.requires.fits in
    (c.in-Ok.ensures.queue.2 ∙ c.pass.invariant.0, sender_on _ _ _ _ _ (record { from = c.pass.inside.number; parcel = c.args.parcel }) c.in-Ok.ensures.rule c.pass.invariant.1 fits c.leads-word.ensures)
