use Rattle.std.proofs.Common.{◌≡◌, ◌<◌, ◌++◌, ◌∙◌, [], ℕ, length, subst, ap, get_or}
use Rattle.crossbeam_queue.specs.Passes.{view}
use Rattle.hy_mail.specs.declared.rule.MailView.{MailView}
use Rattle.hy_mail.specs.DeskRuns.{of_sender}
use Rattle.hy_mail.specs.Passes.{TakeState}
use Rattle.hy_mail.specs.Words.{IsWordSoFar}
use Rattle.hy_mail.proofs.Keeps.{settles}
use Rattle.hy_mail.proofs.mailbox.Mailbox.settle.Goals as goal

pub returns : goal.returns
returns c =
    let all = view c.gather.new.all in
    let items = c.learn.ensures.0 in
    let took : all.took ≡ c.args.taker.took = ap (λ (v : MailView). v.took) c.gather.ensures.known ∙ ap (λ (t : TakeState). t.took) c.taker.view_is in
    settles c.args.senders.items c.args.taker.took items all.known (ap (λ (v : MailView). v.known) c.gather.ensures.known)
    (subst (λ t. (k : ℕ) → k < length all.known → (of_sender k (t ++ items) ≡ get_or all.known k []) × IsWordSoFar (get_or all.known k [])) took c.learn.ensures.1)
    (λ k lt. c.requires.closed k (subst (λ n. k < n) c.requires.senders.all lt))
