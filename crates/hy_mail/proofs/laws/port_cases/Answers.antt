use Rattle.hy_mail.proofs.MailCases.{look_is_true_where_found, put_changes_its_pass, raise_raises, refusals_add, refusals_end, second_raise_is_no_step, seen_is_seen_again, words_are_by_mailbox}
use Rattle.hy_mail.proofs.laws.port_cases.Goals as goal

pub returns-clause-words_are_by_mailbox : goal.returns-clause-words_are_by_mailbox
returns-clause-words_are_by_mailbox c = words_are_by_mailbox

pub returns-clause-put_changes_its_pass : goal.returns-clause-put_changes_its_pass
returns-clause-put_changes_its_pass c = put_changes_its_pass

pub returns-clause-refusals_add : goal.returns-clause-refusals_add
returns-clause-refusals_add c = refusals_add

pub returns-clause-refusals_end : goal.returns-clause-refusals_end
returns-clause-refusals_end c = refusals_end

pub returns-clause-raise_raises : goal.returns-clause-raise_raises
returns-clause-raise_raises c = raise_raises

pub returns-clause-second_raise_is_no_step : goal.returns-clause-second_raise_is_no_step
returns-clause-second_raise_is_no_step c = second_raise_is_no_step

pub returns-clause-look_is_true_where_found : goal.returns-clause-look_is_true_where_found
returns-clause-look_is_true_where_found c = look_is_true_where_found

pub returns-clause-seen_is_seen_again : goal.returns-clause-seen_is_seen_again
returns-clause-seen_is_seen_again c = seen_is_seen_again
