use Rattle.hy_mail.proofs.MailCases.{held_is_of_senders, held_is_of_the_arity, no_number_is_lost, no_number_twice, no_second_taker, none_is_dropped, none_is_made_up, none_overtakes, put_is_taken_then_held, senders_put_words, spent_holds_nothing}
use Rattle.hy_mail.proofs.laws.mail_cases.Goals as goal

pub returns-clause-put_is_taken_then_held : goal.returns-clause-put_is_taken_then_held
returns-clause-put_is_taken_then_held c = put_is_taken_then_held

pub returns-clause-none_is_dropped : goal.returns-clause-none_is_dropped
returns-clause-none_is_dropped c = none_is_dropped

pub returns-clause-none_is_made_up : goal.returns-clause-none_is_made_up
returns-clause-none_is_made_up c = none_is_made_up

pub returns-clause-none_overtakes : goal.returns-clause-none_overtakes
returns-clause-none_overtakes c = none_overtakes

pub returns-clause-senders_put_words : goal.returns-clause-senders_put_words
returns-clause-senders_put_words c = senders_put_words

pub returns-clause-held_is_of_senders : goal.returns-clause-held_is_of_senders
returns-clause-held_is_of_senders c = held_is_of_senders

pub returns-clause-held_is_of_the_arity : goal.returns-clause-held_is_of_the_arity
returns-clause-held_is_of_the_arity c = held_is_of_the_arity

pub returns-clause-no_second_taker : goal.returns-clause-no_second_taker
returns-clause-no_second_taker c = no_second_taker

pub returns-clause-no_number_twice : goal.returns-clause-no_number_twice
returns-clause-no_number_twice c = no_number_twice

pub returns-clause-no_number_is_lost : goal.returns-clause-no_number_is_lost
returns-clause-no_number_is_lost c = no_number_is_lost

pub returns-clause-spent_holds_nothing : goal.returns-clause-spent_holds_nothing
returns-clause-spent_holds_nothing c = spent_holds_nothing
