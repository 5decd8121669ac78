use Rattle.hy_places.proofs.Owning.{boxes_are_counted, inboxes_are_own, inboxes_are_taken, outboxes_are_put, outboxes_differ, stages_are_own}
use Rattle.hy_places.proofs.Sending.{receivers_have_places, senders_are_counted, senders_have_places}
use Rattle.hy_places.proofs.laws.place_laws.Goals as goal

pub returns : goal.returns
returns c = record {
  own_stage = stages_are_own;
  senders = senders_have_places;
  receivers = receivers_have_places;
  counted = senders_are_counted;
  numbers = boxes_are_counted;
  taken = inboxes_are_taken;
  put = outboxes_are_put;
  own = inboxes_are_own;
  apart = outboxes_differ;
}
