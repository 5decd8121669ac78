use Rattle.al_query_laws.proofs.OneText.{texts_are_one}
use Rattle.al_query_laws.proofs.laws.text_laws.Goals as goal

pub returns : goal.returns
returns c = record {
  one = texts_are_one (record { reading = c.one_plan_reading.ensures.one; accepting = c.acceptance_laws.ensures.exact }) c.compile_laws.ensures.one_way c.one_stages.ensures;
}
