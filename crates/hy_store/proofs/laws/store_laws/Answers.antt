use Rattle.hy_store.proofs.RunLaws.{created_is_live, grown_is_live, removed_is_not, created_has_shape, grown_has_shape, others_have_shape, last_is_found}
use Rattle.hy_store.proofs.laws.store_laws.Goals as goal

pub returns-clause-created : goal.returns-clause-created
returns-clause-created c = created_is_live

pub returns-clause-grown : goal.returns-clause-grown
returns-clause-grown c = grown_is_live

pub returns-clause-removed : goal.returns-clause-removed
returns-clause-removed c = removed_is_not

pub returns-clause-created_shape : goal.returns-clause-created_shape
returns-clause-created_shape c = created_has_shape

pub returns-clause-grown_shape : goal.returns-clause-grown_shape
returns-clause-grown_shape c = grown_has_shape

pub returns-clause-others_shape : goal.returns-clause-others_shape
returns-clause-others_shape c = others_have_shape

pub returns-clause-last : goal.returns-clause-last
returns-clause-last c = last_is_found
