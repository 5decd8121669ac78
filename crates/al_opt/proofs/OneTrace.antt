-- The sets of the optimiser leave no choice, so a plan has one trace.
use Rattle.std.specs.List.{flat_map}
use Rattle.std.proofs.Common.{Bool, true, false, List, [], ◌∷◌, ◌++◌, ap, sym, subst, ◌∙◌}
use Rattle.al_plan.specs.declared.plan.Plan.{Plan}
use Rattle.al_rule.specs.declared.names.SetName.{SetName}
use Rattle.al_rule.specs.declared.names.SetName.TheVariants as S
use Rattle.al_rule.specs.declared.trace.TraceStep.{TraceStep}
use Rattle.al_rule.specs.Rules.{Rules}
use Rattle.al_rule.specs.Driven.{ByWalks, Driven}
use Rattle.al_rule.specs.Entries.{Entry, listed}
use Rattle.al_rule.proofs.EntryLaws.{Each, each_at}
use Rattle.al_rules_select.specs.Sets.{split_entries, select_entries}
use Rattle.al_rules_order.specs.OrderSet.{order_entries}
use Rattle.al_rules_group.specs.GroupSet.{group_entries}
use Rattle.al_rules_prune.specs.PruneSet.{prune_entries}
use Rattle.al_opt.specs.Optimised.{is_once, rules_of, set_order}
use Rattle.al_opt.specs.Determined.{GivesOne, Determined, SetsAreDetermined, WalksAreOne, TracesAreOne}
use Rattle.al_opt.proofs.OneRewriting.{each_split, each_select, each_order, each_group}
use Rattle.al_opt.proofs.OneJoin.{each_join}
use Rattle.al_opt.proofs.OneCut.{each_prune}
use Rattle.al_opt.proofs.OneWalk.{IsSameWalk, one_walk, one_row_of_walks}

by_entries : (set : SetName) (es : List Entry) → Each GivesOne es → Determined (listed set es)
by_entries set es each k low = each_at GivesOne es each k low

pub sets_are_determined : SetsAreDetermined
sets_are_determined S.Split = by_entries S.Split split_entries each_split
sets_are_determined S.Select = by_entries S.Select select_entries each_select
sets_are_determined S.Join = each_join
sets_are_determined S.Order = by_entries S.Order order_entries each_order
sets_are_determined S.Group = by_entries S.Group group_entries each_group
sets_are_determined S.Prune = by_entries S.Prune prune_entries each_prune

pub walks_are_one : WalksAreOne
walks_are_one s p q r steps others x y = let same = one_walk (rules_of s) (sets_are_determined s) steps others p q r x y in (same.steps, same.plan)

-- ---- sets driven one after the other

one_drive : (once : Bool) (rules : Rules) → Determined rules → (ss ts : List TraceStep) (p q r : Plan) → ByWalks once rules ss p q → ByWalks once rules ts p r → IsSameWalk ss ts q r
one_drive true rules one ss ts p q r x y = one_walk rules one ss ts p q r x y
one_drive false rules one ss ts p q r (walks, is, are, last) (others, to, also, end) =
    let same = one_row_of_walks rules one walks others p q r are last also end in
    record { steps = is ∙ ap (flat_map (λ (w : List TraceStep). w)) same.walks ∙ sym to; plan = same.plan }

one_driven : (sets_of : SetName → Rules) (once : SetName → Bool) → ((s : SetName) → Determined (sets_of s)) → (sets : List SetName) (ss ts : List TraceStep) (p q r : Plan) → Driven sets_of once sets ss p q → Driven sets_of once sets ts p r → IsSameWalk ss ts q r
unfolding Driven
one_driven sets_of once one [] ss ts p q r x y = record { steps = x.0 ∙ sym y.0; plan = x.1 ∙ sym y.1 }
one_driven sets_of once one (s ∷ sets) ss ts p q r (here, later, mid, is, leads, by, stuck, rest) (begins, behind, other, to, on, also, end, others) =
    let first = one_drive (once s) (sets_of s) (one s) here begins p mid other by also in
    let then_on = one_driven sets_of once one sets later behind other q r (subst (λ (v : Plan). Driven sets_of once sets later v q) first.plan rest) others in
    record { steps = is ∙ ap (λ (zs : List TraceStep). zs ++ later) first.steps ∙ ap (λ (zs : List TraceStep). begins ++ zs) then_on.steps ∙ sym to; plan = then_on.plan }

pub traces_are_one : TracesAreOne
traces_are_one p q steps legal others r also = let same = one_driven rules_of is_once sets_are_determined set_order others steps p r q also legal in (same.steps, same.plan)
