-- The laws of each operator, gathered for the search.
use Rattle.al_phys.proofs.OperatorLaws.{plive-Scan, plive-One, plive-Assign, plive-Select, plive-Project, plive-Unnest, plive-Subplan, plive-Check, plive-Join, plive-HashGroup, plive-PreGroup, plive-HashDistinct, plive-AggPart, plive-AggFinal, plive-Union, plive-Sort, plive-Limit, plive-LocalLimit, plive-Result, plive-HashExchange, plive-Broadcast, plive-Gather, plive-Merge}
use Rattle.al_phys.proofs.OperatorLaws.{pout-Scan, pout-One, pout-Assign, pout-Select, pout-Project, pout-Unnest, pout-Subplan, pout-Check, pout-Join, pout-HashGroup, pout-PreGroup, pout-HashDistinct, pout-AggPart, pout-AggFinal, pout-Union, pout-Sort, pout-Limit, pout-LocalLimit, pout-Result, pout-HashExchange, pout-Broadcast, pout-Gather, pout-Merge}
use Rattle.al_phys.proofs.PropertyLaws.{spread-Scan, spread-One, spread-Assign, spread-Select, spread-Project, spread-Unnest, spread-Subplan, spread-Check, spread-Join, spread-HashGroup, spread-PreGroup, spread-HashDistinct, spread-AggPart, spread-AggFinal, spread-Union, spread-Sort, spread-Limit, spread-LocalLimit, spread-Result, spread-HashExchange, spread-Broadcast, spread-Gather, spread-Merge}
use Rattle.al_phys.proofs.PropertyLaws.{order-Scan, order-One, order-Assign, order-Select, order-Project, order-Unnest, order-Subplan, order-Check, order-Join, order-HashGroup, order-PreGroup, order-HashDistinct, order-AggPart, order-AggFinal, order-Union, order-Sort, order-Limit, order-LocalLimit, order-Result, order-HashExchange, order-Broadcast, order-Gather, order-Merge}
use Rattle.al_phys.proofs.PropertyLaws.{required-Scan, required-One, required-Assign, required-Select, required-Project, required-Unnest, required-Subplan, required-Check, required-Join, required-HashGroup, required-PreGroup, required-HashDistinct, required-AggPart, required-AggFinal, required-Union, required-Sort, required-Limit, required-LocalLimit, required-Result, required-HashExchange, required-Broadcast, required-Gather, required-Merge}

pub ruleset plive_laws = (plive-Scan, plive-One, plive-Assign, plive-Select, plive-Project, plive-Unnest, plive-Subplan, plive-Check, plive-Join, plive-HashGroup, plive-PreGroup, plive-HashDistinct, plive-AggPart, plive-AggFinal, plive-Union, plive-Sort, plive-Limit, plive-LocalLimit, plive-Result, plive-HashExchange, plive-Broadcast, plive-Gather, plive-Merge)

pub ruleset pout_laws = (pout-Scan, pout-One, pout-Assign, pout-Select, pout-Project, pout-Unnest, pout-Subplan, pout-Check, pout-Join, pout-HashGroup, pout-PreGroup, pout-HashDistinct, pout-AggPart, pout-AggFinal, pout-Union, pout-Sort, pout-Limit, pout-LocalLimit, pout-Result, pout-HashExchange, pout-Broadcast, pout-Gather, pout-Merge)

pub ruleset spread_laws = (spread-Scan, spread-One, spread-Assign, spread-Select, spread-Project, spread-Unnest, spread-Subplan, spread-Check, spread-Join, spread-HashGroup, spread-PreGroup, spread-HashDistinct, spread-AggPart, spread-AggFinal, spread-Union, spread-Sort, spread-Limit, spread-LocalLimit, spread-Result, spread-HashExchange, spread-Broadcast, spread-Gather, spread-Merge)

pub ruleset order_laws = (order-Scan, order-One, order-Assign, order-Select, order-Project, order-Unnest, order-Subplan, order-Check, order-Join, order-HashGroup, order-PreGroup, order-HashDistinct, order-AggPart, order-AggFinal, order-Union, order-Sort, order-Limit, order-LocalLimit, order-Result, order-HashExchange, order-Broadcast, order-Gather, order-Merge)

pub ruleset required_laws = (required-Scan, required-One, required-Assign, required-Select, required-Project, required-Unnest, required-Subplan, required-Check, required-Join, required-HashGroup, required-PreGroup, required-HashDistinct, required-AggPart, required-AggFinal, required-Union, required-Sort, required-Limit, required-LocalLimit, required-Result, required-HashExchange, required-Broadcast, required-Gather, required-Merge)
