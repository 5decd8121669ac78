-- Sets of rules as lists.
use Rattle.std.specs.Prelude.{List, length, get_or}
use Rattle.al_rule.specs.declared.names.SetName.{SetName}
use Rattle.al_rule.specs.declared.names.RuleName.{RuleName}
use Rattle.al_rule.specs.declared.names.RuleName.TheVariants.{SplitAnd}
use Rattle.al_rule.specs.Places.{Rewriting}
use Rattle.al_rule.specs.Rules.{Rules}

-- a rule of a set: its name and what it rewrites
abbrev pub Entry : Type 1
Entry = RuleName × Rewriting

-- past the end of a list stands one that rewrites nothing
abbrev pub no_entry : Entry
no_entry = (SplitAnd, λ p q. ⊥)

-- the set of these rules, in their order
abbrev pub listed : SetName → List Entry → Rules
listed set entries = record { set = set; count = length entries; name_of = λ k. (get_or entries k no_entry).0; rewrites = λ k. (get_or entries k no_entry).1 }
