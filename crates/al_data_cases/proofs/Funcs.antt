-- What functions and generators give for a few values, computed.
use Rattle.std.proofs.Common.{refl}
use Rattle.al_func.specs.Func.{apply}
use Rattle.al_data_cases.specs.FuncCases.{IntFunctions, LogicOfThree, TextFunctions, Choices, Items}

pub int_functions : IntFunctions
unfolding apply
int_functions = record { added = refl; added_past = refl; taken_away = refl; multiplied = refl; negated = refl; divided = refl; left = refl; by_zero = refl; left_by_zero = refl; least = refl; of_text = refl; one_argument = refl }

pub logic_of_three : LogicOfThree
unfolding apply
logic_of_three = record {
  and_false = refl;
  and_null = refl;
  and_true = refl;
  or_true = refl;
  or_null = refl;
  or_false = refl;
  not_true = refl;
  not_null = refl;
  nulls = refl;
  less_null = refl;
  less = refl;
  not_less = refl;
  at_most = refl;
  equal = refl;
}

pub text_functions : TextFunctions
unfolding apply
text_functions = record { joined = refl; from_below = refl; small = refl; of_int = refl }

pub choices : Choices
unfolding apply
choices = record { if_true = refl; if_null = refl; first = refl; second = refl; is_null = refl; no_null = refl }

pub items : Items
items = record { up = refl; one = refl; down = refl; many = refl; of_null = refl; pieces = refl; from_the_left = refl; by_nothing = refl; of_no_text = refl }
