-- What the state that the plain program keeps means.
use Rattle.std.specs.Prelude.{ℕ, Bool, false, ◌&&◌, ◌==◌, Option, Some, None}
use Rattle.std.specs.Ordering.{is_eq}
use Rattle.resh_value.specs.Order.{compare_of}
use Rattle.resh_value.specs.declared.value.Value.{Value}
use Rattle.resh_model.specs.declared.clash.Clash.{Clash}
use Rattle.resh_model.specs.Orders as orders
use Rattle.resh_model.specs.declared.state.Fate.{Fate}
use Rattle.resh_model.specs.declared.state.Fate.TheVariants.{Undecided, Asked, Ended}
use Rattle.resh_model.specs.declared.state.State.{State}

abbrev pub fate_of : Fate → orders.Fate
fate_of Undecided = orders.undecided
fate_of (Asked client number) = orders.asked client number
fate_of (Ended end) = orders.ended end

abbrev pub told : State → orders.State
told state = record {
  bag = state.collection;
  map = state.map;
  fate = fate_of state.fate;
  answers = state.answers.items;
}

-- a clash that was found is of a shard and an `_id`
abbrev pub is_at : Option Clash → ℕ → Value → Bool
is_at (Some clash) shard id = (clash.shard.0 == shard) && is_eq (compare_of clash.id id)
is_at None shard id = false
