-- What no event adds to: the calls of lucks that are still to come, the links that haven't failed, the phases to come,
-- the commands left, and the clients that know the old map.
use Rattle.std.specs.Prelude.{◌≡◌, ◌<◌, ◌≤◌, ◌⊎◌, ⊤, ℕ, ◌+◌, ◌-◌, false, cond, List, [], ◌∷◌, length, is_some, slice_get}
use Rattle.resh_coord.specs.Control.{Control}
use Rattle.resh_coord.specs.declared.phase.Phase.{Phase}
use Rattle.resh_coord.specs.declared.phase.Phase.TheVariants.{Initializing, PreparingToDonate, Cloning, Applying, BlockingWrites, Committing, Aborting, Done}
use Rattle.resh_model.specs.Orders.{commands_of}
use Rattle.resh_shard.specs.declared.act.Which.{Which}
use Rattle.resh_shard.specs.declared.act.Which.TheVariants.{Old, New}
use Rattle.resh_setup.specs.declared.event.Event.{Event}
use Rattle.resh_setup.specs.declared.event.Event.TheVariants.{Client, Begin, Tell, Advance, Clone, Fetch, Cut, Apply, Record, Report}
use Rattle.resh_setup.specs.declared.setup.Setup.{Setup}
use Rattle.resh_setup.specs.declared.trace.Met.TheVariants.{Row}
use Rattle.resh_cells.specs.Cells.{client_in, link_in}
use Rattle.resh_cells.specs.declared.cluster.ClientCell.{ClientCell}
use Rattle.resh_cells.specs.declared.cluster.Cluster.{Cluster}
use Rattle.resh_events.specs.Lucks.{Lucks}
use Rattle.resh_events.specs.Runs.{Moment, Run, after, after_all}
use Rattle.resh_events.specs.Steps.{first_moment}
use Rattle.resh_events.specs.Sweep.{Makes}
use Rattle.resh_ending.specs.Calls.{calls}
use Rattle.resh_ending.specs.Shapes.{IsShaped}
use Rattle.resh_rounds.specs.Sums.{total, upto}

abbrev pub calls_left : Lucks → ℕ
calls_left lucks = calls lucks.coordinator + (total calls lucks.links + total calls lucks.lanes)

-- a link that hasn't failed
abbrev pub alive : Cluster → ℕ → ℕ → ℕ
alive cluster r d = cond (link_in cluster r d).link.failed 0 1

-- the phases behind one
abbrev pub behind : Phase → ℕ
behind Initializing = 6
behind PreparingToDonate = 5
behind Cloning = 4
behind Applying = 3
behind BlockingWrites = 2
behind Committing = 1
behind Aborting = 1
behind Done = 0

-- as long as nothing is decided, all of them may come before what is decided
abbrev pub phases_left : Control → ℕ
phases_left c = cond (is_some c.decision) 0 7 + behind c.phase

abbrev pub maps_left : Which → ℕ
maps_left Old = 1
maps_left New = 0

-- of so many commands those without a reply, and the map that is still to be heard of
abbrev pub client_left : ℕ → ClientCell → ℕ
client_left commands client = (commands - length client.replies) + maps_left client.knows

module _ (setup : Setup) where
  abbrev pub links_left : Cluster → ℕ
  links_left cluster = upto (length setup.shards) (λ r. upto (length setup.shards) (λ d. alive cluster r d))

  abbrev pub clients_left : Cluster → ℕ
  clients_left cluster = upto (length setup.clients)
      (λ c. client_left (length (commands_of (slice_get setup.clients c))) (client_in cluster c))

  abbrev pub supply : Run → ℕ
  supply run = calls_left run.lucks
      + (links_left run.cluster + (phases_left run.cluster.control + clients_left run.cluster))

-- no event adds to it, whatever it met
abbrev pub NoEventAdds : Type 0
NoEventAdds = (setup : Setup) (run : Run) (m : Moment) → supply setup (after setup run m) ≤ supply setup run

-- an event that a round tries, on a link that hasn't failed where it is a link's
abbrev pub IsTried : Cluster → Event → Type 0
IsTried cluster (Client c) = ⊤
IsTried cluster Begin = ⊤
IsTried cluster (Tell s) = ⊤
IsTried cluster Advance = ⊤
IsTried cluster (Clone r d) = (link_in cluster r.0 d.0).link.failed ≡ false
IsTried cluster (Fetch r d) = (link_in cluster r.0 d.0).link.failed ≡ false
IsTried cluster (Cut r d) = (link_in cluster r.0 d.0).link.failed ≡ false
IsTried cluster (Apply r d l) = (link_in cluster r.0 d.0).link.failed ≡ false
IsTried cluster (Record r d) = (link_in cluster r.0 d.0).link.failed ≡ false
IsTried cluster (Report r) = ⊤
IsTried cluster other = ⊥

-- a step takes of the supply, or it is idle, or makes its row and nothing else
abbrev pub Pays : Setup → Run → Event → List Moment → Type 0
Pays setup run event moments =
    (supply setup (after_all setup run moments) < supply setup run)
    ⊎ ((moments ≡ []) ⊎ (moments ≡ first_moment setup run event Row ∷ []))

abbrev pub StepsPay : Type 0
StepsPay = (setup : Setup) (run : Run) (event : Event) (moments : List Moment) → IsShaped setup run.cluster
    → length run.cluster.clients ≡ length setup.clients → run.owed ≡ [] → IsTried run.cluster event → Makes setup run event moments
    → Pays setup run event moments
