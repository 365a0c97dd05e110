-- What stands at the mark of a lawful order, and what an order without clients comes to.
use Rattle.std.specs.Prelude.{◌≡◌, ⊤, ℕ, Bool, true, false, cond, List, [], ◌∷◌, ◌++◌}
use Rattle.resh_coord.specs.declared.cause.Cause.TheVariants.{Clash, Asked, Failed, NoMemory}
use Rattle.resh_coord.specs.declared.cause.End.{End}
use Rattle.resh_coord.specs.declared.cause.End.TheVariants.{Committed, Aborted}
use Rattle.resh_setup.specs.declared.setup.Setup.{Setup}
use Rattle.resh_setup.specs.declared.turn.Turn.{Turn}
use Rattle.resh_bag.specs.Bag.{Bag}
use Rattle.resh_bag.specs.Placement.{HasNoClash, IsFirstClash}
use Rattle.resh_model.specs.Orders.{last_state, IsLawful}
use Rattle.resh_model.specs.OrderLaws.{is_mark, AcceptsAbort, EndsAccepting}
use Rattle.resh_model.specs.Runs.{IsMarked}

-- the turns before the mark
abbrev pub before_mark : List Turn → List Turn
before_mark [] = []
before_mark (t ∷ ts) = cond (is_mark t) [] (t ∷ before_mark ts)

-- the collection at the mark
abbrev pub bag_at_mark : Setup → List Turn → Bag
bag_at_mark setup order = (last_state setup (before_mark order)).bag

-- why an end came: no clash stood at the mark, or that first one, or that abort was accepted just before
abbrev pub HasCause : Setup → List Turn → End → Type 0
HasCause setup order Committed = HasNoClash setup.new_map (bag_at_mark setup order)
HasCause setup order (Aborted (Clash shard id)) = IsFirstClash setup.new_map (bag_at_mark setup order) shard.0 id
HasCause setup order (Aborted (Asked client number)) = EndsAccepting setup (before_mark order) client number
HasCause setup order (Aborted (Failed node why)) = ⊤
HasCause setup order (Aborted NoMemory) = ⊤

-- a failure or want of memory ended it
abbrev pub is_failure : End → Bool
is_failure Committed = false
is_failure (Aborted (Clash shard id)) = false
is_failure (Aborted (Asked client number)) = false
is_failure (Aborted (Failed node why)) = true
is_failure (Aborted NoMemory) = true

-- no client is answered that its abort is accepted
abbrev pub AcceptsNone : Setup → List Turn → Type 0
AcceptsNone setup order = (before : List Turn) (t : Turn) (after : List Turn) (client number : ℕ)
    → order ≡ before ++ t ∷ after → AcceptsAbort setup (last_state setup before) t client number → ⊥

-- the end of a lawful order has its cause at the mark
abbrev pub EndsHaveCauses : Type 0
EndsHaveCauses = (setup : Setup) (order : List Turn) (end : End) → IsLawful setup order end → HasCause setup order end

-- where no clash stands at the mark, no abort is accepted and nothing failed, it commits
abbrev pub CommitsElse : Type 0
CommitsElse = (setup : Setup) (order : List Turn) (end : End) → IsLawful setup order end
    → HasNoClash setup.new_map (bag_at_mark setup order) → AcceptsNone setup order → is_failure end ≡ false
    → end ≡ Committed

-- without clients and without failure a lawful order is the mark that the opening collection asks for
abbrev pub OneMarkWithoutClients : Type 0
OneMarkWithoutClients = (setup : Setup) (order : List Turn) (end : End) → setup.clients ≡ []
    → IsLawful setup order end → is_failure end ≡ false → IsMarked setup order end
