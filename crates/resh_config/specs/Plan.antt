-- The rows of a plan.
use Rattle.std.specs.Prelude.{ℕ, Bool, cond, ◌&&◌, List, [], ◌∷◌, codes, is_some, Ok}
use Rattle.serde_json.specs.Data.{Data, Members}
use Rattle.serde_json.specs.Find.{get_member}
use Rattle.resh_value.specs.Names.{same_name}
use Rattle.resh_value.specs.declared.value.ShardId.{ShardId}
use Rattle.resh_luck.specs.declared.row.Kind.{Kind}
use Rattle.resh_luck.specs.declared.row.Kind.TheVariants.{Commit, Deliver}
use Rattle.resh_luck.specs.declared.row.PlanFate.{PlanFate}
use Rattle.resh_luck.specs.declared.row.PlanFate.TheVariants.{CrashedBefore, CrashedAfter, Failed, Lost, Twice}
use Rattle.resh_setup.specs.declared.plan.Planned.{Planned}
use Rattle.resh_setup.specs.declared.plan.Who.{Who}
use Rattle.resh_setup.specs.declared.plan.Who.TheVariants.{Coordinator, Link, Lane}
use Rattle.resh_value.specs.Walk.{ends}
use Rattle.resh_config.specs.Faults.{Read}
use Rattle.resh_config.specs.declared.faults.FaultKind.TheVariants.{WrongKind, UnknownName}
use Rattle.resh_config.specs.Walk.{◌>>=◌, row_with, field, field_or, number_in, text_in, list_in}
use Rattle.resh_config.specs.Names.{shard_named}
use Rattle.resh_config.specs.Steps.{words_of, lane_named}

-- a plan's first word is `coordinator` or a recipient; an empty one names nothing
abbrev pub recipient_named : List (List ℕ) → List ℕ → Read ShardId
recipient_named shards [] = ends UnknownName
recipient_named shards (b ∷ bs) = shard_named shards (b ∷ bs)

abbrev pub coordinator_of : List (List ℕ) → Read Who
coordinator_of [] = Ok Coordinator
coordinator_of (w ∷ ws) = ends WrongKind

module _ (shards : List (List ℕ)) (lanes : ℕ) where
  -- the link or the lane of a recipient, by the words after it
  abbrev pub link_who : ShardId → List ℕ → Read Who
  link_who recipient d = shard_named shards d >>= λ donor. Ok (Link recipient donor)

  abbrev pub lane_who : ShardId → List ℕ → List ℕ → Read Who
  lane_who recipient d l =
      shard_named shards d >>= λ donor.
      lane_named lanes l >>= λ lane.
      Ok (Lane recipient donor lane)

  abbrev pub who_after : ShardId → List ℕ → List (List ℕ) → Read Who
  who_after recipient d [] = link_who recipient d
  who_after recipient d (l ∷ []) = lane_who recipient d l
  who_after recipient d (l ∷ w ∷ ws) = ends WrongKind

  abbrev pub who_of : ShardId → List (List ℕ) → Read Who
  who_of recipient [] = ends WrongKind
  who_of recipient (d ∷ ws) = who_after recipient d ws

  abbrev pub who_with : List (List ℕ) → Read Who
  who_with [] = ends UnknownName
  who_with (w ∷ ws) =
      cond (same_name w (codes "coordinator")) (coordinator_of ws)
      (recipient_named shards w >>= λ recipient. who_of recipient ws)

  abbrev pub who_in : Data → Read Who
  who_in d = text_in d >>= λ text. who_with (words_of text)

-- a fate of a kind
abbrev pub commit_fate : List ℕ → Read PlanFate
commit_fate name =
    cond (same_name name (codes "crashedBefore")) (Ok CrashedBefore)
    (cond (same_name name (codes "crashedAfter")) (Ok CrashedAfter)
    (cond (same_name name (codes "failed")) (Ok Failed) (ends WrongKind)))

abbrev pub delivery_fate : List ℕ → Read PlanFate
delivery_fate name =
    cond (same_name name (codes "lost")) (Ok Lost)
    (cond (same_name name (codes "twice")) (Ok Twice) (ends WrongKind))

abbrev pub fate_named : Kind → List ℕ → Read PlanFate
fate_named Commit name = commit_fate name
fate_named Deliver name = delivery_fate name

abbrev pub fate_in : Kind → Data → Read PlanFate
fate_in kind d = text_in d >>= fate_named kind

-- the field that has the first number
abbrev pub kind_name : Kind → List ℕ
kind_name Commit = codes "commit"
kind_name Deliver = codes "deliver"

-- a row without `deliver` has to have `commit`
abbrev pub kind_of : Members → Kind
kind_of ds = cond (is_some (get_member (codes "deliver") ds)) Deliver Commit

-- a row with both is refused as a whole
abbrev pub has_both_kinds : Members → Bool
has_both_kinds ds = is_some (get_member (codes "commit") ds) && is_some (get_member (codes "deliver") ds)

abbrev pub one_kind : Members → Read Members
one_kind ds = cond (has_both_kinds ds) (ends WrongKind) (Ok ds)

abbrev pub plan_names : List (List ℕ)
plan_names = codes "who" ∷ codes "commit" ∷ codes "deliver" ∷ codes "through" ∷ codes "fate" ∷ []

abbrev pub numbers_of : Who → Kind → Members → Read Planned
numbers_of who kind ds =
    field ds (kind_name kind) (number_in 1 100000) >>= λ first.
    field_or first ds (codes "through") (number_in first 100000) >>= λ last.
    field ds (codes "fate") (fate_in kind) >>= λ fate.
    Ok (record { who = who; row = record { kind = kind; first = first; last = last; fate = fate } })

module _ (shards : List (List ℕ)) (lanes : ℕ) where
  abbrev pub planned_of : Members → Read Planned
  planned_of ds = field ds (codes "who") (who_in shards lanes) >>= λ who. numbers_of who (kind_of ds) ds

  abbrev pub planned_in : List Planned → Data → Read Planned
  planned_in before d = row_with plan_names d >>= one_kind >>= planned_of

  abbrev pub plan_in : Data → Read (List Planned)
  plan_in d = list_in 1000 planned_in d
