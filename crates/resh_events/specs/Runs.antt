-- What one event makes of a run: its stamp, the cluster after it, what is owed, and what is left of luck.
use Rattle.std.specs.Prelude.{ℕ, List, [], ◌∷◌, ◌++◌, Option, Some, None, remove, slice_get}
use Rattle.std.specs.Option.{option_map_or}
use Rattle.resh_oplog.specs.declared.piece.Piece.{Piece}
use Rattle.resh_stamp.specs.Times.{next_time}
use Rattle.resh_stamp.specs.declared.stamp.Stamp.{Stamp}
use Rattle.resh_setup.specs.declared.event.Event.{Event}
use Rattle.resh_setup.specs.declared.setup.Setup.{Setup}
use Rattle.resh_cells.specs.declared.cluster.Cluster.{Cluster}
use Rattle.resh_cells.specs.Clocks.{clocks_of, first_number, with_clocks}
use Rattle.resh_cells.specs.declared.cell.Cell.{Cell}
use Rattle.resh_events.specs.Follows.{follows}
use Rattle.resh_events.specs.Luck.{Asks, asks, change, holds, seen}
use Rattle.resh_events.specs.Lucks.{Lucks, called, planned}
use Rattle.resh_events.specs.Opening.{opening}
use Rattle.resh_setup.specs.declared.trace.Made.{Made}
use Rattle.resh_setup.specs.declared.trace.Met.{Met}
use Rattle.resh_setup.specs.declared.seen.Seen.{Seen}

-- an event that has to follow another, and the time of that one
pub record Owed : Type 0 where
  pub event : Event
  pub time : ℕ

-- the cells, the events that are owed, and the lucks
pub record Run : Type 0 where
  pub cluster : Cluster
  pub owed : List Owed
  pub lucks : Lucks

-- what an event is given beside its cells: the piece that it delivers, and its place among the events that are owed
pub record Given : Type 0 where
  pub piece : Option Piece
  pub place : Option ℕ

-- an event that was made, with what it was given
pub record Moment : Type 0 where
  pub made : Made
  pub given : Given

-- the event that is owed at a place
abbrev pub owed_at : List Owed → Option ℕ → Option Owed
owed_at owed None = None
owed_at owed (Some place) = slice_get owed place

-- the times that come with what it is given
abbrev pub piece_time : Given → ℕ
piece_time given = option_map_or (λ piece. piece.time) given.piece 0

abbrev pub followed_time : Run → Given → ℕ
followed_time run given = option_map_or (λ (o : Owed). o.time) (owed_at run.owed given.place) 0

abbrev pub without : List Owed → Option ℕ → List Owed
without owed None = owed
without owed (Some place) = remove owed place

abbrev pub owes : ℕ → Option Event → List Owed
owes time None = []
owes time (Some event) = record { event = event; time = time } ∷ []

-- what it asks of luck
abbrev pub asked_by : Run → Moment → Asks
asked_by run m = asks run.cluster m.made.event m.given.piece

module _ (setup : Setup) where
  -- the cells that it holds
  abbrev pub cells_of : Run → Event → Met → List Cell
  cells_of run event met = holds setup run.cluster event met

  -- one more than the latest of its cells' clocks, of its piece's time and of the time of the event that it follows;
  -- with the least number of its cells
  abbrev pub stamp_of : Run → Event → Met → Given → Stamp
  stamp_of run event met given = record {
    time = next_time (followed_time run given)
        (piece_time given ∷ clocks_of run.cluster (cells_of run event met));
    node = first_number setup (cells_of run event met);
  }

  -- the event with its stamp
  abbrev pub moment : Run → Event → Met → Given → Moment
  moment run event met given = record {
    made = record { stamp = stamp_of run event met given; event = event; met = met };
    given = given;
  }

  -- the cells after it, with the clocks of those that it holds set to its time
  abbrev pub cluster_after : Run → Moment → Cluster
  cluster_after run m = with_clocks m.made.stamp.time (cells_of run m.made.event m.made.met)
      (change setup m.made.stamp run.cluster m.made.event m.given.piece m.made.met)

  -- it isn't owed any more, and what follows it is
  abbrev pub owed_after : Run → Moment → List Owed
  owed_after run m = without run.owed m.given.place
      ++ owes m.made.stamp.time (follows (cluster_after run m) m.made.event (asked_by run m) m.made.met)

  unfoldable pub after : Run → Moment → Run
  after run m = record {
    cluster = cluster_after run m;
    owed = owed_after run m;
    lucks = called setup (asked_by run m) run.lucks;
  }

  unfoldable pub after_all : Run → List Moment → Run
  after_all run [] = run
  after_all run (m ∷ ms) = after_all (after run m) ms

  -- what is seen of it
  abbrev pub seen_of : Run → Moment → Seen
  seen_of run m = seen setup m.made.stamp run.cluster m.made.event m.given.piece m.made.met

  abbrev pub opening_run : Run
  opening_run = record { cluster = opening setup; owed = []; lucks = planned setup }
