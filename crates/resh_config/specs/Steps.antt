-- Steps: texts of words with one space between.
use Rattle.std.specs.Prelude.{ℕ, Bool, cond, not, ◌&&◌, ◌||◌, ◌==◌, nat_lt, nat_le, List, [], ◌∷◌, length, slice_index, position, codes, Option, Some, None, option_map, Ok}
use Rattle.std.specs.Char.{is_ascii_digit}
use Rattle.std.specs.List.{list_all, slice_split}
use Rattle.std.specs.Str.Parse.{digits_value}
use Rattle.serde_json.specs.Data.{Data}
use Rattle.resh_value.specs.Names.{same_name}
use Rattle.resh_value.specs.declared.value.ShardId.{ShardId}
use Rattle.resh_setup.specs.Names.{is_node_name}
use Rattle.resh_setup.specs.Validity.{is_called}
use Rattle.resh_setup.specs.declared.client.Client.{Client}
use Rattle.resh_setup.specs.declared.event.Event.{Event}
use Rattle.resh_setup.specs.declared.event.Event.TheVariants as event
use Rattle.resh_setup.specs.declared.event.MessageKind.{MessageKind}
use Rattle.resh_setup.specs.declared.event.MessageKind.TheVariants.{Prepare, Donate, Block, Install, Release}
use Rattle.resh_config.specs.declared.step_word.LinkWord.{LinkWord}
use Rattle.resh_config.specs.declared.step_word.LinkWord.TheVariants.{Clone, Fetch, Cut, Record, Crash}
use Rattle.resh_config.specs.declared.step_word.StepWord.{StepWord}
use Rattle.resh_config.specs.declared.step_word.StepWord.TheVariants as word
use Rattle.resh_value.specs.Walk.{ends}
use Rattle.resh_config.specs.Faults.{Read}
use Rattle.resh_config.specs.declared.faults.FaultKind.TheVariants.{WrongKind, UnknownName}
use Rattle.resh_config.specs.Walk.{◌>>=◌, text_in, list_in, accept}
use Rattle.resh_config.specs.Names.{shard_named}

-- the words of a text, which is cut at each space
abbrev pub words_of : List ℕ → List (List ℕ)
words_of text = slice_split (λ b. b == 32) text

-- the step that a first word names
abbrev pub link_word : List ℕ → Option LinkWord
link_word name =
    cond (same_name name (codes "clone")) (Some Clone)
    (cond (same_name name (codes "fetch")) (Some Fetch)
    (cond (same_name name (codes "cut")) (Some Cut)
    (cond (same_name name (codes "record")) (Some Record)
    (cond (same_name name (codes "crash")) (Some Crash) None))))

abbrev pub step_word : List ℕ → Option StepWord
step_word name =
    cond (same_name name (codes "client")) (Some word.Client)
    (cond (same_name name (codes "begin")) (Some word.Begin)
    (cond (same_name name (codes "tell")) (Some word.Tell)
    (cond (same_name name (codes "retell")) (Some word.Retell)
    (cond (same_name name (codes "advance")) (Some word.Advance)
    (cond (same_name name (codes "apply")) (Some word.Apply)
    (cond (same_name name (codes "again")) (Some word.Again)
    (cond (same_name name (codes "report")) (Some word.Report) (option_map word.Link (link_word name)))))))))

abbrev pub link_event : LinkWord → ShardId → ShardId → Event
link_event Clone recipient donor = event.Clone recipient donor
link_event Fetch recipient donor = event.Fetch recipient donor
link_event Cut recipient donor = event.Cut recipient donor
link_event Record recipient donor = event.Record recipient donor
link_event Crash recipient donor = event.Crash recipient donor

-- a decimal number of 1 to 9 digits, without a leading zero but in `0`
abbrev pub is_number : List ℕ → Bool
is_number text =
    nat_lt 0 (length text) && nat_le (length text) 9 && list_all is_ascii_digit text
    && (not (slice_index text 0 == 48) || (length text == 1))

abbrev pub number_named : List ℕ → Read ℕ
number_named text = accept (is_number text) (digits_value 10 text)

abbrev pub message_named : List ℕ → Read MessageKind
message_named name =
    cond (same_name name (codes "prepare")) (Ok Prepare)
    (cond (same_name name (codes "donate")) (Ok Donate)
    (cond (same_name name (codes "block")) (Ok Block)
    (cond (same_name name (codes "install")) (Ok Install)
    (cond (same_name name (codes "release")) (Ok Release) (ends WrongKind)))))

-- the number of a client that is there
abbrev pub found_client : Option ℕ → Read ℕ
found_client None = ends UnknownName
found_client (Some c) = Ok c

abbrev pub client_named : List Client → List ℕ → Read ℕ
client_named clients name =
    cond (is_node_name name) (found_client (position (is_called name) clients)) (ends WrongKind)

-- a lane is a number below so many
abbrev pub lane_named : ℕ → List ℕ → Read ℕ
lane_named lanes text = number_named text >>= λ lane. accept (nat_lt lane lanes) lane

-- what the words after a first one say, of which there are as many as the form has
module _ (shards : List (List ℕ)) where
  abbrev pub shard_of : List (List ℕ) → Read ShardId
  shard_of (s ∷ []) = shard_named shards s
  shard_of [] = ends WrongKind
  shard_of (s ∷ w ∷ ws) = ends WrongKind

  -- a shard and a message
  abbrev pub retold_named : List ℕ → List ℕ → Read (ShardId × MessageKind)
  retold_named s m =
      shard_named shards s >>= λ shard.
      message_named m >>= λ message.
      Ok (shard, message)

  abbrev pub retold_of : List (List ℕ) → Read (ShardId × MessageKind)
  retold_of (s ∷ m ∷ []) = retold_named s m
  retold_of [] = ends WrongKind
  retold_of (s ∷ []) = ends WrongKind
  retold_of (s ∷ m ∷ w ∷ ws) = ends WrongKind

  -- a recipient and a donor
  abbrev pub link_named : List ℕ → List ℕ → Read (ShardId × ShardId)
  link_named r d =
      shard_named shards r >>= λ recipient.
      shard_named shards d >>= λ donor.
      Ok (recipient, donor)

  abbrev pub link_of : List (List ℕ) → Read (ShardId × ShardId)
  link_of (r ∷ d ∷ []) = link_named r d
  link_of [] = ends WrongKind
  link_of (r ∷ []) = ends WrongKind
  link_of (r ∷ d ∷ w ∷ ws) = ends WrongKind

  module _ (lanes : ℕ) where
    -- a recipient, a donor and a lane of the recipient
    abbrev pub link_lane_named : List ℕ → List ℕ → List ℕ → Read ((ShardId × ShardId) × ℕ)
    link_lane_named r d l =
        link_named r d >>= λ link.
        lane_named lanes l >>= λ lane.
        Ok (link, lane)

    abbrev pub lane_of : List (List ℕ) → Read ((ShardId × ShardId) × ℕ)
    lane_of (r ∷ d ∷ l ∷ []) = link_lane_named r d l
    lane_of [] = ends WrongKind
    lane_of (r ∷ []) = ends WrongKind
    lane_of (r ∷ d ∷ []) = ends WrongKind
    lane_of (r ∷ d ∷ l ∷ w ∷ ws) = ends WrongKind

    -- and a position in the lane's feed
    abbrev pub piece_named : List ℕ → List ℕ → List ℕ → List ℕ
        → Read (((ShardId × ShardId) × ℕ) × ℕ)
    piece_named r d l n =
        link_lane_named r d l >>= λ lane.
        number_named n >>= λ position.
        Ok (lane, position)

    abbrev pub piece_with : List ℕ → List ℕ → List ℕ → List (List ℕ)
        → Read (((ShardId × ShardId) × ℕ) × ℕ)
    piece_with r d l [] = ends WrongKind
    piece_with r d l (n ∷ []) = piece_named r d l n
    piece_with r d l (n ∷ w ∷ ws) = ends WrongKind

    abbrev pub piece_of : List (List ℕ) → Read (((ShardId × ShardId) × ℕ) × ℕ)
    piece_of [] = ends WrongKind
    piece_of (r ∷ []) = ends WrongKind
    piece_of (r ∷ d ∷ []) = ends WrongKind
    piece_of (r ∷ d ∷ l ∷ ws) = piece_with r d l ws

abbrev pub client_of : List Client → List (List ℕ) → Read ℕ
client_of clients (c ∷ []) = client_named clients c
client_of clients [] = ends WrongKind
client_of clients (c ∷ w ∷ ws) = ends WrongKind

abbrev pub alone : Event → List (List ℕ) → Read Event
alone event [] = Ok event
alone event (w ∷ ws) = ends WrongKind

-- the forms of the steps
module _ (shards : List (List ℕ)) (clients : List Client) (lanes : ℕ) where
  abbrev pub step_with : Option StepWord → List (List ℕ) → Read Event
  step_with None ws = ends UnknownName
  step_with (Some word.Client) ws = client_of clients ws >>= λ c. Ok (event.Client c)
  step_with (Some word.Begin) ws = alone event.Begin ws
  step_with (Some word.Tell) ws = shard_of shards ws >>= λ s. Ok (event.Tell s)
  step_with (Some word.Retell) ws = retold_of shards ws >>= λ t. Ok (event.Retell t.0 t.1)
  step_with (Some word.Advance) ws = alone event.Advance ws
  step_with (Some word.Apply) ws = lane_of shards lanes ws >>= λ p. Ok (event.Apply p.0.0 p.0.1 p.1)
  step_with (Some word.Again) ws = piece_of shards lanes ws >>= λ p. Ok (event.Again p.0.0.0 p.0.0.1 p.0.1 p.1)
  step_with (Some (word.Link w)) ws = link_of shards ws >>= λ l. Ok (link_event w l.0 l.1)
  step_with (Some word.Report) ws = shard_of shards ws >>= λ r. Ok (event.Report r)

  abbrev pub step_of : List (List ℕ) → Read Event
  step_of [] = ends UnknownName
  step_of (w ∷ ws) = step_with (step_word w) ws

  abbrev pub step_in : List Event → Data → Read Event
  step_in before d = text_in d >>= λ text. step_of (words_of text)

  abbrev pub steps_in : Data → Read (List Event)
  steps_in d = list_in 100000 step_in d
