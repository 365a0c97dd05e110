-- A step takes of the supply, or it is idle, or makes its row and nothing else.
use Rattle.std.proofs.Common.{◌≡◌, ◌<◌, ◌≤◌, ◌⊎◌, inl, inr, ℕ, zero, suc, ◌+◌, ◌-◌, Bool, true, false, ◌&&◌, cond, List, [], ◌∷◌, ◌++◌, length, map, replicate, Option, Some, None, is_some, refl, sym, ap, subst, ◌∙◌, slice_get, slice_index_or, slice_set}
use native.Mathlib.Omega.{arith}
use Rattle.resh_value.specs.declared.value.ShardId.{ShardId}
use Rattle.resh_oplog.specs.declared.piece.Piece.{Piece}
use Rattle.resh_fetcher.specs.Conditions.{may_clone, may_cut, may_fetch, may_keep}
use Rattle.resh_coord.specs.declared.cause.Cause.{Cause}
use Rattle.resh_coord.specs.declared.cause.Cause.TheVariants as cause
use Rattle.resh_command.specs.declared.command.Command.{Command}
use Rattle.resh_command.specs.declared.reply.Reply.TheVariants as reply
use Rattle.resh_model.specs.Orders.{commands_of}
use Rattle.resh_setup.specs.declared.event.Event.{Event}
use Rattle.resh_setup.specs.declared.event.Event.TheVariants.{Client, Begin, Tell, Retell, Advance, Clone, Fetch, Cut, Apply, Again, Record, Crash, Report, Fail}
use Rattle.resh_setup.specs.declared.client.Client.{Client as Asking}
use Rattle.resh_setup.specs.declared.setup.Setup.{Setup}
use Rattle.resh_setup.specs.declared.trace.Met.{Met}
use Rattle.resh_setup.specs.declared.trace.Met.TheVariants.{Row, CrashedBefore, CrashedAfter, Failed, Lost, NoMemory, NoMemoryInMove}
use Rattle.resh_cells.specs.Cells.{client_in, link_in, links_of, no_client, no_link}
use Rattle.resh_cells.specs.declared.cluster.ClientCell.{ClientCell}
use Rattle.resh_cells.specs.declared.cluster.Cluster.{Cluster}
use Rattle.resh_cells.specs.declared.cluster.LinkCell.{LinkCell}
use Rattle.resh_events.specs.Luck.{may_meet}
use Rattle.resh_events.specs.Lucks.{called}
use Rattle.resh_events.specs.Plans.{Answers, IsWant, given_by}
use Rattle.resh_events.specs.Runs.{Moment, Owed, Run, after, after_all, asked_by}
use Rattle.resh_events.specs.Schedules.{IsSchedule}
use Rattle.resh_events.specs.Steps.{IsStep, first_moment, idles, makes, may_step, moments_of, paid, piece_for}
use Rattle.resh_events.specs.Table.{may}
use Rattle.resh_events.specs.Targets.{next_command}
use Rattle.resh_events.specs.rows.Client as client
use Rattle.resh_events.specs.rows.Clone as clone
use Rattle.resh_events.specs.rows.Cut as cut
use Rattle.resh_events.specs.rows.Fetch as fetch
use Rattle.resh_events.specs.rows.Record as keep
use Rattle.resh_ending.specs.Shapes.{IsShaped}
use Rattle.resh_rounds.specs.Sums.{upto}
use Rattle.resh_rounds.specs.Supplies.{IsTried, Pays, StepsPay, alive, calls_left, client_left, clients_left, links_left, maps_left, phases_left, supply}
use Rattle.resh_ending.proofs.Applying.{both, by_luck, in_rows, lt_by, stands, takes}
use Rattle.resh_ending.proofs.Paying.{has_failed, paid_failed, paid_none}
use Rattle.resh_ending.proofs.Places.{length-map, length-replicate, map_at, replicate_at, set_here, within}
use Rattle.resh_rounds.proofs.Spending.{called_less}
use Rattle.resh_rounds.proofs.Stages.{no_more_phases}
use Rattle.resh_rounds.proofs.Supplying.{Goes, after_goes, alike, clients_most, goes_then, links_most, after_calls, no_events_add}
use Rattle.resh_rounds.proofs.Sums.{length_more, same, upto_less, upto_most}

at_most : (a b c : ℕ) → b ≤ a → c ≤ b → c ≤ a
at_most a b c h k = omega arith

less_then : (a b c : ℕ) → b < a → c ≤ b → c < a
less_then a b c h k = omega arith

-- of several events
all_go : (setup : Setup) (run : Run) (moments : List Moment) → Goes run.cluster (after_all setup run moments).cluster
unfolding after_all
all_go setup run [] = alike run.cluster run.cluster refl refl refl
all_go setup run (m ∷ moments) =
    goes_then run.cluster (after setup run m).cluster _ (after_goes setup run m) (all_go setup (after setup run m) moments)

-- less of one part of the supply
calls_part : (a b c d w x y z : ℕ) → w < a → x ≤ b → y ≤ c → z ≤ d → w + (x + (y + z)) < a + (b + (c + d))
calls_part a b c d w x y z h i j k = omega arith

links_part : (a b c d w x y z : ℕ) → w ≤ a → x < b → y ≤ c → z ≤ d → w + (x + (y + z)) < a + (b + (c + d))
links_part a b c d w x y z h i j k = omega arith

phases_part : (a b c d w x y z : ℕ) → w ≤ a → x ≤ b → y < c → z ≤ d → w + (x + (y + z)) < a + (b + (c + d))
phases_part a b c d w x y z h i j k = omega arith

clients_part : (a b c d w x y z : ℕ) → w ≤ a → x ≤ b → y ≤ c → z < d → w + (x + (y + z)) < a + (b + (c + d))
clients_part a b c d w x y z h i j k = omega arith

all_calls : (setup : Setup) (run : Run) (moments : List Moment)
    → calls_left (after_all setup run moments).lucks ≤ calls_left run.lucks
unfolding after_all
all_calls setup run [] = same (calls_left run.lucks)
all_calls setup run (m ∷ moments) =
    at_most (calls_left run.lucks) (calls_left (after setup run m).lucks) _ (after_calls setup run m)
    (all_calls setup (after setup run m) moments)

-- a call is used
used : (setup : Setup) (run : Run) (m : Moment) → (given_by setup run.lucks (asked_by run m) ≡ Row → ⊥)
    → calls_left (after setup run m).lucks < calls_left run.lucks
unfolding after
used setup run m other = called_less setup run.lucks (asked_by run m) other

pub call_pays : (setup : Setup) (run : Run) (m : Moment) → (given_by setup run.lucks (asked_by run m) ≡ Row → ⊥)
    → supply setup (after setup run m) < supply setup run
call_pays setup run m other =
    let to : Run = after setup run m in
    let goes : Goes run.cluster to.cluster = after_goes setup run m in
    calls_part (calls_left run.lucks) (links_left setup run.cluster) (phases_left run.cluster.control) (clients_left setup run.cluster)
    (calls_left to.lucks) (links_left setup to.cluster) (phases_left to.cluster.control) (clients_left setup to.cluster)
    (used setup run m other) (links_most setup run.cluster to.cluster goes)
    (no_more_phases run.cluster.control to.cluster.control goes.stage) (clients_most setup run.cluster to.cluster goes)

-- a phase is left
pub phase_pays : (setup : Setup) (run : Run) (m : Moment)
    → phases_left (after setup run m).cluster.control < phases_left run.cluster.control
    → supply setup (after setup run m) < supply setup run
phase_pays setup run m lt =
    let to : Run = after setup run m in
    let goes : Goes run.cluster to.cluster = after_goes setup run m in
    phases_part (calls_left run.lucks) (links_left setup run.cluster) (phases_left run.cluster.control) (clients_left setup run.cluster)
    (calls_left to.lucks) (links_left setup to.cluster) (phases_left to.cluster.control) (clients_left setup to.cluster)
    (after_calls setup run m) (links_most setup run.cluster to.cluster goes) lt (clients_most setup run.cluster to.cluster goes)

-- a link fails
alive_less : (one other : Cluster) (r d : ℕ) → has_failed one r d ≡ false → has_failed other r d ≡ true
    → alive other r d < alive one r d
alive_less one other r d was is =
    subst (λ (t : Bool). alive other r d < cond t 0 1) (sym was) (subst (λ (t : Bool). cond t 0 1 < 1) (sym is) some)
  where
    some : 0 < 1
    some = omega arith

alive_most : (one other : Cluster) → Goes one other → (r d : ℕ) → alive other r d ≤ alive one r d
alive_most one other h r d = by (has_failed one r d) (has_failed other r d) (h.failed r d)
  where
    by : (a b : Bool) → (a ≡ true → b ≡ true) → cond b 0 1 ≤ cond a 0 1
    by true b keeps = subst (λ (t : Bool). cond t 0 1 ≤ 0) (sym (keeps refl)) (same 0)
    by false true keeps = omega arith
    by false false keeps = same 1

fail_pays : (setup : Setup) (run : Run) (moments : List Moment) (r d : ℕ) → r < length setup.shards → d < length setup.shards
    → has_failed run.cluster r d ≡ false → has_failed (after_all setup run moments).cluster r d ≡ true
    → supply setup (after_all setup run moments) < supply setup run
fail_pays setup run moments r d few many was is =
    let to : Run = after_all setup run moments in
    let goes : Goes run.cluster to.cluster = all_go setup run moments in
    let n : ℕ = length setup.shards in
    let lost : links_left setup to.cluster < links_left setup run.cluster
    = upto_less n (λ i. upto n (λ j. alive to.cluster i j)) (λ i. upto n (λ j. alive run.cluster i j)) r few
    (λ i. upto_most n (λ j. alive to.cluster i j) (λ j. alive run.cluster i j) (λ j. alive_most run.cluster to.cluster goes i j))
    (upto_less n (λ j. alive to.cluster r j) (λ j. alive run.cluster r j) d many
    (λ j. alive_most run.cluster to.cluster goes r j) (alive_less run.cluster to.cluster r d was is)) in
    links_part (calls_left run.lucks) (links_left setup run.cluster) (phases_left run.cluster.control) (clients_left setup run.cluster)
    (calls_left to.lucks) (links_left setup to.cluster) (phases_left to.cluster.control) (clients_left setup to.cluster)
    (all_calls setup run moments) lost
    (no_more_phases run.cluster.control to.cluster.control goes.stage) (clients_most setup run.cluster to.cluster goes)

-- a client is answered
abbrev pub asked_of : Setup → ℕ → ℕ
asked_of setup c = length (commands_of (slice_get setup.clients c))

pub client_pays : (setup : Setup) (run : Run) (m : Moment) (c : ℕ) → c < length setup.clients
    → client_left (asked_of setup c) (client_in (after setup run m).cluster c) < client_left (asked_of setup c) (client_in run.cluster c)
    → supply setup (after setup run m) < supply setup run
client_pays setup run m c few less =
    let to : Run = after setup run m in
    let goes : Goes run.cluster to.cluster = after_goes setup run m in
    let fewer : clients_left setup to.cluster < clients_left setup run.cluster
    = upto_less (length setup.clients) (λ i. client_left (asked_of setup i) (client_in to.cluster i))
    (λ i. client_left (asked_of setup i) (client_in run.cluster i)) c few (λ i. goes.clients i (asked_of setup i)) less in
    clients_part (calls_left run.lucks) (links_left setup run.cluster) (phases_left run.cluster.control) (clients_left setup run.cluster)
    (calls_left to.lucks) (links_left setup to.cluster) (phases_left to.cluster.control) (clients_left setup to.cluster)
    (after_calls setup run m) (links_most setup run.cluster to.cluster goes)
    (no_more_phases run.cluster.control to.cluster.control goes.stage) fewer

first : (n : ℕ) → 0 < suc n
first n = omega arith

later : (a b : ℕ) → a < b → suc a < suc b
later a b lt = omega arith

pub got_within : {X : Type 0} (xs : List X) (k : ℕ) → is_some (slice_get xs k) ≡ true → k < length xs
got_within [] k h = cc
got_within (x ∷ xs) zero h = first (length xs)
got_within (x ∷ xs) (suc k) h = later k (length xs) (got_within xs k h)

pub asked_within : (clients : List Asking) (c k : ℕ) → is_some (slice_get (commands_of (slice_get clients c)) k) ≡ true → c < length clients
asked_within [] c k h = cc
asked_within (x ∷ clients) zero k h = first (length clients)
asked_within (x ∷ clients) (suc c) k h = later c (length clients) (asked_within clients c k h)

one_reply : (n k m : ℕ) → k < n → (n - suc k) + m < (n - k) + m
one_reply n k m lt = omega arith

-- the reply of a command that is refused
abbrev refused_cell : ClientCell → ClientCell
refused_cell cell = record cell { replies = cell.replies ++ reply.NoMemory ∷ [] }

refused_less : (n : ℕ) (cell : ClientCell) → length cell.replies < n → client_left n (refused_cell cell) < client_left n cell
refused_less n cell lt =
    subst (λ (k : ℕ). (n - k) + maps_left cell.knows < (n - length cell.replies) + maps_left cell.knows)
    (sym (length_more cell.replies reply.NoMemory)) (one_reply n (length cell.replies) (maps_left cell.knows) lt)

refused_in : (setup : Setup) (run : Run) (c : ℕ) (met : Met) → IsWant met → c < length run.cluster.clients
    → client_in (after setup run (first_moment setup run (Client c) met)).cluster c ≡ refused_cell (client_in run.cluster c)
unfolding after
refused_in setup run c NoMemory want lt = set_here run.cluster.clients c (refused_cell (client_in run.cluster c)) no_client lt
refused_in setup run c NoMemoryInMove want lt = set_here run.cluster.clients c (refused_cell (client_in run.cluster c)) no_client lt
refused_in setup run c Row (inl e) lt = cc
refused_in setup run c Row (inr e) lt = cc
refused_in setup run c CrashedBefore (inl e) lt = cc
refused_in setup run c CrashedBefore (inr e) lt = cc
refused_in setup run c CrashedAfter (inl e) lt = cc
refused_in setup run c CrashedAfter (inr e) lt = cc
refused_in setup run c Failed (inl e) lt = cc
refused_in setup run c Failed (inr e) lt = cc
refused_in setup run c Lost (inl e) lt = cc
refused_in setup run c Lost (inr e) lt = cc

may_ask : (setup : Setup) (cluster : Cluster) (c : ℕ) → may_step setup cluster (Client c) ≡ true
    → is_some (next_command setup cluster c) ≡ true
unfolding may
may_ask setup cluster c h = h

pub refused_pays : (setup : Setup) (run : Run) (c : ℕ) (met : Met) → IsWant met → length run.cluster.clients ≡ length setup.clients
    → may_step setup run.cluster (Client c) ≡ true
    → supply setup (after setup run (first_moment setup run (Client c) met)) < supply setup run
refused_pays setup run c met want clients may =
    let some : is_some (next_command setup run.cluster c) ≡ true = may_ask setup run.cluster c may in
    let few : c < length setup.clients = asked_within setup.clients c (length (client_in run.cluster c).replies) some in
    let left : length (client_in run.cluster c).replies < asked_of setup c
    = got_within (commands_of (slice_get setup.clients c)) (length (client_in run.cluster c).replies) some in
    client_pays setup run (first_moment setup run (Client c) met) c few
    (subst (λ (cell : ClientCell). client_left (asked_of setup c) cell < client_left (asked_of setup c) (client_in run.cluster c))
    (sym (refused_in setup run c met want (lt_by c _ _ (sym clients) few)))
    (refused_less (asked_of setup c) (client_in run.cluster c) left))

-- where a link stands
pub record IsPlaced (setup : Setup) (cluster : Cluster) (r d : ShardId) : Type 0 where
  pub rows : r.0 < length cluster.links
  pub row : d.0 < length (links_of cluster r.0)
  pub recipient : r.0 < length setup.shards
  pub donor : d.0 < length setup.shards

placed : (setup : Setup) (cluster : Cluster) (r d : ShardId) → IsShaped setup cluster → r.0 < length cluster.links
    → d.0 < length (links_of cluster r.0) → IsPlaced setup cluster r d
placed setup cluster r d shaped rows row =
    let shards : ℕ = length setup.shards in
    let some : r.0 < shards
    = lt_by r.0 _ _ (sym (length-map (λ (links : List LinkCell). length links) cluster.links) ∙ ap length shaped.links
    ∙ length-replicate shards shards) rows in
    let donors : length (links_of cluster r.0) ≡ shards
    = sym (map_at (λ (t : List LinkCell). length t) cluster.links r.0 []) ∙ ap (λ (t : List ℕ). slice_index_or t r.0 0) shaped.links
    ∙ replicate_at shards r.0 shards 0 some in
    record { rows = rows; row = row; recipient = some; donor = lt_by d.0 _ _ donors row }

open_placed : (setup : Setup) (cluster : Cluster) (r d : ShardId) → IsShaped setup cluster
    → (link_in cluster r.0 d.0).link.is_open ≡ true → IsPlaced setup cluster r d
open_placed setup cluster r d shaped is =
    placed setup cluster r d shaped
    (in_rows (λ (cell : LinkCell). cell.link.is_open) cluster.links r.0 d.0 no_link refl is)
    (within (λ (cell : LinkCell). cell.link.is_open) (links_of cluster r.0) d.0 no_link refl is)

-- a link's want of memory fails it
link_pays : (setup : Setup) (run : Run) (event : Event) (o : Owed) (r d : ShardId) → IsPlaced setup run.cluster r d
    → has_failed run.cluster r.0 d.0 ≡ false
    → (after setup run (first_moment setup run event NoMemory)).cluster.links ≡ run.cluster.links
    → (after setup run (first_moment setup run event NoMemory)).owed ≡ o ∷ [] → o.event ≡ Fail (Some (r, d)) cause.NoMemory
    → supply setup (after_all setup run (moments_of setup run event NoMemory)) < supply setup run
unfolding after_all
link_pays setup run event o r d place was links owed is =
    let to : Run = after setup run (first_moment setup run event NoMemory) in
    fail_pays setup run (moments_of setup run event NoMemory) r.0 d.0 place.recipient place.donor was
    (paid_failed setup 1 to o r d cause.NoMemory owed is
    (subst (λ (rows : List (List LinkCell)). r.0 < length rows) (sym links) place.rows)
    (subst (λ (rows : List (List LinkCell)). d.0 < length (slice_index_or rows r.0 [])) (sym links) place.row))

abbrev owed_want : Setup → Run → Event → ShardId → ShardId → Owed
owed_want setup run event r d =
    record { event = Fail (Some (r, d)) cause.NoMemory; time = (first_moment setup run event NoMemory).made.stamp.time }

clone_wants : (setup : Setup) (run : Run) (r d : ShardId) → run.owed ≡ []
    → (after setup run (first_moment setup run (Clone r d) NoMemory)).owed ≡ owed_want setup run (Clone r d) r d ∷ []
unfolding after
clone_wants setup run r d none = ap (λ (owed : List Owed). owed ++ owed_want setup run (Clone r d) r d ∷ []) none

fetch_wants : (setup : Setup) (run : Run) (r d : ShardId) → run.owed ≡ []
    → (after setup run (first_moment setup run (Fetch r d) NoMemory)).owed ≡ owed_want setup run (Fetch r d) r d ∷ []
unfolding after
fetch_wants setup run r d none = ap (λ (owed : List Owed). owed ++ owed_want setup run (Fetch r d) r d ∷ []) none

cut_wants : (setup : Setup) (run : Run) (r d : ShardId) → run.owed ≡ []
    → (after setup run (first_moment setup run (Cut r d) NoMemory)).owed ≡ owed_want setup run (Cut r d) r d ∷ []
unfolding after
cut_wants setup run r d none = ap (λ (owed : List Owed). owed ++ owed_want setup run (Cut r d) r d ∷ []) none

apply_wants : (setup : Setup) (run : Run) (r d : ShardId) (l : ℕ) → run.owed ≡ []
    → (after setup run (first_moment setup run (Apply r d l) NoMemory)).owed ≡ owed_want setup run (Apply r d l) r d ∷ []
unfolding after
apply_wants setup run r d l none = ap (λ (owed : List Owed). owed ++ owed_want setup run (Apply r d l) r d ∷ []) none

record_wants : (setup : Setup) (run : Run) (r d : ShardId) → run.owed ≡ []
    → (after setup run (first_moment setup run (Record r d) NoMemory)).owed ≡ owed_want setup run (Record r d) r d ∷ []
unfolding after
record_wants setup run r d none = ap (λ (owed : List Owed). owed ++ owed_want setup run (Record r d) r d ∷ []) none

abbrev WantsLinks : Setup → Run → Event → Type 0
WantsLinks setup run event = (after setup run (first_moment setup run event NoMemory)).cluster.links ≡ run.cluster.links

clone_links : (setup : Setup) (run : Run) (r d : ShardId) → WantsLinks setup run (Clone r d)
unfolding after
clone_links setup run r d = refl

fetch_links : (setup : Setup) (run : Run) (r d : ShardId) → WantsLinks setup run (Fetch r d)
unfolding after
fetch_links setup run r d = refl

cut_links : (setup : Setup) (run : Run) (r d : ShardId) → WantsLinks setup run (Cut r d)
unfolding after
cut_links setup run r d = refl

apply_links : (setup : Setup) (run : Run) (r d : ShardId) (l : ℕ) → WantsLinks setup run (Apply r d l)
unfolding after
apply_links setup run r d l = refl

record_links : (setup : Setup) (run : Run) (r d : ShardId) → WantsLinks setup run (Record r d)
unfolding after
record_links setup run r d = refl

-- the link of an event that may be made is open
clone_open : (setup : Setup) (cluster : Cluster) (r d : ShardId) → may_step setup cluster (Clone r d) ≡ true
    → (link_in cluster r.0 d.0).link.is_open ≡ true
unfolding may
clone_open setup cluster r d h =
    (both (link_in cluster r.0 d.0).link.is_open _
    (both (may_clone (link_in cluster r.0 d.0).link) _ (both (may_clone (link_in cluster r.0 d.0).link && _) _ h).0).0).0

fetch_open : (setup : Setup) (cluster : Cluster) (r d : ShardId) → may_step setup cluster (Fetch r d) ≡ true
    → (link_in cluster r.0 d.0).link.is_open ≡ true
unfolding may
fetch_open setup cluster r d h =
    (both (link_in cluster r.0 d.0).link.is_open _ (both (may_fetch (link_in cluster r.0 d.0).link) _ h).0).0

cut_open : (setup : Setup) (cluster : Cluster) (r d : ShardId) → may_step setup cluster (Cut r d) ≡ true
    → (link_in cluster r.0 d.0).link.is_open ≡ true
unfolding may
cut_open setup cluster r d h = (both (link_in cluster r.0 d.0).link.is_open _ h).0

record_open : (setup : Setup) (cluster : Cluster) (r d : ShardId) → may_step setup cluster (Record r d) ≡ true
    → (link_in cluster r.0 d.0).link.is_open ≡ true
unfolding may
record_open setup cluster r d h =
    (both (link_in cluster r.0 d.0).link.is_open _ (both ((link_in cluster r.0 d.0).link.is_open && _) _ h).0).0

apply_placed : (setup : Setup) (cluster : Cluster) (r d : ShardId) (l : ℕ) → IsShaped setup cluster
    → may_step setup cluster (Apply r d l) ≡ true → IsPlaced setup cluster r d
apply_placed setup cluster r d l shaped h =
    let s = stands setup cluster r d l shaped (takes setup cluster r d l h) in
    placed setup cluster r d shaped s.links s.link

-- the row of an event that a round tries is followed by nothing
row_owes : (setup : Setup) (run : Run) (event : Event) → run.owed ≡ [] → IsTried run.cluster event
    → (after setup run (first_moment setup run event Row)).owed ≡ []
unfolding after
row_owes setup run (Client c) none tried = ap (λ (owed : List Owed). owed ++ []) none
row_owes setup run Begin none tried = ap (λ (owed : List Owed). owed ++ []) none
row_owes setup run (Tell s) none tried = ap (λ (owed : List Owed). owed ++ []) none
row_owes setup run (Retell s message) none tried = absurd tried
row_owes setup run Advance none tried = ap (λ (owed : List Owed). owed ++ []) none
row_owes setup run (Clone r d) none tried = ap (λ (owed : List Owed). owed ++ []) none
row_owes setup run (Fetch r d) none tried = ap (λ (owed : List Owed). owed ++ []) none
row_owes setup run (Cut r d) none tried = ap (λ (owed : List Owed). owed ++ []) none
row_owes setup run (Apply r d l) none tried = ap (λ (owed : List Owed). owed ++ []) none
row_owes setup run (Again r d l position) none tried = absurd tried
row_owes setup run (Record r d) none tried = ap (λ (owed : List Owed). owed ++ []) none
row_owes setup run (Crash r d) none tried = absurd tried
row_owes setup run (Report r) none tried = ap (λ (owed : List Owed). owed ++ []) none
row_owes setup run (Fail named cause) none tried = absurd tried

-- a step, by what its first event met
abbrev Answered : Setup → Run → Event → Met → Type 0
Answered setup run event met =
    (met ≡ given_by setup run.lucks (asked_by run (first_moment setup run event met))) ⊎ IsWant met

fate_pays : (setup : Setup) (run : Run) (event : Event) (met : Met) → (met ≡ Row → ⊥)
    → met ≡ given_by setup run.lucks (asked_by run (first_moment setup run event met))
    → supply setup (after_all setup run (moments_of setup run event met)) < supply setup run
unfolding after_all
fate_pays setup run event met other is =
    let m : Moment = first_moment setup run event met in
    less_then (supply setup run) (supply setup (after setup run m)) _ (call_pays setup run m (λ e. other (is ∙ e)))
    (no_events_add setup (after setup run m) (paid setup 2 (after setup run m)))

client_wants : (setup : Setup) (run : Run) (c : ℕ) (met : Met) → IsWant met → length run.cluster.clients ≡ length setup.clients
    → may_step setup run.cluster (Client c) ≡ true
    → supply setup (after_all setup run (moments_of setup run (Client c) met)) < supply setup run
unfolding after_all
client_wants setup run c met want clients may =
    let m : Moment = first_moment setup run (Client c) met in
    less_then (supply setup run) (supply setup (after setup run m)) _ (refused_pays setup run c met want clients may)
    (no_events_add setup (after setup run m) (paid setup 2 (after setup run m)))

want_pays : (setup : Setup) (run : Run) (event : Event) → IsShaped setup run.cluster
    → length run.cluster.clients ≡ length setup.clients → run.owed ≡ [] → IsTried run.cluster event
    → may_step setup run.cluster event ≡ true → may_meet setup run.cluster event (piece_for run.cluster event) NoMemory ≡ true
    → supply setup (after_all setup run (moments_of setup run event NoMemory)) < supply setup run
want_pays setup run (Client c) shaped clients none tried may meets = client_wants setup run c NoMemory (inl refl) clients may
want_pays setup run Begin shaped clients none tried may meets = cc
want_pays setup run (Tell s) shaped clients none tried may meets = cc
want_pays setup run (Retell s message) shaped clients none tried may meets = absurd tried
want_pays setup run Advance shaped clients none tried may meets = cc
want_pays setup run (Clone r d) shaped clients none tried may meets =
    link_pays setup run (Clone r d) (owed_want setup run (Clone r d) r d) r d
    (open_placed setup run.cluster r d shaped (clone_open setup run.cluster r d may)) tried (clone_links setup run r d)
    (clone_wants setup run r d none) refl
want_pays setup run (Fetch r d) shaped clients none tried may meets =
    link_pays setup run (Fetch r d) (owed_want setup run (Fetch r d) r d) r d
    (open_placed setup run.cluster r d shaped (fetch_open setup run.cluster r d may)) tried (fetch_links setup run r d)
    (fetch_wants setup run r d none) refl
want_pays setup run (Cut r d) shaped clients none tried may meets =
    link_pays setup run (Cut r d) (owed_want setup run (Cut r d) r d) r d
    (open_placed setup run.cluster r d shaped (cut_open setup run.cluster r d may)) tried (cut_links setup run r d)
    (cut_wants setup run r d none) refl
want_pays setup run (Apply r d l) shaped clients none tried may meets =
    link_pays setup run (Apply r d l) (owed_want setup run (Apply r d l) r d) r d
    (apply_placed setup run.cluster r d l shaped may) tried (apply_links setup run r d l) (apply_wants setup run r d l none) refl
want_pays setup run (Again r d l position) shaped clients none tried may meets = absurd tried
want_pays setup run (Record r d) shaped clients none tried may meets =
    link_pays setup run (Record r d) (owed_want setup run (Record r d) r d) r d
    (open_placed setup run.cluster r d shaped (record_open setup run.cluster r d may)) tried (record_links setup run r d)
    (record_wants setup run r d none) refl
want_pays setup run (Crash r d) shaped clients none tried may meets = absurd tried
want_pays setup run (Report r) shaped clients none tried may meets = cc
want_pays setup run (Fail named cause) shaped clients none tried may meets = absurd tried

move_pays : (setup : Setup) (run : Run) (event : Event) → length run.cluster.clients ≡ length setup.clients
    → may_step setup run.cluster event ≡ true → may_meet setup run.cluster event (piece_for run.cluster event) NoMemoryInMove ≡ true
    → supply setup (after_all setup run (moments_of setup run event NoMemoryInMove)) < supply setup run
move_pays setup run (Client c) clients may meets = client_wants setup run c NoMemoryInMove (inr refl) clients may
move_pays setup run other clients may meets = cc

met_pays : (setup : Setup) (run : Run) (event : Event) (met : Met) → IsShaped setup run.cluster
    → length run.cluster.clients ≡ length setup.clients → run.owed ≡ [] → IsTried run.cluster event
    → may_step setup run.cluster event ≡ true → may_meet setup run.cluster event (piece_for run.cluster event) met ≡ true
    → Answered setup run event met → Pays setup run event (moments_of setup run event met)
met_pays setup run event Row shaped clients none tried may meets answers =
    let m : Moment = first_moment setup run event Row in
    inr (inr (ap (λ (ms : List Moment). m ∷ ms) (paid_none setup 2 (after setup run m) (row_owes setup run event none tried))))
met_pays setup run event CrashedBefore shaped clients none tried may meets answers =
    inl (fate_pays setup run event CrashedBefore (λ e. cc) (by_luck CrashedBefore _ (λ e. cc) (λ e. cc) answers))
met_pays setup run event CrashedAfter shaped clients none tried may meets answers =
    inl (fate_pays setup run event CrashedAfter (λ e. cc) (by_luck CrashedAfter _ (λ e. cc) (λ e. cc) answers))
met_pays setup run event Failed shaped clients none tried may meets answers =
    inl (fate_pays setup run event Failed (λ e. cc) (by_luck Failed _ (λ e. cc) (λ e. cc) answers))
met_pays setup run event Lost shaped clients none tried may meets answers =
    inl (fate_pays setup run event Lost (λ e. cc) (by_luck Lost _ (λ e. cc) (λ e. cc) answers))
met_pays setup run event NoMemory shaped clients none tried may meets answers =
    inl (want_pays setup run event shaped clients none tried may meets)
met_pays setup run event NoMemoryInMove shaped clients none tried may meets answers =
    inl (move_pays setup run event clients may meets)

pub steps_pay : StepsPay
steps_pay setup run event moments shaped clients none tried (lines, step) = by step
  where
    by : IsStep setup run event moments lines → Pays setup run event moments
    by (idles never nothing shows) = inr (inl nothing)
    by (makes met goes answers is schedule shows) =
        let whole : IsSchedule setup run (moments_of setup run event met) = subst (λ (ms : List Moment). IsSchedule setup run ms) is schedule in
        subst (λ (ms : List Moment). Pays setup run event ms) (sym is)
        (met_pays setup run event met shaped clients none tried goes whole.0.meets answers)
