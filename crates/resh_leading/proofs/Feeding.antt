-- No feed has more items than the setup's documents and commands can make.
use Rattle.std.proofs.Common.{◌≡◌, ◌≢◌, ◌≤◌, ◌&&◌, ℕ, suc, ◌+◌, ◌*◌, Bool, true, false, cond, nat_lt, List, [], ◌∷◌, ◌++◌, length, map, Option, refl, ap, ◌∙◌, slice_get, arith}
use Rattle.std.proofs.lemmas.List.{length-append, length-map}
use Rattle.resh_bag.specs.Bag.{Document}
use Rattle.resh_cells.specs.Cells.{client_in, shard_in}
use Rattle.resh_cells.specs.declared.cluster.ShardCell.{ShardCell}
use Rattle.resh_cloner.specs.Cloning.{comes_to}
use Rattle.resh_coord.specs.Control.{is_true_at}
use Rattle.resh_coord.specs.declared.cause.End.{End}
use Rattle.resh_coord.specs.declared.phase.Phase.{Phase}
use Rattle.resh_coord.specs.declared.phase.Phase.TheVariants as phase
use Rattle.resh_donor.specs.States as donor
use Rattle.resh_donor.specs.declared.phase.DonorPhase.{DonorPhase}
use Rattle.resh_donor.specs.declared.phase.DonorPhase.TheVariants.{Unused, PreparingToDonate, Donating, BlockingWrites, Done}
use Rattle.resh_feed.specs.Feeds.{items_of, whats}
use Rattle.resh_feed.specs.Items.{cloned_item, fetched_item, is_final, up_to_final}
use Rattle.resh_feed.specs.declared.item.Item.{Item}
use Rattle.resh_invariant.specs.Courses.{IsDonorIn, IsGoing, is_over}
use Rattle.resh_invariant.specs.Donors.{IsDonorKept}
use Rattle.resh_invariant.specs.Sources.{feed_by, sources_of}
use Rattle.resh_model.specs.Orders.{commands_of}
use Rattle.resh_oplog.specs.Logs.{is_for}
use Rattle.resh_oplog.specs.declared.entry.Entry.{Entry}
use Rattle.resh_progress.specs.Kinds.{ToBlock, ToInstall}
use Rattle.resh_progress.specs.Tellings.{has}
use Rattle.resh_story.specs.Stories.{clones_of, entries_for}
use Rattle.resh_versions.specs.Standing.{standing}
use Rattle.resh_leading.specs.Laws.{FeedsAreFew}
use Rattle.resh_leading.specs.Leading.{answered_in, commands_in}
use Rattle.resh_leading.proofs.Places.{filter_most, upto_within}
use Rattle.resh_leading.proofs.Storing.{chains_in, standing_most}

-- a donor that goes on wasn't told to install, and isn't at the end
abbrev Stands : donor.State → Type 0
Stands state = (has state.told ToInstall ≡ false) × (is_over state.phase ≡ false)

going : (to : DonorPhase) (state : donor.State) → is_over to ≡ false → IsGoing to state → Stands state
going to state off is = (
  ap (λ (x : donor.State). has x.told ToInstall) is ∙ not_told to off,
  ap (λ (x : donor.State). is_over x.phase) is ∙ off,
)
  where
    not_told : (to : DonorPhase) → is_over to ≡ false → has (donor.told_until to) ToInstall ≡ false
    not_told Unused e = refl
    not_told PreparingToDonate e = refl
    not_told Donating e = refl
    not_told BlockingWrites e = refl
    not_told Done e = cc

one_of : (t : Bool) (a b : DonorPhase) → is_over a ≡ false → is_over b ≡ false → is_over (cond t a b) ≡ false
one_of true a b h k = h
one_of false a b h k = k

stands_in : (p : Phase) (decision : Option End) (told : Bool) (state : donor.State) → p ≢ phase.Committing → p ≢ phase.Aborting
    → p ≢ phase.Done → IsDonorIn p decision told state → Stands state
stands_in phase.Initializing decision told state a b c is = going Unused state refl is
stands_in phase.PreparingToDonate decision told state a b c is =
    going (cond told PreparingToDonate Unused) state (one_of told PreparingToDonate Unused refl refl) is
stands_in phase.Cloning decision told state a b c is =
    going (cond told Donating PreparingToDonate) state (one_of told Donating PreparingToDonate refl refl) is
stands_in phase.Applying decision told state a b c is = going Donating state refl is
stands_in phase.BlockingWrites decision told state a b c is =
    going (cond told BlockingWrites Donating) state (one_of told BlockingWrites Donating refl refl) is
stands_in phase.Committing decision told state a b c is = absurd (a refl)
stands_in phase.Aborting decision told state a b c is = absurd (b refl)
stands_in phase.Done decision told state a b c is = absurd (c refl)

items_many : (documents : List Document) (entries : List Entry)
    → length (whats (items_of documents entries)) ≡ length documents + length entries
items_many documents entries =
    length-map (map cloned_item documents ++ map fetched_item entries) (λ (item : Item). item.what)
    ∙ length-append (map cloned_item documents) (map fetched_item entries)
    ∙ ap (λ n. n + length (map fetched_item entries)) (length-map documents cloned_item)
    ∙ ap (λ n. length documents + n) (length-map entries fetched_item)

cut_fewer : (entries : List Entry) → length (up_to_final entries) ≤ length entries
cut_fewer [] = omega arith
cut_fewer (entry ∷ entries) = by (is_final entry.what) (cut_fewer entries)
  where
    by : (t : Bool) → length (up_to_final entries) ≤ length entries → suc (length (cond t [] (up_to_final entries))) ≤ suc (length entries)
    by true le = omega arith
    by false le = omega (arith, le)

at_most : (a b c : ℕ) → a ≤ b → b ≤ c → a ≤ c
at_most a b c h k = omega (arith, h, k)

one_end : (t : Bool) (n : ℕ) → cond t n 0 ≤ n
one_end true n = omega arith
one_end false n = omega arith

pub few_feeds : FeedsAreFew
few_feeds setup state clones cluster r d keeps leads r_in d_in committing aborting done =
    let cell : ShardCell = shard_in cluster d in
    let time : ℕ = cluster.control.fetch_time in
    let kept : IsDonorKept setup d _ (is_true_at cluster.control.told d) _ (clones d) _ cell = keeps.donors d d_in in
    let stands : Stands cell.donor
    = stands_in cluster.control.phase cluster.control.decision (is_true_at cluster.control.told d) cell.donor committing aborting done kept.donor in
    let cloned : length (clones d r) ≡ length (clones_of cell.shard time r)
    = ap (λ (l : List Document). length l) (kept.cloned (kept.floor stands.1) r r_in) in
    let later : List Entry = entries_for cell.shard time r in
    few (length (feed_by (sources_of clones cluster r d))) (length (clones d r)) (length (clones_of cell.shard time r)) (length (up_to_final later))
    (chains_in cell.shard.versions) (length cell.shard.log.entries) (length setup.documents) (answered_in setup cluster) (commands_in setup)
    (length setup.shards) (cond (has cell.donor.told ToBlock) (length setup.shards) 0)
    (items_many (clones d r) (up_to_final later)) cloned
    (at_most (length (clones_of cell.shard time r)) (length (standing cell.shard.versions time)) (chains_in cell.shard.versions)
    (filter_most (comes_to cell.shard.new_map r) (standing cell.shard.versions time)) (standing_most cell.shard.versions time))
    (at_most (length (up_to_final later)) (length later) (length cell.shard.log.entries) (cut_fewer later)
    (filter_most (λ (entry : Entry). nat_lt time entry.stamp.time && is_for r entry.to) cell.shard.log.entries))
    (leads.counted.stores d d_in stands.0) (leads.counted.logs d d_in)
    (upto_within (length setup.clients) (λ c. length (client_in cluster c).replies)
    (λ c. length (commands_of (slice_get setup.clients c))) leads.counted.answers)
    (one_end (has cell.donor.told ToBlock) (length setup.shards))
  where
    few : (feed docs clones entries chains log documents answered commands shards finals : ℕ) → feed ≡ docs + entries → docs ≡ clones
        → clones ≤ chains → entries ≤ log → chains ≤ documents + answered → log ≤ 2 * answered + finals → answered ≤ commands
        → finals ≤ shards → feed ≤ documents + 3 * commands + shards
    few feed docs clones entries chains log documents answered commands shards finals a b c d e f g h = omega (arith, a, b, c, d, e, f, g, h)
