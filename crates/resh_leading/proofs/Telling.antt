-- What a shard has once it was told something.
use Rattle.std.proofs.Common.{◌≡◌, ◌≤◌, ℕ, ◌+◌, ◌*◌, Bool, true, false, cond, List, length, ◌++◌, refl, sym, ap, ◌∙◌, arith}
use Rattle.std.proofs.lemmas.List.{length-append}
use Rattle.resh_cells.specs.Cells.{with_shard}
use Rattle.resh_cells.specs.declared.cluster.ShardCell.{ShardCell}
use Rattle.resh_donor.specs.States as donor
use Rattle.resh_events.specs.rows.Tell as tell
use Rattle.resh_progress.specs.Kinds.{Kind, ToPrepare, ToDonate, ToBlock, ToInstall, ToRelease}
use Rattle.resh_progress.specs.Tellings.{has, told_too}
use Rattle.resh_progress.specs.declared.message.Message.TheVariants.{Prepare, Donate, Block, Install, Release}
use Rattle.resh_progress.specs.declared.told.Told.{Told}
use Rattle.resh_bag.specs.Bag.{Document}
use Rattle.resh_shard.specs.Shards.{blocked_at, final_entries, prepared, pruned_to}
use Rattle.resh_stamp.specs.declared.stamp.Stamp.{Stamp}
use Rattle.resh_leading.proofs.Counting.{Grows, finals}
use Rattle.resh_leading.proofs.Storing.{chains_in, finals_many, pruned_most}

never : {A : Type 0} → true ≡ false → A
never e = cc

-- what was told stays told
still : (told : Told) (kind other : Kind) → has told other ≡ true → has (told_too told kind) other ≡ true
still told ToPrepare ToPrepare h = refl
still told ToPrepare other h = h
still told ToDonate ToDonate h = refl
still told ToDonate other h = h
still told ToBlock ToBlock h = refl
still told ToBlock other h = h
still told ToInstall ToInstall h = refl
still told ToInstall other h = h
still told ToRelease ToRelease h = refl
still told ToRelease other h = h

itself : (told : Told) (kind : Kind) → has (told_too told kind) kind ≡ true
itself told ToPrepare = refl
itself told ToDonate = refl
itself told ToBlock = refl
itself told ToInstall = refl
itself told ToRelease = refl

-- a state that stays, or is told more
module _ (state next : donor.State) (kind : Kind) (told : next.told ≡ told_too state.told kind) where
  one_still : (t : Bool) (other : Kind) → has state.told other ≡ true → has (cond t state next).told other ≡ true
  one_still true other h = h
  one_still false other h = ap (λ (x : Told). has x other) told ∙ still state.told kind other h

  one_itself : (t : Bool) → has state.told kind ≡ t → has (cond t state next).told kind ≡ true
  one_itself true is = is
  one_itself false is = ap (λ (x : Told). has x kind) told ∙ itself state.told kind

pub stays_told : (state : donor.State) (kind other : Kind) → has state.told other ≡ true → has (donor.after state kind).told other ≡ true
stays_told state kind other h = one_still state _ kind refl (has state.told kind) other h

pub is_told : (state : donor.State) (kind : Kind) → has (donor.after state kind).told kind ≡ true
is_told state kind = one_itself state _ kind refl (has state.told kind) refl

-- to prepare or to block is no donating
quiet : (state next : donor.State) → has next.told ToDonate ≡ has state.told ToDonate → (t : Bool)
    → has (cond t state next).told ToDonate ≡ true → has state.told ToDonate ≡ true
quiet state next same true h = h
quiet state next same false h = sym same ∙ h

pub prepare_quiet : (state : donor.State) → has (donor.after state ToPrepare).told ToDonate ≡ true → has state.told ToDonate ≡ true
prepare_quiet state h = quiet state _ refl (has state.told ToPrepare) h

pub block_quiet : (state : donor.State) → has (donor.after state ToBlock).told ToDonate ≡ true → has state.told ToDonate ≡ true
block_quiet state h = quiet state _ refl (has state.told ToBlock) h

untold : (a b : Bool) → (a ≡ true → b ≡ true) → b ≡ false → a ≡ false
untold true b h e = never (sym (h refl) ∙ e)
untold false b h e = refl

-- no more is logged, and no chain is added
told_grows : (n : ℕ) (one other : ShardCell) → length other.shard.log.entries ≡ length one.shard.log.entries
    → chains_in other.shard.versions ≤ chains_in one.shard.versions
    → (has one.donor.told ToBlock ≡ true → has other.donor.told ToBlock ≡ true)
    → (has one.donor.told ToInstall ≡ true → has other.donor.told ToInstall ≡ true) → Grows n 0 one other
told_grows n one other log chains block install = record {
  logs = by (has one.donor.told ToBlock) (has other.donor.told ToBlock) block;
  stores = λ e. (untold (has one.donor.told ToInstall) (has other.donor.told ToInstall) install e, plain (chains_in one.shard.versions) (chains_in other.shard.versions) chains);
}
  where
    plain : (a b : ℕ) → b ≤ a → b ≤ a + 0
    plain a b le = omega (arith, le)

    by : (a b : Bool) → (a ≡ true → b ≡ true)
        → length other.shard.log.entries + cond a n 0 ≤ length one.shard.log.entries + 2 * 0 + cond b n 0
    by true b h = at b (h refl)
      where
        at : (b : Bool) → b ≡ true → length other.shard.log.entries + n ≤ length one.shard.log.entries + 2 * 0 + cond b n 0
        at true e = omega (arith, log)
        at false e = never (sym e)
    by false true h = omega (arith, log)
    by false false h = omega (arith, log)

least : (a : ℕ) → a ≤ a
least a = omega arith

pub prepare_grows : (n : ℕ) (cell : ShardCell) → Grows n 0 cell (with_shard prepared (tell.on_donor Prepare cell))
prepare_grows n cell =
    told_grows n cell _ refl (least (chains_in cell.shard.versions)) (stays_told cell.donor ToPrepare ToBlock) (stays_told cell.donor ToPrepare ToInstall)

pub donate_grows : (n time : ℕ) (cell : ShardCell) → Grows n 0 cell (with_shard (pruned_to time) (tell.on_both (Donate time) cell))
donate_grows n time cell =
    told_grows n cell _ refl (pruned_most time cell.shard.versions) (stays_told cell.donor ToDonate ToBlock) (stays_told cell.donor ToDonate ToInstall)

pub release_grows : (n time : ℕ) (cell : ShardCell) → Grows n 0 cell (with_shard (tell.with_old_map time) (tell.on_both Release cell))
release_grows n time cell =
    told_grows n cell _ refl (pruned_most time cell.shard.versions) (stays_told cell.donor ToRelease ToBlock) (stays_told cell.donor ToRelease ToInstall)

pub install_grows : (n time : ℕ) (documents : List Document) (cell : ShardCell)
    → Grows n 0 cell (with_shard (tell.with_outputs time documents) (tell.on_both Install cell))
install_grows n time documents cell = record {
  logs = logs (has cell.donor.told ToBlock) (has (donor.after cell.donor ToInstall).told ToBlock) (stays_told cell.donor ToInstall ToBlock);
  stores = λ e. never (sym (is_told cell.donor ToInstall) ∙ e);
}
  where
    logs : (a b : Bool) → (a ≡ true → b ≡ true)
        → length cell.shard.log.entries + cond a n 0 ≤ length cell.shard.log.entries + 2 * 0 + cond b n 0
    logs true b h = at b (h refl)
      where
        at : (b : Bool) → b ≡ true → length cell.shard.log.entries + n ≤ length cell.shard.log.entries + 2 * 0 + cond b n 0
        at true e = omega arith
        at false e = never (sym e)
    logs false true h = omega arith
    logs false false h = omega arith

-- to block logs a final entry for each shard, once
pub block_grows : (n : ℕ) (stamp : Stamp) (cell : ShardCell) → has cell.donor.told ToBlock ≡ false → cell.shard.new_map.shards ≡ n
    → Grows n 0 cell (with_shard (blocked_at stamp) (tell.on_donor Block cell))
block_grows n stamp cell off shards = record {
  logs = more (length cell.shard.log.entries) (length (cell.shard.log.entries ++ final_entries cell.shard stamp))
      (length (final_entries cell.shard stamp)) (finals n cell) (cond (has (donor.after cell.donor ToBlock).told ToBlock) n 0)
      (length-append cell.shard.log.entries (final_entries cell.shard stamp)) (finals_many cell.shard stamp ∙ shards)
      (ap (λ t. cond t n 0) off) (ap (λ t. cond t n 0) (is_told cell.donor ToBlock));
  stores = λ e. (
    untold (has cell.donor.told ToInstall) (has (donor.after cell.donor ToBlock).told ToInstall) (stays_told cell.donor ToBlock ToInstall) e,
    plain (chains_in cell.shard.versions),
  );
}
  where
    more : (a b c f g : ℕ) → b ≡ a + c → c ≡ n → f ≡ 0 → g ≡ n → b + f ≤ a + 2 * 0 + g
    more a b c f g h i j k = omega (arith, h, i, j, k)

    plain : (a : ℕ) → a ≤ a + 0
    plain a = omega arith
