-- A shard that isn't there was told nothing.
use Rattle.std.proofs.Common.{◌≡◌, ℕ, false, List, None, slice_get, slice_index_or, refl, ap, ◌∙◌}
use Rattle.resh_progress.specs.Kinds.{Kind, ToPrepare, ToDonate, ToBlock, ToInstall, ToRelease}
use Rattle.resh_progress.specs.Tellings.{has, nothing}
use Rattle.resh_cells.specs.Cells.{no_shard}
use Rattle.resh_cells.specs.declared.cluster.ShardCell.{ShardCell}
use Rattle.resh_telling.proofs.Changing.{or_default}

has_nothing : (kind : Kind) → has nothing kind ≡ false
has_nothing ToPrepare = refl
has_nothing ToDonate = refl
has_nothing ToBlock = refl
has_nothing ToInstall = refl
has_nothing ToRelease = refl

pub unheard : (shards : List ShardCell) (s : ℕ) (kind : Kind) → slice_get shards s ≡ None
    → has (slice_index_or shards s no_shard).donor.told kind ≡ false
unheard shards s kind none = ap (λ (cell : ShardCell). has cell.donor.told kind) (or_default shards s no_shard none) ∙ has_nothing kind
