-- A shard of a cluster that has become another one.
use Rattle.std.proofs.Common.{◌≡◌, ◌<◌, ℕ, zero, suc, List, [], ◌∷◌, length, set, Some, slice_get, slice_set, refl, sym, ap, subst, ◌∙◌, arith}
use Rattle.std.proofs.lemmas.List.{set-get_or, get_or-set_same}
use Rattle.resh_shard.specs.Shards.{Shard}
use Rattle.resh_command.specs.declared.reply.Reply.{Reply}
use Rattle.resh_cells.specs.Cells.{no_client, no_shard, on_shard, shard_in, with_shard}
use Rattle.resh_cells.specs.declared.cluster.ClientCell.{ClientCell}
use Rattle.resh_cells.specs.declared.cluster.Cluster.{Cluster}
use Rattle.resh_cells.specs.declared.cluster.ShardCell.{ShardCell}
use Rattle.resh_cells.proofs.Places.{or_item}
use Rattle.resh_asking.specs.Steps.{Became}

pub there_is : {X : Type 0} (xs : List X) (s : ℕ) (x : X) → slice_get xs s ≡ Some x → s < length xs
there_is [] s x e = cc
there_is (y ∷ ys) zero x e = omega arith
there_is (y ∷ ys) (suc s) x e = let lt = there_is ys s x e in omega (arith, lt)

pub became : (old : Cluster) (s : ℕ) (cell : ShardCell) (x : Shard) (P : Shard → Shard → Type 0) → slice_get old.shards s ≡ Some cell → P cell.shard x
    → Became s old (record old { shards = slice_set old.shards s (record cell { shard = x }) }) P
became old s cell x P there made =
    let is = or_item old.shards s no_shard cell there in
    record {
      shard = x;
      there = there_is old.shards s cell there;
      made = subst (λ k. P k.shard x) (sym is) made;
      only = λ i. record old { shards = slice_set old.shards s (record (sym is i) { shard = x }) };
    }

set_twice : {X : Type 0} (xs : List X) (s : ℕ) (x y : X) → set (set xs s x) s y ≡ set xs s y
set_twice [] s x y = refl
set_twice (z ∷ zs) zero x y = refl
set_twice (z ∷ zs) (suc s) x y = ap (λ l. z ∷ l) (set_twice zs s x y)

-- what is taken back on a shard leaves the cluster as it was
pub taken_back : (old : Cluster) (s : ℕ) (f g : Shard → Shard) → s < length old.shards → g (f (shard_in old s).shard) ≡ (shard_in old s).shard
    → on_shard s (with_shard g) (on_shard s (with_shard f) old) ≡ old
taken_back old s f g there back =
    let one = record (shard_in old s) { shard = f (shard_in old s).shard } in
    ap (λ k. record old { shards = set (set old.shards s one) s (record k { shard = g k.shard }) }) (get_or-set_same old.shards s one no_shard there)
    ∙ ap (λ l. record old { shards = l }) (set_twice old.shards s one (record (shard_in old s) { shard = g (f (shard_in old s).shard) }))
    ∙ ap (λ x. record old { shards = set old.shards s (record (shard_in old s) { shard = x }) }) back
    ∙ ap (λ l. record old { shards = l }) (set-get_or old.shards s no_shard)

-- a client whose replies are what they were
pub same_replies : (old : Cluster) (c : ℕ) (cell : ClientCell) (r : List Reply) → slice_get old.clients c ≡ Some cell → r ≡ cell.replies
    → record old { clients = slice_set old.clients c (record cell { replies = r }) } ≡ old
same_replies old c cell r there same =
    let is = or_item old.clients c no_client cell there in
    ap (λ (k : List Reply). record old { clients = slice_set old.clients c (record cell { replies = k }) }) same
    ∙ ap (λ k. record old { clients = slice_set old.clients c k }) (sym is)
    ∙ ap (λ l. record old { clients = l }) (set-get_or old.clients c no_client)
