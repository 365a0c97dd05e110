-- What is done at the shards of a cluster is what the table of events has.
use Rattle.std.proofs.Common.{◌≡◌, ◌<◌, ◌==◌, ◌&&◌, ℕ, Bool, true, false, cond, List, [], ◌∷◌, length, set, refl, sym, ap, ◌∙◌}
use Rattle.std.proofs.lemmas.List.{set-get_or}
use Rattle.std.specs.FinMap.{empty}
use Rattle.resh_command.specs.declared.command.Command.{Command}
use Rattle.resh_stamp.specs.declared.stamp.Stamp.{Stamp}
use Rattle.resh_bag.specs.Answer.{Doing, adds, replaces, removes, says, doing}
use Rattle.resh_bag.specs.Parts.{bag_over, put_all}
use Rattle.resh_shard.specs.Decisions.{done, doing_on}
use Rattle.resh_shard.specs.Shards.{Shard, bag_of, documents_of, map_by, map_of, number_of}
use Rattle.resh_shard.specs.declared.act.Which.{Which}
use Rattle.resh_shard.specs.declared.act.Which.TheVariants.{Old, New}
use Rattle.resh_shard.proofs.Found.{does_as_collection}
use Rattle.resh_setup.specs.declared.setup.Setup.{Setup}
use Rattle.resh_cells.specs.Belonging.{IsClusterOf, IsShardOf}
use Rattle.resh_cells.specs.Cells.{client_in, no_shard, on_shard, shard_in, with_shard}
use Rattle.resh_cells.specs.declared.cluster.Cluster.{Cluster}
use Rattle.resh_events.specs.Targets.{all_at, doing_by, documents_at, has_map, is_free, known_map, leaves_to, same_map}
use Rattle.resh_events.specs.rows.Client as row
use Rattle.resh_asking.specs.Servings.{serving_at, serving_by}
use Rattle.resh_asking.specs.declared.asked.Serving.TheVariants.{Serves}
use Rattle.resh_asking.proofs.Doings.{IsAt}

both : (a b : Bool) → (a && b) ≡ true → (a ≡ true) × (b ≡ true)
both true b h = (refl, h)
both false b h = cc

under_by : (free under : Bool) → serving_by free under ≡ Serves → under ≡ true
under_by true true e = refl
under_by true false e = cc
under_by false under e = cc

same_which : (a b : Which) → same_map a b ≡ true → a ≡ b
same_which Old Old e = refl
same_which New New e = refl
same_which Old New e = cc
same_which New Old e = cc

-- a shard set to what it is
pub set_same : (old : Cluster) (s : ℕ) (x : Shard) → x ≡ (shard_in old s).shard → on_shard s (with_shard (λ before. x)) old ≡ old
set_same old s x is =
    ap (λ y. record old { shards = set old.shards s (record (shard_in old s) { shard = y }) }) is
    ∙ ap (λ l. record old { shards = l }) (set-get_or old.shards s no_shard)

-- a shard set by what its change gives
pub set_by : (old : Cluster) (s : ℕ) (x : Shard) (f : Shard → Shard) → x ≡ f (shard_in old s).shard → on_shard s (with_shard (λ before. x)) old ≡ on_shard s (with_shard f) old
set_by old s x f is = ap (λ y. record old { shards = set old.shards s (record (shard_in old s) { shard = y }) }) is

-- what is done where it is
pub did_is : (old : Cluster) (s : ℕ) (stamp : Stamp) (x : Doing) → IsAt s x → leaves_to x ≡ [] → on_shard s (with_shard (done stamp x)) old ≡ row.did stamp x old
did_is old s stamp (adds n d) at stays = ap (λ k. on_shard k (with_shard (done stamp (adds n d))) old) (sym at)
did_is old s stamp (removes n d) at stays = ap (λ k. on_shard k (with_shard (done stamp (removes n d))) old) (sym at)
did_is old s stamp (says reply) at stays = set_same old s (done stamp (says reply) (shard_in old s).shard) refl
did_is old s stamp (replaces n d t e) at stays = by (t == n) refl stays
  where
    by : (b : Bool) → (t == n) ≡ b → cond b [] (t ∷ []) ≡ [] → on_shard s (with_shard (done stamp (replaces n d t e))) old ≡ row.did stamp (replaces n d t e) old
    by true f h = ap (λ k. on_shard k (with_shard (done stamp (replaces n d t e))) old) (sym at) ∙ sym (ap (λ b. cond b (row.done_at stamp n (replaces n d t e) old) (row.moved stamp n d t e old)) f)
    by false f h = cc

module _ (setup : Setup) (old : Cluster) (c : ℕ) (of : IsClusterOf setup old) where
  -- a shard under the map that the client knows
  module _ (s : ℕ) (there : s < length old.shards) (under : has_map (client_in old c).knows (shard_in old s) ≡ true) where
    is_of : IsShardOf setup s (shard_in old s).shard
    is_of = of.each s there

    pub map_is : map_of (shard_in old s).shard ≡ known_map setup old c
    map_is =
        let which = same_which (shard_in old s).shard.which (client_in old c).knows under in
        λ i. map_by (which i) (is_of.old_map i) (is_of.new_map i)

    pub number_is : number_of (shard_in old s).shard ≡ s
    number_is = is_of.number

    bag_is : bag_of (shard_in old s).shard ≡ bag_over (documents_at old) (s ∷ [])
    bag_is = ap (λ n. put_all n (documents_of (shard_in old s).shard) empty) is_of.number

    pub does_is : (command : Command) → doing_on (shard_in old s).shard command ≡ doing_by setup old c (s ∷ []) command
    does_is command = does_as_collection (shard_in old s).shard command is_of.limit ∙ (λ i. doing (map_is i) (bag_is i) command)

  -- all of some shards that serve are under it
  pub one_under : (s : ℕ) (more : List ℕ) → serving_at old (client_in old c).knows (s ∷ more) ≡ Serves → has_map (client_in old c).knows (shard_in old s) ≡ true
  one_under s more serves =
      (both (has_map (client_in old c).knows (shard_in old s)) (all_at old (has_map (client_in old c).knows) more)
      (under_by (all_at old is_free (s ∷ more)) (all_at old (has_map (client_in old c).knows) (s ∷ more)) serves)).0

  pub other_under : (s t : ℕ) (more : List ℕ) → serving_at old (client_in old c).knows (s ∷ t ∷ more) ≡ Serves → has_map (client_in old c).knows (shard_in old t) ≡ true
  other_under s t more serves =
      (both (has_map (client_in old c).knows (shard_in old t)) (all_at old (has_map (client_in old c).knows) more)
      (both (has_map (client_in old c).knows (shard_in old s)) (all_at old (has_map (client_in old c).knows) (t ∷ more))
      (under_by (all_at old is_free (s ∷ t ∷ more)) (all_at old (has_map (client_in old c).knows) (s ∷ t ∷ more)) serves)).1).0
