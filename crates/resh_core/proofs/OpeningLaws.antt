-- The documents of a shard, put one after another, and the parts of the opening state.
use Rattle.std.proofs.Common.{◌≡◌, ◌<◌, ◌≤◌, ℕ, zero, suc, ◌+◌, Bool, true, false, cond, List, [], ◌∷◌, length, drop, filter, get_or, replicate, add-one, refl, ap, sym, subst, ◌∙◌}
use Rattle.std.specs.List.{fold}
use native.Mathlib.Omega.{arith}
use Rattle.resh_coord.specs.Control as control
use Rattle.resh_coord.specs.Control.{Control}
use Rattle.resh_lane.specs.Lanes.{LaneOf}
use Rattle.resh_setup.specs.Validity.{IsValid}
use Rattle.resh_setup.specs.declared.setup.Setup.{Setup}
use Rattle.resh_cells.specs.Belonging.{IsClusterOf}
use Rattle.resh_cells.specs.Cells.{no_client}
use Rattle.resh_cells.specs.declared.cluster.ClientCell.{ClientCell}
use Rattle.resh_cells.specs.declared.cluster.Clocks.{Clocks}
use Rattle.resh_cells.specs.declared.cluster.Cluster.{Cluster}
use Rattle.resh_cells.specs.declared.cluster.LinkCell.{LinkCell}
use Rattle.resh_cells.specs.declared.cluster.ShardCell.{ShardCell}
use Rattle.resh_events.specs.Opening as table
use Rattle.resh_keeping.proofs.Kept.{opens}
use Rattle.resh_ending.proofs.Shaping.{opens as opens_shaped}
use Rattle.resh_rounds.proofs.Running.{opens_running}
use Rattle.resh_invariant.specs.Sources.{told_clones}
use Rattle.resh_invariant.proofs.Opening.{opens_kept}
use Rattle.resh_leading.specs.Laws.{OpensLeading}
use Rattle.resh_core.specs.Cores.{IsSound}
use Rattle.resh_core.specs.Openings.{opening_lane_of}

sooner : (a b : ℕ) → suc a < suc b → a < b
sooner a b lt = omega arith

none_below : (k : ℕ) → k < 0 → ⊥
none_below k lt = omega arith

first_loaded : {X Y : Type 0} (f : Y → X → Y) (p : X → Bool) (x : X) (xs : List X) (y : Y)
    → fold f (cond (p x) (f y x) y) (filter p xs) ≡ fold f y (filter p (x ∷ xs))
first_loaded f p x xs y = by (p x)
  where
    by : (b : Bool) → fold f (cond b (f y x) y) (filter p xs) ≡ fold f y (cond b (x ∷ filter p xs) (filter p xs))
    by true = refl
    by false = refl

loaded_next : {X Y : Type 0} (f : Y → X → Y) (p : X → Bool) (xs : List X) (i : ℕ) (x : X) (y z : Y) → i < length xs
    → x ≡ get_or xs i x → z ≡ cond (p x) (f y x) y
    → fold f z (filter p (drop (suc i) xs)) ≡ fold f y (filter p (drop i xs))
loaded_next f p [] i x y z lt is next = absurd (none_below i lt)
loaded_next f p (w ∷ ws) zero x y z lt is next =
    ap (λ t. fold f t (filter p ws)) (next ∙ ap (λ t. cond (p t) (f y t) y) is) ∙ first_loaded f p w ws y
loaded_next f p (w ∷ ws) (suc i) x y z lt is next = loaded_next f p ws i x y z (sooner i (length ws) lt) is next

-- one more of some items that pass
pub loaded_one : {X Y : Type 0} (f : Y → X → Y) (p : X → Bool) (xs : List X) (i : ℕ) (x : X) (y z : Y) → i < length xs
    → x ≡ get_or xs i x → z ≡ cond (p x) (f y x) y
    → fold f z (filter p (drop (i + 1) xs)) ≡ fold f y (filter p (drop i xs))
loaded_one f p xs i x y z lt is next =
    ap (λ n. fold f z (filter p (drop n xs))) (add-one i) ∙ loaded_next f p xs i x y z lt is next

abbrev made : Control → List ShardCell → List (List LaneOf) → List (List LinkCell) → List ClientCell → Clocks → Cluster
made c ss ls ks ts k = record { control = c; shards = ss; lanes = ls; links = ks; clients = ts; clocks = k }

-- the opening state, by its parts
pub opened : (setup : Setup) (shards : ℕ) (c : Control) (ss : List ShardCell) (ls : List (List LaneOf))
    (ks : List (List LinkCell)) (ts : List ClientCell) (k : Clocks) → shards ≡ length setup.shards → c ≡ control.at_first shards
    → ss ≡ table.each setup shards (table.opening_shard setup)
    → ls ≡ replicate shards (replicate setup.lanes (opening_lane_of setup shards))
    → ks ≡ table.each setup shards (λ r. table.each setup shards (table.opening_link setup r))
    → ts ≡ replicate (length setup.clients) no_client → k ≡ table.opening_clocks setup
    → record { control = c; shards = ss; lanes = ls; links = ks; clients = ts; clocks = k } ≡ table.opening setup
opened setup shards c ss ls ks ts k many a b d e f g =
    ap (λ (x : Control). made x ss ls ks ts k) (a ∙ ap control.at_first many)
    ∙ ap (λ (x : List ShardCell). made (table.opening setup).control x ls ks ts k)
    (b ∙ ap (λ (n : ℕ). table.each setup n (table.opening_shard setup)) many)
    ∙ ap (λ (x : List (List LaneOf)). made (table.opening setup).control (table.opening setup).shards x ks ts k)
    (d ∙ ap (λ (n : ℕ). replicate n (replicate setup.lanes (opening_lane_of setup n))) many)
    ∙ ap (λ (x : List (List LinkCell)). made (table.opening setup).control (table.opening setup).shards (table.opening setup).lanes x ts k)
    (e ∙ ap (λ (n : ℕ). table.each setup n (λ r. table.each setup n (table.opening_link setup r))) many)
    ∙ ap (λ (x : List ClientCell). made (table.opening setup).control (table.opening setup).shards (table.opening setup).lanes (table.opening setup).links x k) f
    ∙ ap (λ (x : Clocks). made (table.opening setup).control (table.opening setup).shards (table.opening setup).lanes (table.opening setup).links (table.opening setup).clients x) g

-- it is sound, with no turn made
pub sound_opened : (setup : Setup) (cluster : Cluster) → OpensLeading → IsValid setup → cluster ≡ table.opening setup
    → IsSound setup [] cluster
sound_opened setup cluster leads valid is = subst (λ (c : Cluster). IsSound setup [] c) (sym is) (record {
  valid = valid;
  of = opens setup;
  shaped = opens_shaped setup;
  running = opens_running setup;
  leads = leads setup valid;
  turns = (tt, (told_clones (table.opening setup), opens_kept setup valid));
})
