-- The merged reply of the shards of a cluster is the reply of the table of events.
use Rattle.std.proofs.Common.{◌≡◌, ◌<◌, ℕ, zero, suc, true, List, [], ◌∷◌, length, map, get_or, refl, sym, ap, subst, ◌∙◌, arith}
use Rattle.std.proofs.lemmas.List.FromFn.{length-range_with_len}
use Rattle.std.specs.List.{Contains, range_with_len}
use Rattle.resh_command.specs.declared.command.Command.{Command}
use Rattle.resh_command.specs.declared.reply.Reply.{Reply}
use Rattle.resh_versions.specs.Standing.{IsFiled}
use Rattle.resh_bag.specs.Answer.{reply_of}
use Rattle.resh_router.specs.Laws.{is_reading}
use Rattle.resh_setup.specs.declared.setup.Setup.{Setup}
use Rattle.resh_cells.specs.Cells.{shard_in}
use Rattle.resh_cells.specs.declared.cluster.Cluster.{Cluster}
use Rattle.resh_events.specs.Targets.{doing_by, known_map}
use Rattle.resh_asking.specs.Gathered.{AreFiled, Merges, own_part, own_parts}
use Rattle.resh_asking.proofs.Readings.{reading_merges}

same_at : (ns : List ℕ) (k d e : ℕ) → k < length ns → get_or ns k d ≡ get_or ns k e
same_at [] k d e lt = absurd (omega (arith, lt))
same_at (n ∷ ns) zero d e lt = refl
same_at (n ∷ ns) (suc k) d e lt = same_at ns k d e (omega (arith, lt))

filed_at : (old : Cluster) (ns : List ℕ) → AreFiled old ns → (s : ℕ) → Contains ns s → IsFiled (shard_in old s).shard.versions.chains
filed_at old ns are s (k, within, is) = subst (λ n. IsFiled (shard_in old n).shard.versions.chains) (same_at ns k 0 s within ∙ is) (are k within)

length_parts : {X : Type 0} (f : ℕ → X) (ns : List ℕ) → length (map f ns) ≡ length ns
length_parts f [] = refl
length_parts f (n ∷ ns) = ap suc (length_parts f ns)

pub merged_is : (setup : Setup) (old : Cluster) (c : ℕ) (command : Command) (ns : List ℕ) (n : ℕ) (what : Reply) → ns ≡ range_with_len 0 n → is_reading command ≡ true → AreFiled old ns
    → Merges (own_parts old command ns) what → what ≡ reply_of (doing_by setup old c ns command)
merged_is setup old c command ns n what all reading filed merges =
    subst (λ l. AreFiled old l → Merges (own_parts old command l) what → what ≡ reply_of (doing_by setup old c l command)) (sym all) whole filed merges
  where
    whole : AreFiled old (range_with_len 0 n) → Merges (own_parts old command (range_with_len 0 n)) what → what ≡ reply_of (doing_by setup old c (range_with_len 0 n) command)
    whole are m =
        let parts = length_parts (own_part old command) (range_with_len 0 n) in
        let long = length-range_with_len 0 n in
        let some = m.0 in
        reading_merges n (λ s. (shard_in old s).shard) (λ s there. filed_at old (range_with_len 0 n) are s there) (omega (arith, parts, long, some)) (known_map setup old c) command what reading m.1
