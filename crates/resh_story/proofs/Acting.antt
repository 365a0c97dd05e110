-- What a command does, by what several shards hold, acts on what they hold.
use Rattle.std.proofs.Common.{◌≡◌, ◌⊎◌, ⊎_elim, ℕ, Bool, true, false, cond, List, Some, None, refl, sym, ap, subst, ◌∙◌}
use Rattle.resh_value.specs.Lookup.{id_of}
use Rattle.resh_value.specs.Whole.{IsWhole}
use Rattle.resh_value.specs.declared.value.Value.{Value}
use Rattle.resh_value.proofs.WholeLaws.{whole_decides}
use Rattle.resh_chunks.specs.Chunks.{Chunks}
use Rattle.resh_command.specs.declared.command.Command.{Command}
use Rattle.resh_versions.specs.Chains.{Document}
use Rattle.resh_versions.specs.Standing.{IsFiled, now}
use Rattle.resh_bag.specs.Answer.{Doing, adds, replaces, removes, says, bag_after, doing}
use Rattle.resh_bag.specs.Bag.{Bag, held, without}
use Rattle.resh_bag.specs.Parts.{bag_over, is_among, of_id}
use Rattle.resh_bag.specs.WholeLaws.{BringsWhole, HoldsWhole}
use Rattle.resh_bag.proofs.answers.Finding.{doings_find}
use Rattle.resh_bag.proofs.bags.BagLaws.{puts_one}
use Rattle.resh_bag.proofs.bags.WholeHeld.{stays_whole, update_keeps_id}
use Rattle.resh_bag.proofs.shards.ByShard.{held_over}
use Rattle.resh_shard.specs.Shards.{Shard, documents_of}
use Rattle.resh_shard.proofs.Held.{of_id_now, stands_named, stands_whole}
use Rattle.resh_story.specs.Laws.{CommandsAct}
use Rattle.resh_story.specs.Writing.{Acts, IsHeld}

module _ (own : ℕ → Shard) (shards : List ℕ) (filed : (s : ℕ) → is_among shards s ≡ true → IsFiled (own s).versions.chains) where
  abbrev bag : Bag
  bag = bag_over (λ s. documents_of (own s)) shards

  -- a shard among them holds what the bag has there
  held_by : (s : ℕ) → is_among shards s ≡ true → (q : Value) → held bag s q ≡ now (own s).versions q
  held_by s among q =
      held_over (λ s. documents_of (own s)) shards s q ∙ ap (λ b. cond b (of_id q (documents_of (own s))) None) among
      ∙ of_id_now (own s).versions (filed s among) q

  -- and what the bag has is of one among them
  among_if : (s : ℕ) (q : Value) (d : Document) → held bag s q ≡ Some d → is_among shards s ≡ true
  among_if s q d is = by (is_among shards s) refl
    where
      by : (b : Bool) → is_among shards s ≡ b → is_among shards s ≡ true
      by true e = e
      by false e = absurd (let off : None ≡ Some d = sym (held_over (λ s. documents_of (own s)) shards s q ∙ ap (λ b. cond b (of_id q (documents_of (own s))) None) e) ∙ is in cc)

  module _ (s : ℕ) (q : Value) (d : Document) (is : held bag s q ≡ Some d) where
    is_now : now (own s).versions q ≡ Some d
    is_now = sym (held_by s (among_if s q d is) q) ∙ is

    stands : IsHeld (own s) d
    stands = ap (now (own s).versions) (stands_named (own s).versions (filed s (among_if s q d is)) q d is_now) ∙ is_now

    is_whole_there : IsWhole d
    is_whole_there = (whole_decides d).0 (stands_whole (own s).versions (filed s (among_if s q d is)) q d is_now)

  holds_whole : HoldsWhole bag
  holds_whole s q d is = is_whole_there s q d is

  module _ (chunks : Chunks) (command : Command) (brings : BringsWhole command) where
    by_doing : (x : Doing) → doing chunks bag command ≡ x → Acts own shards x
    by_doing (says reply) e = tt
    by_doing (removes s d) e = let r = doings_find.removed chunks bag command s d e in stands s _ d r.hit.there
    by_doing (adds s d) e =
        let a = doings_find.added chunks bag command s d e in
        λ among. ((whole_decides d).1 (subst BringsWhole a.is brings), sym (held_by s among (id_of d)) ∙ a.free)
    by_doing (replaces s d t f) e =
        let r = doings_find.replaced chunks bag command s d t f e in
        let whole : IsWhole f = stays_whole.does chunks bag command holds_whole brings t (id_of f) f (ap (λ z. held (bag_after bag z) t (id_of f)) e ∙ puts_one.there (without bag s (id_of d)) t f) in
        let ids : id_of f ≡ id_of d = update_keeps_id chunks bag r.filter r.update s d t f (subst BringsWhole r.is brings) (ap (doing chunks bag) (sym r.is) ∙ e) in (
          (stands s _ d r.hit.there, (whole_decides f).1 whole, ids),
          λ ne among. ((whole_decides f).1 whole, sym (held_by t among (id_of f)) ∙ ⊎_elim (λ same. absurd (ne same)) (λ free. free) r.free),
        )

pub commands_act : CommandsAct
commands_act own shards chunks command filed brings = by_doing own shards filed chunks command brings (doing chunks (bag_over (λ s. documents_of (own s)) shards) command) refl
