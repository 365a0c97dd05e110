use Rattle.std.proofs.Common.{sym, ap, ◌∙◌}
use Rattle.resh_bag.specs.Parts.{targets}
use Rattle.resh_router.specs.Targets.{shards_of, target_of}
use Rattle.resh_asking.proofs.answers.serve.Goals as goal

pub come-requires-clause-goal : goal.come-requires-clause-goal
come-requires-clause-goal c = record {
  is = ap (λ m. target_of m c.args.command.now) (sym c.known_map-map.ensures) ∙ c.target-goal.ensures.target;
  are = c.as_slice.ensures.value ∙ c.in_ok-shards.ensures ∙ ap (λ m. shards_of m c.target-goal.result) c.known_map-map.ensures;
}

pub come-requires-clause-first : goal.come-requires-clause-first
come-requires-clause-first c =
    ap (λ m. targets m c.args.command.now) (sym c.known_map-map.ensures) ∙ sym c.target-goal.ensures.shards ∙ sym (c.as_slice.ensures.value ∙ c.in_ok-shards.ensures)
