use Rattle.std.proofs.Common.{◌≡◌, ◌<◌, take}
use Rattle.resh_value.specs.Limits.{end_of_places}
use Rattle.resh_router.specs.Merging.{count_of_all}
use Rattle.resh_router.proofs.merge.sum_of.Given as goal

abbrev pub invariant-loop-reply : goal.invariant-loop-reply
invariant-loop-reply l = record { sum : l.sum ≡ count_of_all (take l.reply-index l.parts); below : l.sum < end_of_places }
