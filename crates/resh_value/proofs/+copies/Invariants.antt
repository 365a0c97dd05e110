use Rattle.std.proofs.Common.{◌≡◌, take}
use Rattle.resh_value.proofs.+copies.Given as goal

abbrev pub invariant-copy::Fields+Value::copy-loop-name : goal.invariant-copy::Fields+Value::copy-loop-name
invariant-copy::Fields+Value::copy-loop-name l = l.copies.items ≡ take l.name-index l.pairs

abbrev pub invariant-copy::copy_items-loop-item : goal.invariant-copy::copy_items-loop-item
invariant-copy::copy_items-loop-item l = l.copies.items ≡ take l.item-index l.items
