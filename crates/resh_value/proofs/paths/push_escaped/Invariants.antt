use Rattle.std.proofs.Common.{◌≡◌, ◌++◌, flat_map, string_bytes}
use Rattle.std.specs.Str.Iter.{chars_rest}
use Rattle.resh_value.specs.Paths.{pointer_escape}
use Rattle.resh_value.proofs.paths.push_escaped.Given as goal

abbrev pub invariant-loop-c : goal.invariant-loop-c
invariant-loop-c l =
    string_bytes l.text ++ flat_map pointer_escape (chars_rest l.c-iterator) ≡ string_bytes l.initial.text ++ flat_map pointer_escape l.name
