-- What the JSON of a generated filter and of a generated update is read as.
use Rattle.std.proofs.Common.{◌≡◌, ◌<◌, ◌^◌, ℕ, pos, true, nat_lt, List, codes, Result, Ok, Err, refl, ap, sym, ◌∙◌, arith}
use Rattle.std.proofs.lemmas.Bool.{lt-ltb}
use Rattle.serde_json.specs.Data.{Data}
use Rattle.resh_value.specs.declared.value.Value.{Value}
use Rattle.resh_value.specs.declared.value.Value.TheVariants.{Int}
use Rattle.resh_value.specs.declared.value.Value as X
use Rattle.resh_filter.specs.Filters.{walked_filter}
use Rattle.resh_ops.specs.Reading.{walked_update}
use Rattle.resh_ops.specs.declared.operator.Action.{Action}
use Rattle.resh_ops.specs.declared.operator.Operator.TheVariants.{Inc, Set}
use Rattle.resh_gen.specs.Commands.{filter, update}
use Rattle.resh_gen.specs.Json.{filter_data, sum_data, put_data}

small : (n : ℕ) → n < 2 ^ 32 → nat_lt n (2 ^ 63) ≡ true
small n h = lt-ltb n (2 ^ 63) (omega (arith, h))

filter_read : (id x y : ℕ) → nat_lt id (2 ^ 63) ≡ true → nat_lt x (2 ^ 63) ≡ true → nat_lt y (2 ^ 63) ≡ true
    → walked_filter (filter_data id x y) ≡ Ok (filter id x y)
filter_read id x y i h k = rw (i, h, k) refl

sum_read : walked_update sum_data ≡ Ok (update (Inc (pos 1)) (codes "n"))
unfolding X.out-Value denote.Hole.Carrier.out
sum_read = refl

put_read : (z : ℕ) → nat_lt z (2 ^ 63) ≡ true → walked_update (put_data z) ≡ Ok (update (Set (Int (pos z))) (codes "y"))
put_read z h = rw h refl

-- what was read, or another where nothing was
abbrev ok_or : {A E : Type 0} → A → Result A E → A
ok_or other (Ok x) = x
ok_or other (Err e) = other

pub filter_given : (id x y : ℕ) (json : Data) (f : List (List ℕ × Value)) → id < 2 ^ 32 → x < 2 ^ 32 → y < 2 ^ 32
    → json ≡ filter_data id x y → walked_filter json ≡ Ok f → f ≡ filter id x y
filter_given id x y json f i h k is read =
    ap (ok_or f) (sym read ∙ ap walked_filter is ∙ filter_read id x y (small id i) (small x h) (small y k))

pub sum_given : (json : Data) (u : List Action) → json ≡ sum_data → walked_update json ≡ Ok u
    → u ≡ update (Inc (pos 1)) (codes "n")
sum_given json u is read = ap (ok_or u) (sym read ∙ ap walked_update is ∙ sum_read)

pub put_given : (z : ℕ) (json : Data) (u : List Action) → z < 2 ^ 32 → json ≡ put_data z → walked_update json ≡ Ok u
    → u ≡ update (Set (Int (pos z))) (codes "y")
put_given z json u h is read = ap (ok_or u) (sym read ∙ ap walked_update is ∙ put_read z (small z h))
