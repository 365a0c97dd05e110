-- What operators on numbers write.
use Rattle.std.proofs.Common.{◌≡◌, ℤ, Bool, true, false, cond, refl, ap, ◌∙◌, arith}
use Rattle.std.proofs.lemmas.Int.{ints}
use Rattle.std.specs.Prelude.{◌+ℤ◌, ◌*ℤ◌}
use Rattle.resh_value.specs.declared.value.Value.TheVariants.{Int, outs-Int}
use Rattle.resh_ops.specs.Operators.{is_i64, on_number, writes_number}
use Rattle.resh_ops.specs.Laws.{HasWidth, StaysInWidth}
use Rattle.resh_ops.specs.declared.doing.Doing.TheVariants.{Writes, Fails}
use Rattle.resh_ops.specs.declared.doing.Refusal.TheVariants.{OutOfRange}
use Rattle.resh_ops.specs.declared.operator.Operator.TheVariants.{Inc, Mul}

passes : (n : ℤ) → HasWidth n → is_i64 n ≡ true
passes n h = grind (arith, ints)

has_width : (n : ℤ) → is_i64 n ≡ true → HasWidth n
has_width n h = record { least = grind (arith, ints); below = grind (arith, ints) }

fails : (n : ℤ) → (HasWidth n → ⊥) → (b : Bool) → is_i64 n ≡ b → b ≡ false
fails n h true e = absurd (h (has_width n e))
fails n h false e = refl

written_number : (n : ℤ) → HasWidth n → writes_number n ≡ Writes (Int n)
written_number n h = ap (λ b. cond b (Writes (Int n)) (Fails OutOfRange)) (passes n h)

refused_number : (n : ℤ) → (HasWidth n → ⊥) → writes_number n ≡ Fails OutOfRange
refused_number n h = ap (λ b. cond b (Writes (Int n)) (Fails OutOfRange)) (fails n h (is_i64 n) refl)

pub sums_stay : StaysInWidth Inc ◌+ℤ◌
sums_stay = record {
  written = λ m n h. ap (on_number (λ k. writes_number (k +ℤ n))) (outs-Int m) ∙ written_number (m +ℤ n) h;
  refused = λ m n h. ap (on_number (λ k. writes_number (k +ℤ n))) (outs-Int m) ∙ refused_number (m +ℤ n) h;
}

pub products_stay : StaysInWidth Mul ◌*ℤ◌
products_stay = record {
  written = λ m n h. ap (on_number (λ k. writes_number (k *ℤ n))) (outs-Int m) ∙ written_number (m *ℤ n) h;
  refused = λ m n h. ap (on_number (λ k. writes_number (k *ℤ n))) (outs-Int m) ∙ refused_number (m *ℤ n) h;
}
