-- What one more write adds to what is sent.
use Rattle.std.proofs.Common.{◌≡◌, ℕ, ◌+◌, ◌-◌, ◌≤◌, List, ◌++◌, length, take, drop, sym, ap, ◌∙◌, subst, arith, length-take, length-drop}
use Rattle.std.proofs.Math.Seq.{take-add}
use Rattle.std.proofs.lemmas.List.{take_rest}
use Rattle.std.specs.declared.option.Option.{Option}
use Rattle.std.specs.Io.KnownBytes.{Appends}
use Rattle.std.proofs.KnownBytes.{Appends-trans}

-- the bytes behind those that are sent
abbrev pub unsent : List ℕ → ℕ → List ℕ
unsent bytes sent = take (length bytes - sent) (drop sent bytes)

pub length-unsent : (bytes : List ℕ) (sent n : ℕ) → sent ≤ length bytes → n ≤ length (unsent bytes sent) → sent + n ≤ length bytes
length-unsent bytes sent n before fits =
    omega (arith, length-take (length bytes - sent) (drop sent bytes), length-drop sent bytes)

pub Appends-more : (old mid new : Option (List ℕ)) (bytes : List ℕ) (sent n : ℕ)
    → Appends old mid (take sent bytes) → Appends mid new (take n (unsent bytes sent)) → Appends old new (take (sent + n) bytes)
Appends-more old mid new bytes sent n before more =
    let front : take sent bytes ++ take n (unsent bytes sent) ≡ take (sent + n) bytes =
    ap (λ l. take sent bytes ++ take n l) (take_rest bytes sent) ∙ sym (take-add sent n bytes) in
    subst (Appends old new) front (Appends-trans old mid new _ _ before more)
