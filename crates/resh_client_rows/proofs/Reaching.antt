-- The shards to which a command goes are shards of the map, and one that is no abort goes to one.
use Rattle.std.proofs.Common.{◌≡◌, ◌<◌, ◌==◌, ◌||◌, ◌+◌, ℕ, zero, suc, Bool, true, false, cond, List, [], ◌∷◌, ◌++◌, None, refl, sym, ap, subst, ◌∙◌, arith}
use Rattle.std.proofs.lemmas.Bool.{eqb-true}
use Rattle.std.proofs.lemmas.List.Folds.{list_any-append}
use Rattle.std.specs.List.{range_with_len}
use Rattle.resh_chunks.specs.Chunks.{Chunks, chunk_fault, owner_of}
use Rattle.resh_command.specs.declared.command.Command.{Command}
use Rattle.resh_command.specs.declared.command.Command.TheVariants.{Insert, Update, Delete, Find, Count, Abort}
use Rattle.resh_bag.specs.Answer.{Doing, doing, has_key}
use Rattle.resh_bag.specs.Bag.{Bag, Document}
use Rattle.resh_bag.specs.Parts.{all_shards, has_pattern, is_among, targets}
use Rattle.resh_bag.proofs.answers.Doings.{each_doing}
use Rattle.resh_bag.proofs.shards.ByShard.{among_range, same_number}
use Rattle.resh_bag.proofs.shards.Owners.{owner_there}
use Rattle.resh_events.specs.Targets.{leaves_to}
use Rattle.resh_model.specs.Orders.{is_abort}
use Rattle.resh_invariant.proofs.Ones.{never}

-- one of some shards
abbrev pub Among : List ℕ → ℕ → Type 0
Among ss s = is_among ss s ≡ true

pub among_first : (s : ℕ) (ss : List ℕ) → Among (s ∷ ss) s
among_first s ss = ap (λ b. b || is_among ss s) (same_number s)

pub among_left : (ss us : List ℕ) (t : ℕ) → Among ss t → Among (ss ++ us) t
among_left ss us t h = list_any-append (λ s. s == t) ss us ∙ ap (λ b. b || is_among us t) h

pub among_right : (ss us : List ℕ) (t : ℕ) → Among us t → Among (ss ++ us) t
among_right ss us t h = list_any-append (λ s. s == t) ss us ∙ by (is_among ss t)
  where
    by : (b : Bool) → (b || is_among us t) ≡ true
    by true = refl
    by false = h

pub only : (n s : ℕ) → Among (n ∷ []) s → n ≡ s
only n s h = by (n == s) refl h
  where
    by : (b : Bool) → (n == s) ≡ b → (b || false) ≡ true → n ≡ s
    by true e h = eqb-true n s e
    by false e h = never (sym h)

range_inside : (from n t : ℕ) → Among (range_with_len from n) t → t < from + n
range_inside from zero t h = never (sym h)
range_inside from (suc n) t h = by (from == t) refl h (λ l. range_inside (from + 1) n t l)
  where
    by : (b : Bool) → (from == t) ≡ b → (b || is_among (range_with_len (from + 1) n) t) ≡ true → (Among (range_with_len (from + 1) n) t → t < from + 1 + n) → t < from + suc n
    by true e h rest = let same : from ≡ t = eqb-true from t e in omega (arith, same)
    by false e h rest = let lt : t < from + 1 + n = rest h in omega (arith, lt)

module _ (chunks : Chunks) (whole : chunk_fault chunks ≡ None) where
  some_there : 0 < chunks.shards
  some_there = let lt : owner_of chunks [] < chunks.shards = owner_there chunks whole [] in omega (arith, lt)

  one_inside : (n s : ℕ) → n < chunks.shards → Among (n ∷ []) s → s < chunks.shards
  one_inside n s lt h = subst (λ k. k < chunks.shards) (only n s h) lt

  keyed : (b : Bool) (f : Document) (s : ℕ) → Among (cond b (owner_of chunks f ∷ []) (0 ∷ [])) s → s < chunks.shards
  keyed true f s h = one_inside (owner_of chunks f) s (owner_there chunks whole f) h
  keyed false f s h = one_inside 0 s some_there h

  read : (b : Bool) (f : Document) (s : ℕ) → Among (cond b (owner_of chunks f ∷ []) (all_shards chunks)) s → s < chunks.shards
  read true f s h = one_inside (owner_of chunks f) s (owner_there chunks whole f) h
  read false f s h = let lt : s < 0 + chunks.shards = range_inside 0 chunks.shards s h in omega (arith, lt)

  pub inside : (command : Command) (s : ℕ) → Among (targets chunks command) s → s < chunks.shards
  inside (Insert d) s h = one_inside (owner_of chunks d) s (owner_there chunks whole d) h
  inside (Update f u) s h = keyed (has_key chunks f) f s h
  inside (Delete f) s h = keyed (has_key chunks f) f s h
  inside (Find f) s h = read (has_pattern chunks f) f s h
  inside (Count f) s h = read (has_pattern chunks f) f s h
  inside Abort s h = never (sym h)

  left : (b : Bool) (e : Document) (s : ℕ) → Among (cond b [] (owner_of chunks e ∷ [])) s → s < chunks.shards
  left true e s h = never (sym h)
  left false e s h = one_inside (owner_of chunks e) s (owner_there chunks whole e) h

  -- and so is the owner of a result
  pub leaves_inside : (bag : Bag) (command : Command) (s : ℕ) → Among (leaves_to (doing chunks bag command)) s → s < chunks.shards
  leaves_inside bag =
      each_doing chunks bag (λ (x : Doing). (s : ℕ) → Among (leaves_to x) s → s < chunks.shards)
      (λ d s h. never (sym h)) (λ n d e s h. left (owner_of chunks e == n) e s h) (λ n d s h. never (sym h)) (λ reply other s h. never (sym h))

  one_keyed : (b : Bool) (f : Document) → (s : ℕ) × Among (cond b (owner_of chunks f ∷ []) (0 ∷ [])) s
  one_keyed true f = (owner_of chunks f, among_first (owner_of chunks f) [])
  one_keyed false f = (0, among_first 0 [])

  one_read : (b : Bool) (f : Document) → (s : ℕ) × Among (cond b (owner_of chunks f ∷ []) (all_shards chunks)) s
  one_read true f = (owner_of chunks f, among_first (owner_of chunks f) [])
  one_read false f = (0, among_range 0 chunks.shards 0 (omega arith) (let lt : 0 < chunks.shards = some_there in omega (arith, lt)))

  pub some_target : (command : Command) → is_abort command ≡ false → (s : ℕ) × Among (targets chunks command) s
  some_target (Insert d) asks = (owner_of chunks d, among_first (owner_of chunks d) [])
  some_target (Update f u) asks = one_keyed (has_key chunks f) f
  some_target (Delete f) asks = one_keyed (has_key chunks f) f
  some_target (Find f) asks = one_read (has_pattern chunks f) f
  some_target (Count f) asks = one_read (has_pattern chunks f) f
  some_target Abort asks = never asks
