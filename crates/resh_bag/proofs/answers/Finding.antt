-- What a command that does something has found in the bag.
use Rattle.std.proofs.Common.{◌≡◌, ◌≢◌, ℕ, Bool, true, false, cond, List, Option, Some, None, Result, Ok, Err, eqb, not, ◌&&◌, ◌⊎◌, inl, inr, refl, sym, ap, ◌∙◌}
use Rattle.std.proofs.lemmas.Bool.{eqb-true}
use Rattle.std.proofs.lemmas.Option.{cond_some}
use Rattle.std.specs.Option.{is_some}
use Rattle.resh_chunks.specs.Chunks.{Chunks, owner_of}
use Rattle.resh_filter.specs.Filters.{matches}
use Rattle.resh_ops.specs.Updates.{updated}
use Rattle.resh_ops.specs.declared.faults.ChangeFault.{ChangeFault}
use Rattle.resh_ops.specs.declared.operator.Action.{Action}
use Rattle.resh_command.specs.declared.command.Command.{Command}
use Rattle.resh_command.specs.declared.command.Command.TheVariants.{Insert, Update, Delete, Find, Count, Abort}
use Rattle.resh_command.specs.declared.reply.Reply.{Reply}
use Rattle.resh_command.specs.declared.reply.Reply.TheVariants.{Duplicate}
use Rattle.resh_value.specs.Lookup.{id_of}
use Rattle.resh_bag.specs.Bag.{Bag, Document, held}
use Rattle.resh_bag.specs.Answer.{Doing, adds, replaces, removes, says, doing, insert_doing, result_doing, on_hit, has_key, hit, matching, with_key, text_limit}
use Rattle.resh_bag.specs.Findings.{IsHit, IsAdded, IsReplaced, IsRemoved, DoingsFind}

-- where more is done than a reply is said, the filter has its key and hits
module _ (goal : Doing) (works : (reply : Reply) → says reply ≢ goal) where
  keyed : (b : Bool) (one : Doing) (reply : Reply) → cond b one (says reply) ≡ goal → one ≡ goal
  keyed true one reply is = is
  keyed false one reply is = absurd (works reply is)

  on_found : (f : Document → Doing) (found : Option Document) → on_hit f found ≡ goal → (d : Document) × (found ≡ Some d) × (f d ≡ goal)
  on_found f None is = absurd (works _ is)
  on_found f (Some d) is = (d, refl, is)

  hits : (chunks : Chunks) (filter : Document) (f : Document → Doing) (found : Option Document) → with_key chunks filter (on_hit f found) ≡ goal → (d : Document) × (found ≡ Some d) × (f d ≡ goal)
  hits chunks filter f found is = on_found f found (keyed (has_key chunks filter) (on_hit f found) _ is)

matched : (filter : Document) (found : Option Document) (d : Document) → matching filter found ≡ Some d → (found ≡ Some d) × (matches filter d ≡ true)
matched filter None d is = absurd (cc)
matched filter (Some e) d is = let w = cond_some (matches filter e) e d is in (ap Some w.1, ap (matches filter) (sym w.1) ∙ w.0)

module _ (chunks : Chunks) (bag : Bag) where
  is_hit : (filter d : Document) (shard : ℕ) → owner_of chunks filter ≡ shard → hit chunks bag filter ≡ Some d → IsHit chunks bag filter shard d
  is_hit filter d shard owner is =
      let w = matched filter (held bag (owner_of chunks filter) (id_of filter)) d is in
      record { owner = sym owner; there = ap (λ s. held bag s (id_of filter)) (sym owner) ∙ w.0; passes = w.1 }

  abbrev insert : Document → Option Document → Doing
  insert d found = insert_doing (owner_of chunks d) d found

  abbrev remove : Document → Document → Doing
  remove f d = removes (owner_of chunks f) d

  abbrev change : Document → List Action → Document → Doing
  change f update d = result_doing chunks bag (owner_of chunks f) d (updated text_limit update d)

  -- a result that comes to its owner
  abbrev Comes : ℕ → Document → Result Document ChangeFault → ℕ → Document → ℕ → Document → Type 0
  Comes shard d made from old target result = (made ≡ Ok result) × (shard ≡ from) × (d ≡ old) × (target ≡ owner_of chunks result) × ((target ≡ from) ⊎ (held bag target (id_of result) ≡ None))

  comes : (shard : ℕ) (d : Document) (made : Result Document ChangeFault) (from : ℕ) (old : Document) (target : ℕ) (result : Document)
      → result_doing chunks bag shard d made ≡ replaces from old target result → Comes shard d made from old target result
  comes shard d (Err fault) from old target result is = absurd (cc)
  comes shard d (Ok e) from old target result is = by (eqb (owner_of chunks e) shard) (held bag (owner_of chunks e) (id_of e)) refl refl is
    where
      by : (a : Bool) (o : Option Document) → eqb (owner_of chunks e) shard ≡ a → held bag (owner_of chunks e) (id_of e) ≡ o
          → cond (not a && is_some o) (says Duplicate) (replaces shard d (owner_of chunks e) e) ≡ replaces from old target result → Comes shard d (Ok e) from old target result
      by true o same there is =
          let stays : owner_of chunks e ≡ shard = eqb-true _ _ same in
          let one : e ≡ result = cc in
          let at : target ≡ owner_of chunks e = cc in
          (ap Ok one, (cc), (cc), at ∙ ap (owner_of chunks) one, inl (cc))
      by false None same there is =
          let one : e ≡ result = cc in
          let at : target ≡ owner_of chunks e = cc in
          (ap Ok one, (cc), (cc), at ∙ ap (owner_of chunks) one, inr (sym (λ i. held bag (sym at i) (id_of (one i))) ∙ there))
      by false (Some other) same there is = absurd (cc)

  -- a result replaces, or a reply is said
  never : (goal : Doing) → ((reply : Reply) → says reply ≢ goal) → ((shard : ℕ) (d : Document) (target : ℕ) (e : Document) → replaces shard d target e ≢ goal)
      → (shard : ℕ) (d : Document) (made : Result Document ChangeFault) → result_doing chunks bag shard d made ≢ goal
  never goal works other shard d (Err fault) is = works _ is
  never goal works other shard d (Ok e) is = by (not (eqb (owner_of chunks e) shard) && is_some (held bag (owner_of chunks e) (id_of e))) is
    where
      by : (b : Bool) → cond b (says Duplicate) (replaces shard d (owner_of chunks e) e) ≡ goal → ⊥
      by true is = works _ is
      by false is = other _ _ _ _ is

  added : (command : Command) (shard : ℕ) (d : Document) → doing chunks bag command ≡ adds shard d → IsAdded chunks bag command shard d
  added (Insert e) shard d is = by (held bag (owner_of chunks e) (id_of e)) refl is
    where
      by : (o : Option Document) → held bag (owner_of chunks e) (id_of e) ≡ o → insert e o ≡ adds shard d → IsAdded chunks bag (Insert e) shard d
      by None none is =
          let one : e ≡ d = cc in
          let at : owner_of chunks e ≡ shard = cc in
          record { is = ap Insert one; owner = sym at ∙ ap (owner_of chunks) one; free = sym (λ i. held bag (at i) (id_of (one i))) ∙ none }
      by (Some other) there is = absurd (cc)
  added (Update f update) shard d is =
      let w = hits (adds shard d) (λ reply e. cc) chunks f (change f update) (hit chunks bag f) is in
      absurd (never (adds shard d) (λ reply e. cc) (λ s o t r e. cc) (owner_of chunks f) w.0 (updated text_limit update w.0) w.2)
  added (Delete f) shard d is =
      let w = hits (adds shard d) (λ reply e. cc) chunks f (remove f) (hit chunks bag f) is in
      absurd (let e : removes (owner_of chunks f) w.0 ≡ adds shard d = w.2 in cc)
  added (Find f) shard d is = absurd (cc)
  added (Count f) shard d is = absurd (cc)
  added Abort shard d is = absurd (cc)

  removed : (command : Command) (shard : ℕ) (d : Document) → doing chunks bag command ≡ removes shard d → IsRemoved chunks bag command shard d
  removed (Insert e) shard d is = absurd (by (held bag (owner_of chunks e) (id_of e)) is)
    where
      by : (o : Option Document) → insert e o ≡ removes shard d → ⊥
      by None is = cc
      by (Some other) is = cc
  removed (Update f update) shard d is =
      let w = hits (removes shard d) (λ reply e. cc) chunks f (change f update) (hit chunks bag f) is in
      absurd (never (removes shard d) (λ reply e. cc) (λ s o t r e. cc) (owner_of chunks f) w.0 (updated text_limit update w.0) w.2)
  removed (Delete f) shard d is =
      let w = hits (removes shard d) (λ reply e. cc) chunks f (remove f) (hit chunks bag f) is in
      let e : removes (owner_of chunks f) w.0 ≡ removes shard d = w.2 in
      let at : owner_of chunks f ≡ shard = cc in
      let one : w.0 ≡ d = cc in
      record { filter = f; is = refl; hit = is_hit f d shard at (w.1 ∙ ap Some one) }
  removed (Find f) shard d is = absurd (cc)
  removed (Count f) shard d is = absurd (cc)
  removed Abort shard d is = absurd (cc)

  replaced : (command : Command) (shard : ℕ) (d : Document) (target : ℕ) (result : Document)
      → doing chunks bag command ≡ replaces shard d target result → IsReplaced chunks bag command shard d target result
  replaced (Insert e) shard d target result is = absurd (by (held bag (owner_of chunks e) (id_of e)) is)
    where
      by : (o : Option Document) → insert e o ≡ replaces shard d target result → ⊥
      by None is = cc
      by (Some other) is = cc
  replaced (Update f update) shard d target result is =
      let w = hits (replaces shard d target result) (λ reply e. cc) chunks f (change f update) (hit chunks bag f) is in
      let r = comes (owner_of chunks f) w.0 (updated text_limit update w.0) shard d target result w.2 in
      record {
        filter = f;
        update = update;
        is = refl;
        hit = is_hit f d shard r.1 (w.1 ∙ ap Some r.2);
        made = ap (updated text_limit update) (sym r.2) ∙ r.0;
        owner = r.3;
        free = r.4;
      }
  replaced (Delete f) shard d target result is =
      let w = hits (replaces shard d target result) (λ reply e. cc) chunks f (remove f) (hit chunks bag f) is in
      absurd (let e : removes (owner_of chunks f) w.0 ≡ replaces shard d target result = w.2 in cc)
  replaced (Find f) shard d target result is = absurd (cc)
  replaced (Count f) shard d target result is = absurd (cc)
  replaced Abort shard d target result is = absurd (cc)

pub doings_find : DoingsFind
doings_find = record { added = added; replaced = replaced; removed = removed }
