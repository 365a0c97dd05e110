-- What a command does is told by what its targets hold.
use Rattle.std.proofs.Common.{◌≡◌, ◌≢◌, ◌==◌, ◌&&◌, ◌||◌, ⊎_elim, not, ℕ, Bool, true, false, cond, List, [], ◌∷◌, ◌++◌, filter, length, take, Option, Some, None, is_some, unwrap_or, Result, Ok, Err, refl, sym, ap, subst, ◌∙◌, arith, Less, Equal, Greater}
use Rattle.std.proofs.lemmas.Bool.Decides.{eqb_tells}
use Rattle.std.proofs.lemmas.List.Folds.{list_any-append}
use Rattle.std.specs.List.{list_all}
use Rattle.std.specs.Ordering.{is_eq}
use Rattle.std.specs.declared.cmp.Ordering.{Ordering}
use Rattle.resh_value.specs.Lookup.{field_of, id_of, value_under}
use Rattle.resh_value.specs.Names.{name_cmp}
use Rattle.resh_value.specs.Order.{compare_of}
use Rattle.resh_value.specs.OrderLaws.{compare_same}
use Rattle.resh_value.specs.declared.value.Value.{Value}
use Rattle.resh_value.specs.declared.value.Value.TheVariants.{Null}
use Rattle.resh_value.proofs.Names.{same_from_equal}
use Rattle.resh_chunks.specs.Chunks.{Chunks, chunk_fault, owner, owner_of}
use Rattle.resh_chunks.specs.Pattern.{key_of}
use Rattle.resh_filter.specs.Filters.{agrees, matches}
use Rattle.resh_ops.specs.Updates.{updated}
use Rattle.resh_ops.specs.declared.faults.ChangeFault.{ChangeFault}
use Rattle.resh_ops.specs.declared.operator.Action.{Action}
use Rattle.resh_command.specs.declared.command.Command.{Command}
use Rattle.resh_command.specs.declared.command.Command.TheVariants.{Insert, Update, Delete, Find, Count, Abort}
use Rattle.resh_command.specs.declared.reply.Reply.TheVariants.{Duplicate, NoKey, Found, Counted}
use Rattle.resh_bag.specs.Answer.{Doing, replaces, removes, says, doing, has_key, hit, matching, on_hit, result_doing, with_key, insert_doing, text_limit}
use Rattle.resh_bag.specs.Bag.{Bag, Document, documents, held, IsPlaced}
use Rattle.resh_bag.specs.PartLaws.{AnsweredByTargets}
use Rattle.resh_bag.specs.Parts.{all_shards, all_targets, bag_on, has_pattern, is_among, places_of, targets}
use Rattle.resh_bag.proofs.shards.ByShard.{among_range, held_among, held_on, on_placed, same_matches, same_number}
use Rattle.resh_bag.proofs.shards.Owners.{owner_there}

both : (a b : Bool) → (a && b) ≡ true → (a ≡ true) × (b ≡ true)
both true b h = (refl, h)
both false b h = cc

abbrev Among : List ℕ → ℕ → Type 0
Among ss t = is_among ss t ≡ true

among_first : (s : ℕ) (ss : List ℕ) → Among (s ∷ ss) s
among_first s ss = ap (λ b. b || is_among ss s) (same_number s)

among_later : (s : ℕ) (ss : List ℕ) (t : ℕ) → Among ss t → Among (s ∷ ss) t
among_later s ss t h = by (s == t)
  where
    by : (b : Bool) → (b || is_among ss t) ≡ true
    by true = refl
    by false = h

among_left : (ss us : List ℕ) (t : ℕ) → Among ss t → Among (ss ++ us) t
among_left ss us t h = list_any-append (λ s. s == t) ss us ∙ ap (λ b. b || is_among us t) h

among_right : (ss us : List ℕ) (t : ℕ) → Among us t → Among (ss ++ us) t
among_right ss us t h = list_any-append (λ s. s == t) ss us ∙ by (is_among ss t)
  where
    by : (b : Bool) → (b || is_among us t) ≡ true
    by true = refl
    by false = h

-- two bags that hold the same where it matters
module _ (chunks : Chunks) (a b : Bag) where
  insert_local : (d : Document) → held a (owner_of chunks d) (id_of d) ≡ held b (owner_of chunks d) (id_of d) → doing chunks a (Insert d) ≡ doing chunks b (Insert d)
  insert_local d same = ap (insert_doing (owner_of chunks d) d) same

  -- an update is decided too by what the owner of its result holds, where that is another shard
  update_local : (f : Document) (u : List Action) → held a (owner_of chunks f) (id_of f) ≡ held b (owner_of chunks f) (id_of f)
      → ((d e : Document) → hit chunks b f ≡ Some d → updated text_limit u d ≡ Ok e → owner_of chunks e ≢ owner_of chunks f → held a (owner_of chunks e) (id_of e) ≡ held b (owner_of chunks e) (id_of e))
      → doing chunks a (Update f u) ≡ doing chunks b (Update f u)
  update_local f u same other =
      ap (λ o. with_key chunks f (on_hit (λ d. result_doing chunks a (owner_of chunks f) d (updated text_limit u d)) (matching f o))) same
      ∙ ap (with_key chunks f) (by (hit chunks b f) (λ d e. other d e))
    where
      result_by : (d : Document) (r : Result Document ChangeFault) → ((e : Document) → r ≡ Ok e → owner_of chunks e ≢ owner_of chunks f → held a (owner_of chunks e) (id_of e) ≡ held b (owner_of chunks e) (id_of e))
          → result_doing chunks a (owner_of chunks f) d r ≡ result_doing chunks b (owner_of chunks f) d r
      result_by d (Err fault) h = refl
      result_by d (Ok e) h = at (owner_of chunks e == owner_of chunks f) refl
        where
          at : (c : Bool) → (owner_of chunks e == owner_of chunks f) ≡ c
              → cond (not (owner_of chunks e == owner_of chunks f) && is_some (held a (owner_of chunks e) (id_of e))) (says Duplicate) (replaces (owner_of chunks f) d (owner_of chunks e) e)
              ≡ cond (not (owner_of chunks e == owner_of chunks f) && is_some (held b (owner_of chunks e) (id_of e))) (says Duplicate) (replaces (owner_of chunks f) d (owner_of chunks e) e)
          at true t =
              ap (λ c. cond (not c && is_some (held a (owner_of chunks e) (id_of e))) (says Duplicate) (replaces (owner_of chunks f) d (owner_of chunks e) e)) t
              ∙ sym (ap (λ c. cond (not c && is_some (held b (owner_of chunks e) (id_of e))) (says Duplicate) (replaces (owner_of chunks f) d (owner_of chunks e) e)) t)
          at false t =
              ap (λ o. cond (not (owner_of chunks e == owner_of chunks f) && is_some o) (says Duplicate) (replaces (owner_of chunks f) d (owner_of chunks e) e))
              (h e refl (λ same. apart same t))
            where
              apart : owner_of chunks e ≡ owner_of chunks f → (owner_of chunks e == owner_of chunks f) ≡ false → ⊥
              apart same off = let on : true ≡ false = sym (ap (λ k. k == owner_of chunks f) same ∙ same_number (owner_of chunks f)) ∙ off in cc

      by : (o : Option Document) → ((d e : Document) → o ≡ Some d → updated text_limit u d ≡ Ok e → owner_of chunks e ≢ owner_of chunks f → held a (owner_of chunks e) (id_of e) ≡ held b (owner_of chunks e) (id_of e))
          → on_hit (λ d. result_doing chunks a (owner_of chunks f) d (updated text_limit u d)) o ≡ on_hit (λ d. result_doing chunks b (owner_of chunks f) d (updated text_limit u d)) o
      by None h = refl
      by (Some d) h = result_by d (updated text_limit u d) (λ e is ne. h d e refl is ne)

-- a match has each field of the filter
pub matched_field : (d : Document) (name : List ℕ) (f : Document) → matches f d ≡ true → is_some (field_of f name) ≡ true → value_under d name ≡ value_under f name
matched_field d name [] m h = cc
matched_field d name (g ∷ gs) m h =
    let parts = both (agrees d g) (list_all (agrees d) gs) m in
    by (name_cmp name g.0) refl parts.0 h (matched_field d name gs parts.1)
  where
    tied : (r : Ordering) → is_eq r ≡ true → r ≡ Equal
    tied Less e = cc
    tied Equal e = refl
    tied Greater e = cc

    here : name_cmp name g.0 ≡ Equal → agrees d g ≡ true → value_under d name ≡ g.1
    here e a = ap (value_under d) (same_from_equal name g.0 e) ∙ sym (compare_same g.1 (value_under d g.0) (tied (compare_of g.1 (value_under d g.0)) a))

    by : (r : Ordering) → name_cmp name g.0 ≡ r → agrees d g ≡ true → is_some (field_of (g ∷ gs) name) ≡ true → (is_some (field_of gs name) ≡ true → value_under d name ≡ value_under gs name) → value_under d name ≡ value_under (g ∷ gs) name
    by Equal e a h rest = here e a ∙ sym (ap (λ o. unwrap_or (cond (is_eq o) (Some g.1) (field_of gs name)) Null) e)
    by Less e a h rest = rest (sym (ap (λ o. is_some (cond (is_eq o) (Some g.1) (field_of gs name))) e) ∙ h) ∙ sym (ap (λ o. unwrap_or (cond (is_eq o) (Some g.1) (field_of gs name)) Null) e)
    by Greater e a h rest = rest (sym (ap (λ o. is_some (cond (is_eq o) (Some g.1) (field_of gs name))) e) ∙ h) ∙ sym (ap (λ o. unwrap_or (cond (is_eq o) (Some g.1) (field_of gs name)) Null) e)

-- so it is on the owner of a filter that has the whole pattern
pub matched_owner : (chunks : Chunks) (f d : Document) → matches f d ≡ true → has_pattern chunks f ≡ true → owner_of chunks d ≡ owner_of chunks f
matched_owner chunks f d m all = ap (owner chunks) (keys chunks.pattern all)
  where
    keys : (pattern : List (List ℕ)) → list_all (λ name. is_some (field_of f name)) pattern ≡ true → key_of pattern d ≡ key_of pattern f
    keys [] h = refl
    keys (name ∷ names) h =
        let parts = both (is_some (field_of f name)) (list_all (λ n. is_some (field_of f n)) names) h in
        let first = matched_field d name f m parts.0 in
        let rest = keys names parts.1 in
        λ i. first i ∷ rest i

-- what an update does where only the shard of its key is seen: its result's owner is one of its places then
module _ (chunks : Chunks) (a : Bag) (f : Document) (u : List Action) (key : has_key chunks f ≡ true) (alone : (t : ℕ) → owner_of chunks f ≢ t → (q : Value) → held a t q ≡ None) where
  seen_replaces : (d e : Document) → hit chunks a f ≡ Some d → updated text_limit u d ≡ Ok e → owner_of chunks e ≢ owner_of chunks f → doing chunks a (Update f u) ≡ replaces (owner_of chunks f) d (owner_of chunks e) e
  seen_replaces d e found made apart =
      ap (λ b. cond b (on_hit (λ x. result_doing chunks a (owner_of chunks f) x (updated text_limit u x)) (hit chunks a f)) (says NoKey)) key
      ∙ ap (on_hit (λ x. result_doing chunks a (owner_of chunks f) x (updated text_limit u x))) found
      ∙ ap (result_doing chunks a (owner_of chunks f) d) made
      ∙ ap (λ o. cond (not (owner_of chunks e == owner_of chunks f) && is_some o) (says Duplicate) (replaces (owner_of chunks f) d (owner_of chunks e) e)) (alone (owner_of chunks e) (λ x. apart (sym x)) (id_of e))
      ∙ by (not (owner_of chunks e == owner_of chunks f))
    where
      by : (b : Bool) → cond (b && false) (says Duplicate) (replaces (owner_of chunks f) d (owner_of chunks e) e) ≡ replaces (owner_of chunks f) d (owner_of chunks e) e
      by true = refl
      by false = refl

unequal : (s t : ℕ) → s ≢ t → (s == t) ≡ false
unequal s t ne = ⊎_elim (λ k. absurd (ne k.1)) (λ k. k.0) (eqb_tells s t)

module _ (chunks : Chunks) (bag : Bag) (placed : IsPlaced chunks bag) (whole : chunk_fault chunks ≡ None) (ss : List ℕ) where
  abbrev seen : Bag
  seen = bag_on chunks bag ss

  -- with what is held at each target, and for an update what is held by the owner of its result too
  abbrev HasTargets : Command → Type 0
  HasTargets k = (t : ℕ) → Among (all_targets chunks bag k) t → Among ss t

  at_target : (k : Command) → HasTargets k → (t : ℕ) → Among (targets chunks k) t → (q : Value) → held (bag_on chunks bag ss) t q ≡ held bag t q
  at_target k has t h q =
      held_among chunks bag placed ss t (has t (among_left (targets chunks k) (places_of (doing chunks (bag_on chunks bag (targets chunks k)) k)) t h)) q

  keyed : (x y : Doing) (f : Document) → (has_key chunks f ≡ true → x ≡ y) → with_key chunks f x ≡ with_key chunks f y
  keyed x y f h = by (has_key chunks f) refl
    where
      by : (b : Bool) → has_key chunks f ≡ b → with_key chunks f x ≡ with_key chunks f y
      by true e = ap (with_key chunks f) (h e)
      by false e = ap (λ b. cond b x (says NoKey)) e ∙ sym (ap (λ b. cond b y (says NoKey)) e)

  owner_among : (f : Document) → has_key chunks f ≡ true → Among (cond (has_key chunks f) (owner_of chunks f ∷ []) (0 ∷ [])) (owner_of chunks f)
  owner_among f e = subst (λ b. Among (cond b (owner_of chunks f ∷ []) (0 ∷ [])) (owner_of chunks f)) (sym e) (among_first (owner_of chunks f) [])

  matched_among : (f d : Document) → matches f d ≡ true → Among (cond (has_pattern chunks f) (owner_of chunks f ∷ []) (all_shards chunks)) (owner_of chunks d)
  matched_among f d m = by (has_pattern chunks f) refl
    where
      by : (b : Bool) → has_pattern chunks f ≡ b → Among (cond (has_pattern chunks f) (owner_of chunks f ∷ []) (all_shards chunks)) (owner_of chunks d)
      by true e =
          subst (λ b. Among (cond b (owner_of chunks f ∷ []) (all_shards chunks)) (owner_of chunks d)) (sym e)
          (subst (λ x. Among (owner_of chunks f ∷ []) x) (sym (matched_owner chunks f d m e)) (among_first (owner_of chunks f) []))
      by false e =
          subst (λ b. Among (cond b (owner_of chunks f ∷ []) (all_shards chunks)) (owner_of chunks d)) (sym e)
          (among_range 0 chunks.shards (owner_of chunks d) (omega arith) (let lt = owner_there chunks whole d in omega (arith, lt)))

  read_local : (k : Command) → HasTargets k → (f : Document) → targets chunks k ≡ cond (has_pattern chunks f) (owner_of chunks f ∷ []) (all_shards chunks)
      → filter (matches f) (documents seen) ≡ filter (matches f) (documents bag)
  read_local k has f is =
      same_matches chunks seen bag (on_placed chunks bag placed ss) placed (matches f)
      (λ d m. at_target k has (owner_of chunks d) (subst (λ ts. Among ts (owner_of chunks d)) (sym is) (matched_among f d m)) (id_of d))

  pub by_targets : (k : Command) → HasTargets k → doing chunks (bag_on chunks bag ss) k ≡ doing chunks bag k
  by_targets (Insert d) has = insert_local chunks seen bag d (at_target (Insert d) has (owner_of chunks d) (among_first (owner_of chunks d) []) (id_of d))
  by_targets (Delete f) has =
      keyed (on_hit (λ d. removes (owner_of chunks f) d) (hit chunks seen f)) (on_hit (λ d. removes (owner_of chunks f) d) (hit chunks bag f)) f
      (λ e. ap (λ o. on_hit (λ d. removes (owner_of chunks f) d) (matching f o)) (at_target (Delete f) has (owner_of chunks f) (owner_among f e) (id_of f)))
  by_targets (Update f u) has = by (has_key chunks f) refl
    where
      first : List ℕ
      first = cond (has_key chunks f) (owner_of chunks f ∷ []) (0 ∷ [])

      by : (b : Bool) → has_key chunks f ≡ b → doing chunks seen (Update f u) ≡ doing chunks bag (Update f u)
      by false e =
          ap (λ b. cond b (on_hit (λ d. result_doing chunks seen (owner_of chunks f) d (updated text_limit u d)) (hit chunks seen f)) (says NoKey)) e
          ∙ sym (ap (λ b. cond b (on_hit (λ d. result_doing chunks bag (owner_of chunks f) d (updated text_limit u d)) (hit chunks bag f)) (says NoKey)) e)
      by true e =
          update_local chunks seen bag f u (at_target (Update f u) has (owner_of chunks f) (owner_among f e) (id_of f))
          (λ d r found made apart.
          let at_first : hit chunks (bag_on chunks bag first) f ≡ Some d =
          ap (matching f) (held_among chunks bag placed first (owner_of chunks f) (owner_among f e) (id_of f)) ∙ found in
          let does = seen_replaces chunks (bag_on chunks bag first) f u e
          (λ t ne q. held_on chunks bag placed first t q
          ∙ ap (λ c. cond c (held bag t q) None) (ap (λ b. is_among (cond b (owner_of chunks f ∷ []) (0 ∷ [])) t) e ∙ ap (λ b. b || false) (unequal (owner_of chunks f) t ne)))
          d r at_first made apart in
          held_among chunks bag placed ss (owner_of chunks r)
          (has (owner_of chunks r)
          (among_right first (places_of (doing chunks (bag_on chunks bag first) (Update f u))) (owner_of chunks r)
          (subst (λ x. Among (places_of x) (owner_of chunks r)) (sym does)
          (among_later (owner_of chunks f) (owner_of chunks r ∷ []) (owner_of chunks r) (among_first (owner_of chunks r) []))))) (id_of r))
  by_targets (Find f) has = ap (λ l. says (Found (length l) (take 10 l))) (read_local (Find f) has f refl)
  by_targets (Count f) has = ap (λ l. says (Counted (length l))) (read_local (Count f) has f refl)
  by_targets Abort has = refl

pub answered_by_targets : AnsweredByTargets
answered_by_targets chunks bag command placed whole ss has = by_targets chunks bag placed whole ss command has
