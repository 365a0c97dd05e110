-- A bag is read by shard, and what is done on one shard leaves the others' parts.
use Rattle.std.proofs.Common.{◌≡◌, ◌≢◌, ◌==◌, ◌||◌, ◌+◌, ◌≤◌, ◌<◌, ◌⊎◌, inl, inr, ⊎_elim, ℕ, zero, suc, Bool, true, false, cond, List, [], ◌∷◌, find, filter, Option, Some, None, is_some, refl, sym, ap, subst, ◌∙◌, arith, Less, Equal, Greater}
use Rattle.std.proofs.lemmas.Bool.{eqb-true}
use Rattle.std.proofs.lemmas.Bool.Decides.{eqb_tells}
use Rattle.std.proofs.lemmas.List.Kept.{IsStrictlySortedBy-filter}
use Rattle.std.specs.FinMap.{empty, get-empty}
use Rattle.std.specs.List.{Contains, range_with_len}
use Rattle.std.specs.List.Sorted.{IsStrictlySortedBy}
use Rattle.std.specs.Option.{option_or}
use Rattle.std.specs.Ordering.{is_eq, ordering_reverse}
use Rattle.std.specs.declared.cmp.Ordering.{Ordering}
use Rattle.resh_value.specs.Lookup.{id_of}
use Rattle.resh_value.specs.Order.{compare_of}
use Rattle.resh_value.specs.OrderLaws.{compare_itself, compare_same}
use Rattle.resh_value.specs.declared.value.Value.{Value}
use Rattle.resh_chunks.specs.Chunks.{Chunks, chunk_fault, owner_of}
use Rattle.resh_bag.specs.Bag.{Bag, Document, documents, held, place_cmp, place_of, put, without, IsPlaced}
use Rattle.resh_bag.specs.PartLaws.{ReadsByShard, LeavesOtherParts, MovesByHalves}
use Rattle.resh_bag.specs.Parts.{all_shards, bag_on, bag_over, is_among, of_id, put_all}
use Rattle.resh_bag.specs.PlaceOrder.{place_total}
use Rattle.resh_bag.specs.Placement.{part}
use Rattle.resh_bag.proofs.bags.BagLaws.{puts_one, removes_one, same_by_place}
use Rattle.resh_bag.proofs.Lists.{first_or_later, first_there, later_there, kept, same_sorted, was_there}
use Rattle.resh_bag.proofs.shards.Owners.{owner_there}
use Rattle.resh_bag.proofs.shards.Parting.{document_held, documents_rise, held_document}
use Rattle.resh_bag.proofs.bags.Placed.{put_placed, without_placed}

pub same_number : (n : ℕ) → (n == n) ≡ true
same_number n = ⊎_elim (λ k. k.0) (λ k. absurd (k.1 refl)) (eqb_tells n n)

some_same : {X : Type 0} (x y : X) → Some x ≡ Some y → x ≡ y
some_same x y e = cc

tied : (a b : Value) → is_eq (compare_of a b) ≡ true → a ≡ b
tied a b e = by (compare_of a b) refl e
  where
    by : (r : Ordering) → compare_of a b ≡ r → is_eq r ≡ true → a ≡ b
    by Less f h = cc
    by Equal f h = compare_same a b f
    by Greater f h = cc

ties_itself : (a b : Value) → a ≡ b → is_eq (compare_of a b) ≡ true
ties_itself a b same = subst (λ x. is_eq (compare_of a x) ≡ true) same (ap is_eq (compare_itself a))

-- what is found in a list
find_there : {X : Type 0} (p : X → Bool) (xs : List X) (x : X) → find p xs ≡ Some x → Contains xs x × (p x ≡ true)
find_there p [] x e = cc
find_there {X} p (y ∷ ys) x e = by (λ h. find_there p ys x h) (p y) refl e
  where
    by : (find p ys ≡ Some x → Contains ys x × (p x ≡ true)) → (b : Bool) → p y ≡ b → cond b (Some y) (find p ys) ≡ Some x → Contains (y ∷ ys) x × (p x ≡ true)
    by onward true f h = let same : y ≡ x = some_same y x h in (subst (Contains (y ∷ ys)) same (first_there y ys), subst (λ z. p z ≡ true) same f)
    by onward false f h = let w = onward h in (later_there y ys x w.0, w.1)

find_all : {X : Type 0} (p : X → Bool) (xs : List X) (x : X) → Contains xs x → p x ≡ true → is_some (find p xs) ≡ true
find_all p [] x (n, within, is) t = absurd (omega (arith, within))
find_all p (y ∷ ys) x there t = by (λ later. find_all p ys x later t) (p y) refl (first_or_later y ys x there)
  where
    by : (Contains ys x → is_some (find p ys) ≡ true) → (b : Bool) → p y ≡ b → (y ≡ x) ⊎ Contains ys x → is_some (cond b (Some y) (find p ys)) ≡ true
    by onward true f h = refl
    by onward false f (inl same) = absurd (let off : true ≡ false = sym t ∙ sym (ap p same) ∙ f in cc)
    by onward false f (inr later) = onward later

-- what is held after a put
module _ (bag : Bag) (s : ℕ) (d : Document) (q : Value) where
  put_here : (r : Ordering) → compare_of q (id_of d) ≡ r → held (put bag s d) s q ≡ cond (is_eq (compare_of q (id_of d))) (Some d) (held bag s q)
  put_here Equal e = (λ i. held (put bag s d) s (compare_same q (id_of d) e i)) ∙ puts_one.there bag s d ∙ sym (ap (λ r. cond (is_eq r) (Some d) (held bag s q)) e)
  put_here Less e =
      puts_one.elsewhere bag s s d q (inr (λ same. let off : Less ≡ Equal = sym e ∙ sym (ap (compare_of q) same) ∙ compare_itself q in cc))
      ∙ sym (ap (λ r. cond (is_eq r) (Some d) (held bag s q)) e)
  put_here Greater e =
      puts_one.elsewhere bag s s d q (inr (λ same. let off : Greater ≡ Equal = sym e ∙ sym (ap (compare_of q) same) ∙ compare_itself q in cc))
      ∙ sym (ap (λ r. cond (is_eq r) (Some d) (held bag s q)) e)

  pub put_at : (t : ℕ) → held (put bag s d) t q ≡ cond (s == t) (cond (is_eq (compare_of q (id_of d))) (Some d) (held bag t q)) (held bag t q)
  put_at t =
      ⊎_elim
      (λ k. subst (λ x. held (put bag s d) x q ≡ cond (is_eq (compare_of q (id_of d))) (Some d) (held bag x q)) k.1 (put_here (compare_of q (id_of d)) refl)
      ∙ sym (ap (λ b. cond b (cond (is_eq (compare_of q (id_of d))) (Some d) (held bag t q)) (held bag t q)) k.0))
      (λ k. puts_one.elsewhere bag s t d q (inl (λ same. k.1 (sym same))) ∙ sym (ap (λ b. cond b (cond (is_eq (compare_of q (id_of d))) (Some d) (held bag t q)) (held bag t q)) k.0))
      (eqb_tells s t)

held_all : (s : ℕ) (ds : List Document) (bag : Bag) (t : ℕ) (q : Value)
    → held (put_all s ds bag) t q ≡ cond (s == t) (option_or (of_id q ds) (held bag t q)) (held bag t q)
held_all s [] bag t q = by (s == t)
  where
    by : (b : Bool) → held bag t q ≡ cond b (held bag t q) (held bag t q)
    by true = refl
    by false = refl
held_all s (d ∷ ds) bag t q =
    put_at (put_all s ds bag) s d q t
    ∙ ap (λ o. cond (s == t) (cond (is_eq (compare_of q (id_of d))) (Some d) o) o) (held_all s ds bag t q)
    ∙ by (s == t) (is_eq (compare_of q (id_of d)))
  where
    by : (b c : Bool) → cond b (cond c (Some d) (cond b (option_or (of_id q ds) (held bag t q)) (held bag t q))) (cond b (option_or (of_id q ds) (held bag t q)) (held bag t q))
        ≡ cond b (option_or (cond c (Some d) (of_id q ds)) (held bag t q)) (held bag t q)
    by true true = refl
    by true false = refl
    by false c = refl

nothing_held : (t : ℕ) (q : Value) → held empty t q ≡ None
unfolding held
nothing_held t q = get-empty place_cmp (q, t)

-- the bag over some shards has at each of them what that shard has, and nothing elsewhere
pub held_over : (own : ℕ → List Document) (ss : List ℕ) (t : ℕ) (q : Value) → held (bag_over own ss) t q ≡ cond (is_among ss t) (of_id q (own t)) None
held_over own [] t q = nothing_held t q
held_over own (s ∷ ss) t q =
    held_all s (own s) (bag_over own ss) t q
    ∙ ap (λ o. cond (s == t) (option_or (of_id q (own s)) o) o) (held_over own ss t q)
    ∙ by (s == t) refl (is_among ss t)
  where
    twice : (o : Option Document) → option_or o o ≡ o
    twice None = refl
    twice (Some d) = refl

    once : (o : Option Document) → option_or o None ≡ o
    once None = refl
    once (Some d) = refl

    by : (b : Bool) → (s == t) ≡ b → (c : Bool)
        → cond (s == t) (option_or (of_id q (own s)) (cond c (of_id q (own t)) None)) (cond c (of_id q (own t)) None) ≡ cond ((s == t) || c) (of_id q (own t)) None
    by true e true =
        ap (λ b. cond b (option_or (of_id q (own s)) (of_id q (own t))) (of_id q (own t))) e
        ∙ ap (λ x. option_or (of_id q (own x)) (of_id q (own t))) (eqb-true s t e) ∙ twice (of_id q (own t))
        ∙ sym (ap (λ b. cond (b || true) (of_id q (own t)) None) e)
    by true e false =
        ap (λ b. cond b (option_or (of_id q (own s)) None) None) e ∙ once (of_id q (own s))
        ∙ ap (λ x. of_id q (own x)) (eqb-true s t e) ∙ sym (ap (λ b. cond (b || false) (of_id q (own t)) None) e)
    by false e c =
        ap (λ b. cond b (option_or (of_id q (own s)) (cond c (of_id q (own t)) None)) (cond c (of_id q (own t)) None)) e
        ∙ sym (ap (λ b. cond (b || c) (of_id q (own t)) None) e)

-- lists of shards
pub among_range : (from n t : ℕ) → from ≤ t → t < from + n → is_among (range_with_len from n) t ≡ true
among_range from zero t le lt = absurd (omega (arith, le, lt))
among_range from (suc n) t le lt =
    ⊎_elim (λ k. ap (λ b. b || is_among (range_with_len (from + 1) n) t) k.0)
    (λ k. let ne = k.1 in by (from == t) (among_range (from + 1) n t (omega (arith, le, ne)) (omega (arith, lt))))
    (eqb_tells from t)
  where
    by : (b : Bool) → is_among (range_with_len (from + 1) n) t ≡ true → (b || is_among (range_with_len (from + 1) n) t) ≡ true
    by true e = refl
    by false e = e

module _ (chunks : Chunks) (bag : Bag) (placed : IsPlaced chunks bag) where
  -- a document of a part is held there, and what is held there is in the part
  pub part_held : (s : ℕ) (d : Document) → Contains (part chunks bag s) d → held bag s (id_of d) ≡ Some d
  part_held s d there =
      let w = was_there (λ x. owner_of chunks x == s) (documents bag) d there in
      subst (λ n. held bag n (id_of d) ≡ Some d) (eqb-true (owner_of chunks d) s w.1) (document_held chunks bag placed d w.0)

  pub held_part : (s : ℕ) (q : Value) (d : Document) → held bag s q ≡ Some d → Contains (part chunks bag s) d
  held_part s q d is =
      kept (λ x. owner_of chunks x == s) (documents bag) d (held_document bag s q d is) (ap (λ n. n == s) (placed.by_owner s q d is) ∙ same_number s)

  pub read_part : (s : ℕ) (q : Value) → held bag s q ≡ of_id q (part chunks bag s)
  read_part s q = by (held bag s q) refl (of_id q (part chunks bag s)) refl
    where
      found : (x : Document) → of_id q (part chunks bag s) ≡ Some x → held bag s q ≡ Some x
      found x e =
          let w = find_there (λ d. is_eq (compare_of q (id_of d))) (part chunks bag s) x e in
          (λ i. held bag s (tied q (id_of x) w.1 i)) ∙ part_held s x w.0

      by : (o : Option Document) → held bag s q ≡ o → (p : Option Document) → of_id q (part chunks bag s) ≡ p → held bag s q ≡ of_id q (part chunks bag s)
      by o e (Some x) f = found x f ∙ sym f
      by None e None f = e ∙ sym f
      by (Some d) e None f =
          let there = find_all (λ x. is_eq (compare_of q (id_of x))) (part chunks bag s) d (held_part s q d e) (ties_itself q (id_of d) (sym (placed.by_id s q d e))) in
          absurd (let off : true ≡ false = sym there ∙ ap is_some f in cc)

  pub held_on : (ss : List ℕ) (t : ℕ) (q : Value) → held (bag_on chunks bag ss) t q ≡ cond (is_among ss t) (held bag t q) None
  held_on ss t q = held_over (part chunks bag) ss t q ∙ sym (ap (λ o. cond (is_among ss t) o None) (read_part t q))

  pub held_among : (ss : List ℕ) (t : ℕ) → is_among ss t ≡ true → (q : Value) → held (bag_on chunks bag ss) t q ≡ held bag t q
  held_among ss t h q = held_on ss t q ∙ ap (λ b. cond b (held bag t q) None) h

  pub on_placed : (ss : List ℕ) → IsPlaced chunks (bag_on chunks bag ss)
  on_placed ss = record {
    by_id = λ s id d is. placed.by_id s id d (there s id d is);
    by_owner = λ s id d is. placed.by_owner s id d (there s id d is);
  }
    where
      there : (s : ℕ) (id : Value) (d : Document) → held (bag_on chunks bag ss) s id ≡ Some d → held bag s id ≡ Some d
      there s id d is = by (is_among ss s) refl
        where
          by : (b : Bool) → is_among ss s ≡ b → held bag s id ≡ Some d
          by true h = sym (held_among ss s h id) ∙ is
          by false h = absurd (let no : None ≡ Some d = sym (ap (λ b. cond b (held bag s id) None) h) ∙ sym (held_on ss s id) ∙ is in cc)

  -- a shard that isn't there holds nothing
  all_there : chunk_fault chunks ≡ None → (t : ℕ) (q : Value) → held (bag_on chunks bag (all_shards chunks)) t q ≡ held bag t q
  all_there whole t q = by (held bag t q) refl
    where
      by : (o : Option Document) → held bag t q ≡ o → held (bag_on chunks bag (all_shards chunks)) t q ≡ held bag t q
      by None e = held_on (all_shards chunks) t q ∙ ap (λ o. cond (is_among (all_shards chunks) t) o None) e ∙ nothing (is_among (all_shards chunks) t) ∙ sym e
        where
          nothing : (b : Bool) → ◌≡◌ {A = Option Document} (cond b None None) None
          nothing true = refl
          nothing false = refl
      by (Some d) e =
          held_among (all_shards chunks) t
          (among_range 0 chunks.shards t (omega arith) (let lt = subst (λ n. n < chunks.shards) (placed.by_owner t q d e) (owner_there chunks whole d) in omega (arith, lt))) q

pub reads_by_shard : ReadsByShard
reads_by_shard = record {
  one = λ chunks bag placed shard id. read_part chunks bag placed shard id;
  some = λ chunks bag placed shards shard id. held_on chunks bag placed shards shard id;
  all = λ chunks bag placed whole. same_by_place (bag_on chunks bag (all_shards chunks)) bag (λ t q. all_there chunks bag placed whole t q);
}

-- two bags that hold the same on a shard have the same part there
module _ (chunks : Chunks) (a b : Bag) (in_a : IsPlaced chunks a) (in_b : IsPlaced chunks b) where
  pub one_way : (x y : Document) → place_cmp (place_of chunks x) (place_of chunks y) ≡ Less → place_cmp (place_of chunks y) (place_of chunks x) ≢ Less
  one_way x y below above = let two : Less ≡ Greater = sym below ∙ place_total.antisymm (place_of chunks x) (place_of chunks y) ∙ ap ordering_reverse above in cc

  pub rises : (c : Bag) → IsPlaced chunks c → (p : Document → Bool) → IsStrictlySortedBy (λ x y. place_cmp (place_of chunks x) (place_of chunks y)) (filter p (documents c))
  rises c placed p = IsStrictlySortedBy-filter (λ x y. place_cmp (place_of chunks x) (place_of chunks y)) p (documents c) (documents_rise chunks c placed)

  pub same_matches : (p : Document → Bool) → ((d : Document) → p d ≡ true → held a (owner_of chunks d) (id_of d) ≡ held b (owner_of chunks d) (id_of d)) → filter p (documents a) ≡ filter p (documents b)
  same_matches p same =
      same_sorted (λ x y. place_cmp (place_of chunks x) (place_of chunks y)) one_way (filter p (documents a)) (filter p (documents b)) (rises a in_a p) (rises b in_b p)
      (λ d there. let w = was_there p (documents a) d there in kept p (documents b) d (held_document b (owner_of chunks d) (id_of d) d (sym (same d w.1) ∙ document_held chunks a in_a d w.0)) w.1)
      (λ d there. let w = was_there p (documents b) d there in kept p (documents a) d (held_document a (owner_of chunks d) (id_of d) d (same d w.1 ∙ document_held chunks b in_b d w.0)) w.1)

  pub same_part : (s : ℕ) → ((q : Value) → held a s q ≡ held b s q) → part chunks a s ≡ part chunks b s
  same_part s same = same_matches (λ d. owner_of chunks d == s) (λ d h. subst (λ n. held a n (id_of d) ≡ held b n (id_of d)) (sym (eqb-true (owner_of chunks d) s h)) (same (id_of d)))

pub leaves_other_parts : LeavesOtherParts
leaves_other_parts = record {
  put = λ chunks bag placed d other apart. same_part chunks (put bag (owner_of chunks d) d) bag (put_placed chunks bag placed d) placed other (λ q. puts_one.elsewhere bag (owner_of chunks d) other d q (inl apart));
  removed = λ chunks bag placed shard other id apart. same_part chunks (without bag shard id) bag (without_placed chunks bag placed shard id) placed other (λ q. removes_one.elsewhere bag shard other id q (inl apart));
}

pub moves_by_halves : MovesByHalves
moves_by_halves bag shard target id d apart = same_by_place (without (put bag target d) shard id) (put (without bag shard id) target d) each
  where
    -- nothing but the place that is emptied is left apart by the two orders
    each : (t : ℕ) (q : Value) → held (without (put bag target d) shard id) t q ≡ held (put (without bag shard id) target d) t q
    each t q = ⊎_elim (λ k. at_target k.0 k.1) (λ k. beside k.0 k.1) (eqb_tells target t)
      where
        at_target : (target == t) ≡ true → target ≡ t → held (without (put bag target d) shard id) t q ≡ held (put (without bag shard id) target d) t q
        at_target e same =
            let other : t ≢ shard = (λ (k : t ≡ shard). apart (same ∙ k)) in
            removes_one.elsewhere (put bag target d) shard t id q (inl other) ∙ put_at bag target d q t
            ∙ ap (λ o. cond (target == t) (cond (is_eq (compare_of q (id_of d))) (Some d) o) o) (sym (removes_one.elsewhere bag shard t id q (inl other)))
            ∙ sym (put_at (without bag shard id) target d q t)

        beside : (target == t) ≡ false → target ≢ t → held (without (put bag target d) shard id) t q ≡ held (put (without bag shard id) target d) t q
        beside e ne = sym (puts_one.elsewhere (without bag shard id) target t d q (inl (λ k. ne (sym k))) ∙ removed (eqb_tells shard t) (compare_of q id) refl)
          where
            removed : (((shard == t) ≡ true) × (shard ≡ t)) ⊎ (((shard == t) ≡ false) × (shard ≢ t)) → (r : Ordering) → compare_of q id ≡ r → held (without bag shard id) t q ≡ held (without (put bag target d) shard id) t q
            removed (inr k) r f =
                removes_one.elsewhere bag shard t id q (inl (λ s. k.1 (sym s))) ∙ sym (removes_one.elsewhere (put bag target d) shard t id q (inl (λ s. k.1 (sym s))) ∙ puts_one.elsewhere bag target t d q (inl (λ s. ne (sym s))))
            removed (inl k) Equal f =
                let same : q ≡ id = compare_same q id f in
                (λ i. held (without bag shard id) (sym k.1 i) (same i)) ∙ removes_one.there bag shard id
                ∙ sym ((λ i. held (without (put bag target d) shard id) (sym k.1 i) (same i)) ∙ removes_one.there (put bag target d) shard id)
            removed (inl k) Less f =
                let other : q ≢ id = (λ (s : q ≡ id). let off : Less ≡ Equal = sym f ∙ sym (ap (compare_of q) s) ∙ compare_itself q in cc) in
                removes_one.elsewhere bag shard t id q (inr other) ∙ sym (removes_one.elsewhere (put bag target d) shard t id q (inr other) ∙ puts_one.elsewhere bag target t d q (inl (λ s. ne (sym s))))
            removed (inl k) Greater f =
                let other : q ≢ id = (λ (s : q ≡ id). let off : Greater ≡ Equal = sym f ∙ sym (ap (compare_of q) s) ∙ compare_itself q in cc) in
                removes_one.elsewhere bag shard t id q (inr other) ∙ sym (removes_one.elsewhere (put bag target d) shard t id q (inr other) ∙ puts_one.elsewhere bag target t d q (inl (λ s. ne (sym s))))
