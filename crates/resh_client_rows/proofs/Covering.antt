-- The shards to which a command goes in the table are those by which it is answered, and it is done on no other.
use Rattle.std.proofs.Common.{◌≡◌, ◌≢◌, ◌==◌, ◌&&◌, ◌||◌, ⊎_elim, ℕ, Bool, true, false, cond, not, List, [], ◌∷◌, ◌++◌, Some, None, is_some, Ok, refl, sym, ap, subst, ◌∙◌}
use Rattle.std.proofs.lemmas.Bool.{eqb-true}
use Rattle.std.proofs.lemmas.Bool.Decides.{eqb_tells}
use Rattle.std.proofs.lemmas.List.Folds.{list_any-append}
use Rattle.resh_value.specs.Lookup.{id_of}
use Rattle.resh_value.specs.declared.value.Value.{Value}
use Rattle.resh_chunks.specs.Chunks.{Chunks, chunk_fault, owner_of}
use Rattle.resh_filter.specs.Filters.{matches}
use Rattle.resh_ops.specs.Updates.{updated}
use Rattle.resh_ops.specs.declared.operator.Action.{Action}
use Rattle.resh_command.specs.declared.command.Command.{Command}
use Rattle.resh_command.specs.declared.command.Command.TheVariants.{Update}
use Rattle.resh_command.specs.declared.reply.Reply.{Reply}
use Rattle.resh_command.specs.declared.reply.Reply.TheVariants.{Duplicate, NoKey}
use Rattle.resh_bag.specs.Answer.{Doing, adds, replaces, removes, says, doing, has_key, hit, matching, on_hit, result_doing, text_limit, with_key}
use Rattle.resh_bag.specs.Bag.{Bag, Document, IsPlaced, held}
use Rattle.resh_bag.specs.Findings.{IsAdded}
use Rattle.resh_bag.specs.Parts.{all_targets, bag_on, is_among, places_of, targets}
use Rattle.resh_bag.proofs.answers.Finding.{doings_find}
use Rattle.resh_bag.proofs.shards.ByShard.{held_among, held_on}
use Rattle.resh_bag.proofs.shards.Locality.{answered_by_targets}
use Rattle.resh_events.specs.Targets.{leaves_to}
use Rattle.resh_invariant.proofs.Ones.{never}
use Rattle.resh_client_rows.proofs.Reaching.{Among, among_first, among_left, among_right, only}

unequal : (a b : ℕ) → a ≢ b → (a == b) ≡ false
unequal a b ne = ⊎_elim (λ k. absurd (ne k.1)) (λ k. k.0) (eqb_tells a b)

-- an update that does something has the key
has_its_key : (map : Chunks) (f : Document) (x y : Doing) → with_key map f x ≡ y → ((reply : Reply) → says reply ≢ y) → has_key map f ≡ true
has_its_key map f x y is works = by (has_key map f) refl
  where
    by : (b : Bool) → has_key map f ≡ b → has_key map f ≡ true
    by true h = h
    by false h = absurd (works NoKey (sym (ap (λ b. cond b x (says NoKey)) h) ∙ is))

-- an update whose result goes to another shard does so by what its first targets hold
module _ (chunks : Chunks) (bag : Bag) (placed : IsPlaced chunks bag) (f : Document) (u : List Action) (n : ℕ) (d : Document) (t : ℕ) (e : Document)
    (is : doing chunks bag (Update f u) ≡ replaces n d t e) where
  abbrev at_first : List ℕ
  at_first = targets chunks (Update f u)

  abbrev first_bag : Bag
  first_bag = bag_on chunks bag at_first

  key : has_key chunks f ≡ true
  key =
      has_its_key chunks f (on_hit (λ x. result_doing chunks bag (owner_of chunks f) x (updated text_limit u x)) (hit chunks bag f)) (replaces n d t e) is (λ reply k. cc)

  -- what it found
  pub record Found : Type 0 where
    pub owned : n ≡ owner_of chunks f
    pub there : held bag n (id_of f) ≡ Some d
    pub passes : matches f d ≡ true
    pub made : updated text_limit u d ≡ Ok e
    pub comes : t ≡ owner_of chunks e

  found : Found
  found =
      let r = doings_find.replaced chunks bag (Update f u) n d t e is in
      let one : Update r.filter r.update ≡ Update f u = sym r.is in
      let rf : r.filter ≡ f = cc in
      let ru : r.update ≡ u = cc in
      record {
        owned = r.hit.owner ∙ ap (owner_of chunks) rf;
        there = ap (λ (x : Document). held bag n (id_of x)) (sym rf) ∙ r.hit.there;
        passes = ap (λ (x : Document). matches x d) (sym rf) ∙ r.hit.passes;
        made = ap (λ (x : List Action). updated text_limit x d) (sym ru) ∙ r.made;
        comes = r.owner;
      }

  owner_first : Among at_first n
  owner_first =
      subst (λ b. Among (cond b (owner_of chunks f ∷ []) (0 ∷ [])) n) (sym key)
      (subst (λ k. Among (owner_of chunks f ∷ []) k) (sym found.owned) (among_first (owner_of chunks f) []))

  hits : hit chunks first_bag f ≡ Some d
  hits =
      ap (λ k. matching f (held first_bag k (id_of f))) (sym found.owned)
      ∙ ap (matching f) (held_among chunks bag placed at_first n owner_first (id_of f) ∙ found.there)
      ∙ ap (λ b. cond b (Some d) None) found.passes

  module _ (apart : t ≢ n) where
    others_none : is_among at_first (owner_of chunks e) ≡ false
    others_none =
        ap (λ b. is_among (cond b (owner_of chunks f ∷ []) (0 ∷ [])) (owner_of chunks e)) key
        ∙ ap (λ b. b || false) (unequal (owner_of chunks f) (owner_of chunks e) (λ same. apart (found.comes ∙ sym same ∙ sym found.owned)))

    none_there : held first_bag (owner_of chunks e) (id_of e) ≡ None
    none_there =
        held_on chunks bag placed at_first (owner_of chunks e) (id_of e) ∙ ap (λ b. cond b (held bag (owner_of chunks e) (id_of e)) None) others_none

    nothing_more : (b : Bool) → cond (b && false) (says Duplicate) (replaces (owner_of chunks f) d (owner_of chunks e) e) ≡ replaces (owner_of chunks f) d (owner_of chunks e) e
    nothing_more true = refl
    nothing_more false = refl

    moves_first : doing chunks first_bag (Update f u) ≡ replaces n d t e
    moves_first =
        ap (λ b. cond b (on_hit (λ x. result_doing chunks first_bag (owner_of chunks f) x (updated text_limit u x)) (hit chunks first_bag f)) (says NoKey)) key
        ∙ ap (on_hit (λ x. result_doing chunks first_bag (owner_of chunks f) x (updated text_limit u x))) hits
        ∙ ap (result_doing chunks first_bag (owner_of chunks f) d) found.made
        ∙ ap (λ o. cond (not (owner_of chunks e == owner_of chunks f) && is_some o) (says Duplicate) (replaces (owner_of chunks f) d (owner_of chunks e) e)) none_there
        ∙ nothing_more (not (owner_of chunks e == owner_of chunks f))
        ∙ (λ i. replaces (sym found.owned i) d (sym found.comes i) e)

  pub moves_among : (s : ℕ) → Among (n ∷ t ∷ []) s → Among (at_first ++ leaves_to (doing chunks first_bag (Update f u))) s
  moves_among s h = by (n == s) refl h
    where
      stays : n ≡ s → Among (at_first ++ leaves_to (doing chunks first_bag (Update f u))) s
      stays same = among_left at_first (leaves_to (doing chunks first_bag (Update f u))) s (subst (Among at_first) same owner_first)

      by : (b : Bool) → (n == s) ≡ b → (b || is_among (t ∷ []) s) ≡ true → Among (at_first ++ leaves_to (doing chunks first_bag (Update f u))) s
      by true same h = stays (eqb-true n s same)
      by false off h =
          ⊎_elim (λ k. stays (sym k.1 ∙ only t s h))
          (λ k. subst (λ x. Among (at_first ++ leaves_to x) s) (sym (moves_first k.1))
          (among_right at_first (cond (t == n) [] (t ∷ [])) s (subst (λ b. Among (cond b [] (t ∷ [])) s) (sym k.0) h)))
          (eqb_tells t n)

module _ (chunks : Chunks) (bag : Bag) (placed : IsPlaced chunks bag) (whole : chunk_fault chunks ≡ None) (command : Command) where
  abbrev first : List ℕ
  first = targets chunks command

  abbrev seen : Bag
  seen = bag_on chunks bag first

  -- the first targets, and the owner of a result
  abbrev all : List ℕ
  all = first ++ leaves_to (doing chunks seen command)

  among_held : (ss : List ℕ) (s : ℕ) (q : Value) (d : Document) → held (bag_on chunks bag ss) s q ≡ Some d → Among ss s
  among_held ss s q d is = by (is_among ss s) refl
    where
      by : (b : Bool) → is_among ss s ≡ b → is_among ss s ≡ true
      by true e = e
      by false e = absurd (let off : None ≡ Some d = sym (ap (λ b. cond b (held bag s q) None) e) ∙ sym (held_on chunks bag placed ss s q) ∙ is in cc)

  added_first : (b : Bag) (n : ℕ) (d : Document) → IsAdded chunks b command n d → Among first n
  added_first b n d a =
      subst (λ k. Among (targets chunks k) n) (sym a.is)
      (subst (λ m. Among (owner_of chunks d ∷ []) m) (sym a.owner) (among_first (owner_of chunks d) []))

  -- a place and another, where the other goes beside the first targets unless it is the same
  two : (n t s : ℕ) → Among first n → Among (n ∷ t ∷ []) s → Among (first ++ cond (t == n) [] (t ∷ [])) s
  two n t s n_in h = by (n == s) refl h
    where
      other : (b : Bool) → (t == n) ≡ b → Among (t ∷ []) s → Among (first ++ cond b [] (t ∷ [])) s
      other true same h = among_left first [] s (subst (Among first) (sym (eqb-true t n same) ∙ only t s h) n_in)
      other false off h = among_right first (t ∷ []) s h

      by : (b : Bool) → (n == s) ≡ b → (b || is_among (t ∷ []) s) ≡ true → Among (first ++ cond (t == n) [] (t ∷ [])) s
      by true same h = among_left first (cond (t == n) [] (t ∷ [])) s (subst (Among first) (eqb-true n s same) n_in)
      by false off h = other (t == n) refl h

  placed_among : (x : Doing) → doing chunks seen command ≡ x → (s : ℕ) → Among (places_of x) s → Among (first ++ leaves_to x) s
  placed_among (adds n d) e s h = among_left first [] s (subst (Among first) (only n s h) (added_first seen n d (doings_find.added chunks seen command n d e)))
  placed_among (removes n d) e s h =
      let r = doings_find.removed chunks seen command n d e in
      among_left first [] s (subst (Among first) (only n s h) (among_held first n (id_of r.filter) d r.hit.there))
  placed_among (says reply) e s h = never (sym h)
  placed_among (replaces n d t f) e s h =
      let r = doings_find.replaced chunks seen command n d t f e in
      two n t s (among_held first n (id_of r.filter) d r.hit.there) h

  pub covers : (s : ℕ) → Among (all_targets chunks bag command) s → Among (first ++ leaves_to (doing chunks seen command)) s
  covers s h = by (is_among first s) refl (sym (list_any-append (λ k. k == s) first (places_of (doing chunks seen command))) ∙ h)
    where
      by : (b : Bool) → is_among first s ≡ b → (b || is_among (places_of (doing chunks seen command)) s) ≡ true → Among all s
      by true e h = among_left first (leaves_to (doing chunks seen command)) s e
      by false e h = placed_among (doing chunks seen command) refl s h

  pub by_all : doing chunks (bag_on chunks bag (first ++ leaves_to (doing chunks seen command))) command ≡ doing chunks bag command
  by_all = answered_by_targets chunks bag command placed whole all covers

  pub done_among : (x : Doing) → doing chunks bag command ≡ x → (s : ℕ) → Among (places_of x) s → Among (first ++ leaves_to (doing chunks seen command)) s
  done_among (adds n d) e s h =
      among_left first (leaves_to (doing chunks seen command)) s (subst (Among first) (only n s h) (added_first bag n d (doings_find.added chunks bag command n d e)))
  done_among (removes n d) e s h =
      let r = doings_find.removed chunks (bag_on chunks bag all) command n d (by_all ∙ e) in
      subst (Among all) (only n s h) (among_held all n (id_of r.filter) d r.hit.there)
  done_among (says reply) e s h = never (sym h)
  done_among (replaces n d t f) e s h =
      let r = doings_find.replaced chunks bag command n d t f e in
      subst (λ k. Among (targets chunks k ++ leaves_to (doing chunks (bag_on chunks bag (targets chunks k)) k)) s) (sym r.is)
      (moves_among chunks bag placed r.filter r.update n d t f (sym (ap (doing chunks bag) r.is) ∙ e) s h)
