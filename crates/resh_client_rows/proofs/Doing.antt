-- A command that is answered does what the order does, on shards that are its targets.
use Rattle.std.proofs.Common.{◌≡◌, ◌<◌, ◌==◌, ◌&&◌, ◌||◌, ℕ, Bool, true, false, cond, not, List, [], ◌∷◌, ◌++◌, length, None, refl, sym, ap, subst, ◌∙◌}
use Rattle.std.proofs.lemmas.Bool.{eqb-true}
use Rattle.std.proofs.lemmas.List.Folds.{list_any-append}
use Rattle.std.specs.List.{list_all}
use Rattle.resh_chunks.specs.Chunks.{chunk_fault}
use Rattle.resh_command.specs.declared.command.Command.{Command}
use Rattle.resh_bag.specs.Answer.{doing}
use Rattle.resh_bag.specs.Parts.{bag_on, bag_over, is_among, places_of, targets}
use Rattle.resh_cells.specs.Cells.{client_in, shard_in}
use Rattle.resh_cells.specs.declared.cluster.Cluster.{Cluster}
use Rattle.resh_events.specs.Targets.{all_targets, documents_at, doing_by, doing_of, first_targets, has_map, is_free, known_map, leaves_to, move_targets, same_map, serve}
use Rattle.resh_events.specs.rows.Client.{coming, comes, refreshes, waits}
use Rattle.resh_model.specs.Orders.{State, is_abort}
use Rattle.resh_setup.specs.Validity.{IsMap, IsValid}
use Rattle.resh_setup.specs.declared.setup.Setup.{Setup}
use Rattle.resh_shard.specs.Shards.{map_by}
use Rattle.resh_shard.specs.declared.act.Which.{Which}
use Rattle.resh_shard.specs.declared.act.Which.TheVariants.{Old, New}
use Rattle.resh_invariant.specs.Courses.{is_committed}
use Rattle.resh_invariant.specs.Keeping.{Keeps}
use Rattle.resh_invariant.specs.Sources.{Clones}
use Rattle.resh_invariant.proofs.Ones.{both, never, off_of}
use Rattle.resh_client_rows.proofs.Covering.{by_all, done_among}
use Rattle.resh_client_rows.proofs.Holding.{same_bag}
use Rattle.resh_client_rows.proofs.Reaching.{Among, among_first, among_left, inside, leaves_inside, some_target}
use Rattle.resh_client_rows.proofs.Serving.{map_is, new_committed}

-- what holds of all of some shards holds of each, and where it doesn't, there is one of which it doesn't
each_among : (p : ℕ → Bool) (ss : List ℕ) → list_all p ss ≡ true → (s : ℕ) → Among ss s → p s ≡ true
each_among p [] all s h = never (sym h)
each_among p (t ∷ ts) all s h =
    let parts = both (p t) (list_all p ts) all in
    by (λ l. each_among p ts parts.1 s l) parts.0 (t == s) refl h
  where
    by : (Among ts s → p s ≡ true) → p t ≡ true → (b : Bool) → (t == s) ≡ b → (b || is_among ts s) ≡ true → p s ≡ true
    by rest here true e h = subst (λ n. p n ≡ true) (eqb-true t s e) here
    by rest here false e h = rest h

some_fails : (p : ℕ → Bool) (ss : List ℕ) → list_all p ss ≡ false → (s : ℕ) × Among ss s × (p s ≡ false)
some_fails p [] none = never none
some_fails p (t ∷ ts) none = by (λ l. some_fails p ts l) (p t) refl none
  where
    later : (s : ℕ) → Among ts s → (b : Bool) → (b || is_among ts s) ≡ true
    later s h true = refl
    later s h false = h

    by : (list_all p ts ≡ false → (s : ℕ) × Among ts s × (p s ≡ false)) → (b : Bool) → p t ≡ b → (b && list_all p ts) ≡ false → (s : ℕ) × Among (t ∷ ts) s × (p s ≡ false)
    by rest true e off = let w = rest off in (w.0, later w.0 w.1 (t == w.0), w.2)
    by rest false e off = (t, among_first t ts, e)

front_all : (p : ℕ → Bool) (xs ys : List ℕ) → list_all p (xs ++ ys) ≡ true → list_all p xs ≡ true
front_all p [] ys all = refl
front_all p (x ∷ xs) ys all =
    let parts = both (p x) (list_all p (xs ++ ys)) all in
    ap (λ b. b && list_all p xs) parts.0 ∙ front_all p xs ys parts.1

same_which : (a b : Which) → same_map a b ≡ true → a ≡ b
same_which Old Old e = refl
same_which New New e = refl
same_which Old New e = never (sym e)
same_which New Old e = never (sym e)

-- what a command comes to tells what its targets are
answers_by : (free same : Bool) → cond (not free) waits (cond (not same) refreshes comes) ≡ comes → (free ≡ true) × (same ≡ true)
answers_by true true e = (refl, refl)
answers_by true false e = absurd (let off : refreshes ≡ comes = e in cc)
answers_by false same e = absurd (let off : waits ≡ comes = e in cc)

refreshes_by : (free same : Bool) → cond (not free) waits (cond (not same) refreshes comes) ≡ refreshes → same ≡ false
refreshes_by true true e = absurd (let off : comes ≡ refreshes = e in cc)
refreshes_by true false e = refl
refreshes_by false same e = absurd (let off : waits ≡ refreshes = e in cc)

module _ (setup : Setup) (valid : IsValid setup) (state : State) (clones : Clones) (cluster : Cluster) (keeps : Keeps setup state clones cluster) (c : ℕ) (command : Command) where
  known : IsMap (length setup.shards) (known_map setup cluster c)
  known = by (client_in cluster c).knows
    where
      by : (w : Which) → IsMap (length setup.shards) (map_by w setup.old_map setup.new_map)
      by Old = valid.old
      by New = valid.new

  -- a target is a shard of the setup
  pub targets_inside : (s : ℕ) → Among (all_targets setup cluster c command) s → s < length setup.shards
  targets_inside s h =
      subst (λ n. s < n) known.count
      (by (is_among (first_targets setup cluster c command) s) refl
      (sym (list_any-append (λ k. k == s) (first_targets setup cluster c command) (move_targets setup cluster c command)) ∙ h))
    where
      moved : (b : Bool) → Among (cond b (leaves_to (doing_by setup cluster c (first_targets setup cluster c command) command)) []) s → s < (known_map setup cluster c).shards
      moved true h =
          leaves_inside (known_map setup cluster c) known.whole (bag_over (documents_at cluster) (first_targets setup cluster c command)) command s h
      moved false h = never (sym h)

      by : (b : Bool) → is_among (first_targets setup cluster c command) s ≡ b → (b || is_among (move_targets setup cluster c command) s) ≡ true
          → s < (known_map setup cluster c).shards
      by true e h = inside (known_map setup cluster c) known.whole command s e
      by false e h = moved (serve cluster (client_in cluster c).knows (first_targets setup cluster c command)) h

  -- where a target serves under another map than the client knows, the new one is in force
  pub refreshes_to : (kept : (client_in cluster c).knows ≡ New → is_committed cluster.control.decision ≡ true) → coming setup cluster c command ≡ refreshes
      → is_committed cluster.control.decision ≡ true
  refreshes_to kept is =
      let none = refreshes_by (list_all (λ s. is_free (shard_in cluster s)) (all_targets setup cluster c command))
      (list_all (λ s. has_map (client_in cluster c).knows (shard_in cluster s)) (all_targets setup cluster c command)) is in
      let one = some_fails (λ s. has_map (client_in cluster c).knows (shard_in cluster s)) (all_targets setup cluster c command) none in
      by one.0 (shard_in cluster one.0).shard.which refl (client_in cluster c).knows refl (new_committed setup state clones cluster keeps one.0 (targets_inside one.0 one.1)) one.2
    where
      by : (s : ℕ) (a : Which) → (shard_in cluster s).shard.which ≡ a → (b : Which) → (client_in cluster c).knows ≡ b
          → ((shard_in cluster s).shard.which ≡ New → is_committed cluster.control.decision ≡ true) → same_map (shard_in cluster s).shard.which (client_in cluster c).knows ≡ false
          → is_committed cluster.control.decision ≡ true
      by s New serves b knows served off = served serves
      by s Old serves New knows served off = kept knows
      by s Old serves Old knows served off = never (sym (λ i. same_map (serves i) (knows i)) ∙ off)

  module _ (is : coming setup cluster c command ≡ comes) where
    serving : (list_all (λ s. is_free (shard_in cluster s)) (all_targets setup cluster c command) ≡ true)
        × (list_all (λ s. has_map (client_in cluster c).knows (shard_in cluster s)) (all_targets setup cluster c command) ≡ true)
    serving =
        answers_by (list_all (λ s. is_free (shard_in cluster s)) (all_targets setup cluster c command))
        (list_all (λ s. has_map (client_in cluster c).knows (shard_in cluster s)) (all_targets setup cluster c command)) is

    pub target_free : (s : ℕ) → Among (all_targets setup cluster c command) s → (shard_in cluster s).shard.blocked ≡ false
    target_free s h =
        off_of (shard_in cluster s).shard.blocked (each_among (λ s. is_free (shard_in cluster s)) (all_targets setup cluster c command) serving.0 s h)

    target_which : (s : ℕ) → Among (all_targets setup cluster c command) s → (shard_in cluster s).shard.which ≡ (client_in cluster c).knows
    target_which s h =
        same_which (shard_in cluster s).shard.which (client_in cluster c).knows
        (each_among (λ s. has_map (client_in cluster c).knows (shard_in cluster s)) (all_targets setup cluster c command) serving.1 s h)

    first_serve : serve cluster (client_in cluster c).knows (first_targets setup cluster c command) ≡ true
    first_serve =
        (λ i. front_all (λ s. is_free (shard_in cluster s)) (first_targets setup cluster c command) (move_targets setup cluster c command) serving.0 i
        && list_all (λ s. has_map (client_in cluster c).knows (shard_in cluster s)) (first_targets setup cluster c command))
        ∙ front_all (λ s. has_map (client_in cluster c).knows (shard_in cluster s)) (first_targets setup cluster c command) (move_targets setup cluster c command) serving.1

    module _ (asks : is_abort command ≡ false) where
      -- the client knows the map in force
      pub map_known : known_map setup cluster c ≡ state.map
      map_known =
          let one = some_target (known_map setup cluster c) known.whole command asks in
          let here : Among (all_targets setup cluster c command) one.0 = among_left (first_targets setup cluster c command) (move_targets setup cluster c command) one.0 one.1 in
          ap (λ w. map_by w setup.old_map setup.new_map) (sym (target_which one.0 here))
          ∙ sym (map_is setup state clones cluster keeps one.0 (targets_inside one.0 here) (target_free one.0 here))

      map_whole : chunk_fault state.map ≡ None
      map_whole = subst (λ m. chunk_fault m ≡ None) map_known known.whole

      free_all : (s : ℕ) → Among (all_targets setup cluster c command) s → (s < length setup.shards) × ((shard_in cluster s).shard.blocked ≡ false)
      free_all s h = (targets_inside s h, target_free s h)

      same_first : bag_over (documents_at cluster) (first_targets setup cluster c command) ≡ bag_on state.map state.bag (targets state.map command)
      same_first =
          same_bag setup state clones cluster keeps (first_targets setup cluster c command)
          (λ s h. free_all s (among_left (first_targets setup cluster c command) (move_targets setup cluster c command) s h))
          ∙ ap (λ m. bag_on state.map state.bag (targets m command)) map_known

      -- the targets of the table are those by which the order answers
      targets_are : all_targets setup cluster c command
          ≡ targets state.map command ++ leaves_to (doing state.map (bag_on state.map state.bag (targets state.map command)) command)
      targets_are =
          ap (λ b. first_targets setup cluster c command ++ cond b (leaves_to (doing_by setup cluster c (first_targets setup cluster c command) command)) []) first_serve
          ∙ (λ i. targets (map_known i) command ++ leaves_to (doing (map_known i) (same_first i) command))

      pub doing_is : doing_of setup cluster c command ≡ doing state.map state.bag command
      doing_is =
          (λ i. doing (map_known i) (same_bag setup state clones cluster keeps (all_targets setup cluster c command) free_all i) command)
          ∙ ap (λ ss. doing state.map (bag_on state.map state.bag ss) command) targets_are
          ∙ by_all state.map state.bag keeps.decided.placed map_whole command

      -- it is done on targets
      pub done_in : (s : ℕ) → Among (places_of (doing state.map state.bag command)) s → Among (all_targets setup cluster c command) s
      done_in s h =
          subst (λ ss. Among ss s) (sym targets_are)
          (done_among state.map state.bag keeps.decided.placed map_whole command (doing state.map state.bag command) refl s h)
