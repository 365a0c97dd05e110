-- The shards of a target are those that the command is for.
use Rattle.std.proofs.Common.{◌||◌, ◌≡◌, ◌==◌, ◌++◌, ◌∙◌, ap, ℕ, Option, Bool, true, false, cond, [], ◌∷◌, Some, None, refl, sym, subst}
use Rattle.std.proofs.lemmas.List.Folds.{list_any-append}
use Rattle.resh_chunks.specs.Chunks.{Chunks, owner_of}
use Rattle.resh_command.specs.declared.command.Command.{Command}
use Rattle.resh_command.specs.declared.command.Command.TheVariants.{Insert, Update, Delete, Find, Count, Abort}
use Rattle.resh_value.specs.Lookup.{id_of}
use Rattle.resh_command.specs.declared.reply.Reply.TheVariants.{NoKey as NoKeyReply}
use Rattle.resh_bag.specs.Answer.{doing, has_key, hit, insert_doing, on_hit, removes, says}
use Rattle.resh_bag.specs.Bag.{Bag, Document, held}
use Rattle.resh_bag.specs.Parts.{all_shards, all_targets, bag_on, has_pattern, is_among, places_of, targets}
use Rattle.resh_bag.proofs.shards.Locality.{answered_by_targets}
use Rattle.resh_router.specs.Laws.{AnswersAlone, AnswersByTarget, is_update}
use Rattle.resh_router.specs.Targets.{by_key, by_owner, by_pattern, shards_of, target_of}
use Rattle.resh_router.specs.declared.goal.Target.{Target}
use Rattle.resh_router.specs.declared.goal.Target.TheVariants.{All, NoKey}

some_same : {X : Type 0} (x y : X) → Some x ≡ Some y → x ≡ y
some_same x y e = cc

pub key_shards : (chunks : Chunks) (f : Document) → shards_of chunks (by_key chunks f) ≡ cond (has_key chunks f) (owner_of chunks f ∷ []) (0 ∷ [])
key_shards chunks f = by (has_key chunks f)
  where
    by : (b : Bool) → shards_of chunks (cond b (by_owner chunks f) NoKey) ≡ cond b (owner_of chunks f ∷ []) (0 ∷ [])
    by true = refl
    by false = refl

pattern_shards : (chunks : Chunks) (f : Document) → shards_of chunks (by_pattern chunks f) ≡ cond (has_pattern chunks f) (owner_of chunks f ∷ []) (all_shards chunks)
pattern_shards chunks f = by (has_pattern chunks f)
  where
    by : (b : Bool) → shards_of chunks (cond b (by_owner chunks f) All) ≡ cond b (owner_of chunks f ∷ []) (all_shards chunks)
    by true = refl
    by false = refl

pub shards_are : (chunks : Chunks) (command : Command) (target : Target) → target_of chunks command ≡ Some target → shards_of chunks target ≡ targets chunks command
shards_are chunks (Insert d) target is = subst (λ t. shards_of chunks t ≡ owner_of chunks d ∷ []) (some_same (by_owner chunks d) target is) refl
shards_are chunks (Update f u) target is = subst (λ t. shards_of chunks t ≡ cond (has_key chunks f) (owner_of chunks f ∷ []) (0 ∷ [])) (some_same (by_key chunks f) target is) (key_shards chunks f)
shards_are chunks (Delete f) target is = subst (λ t. shards_of chunks t ≡ cond (has_key chunks f) (owner_of chunks f ∷ []) (0 ∷ [])) (some_same (by_key chunks f) target is) (key_shards chunks f)
shards_are chunks (Find f) target is =
    subst (λ t. shards_of chunks t ≡ cond (has_pattern chunks f) (owner_of chunks f ∷ []) (all_shards chunks)) (some_same (by_pattern chunks f) target is) (pattern_shards chunks f)
shards_are chunks (Count f) target is =
    subst (λ t. shards_of chunks t ≡ cond (has_pattern chunks f) (owner_of chunks f ∷ []) (all_shards chunks)) (some_same (by_pattern chunks f) target is) (pattern_shards chunks f)
shards_are chunks Abort target is = cc

pub answers_by_target : AnswersByTarget
answers_by_target chunks bag command target placed whole is =
    subst (λ ts. doing chunks (bag_on chunks bag (ts ++ places_of (doing chunks (bag_on chunks bag ts) command))) command ≡ doing chunks bag command)
    (sym (shards_are chunks command target is))
    (answered_by_targets chunks bag command placed whole (all_targets chunks bag command) (λ s h. h))

-- what a command but an update does is done on the shards that it is for
module _ (chunks : Chunks) (bag : Bag) (s : ℕ) where
  insert_there : (d : Document) (o : Option Document) → is_among (places_of (insert_doing (owner_of chunks d) d o)) s ≡ true → is_among (owner_of chunks d ∷ []) s ≡ true
  insert_there d None h = h
  insert_there d (Some e) h = cc

  delete_there : (f : Document) (o : Option Document) (b : Bool) → is_among (places_of (cond b (on_hit (λ d. removes (owner_of chunks f) d) o) (says NoKeyReply))) s ≡ true
      → is_among (cond b (owner_of chunks f ∷ []) (0 ∷ [])) s ≡ true
  delete_there f None true h = cc
  delete_there f (Some d) true h = h
  delete_there f o false h = cc

  done_there : (command : Command) → is_update command ≡ false → is_among (places_of (doing chunks bag command)) s ≡ true → is_among (targets chunks command) s ≡ true
  done_there (Insert d) other h = insert_there d (held bag (owner_of chunks d) (id_of d)) h
  done_there (Update f u) other h = cc
  done_there (Delete f) other h = delete_there f (hit chunks bag f) (has_key chunks f) h
  done_there (Find f) other h = cc
  done_there (Count f) other h = cc
  done_there Abort other h = cc

pub answers_alone : AnswersAlone
answers_alone chunks bag command target placed whole is other =
    subst (λ ts. doing chunks (bag_on chunks bag ts) command ≡ doing chunks bag command) (sym (shards_are chunks command target is))
    (answered_by_targets chunks bag command placed whole (targets chunks command)
    (λ s h. covered s (is_among (targets chunks command) s) refl (sym (list_any-append (λ t. t == s) (targets chunks command) (places_of (doing chunks (bag_on chunks bag (targets chunks command)) command))) ∙ h)))
  where
    covered : (s : ℕ) (b : Bool) → is_among (targets chunks command) s ≡ b
        → (is_among (targets chunks command) s || is_among (places_of (doing chunks (bag_on chunks bag (targets chunks command)) command)) s) ≡ true → is_among (targets chunks command) s ≡ true
    covered s true e h = e
    covered s false e h =
        done_there chunks (bag_on chunks bag (targets chunks command)) s command other
        (sym (ap (λ b. b || is_among (places_of (doing chunks (bag_on chunks bag (targets chunks command)) command)) s) e) ∙ h)
