-- Steps that were read name what is there.
use Rattle.std.proofs.Common.{◌≡◌, ℕ, ◌^◌, Bool, true, List, [], ◌∷◌, length, Option, Some, None, Ok, refl, subst}
use Rattle.std.specs.Prelude.{◌&&◌, nat_lt}
use Rattle.serde_json.specs.Data.{Data}
use Rattle.resh_value.specs.Outcome.{and_then}
use Rattle.resh_value.specs.declared.value.ShardId.{ShardId}
use Rattle.resh_setup.specs.Steps.{is_shard, is_link, is_lane, is_step}
use Rattle.resh_setup.specs.Validity.{AreSteps}
use Rattle.resh_setup.specs.declared.client.Client.{Client}
use Rattle.resh_setup.specs.declared.event.Event.{Event}
use Rattle.resh_setup.specs.declared.event.Event.TheVariants as event
use Rattle.resh_setup.specs.declared.event.MessageKind.{MessageKind}
use Rattle.resh_config.specs.declared.step_word.LinkWord.{LinkWord}
use Rattle.resh_config.specs.declared.step_word.LinkWord.TheVariants.{Clone, Fetch, Cut, Record, Crash}
use Rattle.resh_config.specs.declared.step_word.StepWord.{StepWord}
use Rattle.resh_config.specs.declared.step_word.StepWord.TheVariants as word
use Rattle.resh_config.specs.Faults.{Read}
use Rattle.resh_config.specs.Walk.{text_in}
use Rattle.resh_config.specs.Names.{shard_named}
use Rattle.resh_config.specs.Steps.{words_of, step_word, link_event, message_named, number_named, client_of, shard_of, retold_of, link_of, link_lane_named, lane_of, piece_with, piece_of, alone, step_with, step_of, step_in, steps_in}
use Rattle.resh_config.proofs.Outcomes.{Ok-and_then, same_in_Ok}
use Rattle.resh_config.proofs.ListLemmas.{list_tests, within_limit}
use Rattle.resh_config.proofs.WordLemmas.{shard_there, client_there, number_kept, link_read, lane_named_read, lane_read}

client_read : (clients : List Client) (ws : List (List ℕ)) (c : ℕ) → client_of clients ws ≡ Ok c → nat_lt c (length clients) ≡ true
client_read clients [] c is = cc
client_read clients (w ∷ []) c is = client_there clients w c is
client_read clients (w ∷ v ∷ ws) c is = cc

module _ (shards : List (List ℕ)) where
  shard_read : (ws : List (List ℕ)) (s : ShardId) → shard_of shards ws ≡ Ok s → is_shard (length shards) s ≡ true
  shard_read [] s is = cc
  shard_read (w ∷ []) s is = shard_there shards w s is
  shard_read (w ∷ v ∷ ws) s is = cc

  abbrev Retold : Type 0
  Retold = ShardId × MessageKind

  retold_read : (ws : List (List ℕ)) (t : Retold) → retold_of shards ws ≡ Ok t → is_shard (length shards) t.0 ≡ true
  retold_read [] t is = cc
  retold_read (w ∷ []) t is = cc
  retold_read (w ∷ m ∷ []) t is =
      let s = Ok-and_then (λ (shard : ShardId). and_then (λ (message : MessageKind). let made : Read Retold = Ok (shard, message) in made) (message_named m)) (shard_named shards w) t is in
      let u = Ok-and_then (λ (message : MessageKind). let made : Read Retold = Ok (s.0, message) in made) (message_named m) t s.2 in
      subst (λ (x : Retold). is_shard (length shards) x.0 ≡ true) (same_in_Ok (s.0, u.0) t u.2) (shard_there shards w s.0 s.1)
  retold_read (w ∷ m ∷ v ∷ ws) t is = cc

  module _ (lanes : ℕ) where
    abbrev Laned : Type 0
    Laned = (ShardId × ShardId) × ℕ

    abbrev Placed : Type 0
    Placed = Laned × ℕ

    abbrev is_piece : Placed → Bool
    is_piece p = is_lane (length shards) lanes p.0.0.0 p.0.0.1 p.0.1 && nat_lt p.1 (10 ^ 9)

    piece_with_read : (r d l : List ℕ) (ws : List (List ℕ)) (p : Placed) → piece_with shards lanes r d l ws ≡ Ok p → is_piece p ≡ true
    piece_with_read r d l [] p is = cc
    piece_with_read r d l (n ∷ []) p is =
        let s = Ok-and_then (λ (lane : Laned). and_then (λ (position : ℕ). let made : Read Placed = Ok (lane, position) in made) (number_named n)) (link_lane_named shards lanes r d l) p is in
        let t = Ok-and_then (λ (position : ℕ). let made : Read Placed = Ok (s.0, position) in made) (number_named n) p s.2 in
        let lane = lane_named_read shards lanes r d l s.0 s.1 in
        let position = number_kept n t.0 t.1 in
        subst (λ (x : Placed). is_piece x ≡ true) (same_in_Ok (s.0, t.0) p t.2) (λ i. lane i && position i)
    piece_with_read r d l (n ∷ w ∷ ws) p is = cc

    piece_read : (ws : List (List ℕ)) (p : Placed) → piece_of shards lanes ws ≡ Ok p → is_piece p ≡ true
    piece_read [] p is = cc
    piece_read (r ∷ []) p is = cc
    piece_read (r ∷ d ∷ []) p is = cc
    piece_read (r ∷ d ∷ l ∷ ws) p is = piece_with_read r d l ws p is

    module _ (clients : List Client) where
      abbrev is_read : Event → Bool
      is_read e = is_step (length shards) lanes (length clients) e

      -- an event that is made of what was read
      made_of : {A : Type 0} (f : A → Event) (r : Read A) (e : Event) → ((a : A) → r ≡ Ok a → is_read (f a) ≡ true) → and_then (λ a. Ok (f a)) r ≡ Ok e → is_read e ≡ true
      made_of f r e each is =
          let s = Ok-and_then (λ a. let made : Read Event = Ok (f a) in made) r e is in
          subst (λ (x : Event). is_read x ≡ true) (same_in_Ok (f s.0) e s.2) (each s.0 s.1)

      alone_read : (f : Event) (ws : List (List ℕ)) (e : Event) → is_read f ≡ true → alone f ws ≡ Ok e → is_read e ≡ true
      alone_read f [] e there is = subst (λ (x : Event). is_read x ≡ true) (same_in_Ok f e is) there
      alone_read f (w ∷ ws) e there is = cc

      link_step : (w : LinkWord) (recipient donor : ShardId) → is_link (length shards) recipient donor ≡ true → is_read (link_event w recipient donor) ≡ true
      link_step Clone recipient donor h = h
      link_step Fetch recipient donor h = h
      link_step Cut recipient donor h = h
      link_step Record recipient donor h = h
      link_step Crash recipient donor h = h

      step_named : (word : Option StepWord) (ws : List (List ℕ)) (e : Event) → step_with shards clients lanes word ws ≡ Ok e → is_read e ≡ true
      step_named None ws e is = cc
      step_named (Some word.Client) ws e is = made_of event.Client (client_of clients ws) e (client_read clients ws) is
      step_named (Some word.Begin) ws e is = alone_read event.Begin ws e refl is
      step_named (Some word.Tell) ws e is = made_of event.Tell (shard_of shards ws) e (shard_read ws) is
      step_named (Some word.Retell) ws e is = made_of (λ (t : Retold). event.Retell t.0 t.1) (retold_of shards ws) e (retold_read ws) is
      step_named (Some word.Advance) ws e is = alone_read event.Advance ws e refl is
      step_named (Some word.Apply) ws e is = made_of (λ (p : Laned). event.Apply p.0.0 p.0.1 p.1) (lane_of shards lanes ws) e (lane_read shards lanes ws) is
      step_named (Some word.Again) ws e is = made_of (λ (p : Placed). event.Again p.0.0.0 p.0.0.1 p.0.1 p.1) (piece_of shards lanes ws) e (piece_read ws) is
      step_named (Some word.Report) ws e is = made_of event.Report (shard_of shards ws) e (shard_read ws) is
      step_named (Some (word.Link w)) ws e is =
          made_of (λ (l : ShardId × ShardId). link_event w l.0 l.1) (link_of shards ws) e (λ l h. link_step w l.0 l.1 (link_read shards ws l h)) is

      words_named : (ws : List (List ℕ)) (e : Event) → step_of shards clients lanes ws ≡ Ok e → is_read e ≡ true
      words_named [] e is = cc
      words_named (w ∷ ws) e is = step_named (step_word w) ws e is

      step_kept : (before : List Event) (d : Data) (e : Event) → step_in shards clients lanes before d ≡ Ok e → is_read e ≡ true
      step_kept before d e is =
          let s = Ok-and_then (λ (text : List ℕ). step_of shards clients lanes (words_of text)) (text_in d) e is in
          words_named (words_of s.0) e s.2

      pub steps_kept : (d : Data) (steps : List Event) → steps_in shards clients lanes d ≡ Ok steps → AreSteps (length shards) lanes (length clients) steps
      steps_kept d steps is = record {
        few = within_limit (step_in shards clients lanes) 100000 d steps is;
        named = list_tests (step_in shards clients lanes) is_read step_kept 100000 d steps is;
      }
