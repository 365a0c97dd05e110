-- The state after steps, for those who keep a journal.
use Rattle.std.proofs.Common.{◌≡◌, List, [], ◌∷◌, ◌++◌, refl}
use Rattle.resh_turn.specs.declared.story.Made.{Made}
use Rattle.resh_turn.specs.Replay.{replay}

-- one more step
pub replay_one_more : {T G : Type 0} (next : G → Made T → G) (state : G) (steps : List (Made T)) (e : Made T) → replay next state (steps ++ e ∷ []) ≡ next (replay next state steps) e
replay_one_more next state [] e = refl
replay_one_more next state (x ∷ xs) e = replay_one_more next (next state x) xs e
