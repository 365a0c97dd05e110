use Rattle.std.proofs.Common.{◌≡◌, [], take, map}
use Rattle.resh_model.proofs.state.no_replies.Given as goal

abbrev pub invariant-loop-client : goal.invariant-loop-client
invariant-loop-client l = l.answers.items ≡ map (λ client. []) (take l._client-index l.clients)
