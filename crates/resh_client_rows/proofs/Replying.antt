-- A client is answered: the order and its cell have one reply more.
use Rattle.std.proofs.Common.{◌≡◌, ◌<◌, ℕ, zero, suc, List, [], ◌∷◌, ◌++◌, length, slice_index_or, slice_set, sym, ap, subst, ◌∙◌, arith}
use Rattle.resh_cells.specs.Cells.{client_in, no_client}
use Rattle.resh_cells.specs.declared.cluster.ClientCell.{ClientCell}
use Rattle.resh_cells.specs.declared.cluster.Cluster.{Cluster}
use Rattle.resh_command.specs.declared.reply.Reply.{Reply}
use Rattle.resh_events.specs.rows.Client.{with_reply}
use Rattle.resh_keeping.proofs.Places.{length-set}
use Rattle.resh_model.specs.Orders.{State, replied, replies_to}
use Rattle.resh_setup.specs.declared.setup.Setup.{Setup}
use Rattle.resh_invariant.specs.Keeping.{IsClientKept, Keeps}
use Rattle.resh_invariant.specs.Sources.{Clones}

no_place : (k : ℕ) → k < 0 → ⊥
no_place k lt = omega arith

uneven : (b : ℕ) → 0 ≡ suc b → ⊥
uneven b e = omega (arith, e)

fewer : (a b : ℕ) → suc a ≡ suc b → a ≡ b
fewer a b e = omega (arith, e)

first : (b : ℕ) → 0 < suc b
first b = omega arith

later : (a b : ℕ) → a < b → suc a < suc b
later a b lt = omega arith

sooner : (a b : ℕ) → suc a < suc b → a < b
sooner a b lt = omega arith

-- what holds of two lists place by place, with one place of both set
set_both : {X Y : Type 0} (P : ℕ → X → Y → Type 0) (xs : List X) (ys : List Y) (i : ℕ) (x other : X) (y beside : Y) → length ys ≡ length xs
    → (i < length xs → P i x y) → ((k : ℕ) → k < length xs → P k (slice_index_or xs k other) (slice_index_or ys k beside))
    → (k : ℕ) → k < length xs → P k (slice_index_or (slice_set xs i x) k other) (slice_index_or (slice_set ys i y) k beside)
set_both P [] ys i x other y beside even here all k lt = absurd (no_place k lt)
set_both P (a ∷ xs) [] i x other y beside even here all k lt = absurd (uneven (length xs) even)
set_both P (a ∷ xs) (b ∷ ys) zero x other y beside even here all zero lt = here (first (length xs))
set_both P (a ∷ xs) (b ∷ ys) zero x other y beside even here all (suc k) lt = all (suc k) lt
set_both P (a ∷ xs) (b ∷ ys) (suc i) x other y beside even here all zero lt = all zero lt
set_both P (a ∷ xs) (b ∷ ys) (suc i) x other y beside even here all (suc k) lt =
    set_both (λ n z w. P (suc n) z w) xs ys i x other y beside (fewer (length ys) (length xs) even) (λ l. here (later i (length xs) l))
    (λ n l. all (suc n) (later n (length xs) l)) k (sooner k (length xs) lt)

module _ (setup : Setup) (state : State) (clones : Clones) (cluster : Cluster) (keeps : Keeps setup state clones cluster) (c : ℕ) (reply : Reply) where
  abbrev next : ClientCell
  next = record (client_in cluster c) { replies = (client_in cluster c).replies ++ reply ∷ [] }

  here : c < length setup.clients → IsClientKept cluster.control.decision (replies_to state c ++ reply ∷ []) next
  here lt = record { answers = ap (λ (rs : List Reply). rs ++ reply ∷ []) (keeps.clients c lt).answers; knows = (keeps.clients c lt).knows }

  pub reply_keeps : Keeps setup (replied c reply state) clones (with_reply c reply cluster)
  reply_keeps = record {
    shard_count = keeps.shard_count;
    clock_count = keeps.clock_count;
    lane_rows = keeps.lane_rows;
    link_rows = keeps.link_rows;
    client_count = length-set cluster.clients c next ∙ keeps.client_count;
    answered = length-set state.answers c (replies_to state c ++ reply ∷ []) ∙ keeps.answered;
    noted = keeps.noted;
    decided = record {
      stage = keeps.decided.stage;
      map = keeps.decided.map;
      placed = keeps.decided.placed;
      whole = keeps.decided.whole;
      fetch = keeps.decided.fetch;
    };
    clients = λ q lt.
        set_both (λ k cell replies. k < length setup.clients → IsClientKept cluster.control.decision replies cell) cluster.clients state.answers c next no_client
        (replies_to state c ++ reply ∷ []) [] (keeps.answered ∙ sym keeps.client_count) (λ l k_in. here k_in) (λ k l k_in. keeps.clients k k_in) q
        (subst (λ n. q < n) (sym keeps.client_count) lt) lt;
    donors = keeps.donors;
    recipients = keeps.recipients;
    contents = keeps.contents;
  }
