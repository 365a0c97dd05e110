-- The rows of a plan that were read name what is there, with numbers and a fate of their kind.
use Rattle.std.proofs.Common.{◌≡◌, ℕ, ◌≤◌, Bool, true, false, cond, List, [], ◌∷◌, length, Ok, refl, sym, subst, arith}
use Rattle.std.specs.Prelude.{◌&&◌, nat_lt, nat_le, codes}
use Rattle.std.proofs.lemmas.Bool.Decides.{nat_tests}
use Rattle.serde_json.specs.Data.{Data, Members}
use Rattle.serde_json.specs.Find.{get_member}
use Rattle.resh_value.specs.Names.{same_name}
use Rattle.resh_value.specs.Outcome.{and_then}
use Rattle.resh_value.specs.declared.value.ShardId.{ShardId}
use Rattle.resh_luck.specs.declared.row.Kind.{Kind}
use Rattle.resh_luck.specs.declared.row.Kind.TheVariants.{Commit, Deliver}
use Rattle.resh_luck.specs.declared.row.PlanFate.{PlanFate}
use Rattle.resh_luck.specs.declared.row.PlanFate.TheVariants.{CrashedBefore, CrashedAfter, Failed, Lost, Twice}
use Rattle.resh_luck.specs.declared.row.PlanRow.{PlanRow}
use Rattle.resh_setup.specs.Steps.{is_of_kind, is_row, is_shard, is_who, is_planned}
use Rattle.resh_setup.specs.Validity.{ArePlanned}
use Rattle.resh_setup.specs.declared.plan.Planned.{Planned}
use Rattle.resh_setup.specs.declared.plan.Who.{Who}
use Rattle.resh_setup.specs.declared.plan.Who.TheVariants.{Coordinator, Link, Lane}
use Rattle.resh_value.specs.Walk.{ends}
use Rattle.resh_config.specs.declared.faults.FaultKind.TheVariants.{WrongKind}
use Rattle.resh_config.specs.Faults.{Read}
use Rattle.resh_config.specs.Walk.{row_with, field, field_or, number_in, text_in}
use Rattle.resh_config.specs.Names.{shard_named}
use Rattle.resh_config.specs.Steps.{words_of, lane_named}
use Rattle.resh_config.specs.Plan.{recipient_named, who_of, coordinator_of, who_with, who_in, commit_fate, delivery_fate, fate_named, fate_in, kind_name, kind_of, one_kind, plan_names, numbers_of, planned_of, planned_in, plan_in}
use Rattle.resh_config.proofs.Outcomes.{Ok-and_then, Ok-required, optional_keeps, number_between, same_in_Ok}
use Rattle.resh_config.proofs.ListLemmas.{list_tests, within_limit}
use Rattle.resh_config.proofs.WordLemmas.{shard_there, lane_there}

module _ (shards : List (List ℕ)) (lanes : ℕ) where
  abbrev is_there : Who → Bool
  is_there who = is_who (length shards) lanes who

  recipient_there : (name : List ℕ) (s : ShardId) → recipient_named shards name ≡ Ok s → is_shard (length shards) s ≡ true
  recipient_there [] s is = cc
  recipient_there (b ∷ bs) s is = shard_there shards (b ∷ bs) s is

  who_named : (recipient : ShardId) (ws : List (List ℕ)) (who : Who) → is_shard (length shards) recipient ≡ true → who_of shards lanes recipient ws ≡ Ok who → is_there who ≡ true
  who_named recipient [] who there is = cc
  who_named recipient (d ∷ []) who there is =
      let s = Ok-and_then (λ (donor : ShardId). let made : Read Who = Ok (Link recipient donor) in made) (shard_named shards d) who is in
      let donor = shard_there shards d s.0 s.1 in
      subst (λ (w : Who). is_there w ≡ true) (same_in_Ok (Link recipient s.0) who s.2) (λ i. there i && donor i)
  who_named recipient (d ∷ l ∷ []) who there is =
      let s = Ok-and_then (λ (donor : ShardId). and_then (λ (lane : ℕ). let made : Read Who = Ok (Lane recipient donor lane) in made) (lane_named lanes l)) (shard_named shards d) who is in
      let t = Ok-and_then (λ (lane : ℕ). let made : Read Who = Ok (Lane recipient s.0 lane) in made) (lane_named lanes l) who s.2 in
      let donor = shard_there shards d s.0 s.1 in
      let lane = lane_there lanes l t.0 t.1 in
      subst (λ (w : Who). is_there w ≡ true) (same_in_Ok (Lane recipient s.0 t.0) who t.2) (λ i. (there i && donor i) && lane i)
  who_named recipient (d ∷ l ∷ w ∷ ws) who there is = cc

  coordinator_named : (ws : List (List ℕ)) (who : Who) → coordinator_of ws ≡ Ok who → is_there who ≡ true
  coordinator_named [] who is = subst (λ (w : Who). is_there w ≡ true) (same_in_Ok Coordinator who is) refl
  coordinator_named (w ∷ ws) who is = cc

  words_there : (ws : List (List ℕ)) (who : Who) → who_with shards lanes ws ≡ Ok who → is_there who ≡ true
  words_there [] who is = cc
  words_there (w ∷ ws) who is = by (same_name w (codes "coordinator")) is
    where
      by : (b : Bool) → cond b (coordinator_of ws) (and_then (λ recipient. who_of shards lanes recipient ws) (recipient_named shards w)) ≡ Ok who → is_there who ≡ true
      by true e = coordinator_named ws who e
      by false e =
          let s = Ok-and_then (λ (recipient : ShardId). who_of shards lanes recipient ws) (recipient_named shards w) who e in
          who_named s.0 ws who (recipient_there w s.0 s.1) s.2

  who_there : (d : Data) (who : Who) → who_in shards lanes d ≡ Ok who → is_there who ≡ true
  who_there d who is =
      let s = Ok-and_then (λ (text : List ℕ). who_with shards lanes (words_of text)) (text_in d) who is in
      words_there (words_of s.0) who s.2

commit_of_kind : (name : List ℕ) (fate : PlanFate) → commit_fate name ≡ Ok fate → is_of_kind Commit fate ≡ true
commit_of_kind name fate is = by (same_name name (codes "crashedBefore")) (same_name name (codes "crashedAfter")) (same_name name (codes "failed")) is
  where
    by : (a b c : Bool) → cond a (Ok CrashedBefore) (cond b (Ok CrashedAfter) (cond c (Ok Failed) (ends WrongKind))) ≡ Ok fate → is_of_kind Commit fate ≡ true
    by true b c e = subst (λ f. is_of_kind Commit f ≡ true) (same_in_Ok CrashedBefore fate e) refl
    by false true c e = subst (λ f. is_of_kind Commit f ≡ true) (same_in_Ok CrashedAfter fate e) refl
    by false false true e = subst (λ f. is_of_kind Commit f ≡ true) (same_in_Ok Failed fate e) refl
    by false false false e = cc

delivery_of_kind : (name : List ℕ) (fate : PlanFate) → delivery_fate name ≡ Ok fate → is_of_kind Deliver fate ≡ true
delivery_of_kind name fate is = by (same_name name (codes "lost")) (same_name name (codes "twice")) is
  where
    by : (a b : Bool) → cond a (Ok Lost) (cond b (Ok Twice) (ends WrongKind)) ≡ Ok fate → is_of_kind Deliver fate ≡ true
    by true b e = subst (λ f. is_of_kind Deliver f ≡ true) (same_in_Ok Lost fate e) refl
    by false true e = subst (λ f. is_of_kind Deliver f ≡ true) (same_in_Ok Twice fate e) refl
    by false false e = cc

fate_there : (kind : Kind) (d : Data) (fate : PlanFate) → fate_in kind d ≡ Ok fate → is_of_kind kind fate ≡ true
fate_there kind d fate is = let s = Ok-and_then (fate_named kind) (text_in d) fate is in by kind s.0 s.2
  where
    by : (k : Kind) (name : List ℕ) → fate_named k name ≡ Ok fate → is_of_kind k fate ≡ true
    by Commit name e = commit_of_kind name fate e
    by Deliver name e = delivery_of_kind name fate e

in_order : (first last : ℕ) (fits : Bool) → 1 ≤ first → first ≤ last → last ≤ 100000 → fits ≡ true → (nat_lt 0 first && nat_le first last && nat_le last 100000 && fits) ≡ true
in_order first last fits a b c d =
    let p : nat_lt 0 first ≡ true = grind (arith, nat_tests) in
    let q : nat_le first last ≡ true = grind (arith, nat_tests) in
    let r : nat_le last 100000 ≡ true = grind (arith, nat_tests) in
    λ i. p i && q i && r i && d i

abbrev row_made : Who → Kind → ℕ → ℕ → PlanFate → Read Planned
row_made who kind first last fate = Ok (record { who = who; row = record { kind = kind; first = first; last = last; fate = fate } })

abbrev after_last : Who → Kind → Members → ℕ → ℕ → Read Planned
after_last who kind ds first last = and_then (row_made who kind first last) (field ds (codes "fate") (fate_in kind))

abbrev after_first : Who → Kind → Members → ℕ → Read Planned
after_first who kind ds first = and_then (after_last who kind ds first) (field_or first ds (codes "through") (number_in first 100000))

-- the numbers and the fate of a row that was read
numbers_kept : (who : Who) (kind : Kind) (ds : Members) (p : Planned) → numbers_of who kind ds ≡ Ok p → (p.who ≡ who) × (is_row p.row ≡ true)
numbers_kept who kind ds p is =
    let first = Ok-and_then (after_first who kind ds) (field ds (kind_name kind) (number_in 1 100000)) p is in
    let last = Ok-and_then (after_last who kind ds first.0) (field_or first.0 ds (codes "through") (number_in first.0 100000)) p first.2 in
    let fate = Ok-and_then (row_made who kind first.0 last.0) (field ds (codes "fate") (fate_in kind)) p last.2 in
    let first_at = Ok-required (kind_name kind) (number_in 1 100000) (get_member (kind_name kind) ds) first.0 first.1 in
    let sizes = number_between 1 100000 first_at.0 first.0 first_at.1 in
    let within = optional_keeps (λ (n : ℕ). (first.0 ≤ n) × (n ≤ 100000)) first.0 (codes "through") (number_in first.0 100000) (omega arith, sizes.1)
    (λ d n e. number_between first.0 100000 d n e) (get_member (codes "through") ds) last.0 last.1 in
    let fate_at = Ok-required (codes "fate") (fate_in kind) (get_member (codes "fate") ds) fate.0 fate.1 in
    let row : PlanRow = record { kind = kind; first = first.0; last = last.0; fate = fate.0 } in
    let found : Planned = record { who = who; row = row } in
    let kept : is_row row ≡ true = in_order first.0 last.0 (is_of_kind kind fate.0) sizes.0 within.0 within.1 (fate_there kind fate_at.0 fate.0 fate_at.1) in
    subst (λ (x : Planned). (x.who ≡ who) × (is_row x.row ≡ true)) (same_in_Ok found p fate.2) (refl, kept)

module _ (shards : List (List ℕ)) (lanes : ℕ) where
  planned_kept : (before : List Planned) (d : Data) (p : Planned) → planned_in shards lanes before d ≡ Ok p → is_planned (length shards) lanes p ≡ true
  planned_kept before d p is =
      let row = Ok-and_then (planned_of shards lanes) (and_then one_kind (row_with plan_names d)) p is in
      let who = Ok-and_then (λ (w : Who). numbers_of w (kind_of row.0) row.0) (field row.0 (codes "who") (who_in shards lanes)) p row.2 in
      let who_at = Ok-required (codes "who") (who_in shards lanes) (get_member (codes "who") row.0) who.0 who.1 in
      let there = who_there shards lanes who_at.0 who.0 who_at.1 in
      let kept = numbers_kept who.0 (kind_of row.0) row.0 p who.2 in
      let named : is_who (length shards) lanes p.who ≡ true = subst (λ (w : Who). is_who (length shards) lanes w ≡ true) (sym kept.0) there in
      let numbers = kept.1 in
      λ i. named i && numbers i

  pub plan_kept : (d : Data) (plan : List Planned) → plan_in shards lanes d ≡ Ok plan → ArePlanned (length shards) lanes plan
  plan_kept d plan is = record {
    few = within_limit (planned_in shards lanes) 1000 d plan is;
    named = list_tests (planned_in shards lanes) (is_planned (length shards) lanes) planned_kept 1000 d plan is;
  }
