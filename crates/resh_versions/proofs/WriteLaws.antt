-- What one more version changes, and what it leaves.
use Rattle.std.proofs.Common.{◌≡◌, ◌≢◌, ℕ, ◌≤◌, ◌<◌, max, Bool, true, false, cond, [], ◌∷◌, ◌++◌, filter, Option, Some, None, is_some, unwrap_or, refl, ap, sym, ◌∙◌, subst}
use Rattle.std.proofs.lemmas.Bool.{le-leb}
use Rattle.std.proofs.lemmas.Map.Views.{tells_apart}
use Rattle.std.specs.Cmp.{eq_by_cmp_equiv}
use Rattle.std.specs.FinMap.{get, get-empty, get-insert, get-remove}
use Rattle.std.specs.List.{AllByRecursion}
use Rattle.std.specs.Ordering.{eq_by_cmp}
use Rattle.resh_value.specs.Order.{compare_of}
use Rattle.resh_value.specs.OrderLaws.{compare_total, compare_same}
use Rattle.resh_value.specs.declared.value.Value.{Value}
use Rattle.resh_versions.specs.Chains.{Chain, Document, newest, is_by, chain_at, version, without_newest}
use Rattle.resh_versions.specs.Laws.{AddsVersion, TakesBack, ReadsNow, RemovesOne, StartsEmpty, KeepsFiled}
use Rattle.resh_versions.specs.Standing.{Chains, IsChainOf, IsFiled, IsUpTo, VersionsOf, at, chain_in, chain_of, now, pushed, popped, with_chain, with_removal}
use Rattle.resh_versions.specs.declared.version.Version.{Version}
use Rattle.resh_versions.proofs.ChainLaws.{newest_pushed, chain_at_pushed, without_newest_pushed, is_later}
use Rattle.resh_versions.proofs.Filing.{same_chains, are_after, turned, longer, chain_stands}
use Rattle.resh_versions.proofs.Pruning.{pruned_filed}

itself : (id : Value) → eq_by_cmp compare_of id id ≡ true
itself id = (eq_by_cmp_equiv compare_total).refl id

apart : (id other : Value) → other ≢ id → eq_by_cmp compare_of other id ≡ false
apart id other differ = by (eq_by_cmp compare_of other id) refl
  where
    by : (b : Bool) → eq_by_cmp compare_of other id ≡ b → b ≡ false
    by true e = absurd (differ (tells_apart compare_same other id e))
    by false e = refl

module _ (chains : Chains) (id : Value) (v : Version) where
  abbrev more : Chain
  more = chain_in chains id ++ v ∷ []

  get_pushed : (q : Value) → get (pushed chains id v) q ≡ cond (eq_by_cmp compare_of q id) (Some more) (get chains q)
  get_pushed q = get-insert compare_total chains id more q

  pub pushed_there : chain_in (pushed chains id v) id ≡ more
  pushed_there = ap (λ r. unwrap_or r []) (get_pushed id ∙ ap (λ b. cond b (Some more) (get chains id)) (itself id))

  pub pushed_elsewhere : (other : Value) → other ≢ id → chain_in (pushed chains id v) other ≡ chain_in chains other
  pushed_elsewhere other differ = ap (λ r. unwrap_or r []) (get_pushed other ∙ ap (λ b. cond b (Some more) (get chains other)) (apart id other differ))

  pub popped_pushed : IsFiled chains → popped (pushed chains id v) id ≡ chains
  popped_pushed are =
      ap (λ c. with_chain (pushed chains id v) id (without_newest c)) pushed_there ∙ ap (with_chain (pushed chains id v) id) (without_newest_pushed (chain_in chains id) v)
      ∙ same_chains _ _ (λ q. by q (get chains id) refl)
    where
      same : (q : Value) → eq_by_cmp compare_of q id ≡ true → get chains id ≡ get chains q
      same q e = ap (get chains) (sym (tells_apart compare_same q id e))

      twice : (q : Value) (r : Option Chain) (b : Bool) → eq_by_cmp compare_of q id ≡ b → get chains id ≡ r → cond b r (cond b (Some more) (get chains q)) ≡ get chains q
      twice q r true e is = sym is ∙ same q e
      twice q r false e is = refl

      by : (q : Value) (r : Option Chain) → get chains id ≡ r → get (with_chain (pushed chains id v) id (unwrap_or r [])) q ≡ get chains q
      by q None is =
          get-remove compare_total (pushed chains id v) id q ∙ ap (cond (eq_by_cmp compare_of q id) None) (get_pushed q) ∙ twice q None _ refl is
      by q (Some []) is = absurd ((are id [] is).filled refl)
      by q (Some (w ∷ ws)) is =
          get-insert compare_total (pushed chains id v) id (w ∷ ws) q ∙ ap (cond (eq_by_cmp compare_of q id) (Some (w ∷ ws))) (get_pushed q) ∙ twice q (Some (w ∷ ws)) _ refl is

  unseen : (time : ℕ) (other : Value) → time < v.time → (b : Bool) → eq_by_cmp compare_of other id ≡ b → chain_at time (chain_in (pushed chains id v) other) ≡ chain_at time (chain_in chains other)
  unseen time other lt true e =
      ap (λ k. chain_at time (chain_in (pushed chains id v) k)) same ∙ ap (chain_at time) pushed_there ∙ chain_at_pushed time (chain_in chains id) v
      ∙ ap (λ b. cond b v.document (chain_at time (chain_in chains id))) (is_later time v lt) ∙ ap (λ k. chain_at time (chain_in chains k)) (sym same)
    where
      same : other ≡ id
      same = tells_apart compare_same other id e
  unseen time other lt false e = ap (λ r. chain_at time (unwrap_or r [])) (get_pushed other ∙ ap (λ b. cond b (Some more) (get chains other)) e)

  pub unseen_before : (time : ℕ) (other : Value) → time < v.time → chain_at time (chain_in (pushed chains id v) other) ≡ chain_at time (chain_in chains other)
  unseen_before time other lt = unseen time other lt (eq_by_cmp compare_of other id) refl

  pushed_all : (P : Version → Type 0) (c : Chain) → AllByRecursion P c → P v → AllByRecursion P (c ++ v ∷ [])
  pushed_all P [] all p = (p, tt)
  pushed_all P (w ∷ ws) all p = (all.0, pushed_all P ws all.1 p)

  pub holds_pushed : (P : Version → Type 0) → ((q : Value) → AllByRecursion P (chain_in chains q)) → P v → (q : Value) → AllByRecursion P (chain_in (pushed chains id v) q)
  holds_pushed P all p q = by (eq_by_cmp compare_of q id) refl
    where
      by : (b : Bool) → eq_by_cmp compare_of q id ≡ b → AllByRecursion P (chain_in (pushed chains id v) q)
      by true e = subst (λ r. AllByRecursion P (unwrap_or r [])) (sym (get_pushed q ∙ ap (λ b. cond b (Some more) (get chains q)) e)) (pushed_all P (chain_in chains id) (all id) p)
      by false e = subst (λ r. AllByRecursion P (unwrap_or r [])) (sym (get_pushed q ∙ ap (λ b. cond b (Some more) (get chains q)) e)) (all q)

pub adds_version : AddsVersion
adds_version = record {
  now_there = λ s id v. ap newest (pushed_there s.chains id v) ∙ newest_pushed (chain_of s id) v;
  now_elsewhere = λ s id other v differ. ap newest (pushed_elsewhere s.chains id v other differ);
  from_then = λ s id v time le. ap (chain_at time) (pushed_there s.chains id v) ∙ chain_at_pushed time (chain_of s id) v ∙ ap (λ b. cond b v.document (chain_at time (chain_of s id))) (le-leb v.time time le);
  before = λ s id other v time lt. unseen_before s.chains id v time other lt;
  elsewhere = λ s id other v time differ. ap (chain_at time) (pushed_elsewhere s.chains id v other differ);
  up_to = λ s id v time all le. holds_pushed s.chains id v (λ w. w.time ≤ time) all le;
}

pub takes_back : TakesBack
takes_back s id v are = ap (λ c. record { chains = c; floor = s.floor }) (popped_pushed s.chains id v are)

all_by : (time : ℕ) (chain : Chain) → AllByRecursion (λ (w : Version). w.time ≤ time) chain → filter (is_by time) chain ≡ chain
all_by time [] all = refl
all_by time (v ∷ vs) all = ap (λ b. cond b (v ∷ filter (is_by time) vs) (filter (is_by time) vs)) (le-leb v.time time all.0) ∙ ap (λ c. v ∷ c) (all_by time vs all.1)

pub reads_now : ReadsNow
reads_now s time id all = ap newest (all_by time (chain_of s id) all)

pub starts_empty : StartsEmpty
starts_empty = record {
  now = λ floor id. ap (λ r. newest (unwrap_or r [])) (get-empty compare_of id);
  at = λ floor time id. ap (λ r. chain_at time (unwrap_or r [])) (get-empty compare_of id);
  up_to = λ floor time id. subst (λ r. AllByRecursion (λ (v : Version). v.time ≤ time) (unwrap_or r [])) (sym (get-empty compare_of id)) tt;
}

pub keeps_filed : KeepsFiled
keeps_filed = record {
  empty = λ id chain is. absurd (not_some chain (sym (get-empty compare_of id) ∙ is));
  added = λ s id v are named. are_after id (Some (more s.chains id v)) (get s.chains) (get (pushed s.chains id v))
      (λ q. get_pushed s.chains id v q ∙ ap (λ b. cond b (Some (more s.chains id v)) (get s.chains q)) (sym (turned id q))) are
      (λ chain e. subst (IsChainOf id) (ap (λ r. unwrap_or r chain) e) (longer id (chain_in s.chains id) v (chain_stands s.chains id are) named));
  pruned = λ s time are. pruned_filed (max s.floor time) s.chains are;
}
  where
    not_some : (chain : Chain) → None ≡ Some chain → ⊥
    not_some chain e = cc

-- a removal is a version that is nothing, or no change
module _ (s : VersionsOf) (removed : ℕ) (id : Value) where
  abbrev removal : Bool → VersionsOf
  removal stood = record s { chains = cond stood (pushed s.chains id (version removed None)) s.chains }

  removed_there : now (with_removal s removed id) id ≡ None
  removed_there = by (is_some (now s id)) refl
    where
      none : (d : Option Document) → is_some d ≡ false → d ≡ None
      none None e = refl
      none (Some d) e = cc

      by : (b : Bool) → is_some (now s id) ≡ b → now (removal b) id ≡ None
      by true e = adds_version.now_there s id (version removed None)
      by false e = none (now s id) e

  removed_elsewhere : (other : Value) → other ≢ id → now (with_removal s removed id) other ≡ now s other
  removed_elsewhere other differ = by (is_some (now s id))
    where
      by : (b : Bool) → now (removal b) other ≡ now s other
      by true = adds_version.now_elsewhere s id other (version removed None) differ
      by false = refl

  removed_before : (time : ℕ) (other : Value) → time < removed → at (with_removal s removed id) time other ≡ at s time other
  removed_before time other lt = by (is_some (now s id))
    where
      by : (b : Bool) → at (removal b) time other ≡ at s time other
      by true = adds_version.before s id other (version removed None) time lt
      by false = refl

  removed_up_to : (time : ℕ) → IsUpTo time s → removed ≤ time → IsUpTo time (with_removal s removed id)
  removed_up_to time all le = by (is_some (now s id))
    where
      by : (b : Bool) → IsUpTo time (removal b)
      by true = adds_version.up_to s id (version removed None) time all le
      by false = all

  removed_filed : IsFiled s.chains → IsFiled (with_removal s removed id).chains
  removed_filed are = by (is_some (now s id))
    where
      by : (b : Bool) → IsFiled (removal b).chains
      by true = keeps_filed.added s id (version removed None) are tt
      by false = are

pub removes_one : RemovesOne
removes_one = record {
  now_there = removed_there;
  now_elsewhere = λ s removed id other differ. removed_elsewhere s removed id other differ;
  before = λ s removed time id other lt. removed_before s removed id time other lt;
  up_to = λ s removed time id all le. removed_up_to s removed id time all le;
  filed = λ s removed id are. removed_filed s removed id are;
}
