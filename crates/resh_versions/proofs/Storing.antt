-- Documents that are stored alone: of several of one `_id` the last one stands.
use Rattle.std.proofs.Common.{◌≡◌, ℕ, ◌≤◌, Bool, true, false, cond, List, [], ◌∷◌, Option, Some, None, unwrap_or, refl, sym, ap, ◌∙◌, subst, arith}
use Rattle.std.proofs.lemmas.Bool.{le-leb}
use Rattle.std.specs.FinMap.{empty, get, get-empty, get-insert}
use Rattle.std.specs.List.{AllByRecursion, fold}
use Rattle.resh_value.specs.Lookup.{id_of}
use Rattle.resh_value.specs.Order.{compare_of, is_same}
use Rattle.resh_value.specs.OrderLaws.{compare_total}
use Rattle.resh_value.specs.declared.value.Value.{Value}
use Rattle.resh_versions.specs.Chains.{Chain, Document, IsStored, chain_at, newest, version}
use Rattle.resh_versions.specs.Laws.{StoresLast}
use Rattle.resh_versions.specs.Standing.{Chains, IsChainOf, IsFiled, chain_in, with_first}
use Rattle.resh_versions.specs.declared.version.Version.{Version}
use Rattle.resh_versions.proofs.Filing.{are_after, longer, turned}
use Rattle.resh_versions.proofs.WriteLaws.{keeps_filed}

module _ (time : ℕ) where
  abbrev first : Document → Chain
  first d = version time (Some d) ∷ []

  get_first : (chains : Chains) (d : Document) (q : Value) → get (with_first time chains d) q ≡ cond (is_same q (id_of d)) (Some (first d)) (get chains q)
  get_first chains d q = get-insert compare_total chains (id_of d) (first d) q

  -- what is read of a chain of one document, of the chains that several leave
  reads_last : (P : Chain → Option Document) → ((d : Document) → P (first d) ≡ Some d) → (ds : List Document) (chains : Chains) (o : Option Document) (id : Value) → P (chain_in chains id) ≡ o
      → P (chain_in (fold (with_first time) chains ds) id) ≡ fold (λ (before : Option Document) d. cond (is_same id (id_of d)) (Some d) before) o ds
  reads_last P one [] chains o id is = is
  reads_last P one (d ∷ ds) chains o id is =
      reads_last P one ds (with_first time chains d) (cond (is_same id (id_of d)) (Some d) o) id (ap (λ r. P (unwrap_or r [])) (get_first chains d id) ∙ by (is_same id (id_of d)))
    where
      by : (b : Bool) → P (unwrap_or (cond b (Some (first d)) (get chains id)) []) ≡ cond b (Some d) o
      by true = one d
      by false = is

  abbrev InTime : Chains → Type 0
  InTime chains = (id : Value) → AllByRecursion (λ (v : Version). v.time ≤ time) (chain_in chains id)

  in_time : (ds : List Document) (chains : Chains) → InTime chains → InTime (fold (with_first time) chains ds)
  in_time [] chains all = all
  in_time (d ∷ ds) chains all =
      in_time ds (with_first time chains d) (λ id. subst (λ r. AllByRecursion (λ (v : Version). v.time ≤ time) (unwrap_or r [])) (sym (get_first chains d id)) (by id (is_same id (id_of d))))
    where
      by : (id : Value) (b : Bool) → AllByRecursion (λ (v : Version). v.time ≤ time) (unwrap_or (cond b (Some (first d)) (get chains id)) [])
      by id true = (omega arith, tt)
      by id false = all id

  one_filed : (chains : Chains) (d : Document) → IsFiled chains → IsStored d → IsFiled (with_first time chains d)
  one_filed chains d are whole =
      are_after (id_of d) (Some (first d)) (get chains) (get (with_first time chains d))
      (λ q. get_first chains d q ∙ ap (λ b. cond b (Some (first d)) (get chains q)) (sym (turned (id_of d) q))) are
      (λ chain e. subst (IsChainOf (id_of d)) (ap (λ r. unwrap_or r chain) e) (longer (id_of d) [] (version time (Some d)) tt (record { whole = whole; named = refl })))

  all_filed : (ds : List Document) (chains : Chains) → IsFiled chains → AllByRecursion IsStored ds → IsFiled (fold (with_first time) chains ds)
  all_filed [] chains are whole = are
  all_filed (d ∷ ds) chains are whole = all_filed ds (with_first time chains d) (one_filed chains d are whole.0) whole.1

pub stores_last : StoresLast
stores_last = record {
  now = λ time ds id. reads_last time newest (λ d. refl) ds empty None id (ap (λ r. newest (unwrap_or r [])) (get-empty compare_of id));
  at = λ time later ds id le.
      reads_last time (chain_at later) (λ d. ap (λ b. newest (cond b (version time (Some d) ∷ []) [])) (le-leb time later le)) ds empty None id (ap (λ r. chain_at later (unwrap_or r [])) (get-empty compare_of id));
  up_to = λ time ds. in_time time ds empty (λ id. subst (λ r. AllByRecursion (λ (v : Version). v.time ≤ time) (unwrap_or r [])) (sym (get-empty compare_of id)) tt);
  filed = λ time ds whole. all_filed time ds empty keeps_filed.empty whole;
}
