-- What the versions of one document have, with one more and with one less.
use Rattle.std.proofs.Common.{◌≡◌, ℕ, zero, suc, ◌-◌, ◌≤◌, ◌<◌, Bool, true, false, cond, not, ◌&&◌, ◌||◌, [], ◌∷◌, ◌++◌, length, filter, get_or, take, drop, Option, Some, None, is_some, IfSome, Bor, refl, ap, sym, subst, ◌∙◌, arith, append_assoc, append-nil}
use Rattle.std.proofs.Math.Seq.{take-append_seam, drop-append_seam, take-suc}
use Rattle.std.proofs.lemmas.List.Elements.{filter-append}
use Rattle.std.proofs.lemmas.List.Folds.{list_any-append}
use Rattle.std.proofs.lemmas.List.Sums.{fold-append}
use Rattle.std.proofs.lemmas.Bool.{leb-true, le-leb}
use Rattle.std.proofs.lemmas.List.{length-append, take_all}
use Rattle.std.specs.List.{AllByRecursion, fold, list_any}
use Rattle.std.specs.Option.{option_copied}
use Rattle.resh_versions.specs.Chains.{Document, Chain, newest, is_by, chain_at, without_newest, pruned_chain}
use Rattle.resh_versions.specs.declared.version.Version.{Version}

pub newest_pushed : (chain : Chain) (v : Version) → newest (chain ++ v ∷ []) ≡ v.document
newest_pushed chain v = fold-append (λ (before : Option Document) (w : Version). w.document) None chain (v ∷ [])

kept_last : (b : Bool) (chain : Chain) (v : Version) → newest (chain ++ cond b (v ∷ []) []) ≡ cond b v.document (newest chain)
kept_last true chain v = newest_pushed chain v
kept_last false chain v = ap newest (append-nil chain)

pub chain_at_pushed : (time : ℕ) (chain : Chain) (v : Version) → chain_at time (chain ++ v ∷ []) ≡ cond (is_by time v) v.document (chain_at time chain)
chain_at_pushed time chain v = ap newest (filter-append (is_by time) chain (v ∷ [])) ∙ kept_last (is_by time v) (filter (is_by time) chain) v

pub without_newest_pushed : (chain : Chain) (v : Version) → without_newest (chain ++ v ∷ []) ≡ chain
without_newest_pushed chain v = ap (λ n. take n (chain ++ v ∷ [])) (omega (arith, length-append chain (v ∷ []))) ∙ take-append_seam chain (v ∷ [])

-- what holds of every document holds of the newest one, and of the one at a time
module _ (P : Document → Type 0) where
  abbrev Has : Version → Type 0
  Has v = IfSome v.document P

  last_has : (before : Option Document) (chain : Chain) → IfSome before P → AllByRecursion Has chain → IfSome (fold (λ (d : Option Document) (w : Version). w.document) before chain) P
  last_has before [] h all = h
  last_has before (v ∷ vs) h all = last_has v.document vs all.0 all.1

  pub newest_has : (chain : Chain) → AllByRecursion Has chain → IfSome (newest chain) P
  newest_has chain all = last_has None chain tt all

  some_have : (p : Version → Bool) (chain : Chain) → AllByRecursion Has chain → AllByRecursion Has (filter p chain)
  some_have p [] all = tt
  some_have p (v ∷ vs) all = by (p v) (some_have p vs all.1)
    where
      by : (b : Bool) → AllByRecursion Has (filter p vs) → AllByRecursion Has (cond b (v ∷ filter p vs) (filter p vs))
      by true rest = (all.0, rest)
      by false rest = rest

  pub chain_at_has : (time : ℕ) (chain : Chain) → AllByRecursion Has chain → IfSome (chain_at time chain) P
  chain_at_has time chain all = newest_has _ (some_have (is_by time) chain all)

  pub pushed_has : (chain : Chain) (v : Version) → AllByRecursion Has chain → Has v → AllByRecursion Has (chain ++ v ∷ [])
  pushed_has [] v all h = (h, tt)
  pushed_has (w ∷ ws) v all h = (all.0, pushed_has ws v all.1 h)

  pub taken_has : (n : ℕ) (chain : Chain) → AllByRecursion Has chain → AllByRecursion Has (take n chain)
  taken_has n [] all = none n
    where
      none : (k : ℕ) → AllByRecursion Has (take k [])
      none zero = tt
      none (suc k) = tt
  taken_has zero (v ∷ vs) all = tt
  taken_has (suc n) (v ∷ vs) all = (all.0, taken_has n vs all.1)

  -- what holds of the value behind a reference
  pub behind : (r : Option (Bor Document)) (d : Option Document) → option_copied r ≡ d → IfSome d P → IfSome r (λ x. P x.now)
  behind None d is h = tt
  behind (Some x) d is h = subst (λ o. IfSome o P) (sym is) h

-- one version that isn't later takes the place of those before it, where it has a document; a later one stays
pub pruned_pushed : (time : ℕ) (chain : Chain) (v : Version) → pruned_chain time (chain ++ v ∷ []) ≡ cond (is_by time v) (cond (is_some v.document) (v ∷ []) []) (pruned_chain time chain ++ v ∷ [])
pruned_pushed time [] v = by (is_by time v) (is_some v.document)
  where
    by : (b d : Bool) → cond (b && not d) [] (v ∷ []) ≡ cond b (cond d (v ∷ []) []) (v ∷ [])
    by true true = refl
    by true false = refl
    by false d = refl
pruned_pushed time (w ∷ ws) v =
    ap (λ b. cond b (pruned_chain time (ws ++ v ∷ [])) (cond (is_by time w && not (is_some w.document)) (ws ++ v ∷ []) (w ∷ ws ++ v ∷ []))) (list_any-append (is_by time) ws (v ∷ []))
    ∙ by (list_any (is_by time) ws) (is_by time v) (is_by time w && not (is_some w.document)) (pruned_pushed time ws v)
  where
    by : (a b g : Bool) → pruned_chain time (ws ++ v ∷ []) ≡ cond b (cond (is_some v.document) (v ∷ []) []) (pruned_chain time ws ++ v ∷ [])
        → cond (a || (b || false)) (pruned_chain time (ws ++ v ∷ [])) (cond g (ws ++ v ∷ []) (w ∷ ws ++ v ∷ []))
        ≡ cond b (cond (is_some v.document) (v ∷ []) []) (cond a (pruned_chain time ws) (cond g ws (w ∷ ws)) ++ v ∷ [])
    by true b g is = is
    by false true g is = is
    by false false true is = refl
    by false false false is = refl

pub ends_with : (chain : Chain) (v : Version) → 1 ≤ length chain → v ≡ get_or chain (length chain - 1) v → chain ≡ without_newest chain ++ v ∷ []
ends_with chain v some is =
    sym (take_all (suc (length chain - 1)) chain (omega arith)) ∙ take-suc chain (length chain - 1) v (omega arith) ∙ ap (λ w. without_newest chain ++ w ∷ []) (sym is)

pub is_later : (time : ℕ) (v : Version) → time < v.time → is_by time v ≡ false
is_later time v lt = by (is_by time v) refl
  where
    by : (b : Bool) → is_by time v ≡ b → b ≡ false
    by true e = absurd (omega (arith, leb-true v.time time e))
    by false e = refl

-- versions of which the last ones were walked, all of them later than a time
pub record Walked (time : ℕ) (all rest : Chain) : Type 0 where
  pub later : Chain
  pub whole : all ≡ rest ++ later
  pub left : pruned_chain time all ≡ pruned_chain time rest ++ later

pub walked_none : (time : ℕ) (all : Chain) → Walked time all all
walked_none time all = record { later = []; whole = sym (append-nil all); left = sym (append-nil _) }

module _ (time : ℕ) (all rest : Chain) (v : Version) (some : 1 ≤ length rest) (is : v ≡ get_or rest (length rest - 1) v) (w : Walked time all rest) where
  abbrev before : Chain
  before = without_newest rest

  shifted : all ≡ before ++ v ∷ w.later
  shifted = w.whole ∙ ap (λ c. c ++ w.later) (ends_with rest v some is) ∙ append_assoc before (v ∷ []) w.later

  pruned_rest : (b d : Bool) → is_by time v ≡ b → is_some v.document ≡ d → pruned_chain time all ≡ cond b (cond d (v ∷ []) []) (pruned_chain time before ++ v ∷ []) ++ w.later
  pruned_rest b d by has =
      w.left ∙ ap (λ c. c ++ w.later) (ap (pruned_chain time) (ends_with rest v some is) ∙ pruned_pushed time before v
      ∙ (λ i. cond (by i) (cond (has i) (v ∷ []) []) (pruned_chain time before ++ v ∷ [])))

  pub walked_more : time < v.time → Walked time all before
  walked_more lt = record {
    later = v ∷ w.later;
    whole = shifted;
    left = pruned_rest false _ (is_later time v lt) refl ∙ append_assoc (pruned_chain time before) (v ∷ []) w.later;
  }

  pub keeps_last : v.time ≤ time → (d : Document) → v.document ≡ Some d → pruned_chain time all ≡ drop (length before) all
  keeps_last le d has = pruned_rest true true (le-leb v.time time le) (ap is_some has) ∙ sym (ap (drop (length before)) shifted ∙ drop-append_seam before (v ∷ w.later))

  pub drops_last : v.time ≤ time → v.document ≡ None → pruned_chain time all ≡ drop (length rest) all
  drops_last le has = pruned_rest true false (le-leb v.time time le) (ap is_some has) ∙ sym (ap (drop (length rest)) w.whole ∙ drop-append_seam rest w.later)

pub walked_all : (time : ℕ) (all : Chain) → Walked time all [] → pruned_chain time all ≡ all
walked_all time all w = w.left ∙ sym w.whole
