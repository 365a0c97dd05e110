-- The lucks of a plan, list by list.
use Rattle.std.proofs.Common.{◌≡◌, ℕ, List, [], ◌∷◌, ◌++◌, length, map, refl, ap, sym, ◌∙◌, append_assoc}
use Rattle.std.proofs.lemmas.List.{map-append}
use Rattle.resh_luck.specs.Fates.{Told, no_calls}
use Rattle.resh_luck.specs.Spans.{LuckOf}
use Rattle.resh_setup.specs.declared.plan.Who.TheVariants.{Coordinator}
use Rattle.resh_setup.specs.declared.setup.Setup.{Setup}
use Rattle.resh_events.specs.Lucks as events
use Rattle.resh_core.specs.Planning.{lane_rows, link_rows, tolds_in}

-- one more luck
pub one_told : (before after : List LuckOf) (luck : LuckOf) (old row more : List Told) (t : Told)
    → tolds_in before ≡ old ++ row → after ≡ before ++ luck ∷ [] → luck.told ≡ t → more ≡ row ++ t ∷ []
    → tolds_in after ≡ old ++ more
one_told before after luck old row more t is pushed told further =
    ap tolds_in pushed ∙ map-append (λ (x : LuckOf). x.told) before (luck ∷ [])
    ∙ ap (λ (ts : List Told). ts ++ luck.told ∷ []) is ∙ ap (λ (x : Told). (old ++ row) ++ x ∷ []) told
    ∙ append_assoc old row (t ∷ []) ∙ ap (λ (ts : List Told). old ++ ts) (sym further)

-- more lucks
pub more_told : (before after : List LuckOf) (old row part more : List Told)
    → tolds_in before ≡ old ++ row → tolds_in after ≡ tolds_in before ++ part → more ≡ row ++ part
    → tolds_in after ≡ old ++ more
more_told before after old row part more is pushed further =
    pushed ∙ ap (λ (ts : List Told). ts ++ part) is ∙ append_assoc old row part
    ∙ ap (λ (ts : List Told). old ++ ts) (sym further)

pub rows_told : (before after : List LuckOf) (row part more : List Told)
    → tolds_in before ≡ row → tolds_in after ≡ tolds_in before ++ part → more ≡ row ++ part → tolds_in after ≡ more
rows_told before after row part more is pushed further =
    pushed ∙ ap (λ (ts : List Told). ts ++ part) is ∙ sym further

abbrev made : Told → List Told → List Told → events.Lucks
made c links lanes = record { coordinator = c; links = links; lanes = lanes }

-- all lucks
pub planned_by : (setup : Setup) (shards : ℕ) (c : Told) (links lanes : List Told) → shards ≡ length setup.shards
    → c ≡ no_calls (events.rows_of setup Coordinator) → links ≡ link_rows setup shards shards
    → lanes ≡ lane_rows setup shards shards
    → record { coordinator = c; links = links; lanes = lanes } ≡ events.planned setup
planned_by setup shards c links lanes many a b d =
    ap (λ (x : Told). made x links lanes) a
    ∙ ap (λ (x : List Told). made (events.planned setup).coordinator x lanes) (b ∙ ap (λ (n : ℕ). link_rows setup n n) many)
    ∙ ap (λ (x : List Told). made (events.planned setup).coordinator (events.planned setup).links x)
    (d ∙ ap (λ (n : ℕ). lane_rows setup n n) many)
