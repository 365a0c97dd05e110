-- A core that has run is the walk of its order: the order is lawful, and its page is the order's.
use Rattle.std.proofs.Common.{◌≡◌, ℕ, true, List, [], ◌∷◌, length, map, Some, refl, sym, ap, subst, ◌∙◌}
use Rattle.resh_bag.specs.Bag.{Document}
use Rattle.resh_command.specs.declared.reply.Reply.{Reply}
use Rattle.resh_coord.specs.declared.cause.End.{End}
use Rattle.resh_setup.specs.Validity.{IsValid}
use Rattle.resh_setup.specs.declared.setup.Setup.{Setup}
use Rattle.resh_setup.specs.declared.turn.Turn.{Turn}
use Rattle.resh_shard.specs.Shards.{documents_of}
use Rattle.resh_cells.specs.declared.cluster.Cluster.{Cluster}
use Rattle.resh_cells.specs.declared.cluster.ShardCell.{ShardCell}
use Rattle.resh_events.specs.Lucks.{Lucks}
use Rattle.resh_events.specs.Runs.{Run, after_all, opening_run}
use Rattle.resh_events.specs.Sweep.{is_over}
use Rattle.resh_gen.specs.Summary.{summary_of}
use Rattle.resh_law.specs.Laws.{IsWalkOf, SchedulesEnd}
use Rattle.resh_model.specs.Orders.{IsLawful, last_state}
use Rattle.resh_report.specs.Lines.{names_of}
use Rattle.resh_report.specs.Page.{page_with_lines_text}
use Rattle.resh_core.specs.Cores.{CoreOf}
use Rattle.resh_run.specs.Cluster.{core_page, core_summary, counts_in, holdings_in, order_summary, page_with_lines_of}
use Rattle.resh_run.proofs.Licences.{MakesOrder}

pub core_walks : (setup : Setup) (last : CoreOf) (later : Lucks) → IsValid setup → SchedulesEnd → MakesOrder setup last later
    → is_over setup last.cluster ≡ true → IsWalkOf setup last.cluster last.order
core_walks setup last later valid ends made over =
    let reached : last.cluster ≡ (after_all setup (opening_run setup) made.moments).cluster = ap (λ (r : Run). r.cluster) made.ends in
    subst (λ (c : Cluster). IsWalkOf setup c last.order) (sym reached)
    (subst (λ (ts : List Turn). IsWalkOf setup (after_all setup (opening_run setup) made.moments).cluster ts) (sym made.order)
    (ends setup made.moments valid made.schedule (subst (λ (c : Cluster). is_over setup c ≡ true) reached over)))

-- how many documents each shard holds
counted : (cells : List ShardCell)
    → map (λ (c : ShardCell). length (documents_of c.shard)) cells ≡ map (λ (ds : List Document). length ds) (map (λ (c : ShardCell). documents_of c.shard) cells)
counted [] = refl
counted (c ∷ cs) = ap (λ (ns : List ℕ). length (documents_of c.shard) ∷ ns) (counted cs)

module _ (setup : Setup) (last : CoreOf) (order : List Turn) (ended : End) (walk : IsWalkOf setup last.cluster last.order)
    (order_is : order ≡ last.order) (decided : last.cluster.control.decision ≡ Some ended) where
  one_end : walk.end ≡ ended
  one_end = let same : Some walk.end ≡ Some ended = sym walk.decided ∙ decided in cc

  pub order_lawful : IsLawful setup order ended
  order_lawful =
      subst (λ (ts : List Turn). IsLawful setup ts ended) (sym order_is)
      (subst (λ (e : End). IsLawful setup last.order e) one_end walk.lawful)

  pub order_page : (lines : List (List ℕ)) (text : List ℕ) → text ≡ core_page setup lines last ended
      → text ≡ page_with_lines_of setup lines order ended
  order_page lines text is =
      is
      ∙ (ap (λ (rs : List (List Reply)). page_with_lines_text lines setup.shards (names_of setup.clients) last.order ended rs (holdings_in last.cluster)) walk.replies
      ∙ (ap (λ (hs : List (List Document)). page_with_lines_text lines setup.shards (names_of setup.clients) last.order ended (last_state setup last.order).answers hs)
      walk.holdings
      ∙ ap (λ (ts : List Turn). page_with_lines_of setup lines ts ended) (sym order_is)))

  pub order_sum : (number : ℕ) (text : List ℕ) → text ≡ core_summary number setup last ended → text ≡ order_summary number setup order ended
  order_sum number text is =
      is
      ∙ (ap (λ (rs : List (List Reply)). summary_of number setup ended rs (counts_in last.cluster)) walk.replies
      ∙ (ap (λ (ns : List ℕ). summary_of number setup ended (last_state setup last.order).answers ns)
      (counted last.cluster.shards ∙ ap (λ (hs : List (List Document)). map (λ (ds : List Document). length ds) hs) walk.holdings)
      ∙ ap (λ (ts : List Turn). order_summary number setup ts ended) (sym order_is)))
