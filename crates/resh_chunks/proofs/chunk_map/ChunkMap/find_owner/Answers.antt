use Rattle.std.proofs.Common.{◌≡◌, ◌∙◌, ap, subst, None}
use Rattle.resh_value.specs.OrderLaws.{compare_total}
use Rattle.resh_chunks.specs.Chunks.{Chunks, chunk_fault}
use Rattle.resh_chunks.proofs.Tiling.{first_owns}
use Rattle.resh_chunks.proofs.chunk_map.ChunkMap.find_owner.Goals as goal

pub bounds-rows-place : goal.bounds-rows-place
bounds-rows-place g c =
    let valid = subst (λ (m : Chunks). chunk_fault m ≡ None) c.self.view_is c.self.invariant in
    let rows = c.as_slice-rows.ensures ∙ ap (λ (m : Chunks). m.rows) c.self.view_is in
    (first_owns compare_total c.args.self.now c.as_slice-rows.result.now (g.K.Keyed.key c.args.key.now) c.row_of-place.result valid rows c.row_of-place.ensures).0

pub returns : goal.returns
returns g c =
    let valid = subst (λ (m : Chunks). chunk_fault m ≡ None) c.self.view_is c.self.invariant in
    let rows = c.as_slice-rows.ensures ∙ ap (λ (m : Chunks). m.rows) c.self.view_is in
    (first_owns compare_total c.args.self.now c.as_slice-rows.result.now (g.K.Keyed.key c.args.key.now) c.row_of-place.result valid rows c.row_of-place.ensures).1 c.index-rows-place.result c.index-rows-place.is
