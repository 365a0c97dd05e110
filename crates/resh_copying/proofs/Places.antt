-- What stands at a place of a list or of a list of lists, and a place of it set.
use Rattle.std.proofs.Common.{◌≡◌, ℕ, List, [], Option, Some, None, slice_get, slice_index_or, slice_set, unwrap_or, sym, ap, ◌∙◌}
use Rattle.std.proofs.lemmas.Option.{get_or_from_slice_get, unwrap_or-slice_get}
use Rattle.std.proofs.lemmas.List.{set-get_or}
use Rattle.resh_cells.specs.Cells.{set_in}

-- the cell at a place, or what stands where none is
pub or_item : {X : Type 0} (xs : List X) (i : ℕ) (none x : X) → Some x ≡ slice_get xs i → slice_index_or xs i none ≡ x
or_item xs i none x there = get_or_from_slice_get xs i x none (sym there)

pub or_default : {X : Type 0} (xs : List X) (i : ℕ) (none : X) → None ≡ slice_get xs i → none ≡ slice_index_or xs i none
or_default {X} xs i none there = ap (λ (o : Option X). unwrap_or o none) there ∙ unwrap_or-slice_get xs i none

-- a place set as it was
pub item_as_is : {X : Type 0} (xs : List X) (i : ℕ) (x : X) → Some x ≡ slice_get xs i → slice_set xs i x ≡ xs
item_as_is xs i x there = ap (slice_set xs i) (sym (or_item xs i x x there)) ∙ set-get_or xs i x

module _ {X : Type 0} (rows : List (List X)) (row place : ℕ) where
  -- in a row that is there
  pub in_row : (cells : List X) (none : X) → Some cells ≡ slice_get rows row
      → unwrap_or (slice_get cells place) none ≡ slice_index_or (slice_index_or rows row []) place none
  in_row cells none there =
      unwrap_or-slice_get cells place none
      ∙ ap (λ (c : List X). slice_index_or c place none) (sym (or_item rows row [] cells there))

  -- where no row is
  pub in_none : (none : X) → None ≡ slice_get rows row → none ≡ slice_index_or (slice_index_or rows row []) place none
  in_none none there = ap (λ (c : List X). slice_index_or c place none) (or_default rows row [] there)

  -- the cell of a row
  pub cell_there : (cells : List X) (cell none : X) → Some cells ≡ slice_get rows row → Some cell ≡ slice_get cells place
      → slice_index_or (slice_index_or rows row []) place none ≡ cell
  cell_there cells cell none there here =
      ap (λ (c : List X). slice_index_or c place none) (or_item rows row [] cells there)
      ∙ or_item cells place none cell here

  pub set_there : (cells : List X) (new : X) → Some cells ≡ slice_get rows row
      → slice_set rows row (slice_set cells place new) ≡ set_in rows row place new
  set_there cells new there =
      ap (λ (c : List X). slice_set rows row (slice_set c place new)) (sym (or_item rows row [] cells there))

  pub cell_as_is : (cells : List X) (cell : X) → Some cells ≡ slice_get rows row → Some cell ≡ slice_get cells place
      → slice_set rows row (slice_set cells place cell) ≡ rows
  cell_as_is cells cell there here =
      ap (slice_set rows row) (item_as_is cells place cell here) ∙ item_as_is rows row cells there
