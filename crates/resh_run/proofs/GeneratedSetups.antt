-- A generated setup is valid.
use Rattle.std.proofs.Common.{◌≡◌, ℕ, zero, suc, ◌+◌, ◌-◌, ◌*◌, ◌^◌, ◌%◌, ◌<◌, ◌≤◌, Bool, true, false, cond, not, ◌&&◌, ◌||◌, ◌==◌, List, [], ◌∷◌, ◌++◌, length, map, max, codes, pos, Some, None, Option, eqb, refl, sym, ap, ◌∙◌, subst, rules, arith, length-append}
use Rattle.std.proofs.lemmas.Bool.Decides.{Decides-int_eq}
use Rattle.std.proofs.lemmas.Fmt.{length-decimal-le}
use Rattle.std.proofs.lemmas.List.FromFn.{length-map-range_with_len, map-range_with_len_more}
use Rattle.std.proofs.lemmas.List.Elements.{All-cons, All-nil}
use Rattle.std.specs.Fmt.{decimal}
use Rattle.std.specs.List.{AllByRecursion, list_any, range_with_len}
use Rattle.std.specs.Option.{option_or}
use Rattle.std.specs.Ordering.{int_cmp, is_eq, is_lt, ordering_then}
use Rattle.std.specs.declared.cmp.Ordering.{Ordering}
use Rattle.std.specs.declared.cmp.Ordering.TheVariants.{Equal}
use Rattle.json.specs.Token.{Token, number as number_token}
use Rattle.json.specs.Print.{begins, ends, escape_byte, print, print_from, separator, token_text}
use Rattle.resh_value.specs.Depth.{document_levels, greatest, levels_of}
use Rattle.resh_value.specs.Limits.{text_limit}
use Rattle.resh_value.specs.Order.{compare_of}
use Rattle.resh_value.specs.Text.{document_text, object_tokens, tokens_of}
use Rattle.resh_value.specs.derived.OrderEquations.{compare_Int}
use Rattle.resh_value.specs.declared.value.Value.{Value, the_lemmas}
use Rattle.resh_value.specs.declared.value.Value.TheVariants.{Int}
use Rattle.resh_value.proofs.WholeLaws.{rising_decides}
use Rattle.resh_chunks.specs.Bounds.{bound_cmp}
use Rattle.resh_chunks.specs.Chunks.{Chunks, chunk_fault, fault_where, gap_or_overlap, owner_of}
use Rattle.resh_chunks.specs.declared.faults.ChunkFault.{ChunkFault}
use Rattle.resh_chunks.specs.declared.faults.ChunkFault.TheVariants.{EmptyRange}
use Rattle.resh_ops.specs.Updates.{HasPaths, IsPath, IsUpdate, path}
use Rattle.resh_ops.specs.declared.operator.Operator.TheVariants.{Inc, Set}
use Rattle.resh_setup.specs.Documents.{Document, IsCommand, IsFilter, IsStored, deletes, first_same, inserts, is_id, same_place, updates}
use Rattle.resh_setup.specs.Validity.{IsValid}
use Rattle.resh_gen.specs.Commands.{chosen, command_at, filter, first_commands, update}
use Rattle.resh_gen.specs.Documents.{document, document_at, field, first_documents, x_of, y_of}
use Rattle.resh_gen.specs.Draws.{drawn}
use Rattle.resh_gen.specs.Generated.{bound_at, generated, map_over}

-- ---- texts

-- a token's text and a comma
costs : List Token → ℕ
costs [] = 0
costs (t ∷ ts) = (length (token_text t) + 1) + costs ts

one_comma : (a b : Bool) → length {A = ℕ} (cond (a && b) (44 ∷ []) []) ≤ 1
one_comma true true = omega arith
one_comma true false = omega arith
one_comma false b = omega arith

printed_within : (after : Bool) (ts : List Token) → length (print_from after ts) ≤ costs ts
unfolding print_from costs
printed_within after [] = omega arith
printed_within after (t ∷ ts) =
    let more = printed_within (ends t) ts in
    let comma = one_comma after (begins t) in
    omega (arith, length-append (separator after t) (token_text t ++ print_from (ends t) ts), length-append (token_text t) (print_from (ends t) ts), comma, more)

tokens-Int : (n : ℕ) → tokens_of (Int (pos n)) ≡ number_token (decimal n) ∷ []
unfolding tokens_of
tokens-Int n = search (rules, the_lemmas)

-- a document's tokens, from those of its values
abbrev tokens_with : (id n x y : List Token) → List Token
tokens_with id n x y = object_tokens ((codes "_id", id) ∷ (codes "n", n) ∷ (codes "x", x) ∷ (codes "y", y) ∷ [])

number_length : (digits : List ℕ) → length (token_text (number_token digits)) ≡ length digits
number_length digits = refl

costs_with : (id n x y : List ℕ)
    → costs (tokens_with (number_token id ∷ []) (number_token n ∷ []) (number_token x ∷ []) (number_token y ∷ [])) ≤ 40 + length id + length n + length x + length y
unfolding costs escape_byte
costs_with id n x y = omega (arith, number_length id, number_length n, number_length x, number_length y)

short_number : (n : ℕ) → n < 10 ^ 6 → length (decimal n) ≤ 6
short_number n h = length-decimal-le 6 n (omega arith) h (omega (arith, h))

short_text : (id x y : ℕ) → id < 10 ^ 6 → x < 10 ^ 6 → y < 10 ^ 6 → length (document_text (document id x y)) ≤ text_limit
short_text id x y i j k =
    let same : length (document_text (document id x y))
    ≡ length (print (tokens_with (number_token (decimal id) ∷ []) (number_token (decimal 0) ∷ []) (number_token (decimal x) ∷ []) (number_token (decimal y) ∷ [])))
    = λ t. length (print (tokens_with (tokens-Int id t) (tokens-Int 0 t) (tokens-Int x t) (tokens-Int y t))) in
    let within = printed_within false (tokens_with (number_token (decimal id) ∷ []) (number_token (decimal 0) ∷ []) (number_token (decimal x) ∷ []) (number_token (decimal y) ∷ [])) in
    omega (arith, same, within, costs_with (decimal id) (decimal 0) (decimal x) (decimal y), short_number id i, short_number 0 (omega arith), short_number x j, short_number y k)

-- ---- levels

levels-Int : (n : ℕ) → levels_of (Int (pos n)) ≡ 0
unfolding levels_of
levels-Int n = search (rules, the_lemmas)

levels_of_document : (id x y : ℕ) → document_levels (document id x y) ≡ 1
levels_of_document id x y = λ t. suc (greatest (levels-Int id t ∷ levels-Int 0 t ∷ levels-Int x t ∷ levels-Int y t ∷ []))

levels_of_filter : (id x y : ℕ) → document_levels (filter id x y) ≡ 1
levels_of_filter id x y = λ t. suc (greatest (levels-Int id t ∷ levels-Int x t ∷ levels-Int y t ∷ []))

-- ---- documents and commands

number_is_id : (n : ℕ) → is_id (Some (Int (pos n))) ≡ true
number_is_id n = search (rules, the_lemmas)

stored_document : (id x y : ℕ) → id < 10 ^ 6 → x < 10 ^ 6 → y < 10 ^ 6 → IsStored (document id x y)
stored_document id x y i j k = record {
  whole = record { rising = (rising_decides (document id x y)).0 refl; id = refl };
  id = number_is_id id;
  short = short_text id x y i j k;
  shallow = omega (arith, levels_of_document id x y);
}

is_filter : (id x y : ℕ) → IsFilter (filter id x y)
is_filter id x y = record { rising = (rising_decides (filter id x y)).0 refl; undotted = refl; shallow = omega (arith, levels_of_filter id x y) }

below : (n : ℕ) → n % 1000 < 10 ^ 6
below n = omega arith

chosen_well : (kind index x y z : ℕ) → index < 100000 → z < 10 ^ 6 → IsCommand (chosen kind index x y z)
chosen_well zero index x y z i k = inserts (document (50000 + index) z (999 - z)) (stored_document (50000 + index) z (999 - z) (omega (arith, i)) k (omega arith))
chosen_well (suc zero) index x y z i k =
    updates (filter index x y) (update (Inc (pos 1)) (codes "n")) (is_filter index x y)
    (All-cons HasPaths (record { path = codes "n" ∷ []; operator = Inc (pos 1) }) [] (All-cons IsPath (codes "n" ∷ []) [] (path (codes "n") [] refl) (All-nil IsPath)) (All-nil HasPaths))
chosen_well (suc (suc zero)) index x y z i k =
    updates (filter index x y) (update (Set (Int (pos z))) (codes "y")) (is_filter index x y)
    (All-cons HasPaths (record { path = codes "y" ∷ []; operator = Set (Int (pos z)) }) [] (All-cons IsPath (codes "y" ∷ []) [] (path (codes "y") [] refl) (All-nil IsPath)) (All-nil HasPaths))
chosen_well (suc (suc (suc more))) index x y z i k = deletes (filter index x y) (is_filter index x y)

and_false : (a : Bool) → (a && false) ≡ false
and_false true = refl
and_false false = refl

module _ (number : ℕ) where
  stored_from : (first count : ℕ) → first + count ≤ 100000 → AllByRecursion IsStored (map (document_at number) (range_with_len first count))
  stored_from first zero h = tt
  stored_from first (suc count) h =
      (stored_document first (x_of number first) (y_of number first) (omega (arith, h)) (below _) (below _), stored_from (first + 1) count (omega (arith, h)))

  stored_documents : (count : ℕ) → count ≤ 100000 → AllByRecursion IsStored (first_documents number count)
  unfolding first_documents
  stored_documents count h = stored_from 0 count (omega (arith, h))

  many_documents : (count : ℕ) → length (first_documents number count) ≡ count
  unfolding first_documents
  many_documents count = length-map-range_with_len (document_at number) 0 count

  asked_from : (place first count : ℕ) → place < 4 → first + count ≤ 10000
      → AllByRecursion IsCommand (map (λ turn. command_at number (4 * turn + place)) (range_with_len first count))
  asked_from place first zero p h = tt
  asked_from place first (suc count) p h = (
    chosen_well (drawn number (100000 + 2 * (4 * first + place)) % 4) (4 * first + place) (x_of number (4 * first + place)) (y_of number (4 * first + place))
        (drawn number (100001 + 2 * (4 * first + place)) % 1000) (omega (arith, p, h)) (below _),
    asked_from place (first + 1) count p (omega (arith, h)),
  )

  asked : (place count : ℕ) → place < 4 → count ≤ 10000 → AllByRecursion IsCommand (first_commands number place count)
  unfolding first_commands
  asked place count p h = asked_from place 0 count p (omega (arith, h))

  many_commands : (place count : ℕ) → length (first_commands number place count) ≡ count
  unfolding first_commands
  many_commands place count = length-map-range_with_len (λ turn. command_at number (4 * turn + place)) 0 count

  -- ---- places

  module _ (chunks : Chunks) where
    unequal : (i j : ℕ) → i < j → is_eq (int_cmp (pos j) (pos i)) ≡ false
    unequal i j h = by (is_eq (int_cmp (pos j) (pos i))) refl
      where
        by : (b : Bool) → is_eq (int_cmp (pos j) (pos i)) ≡ b → b ≡ false
        by true e = let same : pos j ≡ pos i = (Decides-int_eq (pos j) (pos i)).0 e in let equal : j ≡ i = cc in absurd (omega (arith, h, equal))
        by false e = refl

    apart : (i j : ℕ) → i < j → same_place chunks (document_at number j) (document_at number i) ≡ false
    apart i j h =
        let ids : is_eq (compare_of (Int (pos j)) (Int (pos i))) ≡ false = ap is_eq (compare_Int (pos j) (pos i)) ∙ unequal i j h in
        ap (λ b. (owner_of chunks (document_at number j) == owner_of chunks (document_at number i)) && b) ids ∙ and_false _

    none_before : (first count j : ℕ) → first + count ≤ j
        → list_any (same_place chunks (document_at number j)) (map (document_at number) (range_with_len first count)) ≡ false
    none_before first zero j h = refl
    none_before first (suc count) j h =
        ap (λ b. b || list_any (same_place chunks (document_at number j)) (map (document_at number) (range_with_len (first + 1) count))) (apart first j (omega (arith, h)))
        ∙ none_before (first + 1) count j (omega (arith, h))

    distinct_from : (first count : ℕ)
        → first_same chunks (map (document_at number) (range_with_len 0 first)) (map (document_at number) (range_with_len first count)) ≡ None
    distinct_from first zero = refl
    distinct_from first (suc count) =
        let before = map (document_at number) (range_with_len 0 first) in
        let rest = map (document_at number) (range_with_len (first + 1) count) in
        ap (λ b. cond b (Some (length before)) (first_same chunks (before ++ document_at number first ∷ []) rest)) (none_before 0 first first (omega arith))
        ∙ ap (λ (ds : List Document). first_same chunks ds rest) (sym (map-range_with_len_more (document_at number) 0 first first (omega arith)))
        ∙ distinct_from (first + 1) count

    distinct : (count : ℕ) → first_same chunks [] (first_documents number count) ≡ None
    unfolding first_documents
    distinct count = distinct_from 0 count

-- ---- maps

-- the fault of four chunks, by how the bounds between them compare
abbrev fault_with : (end_1 range_1 end_2 range_2 end_3 : Ordering) → Option ChunkFault
fault_with end_1 range_1 end_2 range_2 end_3 =
    option_or (option_or (gap_or_overlap 1 end_1) (fault_where (not (is_lt range_1)) (EmptyRange 1)))
    (option_or (option_or (gap_or_overlap 2 end_2) (fault_where (not (is_lt range_2)) (EmptyRange 2)))
    (option_or (option_or (gap_or_overlap 3 end_3) None) None))

compared : (m n : ℕ) → bound_cmp (bound_at m) (bound_at n) ≡ ordering_then (int_cmp (pos m) (pos n)) Equal
compared m n = ap (λ o. ordering_then o Equal) (compare_Int (pos m) (pos n))

whole_old : chunk_fault (map_over (codes "x") (0 ∷ 1 ∷ 2 ∷ 3 ∷ [])) ≡ None
whole_old = λ t. fault_with (compared 250 250 t) (compared 250 500 t) (compared 500 500 t) (compared 500 750 t) (compared 750 750 t)

whole_new : chunk_fault (map_over (codes "y") (1 ∷ 2 ∷ 3 ∷ 0 ∷ [])) ≡ None
whole_new = λ t. fault_with (compared 250 250 t) (compared 250 500 t) (compared 500 500 t) (compared 500 750 t) (compared 750 750 t)

-- ---- the setup

pub generated_valid : (number : ℕ) → IsValid (generated number)
generated_valid number = record {
  shards = refl;
  old = record { key = refl; few = omega arith; whole = whole_old; count = refl };
  new = record { key = refl; few = omega arith; whole = whole_new; count = refl };
  documents = record {
    few = omega (arith, many_documents number 50000);
    stored = stored_documents number 50000 (omega arith);
    distinct = distinct number (map_over (codes "x") (0 ∷ 1 ∷ 2 ∷ 3 ∷ [])) 50000;
  };
  clients = record {
    few = omega arith;
    names = refl;
    few_commands = omega (arith, many_commands number 0 5000, many_commands number 1 5000, many_commands number 2 5000, many_commands number 3 5000);
    commands = (
      asked number 0 5000 (omega arith) (omega arith),
      (
        asked number 1 5000 (omega arith) (omega arith),
        (asked number 2 5000 (omega arith) (omega arith), (asked number 3 5000 (omega arith) (omega arith), tt)),
      ),
    );
  };
  sizes = record { some_lanes = omega arith; few_lanes = omega arith; some_entries = omega arith; few_entries = omega arith };
  steps = record { few = omega arith; named = refl };
  plan = record { few = omega arith; named = refl };
}
