-- Writes of one document, as look-ups see them, and the room that they leave.
use Rattle.std.proofs.Common.{◌≡◌, ◌≤◌, ◌<◌, ℕ, ◌+◌, min, ◌-◌, Bool, true, false, not, nat_lt, position, cond, List, [], ◌∷◌, length, map, zero, suc, slice_index_or, slice_set, is_some, IsTrue, IsOk, OnOk, OnErr, Result, Ok, Err, Option, Some, None, arith, refl, sym, ap, subst, ◌∙◌}
use Rattle.std.proofs.lemmas.List.{length-map, length-set}
use Rattle.std.proofs.lemmas.Option.{same_Some}
use Rattle.std.specs.List.{prefix_len}
use Rattle.std.specs.Option.{option_map, option_map_or}
use Rattle.std.specs.FinMap.{contains_key, get, insert, len, remove, get-insert, get-remove, len-insert, len-remove}
use Rattle.resh_value.specs.Order.{is_same}
use Rattle.resh_value.specs.OrderLaws.{compare_total, same_from_test}
use Rattle.resh_value.specs.declared.change.Change.{Change}
use Rattle.resh_value.specs.declared.value.Value.{Value}
use Rattle.resh_stash.specs.Stored.{Document, Stored, StashOf, applied, changed_to}
use Rattle.resh_rules.specs.Pools.{documents_of, put_at, spare_of, stashed, waiting_of}
use Rattle.resh_rules.specs.Writes.{IsWritten}

pub put_written : (before after : Stored) (id : Value) (document : Document) → after ≡ insert before id document → IsWritten before after id (Some document)
put_written before after id document is other = ap (λ m. get m other) is ∙ get-insert compare_total before id document other

pub taken_written : (before after : Stored) (id : Value) → after ≡ remove before id → IsWritten before after id None
taken_written before after id is other = ap (λ m. get m other) is ∙ get-remove compare_total before id other

missing_same : (m : Stored) (id other : Value) (b : Bool) → is_same other id ≡ b → get m id ≡ None → get m other ≡ cond b None (get m other)
missing_same m id other true same none = subst (λ q. get m q ≡ None) (sym (same_from_test other id same)) none
missing_same m id other false same none = refl

altered : (before : Stored) (id other : Value) (change : Change) (o : Option Document) → get before id ≡ o
    → get (option_map_or (λ d. insert before id (changed_to change d)) o before) other ≡ cond (is_same other id) (option_map (changed_to change) o) (get before other)
altered before id other change (Some d) is = get-insert compare_total before id (changed_to change d) other
altered before id other change None is = missing_same before id other (is_same other id) refl is

pub alter_written : (before after : Stored) (id : Value) (change : Change) → after ≡ applied before id change → IsWritten before after id (option_map (changed_to change) (get before id))
alter_written before after id change is other = ap (λ m. get m other) is ∙ altered before id other change (get before id) refl

-- as many documents as before, at most one more, or no more
pub put_count : (before after : Stored) (id : Value) (document : Document) → after ≡ insert before id document → len after ≤ len before + 1
put_count before after id document is = by (contains_key before id) (ap len is ∙ len-insert compare_total before id document)
  where
    by : (b : Bool) → len after ≡ cond b (len before) (len before + 1) → len after ≤ len before + 1
    by true e = omega (arith, e)
    by false e = omega (arith, e)

pub take_count : (before after : Stored) (id : Value) → after ≡ remove before id → len after ≤ len before
take_count before after id is = by (contains_key before id) (ap len is ∙ len-remove compare_total before id)
  where
    by : (b : Bool) → len after ≡ cond b (len before - 1) (len before) → len after ≤ len before
    by true e = omega (arith, e)
    by false e = omega (arith, e)

alter_each : (before : Stored) (id : Value) (change : Change) (o : Option Document) → get before id ≡ o
    → len (option_map_or (λ d. insert before id (changed_to change d)) o before) ≡ len before
alter_each before id change (Some d) is = len-insert compare_total before id (changed_to change d) ∙ ap (λ b. cond b (len before) (len before + 1)) (ap is_some is)
alter_each before id change None is = refl

pub alter_count : (before after : Stored) (id : Value) (change : Change) → after ≡ applied before id change → len after ≡ len before
alter_count before after id change is = ap len is ∙ alter_each before id change (get before id) refl

pub ok_after : {X Y : Type 0} (r : Result X Y) (P Q : Type 0) → (P → Q) → OnOk r P → OnOk r Q
ok_after (Ok x) P Q f p = f p
ok_after (Err e) P Q f p = tt

pub ok_then : {X Y : Type 0} (r : Result X Y) (P : Type 0) → IsOk r → OnOk r P → P
ok_then (Ok x) P is p = p
ok_then (Err e) P is p = cc

-- what is held is replaced, since an answer for want of memory says that it isn't held
pub held_then : {X Y Z : Type 0} (r : Result X Y) (o : Option Z) (P : Type 0) → OnErr r (o ≡ None) → IsTrue (is_some o) → OnOk r P → P
held_then (Ok x) o P none held p = p
held_then (Err e) (Some z) P none held p = cc
held_then (Err e) None P none held p = cc

pub image_some : {X Z : Type 0} (r : Option Z) (o : Option X) (f : X → Z) → r ≡ option_map f o → IsTrue (is_some o) → IsTrue (is_some r)
image_some r (Some x) f is held = ap is_some is
image_some r None f is held = cc

-- what was taken is the document, under its `_id`
pub image_parts : (o : Option Document) (id : Value) (p : Value × Document) → Some p ≡ option_map (λ document. (id, document)) o → (p.0 ≡ id) × (o ≡ Some p.1)
image_parts (Some d) id p is = let same : p ≡ (id, d) = same_Some _ _ is in (ap (λ q. q.0) same, ap (λ (q : Value × Document). Some q.1) (sym same))
image_parts None id p is = cc

cons_either : {X : Type 0} (b : Bool) (x y z : X) (xs ys zs : List X) → x ≡ cond b y z → xs ≡ cond b ys zs → x ∷ xs ≡ cond b (y ∷ ys) (z ∷ zs)
cons_either true x y z xs ys zs p q = λ i. p i ∷ q i
cons_either false x y z xs ys zs p q = λ i. p i ∷ q i

either_same : {X : Type 0} (b : Bool) (x : X) → x ≡ cond b x x
either_same true x = refl
either_same false x = refl

module _ (id other : Value) (written : Option Document) where
  pub set_at : (before : List StashOf) (place : ℕ) (s s' : StashOf) → place < length before → s ≡ slice_index_or before place s → IsWritten s.documents s'.documents id written
      → waiting_of (documents_of (slice_set before place s')) other ≡ cond (is_same other id) (slice_set (waiting_of (documents_of before) other) place written) (waiting_of (documents_of before) other)
  set_at [] place s s' within is w = absurd (omega (arith, within))
  set_at (b ∷ bs) zero s s' within is w =
      cons_either (is_same other id) (get s'.documents other) written (get b.documents other) _ _ _ (w other ∙ ap (λ (t : StashOf). cond (is_same other id) written (get t.documents other)) is) (either_same (is_same other id) _)
  set_at (b ∷ bs) (suc place) s s' within is w =
      cons_either (is_same other id) (get b.documents other) (get b.documents other) (get b.documents other) _ _ _ (either_same (is_same other id) _) (set_at bs place s s' (omega (arith, within)) is w)

pub least_output : (output : StashOf) (stashes : List StashOf) → spare_of output stashes ≤ output.spare
least_output output [] = omega arith
least_output output (s ∷ ss) = let rest = least_output output ss in omega (arith, rest)

pub lowered_output : (output output' : StashOf) (stashes : List StashOf) (n : ℕ) → output.spare ≤ output'.spare + n → spare_of output stashes ≤ spare_of output' stashes + n
lowered_output output output' [] n less = less
lowered_output output output' (s ∷ ss) n less = let rest = lowered_output output output' ss n less in omega (arith, rest)

pub least_at : (output : StashOf) (stashes : List StashOf) (place : ℕ) (d : StashOf) → place < length stashes → spare_of output stashes ≤ (slice_index_or stashes place d).spare
least_at output [] place d within = absurd (omega (arith, within))
least_at output (s ∷ ss) zero d within = omega arith
least_at output (s ∷ ss) (suc place) d within = let rest = least_at output ss place d (omega (arith, within)) in omega (arith, rest)

pub lowered_at : (output : StashOf) (stashes : List StashOf) (place : ℕ) (s s' : StashOf) (n : ℕ) → place < length stashes → s ≡ slice_index_or stashes place s → s.spare ≤ s'.spare + n
    → spare_of output stashes ≤ spare_of output (slice_set stashes place s') + n
lowered_at output [] place s s' n within is less = absurd (omega (arith, within))
lowered_at output (t ∷ ts) zero s s' n within is less = let here = ap (λ (u : StashOf). u.spare) is in omega (arith, here, less)
lowered_at output (t ∷ ts) (suc place) s s' n within is less = let rest = lowered_at output ts place s s' n (omega (arith, within)) is less in omega (arith, rest)

pub spare_at : (output : StashOf) (stashes : List StashOf) (place : ℕ) (s s' : StashOf) → place < length stashes → s ≡ slice_index_or stashes place s → s'.spare ≡ s.spare
    → spare_of output (slice_set stashes place s') ≡ spare_of output stashes
spare_at output [] place s s' within is same = absurd (omega (arith, within))
spare_at output (t ∷ ts) zero s s' within is same = ap (λ n. min n (spare_of output ts)) (same ∙ ap (λ (u : StashOf). u.spare) is)
spare_at output (t ∷ ts) (suc place) s s' within is same = ap (min t.spare) (spare_at output ts place s s' (omega (arith, within)) is same)

pub spare_output : (output output' : StashOf) (stashes : List StashOf) → output'.spare ≡ output.spare → spare_of output' stashes ≡ spare_of output stashes
spare_output output output' [] same = same
spare_output output output' (s ∷ ss) same = ap (min s.spare) (spare_output output output' ss same)

-- what the stash at a place has of an `_id`
pub waits_at : (stashes : List StashOf) (place : ℕ) (s : StashOf) (id : Value) → place < length stashes → s ≡ slice_index_or stashes place s
    → get s.documents id ≡ slice_index_or (waiting_of (documents_of stashes) id) place None
waits_at [] place s id within is = absurd (omega (arith, within))
waits_at (t ∷ ts) zero s id within is = ap (λ (u : StashOf). get u.documents id) is
waits_at (t ∷ ts) (suc place) s id within is = waits_at ts place s id (omega (arith, within)) is

pub as_many : (stashes : List StashOf) (place : ℕ) (s : StashOf) → length (documents_of (slice_set stashes place s)) ≡ length (documents_of stashes)
as_many stashes place s = length-map (slice_set stashes place s) (λ (t : StashOf). t.documents) ∙ length-set stashes place s ∙ sym (length-map stashes (λ (t : StashOf). t.documents))

prefix_of_images : {X Y : Type 0} (p : Y → Bool) (f : X → Y) (xs : List X) → prefix_len p (map f xs) ≡ prefix_len (λ x. p (f x)) xs
prefix_of_images p f [] = refl
prefix_of_images p f (x ∷ xs) = ap (λ n. cond (p (f x)) (1 + n) 0) (prefix_of_images p f xs)

-- the first of several stashes that has an `_id`
pub first_place : (stashes : List StashOf) (id : Value) → position (λ (s : StashOf). is_some (get s.documents id)) stashes ≡ position is_some (waiting_of (documents_of stashes) id)
first_place stashes id =
    let lengths : length (waiting_of (documents_of stashes) id) ≡ length stashes = length-map (documents_of stashes) (λ stash. get stash id) ∙ length-map stashes (λ (s : StashOf). s.documents) in
    let places : prefix_len (λ o. not (is_some o)) (waiting_of (documents_of stashes) id) ≡ prefix_len (λ (s : StashOf). not (is_some (get s.documents id))) stashes =
    prefix_of_images (λ o. not (is_some o)) (λ stash. get stash id) (documents_of stashes) ∙ prefix_of_images (λ stash. not (is_some (get stash id))) (λ (s : StashOf). s.documents) stashes in
    λ i. cond (nat_lt (sym places i) (sym lengths i)) (Some (sym places i)) None

-- how many documents wait, where one of several stashes is another
module _ (stashes : List StashOf) where
  pub counted_at : (place : ℕ) (s s' : StashOf) → place < length stashes → s ≡ slice_index_or stashes place s
      → stashed (documents_of (slice_set stashes place s')) + len s.documents ≡ stashed (documents_of stashes) + len s'.documents
  counted_at place s s' within is = by stashes place within is
    where
      by : (ss : List StashOf) (place : ℕ) → place < length ss → s ≡ slice_index_or ss place s → stashed (documents_of (slice_set ss place s')) + len s.documents ≡ stashed (documents_of ss) + len s'.documents
      by [] place within is = absurd (omega (arith, within))
      by (t ∷ ts) zero within is = let here : len s.documents ≡ len t.documents = ap (λ (u : StashOf). len u.documents) is in omega (arith, here)
      by (t ∷ ts) (suc place) within is = let rest = by ts place (omega (arith, within)) is in omega (arith, rest)
