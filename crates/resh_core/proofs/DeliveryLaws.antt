-- A piece that a step hands over was cut.
use Rattle.std.proofs.Common.{◌≡◌, ◌⊎◌, inl, inr, ℕ, Bool, true, false, cond, ◌==◌, List, [], ◌∷◌, ◌++◌, Option, Some, None, refl, sym, ◌∙◌, ap, subst}
use Rattle.std.specs.Prelude.{find, reverse}
use Rattle.std.specs.List.{Contains}
use Rattle.std.proofs.lemmas.List.{reverse-append}
use Rattle.resh_oplog.specs.declared.piece.Piece.{Piece}
use Rattle.resh_setup.specs.declared.event.Event.{Event}
use Rattle.resh_setup.specs.declared.event.Event.TheVariants.{Client, Begin, Tell, Retell, Advance, Clone, Fetch, Cut, Apply, Again, Record, Crash, Report, Fail}
use Rattle.resh_setup.specs.declared.setup.Setup.{Setup}
use Rattle.resh_cells.specs.Cells.{link_in}
use Rattle.resh_cells.specs.Cuts.{cut_for, last_cut}
use Rattle.resh_cells.specs.declared.cluster.Cluster.{Cluster}
use Rattle.resh_events.specs.Schedules.{Delivers, WasCut}
use Rattle.resh_events.specs.Steps.{may_step, piece_for}
use Rattle.resh_events.specs.Table.{may}
use Rattle.resh_events.specs.rows.Again as again
use Rattle.resh_events.specs.rows.Apply as apply
use Rattle.resh_versions.proofs.Listing.{first_there, later_there}

front : {X : Type 0} (y x : X) (xs : List X) → (Some y ≡ Some x) ⊎ Contains xs x → Contains (y ∷ xs) x
front {X} y x xs (inl is) = let P : X → Type 0 = λ t. Contains (y ∷ xs) t in
    let same : y ≡ x = cc in subst P same (first_there y xs)
front y x xs (inr there) = later_there y xs x there

-- what is found in a list with one more at its end
one_found : {X : Type 0} (p : X → Bool) (b : Bool) (y x : X) → cond b (Some y) (find p []) ≡ Some x
    → (Some y ≡ Some x) ⊎ (find p [] ≡ Some x)
one_found p true y x e = inl e
one_found p false y x e = inr e

first_found : {X : Type 0} (b : Bool) (z y x : X) (both one : Option X)
    → (both ≡ Some x → (Some y ≡ Some x) ⊎ (one ≡ Some x)) → cond b (Some z) both ≡ Some x
    → (Some y ≡ Some x) ⊎ (cond b (Some z) one ≡ Some x)
first_found true z y x both one rest e = inr e
first_found false z y x both one rest e = rest e

in_either : {X : Type 0} (p : X → Bool) (zs : List X) (y x : X) → find p (zs ++ y ∷ []) ≡ Some x
    → (Some y ≡ Some x) ⊎ (find p zs ≡ Some x)
in_either p [] y x h = one_found p (p y) y x h
in_either p (z ∷ zs) y x h = first_found (p z) z y x (find p (zs ++ y ∷ [])) (find p zs) (in_either p zs y x) h

either_there : {X : Type 0} (y x : X) (ys : List X) (found : Option X) → (found ≡ Some x → Contains ys x)
    → (Some y ≡ Some x) ⊎ (found ≡ Some x) → Contains (y ∷ ys) x
either_there y x ys found rest (inl e) = front y x ys (inl e)
either_there y x ys found rest (inr e) = front y x ys (inr (rest e))

-- what is found from the end is there
found_last : {X : Type 0} (p : X → Bool) (xs : List X) (x : X) → find p (reverse xs) ≡ Some x → Contains xs x
found_last p [] x h = cc
found_last p (y ∷ ys) x h =
    either_there y x ys (find p (reverse ys)) (found_last p ys x)
    (in_either p (reverse ys) y x (ap (find p) (sym (reverse-append (y ∷ []) ys)) ∙ h))

last_was_cut : (pieces : List Piece) (position : ℕ) (p : Piece) → last_cut pieces position ≡ Some p → Contains pieces p
last_was_cut pieces position p h = found_last (λ (q : Piece). q.position == position) pieces p h

-- by what is found
found : (cluster : Cluster) (r d l position : ℕ) (found : Option Piece)
    → last_cut (cut_for (link_in cluster r d).sent l) position ≡ found → (found ≡ None → true ≡ false)
    → WasCut cluster r d l found
found cluster r d l position None h k = cc (k refl)
found cluster r d l position (Some p) h k = last_was_cut (cut_for (link_in cluster r d).sent l) position p h

apply_some : (cluster : Cluster) (r d l : ℕ) (piece : Option Piece) → apply.may cluster r d l piece ≡ true → piece ≡ None → true ≡ false
apply_some cluster r d l None h q = sym h
apply_some cluster r d l (Some p) h q = cc

again_some : (cluster : Cluster) (r d l n : ℕ) (piece : Option Piece) → again.may cluster r d l n piece ≡ true → piece ≡ None → true ≡ false
again_some cluster r d l n None h q = sym h
again_some cluster r d l n (Some p) h q = cc

pub piece_delivered : (setup : Setup) (cluster : Cluster) (e : Event) → may_step setup cluster e ≡ true
    → Delivers cluster e (piece_for cluster e)
unfolding may
piece_delivered setup cluster (Client c) h = refl
piece_delivered setup cluster Begin h = refl
piece_delivered setup cluster (Tell s) h = refl
piece_delivered setup cluster (Retell s m) h = refl
piece_delivered setup cluster Advance h = refl
piece_delivered setup cluster (Clone r d) h = refl
piece_delivered setup cluster (Fetch r d) h = refl
piece_delivered setup cluster (Cut r d) h = refl
piece_delivered setup cluster (Apply r d l) h =
    found cluster r.0 d.0 l _ (piece_for cluster (Apply r d l)) refl (apply_some cluster r.0 d.0 l (piece_for cluster (Apply r d l)) h)
piece_delivered setup cluster (Again r d l n) h =
    found cluster r.0 d.0 l n (piece_for cluster (Again r d l n)) refl
    (again_some cluster r.0 d.0 l n (piece_for cluster (Again r d l n)) h)
piece_delivered setup cluster (Record r d) h = refl
piece_delivered setup cluster (Crash r d) h = refl
piece_delivered setup cluster (Report r) h = refl
piece_delivered setup cluster (Fail link cause) h = refl
