-- Documents and entries that are a donor's items make feeds of such items.
use Rattle.std.proofs.Common.{ℕ, Bool, true, false, cond, List, [], ◌∷◌, filter}
use Rattle.std.specs.List.{AllByRecursion}
use Rattle.resh_chunks.specs.Chunks.{Chunks}
use Rattle.resh_feed.specs.Feeds.{items_of, whats}
use Rattle.resh_feed.specs.Items.{Document, is_final, up_to_final}
use Rattle.resh_oplog.specs.declared.entry.Entry.{Entry}
use Rattle.resh_oplog.specs.declared.entry.What.TheVariants.{Insert}
use Rattle.resh_invariant.specs.Items.{AreItemsOf, IsItemOf}

-- documents that are the donor's, and entries
abbrev pub AreDocuments : Chunks → ℕ → List Document → Type 0
AreDocuments old s ds = AllByRecursion (λ d. IsItemOf old s (Insert d)) ds

abbrev pub AreEntries : Chunks → ℕ → List Entry → Type 0
AreEntries old s es = AllByRecursion (λ (e : Entry). IsItemOf old s e.what) es

pub filter_all : {X : Type 0} (P : X → Type 0) (p : X → Bool) (xs : List X) → AllByRecursion P xs → AllByRecursion P (filter p xs)
filter_all P p [] all = tt
filter_all P p (x ∷ xs) all = by (p x) (filter_all P p xs all.1)
  where
    by : (t : Bool) → AllByRecursion P (filter p xs) → AllByRecursion P (cond t (x ∷ filter p xs) (filter p xs))
    by true rest = (all.0, rest)
    by false rest = rest

pub final_all : (P : Entry → Type 0) (es : List Entry) → AllByRecursion P es → AllByRecursion P (up_to_final es)
final_all P [] all = tt
final_all P (e ∷ es) all = (all.0, by (is_final e.what) (final_all P es all.1))
  where
    by : (t : Bool) → AllByRecursion P (up_to_final es) → AllByRecursion P (cond t [] (up_to_final es))
    by true rest = tt
    by false rest = rest

pub fed : (old : Chunks) (s : ℕ) (ds : List Document) (es : List Entry) → AreDocuments old s ds → AreEntries old s es → AreItemsOf old s (whats (items_of ds es))
fed old s [] [] docs all = tt
fed old s [] (e ∷ es) docs all = (all.0, fed old s [] es tt all.1)
fed old s (d ∷ ds) es docs all = (docs.0, fed old s ds es docs.1 all)

-- the documents of a feed
pub fed_documents : (old : Chunks) (s : ℕ) (ds : List Document) (es : List Entry) → AreItemsOf old s (whats (items_of ds es)) → AreDocuments old s ds
fed_documents old s [] es all = tt
fed_documents old s (d ∷ ds) es all = (all.0, fed_documents old s ds es all.1)
