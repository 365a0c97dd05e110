-- What a cloner reads of a donor for a recipient.
use Rattle.std.specs.Prelude.{ℕ, ◌==◌, Bool, List, filter, Option, None}
use Rattle.resh_value.specs.declared.value.Value.{Value}
use Rattle.resh_chunks.specs.Chunks.{Chunks, owner_of}
use Rattle.resh_versions.specs.Chains.{Document}
use Rattle.resh_versions.specs.Standing.{VersionsOf, standing_after}

-- the new owner of a document is the recipient
abbrev pub comes_to : Chunks → ℕ → Document → Bool
comes_to new_map recipient document = owner_of new_map document == recipient

-- the documents that stood at the fetch time and come to the recipient, by `_id` above one, if one is given
abbrev pub left_after : VersionsOf → Chunks → ℕ → ℕ → Option Value → List Document
left_after versions new_map fetch_time recipient after =
    filter (comes_to new_map recipient) (standing_after versions fetch_time after)

-- all of them: the part of the donor's feed for the recipient that is cloned
abbrev pub clone_part : VersionsOf → Chunks → ℕ → ℕ → List Document
clone_part versions new_map fetch_time recipient = left_after versions new_map fetch_time recipient None
