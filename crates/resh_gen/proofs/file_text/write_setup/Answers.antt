use Rattle.std.proofs.Common.{◌∙◌, ◌∷◌, [], List, ℕ, codes, map}
use Rattle.json.specs.Token.{Token}
use Rattle.resh_value.specs.Text.{array_tokens, document_tokens}
use Rattle.resh_gen.specs.SetupText.{chunks_tokens, client_tokens, names_tokens, number_tokens}
use Rattle.resh_gen.proofs.Written.{begun, put, under, with_rows}
use Rattle.resh_gen.proofs.file_text.write_setup.Goals as goal

abbrev Members : Type 0
Members = List (List ℕ × List Token)

pub returns-clause-tokens : goal.returns-clause-tokens
returns-clause-tokens c =
    let setup = c.args.setup.now in
    let m10 : Members = [] in
    let m9 : Members = (codes "version", number_tokens 1) ∷ m10 in
    let m8 : Members = (codes "shards", names_tokens setup.shards) ∷ m9 in
    let m7 : Members = (codes "oldKey", names_tokens setup.old_map.pattern) ∷ m8 in
    let m6 : Members = (codes "oldChunks", chunks_tokens setup.shards setup.old_map) ∷ m7 in
    let m5 : Members = (codes "newKey", names_tokens setup.new_map.pattern) ∷ m6 in
    let m4 : Members = (codes "newChunks", chunks_tokens setup.shards setup.new_map) ∷ m5 in
    let m3 : Members = (codes "lanes", number_tokens setup.lanes) ∷ m4 in
    let m2 : Members = (codes "documents", array_tokens (map document_tokens setup.documents)) ∷ m3 in
    let m1 : Members = (codes "clients", array_tokens (map client_tokens setup.clients)) ∷ m2 in
    let m0 : Members = (codes "batch", number_tokens setup.batch) ∷ m1 in
    c.in_ok-end_object.ensures.ok
    ∙ put _ _ _ _ m10 c.in_ok-write_number-3.ensures.tokens
    ∙ put _ _ _ _ m9 c.in_ok-write_names.ensures.tokens
    ∙ put _ _ _ _ m8 c.in_ok-write_key-2.ensures.tokens
    ∙ put _ _ _ _ m7 (with_rows _ _ _ _ _ _ c.in_ok-write_rows-2.ensures.tokens c.rows-2.ensures)
    ∙ put _ _ _ _ m6 c.in_ok-write_key.ensures.tokens
    ∙ put _ _ _ _ m5 (with_rows _ _ _ _ _ _ c.in_ok-write_rows.ensures.tokens c.rows.ensures)
    ∙ put _ _ _ _ m4 c.in_ok-write_number-2.ensures.tokens
    ∙ put _ _ _ _ m3 (under _ _ _ _ _ c.in_ok-key-2.ensures.ok c.in_ok-write_documents.ensures.tokens)
    ∙ put _ _ _ _ m2 (under _ _ _ _ _ c.in_ok-key.ensures.ok c.in_ok-write_clients.ensures.tokens)
    ∙ put _ _ _ _ m1 c.in_ok-write_number.ensures.tokens
    ∙ begun _ _ m0 c.in_ok-begin_object.ensures.ok
