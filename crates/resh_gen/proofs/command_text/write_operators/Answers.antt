use Rattle.std.proofs.Common.{◌∙◌, ◌∷◌, [], List, ℕ, codes, sym}
use Rattle.std.proofs.lemmas.List.{append-nil}
use Rattle.resh_gen.specs.CommandTokens.{operator_tokens}
use Rattle.resh_gen.proofs.Written.{piece}
use Rattle.resh_gen.proofs.command_text.write_operators.Goals as goal

pub returns-clause-tokens : goal.returns-clause-tokens
returns-clause-tokens c =
    let f = operator_tokens c.args.actions.now in
    let r10 : List (List ℕ) = [] in
    let r9 : List (List ℕ) = codes "$unset" ∷ r10 in
    let r8 : List (List ℕ) = codes "$set" ∷ r9 in
    let r7 : List (List ℕ) = codes "$rename" ∷ r8 in
    let r6 : List (List ℕ) = codes "$push" ∷ r7 in
    let r5 : List (List ℕ) = codes "$pop" ∷ r6 in
    let r4 : List (List ℕ) = codes "$mul" ∷ r5 in
    let r3 : List (List ℕ) = codes "$min" ∷ r4 in
    let r2 : List (List ℕ) = codes "$max" ∷ r3 in
    let r1 : List (List ℕ) = codes "$inc" ∷ r2 in
    sym (append-nil _)
    ∙ piece f _ _ (codes "$unset") r10 c.in_ok-write_operator-10.ensures.tokens
    ∙ piece f _ _ (codes "$set") r9 c.in_ok-write_operator-9.ensures.tokens
    ∙ piece f _ _ (codes "$rename") r8 c.in_ok-write_operator-8.ensures.tokens
    ∙ piece f _ _ (codes "$push") r7 c.in_ok-write_operator-7.ensures.tokens
    ∙ piece f _ _ (codes "$pop") r6 c.in_ok-write_operator-6.ensures.tokens
    ∙ piece f _ _ (codes "$mul") r5 c.in_ok-write_operator-5.ensures.tokens
    ∙ piece f _ _ (codes "$min") r4 c.in_ok-write_operator-4.ensures.tokens
    ∙ piece f _ _ (codes "$max") r3 c.in_ok-write_operator-3.ensures.tokens
    ∙ piece f _ _ (codes "$inc") r2 c.in_ok-write_operator-2.ensures.tokens
    ∙ piece f _ _ (codes "$addToSet") r1 c.in_ok-write_operator.ensures.tokens
