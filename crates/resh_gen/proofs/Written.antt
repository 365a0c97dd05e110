-- Tokens that are written one after another.
use Rattle.std.proofs.Common.{◌≡◌, ℕ, List, [], ◌∷◌, ◌++◌, flat_map, map, refl, ap, sym, ◌∙◌, append_assoc}
use Rattle.json.specs.Token.{Token, begin_object, end_object, key}
use Rattle.json.specs.Print.{print}
use Rattle.resh_value.specs.Text.{array_tokens, object_tokens}
use Rattle.resh_chunks.specs.declared.bound.ChunkRow.{ChunkRow}
use Rattle.resh_setup.specs.declared.setup.Setup.{Setup}
use Rattle.resh_gen.specs.SetupText.{chunk_tokens, setup_text, setup_tokens}

-- an object of two members
pub two_members : (t0 t1 t2 t3 t4 t5 t6 ts us : List Token) (a b : List ℕ)
    → t1 ≡ t0 ++ begin_object ∷ [] → t2 ≡ t1 ++ key a ∷ [] → t3 ≡ t2 ++ ts → t4 ≡ t3 ++ key b ∷ [] → t5 ≡ t4 ++ us
    → t6 ≡ t5 ++ end_object ∷ [] → t6 ≡ t0 ++ object_tokens ((a, ts) ∷ (b, us) ∷ [])
two_members t0 t1 t2 t3 t4 t5 t6 ts us a b e1 e2 e3 e4 e5 e6 = rw (e6, e5, e4, e3, e2, e1) (simp append_assoc refl)

module _ (f : List ℕ → List Token) where
  -- one piece more of those that names stand for
  pub piece : (s t : List Token) (a : List ℕ) (rest : List (List ℕ)) → t ≡ s ++ f a → t ++ flat_map f rest ≡ s ++ flat_map f (a ∷ rest)
  piece s t a rest e = ap (λ t. t ++ flat_map f rest) e ∙ append_assoc s (f a) (flat_map f rest)

abbrev member_tokens : List ℕ × List Token → List Token
member_tokens m = key m.0 ∷ m.1

-- an object begins, its members follow one after another, and it ends
pub begun : (s t : List Token) (ms : List (List ℕ × List Token)) → t ≡ s ++ begin_object ∷ []
    → t ++ (flat_map member_tokens ms ++ end_object ∷ []) ≡ s ++ object_tokens ms
begun s t ms e = ap (λ t. t ++ (flat_map member_tokens ms ++ end_object ∷ [])) e
    ∙ append_assoc s (begin_object ∷ []) (flat_map member_tokens ms ++ end_object ∷ [])

pub put : (s t : List Token) (name : List ℕ) (ts : List Token) (ms : List (List ℕ × List Token)) → t ≡ s ++ key name ∷ ts
    → t ++ (flat_map member_tokens ms ++ end_object ∷ []) ≡ s ++ (flat_map member_tokens ((name, ts) ∷ ms) ++ end_object ∷ [])
put s t name ts ms e = ap (λ t. t ++ (flat_map member_tokens ms ++ end_object ∷ [])) e
    ∙ append_assoc s (key name ∷ ts) (flat_map member_tokens ms ++ end_object ∷ [])
    ∙ ap (λ more. s ++ more) (sym (append_assoc (key name ∷ ts) (flat_map member_tokens ms) (end_object ∷ [])))

-- a name, and then its tokens
pub under : (s t u : List Token) (name : List ℕ) (ts : List Token) → t ≡ s ++ key name ∷ [] → u ≡ t ++ ts → u ≡ s ++ key name ∷ ts
under s t u name ts named is = is ∙ ap (λ t. t ++ ts) named ∙ append_assoc s (key name ∷ []) ts

-- the same rows, known otherwise
pub with_rows : (s t : List Token) (name : List ℕ) (shards : List (List ℕ)) (rows others : List ChunkRow)
    → t ≡ s ++ key name ∷ array_tokens (map (chunk_tokens shards) rows) → rows ≡ others
    → t ≡ s ++ key name ∷ array_tokens (map (chunk_tokens shards) others)
with_rows s t name shards rows others e same = e ∙ ap (λ rows. s ++ key name ∷ array_tokens (map (chunk_tokens shards) rows)) same

-- the text of what was written into nothing
pub text_written : (out text before b i : List ℕ) (tokens t : List Token) (setup : Setup) → out ≡ text ++ 10 ∷ []
    → text ≡ before ++ print tokens → before ≡ b → b ≡ i → i ≡ [] → tokens ≡ t ++ setup_tokens setup → t ≡ []
    → out ≡ setup_text setup
text_written out text before b i tokens t setup out_is text_is before_is b_is i_is tokens_is t_is =
    out_is
    ∙ ap (λ text. text ++ 10 ∷ []) (text_is
    ∙ ap (λ before. before ++ print tokens) (before_is ∙ b_is ∙ i_is)
    ∙ ap print (tokens_is ∙ ap (λ t. t ++ setup_tokens setup) t_is))
