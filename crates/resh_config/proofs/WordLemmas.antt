-- The words of steps and plans that were read name what is there.
use Rattle.std.proofs.Common.{◌≡◌, ◌∙◌, ℕ, ◌^◌, ◌<◌, ◌≤◌, Bool, true, false, cond, List, [], ◌∷◌, length, Option, Some, None, Result, Ok, refl, sym, ap, subst, arith}
use Rattle.std.specs.Prelude.{◌&&◌, nat_lt, nat_le, position}
use Rattle.std.specs.Char.{is_ascii_digit}
use Rattle.std.specs.List.{list_all}
use Rattle.std.specs.Str.{all_ascii_digits}
use Rattle.std.specs.Str.Parse.{digits_value, ParsesUnsigned}
use Rattle.std.proofs.lemmas.Bool.Decides.{nat_tests}
use Rattle.std.proofs.lemmas.List.Quantifiers.{position-Some}
use Rattle.std.proofs.lemmas.Str.Parse.{IsNumeralModel, numerals_by_value, tells_all_ascii_digits, digits_value_short, parse_gives}
use Rattle.resh_value.specs.Names.{same_name}
use Rattle.resh_value.specs.Outcome.{and_then}
use Rattle.resh_value.specs.declared.value.ShardId.{ShardId}
use Rattle.resh_setup.specs.Names.{is_node_name}
use Rattle.resh_setup.specs.Steps.{is_shard, is_link, is_lane}
use Rattle.resh_setup.specs.Validity.{is_called}
use Rattle.resh_setup.specs.declared.client.Client.{Client}
use Rattle.resh_value.specs.Walk.{ends}
use Rattle.resh_config.specs.declared.faults.FaultKind.TheVariants.{WrongKind}
use Rattle.resh_config.specs.Faults.{Read}
use Rattle.resh_config.specs.Walk.{accept}
use Rattle.resh_config.specs.Names.{found_shard, shard_named}
use Rattle.resh_config.specs.Steps.{is_number, number_named, found_client, client_named, lane_named, link_named, link_of, link_lane_named, lane_of}
use Rattle.resh_config.proofs.Outcomes.{Ok-and_then, Ok-accept, same_in_Ok}

below : (m n : ℕ) → m < n → nat_lt m n ≡ true
below m n l = grind (arith, nat_tests)

-- ---- numbers

digits_alike : (ds : List ℕ) → list_all is_ascii_digit ds ≡ all_ascii_digits ds
digits_alike [] = refl
digits_alike (c ∷ cs) = ap (λ b. is_ascii_digit c && b) (digits_alike cs)

abbrev AreDigits : List ℕ → Type 0
AreDigits ds = all_ascii_digits ds ≡ true

digits_model : IsNumeralModel AreDigits (digits_value 10)
digits_model = numerals_by_value AreDigits tells_all_ascii_digits

-- what a number's text is
record IsNumber (text : List ℕ) : Type 0 where
  some : 0 < length text
  few : length text ≤ 9
  digits : AreDigits text

at_least_one : (n : ℕ) → nat_lt 0 n ≡ true → 0 < n
at_least_one n h = grind (arith, nat_tests)

at_most_nine : (n : ℕ) → nat_le n 9 ≡ true → n ≤ 9
at_most_nine n h = grind (arith, nat_tests)

parts_of : (text : List ℕ) (some few digits first : Bool) → nat_lt 0 (length text) ≡ some → nat_le (length text) 9 ≡ few → list_all is_ascii_digit text ≡ digits
    → (some && few && digits && first) ≡ true → IsNumber text
parts_of text true true true first a b c is = record { some = at_least_one (length text) a; few = at_most_nine (length text) b; digits = sym (digits_alike text) ∙ c }
parts_of text true true false first a b c is = cc
parts_of text true false digits first a b c is = cc
parts_of text false few digits first a b c is = cc

number_parts : (text : List ℕ) → is_number text ≡ true → IsNumber text
number_parts text is = parts_of text (nat_lt 0 (length text)) (nat_le (length text) 9) (list_all is_ascii_digit text) _ refl refl refl is

pub number_short : (text : List ℕ) → is_number text ≡ true → digits_value 10 text < 10 ^ 9
number_short text is = let n = number_parts text is in digits_value_short digits_model text 9 n.digits n.few

-- a number that is parsed
pub number_parsed : {E : Type 0} (text : List ℕ) (r : Result ℕ E) → is_number text ≡ true → ParsesUnsigned 32 10 text r → r ≡ Ok (digits_value 10 text)
number_parsed text r is parses =
    let n = number_parts text is in
    let short = number_short text is in
    parse_gives digits_model 32 text r parses n.digits n.some (omega arith)

pub number_kept : (text : List ℕ) (n : ℕ) → number_named text ≡ Ok n → nat_lt n (10 ^ 9) ≡ true
number_kept text n is =
    let t = Ok-accept (is_number text) (digits_value 10 text) n is in
    subst (λ (m : ℕ). nat_lt m (10 ^ 9) ≡ true) t.1 (below (digits_value 10 text) (10 ^ 9) (number_short text t.0))

-- ---- shards, clients and lanes

pub shard_there : (shards : List (List ℕ)) (name : List ℕ) (s : ShardId) → shard_named shards name ≡ Ok s → is_shard (length shards) s ≡ true
shard_there shards name s is = by (is_node_name name) is
  where
    found : (o : Option ℕ) → position (same_name name) shards ≡ o → found_shard o ≡ Ok s → is_shard (length shards) s ≡ true
    found None at e = cc
    found (Some i) at e =
        let within = (position-Some (same_name name) shards i [] at).0 in
        let here : ShardId = record { 0 = i } in
        subst (λ (x : ShardId). is_shard (length shards) x ≡ true) (same_in_Ok here s e) (below i (length shards) within)

    by : (b : Bool) → cond b (found_shard (position (same_name name) shards)) (ends WrongKind) ≡ Ok s → is_shard (length shards) s ≡ true
    by true e = found (position (same_name name) shards) refl e
    by false e = cc

pub client_there : (clients : List Client) (name : List ℕ) (c : ℕ) → client_named clients name ≡ Ok c → nat_lt c (length clients) ≡ true
client_there clients name c is = by (is_node_name name) is
  where
    none : Client
    none = record { name = []; commands = [] }

    found : (o : Option ℕ) → position (is_called name) clients ≡ o → found_client o ≡ Ok c → nat_lt c (length clients) ≡ true
    found None at e = cc
    found (Some i) at e =
        let within = (position-Some (is_called name) clients i none at).0 in
        let same : i ≡ c = cc in
        subst (λ (x : ℕ). nat_lt x (length clients) ≡ true) same (below i (length clients) within)

    by : (b : Bool) → cond b (found_client (position (is_called name) clients)) (ends WrongKind) ≡ Ok c → nat_lt c (length clients) ≡ true
    by true e = found (position (is_called name) clients) refl e
    by false e = cc

pub lane_there : (lanes : ℕ) (text : List ℕ) (lane : ℕ) → lane_named lanes text ≡ Ok lane → nat_lt lane lanes ≡ true
lane_there lanes text lane is =
    let s = Ok-and_then (λ (n : ℕ). accept (nat_lt n lanes) n) (number_named text) lane is in
    let t = Ok-accept (nat_lt s.0 lanes) s.0 lane s.2 in
    subst (λ (n : ℕ). nat_lt n lanes ≡ true) t.1 t.0

module _ (shards : List (List ℕ)) where
  abbrev Link : Type 0
  Link = ShardId × ShardId

  link_there : (r d : List ℕ) (l : Link) → link_named shards r d ≡ Ok l → is_link (length shards) l.0 l.1 ≡ true
  link_there r d l is =
      let s = Ok-and_then (λ (recipient : ShardId). and_then (λ (donor : ShardId). let made : Read Link = Ok (recipient, donor) in made) (shard_named shards d)) (shard_named shards r) l is in
      let t = Ok-and_then (λ (donor : ShardId). let made : Read Link = Ok (s.0, donor) in made) (shard_named shards d) l s.2 in
      let recipient = shard_there shards r s.0 s.1 in
      let donor = shard_there shards d t.0 t.1 in
      subst (λ (x : Link). is_link (length shards) x.0 x.1 ≡ true) (same_in_Ok (s.0, t.0) l t.2) (λ i. recipient i && donor i)

  pub link_read : (ws : List (List ℕ)) (l : Link) → link_of shards ws ≡ Ok l → is_link (length shards) l.0 l.1 ≡ true
  link_read [] l is = cc
  link_read (r ∷ []) l is = cc
  link_read (r ∷ d ∷ []) l is = link_there r d l is
  link_read (r ∷ d ∷ w ∷ ws) l is = cc

  module _ (lanes : ℕ) where
    abbrev Laned : Type 0
    Laned = Link × ℕ

    pub lane_named_read : (r d l : List ℕ) (p : Laned) → link_lane_named shards lanes r d l ≡ Ok p → is_lane (length shards) lanes p.0.0 p.0.1 p.1 ≡ true
    lane_named_read r d l p is =
        let s = Ok-and_then (λ (link : Link). and_then (λ (lane : ℕ). let made : Read Laned = Ok (link, lane) in made) (lane_named lanes l)) (link_named shards r d) p is in
        let t = Ok-and_then (λ (lane : ℕ). let made : Read Laned = Ok (s.0, lane) in made) (lane_named lanes l) p s.2 in
        let link = link_there r d s.0 s.1 in
        let lane = lane_there lanes l t.0 t.1 in
        subst (λ (x : Laned). is_lane (length shards) lanes x.0.0 x.0.1 x.1 ≡ true) (same_in_Ok (s.0, t.0) p t.2) (λ i. link i && lane i)

    pub lane_read : (ws : List (List ℕ)) (p : Laned) → lane_of shards lanes ws ≡ Ok p → is_lane (length shards) lanes p.0.0 p.0.1 p.1 ≡ true
    lane_read [] p is = cc
    lane_read (r ∷ []) p is = cc
    lane_read (r ∷ d ∷ []) p is = cc
    lane_read (r ∷ d ∷ l ∷ []) p is = lane_named_read r d l p is
    lane_read (r ∷ d ∷ l ∷ w ∷ ws) p is = cc
