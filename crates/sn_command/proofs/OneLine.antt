-- Words are a line of one command, and say one thing.
use Rattle.std.proofs.Common.{◌≡◌, inl, inr, ℕ, ◌<◌, ◌≤◌, ◌^◌, List, [], Some, None, Ok, Err, Option, Result, codes, sym, ap, ◌∙◌, refl, arith}
use Rattle.std.specs.Fmt.{decimal}
use Rattle.std.proofs.lemmas.Fmt.{decimal_injective}
use Rattle.hex.proofs.HexLemmas.{decode_sized-encode_lower}
use Rattle.hex.specs.Hex.{decode_sized, encode_lower}
use Rattle.sn_command.specs.CommandLine.{SealLine, OpenLine, GenLine, ServeLine, GivesItem, IsSealLine, IsOpenLine, IsGenLine, IsServeLine}
use Rattle.sn_command.specs.Named.{GivesCost, Names}
use Rattle.sn_command.specs.Syntax.{value_of}
use Rattle.sn_string.specs.Hex.{IsLowerHex}
use Rattle.sn_string.specs.Uuids.{IsUuidText, uuid_text}
use Rattle.uuid.proofs.RoundTrips.{parses_hyphenated}
use Rattle.uuid.specs.Text.{lower, parsed}

-- the value of an option that is given
value_or : List ℕ → Option (List ℕ) → List ℕ
value_or none None = none
value_or none (Some value) = value

pub one_value : (a b : List ℕ) (found : Option (List ℕ)) → found ≡ Some a → found ≡ Some b → a ≡ b
unfolding value_or
one_value a b found is other = ap (value_or []) (sym is ∙ other)

pub some_or_none : (a : List ℕ) (found : Option (List ℕ)) → found ≡ Some a → found ≡ None → ⊥
some_or_none a found is other = cc

-- words name one command
pub one_command : (words : List (List ℕ)) (a b : List ℕ) → Names words a → Names words b → a ≡ b
one_command words a b first second = one_value a b _ first.named second.named

ok_value : {E : Type 0} → List ℕ → Result (List ℕ) E → List ℕ
ok_value none (Ok value) = value
ok_value none (Err error) = none

-- a uuid's spelling is of one uuid
pub one_uuid : (a b : List ℕ) → IsUuidText (uuid_text a) a → IsUuidText (uuid_text b) b → uuid_text a ≡ uuid_text b → a ≡ b
one_uuid a b first second same =
    one_value a b (parsed (uuid_text a)) (sym (parses_hyphenated lower a (inl refl) first.count first.fit))
    (ap parsed same ∙ sym (parses_hyphenated lower b (inl refl) second.count second.fit))

-- digits spell one key
one_key : (a b : List ℕ) → IsLowerHex 64 (encode_lower a) a → IsLowerHex 64 (encode_lower b) b → encode_lower a ≡ encode_lower b → a ≡ b
unfolding ok_value
one_key a b first second same =
    ap (ok_value []) (sym (decode_sized-encode_lower a 64 first.count first.fit) ∙ ap (λ t. decode_sized t 64) same
    ∙ decode_sized-encode_lower b 64 second.count second.fit)

one_item : (words : List (List ℕ)) (uuid key other_uuid other_key : List ℕ) → GivesItem words uuid key → GivesItem words other_uuid other_key
    → (uuid ≡ other_uuid) × (key ≡ other_key)
one_item words uuid key other_uuid other_key first second = (
  one_uuid uuid other_uuid first.uuid_form second.uuid_form
      (one_value (uuid_text uuid) (uuid_text other_uuid) (value_of words (codes "uuid")) first.uuid_given second.uuid_given),
  one_key key other_key first.key_form second.key_form
      (one_value (encode_lower key) (encode_lower other_key) (value_of words (codes "key")) first.key_given second.key_given),
)

-- the cost is the one that is written, or the usual one
pub one_cost : (words : List (List ℕ)) (a b : ℕ) → a ≤ 4294967295 → b ≤ 4294967295 → GivesCost words a → GivesCost words b → a ≡ b
one_cost words a b small other_small (inl first) (inl second) =
    decimal_injective a b (omega (arith, small)) (omega (arith, other_small)) (one_value (decimal a) (decimal b) _ first second)
one_cost words a b small other_small (inl first) (inr second) = absurd (some_or_none (decimal a) _ first second.1)
one_cost words a b small other_small (inr first) (inl second) = absurd (some_or_none (decimal b) _ second first.1)
one_cost words a b small other_small (inr first) (inr second) = first.0 ∙ sym second.0

-- words say one line of `seal`
pub one_seal : (words : List (List ℕ)) (a b : SealLine) → IsSealLine words a → IsSealLine words b → a ≡ b
one_seal words a b first second =
    let item = one_item words a.uuid a.key b.uuid b.key first.item second.item in
    let p = first.params in
    let q = second.params in
    let identifier : a.identifier ≡ b.identifier = one_value a.identifier b.identifier _ p.identifier_given q.identifier_given in
    let cost : a.cost ≡ b.cost = one_cost words a.cost b.cost p.cost_fits.1 q.cost_fits.1 p.cost_given q.cost_given in
    let nonce : a.nonce ≡ b.nonce = one_value a.nonce b.nonce _ p.nonce_given q.nonce_given in
    λ i. record { uuid = item.0 i; key = item.1 i; identifier = identifier i; cost = cost i; nonce = nonce i }

-- and one of `open`
pub one_open : (words : List (List ℕ)) (a b : OpenLine) → IsOpenLine words a → IsOpenLine words b → a ≡ b
one_open words a b first second =
    let item = one_item words a.uuid a.key b.uuid b.key first.item second.item in
    λ i. record { uuid = item.0 i; key = item.1 i }

-- a decimal is of one number
pub one_number : (a b : ℕ) (found : Option (List ℕ)) → a < 2 ^ 64 → b < 2 ^ 64 → found ≡ Some (decimal a) → found ≡ Some (decimal b) → a ≡ b
one_number a b found small other_small first second = decimal_injective a b small other_small (one_value (decimal a) (decimal b) found first second)

-- and one of `serve`
pub one_serve : (words : List (List ℕ)) (a b : ServeLine) → IsServeLine words a → IsServeLine words b → a ≡ b
one_serve words a b first second =
    let store : a.store ≡ b.store = one_value a.store b.store _ first.store_given second.store_given in
    let port : a.port ≡ b.port = one_number a.port b.port _ (omega (arith, first.port_fits)) (omega (arith, second.port_fits)) first.port_given second.port_given in
    let requests : a.requests ≡ b.requests =
    one_number a.requests b.requests _ (omega (arith, first.most_requests)) (omega (arith, second.most_requests)) first.requests_given second.requests_given in
    λ i. record { store = store i; port = port i; requests = requests i }

-- and one of `gen`
pub one_gen : (words : List (List ℕ)) (a b : GenLine) → IsGenLine words a → IsGenLine words b → a ≡ b
one_gen words a b first second =
    let number : a.number ≡ b.number =
    one_number a.number b.number _ (omega (arith, first.most_number)) (omega (arith, second.most_number)) first.number_given second.number_given in
    let count : a.count ≡ b.count =
    one_number a.count b.count _ (omega (arith, first.most_events)) (omega (arith, second.most_events)) first.count_given second.count_given in
    λ i. record { number = number i; count = count i }
