-- The token of a message is text.
use Rattle.std.specs.Prelude.{◌≡◌, ℕ, ◌<◌, ◌&&◌, Bool, true, false, List, [], ◌∷◌, length, drop, nat_le, nat_lt, slice_index, codes, zero, suc, Some, None}
use Rattle.std.specs.List.{list_all}
use Rattle.std.specs.declared.option.Option.{Option}
use Rattle.std.specs.Str.{IsUtf8}
use Rattle.std.proofs.Common.{refl, sym, subst, arith, rules, cond}
use Rattle.std.proofs.lemmas.Bool.{and_parts}
use Rattle.std.proofs.lemmas.Str.{IsUtf8-from_ascii}
use Rattle.sn_http.specs.Messages.{IsMessage}
use Rattle.sn_http.specs.Options.{bearer, bearer_of, if_token, is_token_text, is_visible, skip_spaces}
use Rattle.sn_http.specs.Fields.{fields_of, first_of, values_of}
use Rattle.sn_http.specs.declared.message.Message.{Message}

empty_text : IsUtf8 []
empty_text = IsUtf8-from_ascii [] (search rules)

visible_byte : (b : ℕ) → is_visible b ≡ true → b < 128
visible_byte b is = grind arith

all_ascii : (text : List ℕ) → list_all is_visible text ≡ true → (i : ℕ) → slice_index text i < 128
all_ascii [] all i = search rules
all_ascii (b ∷ bs) all zero = visible_byte b (and_parts (is_visible b) (list_all is_visible bs) all).0
all_ascii (b ∷ bs) all (suc i) = all_ascii bs (and_parts (is_visible b) (list_all is_visible bs) all).1 i

visible_text : (text : List ℕ) → is_token_text text ≡ true → IsUtf8 text
visible_text text is =
    let short = (and_parts (nat_lt 0 (length text)) (nat_le (length text) 1024 && list_all is_visible text) is).1 in
    IsUtf8-from_ascii text (all_ascii text (and_parts (nat_le (length text) 1024) (list_all is_visible text) short).1)

chosen : (b : Bool) (text : List ℕ) → (b ≡ true → IsUtf8 text) → IsUtf8 (cond b text [])
chosen true text h = h refl
chosen false text h = empty_text

token_text : (text : List ℕ) → IsUtf8 (if_token text)
token_text text = chosen (is_token_text text) text (visible_text text)

bearer_text : (value : List ℕ) → IsUtf8 (bearer value)
unfolding bearer
bearer_text value = chosen _ (if_token (skip_spaces (drop 6 value))) (λ is. token_text (skip_spaces (drop 6 value)))

first_text : (found : Option (List ℕ)) → IsUtf8 (bearer_of found)
first_text None = empty_text
first_text (Some value) = bearer_text value

pub token_utf8 : (bytes : List ℕ) (message : Message) → IsMessage bytes message → IsUtf8 message.token
token_utf8 bytes message is = subst IsUtf8 (sym is.token) (first_text (first_of (values_of (codes "authorization") (fields_of is.head.fields))))
