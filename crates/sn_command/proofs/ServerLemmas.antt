-- Cutting a server's text at its first colon gives its host and its port.
use Rattle.std.proofs.Common.{◌≡◌, ◌≢◌, ℕ, ◌<◌, ◌≤◌, ◌^◌, ◌++◌, ◌∷◌, Bool, true, false, List, length, get_or, Bor, Option, Some, None, arith, lit<, sym, ap, ◌∙◌}
use Rattle.std.specs.Fmt.{decimal}
use Rattle.std.specs.Prelude.{◌↔◌, IfSome, IfNone, IsTrue}
use Rattle.std.proofs.lemmas.Bool.{false≢true}
use Rattle.std.proofs.lemmas.Fmt.{decimal_injective}
use Rattle.std.specs.List.{list_all}
use Rattle.std.proofs.lemmas.List.Folds.{list_all_at}
use Rattle.std.proofs.lemmas.Str.Pattern.{IsSplitOnceResult, split_after, split_parts}
use Rattle.sn_command.specs.Servers.{IsHost, IsPortNumber, is_host_byte}

abbrev pub Both : Type 0
Both = Bor (List ℕ) × Bor (List ℕ)

true_or_false : (b : Bool) → IsTrue b → b ≡ false → ⊥
true_or_false true is not = cc
true_or_false false is not = false≢true is

-- a host has no colon
no_colon : (host : List ℕ) → IsHost host → (i : ℕ) → i < length host → get_or host i 0 ≢ 58
no_colon host is i within colon =
    true_or_false (list_all is_host_byte host) is.plain (list_all_at is_host_byte host i 0 within (ap is_host_byte colon))

pub some_cut : (text : List ℕ) (found : Option Both) → IsSplitOnceResult 58 text found → IfSome found (λ parts. text ≡ parts.0.now ++ 58 ∷ parts.1.now)
some_cut text None cuts = tt
some_cut text (Some parts) cuts = (split_parts 58 text (Some parts) cuts (lit< tt)).0

pub one_cut : (text : List ℕ) (found : Option Both) → IsSplitOnceResult 58 text found
    → IfSome found (λ parts. (host port : List ℕ) → IsHost host → text ≡ host ++ 58 ∷ port → (parts.0.now ≡ host) × (parts.1.now ≡ port))
one_cut text None cuts = tt
one_cut text (Some parts) cuts = λ host port is spelled. split_after 58 text host port (Some parts) cuts (lit< tt) spelled (no_colon host is)

pub no_cut : (text : List ℕ) (found : Option Both) → IsSplitOnceResult 58 text found
    → IfNone found ((host port : List ℕ) → IsHost host → text ≡ host ++ 58 ∷ port → ⊥)
no_cut text None cuts = λ host port is spelled. split_after 58 text host port None cuts (lit< tt) spelled (no_colon host is)
no_cut text (Some parts) cuts = tt

-- ---- a port's number

pub port_of_number : (text : List ℕ) (n : ℕ) (b : Bool) → text ≡ decimal n → 0 < n → n < 2 ^ 32 → (IsTrue b ↔ (n < 65536))
    → (IsTrue b ↔ IsPortNumber text)
port_of_number text n b spelled some small below = (
  λ is. let less : n < 65536 = below.0 is in record { port = n; some = omega arith; most = omega arith; spelled = spelled },
  λ is.
      let most : is.port ≤ 65535 = is.most in
      let same : n ≡ is.port = decimal_injective n is.port (omega arith) (omega arith) (sym spelled ∙ is.spelled) in
      below.1 (omega arith),
)
