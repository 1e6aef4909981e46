use Rattle.std.proofs.Common.{◌≡◌, ◌<◌, ◌^◌, ℕ, zero, suc, List, [], ◌∷◌, sym, ◌∙◌, arith}
use Rattle.std.proofs.lemmas.Bool.{false≢true}
use Rattle.std.proofs.lemmas.Fmt.{decimal_digit}
use Rattle.std.proofs.lemmas.Slice.Eq.{bytes_eq-Decides}
use Rattle.std.specs.Fmt.{decimal}
use Rattle.sn_command.proofs.number.whole_number.Goals as goal

-- a text that is neither 0 nor a number from 1 up spells none
none_spelled : (text : List ℕ) → (text ≡ 48 ∷ [] → ⊥) → ((n : ℕ) → 0 < n → n < 2 ^ 32 → text ≡ decimal n → ⊥) → (n : ℕ) → n < 2 ^ 32 → text ≡ decimal n → ⊥
none_spelled text other none zero small is = other (is ∙ decimal_digit 0 (omega arith))
none_spelled text other none (suc n) small is = none (suc n) (omega arith) small is

pub returns-then-eq-clause-some : goal.returns-then-eq-clause-some
returns-then-eq-clause-some c =
    (bytes_eq-Decides c.args.text.now (48 ∷ [])).0 (sym c.eq.ensures ∙ c.if-eq.true) ∙ sym (decimal_digit 0 (omega arith))

pub returns-else-eq-clause-none : goal.returns-else-eq-clause-none
returns-else-eq-clause-none c unread n small is =
    none_spelled c.args.text.now
    (λ same. false≢true (sym c.if-eq.false ∙ (c.eq.ensures ∙ (bytes_eq-Decides c.args.text.now (48 ∷ [])).1 same)))
    (c.positive_number.ensures.none unread) n small is
