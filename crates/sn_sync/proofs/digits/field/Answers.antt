use Rattle.std.proofs.Common.{arith, ◌∙◌, sym, ap, ◌∷◌, length}
use Rattle.sn_sync.specs.Stamps.{padded}
use Rattle.sn_sync.proofs.Padded.{cut, long_enough}
use Rattle.sn_sync.proofs.digits.field.Goals as goal

pub returns-in_err-digits-clause-none : goal.returns-in_err-digits-clause-none
returns-in_err-digits-clause-none c = rw c.from_residual.ensures (λ n rest e.
    omega (arith, long_enough c.args.width n c.args.text.now (c.args.sign ∷ rest) e, c.in_err-digits.ensures.cases))

pub returns-in_err-first-clause-none : goal.returns-in_err-first-clause-none
returns-in_err-first-clause-none c = rw c.from_residual-in_err-first.ensures (λ n rest e.
    let split = c.in_ok-digits.ensures.cases in
    let parts = cut c.args.width n c.args.text.now _ _ (c.args.sign ∷ rest) split.1 split.2 e in
    omega (arith, ap length parts.1, c.in_err-first.ensures.cases))

pub returns-in_err-number-clause-none : goal.returns-in_err-number-clause-none
returns-in_err-number-clause-none c = rw c.from_residual-in_err-number.ensures (λ n rest e.
    let split = c.in_ok-digits.ensures.cases in
    let parts = cut c.args.width n c.args.text.now _ _ (c.args.sign ∷ rest) split.1 split.2 e in
    c.in_err-number.ensures.none n (parts.0 ∙ ap (λ width. padded width n) (sym split.3)))

pub returns-else-first-sign-clause-none : goal.returns-else-first-sign-clause-none
returns-else-first-sign-clause-none c = λ n rest e.
    let split = c.in_ok-digits.ensures.cases in
    let parts = cut c.args.width n c.args.text.now _ _ (c.args.sign ∷ rest) split.1 split.2 e in
    let same = sym c.in_ok-first.ensures.cases.0 ∙ parts.1 in
    c.if-first-sign.false cc
