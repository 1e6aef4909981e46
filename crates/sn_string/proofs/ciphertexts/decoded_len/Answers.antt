use Rattle.std.proofs.Common.{rules, arith, ◌≡◌, sym, ap, ◌+◌, ◌-◌, take, drop, Some, true}
use Rattle.std.proofs.lemmas.List.{take_rest}
use Rattle.sn_string.proofs.Cases.{IfNone-given}
use Rattle.sn_string.proofs.Pieces.{IsFront-nil, not_whole, more_front, last_refused, last_counted, option_eq-some, other_option}
use Rattle.std.specs.Option.{option_eq}
use lib.Dec.{eqb}
use Rattle.sn_string.proofs.ciphertexts.decoded_len.Goals as goal

pub loop-done-init : goal.loop-done-init
loop-done-init c = IsFront-nil c.args.text.now

pub returns-then-ne-clause-none : goal.returns-then-ne-clause-none
returns-then-ne-clause-none c =
    let size : c.loop-done.done + 1024 - c.loop-done.done ≡ 1024 = omega arith in
    not_whole c.args.text.now _ c.loop-done.done c.loop-done.count c.piece_len.result c.loop-done.invariant
    (ap (λ n. take n (drop c.loop-done.done c.args.text.now)) size) (omega arith)
    c.piece_len.ensures.some c.piece_len.ensures.none
    (other_option c.piece_len.result 768 (sym c.if-ne.ensures))

pub loop-done-preserved : goal.loop-done-preserved
loop-done-preserved c =
    let size : c.loop-done.done + 1024 - c.loop-done.done ≡ 1024 = omega arith in
    let same : option_eq eqb c.piece_len.result (Some 768) ≡ true = search rules in
    more_front c.args.text.now _ c.loop-done.done c.loop-done.count c.piece_len.result c.loop-done.invariant
    (ap (λ n. take n (drop c.loop-done.done c.args.text.now)) size) (omega arith)
    c.piece_len.ensures.some (option_eq-some c.piece_len.result 768 same)

pub returns-in_err-last-clause-none : goal.returns-in_err-last-clause-none
returns-in_err-last-clause-none c =
    IfNone-given c.from_residual.result _ (last_refused c.args.text.now _ c.loop-done.done c.loop-done.count c.loop-done.invariant (take_rest c.args.text.now c.loop-done.done) c.in_err-last.ensures.none)

pub returns-clause-some : goal.returns-clause-some
returns-clause-some c =
    last_counted c.args.text.now _ c.loop-done.done c.loop-done.count c.in_ok-last.last c.loop-done.invariant (take_rest c.args.text.now c.loop-done.done) c.in_ok-last.ensures.some
