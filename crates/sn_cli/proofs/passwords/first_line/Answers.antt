use Rattle.std.proofs.Common.{◌≡◌, ℕ, List, Bor, Option, Some, None, eqb, length, take, lit<, arith, sym, ap, ◌∙◌}
use Rattle.std.specs.List.{position_or_len}
use Rattle.std.proofs.lemmas.List.{take_all}
use Rattle.std.proofs.lemmas.Str.Pattern.{IsSplitOnceResult, split_once_first}
use Rattle.sn_command.proofs.Facts.{Both}
use Rattle.sn_cli.specs.DeviceCalls.{first_line}
use Rattle.sn_cli.proofs.passwords.first_line.Goals as goal

cut : (text : List ℕ) (found : Option Both) (line rest : Bor (List ℕ)) → IsSplitOnceResult 10 text found → found ≡ Some (line, rest) → line.now ≡ first_line text
cut text None line rest cuts is = cc
cut text (Some parts) line rest cuts is =
    let first : parts.0.now ≡ first_line text = (split_once_first 10 text (Some parts) cuts (lit< tt)).1 in
    let same : parts ≡ (line, rest) = cc in
    sym (ap (λ (p : Both). p.0.now) same) ∙ first

whole : (text : List ℕ) (found : Option Both) → IsSplitOnceResult 10 text found → found ≡ None → text ≡ first_line text
whole text (Some parts) cuts is = cc
whole text None cuts is =
    let at : position_or_len (λ (b : ℕ). eqb b 10) text ≡ length text = split_once_first 10 text None cuts (lit< tt) in
    sym (ap (λ (n : ℕ). take n text) at ∙ take_all (length text) text (omega arith))

pub returns-in-Some : goal.returns-in-Some
returns-in-Some c = cut c.args.text.now c.split_once.result c.in-Some.line _ c.split_once.ensures.cases c.in-Some.is

pub returns-in-None : goal.returns-in-None
returns-in-None c = whole c.args.text.now c.split_once.result c.split_once.ensures.cases c.in-None.is
