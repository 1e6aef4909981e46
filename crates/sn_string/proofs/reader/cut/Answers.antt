use Rattle.std.proofs.Common.{subst, length}
use Rattle.memchr.specs.Find.{Nowhere, Passes}
use Rattle.sn_string.specs.Grammar.{is_colon}
use Rattle.sn_string.proofs.Cuts.{IsFirstColon, after_colon, some_cut, more_cut, no_cut}
use Rattle.sn_string.proofs.reader.cut.Goals as goal

pub returns-in_err-place-clause-none : goal.returns-in_err-place-clause-none
returns-in_err-place-clause-none c =
    let none : Nowhere (Passes is_colon c.args.text.now) 0 (length c.args.text.now) =
    subst (λ bytes. Nowhere (Passes is_colon bytes) 0 (length bytes)) c.as_bytes.ensures.value c.in_err-place.ensures in
    rw c.from_residual.ensures (no_cut c.args.text.now none)

pub range_from-requires : goal.range_from-requires
range_from-requires c _ =
    let first : IsFirstColon c.args.text.now c.in_ok-place.place =
    subst (λ bytes. IsFirstColon bytes c.in_ok-place.place) c.as_bytes.ensures.value c.in_ok-place.ensures in
    after_colon c.args.text.now c.in_ok-place.place c.utf8.text first

pub returns-clause-some : goal.returns-clause-some
returns-clause-some c =
    let first : IsFirstColon c.args.text.now c.in_ok-place.place =
    subst (λ bytes. IsFirstColon bytes c.in_ok-place.place) c.as_bytes.ensures.value c.in_ok-place.ensures in
    rw (c.range.ensures.value, c.range_from.ensures.value) (some_cut c.args.text.now c.in_ok-place.place first)

pub returns-clause-more : goal.returns-clause-more
returns-clause-more c =
    let first : IsFirstColon c.args.text.now c.in_ok-place.place =
    subst (λ bytes. IsFirstColon bytes c.in_ok-place.place) c.as_bytes.ensures.value c.in_ok-place.ensures in
    more_cut c.args.text.now c.in_ok-place.place first
