use Rattle.std.proofs.Common.{[], ◌∷◌, refl, arith}
use Rattle.std.proofs.lemmas.List.Elements.{All-cons, All-nil}
use Rattle.sn_account.specs.Syncs.{IsShort}
use Rattle.sn_account.proofs.bounds.long_in.Goals as goal

pub returns-then-len-gt-MOST_STRING-clause-some : goal.returns-then-len-gt-MOST_STRING-clause-some
returns-then-len-gt-MOST_STRING-clause-some c = record {
  short = [];
  long = c.in-Strings.content;
  others = c.in-Strings.enc ∷ [];
  split = rw c.in-Strings.is refl;
  before = All-nil IsShort;
  past = omega (arith, c.len.ensures);
  size_is = c.len-then-len-gt-MOST_STRING.ensures;
}

pub returns-then-len-gt-MOST_STRING-2-clause-some : goal.returns-then-len-gt-MOST_STRING-2-clause-some
returns-then-len-gt-MOST_STRING-2-clause-some c = record {
  short = c.in-Strings.content ∷ [];
  long = c.in-Strings.enc;
  others = [];
  split = rw c.in-Strings.is refl;
  before = All-cons IsShort c.in-Strings.content [] (omega (arith, c.len.ensures)) (All-nil IsShort);
  past = omega (arith, c.len-2.ensures);
  size_is = c.len-then-len-gt-MOST_STRING-2.ensures;
}
