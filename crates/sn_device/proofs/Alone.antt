-- A sync of a device that asks for no set: its exchanges alone, and how they end the call.
use Rattle.std.proofs.Common.{arith, ◌≡◌, ◌⊎◌, ◌+◌, ℕ, List, [], ◌++◌, length, None, ap, ◌∙◌, subst, inl, inr}
use Rattle.std.specs.Prelude.{◌<◌}
use Rattle.std.specs.List.{flat_map}
use Rattle.rand_chacha.specs.ChaCha.{ChaCha}
use Rattle.sn_rows.specs.Table.{Rows}
use Rattle.sn_rows.specs.declared.device_rows.OwnerRow.{OwnerRow}
use Rattle.sn_sets.specs.declared.sets.Sets.{Sets}
use Rattle.sn_device.specs.Runs.{Act, AnswersNothing, AreRounds, EndsSync, EndsUnapplied, Exchanges, Halt, IsDone, IsDue, Point, Refuses, Round, Standing, SyncsItems, Wants, acts_of, answered, begun, goes_on, is_over, most_exchanges, nothing}
use Rattle.sn_device.specs.declared.error.ClientError.TheVariants as refusal

-- the call ends behind so many exchanges: as many were made as may be, and one more is due; or the next one ends it; or memory is wanting
abbrev pub StopsAlone : ℕ → Standing → List Act → Halt → Type 0
StopsAlone count at acts halt = ((count ≡ most_exchanges) × IsDue at.rows at.last × Refuses acts halt refusal.RoundsUsed)
    ⊎ (((count < most_exchanges) × EndsUnapplied at acts halt) ⊎ Wants acts halt)

-- or all is done, and the call is answered
abbrev pub EndsAlone : ℕ → Standing → List Act → Halt → Type 0
EndsAlone count at acts halt = (IsDone at.rows at.last × (acts ≡ []) × (halt ≡ answered nothing at.words)) ⊎ StopsAlone count at acts halt

-- exchanges from the first one of a call, and nothing behind them
pub record ExchangesAlone (rows : Rows) (words : ChaCha) (acts : List Act) (halt : Halt) : Type 0 where
  pub rounds : List Round
  pub at : Standing
  pub went : AreRounds (record { rows = rows; words = words; last = None }) rounds at
  pub later : List Act
  pub ends : EndsAlone (length rounds) at later halt
  pub acts_are : acts ≡ flat_map acts_of rounds ++ later

over_alone : (count : ℕ) (at : Standing) (acts : List Act) (halt : Halt) → EndsSync count at acts (is_over halt) → EndsAlone count at acts halt
over_alone count at acts halt (inl (done, none, is)) = absurd cc
over_alone count at acts halt (inr (over, is, stops)) =
    let same : over ≡ halt = cc in
    inr (subst (λ (h : Halt). StopsAlone count at acts h) same stops)

on_alone : (count : ℕ) (at : Standing) (acts : List Act) (halt : Halt) (q : Point) → EndsSync count at acts (goes_on q) → halt ≡ answered nothing q.words
    → EndsAlone count at acts halt
on_alone count at acts halt q (inl (done, none, is)) e =
    let same : q ≡ record { made = count; rows = at.rows; words = at.words } = cc in
    inl (done, none, e ∙ ap (λ (z : Point). answered nothing z.words) same)
on_alone count at acts halt q (inr (over, is, stops)) e = absurd cc

from_none : (count : ℕ) (at : Standing) (acts : List Act) (halt : Halt) → EndsAlone (0 + count) at acts halt → EndsAlone count at acts halt
from_none count at acts halt ends =
    let same : 0 + count ≡ count = omega arith in
    subst (λ (n : ℕ). EndsAlone n at acts halt) same ends

alone_of : (rows : Rows) (words : ChaCha) (acts : List Act) (halt : Halt) → AnswersNothing Exchanges (begun rows words) acts halt
    → ExchangesAlone rows words acts halt
alone_of rows words acts halt (inl x) = record {
  rounds = x.rounds;
  at = x.at;
  went = x.went;
  later = x.later;
  ends = from_none (length x.rounds) x.at x.later halt (over_alone (0 + length x.rounds) x.at x.later halt x.ends);
  acts_are = x.acts_are;
}
alone_of rows words acts halt (inr (q, x, e)) = record {
  rounds = x.rounds;
  at = x.at;
  went = x.went;
  later = x.later;
  ends = from_none (length x.rounds) x.at x.later halt (on_alone (0 + length x.rounds) x.at x.later halt q x.ends e);
  acts_are = x.acts_are;
}

pub synced_alone : (rows : Rows) (words : ChaCha) (owner : OwnerRow) (sets : Sets) (acts : List Act) (halt : Halt) → sets.asked ≡ None
    → SyncsItems rows words owner sets acts halt → ExchangesAlone rows words acts halt
synced_alone rows words owner sets acts halt unasked (inl (inl (none, x))) = alone_of rows words acts halt (inl x)
synced_alone rows words owner sets acts halt unasked (inl (inr (set, some, resolves))) = absurd cc
synced_alone rows words owner sets acts halt unasked (inr (q, inl (none, x), e)) = alone_of rows words acts halt (inr (q, x, e))
synced_alone rows words owner sets acts halt unasked (inr (q, inr (set, some, resolves), e)) = absurd cc
