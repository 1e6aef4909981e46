-- Where all passwords that are given are among some of which no two have, under one parameter set that an account has, one check value and different keys: no
-- call needs more then.
use Rattle.std.specs.Prelude.{◌≡◌, List, ◌++◌, ℕ}
use Rattle.rand_chacha.specs.ChaCha.{ChaCha}
use Rattle.sn_account.specs.Lookups.{HasStore}
use Rattle.sn_device.specs.Runs.{Act, Call, Halt, Run, content, delete, edit, list, passwd, put, register, sign_in, sync}
use Rattle.sn_keys.specs.Keys.{AreKeysOf, check_value}
use Rattle.sn_laws.specs.Each.{Each, One}
use Rattle.sn_laws.specs.Lookups.{Bytes, empty}
use Rattle.sn_laws.specs.Runs.{Legal, end, end_from}
use Rattle.sn_laws.specs.declared.ideal.Account.{Account}
use Rattle.sn_laws.specs.declared.ideal.Ideal.{Ideal}
use Rattle.sn_laws.specs.declared.moves.Move.{Move}
use Rattle.sn_lines.specs.Fits.{FitsAll, IsRunOf}
use Rattle.sn_lines.specs.Lines.{AllLead, InTurn, MayCall}
use Rattle.sn_rows.specs.declared.server_rows.StoreRow.{StoreRow}
use Rattle.sn_string.specs.declared.params.KeySet.{KeySet}
use Rattle.sn_string.specs.declared.params.Params.{Params}
use Rattle.sn_world.specs.Calls.{Fate, IsAskedFor, IsNoneOr}
use Rattle.sn_world.specs.Delivered.{AreServedBy, IsAgainBy}
use Rattle.sn_world.specs.First.{IsFirst}
use Rattle.sn_world.specs.Fitting.{FitsCall}
use Rattle.sn_world.specs.Holds.{Holds, TokensDiffer}
use Rattle.sn_world.specs.Sessions.{LeadsLine, Line, again, calls, opens, stops}
use Rattle.sn_world.specs.World.{IsMade, Made, World, at_first}

-- ---- some passwords

-- the set is the keys of one of them
abbrev pub IsOfPasswords : (Bytes → Type 0) → KeySet → Type 0
IsOfPasswords known set = (password : Bytes) × known password × AreKeysOf password set.params set

-- some account has a set with these parameters
abbrev pub IsParamsIn : Ideal → Params → Type 0
IsParamsIn s p = One (λ (a : Account). One (λ (set : KeySet). set.params ≡ p) a.sets) s.accounts

-- no two of them have, under one parameter set that is used, one check value and different keys
abbrev pub AreApart : (Bytes → Type 0) → (Params → Type 0) → Type 0
AreApart known used = (one other : Bytes) (p : Params) (a b : KeySet) → known one → known other → used p → AreKeysOf one p a → AreKeysOf other p b
    → check_value a.pw ≡ check_value b.pw → a ≡ b

-- a password that the call is given is one of them
abbrev pub GivesOf : (Bytes → Type 0) → Call → Type 0
GivesOf known (register identifier password cost) = known password
GivesOf known (sign_in identifier password) = known password
GivesOf known (put kind text) = Unit {0}
GivesOf known (edit uuid text) = Unit {0}
GivesOf known (delete uuid) = Unit {0}
GivesOf known list = Unit {0}
GivesOf known (content uuid) = Unit {0}
GivesOf known sync = Unit {0}
GivesOf known (passwd password cost) = known password

-- so is one that the call of a line is given
abbrev pub GivesIn : (Bytes → Type 0) → Line → Type 0
GivesIn known (opens changes stands) = Unit {0}
GivesIn known (calls name least call words acts fates halt stands) = GivesOf known call
GivesIn known (stops name least call words front met) = GivesOf known call
GivesIn known (again name r fate) = Unit {0}

-- each set that an account has is of one of them, each that a device keeps as asked for, and each that a request which was made would begin
pub record HoldsOf (known : Bytes → Type 0) (w : World) (s : Ideal) : Type 0 where
  pub accounts : Each (λ (a : Account). Each (IsOfPasswords known) a.sets) s.accounts
  pub asked : (name : Bytes) (set : KeySet) → IsAskedFor (w.devices name) set → IsOfPasswords known set
  pub made : (m : Made) → IsMade w m → IsNoneOr (IsOfPasswords known) m.begins

-- ---- what happens: of the state it is asked alone that the passwords are apart

-- a whole call of the device's rows as they stand, over a server that answers by its rule
pub record IsCallWith (known : Bytes → Type 0) (w : World) (name : Bytes) (least : ℕ) (call : Call) (words : ChaCha) (acts : List Act) (fates : List Fate) (halt : Halt)
    : Type 0 where
  pub fits : FitsCall call
  pub gives : GivesOf known call
  pub runs : Run least call (w.devices name) words acts halt
  pub over : AreServedBy w.server acts fates

-- the first acts of such a call, with their fates
pub record IsFrontWith (known : Bytes → Type 0) (w : World) (name : Bytes) (least : ℕ) (call : Call) (words : ChaCha) (front : List Act) (met : List Fate) : Type 0 where
  pub later : List Act
  pub others : List Fate
  pub halt : Halt
  pub called : IsCallWith known w name least call words (front ++ later) (met ++ others) halt
  pub over : AreServedBy w.server front met

abbrev pub MayHappenWith : (Bytes → Type 0) → Bytes → World → Line → Type 0
MayHappenWith known secret w (opens changes stands) = ((store : StoreRow) → ¬ (HasStore w.server store)) × IsFirst secret changes
MayHappenWith known secret w (calls name least call words acts fates halt stands) = IsCallWith known w name least call words acts fates halt
MayHappenWith known secret w (stops name least call words front met) = IsFrontWith known w name least call words front met
MayHappenWith known secret w (again name r fate) = IsAgainBy w name r fate

-- each in its turn, where the passwords are apart under the parameter sets that accounts have then
abbrev pub MayHappenAllWith : (Bytes → Type 0) → Bytes → World → Ideal → List Line → Type 0
MayHappenAllWith known secret w s lines = InTurn secret (λ v t line. AreApart known (IsParamsIn t) × MayHappenWith known secret v line) w s lines

-- ---- the laws, of some passwords

-- before anything happened there is no set
abbrev pub FirstHoldsOf : (Bytes → Type 0) → Type 0
FirstHoldsOf known = HoldsOf known at_first empty

-- parameters that an account has, one has behind whatever moves
abbrev pub ParamsStay : Type 0
ParamsStay = (s : Ideal) (moves : List Move) (p : Params) → IsParamsIn s p → IsParamsIn (end_from s moves) p

-- where no two of them have, under one parameter set that an account has, one check value and different keys, a call that is given one of them may be made
abbrev pub ApartMayCall : (Bytes → Type 0) → Type 0
ApartMayCall known = (w : World) (s : Ideal) (name : Bytes) (call : Call) → AreApart known (IsParamsIn s) → HoldsOf known w s → GivesOf known call
    → MayCall s (w.devices name) call

-- wherever a line leads whose call is given one of them, all sets are of them again
abbrev pub EachHoldsOf : (Bytes → Type 0) → Type 0
EachHoldsOf known = (secret : Bytes) (w : World) (s : Ideal) (line : Line) → Holds secret w s → HoldsOf known w s → GivesIn known line → IsRunOf w line
    → (x : LeadsLine secret w s line) → HoldsOf known x.next (end_from s x.moves)

-- from a world in which the invariant holds, and all sets are of them
abbrev pub AllGoWith : (Bytes → Type 0) → Type 0
AllGoWith known = (secret : Bytes) (w : World) (s : Ideal) (lines : List Line) → TokensDiffer secret → Holds secret w s → FitsAll w
    → HoldsOf known w s → MayHappenAllWith known secret w s lines → (x : AllLead secret w s lines) × FitsAll x.next × HoldsOf known x.next (end_from s x.moves)

-- and from the beginning on
abbrev pub AllKeepWith : (Bytes → Type 0) → Type 0
AllKeepWith known = (secret : Bytes) (lines : List Line) → TokensDiffer secret → MayHappenAllWith known secret at_first empty lines
    → (x : AllLead secret at_first empty lines) × HoldsOf known x.next (end x.moves) × Legal x.moves × Holds secret x.next (end x.moves)

-- ---- of any list of passwords

abbrev pub IsAmong : List Bytes → Bytes → Type 0
IsAmong passwords password = One (λ p. p ≡ password) passwords

abbrev pub OfAnyPasswords : ((Bytes → Type 0) → Type 0) → Type 0
OfAnyPasswords Law = (passwords : List Bytes) → Law (IsAmong passwords)
