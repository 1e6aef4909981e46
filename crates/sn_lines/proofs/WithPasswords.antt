-- Where no two of the passwords that are given have, under one parameter set that an account has, one check value and different keys, whatever devices call leads
-- on.
use Rattle.std.proofs.Common.{ℕ, List, ◌++◌}
use Rattle.rand_chacha.specs.ChaCha.{ChaCha}
use Rattle.sn_device.specs.Runs.{Act, Call, Halt}
use Rattle.sn_laws.specs.Lookups.{Bytes, empty}
use Rattle.sn_laws.specs.declared.ideal.Ideal.{Ideal}
use Rattle.sn_lines.proofs.FitsAlong.{may_happen, runs_so, words_fit}
use Rattle.sn_lines.proofs.LinesGo.{all_lead}
use Rattle.sn_lines.specs.Fits.{AllFitFirst, EachFits, FitsAll, IsCallBy, MayHappenBy}
use Rattle.sn_lines.specs.Lines.{EachKeeps, EachLeads}
use Rattle.sn_lines.specs.Passwords.{AllGoWith, AllKeepWith, ApartMayCall, AreApart, EachHoldsOf, FirstHoldsOf, GivesIn, HoldsOf, IsCallWith, IsParamsIn, MayHappenWith}
use Rattle.sn_world.specs.Calls.{Fate}
use Rattle.sn_world.specs.Fitting.{RequestsFit}
use Rattle.sn_world.specs.Laws.{HoldsFirst}
use Rattle.sn_world.specs.Sessions.{Line, again, calls, opens, stops}
use Rattle.sn_world.specs.World.{World, at_first}

module _ (known : Bytes → Type 0) where
  module _ (may_call : ApartMayCall known) (secret : Bytes) where
    call_with : (w : World) (s : Ideal) (name : Bytes) (least : ℕ) (call : Call) (words : ChaCha) (acts : List Act) (fates : List Fate) (halt : Halt)
        → AreApart known (IsParamsIn s) → HoldsOf known w s → IsCallWith known w name least call words acts fates halt
        → IsCallBy w s name least call words acts fates halt
    call_with w s name least call words acts fates halt apart h x =
        record { fits = x.fits; may = may_call w s name call apart h x.gives; runs = x.runs; over = x.over }

    may_by : (w : World) (s : Ideal) (line : Line) → AreApart known (IsParamsIn s) → HoldsOf known w s → MayHappenWith known secret w line → MayHappenBy secret w s line
    may_by w s (opens changes stands) apart h may = may
    may_by w s (calls name least call words acts fates halt stands) apart h may = call_with w s name least call words acts fates halt apart h may
    may_by w s (stops name least call words front met) apart h may = record {
      later = may.later;
      others = may.others;
      halt = may.halt;
      called = call_with w s name least call words (front ++ may.later) (met ++ may.others) may.halt apart h may.called;
      over = may.over;
    }
    may_by w s (again name r fate) apart h may = may

  gives_in : (secret : Bytes) (w : World) (line : Line) → MayHappenWith known secret w line → GivesIn known line
  gives_in secret w (opens changes stands) may = tt
  gives_in secret w (calls name least call words acts fates halt stands) may = may.gives
  gives_in secret w (stops name least call words front met) may = may.called.gives
  gives_in secret w (again name r fate) may = tt

  pub all_go_with : RequestsFit → EachFits → EachLeads → EachKeeps → ApartMayCall known → EachHoldsOf known → AllGoWith known
  all_go_with requests fit leads keeps may_call stay secret w s lines differ h fits of may =
      let by = λ (v : World) (t : Ideal) (line : Line) (q : FitsAll v × HoldsOf known v t) (comes : AreApart known (IsParamsIn t) × MayHappenWith known secret v line).
      may_by may_call secret v t line comes.0 q.1 comes.1 in
      let x = all_lead secret (λ v t. FitsAll v × HoldsOf known v t)
      (λ v t line. AreApart known (IsParamsIn t) × MayHappenWith known secret v line)
      (λ v t line holds q comes. leads secret v t line differ holds (may_happen requests secret v t line q.0 (by v t line q comes)))
      (λ v t line holds x. keeps secret v t line differ holds x)
      (λ v t line holds q comes x. (
        fit secret v t line q.0 (words_fit requests secret v t line (by v t line q comes)) (runs_so requests secret v t line (by v t line q comes)) x,
        stay secret v t line holds q.1 (gives_in secret v line comes.1) (runs_so requests secret v t line (by v t line q comes)) x,
      ))
      w s lines h (fits, of) may in
      (x.0, x.1.0, x.1.1)

  pub all_keep_with : HoldsFirst → AllFitFirst → FirstHoldsOf known → AllGoWith known → AllKeepWith known
  all_keep_with first fits of go secret lines differ may =
      let x = go secret at_first empty lines differ (first secret) fits of may in
      (x.0, x.2, x.0.keeps.0, x.0.keeps.1)
