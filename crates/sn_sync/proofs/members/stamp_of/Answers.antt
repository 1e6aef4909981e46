use Rattle.std.proofs.Common.{ℕ, Option, Result, Ok, Err, sym, subst}
use Rattle.std.specs.Prelude.{IfErr, IfNone}
use Rattle.std.specs.Result.{result_ok}
use Rattle.std.proofs.lemmas.Result.{IfErr-weaker}
use Rattle.serde_json.specs.Find.{get}
use Rattle.sn_json.specs.Views.{view}
use Rattle.sn_sync.specs.Members.{SaysStamp}
use Rattle.sn_sync.proofs.OneValue.{no_stamp}
use Rattle.sn_sync.proofs.members.stamp_of.Goals as goal

-- what holds of an error holds where there is no value
IfNone-result_ok : {A E : Type 0} (r : Result A E) (P : Type 0) → IfErr r (λ _. P) → IfNone (result_ok r) P
IfNone-result_ok (Ok x) P h = tt
IfNone-result_ok (Err e) P h = h

pub returns-clause-none : goal.returns-clause-none
returns-clause-none c =
    let m = get c.args.name.now (view c.args.body) in
    let P : Option ℕ → Type 0 = λ o. IfNone o ((stamp : ℕ) → ¬ (SaysStamp m stamp)) in
    let none = IfErr-weaker c.read.result _ _ (λ _ h. no_stamp m c.in_ok-text_of.field-0.now c.in_ok-text_of.ensures.some h) c.read.ensures.err in
    subst P (sym c.ok.ensures.value) (IfNone-result_ok c.read.result _ none)
