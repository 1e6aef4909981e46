use Rattle.std.proofs.Common.{◌≡◌, List, Some, IfErr, sym, ap, subst, ◌∙◌}
use Rattle.sn_course.specs.Headline.{IsPasswordOf}
use Rattle.sn_course.specs.Lines.{password_of}
use Rattle.sn_script.specs.declared.script.Fate.{Fate}
use Rattle.sn_script.specs.declared.script.Line.{Line}
use Rattle.sn_script.specs.declared.script.Line.TheVariants as line
use Rattle.sn_replay.specs.Lines.{IsRefusalAt, reported_at}
use Rattle.sn_replay.specs.Playing.{Tells}
use Rattle.sn_replay.proofs.Lists.{one_with}
use Rattle.sn_replay.proofs.lines.line_told.Goals as goal

pub returns-in_ok-told-in-Register-clause-told : goal.returns-in_ok-told-in-Register-clause-told
returns-in_ok-told-in-Register-clause-told c =
    let x = c.in-Register in
    let same : line.Register x.device x.identifier x.password c.as_slice-fates.result.now ≡ c.args.line.now =
    ap (λ (fs : List Fate). line.Register x.device x.identifier x.password fs) c.as_slice-fates.ensures ∙ sym x.is in
    λ script secret stage differ apart among at.
    let of : IsPasswordOf script x.password =
    one_with (λ (l : Line). l ≡ c.args.line.now) (λ (l : Line). password_of l ≡ Some x.password) (λ l e. ap password_of (e ∙ x.is)) script.lines among in
    subst (λ (l : Line). Tells script secret c.args.replaying stage (reported_at c.args.at.now l) c.in_ok-told-in-Register.told) same
    (c.in_ok-told-in-Register.ensures script secret stage differ of at)

pub returns-in_ok-told-in-SignIn-clause-told : goal.returns-in_ok-told-in-SignIn-clause-told
returns-in_ok-told-in-SignIn-clause-told c =
    let x = c.in-SignIn in
    let same : line.SignIn x.device x.identifier x.password c.as_slice-fates-in-SignIn.result.now ≡ c.args.line.now =
    ap (λ (fs : List Fate). line.SignIn x.device x.identifier x.password fs) c.as_slice-fates-in-SignIn.ensures ∙ sym x.is in
    λ script secret stage differ apart among at.
    let of : IsPasswordOf script x.password =
    one_with (λ (l : Line). l ≡ c.args.line.now) (λ (l : Line). password_of l ≡ Some x.password) (λ l e. ap password_of (e ∙ x.is)) script.lines among in
    subst (λ (l : Line). Tells script secret c.args.replaying stage (reported_at c.args.at.now l) c.in_ok-told-in-SignIn.told) same
    (c.in_ok-told-in-SignIn.ensures script secret stage differ apart of at)

pub returns-in_ok-told-in-Passwd-clause-told : goal.returns-in_ok-told-in-Passwd-clause-told
returns-in_ok-told-in-Passwd-clause-told c =
    let x = c.in-Passwd in
    let same : line.Passwd x.device x.password c.as_slice-in-Passwd.result.now ≡ c.args.line.now =
    ap (λ (fs : List Fate). line.Passwd x.device x.password fs) c.as_slice-in-Passwd.ensures ∙ sym x.is in
    λ script secret stage differ apart among at.
    let of : IsPasswordOf script x.password =
    one_with (λ (l : Line). l ≡ c.args.line.now) (λ (l : Line). password_of l ≡ Some x.password) (λ l e. ap password_of (e ∙ x.is)) script.lines among in
    subst (λ (l : Line). Tells script secret c.args.replaying stage (reported_at c.args.at.now l) c.in_ok-told-in-Passwd.told) same
    (c.in_ok-told-in-Passwd.ensures script secret stage differ apart of at)

pub returns-in-Edit-clause-refused : goal.returns-in-Edit-clause-refused
returns-in-Edit-clause-refused c =
    let x = c.in-Edit in
    let same : line.Edit x.device x.label c.as_slice-in-Edit.result.now x.text ≡ c.args.line.now =
    ap (λ (fs : List Fate). line.Edit x.device x.label fs x.text) c.as_slice-in-Edit.ensures ∙ sym x.is in
    λ script secret stage at.
    subst (λ (l : Line). IfErr c.edit_line.result (IsRefusalAt c.args.at.now.number stage l)) same (c.edit_line.ensures.refused script secret stage at)

pub returns-in-Delete-clause-refused : goal.returns-in-Delete-clause-refused
returns-in-Delete-clause-refused c =
    let x = c.in-Delete in
    let same : line.Delete x.device x.label c.as_slice-in-Delete.result.now ≡ c.args.line.now =
    ap (λ (fs : List Fate). line.Delete x.device x.label fs) c.as_slice-in-Delete.ensures ∙ sym x.is in
    λ script secret stage at.
    subst (λ (l : Line). IfErr c.delete_line.result (IsRefusalAt c.args.at.now.number stage l)) same (c.delete_line.ensures.refused script secret stage at)

pub returns-in-Late-clause-refused : goal.returns-in-Late-clause-refused
returns-in-Late-clause-refused c =
    λ script secret stage at.
    subst (λ (l : Line). IfErr c.late_line.result (IsRefusalAt c.args.at.now.number stage l)) (sym c.in-Late.is) (c.late_line.ensures.refused script secret stage at)
