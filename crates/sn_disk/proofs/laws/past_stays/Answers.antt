use Rattle.std.proofs.Common.{List, ◌≡◌, ◌∙◌, length, reverse, take, sym, ap, subst, arith}
use Rattle.std.proofs.lemmas.List.{take-append-le, take_all}
use Rattle.sn_disk.specs.Steps.{Step, Reaches}
use Rattle.sn_disk.specs.Growth.{runs_longer}
use Rattle.sn_disk.specs.MemDisk.{disk_told, disk_state}
use Rattle.sn_disk.proofs.laws.past_stays.Goals as goal

pub returns-clause-past : goal.returns-clause-past
returns-clause-past c = λ old new grows t le f.
    let longer = runs_longer (disk_state old) grows.calls (disk_state new) grows.runs in
    let before = (disk_told old).steps in
    let front : take t (disk_told new).steps ≡ take t before = ap (λ (l : List Step). take t l) longer.steps ∙ take-append-le t before longer.more le in (
      λ left. subst (λ (l : List Step). Reaches (disk_told old).start (reverse l) f) front (subst (λ s. Reaches s (reverse (take t (disk_told new).steps)) f) longer.start left),
      λ left. subst (λ s. Reaches s (reverse (take t (disk_told new).steps)) f) (sym longer.start) (subst (λ (l : List Step). Reaches (disk_told old).start (reverse l) f) (sym front) left),
    )

pub returns-clause-now : goal.returns-clause-now
returns-clause-now c = λ disk f.
    let whole = take_all (length (disk_told disk).steps) (disk_told disk).steps (omega arith) in (
      λ left. subst (λ (l : List Step). Reaches (disk_told disk).start (reverse l) f) whole left,
      λ left. subst (λ (l : List Step). Reaches (disk_told disk).start (reverse l) f) (sym whole) left,
    )
