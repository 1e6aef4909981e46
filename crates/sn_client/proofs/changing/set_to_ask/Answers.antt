use Rattle.std.proofs.Common.{arith, ◌≡◌, ◌⊎◌, ◌∙◌, ℕ, None, refl, subst, sym}
use Rattle.sn_row_map.specs.RowMaps.{row_in}
use Rattle.sn_row_map.specs.declared.row_map.RowMap.{RowMap}
use Rattle.sn_rows.specs.declared.device_rows.LocalItem.{LocalItem}
use Rattle.sn_string.specs.Bounds.{IsIdentifier}
use Rattle.sn_table.specs.Tables.{table_rows}
use Rattle.sn_device.specs.Changing.{MayAsk, NoneRuns}
use Rattle.sn_joining.specs.Accounts.{IsSetWith}
use Rattle.sn_device.specs.Runs.{IsNewSet, RefusesChange, most_exchanges}
use Rattle.sn_device.specs.States.{Bytes, HasLocal}
use Rattle.sn_device.specs.declared.error.ClientError.TheVariants as refusal
use Rattle.sn_client.proofs.ChangingLemmas.{asks_refused, asks_used, asks_wanting, may_ask, no_link_change, only_memory}
use Rattle.sn_client.proofs.RegisterLemmas.{is_new, later_nonce}
use Rattle.sn_client.proofs.changing.set_to_ask.Goals as goal

pub returns-in-Err-clause-err : goal.returns-in-Err-clause-err
returns-in-Err-clause-err g c =
    asks_wanting c.args.password.now c.args.cost (record { made = c.args.made; rows = row_in (table_rows c.args.table.now); words = c.args.words.now }) c.in-Err.why
    (only_memory (row_in (table_rows c.args.table.now)) c.requires.owned.0 c.in-Err.why c.requires.owned.1 c.in-Err.ensures.err)

pub returns-in-Err-clause-link : goal.returns-in-Err-clause-link
returns-in-Err-clause-link g c = λ is.
    let memory = only_memory (row_in (table_rows c.args.table.now)) c.requires.owned.0 c.in-Err.why c.requires.owned.1 c.in-Err.ensures.err in cc

pub returns-in-Err-may_begin-clause-err : goal.returns-in-Err-may_begin-clause-err
returns-in-Err-may_begin-clause-err g c =
    asks_refused c.args.password.now c.args.cost (record { made = c.args.made; rows = row_in (table_rows c.args.table.now); words = c.args.words.now }) c.in-Ok.ensures.ok.0 c.in-Ok.sets c.in-Ok.ensures.ok.1 c.in-Err-may_begin.why
    (subst (λ (m : RowMap). (c.in-Err-may_begin.why ≡ refusal.Memory) ⊎ RefusesChange (row_in m) c.in-Ok.sets c.in-Err-may_begin.why) c.rows.ensures.rows
    c.in-Err-may_begin.ensures.err)

pub returns-in-Err-may_begin-clause-link : goal.returns-in-Err-may_begin-clause-link
returns-in-Err-may_begin-clause-link g c = no_link_change (row_in c.rows.result.now) c.in-Ok.sets c.in-Err-may_begin.why c.in-Err-may_begin.ensures.err

pub returns-then-made-ge-MOST_EXCHANGES-clause-err : goal.returns-then-made-ge-MOST_EXCHANGES-clause-err
returns-then-made-ge-MOST_EXCHANGES-clause-err g c =
    let rows = row_in (table_rows c.args.table.now) in
    let begins = c.in_default.ensures.ok in
    let may : MayAsk rows c.in-Ok.sets =
    may_ask rows c.in-Ok.ensures.ok.0 c.in-Ok.sets c.in-Ok.ensures.ok.1 c.requires.none_asked
    (subst (λ (m : RowMap). NoneRuns (row_in m) c.in-Ok.sets) c.rows.ensures.rows begins.0)
    (subst (λ (m : RowMap). (number : ℕ) (local : LocalItem) → HasLocal (row_in m) number local → local.posted ≡ None) c.rows.ensures.rows begins.1) in
    let used : c.args.made ≡ most_exchanges = omega (arith, c.if-made-ge-MOST_EXCHANGES.true, c.requires.few) in
    asks_used c.args.password.now c.args.cost (record { made = c.args.made; rows = row_in (table_rows c.args.table.now); words = c.args.words.now }) c.in-Ok.ensures.ok.0 c.in-Ok.sets c.in-Ok.ensures.ok.1 may used

pub new_set-requires-clause-identifier : goal.new_set-requires-clause-identifier
new_set-requires-clause-identifier g c = subst IsIdentifier (sym c.as_str-identifier.ensures) c.in-Ok.sets.present.params.identifier_fits

pub returns-in_default-new_set-clause-err : goal.returns-in_default-new_set-clause-err
returns-in_default-new_set-clause-err g c = asks_wanting c.args.password.now c.args.cost (record { made = c.args.made; rows = row_in (table_rows c.args.table.now); words = c.args.words.now }) refusal.Memory refl

pub returns-in_default-new_set-clause-words : goal.returns-in_default-new_set-clause-words
returns-in_default-new_set-clause-words g c = later_nonce c.args.words.now c.nonce-nonce.new.self c.nonce-nonce.result c.nonce-nonce.ensures

pub returns-clause-ok : goal.returns-clause-ok
returns-clause-ok g c =
    let rows = row_in (table_rows c.args.table.now) in
    let begins = c.in_default.ensures.ok in
    let may : MayAsk rows c.in-Ok.sets =
    may_ask rows c.in-Ok.ensures.ok.0 c.in-Ok.sets c.in-Ok.ensures.ok.1 c.requires.none_asked
    (subst (λ (m : RowMap). NoneRuns (row_in m) c.in-Ok.sets) c.rows.ensures.rows begins.0)
    (subst (λ (m : RowMap). (number : ℕ) (local : LocalItem) → HasLocal (row_in m) number local → local.posted ≡ None) c.rows.ensures.rows begins.1) in
    let is : IsSetWith c.nonce-nonce.result c.as_str-identifier.result.now c.args.password.now c.args.cost c.in-Ok-new_set.set = c.in-Ok-new_set.ensures in
    let named : c.as_str-identifier.result.now ≡ c.in-Ok.ensures.ok.0.identifier = c.as_str-identifier.ensures ∙ c.in-Ok.ensures.ok.1.in_use.2.identifier_is in
    record {
      owner = c.in-Ok.ensures.ok.0;
      holds = c.in-Ok.ensures.ok.1;
      may = may;
      few = c.if-made-ge-MOST_EXCHANGES.false;
      new = subst (λ (identifier : Bytes). IsNewSet c.args.words.now identifier c.args.password.now c.args.cost c.in-Ok-new_set.set c.nonce-nonce.new.self) named
          (is_new c.args.words.now c.nonce-nonce.new.self c.nonce-nonce.result c.as_str-identifier.result.now c.args.password.now c.args.cost c.in-Ok-new_set.set
          c.nonce-nonce.ensures is);
    }

pub returns-clause-words : goal.returns-clause-words
returns-clause-words g c = later_nonce c.args.words.now c.nonce-nonce.new.self c.nonce-nonce.result c.nonce-nonce.ensures
