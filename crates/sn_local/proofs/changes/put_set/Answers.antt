use Rattle.std.proofs.Common.{◌∙◌, List, ℕ, Some, ap, refl, subst, sym}
use Rattle.sn_rows.specs.Bounds.{HasLength}
use Rattle.sn_rows.specs.declared.device_rows.SetRow.{SetRow}
use Rattle.sn_rows.specs.declared.value.Value.TheVariants as value
use Rattle.sn_local.proofs.changes.put_set.Goals as goal

pub unreachable-requires : goal.unreachable-requires
unreachable-requires c =
    let params = c.args.set.now.params in
    let some = c.in_default.ensures.within.1
    (params.cost_fits.0, subst (λ (t : List ℕ). HasLength 1 256 t) (sym c.in_ok-nonce.ensures) params.nonce_fits) in
    absurd cc

pub returns : goal.returns
returns c =
    let parts = c.in-Some.ensures.parts in
    record {
      keys = c.in-Some.keys;
      keys_are = record {
        identifier_is = refl;
        cost = sym parts.0;
        nonce = sym (parts.1 ∙ c.in_ok-nonce.ensures);
        pw = sym parts.2;
        mk = sym parts.3;
        ak = sym parts.4;
      };
      puts = record { key_is = refl; value_is = ap (λ (k : SetRow). Some (value.Set k)) c.in_ok-keys.ensures };
    }
