-- What answers about accounts tell, by the rule.
use Rattle.std.proofs.Common.{◌≡◌, ℕ, suc, List, [], ◌∷◌, refl, sym, ap, ◌∙◌, subst, inl, inr}
use Rattle.sn_keys.specs.Keys.{check_value}
use Rattle.sn_rows.specs.Table.{Puts, Rows, rows_after}
use Rattle.sn_rows.specs.declared.change.Change.{Change}
use Rattle.sn_rows.specs.declared.key.Key.TheVariants as key
use Rattle.sn_rows.specs.declared.server_rows.AccountRow.{AccountRow}
use Rattle.sn_rows.specs.declared.server_rows.GenerationRow.{GenerationRow}
use Rattle.sn_rows.specs.declared.server_rows.StoreRow.{StoreRow}
use Rattle.sn_rows.specs.declared.value.Value.TheVariants as value
use Rattle.sn_string.specs.Bounds.{IsCost, IsNonce}
use Rattle.sn_string.specs.declared.params.Params.{Params}
use Rattle.sn_sync.specs.declared.answer.Answer.TheVariants as answer
use Rattle.sn_account.specs.AccountTells.{ChangesTell, ParametersTell, RegistersTell, SignInsTell, TellsAccount}
use Rattle.sn_account.specs.Lookups.{Bytes, HasAccount, HasStore}
use Rattle.sn_account.specs.Rules.{BeginsAccount, IsPresent, Replaces}
use Rattle.sn_account.specs.Sessions.{IsSession, account_uuid, session_token}
use Rattle.sn_account.proofs.PresentLemmas.{lengths}
use Rattle.sn_account.proofs.SoundSteps.{Steps, put_both, put_count}

-- ---- what the steps leave

module _ (rows after : Rows) (new : StoreRow) (n : ℕ) (row : AccountRow) (made : GenerationRow) (t : Steps rows after new n row made) where
  present_after : (params : Params) → params.identifier ≡ row.identifier → params.pw_cost ≡ made.pw_cost → params.pw_nonce ≡ made.pw_nonce → IsPresent after n params
  present_after params identifier cost nonce = record {
    account = row;
    there = t.account_is;
    generation = made;
    stands = t.generation_is;
    identifier = identifier;
    cost = cost;
    nonce = nonce;
  }

  abbrev tells_after : (token identifier uuid check : Bytes) (generation : ℕ) → token ≡ session_token new.secret n row.generation → row.identifier ≡ identifier
      → uuid ≡ account_uuid n → row.check ≡ check → row.generation ≡ generation → TellsAccount after token identifier uuid check generation
  tells_after token identifier uuid check generation is named uuid_is check_is generation_is = record {
    n = n;
    uuid_is = uuid_is;
    session = record { store = new; stands = t.store_is; account = row; there = t.account_is; is = is };
    account = row;
    there = t.account_is;
    named = named;
    check_is = check_is;
    generation_is = generation_is;
  }

-- ---- registration

module _ (rows : Rows) (store : StoreRow) (has : HasStore rows store) (params : Params) (pw : Bytes) (changes : List Change) (token identifier uuid : Bytes)
    (b : BeginsAccount store params pw changes (answer.Account token identifier uuid)) where
  abbrev next : ℕ
  next = suc store.accounts

  begun : Steps rows (rows_after rows (b.account ∷ b.generation ∷ b.count ∷ [])) b.count_puts.row next b.account_puts.row b.generation_puts.row
  begun =
      put_count rows (rows_after rows (b.account ∷ b.generation ∷ [])) store b.count_puts.row next b.account_puts.row b.generation_puts.row b.count b.count_puts.puts
      (put_both rows store next b.account_puts.row b.generation_puts.row b.account b.generation b.account_puts.puts
      (subst (λ (g : ℕ). Puts b.generation (key.Generation next g) (value.Generation b.generation_puts.row)) (sym b.account_puts.generation_is) b.generation_puts.puts)
      has)

  begins_tell : (identifier ≡ params.identifier)
      × ((t : TellsAccount (rows_after rows changes) token identifier uuid (check_value pw) 1) × IsPresent (rows_after rows changes) t.n params)
  begins_tell =
      let answers = b.answers in
      let tokens : token ≡ session_token store.secret next 1 = cc in
      let names : identifier ≡ params.identifier = cc in
      let uuids : uuid ≡ account_uuid next = cc in
      let secrets = ap (λ (s : Bytes). session_token s next 1) (sym b.count_puts.secret) in
      let generations = ap (session_token b.count_puts.row.secret next) (sym b.account_puts.generation_is) in (
        names,
        subst (λ (cs : List Change). (t : TellsAccount (rows_after rows cs) token identifier uuid (check_value pw) 1) × IsPresent (rows_after rows cs) t.n params)
            (sym b.changes_are) (
              tells_after rows (rows_after rows (b.account ∷ b.generation ∷ b.count ∷ [])) b.count_puts.row next b.account_puts.row b.generation_puts.row begun
                  token identifier uuid (check_value pw) 1 (tokens ∙ secrets ∙ generations) (b.account_puts.identifier_is ∙ sym names) uuids b.account_puts.check_is
                  b.account_puts.generation_is,
              present_after rows (rows_after rows (b.account ∷ b.generation ∷ b.count ∷ [])) b.count_puts.row next b.account_puts.row b.generation_puts.row begun
                  params (sym b.account_puts.identifier_is) (sym b.generation_puts.cost_is) (sym b.generation_puts.nonce_is),
            ),
      )

pub registers_tell : RegistersTell
registers_tell rows params pw now changes token identifier uuid sound (store, has, inl (named, r)) = (let e = r.1 in absurd cc)
registers_tell rows params pw now changes token identifier uuid sound (store, has, inr (inl (unknown, full, r))) = (let e = r.1 in absurd cc)
registers_tell rows params pw now changes token identifier uuid sound (store, has, inr (inr (unknown, less, b))) =
    begins_tell rows store has params pw changes token identifier uuid b

-- ---- parameters and sign-in

pub parameters_tell : ParametersTell
parameters_tell rows identifier now changes params (store, has, (none, inl (unknown, e))) = absurd cc
parameters_tell rows identifier now changes params (store, has, (none, inr t)) =
    let answers = t.answers in
    let same : t.params ≡ params = cc in (
      none,
      ap (λ (p : Params). p.identifier) (sym same) ∙ t.identifier_is,
      (
        t.n,
        subst (IsPresent rows t.n) same (record {
          account = t.account;
          there = t.there;
          generation = t.generation;
          stands = t.present;
          identifier = t.identifier_is ∙ sym t.named;
          cost = t.cost;
          nonce = t.nonce;
        }),
      ),
    )

pub sign_ins_tell : SignInsTell
sign_ins_tell rows identifier pw now changes token name uuid sound (store, has, (none, inl (unknown, e))) = absurd cc
sign_ins_tell rows identifier pw now changes token name uuid sound (store, has, (none, inr (inl (wrong, e)))) = absurd cc
sign_ins_tell rows identifier pw now changes token name uuid sound (store, has, (none, inr (inr x))) =
    let answers = x.answers in
    let tokens : token ≡ session_token store.secret x.n x.account.generation = cc in
    let names : name ≡ identifier = cc in
    let uuids : uuid ≡ account_uuid x.n = cc in (
      none,
      names,
      (
        x.account.generation,
        record {
          n = x.n;
          uuid_is = uuids;
          session = record { store = store; stands = has; account = x.account; there = x.there; is = tokens };
          account = x.account;
          there = x.there;
          named = x.named ∙ sym names;
          check_is = x.check;
          generation_is = refl;
        },
      ),
    )

-- ---- a change of password

module _ (rows : Rows) (store : StoreRow) (has : HasStore rows store) (token current pw : Bytes) (cost : ℕ) (nonce : Bytes) (fits_cost : IsCost cost)
    (fits_nonce : IsNonce nonce) (changes : List Change) (renewed identifier uuid : Bytes) (n : ℕ) (a : AccountRow) (session : IsSession rows token n)
    (there : HasAccount rows n a) (right : a.check ≡ check_value current) (r : Replaces store n a pw cost nonce changes (answer.Account renewed identifier uuid)) where
  replaced : Steps rows (rows_after rows (r.account ∷ r.generation ∷ [])) store n r.account_puts.row r.generation_puts.row
  replaced =
      put_both rows store n r.account_puts.row r.generation_puts.row r.account r.generation r.account_puts.puts
      (subst (λ (g : ℕ). Puts r.generation (key.Generation n g) (value.Generation r.generation_puts.row)) (sym r.account_puts.generation_is) r.generation_puts.puts)
      has

  abbrev renewed_params : Params
  renewed_params = record {
    identifier = a.identifier;
    pw_cost = cost;
    pw_nonce = nonce;
    identifier_fits = lengths 1 254 a.identifier a.identifier_fits;
    cost_fits = fits_cost;
    nonce_fits = fits_nonce;
  }

  replaces_tell : (generation : ℕ) × (TellsAccount rows token identifier uuid (check_value current) generation
      × ((t : TellsAccount (rows_after rows changes) renewed identifier uuid (check_value pw) (suc generation))
      × ((params : Params) × (IsPresent (rows_after rows changes) t.n params × ((params.pw_cost ≡ cost) × (params.pw_nonce ≡ nonce))))))
  replaces_tell =
      let answers = r.answers in
      let tokens : renewed ≡ session_token store.secret n (suc a.generation) = cc in
      let names : identifier ≡ a.identifier = cc in
      let uuids : uuid ≡ account_uuid n = cc in
      let generations = ap (session_token store.secret n) (sym r.account_puts.generation_is) in (
        a.generation,
        (
          record {
            n = n;
            uuid_is = uuids;
            session = session;
            account = a;
            there = there;
            named = sym names;
            check_is = right;
            generation_is = refl;
          },
          subst (λ (cs : List Change). (t : TellsAccount (rows_after rows cs) renewed identifier uuid (check_value pw) (suc a.generation))
              × ((params : Params) × (IsPresent (rows_after rows cs) t.n params × ((params.pw_cost ≡ cost) × (params.pw_nonce ≡ nonce)))))
              (sym r.changes_are) (
                tells_after rows (rows_after rows (r.account ∷ r.generation ∷ [])) store n r.account_puts.row r.generation_puts.row replaced
                    renewed identifier uuid (check_value pw) (suc a.generation) (tokens ∙ generations) (r.account_puts.identifier_is ∙ sym names) uuids r.account_puts.check_is
                    r.account_puts.generation_is,
                (
                  renewed_params,
                  (
                    present_after rows (rows_after rows (r.account ∷ r.generation ∷ [])) store n r.account_puts.row r.generation_puts.row replaced
                        renewed_params (sym r.account_puts.identifier_is) (sym r.generation_puts.cost_is) (sym r.generation_puts.nonce_is),
                    (refl, refl),
                  ),
                ),
              ),
        ),
      )

pub changes_tell : ChangesTell
changes_tell rows token current pw cost nonce now changes next identifier uuid sound fits (store, has, inl (none, r)) = (let e = r.1 in absurd cc)
changes_tell rows token current pw cost nonce now changes next identifier uuid sound fits (store, has, inr (inl (n, a, is, there, wrong, r))) =
    (let e = r.1 in absurd cc)
changes_tell rows token current pw cost nonce now changes next identifier uuid sound fits
    (store, has, inr (inr (n, a, present, is, there, right, stands, inl (u, least, r)))) = (let e = r.1 in absurd cc)
changes_tell rows token current pw cost nonce now changes next identifier uuid sound fits
    (store, has, inr (inr (n, a, present, is, there, right, stands, inr (inl (none, used, r))))) = (let e = r.1 in absurd cc)
changes_tell rows token current pw cost nonce now changes next identifier uuid sound fits
    (store, has, inr (inr (n, a, present, is, there, right, stands, inr (inr (inl (none, fresh, full, r)))))) = (let e = r.1 in absurd cc)
changes_tell rows token current pw cost nonce now changes next identifier uuid sound (old, new, low, high)
    (store, has, inr (inr (n, a, present, is, there, right, stands, inr (inr (inr (none, fresh, less, r)))))) =
    replaces_tell rows store has token current pw cost nonce low high changes next identifier uuid n a is there right r
