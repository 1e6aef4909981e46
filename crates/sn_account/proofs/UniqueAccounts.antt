-- Requests about accounts have one answer each, and change the rows in one way.
use Rattle.std.proofs.Common.{◌≡◌, ◌≢◌, ℕ, true, List, [], ◌∷◌, Less, Equal, Greater, Ordering, refl, sym, ap, ◌∙◌, subst, inl, inr, arith}
use Rattle.std.specs.Cmp.Lexicographic.{slice_cmp}
use Rattle.std.specs.Ordering.{is_eq, nat_cmp, ordering_reverse}
use Rattle.std.specs.Str.{bytes_eq}
use Rattle.std.proofs.lemmas.Cmp.{nat_list_cmp_total}
use Rattle.std.proofs.lemmas.Map.Text.{is_eq-slice_cmp}
use Rattle.std.proofs.lemmas.Slice.Eq.{bytes_eq-Decides}
use Rattle.sn_keys.specs.Keys.{check_value}
use Rattle.sn_rows.specs.Table.{Rows}
use Rattle.sn_rows.specs.declared.change.Change.{Change}
use Rattle.sn_rows.specs.declared.key.Key.TheVariants as key
use Rattle.sn_rows.specs.declared.server_rows.AccountRow.{AccountRow}
use Rattle.sn_rows.specs.declared.server_rows.GenerationRow.{GenerationRow}
use Rattle.sn_rows.specs.declared.server_rows.StoreRow.{StoreRow}
use Rattle.sn_rows.specs.declared.value.Value.TheVariants as value
use Rattle.sn_string.proofs.Facts.{same_params}
use Rattle.sn_string.specs.declared.params.Params.{Params}
use Rattle.sn_sync.specs.declared.answer.Answer.{Answer}
use Rattle.sn_sync.specs.declared.answer.Answer.TheVariants as answer
use Rattle.sn_sync.specs.declared.answer.More.TheVariants as more
use Rattle.sn_account.specs.Lookups.{Bytes, HasAccount, HasGeneration, IsUnknown}
use Rattle.sn_account.specs.Rules.{Admits, BeginsAccount, ChangesKeys, ChangesPassword, IsBefore, IsLeastBehind, IsPresent, PutsAccount, PutsCount, PutsGeneration, Registers, Rejects, Replaces, SignsIn, Tells, TellsParams}
use Rattle.sn_account.specs.Sessions.{IsSession, account_uuid, session_token}
use Rattle.sn_account.specs.Sound.{IsSound}
use Rattle.sn_account.proofs.NamedLemmas.{one_account}
use Rattle.sn_account.proofs.SessionTokens as session
use Rattle.sn_account.proofs.UniqueRows.{account_same, generation_same, one_put, store_same}
use Rattle.sn_account.proofs.UniqueSync.{Same, one_present, refused_same}

-- ---- puts

one_account_put : (a b : Change) (n : ℕ) (identifier : Bytes) (generation : ℕ) (check : Bytes) → PutsAccount a n identifier generation check
    → PutsAccount b n identifier generation check → a ≡ b
one_account_put a b n identifier generation check x y =
    let rows : x.row ≡ y.row = account_same x.row y.row (x.identifier_is ∙ sym y.identifier_is) (x.generation_is ∙ sym y.generation_is) (x.check_is ∙ sym y.check_is) in
    one_put a b (key.Account n) (value.Account x.row) (value.Account y.row) (ap value.Account rows) x.puts y.puts

one_generation_put : (a b : Change) (n generation cost : ℕ) (nonce : Bytes) → PutsGeneration a n generation cost nonce
    → PutsGeneration b n generation cost nonce → a ≡ b
one_generation_put a b n generation cost nonce x y =
    let rows : x.row ≡ y.row = generation_same x.row y.row (x.cost_is ∙ sym y.cost_is) (x.nonce_is ∙ sym y.nonce_is) in
    one_put a b (key.Generation n generation) (value.Generation x.row) (value.Generation y.row) (ap value.Generation rows) x.puts y.puts

one_count_put : (a b : Change) (store : StoreRow) → PutsCount a store → PutsCount b store → a ≡ b
one_count_put a b store x y =
    let rows : x.row ≡ y.row = store_same x.row y.row (x.secret ∙ sym y.secret) (x.last ∙ sym y.last) (x.accounts ∙ sym y.accounts) in
    one_put a b key.Store (value.Store x.row) (value.Store y.row) (ap value.Store rows) x.puts y.puts

-- ---- registration

begins_same : (store : StoreRow) (params : Params) (pw : Bytes) (changes others : List Change) (given other : Answer)
    → BeginsAccount store params pw changes given → BeginsAccount store params pw others other → Same changes given others other
begins_same store params pw changes others given other a b =
    let accounts : a.account ≡ b.account = one_account_put a.account b.account _ _ _ _ a.account_puts b.account_puts in
    let generations : a.generation ≡ b.generation = one_generation_put a.generation b.generation _ _ _ _ a.generation_puts b.generation_puts in
    let counts : a.count ≡ b.count = one_count_put a.count b.count store a.count_puts b.count_puts in
    let lists : a.account ∷ a.generation ∷ a.count ∷ [] ≡ b.account ∷ b.generation ∷ b.count ∷ [] = cc in
    (a.changes_are ∙ lists ∙ sym b.changes_are, a.answers ∙ sym b.answers)

pub registers_same : (rows : Rows) (store : StoreRow) (params : Params) (pw : Bytes) (changes others : List Change) (given other : Answer)
    → Registers rows store params pw changes given → Registers rows store params pw others other → Same changes given others other
registers_same rows store params pw changes others given other (inl (named, r)) (inl (too, s)) = refused_same 409 _ _ _ changes others given other refl r s
registers_same rows store params pw changes others given other (inl (named, r)) (inr (inl (unknown, full, s))) = absurd (unknown named.0 named.1)
registers_same rows store params pw changes others given other (inl (named, r)) (inr (inr (unknown, less, b))) = absurd (unknown named.0 named.1)
registers_same rows store params pw changes others given other (inr (inl (unknown, full, r))) (inl (named, s)) = absurd (unknown named.0 named.1)
registers_same rows store params pw changes others given other (inr (inl (unknown, full, r))) (inr (inl (too, filled, s))) =
    refused_same 409 _ _ _ changes others given other refl r s
registers_same rows store params pw changes others given other (inr (inl (unknown, full, r))) (inr (inr (too, less, b))) = absurd (omega arith)
registers_same rows store params pw changes others given other (inr (inr (unknown, less, a))) (inl (named, s)) = absurd (unknown named.0 named.1)
registers_same rows store params pw changes others given other (inr (inr (unknown, less, a))) (inr (inl (too, full, s))) = absurd (omega arith)
registers_same rows store params pw changes others given other (inr (inr (unknown, less, a))) (inr (inr (too, few, b))) =
    begins_same store params pw changes others given other a b

-- ---- parameters and sign-in

-- two accounts of one identifier are the same
module _ (rows : Rows) (sound : IsSound rows) (identifier : Bytes) where
  one_number : (n m : ℕ) (a b : AccountRow) → HasAccount rows n a → HasAccount rows m b → a.identifier ≡ identifier → b.identifier ≡ identifier → n ≡ m
  one_number n m a b has had e f = sound.apart n m a b has had (e ∙ sym f)

  one_row : (n m : ℕ) (a b : AccountRow) → HasAccount rows n a → HasAccount rows m b → a.identifier ≡ identifier → b.identifier ≡ identifier → a ≡ b
  one_row n m a b has had e f =
      let same : n ≡ m = one_number n m a b has had e f in
      one_account rows m a b (subst (λ (k : ℕ). HasAccount rows k a) same has) had

  tells_same : (given other : Answer) → Tells rows identifier given → Tells rows identifier other → given ≡ other
  tells_same given other a b =
      let numbers : a.n ≡ b.n = one_number a.n b.n a.account b.account a.there b.there a.named b.named in
      let accounts : a.account ≡ b.account = one_row a.n b.n a.account b.account a.there b.there a.named b.named in
      let generations : a.account.generation ≡ b.account.generation = ap (λ (r : AccountRow). r.generation) accounts in
      let rows_same : a.generation ≡ b.generation = one_of a.n b.n a.account.generation b.account.generation a.generation b.generation numbers generations a.present b.present in
      let params : a.params ≡ b.params = same_params a.params b.params (a.identifier_is ∙ sym b.identifier_is)
      (a.cost ∙ ap (λ (r : GenerationRow). r.pw_cost) rows_same ∙ sym b.cost) (a.nonce ∙ ap (λ (r : GenerationRow). r.pw_nonce) rows_same ∙ sym b.nonce) in
      a.answers ∙ ap answer.Params params ∙ sym b.answers
    where
      one_of : (n m g h : ℕ) (r s : GenerationRow) → n ≡ m → g ≡ h → HasGeneration rows n g r → HasGeneration rows m h s → r ≡ s
      one_of n m g h r s e f has had = cc

  unknown_or_not : (n : ℕ) (a : AccountRow) → HasAccount rows n a → a.identifier ≡ identifier → IsUnknown rows identifier → ⊥
  unknown_or_not n a has named unknown = unknown n (a, has, named)

  pub params_told_same : (given other : Answer) → TellsParams rows identifier given → TellsParams rows identifier other → given ≡ other
  params_told_same given other (inl (unknown, e)) (inl (too, f)) = e ∙ sym f
  params_told_same given other (inl (unknown, e)) (inr b) = absurd (unknown_or_not b.n b.account b.there b.named unknown)
  params_told_same given other (inr a) (inl (unknown, f)) = absurd (unknown_or_not a.n a.account a.there a.named unknown)
  params_told_same given other (inr a) (inr b) = tells_same given other a b

  admits_same : (store : StoreRow) (pw : Bytes) (given other : Answer) → Admits rows store identifier pw given → Admits rows store identifier pw other → given ≡ other
  admits_same store pw given other a b =
      let numbers : a.n ≡ b.n = one_number a.n b.n a.account b.account a.there b.there a.named b.named in
      let accounts : a.account ≡ b.account = one_row a.n b.n a.account b.account a.there b.there a.named b.named in
      let generations : a.account.generation ≡ b.account.generation = ap (λ (r : AccountRow). r.generation) accounts in
      let answers : answer.Account (session_token store.secret a.n a.account.generation) identifier (account_uuid a.n)
      ≡ answer.Account (session_token store.secret b.n b.account.generation) identifier (account_uuid b.n) = cc in
      a.answers ∙ answers ∙ sym b.answers

  admits_or_rejects : (store : StoreRow) (pw : Bytes) (given : Answer) → Admits rows store identifier pw given → Rejects rows identifier pw → ⊥
  admits_or_rejects store pw given a r =
      let accounts : r.account ≡ a.account = one_row r.n a.n r.account a.account r.there a.there r.named a.named in
      r.check (ap (λ (x : AccountRow). x.check) accounts ∙ a.check)

  pub signs_same : (store : StoreRow) (pw : Bytes) (given other : Answer) → SignsIn rows store identifier pw given → SignsIn rows store identifier pw other → given ≡ other
  signs_same store pw given other (inl (unknown, e)) (inl (too, f)) = e ∙ sym f
  signs_same store pw given other (inl (unknown, e)) (inr (inl (b, f))) = absurd (unknown_or_not b.n b.account b.there b.named unknown)
  signs_same store pw given other (inl (unknown, e)) (inr (inr b)) = absurd (unknown_or_not b.n b.account b.there b.named unknown)
  signs_same store pw given other (inr (inl (a, e))) (inl (unknown, f)) = absurd (unknown_or_not a.n a.account a.there a.named unknown)
  signs_same store pw given other (inr (inl (a, e))) (inr (inl (b, f))) = e ∙ sym f
  signs_same store pw given other (inr (inl (a, e))) (inr (inr b)) = absurd (admits_or_rejects store pw other b a)
  signs_same store pw given other (inr (inr a)) (inl (unknown, f)) = absurd (unknown_or_not a.n a.account a.there a.named unknown)
  signs_same store pw given other (inr (inr a)) (inr (inl (b, f))) = absurd (admits_or_rejects store pw given a b)
  signs_same store pw given other (inr (inr a)) (inr (inr b)) = admits_same store pw given other a b

-- ---- a change of password

-- two uuids of which neither stands before the other are the same
one_of_two : (a b : Bytes) → ¬ (IsBefore a b) → ¬ (IsBefore b a) → a ≡ b
one_of_two a b off away = by_order (slice_cmp nat_cmp a b) refl
  where
    by_order : (o : Ordering) → slice_cmp nat_cmp a b ≡ o → a ≡ b
    by_order Less e = absurd (off e)
    by_order Equal e =
        let told : bytes_eq a b ≡ true = sym (is_eq-slice_cmp a b) ∙ ap is_eq e in
        (bytes_eq-Decides a b).0 told
    by_order Greater e =
        let back : slice_cmp nat_cmp b a ≡ ordering_reverse (slice_cmp nat_cmp a b) = nat_list_cmp_total.antisymm b a in
        absurd (away (back ∙ ap ordering_reverse e))

one_least : (rows : Rows) (n : ℕ) (params : Params) (u w : Bytes) → IsLeastBehind rows n params u → IsLeastBehind rows n params w → u ≡ w
one_least rows n params u w a b = one_of_two u w (b.least u a.behind) (a.least w b.behind)

replaces_same : (store : StoreRow) (n : ℕ) (a : AccountRow) (pw : Bytes) (cost : ℕ) (nonce : Bytes) (changes others : List Change) (given other : Answer)
    → Replaces store n a pw cost nonce changes given → Replaces store n a pw cost nonce others other → Same changes given others other
replaces_same store n a pw cost nonce changes others given other x y =
    let accounts : x.account ≡ y.account = one_account_put x.account y.account _ _ _ _ x.account_puts y.account_puts in
    let generations : x.generation ≡ y.generation = one_generation_put x.generation y.generation _ _ _ _ x.generation_puts y.generation_puts in
    let lists : x.account ∷ x.generation ∷ [] ≡ y.account ∷ y.generation ∷ [] = cc in
    (x.changes_are ∙ lists ∙ sym y.changes_are, x.answers ∙ sym y.answers)

module _ (rows : Rows) (store : StoreRow) (pw : Bytes) (cost : ℕ) (nonce : Bytes) (changes others : List Change) (given other : Answer) where
  keys_same : (n : ℕ) (a : AccountRow) (present : Params) → ChangesKeys rows store n a present pw cost nonce changes given
      → ChangesKeys rows store n a present pw cost nonce others other → Same changes given others other
  keys_same n a present (inl (u, least, r)) (inl (w, too, s)) =
      refused_same 409 _ _ _ changes others given other (ap more.Uuid (one_least rows n present u w least too)) r s
  keys_same n a present (inl (u, least, r)) (inr (inl (none, used, s))) = absurd (none u least.behind)
  keys_same n a present (inl (u, least, r)) (inr (inr (inl (none, fresh, full, s)))) = absurd (none u least.behind)
  keys_same n a present (inl (u, least, r)) (inr (inr (inr (none, fresh, few, b)))) = absurd (none u least.behind)
  keys_same n a present (inr (inl (none, used, r))) (inl (u, least, s)) = absurd (none u least.behind)
  keys_same n a present (inr (inl (none, used, r))) (inr (inl (too, also, s))) = refused_same 409 _ _ _ changes others given other refl r s
  keys_same n a present (inr (inl (none, used, r))) (inr (inr (inl (too, fresh, full, s)))) = absurd (fresh used)
  keys_same n a present (inr (inl (none, used, r))) (inr (inr (inr (too, fresh, few, b)))) = absurd (fresh used)
  keys_same n a present (inr (inr (inl (none, fresh, full, r)))) (inl (u, least, s)) = absurd (none u least.behind)
  keys_same n a present (inr (inr (inl (none, fresh, full, r)))) (inr (inl (too, used, s))) = absurd (fresh used)
  keys_same n a present (inr (inr (inl (none, fresh, full, r)))) (inr (inr (inl (too, also, filled, s)))) =
      refused_same 409 _ _ _ changes others given other refl r s
  keys_same n a present (inr (inr (inl (none, fresh, full, r)))) (inr (inr (inr (too, also, few, b)))) = absurd (omega arith)
  keys_same n a present (inr (inr (inr (none, fresh, few, x)))) (inl (u, least, s)) = absurd (none u least.behind)
  keys_same n a present (inr (inr (inr (none, fresh, few, x)))) (inr (inl (too, used, s))) = absurd (fresh used)
  keys_same n a present (inr (inr (inr (none, fresh, few, x)))) (inr (inr (inl (too, also, full, s)))) = absurd (omega arith)
  keys_same n a present (inr (inr (inr (none, fresh, few, x)))) (inr (inr (inr (too, also, less, y)))) =
      replaces_same store n a pw cost nonce changes others given other x y

  -- of one session the account is one, with its parameters
  keys_of_session : (sound : IsSound rows) (token : Bytes) (n m : ℕ) (a b : AccountRow) (present also : Params) → IsSession rows token n → IsSession rows token m
      → HasAccount rows n a → HasAccount rows m b → IsPresent rows n present → IsPresent rows m also
      → ChangesKeys rows store n a present pw cost nonce changes given → ChangesKeys rows store m b also pw cost nonce others other
      → Same changes given others other
  keys_of_session sound token n m a b present also is too has had stands standing x y =
      let numbers : m ≡ n = session.one_account rows token m n sound too is in
      let had_n : HasAccount rows n b = subst (λ (k : ℕ). HasAccount rows k b) numbers had in
      let standing_n : IsPresent rows n also = subst (λ (k : ℕ). IsPresent rows k also) numbers standing in
      let accounts : b ≡ a = one_account rows n b a had_n has in
      let params : also ≡ present = one_present rows n also present standing_n stands in
      let at_n = subst (λ (k : ℕ). ChangesKeys rows store k b also pw cost nonce others other) numbers y in
      let of_a = subst (λ (r : AccountRow). ChangesKeys rows store n r also pw cost nonce others other) accounts at_n in
      keys_same n a present x (subst (λ (p : Params). ChangesKeys rows store n a p pw cost nonce others other) params of_a)

  -- of one session the check value is one
  wrong_or_right : (sound : IsSound rows) (token current : Bytes) (n m : ℕ) (a b : AccountRow) → IsSession rows token n → IsSession rows token m
      → HasAccount rows n a → HasAccount rows m b → a.check ≢ check_value current → b.check ≡ check_value current → ⊥
  wrong_or_right sound token current n m a b is too has had wrong right =
      let numbers : m ≡ n = session.one_account rows token m n sound too is in
      let accounts : b ≡ a = one_account rows n b a (subst (λ (k : ℕ). HasAccount rows k b) numbers had) has in
      wrong (ap (λ (r : AccountRow). r.check) (sym accounts) ∙ right)

  pub changes_same : (sound : IsSound rows) (token current : Bytes) → ChangesPassword rows store token current pw cost nonce changes given
      → ChangesPassword rows store token current pw cost nonce others other → Same changes given others other
  changes_same sound token current (inl (none, r)) (inl (too, s)) = refused_same 401 _ _ _ changes others given other refl r s
  changes_same sound token current (inl (none, r)) (inr (inl (n, a, is, has, wrong, s))) = absurd (none n is)
  changes_same sound token current (inl (none, r)) (inr (inr (n, a, present, is, has, right, stands, y))) = absurd (none n is)
  changes_same sound token current (inr (inl (n, a, is, has, wrong, r))) (inl (none, s)) = absurd (none n is)
  changes_same sound token current (inr (inl (n, a, is, has, wrong, r))) (inr (inl (m, b, too, had, off, s))) =
      refused_same 401 _ _ _ changes others given other refl r s
  changes_same sound token current (inr (inl (n, a, is, has, wrong, r))) (inr (inr (m, b, present, too, had, right, stands, y))) =
      absurd (wrong_or_right sound token current n m a b is too has had wrong right)
  changes_same sound token current (inr (inr (n, a, present, is, has, right, stands, x))) (inl (none, s)) = absurd (none n is)
  changes_same sound token current (inr (inr (n, a, present, is, has, right, stands, x))) (inr (inl (m, b, too, had, wrong, s))) =
      absurd (wrong_or_right sound token current m n b a too is had has wrong right)
  changes_same sound token current (inr (inr (n, a, present, is, has, right, stands, x))) (inr (inr (m, b, also, too, had, true_too, standing, y))) =
      keys_of_session sound token n m a b present also is too has had stands standing x y
