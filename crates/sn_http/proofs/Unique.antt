-- One reading of an input.
use Rattle.std.specs.Prelude.{◌≡◌, ◌⊎◌, ℕ, List, ◌++◌, length, take, Result, Ok, Err, IfOk, IfErr}
use Rattle.std.proofs.Common.{refl, sym, ◌∙◌, ap, subst, arith, length-append, ⊎_elim}
use Rattle.std.proofs.lemmas.List.{take_at}
use Rattle.httparse.specs.Grammar.{RequestHead, ReadsRequest, print_request}
use Rattle.httparse.proofs.GrammarLemmas.{request_unique}
use Rattle.sn_http.specs.Fields.{fields_of}
use Rattle.sn_http.specs.Framing.{framing}
use Rattle.sn_http.specs.Options.{token_of, closes}
use Rattle.sn_http.specs.Heads.{IsHead}
use Rattle.sn_http.specs.Messages.{IsHeadless, IsMisframed, IsCutShort}
use Rattle.sn_http.specs.Laws.{OneMessage, NoMessageWhereCheck, OneStatus}
use Rattle.sn_http.proofs.Taking.{begins_more}

abbrev pub fine : ℕ → Result ℕ ℕ
fine n = Ok n

abbrev pub failed : ℕ → Result ℕ ℕ
failed n = Err n

pub ok_inj : {a b : ℕ} → fine a ≡ fine b → a ≡ b
ok_inj {a} p = subst (λ (r : Result ℕ ℕ). IfOk r (λ n. a ≡ n)) p refl

err_inj : {a b : ℕ} → failed a ≡ failed b → a ≡ b
err_inj {a} p = subst (λ (r : Result ℕ ℕ). IfErr r (λ n. a ≡ n)) p refl

pub not_both : {a b : ℕ} → fine a ≡ failed b → ⊥
not_both p = subst (λ (r : Result ℕ ℕ). IfOk r (λ n. ⊥)) (sym p) tt

framed_same : (h k : RequestHead) (r s : Result ℕ ℕ) → h ≡ k → framing h.method (fields_of h.fields) ≡ r → framing k.method (fields_of k.fields) ≡ s → r ≡ s
framed_same h k r s same first second = sym first ∙ ap (λ (x : RequestHead). framing x.method (fields_of x.fields)) same ∙ second

front_same : (a b c d : List ℕ) → a ++ b ≡ c ++ d → length a ≡ length c → a ≡ c
front_same a b c d is len = sym (take_at a b (length a) refl) ∙ ap (λ (l : List ℕ). take (length a) l) is ∙ take_at c d (length a) (sym len)

pub one_message : OneMessage
one_message one other rest more first second x y is =
    let a = begins_more one rest x.head first.body x.begins in
    let b = begins_more other more y.head second.body y.begins in
    let same = request_unique (one ++ rest) x.head y.head (first.body ++ rest) (second.body ++ more) a.reads (subst (λ (l : List ℕ). ReadsRequest l y.head (second.body ++ more)) (sym is) b.reads) in
    let body = front_same first.body rest second.body more same.1 (ok_inj (framed_same x.head y.head _ _ same.0 x.framed y.framed)) in
    record {
      bytes = x.begins.reads.1 ∙ ap (λ (h : RequestHead). print_request h ++ first.body) same.0 ∙ ap (λ (l : List ℕ). print_request y.head ++ l) body ∙ sym y.begins.reads.1;
      method = x.method ∙ ap (λ (h : RequestHead). h.method) same.0 ∙ sym y.method;
      target = x.target ∙ ap (λ (h : RequestHead). h.target) same.0 ∙ sym y.target;
      token = x.token ∙ ap (λ (h : RequestHead). token_of (fields_of h.fields)) same.0 ∙ sym y.token;
      body = body;
      closing = x.closing ∙ ap (λ (h : RequestHead). closes h.minor (fields_of h.fields)) same.0 ∙ sym y.closing;
    }

pub no_message_where_check : NoMessageWhereCheck
no_message_where_check bytes rest message status x check =
    let a = begins_more bytes rest x.head message.body x.begins in
    ⊎_elim (λ (y : IsHeadless (bytes ++ rest) × (status ≡ 400)). y.0.none x.head _ a)
    (λ later. ⊎_elim (misframed a) (cut a) later) check
  where
    misframed : IsHead (bytes ++ rest) x.head (message.body ++ rest) → IsMisframed (bytes ++ rest) status → ⊥
    misframed a y = not_both (framed_same x.head y.head _ _ (request_unique _ x.head y.head _ _ a.reads y.begins.reads).0 x.framed y.refused)

    cut : IsHead (bytes ++ rest) x.head (message.body ++ rest) → (IsCutShort (bytes ++ rest) × (status ≡ 400)) → ⊥
    cut a z = let y = z.0 in
        let same = request_unique _ x.head y.head _ _ a.reads y.begins.reads in
        let size = ok_inj (framed_same x.head y.head _ _ same.0 x.framed y.framed) in
        omega (arith, size, ap length same.1, length-append message.body rest, y.short)

pub one_status : OneStatus
one_status input one other x y = ⊎_elim (λ a. ⊎_elim (λ b. a.1 ∙ sym b.1) (λ b. absurd (headed a.0 b)) y)
    (λ a. ⊎_elim (λ b. absurd (headed b.0 a)) (λ b. both a b) y) x
  where
    headed : {s : ℕ} → IsHeadless input → (IsMisframed input s ⊎ (IsCutShort input × (s ≡ 400))) → ⊥
    headed a b = ⊎_elim (λ m. a.none m.head m.rest m.begins) (λ c. a.none c.0.head c.0.rest c.0.begins) b

    differ : {s : ℕ} → IsMisframed input s → IsCutShort input → ⊥
    differ m c = not_both (framed_same c.head m.head _ _ (request_unique input c.head m.head _ _ c.begins.reads m.begins.reads).0 c.framed m.refused)

    both : (IsMisframed input one ⊎ (IsCutShort input × (one ≡ 400))) → (IsMisframed input other ⊎ (IsCutShort input × (other ≡ 400))) → one ≡ other
    both a b = ⊎_elim
        (λ m. ⊎_elim (λ n. err_inj (framed_same m.head n.head _ _ (request_unique input m.head n.head _ _ m.begins.reads n.begins.reads).0 m.refused n.refused)) (λ c. absurd (differ m c.0)) b)
        (λ c. ⊎_elim (λ n. absurd (differ n c.0)) (λ d. c.1 ∙ sym d.1) b) a
