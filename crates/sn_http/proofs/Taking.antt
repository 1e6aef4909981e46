-- A message in the bytes that were read.
use Rattle.std.specs.Prelude.{◌≡◌, ℕ, min, ◌+◌, ◌-◌, ◌^◌, ◌<◌, ◌≤◌, List, ◌++◌, length, take, drop, slice_range, Ok, Some, None}
use Rattle.std.specs.declared.option.Option.{Option}
use Rattle.std.specs.Io.KnownBytes.{prepend_known, Keeps, Consumes, IsAtEnd}
use Rattle.std.proofs.Common.{inr, refl, sym, ◌∙◌, ap, subst, append_assoc, append-nil, arith, length-append, length-take, length-drop}
use Rattle.std.proofs.lemmas.List.{take-append-drop, drop-append-le}
use Rattle.std.proofs.KnownBytes.{Keeps-trans}
use Rattle.httparse.specs.Grammar.{RequestHead, print_request}
use Rattle.httparse.proofs.GrammarLemmas.{ReadsRequest-append}
use Rattle.sn_http.specs.Heads.{IsHead, Carried, unread}
use Rattle.sn_http.specs.Found.{IsHeadAt}
use Rattle.sn_http.specs.Messages.{IsCheck, OfTold, Takes, TakesFrom, IfMessage, IfCheck, IfNoMessage}
use Rattle.sn_http.specs.declared.message.Message.{Message}
use Rattle.sn_http.specs.declared.head.Head.{Head}
use Rattle.sn_http.specs.declared.message.Incoming.{Incoming}
use Rattle.sn_http.specs.declared.message.Incoming.TheVariants.{Message as Whole, Check, End, ReadFault, Memory}
use Rattle.sn_http.proofs.Finding.{fewer}

pub begins_more : (bytes more : List ℕ) (h : RequestHead) (rest : List ℕ) → IsHead bytes h rest → IsHead (bytes ++ more) h (rest ++ more)
begins_more bytes more h rest x = record { reads = ReadsRequest-append bytes h rest more x.reads; few = x.few; short = x.short }

pub head_more : (bytes more : List ℕ) (head : Head) → IsHeadAt bytes head → IsHeadAt (bytes ++ more) head
head_more bytes more head x = record {
  head = x.head;
  begins = subst (IsHead (bytes ++ more) x.head) (sym (drop-append-le head.len bytes more x.fits)) (begins_more bytes more x.head (drop head.len bytes) x.begins);
  len = x.len;
  fits = omega (arith, x.fits, length-append bytes more);
  method = x.method;
  target = x.target;
  token = x.token;
  closing = x.closing;
  body = x.body;
  small = x.small;
}

pub head_whole : (bytes : List ℕ) (head : Head) (k : ℕ) → IsHeadAt (take k bytes) head → IsHeadAt bytes head
head_whole bytes head k x = subst (λ (l : List ℕ). IsHeadAt l head) (take-append-drop k bytes) (head_more (take k bytes) (drop k bytes) head x)

-- the message is the head that was found and the bytes behind it
pub record Follows (old : Carried) (found : Head) (size : ℕ) (message : Message) : Type 0 where
  pub body : message.body ≡ slice_range old.bytes found.len (found.len + size)
  pub method : message.method ≡ found.method
  pub target : message.target ≡ found.target
  pub token : message.token ≡ found.token
  pub closing : message.closing ≡ found.closing
  pub place : message.place ≡ old.place

pub taken : (old new : Carried) (found : Head) (size : ℕ) (message : Message) → IsHeadAt old.bytes found → found.body ≡ Ok size → found.len + size ≤ length old.bytes
    → Follows old found size message → new.bytes ≡ drop (found.len + size) old.bytes → new.place ≡ min (old.place + (found.len + size)) (2 ^ 64 - 1) → TakesFrom old new message
taken old new found size message x is there y left next =
    let k = found.len + size in
    let count : k - length (print_request x.head) ≡ size = omega (arith, x.len) in
    let part : k - found.len ≡ size = omega arith in
    let body_is : take (k - length (print_request x.head)) (drop found.len old.bytes) ≡ message.body =
    ap (λ (n : ℕ). take n (drop found.len old.bytes)) (count ∙ sym part) ∙ sym y.body in
    let length_is : length message.body ≡ size = omega (arith, ap length y.body, length-take (k - found.len) (drop found.len old.bytes), length-drop found.len old.bytes, there) in
    record {
      bytes = take k old.bytes;
      is = record {
        head = x.head;
        begins = subst (IsHead (take k old.bytes) x.head) body_is (fewer old.bytes x.head (drop found.len old.bytes) k x.begins (omega (arith, x.len)));
        framed = sym x.body ∙ is ∙ ap Ok (sym length_is);
        method = y.method ∙ x.method;
        target = y.target ∙ x.target;
        token = y.token ∙ x.token;
        closing = y.closing ∙ x.closing;
      };
      taken = sym (ap (λ (l : List ℕ). take k old.bytes ++ l) left ∙ take-append-drop k old.bytes);
      place_is = y.place;
      next_is = next ∙ ap (λ (n : ℕ). min (old.place + n) (2 ^ 64 - 1)) (sym (omega (arith, length-take k old.bytes, there)));
    }

consumed : (a b : Option (List ℕ)) (old mid new bytes : List ℕ) → Keeps (prepend_known old a) (prepend_known mid b) → mid ≡ bytes ++ new → Consumes (prepend_known old a) (prepend_known new b) bytes
consumed None b old mid new bytes kept is = tt
consumed (Some xs) None old mid new bytes kept is = absurd kept
consumed (Some xs) (Some ys) old mid new bytes kept is = sym kept ∙ ap (λ (l : List ℕ). l ++ ys) is ∙ append_assoc bytes new ys

pub taken_told : (a b : Option (List ℕ)) (old mid new : Carried) (result : Incoming) → Keeps (unread old a) (unread mid b) → mid.place ≡ old.place
    → IfMessage result (λ message. TakesFrom mid new message) → IfMessage result (λ message. Takes (unread old a) (unread new b) old.place new.place message)
taken_told a b old mid new (Whole message) kept place x = record {
  bytes = x.bytes;
  is = x.is;
  taken = consumed a b old.bytes mid.bytes new.bytes x.bytes kept x.taken;
  place_is = x.place_is ∙ place;
  next_is = x.next_is ∙ ap (λ (n : ℕ). min (n + length x.bytes) (2 ^ 64 - 1)) place;
}
taken_told a b old mid new (Check status place) kept same x = tt
taken_told a b old mid new End kept place x = tt
taken_told a b old mid new ReadFault kept place x = tt
taken_told a b old mid new Memory kept place x = tt

pub told_kept : (a b : Option (List ℕ)) (P : List ℕ → Type 0) → Keeps a b → OfTold b P → OfTold a P
told_kept None b P kept x = tt
told_kept (Some xs) None P kept x = absurd kept
told_kept (Some xs) (Some ys) P kept x = subst P kept x

pub cut_short : (old new more : List ℕ) (left : Option (List ℕ)) (head : Head) (size : ℕ) → IsHeadAt old head → head.body ≡ Ok size → new ≡ old ++ more
    → length new < head.len + size → IsAtEnd left → OfTold (prepend_known new left) (IsCheck 400)
cut_short old new more None head size x is grown lt end = tt
cut_short old new more (Some ys) head size x is grown lt end =
    let y : IsHeadAt new head = subst (λ (l : List ℕ). IsHeadAt l head) (sym grown) (head_more old more head x) in
    let whole : new ++ ys ≡ new = ap (λ (l : List ℕ). new ++ l) end ∙ append-nil new in
    inr (inr (
      record {
        head = y.head;
        rest = drop head.len new;
        size = size;
        begins = subst (λ (l : List ℕ). IsHead l y.head (drop head.len new)) (sym whole) y.begins;
        framed = sym y.body ∙ is;
        short = omega (arith, lt, length-drop head.len new, y.fits);
      },
      refl,
    ))

-- a head that was kept whole before
pub takes_kept : (a b : Option (List ℕ)) (new : Option (List ℕ)) (place mid next : ℕ) (result : Incoming) → Keeps a b → mid ≡ place
    → IfMessage result (λ message. Takes b new mid next message) → IfMessage result (λ message. Takes a new place next message)
takes_kept a b new place mid next (Whole message) kept same x = record {
  bytes = x.bytes;
  is = x.is;
  taken = kept_consumes a b new x.bytes kept x.taken;
  place_is = x.place_is ∙ same;
  next_is = x.next_is ∙ ap (λ (n : ℕ). min (n + length x.bytes) (2 ^ 64 - 1)) same;
}
  where
    kept_consumes : (a b c : Option (List ℕ)) (bytes : List ℕ) → Keeps a b → Consumes b c bytes → Consumes a c bytes
    kept_consumes None b c bytes kept x = tt
    kept_consumes (Some xs) None c bytes kept x = absurd kept
    kept_consumes (Some xs) (Some ys) None bytes kept x = absurd x
    kept_consumes (Some xs) (Some ys) (Some zs) bytes kept x = sym kept ∙ x
takes_kept a b new place mid next (Check status at) kept same x = tt
takes_kept a b new place mid next End kept same x = tt
takes_kept a b new place mid next ReadFault kept same x = tt
takes_kept a b new place mid next Memory kept same x = tt

pub check_kept : (a b : Option (List ℕ)) (place mid : ℕ) (result : Incoming) → Keeps a b → mid ≡ place
    → IfCheck result (λ status at. (at ≡ mid) × OfTold b (IsCheck status)) → IfCheck result (λ status at. (at ≡ place) × OfTold a (IsCheck status))
check_kept a b place mid (Whole message) kept same x = tt
check_kept a b place mid (Check status at) kept same x = (x.0 ∙ same, told_kept a b (IsCheck status) kept x.1)
check_kept a b place mid End kept same x = tt
check_kept a b place mid ReadFault kept same x = tt
check_kept a b place mid Memory kept same x = tt

pub message_map : (result : Incoming) (P Q : Message → Type 0) → ((message : Message) → P message → Q message) → IfMessage result P → IfMessage result Q
message_map (Whole message) P Q f x = f message x
message_map (Check status at) P Q f x = tt
message_map End P Q f x = tt
message_map ReadFault P Q f x = tt
message_map Memory P Q f x = tt

-- nothing is lost, also by what was read before
pub stays_kept : (a b c : Option (List ℕ)) (place mid next : ℕ) (result : Incoming) → Keeps a b → mid ≡ place → IfNoMessage result (Keeps b c × (next ≡ mid)) → IfNoMessage result (Keeps a c × (next ≡ place))
stays_kept a b c place mid next (Whole message) kept same x = tt
stays_kept a b c place mid next (Check status at) kept same x = (Keeps-trans a b c kept x.0, x.1 ∙ same)
stays_kept a b c place mid next End kept same x = (Keeps-trans a b c kept x.0, x.1 ∙ same)
stays_kept a b c place mid next ReadFault kept same x = (Keeps-trans a b c kept x.0, x.1 ∙ same)
stays_kept a b c place mid next Memory kept same x = (Keeps-trans a b c kept x.0, x.1 ∙ same)
