-- What is said on a half with a message is read by the other end.
use Rattle.std.proofs.Common.{◌≡◌, inl, inr, ℕ, suc, ◌^◌, ltb, eqb, not, Bool, true, false, cond, List, [], ◌∷◌, ◌++◌, length, map, Result, Ok, Err, refl, sym, ap, subst, ◌∙◌, append_assoc}
use Rattle.std.proofs.Math.Dec.{eqb-suc-zero}
use Rattle.wtp_frames.specs.declared.endpoint.Endpoint.{Endpoint}
use Rattle.wtp_frames.specs.declared.reader.Reader.{Reader}
use Rattle.wtp_frames.specs.Item.{Item, Byte}
use Rattle.wtp_frames.specs.Run.{Run, run, preceded}
use Rattle.wtp_frames.proofs.RunLemmas.{run_none}
use Rattle.wtp_messages.specs.Content.{fits}
use Rattle.wtp_messages.specs.declared.response.Asked.{Asked}
use Rattle.wtp_messages.specs.declared.malformed.Malformed.TheVariants.{ContentTooLong}
use Rattle.wtp_sending.specs.declared.error.SendError.{SendError}
use Rattle.wtp_sending.specs.declared.error.SendError.TheVariants as error
use Rattle.wtp_sending.specs.declared.message.Place.{Place}
use Rattle.wtp_sending.specs.declared.message.Place.TheVariants.{Head, Content, Connecting, Tunnel, Session, Trailers, Ended}
use Rattle.wtp_sending.specs.declared.message.Sending.{Sending}
use Rattle.wtp_sending.specs.Message.{is_head, data_head, after_data, data_at, with_data, with_content, after_bytes, after_end, end_at, opens, placed}
use Rattle.wtp_sending.specs.Sent.{IsAt, IsAfter}
use Rattle.wtp_sending.proofs.SentLemmas.{ok_then, ok_else, head_sent, tail_sent, data_head_sent, bytes_sent, drain_sent, close_sent, end_sent}
use Rattle.wtp_sending.proofs.SentLemmas as sent
use Rattle.vesgrauf_stream.specs.declared.writing.half.Half.{Half}
use Rattle.vesgrauf_stream.specs.declared.writing.half.Half.TheVariants as half
use Rattle.vesgrauf_stream.specs.declared.writing.Writing.{Writing}
use Rattle.vesgrauf_stream.specs.Errors.{and_then, sending}
use Rattle.vesgrauf_stream.specs.Writing.{asked_half, raw_half, connected, opened, ends_if, part_head, after_frame, after_part, as_message}
use Rattle.vesgrauf_stream.specs.Said.{Said, Headers, Data, Drain, Close, Bytes, Call, Says, Ends, Cuts, Turns, Takes, Calls, HalfGoes, IsMessage, IsLast, Turned, wire_of, all_wire}
use Rattle.vesgrauf_stream.specs.Said as said
use Rattle.vesgrauf_stream.specs.ReadBack.{all_items, wire_in, items_in, IsReadTo, IsReadBack, PlainCalls, AreReadBack}
use Rattle.vesgrauf_stream.proofs.CallLemmas.{by_ok, sent_ok}

-- ---- where a reader is

-- it is where the message is, unless an interim response was the last that was sent
abbrev AtPlain : Endpoint → Sending → Reader → Type 0
AtPlain e s r = is_head s.place ≡ false → IsAt e s.place s.owed r

after_plain : (e : Endpoint) (place : Place) (owed : ℕ) (r : Reader) → IsAfter e place owed r → is_head place ≡ false → IsAt e place owed r
after_plain e (Head k) owed r at h = absurd cc
after_plain e Content owed r at h = at
after_plain e (Connecting session) owed r at h = at
after_plain e Tunnel owed r at h = at
after_plain e Session owed r at h = at
after_plain e Trailers owed r at h = at
after_plain e Ended owed r at h = at

not_true : (b : Bool) → not b ≡ true → b ≡ false
not_true true h = absurd cc
not_true false h = refl

-- ---- the end

end_place : (place : Place) (s last : Sending) → end_at place s ≡ Ok last → is_head place ≡ false
end_place (Head k) s last h = absurd cc
end_place Content s last h = refl
end_place (Connecting session) s last h = refl
end_place Tunnel s last h = refl
end_place Session s last h = refl
end_place Trailers s last h = refl
end_place Ended s last h = refl

end_plain : (s last : Sending) → after_end s ≡ Ok last → is_head s.place ≡ false
end_plain s last h = end_place s.place s last (ok_else (ltb 0 s.owed) (end_at s.place s) error.DataMissing last h).1

-- the reader after the end of a message, if it ends
record EndBack (e : Endpoint) (last : Sending) (r : Reader) : Type 0 where
  next : Reader
  gives : (more : List ℕ) → run r more ≡ run next more
  at : AtPlain e last next

end_back : (e : Endpoint) (fin : Bool) (s last : Sending) (r : Reader) → AtPlain e s r → ends_if fin s ≡ Ok last → EndBack e last r
end_back e true s last r at h =
    let a = end_sent e s last r (at (end_plain s last h)) h in
    record { next = a.next; gives = a.gives; at = after_plain e last.place last.owed a.next a.at }
end_back e false s last r at h = record {
  next = r;
  gives = λ more. refl;
  at = subst (λ (x : Sending). AtPlain e x r) (same s last h) at;
}
  where
    same : (x y : Sending) → ends_if false x ≡ Ok y → x ≡ y
    same x y h = cc h

-- ---- content

data_place : (place : Place) (s t : Sending) (n : ℕ) → s.place ≡ place → with_data place s n ≡ Ok t → is_head t.place ≡ false
data_place (Head k) s t n p h = absurd cc
data_place Content s t n p h =
    let a = ok_then (fits s.message.content.left n) (Ok (record s { message = with_content s.message n; owed = n })) (error.Malformed ContentTooLong) t h in
    let is : record s { message = with_content s.message n; owed = n } ≡ t = cc (a.1) in
    ap (λ (x : Sending). is_head x.place) (sym is) ∙ ap is_head p
data_place (Connecting session) s t n p h = absurd cc
data_place Tunnel s t n p h =
    let is : record s { owed = n } ≡ t = cc h in
    ap (λ (x : Sending). is_head x.place) (sym is) ∙ ap is_head p
data_place Session s t n p h = absurd cc
data_place Trailers s t n p h = absurd cc
data_place Ended s t n p h = absurd cc

data_plain : (s t : Sending) (n : ℕ) → after_data s n ≡ Ok t → is_head t.place ≡ false
data_plain s t n h =
    let a = ok_then (ltb n (2 ^ 62)) (data_at s n) error.TooLarge t h in
    let b = ok_else (ltb 0 s.owed) (cond (eqb n 0) (Err error.EmptyData) (with_data s.place s n)) error.DataMissing t a.1 in
    let c = ok_else (eqb n 0) (with_data s.place s n) error.EmptyData t b.1 in
    data_place s.place s t n refl c.1

-- some bytes are a frame
unless : {A : Type 0} (b : Bool) (x y z : A) → b ≡ false → cond b x y ≡ z → y ≡ z
unless true x y z is h = absurd cc
unless false x y z is h = h

framed : (n : ℕ) (s m : Sending) → after_frame (suc n) s ≡ Ok m → and_then (λ t. after_bytes t (suc n)) (after_data s (suc n)) ≡ Ok m
framed n s m h = unless (eqb (suc n) 0) (Ok s) (and_then (λ t. after_bytes t (suc n)) (after_data s (suc n))) (Ok m) (eqb-suc-zero n) h

some_head : (n : ℕ) → part_head (suc n) ≡ data_head (suc n)
some_head n = sym (unless (eqb (suc n) 0) [] (data_head (suc n)) (part_head (suc n)) (eqb-suc-zero n) refl)

-- the reader after a DATA frame
record FrameBack (e : Endpoint) (bytes : List ℕ) (m : Sending) (r : Reader) : Type 0 where
  next : Reader
  gives : (more : List ℕ) → run r ((part_head (length bytes) ++ bytes) ++ more) ≡ preceded (map Byte bytes) (run next more)
  at : AtPlain e m next

frame_back : (e : Endpoint) (bytes : List ℕ) (s m : Sending) (r : Reader) → IsAt e s.place s.owed r → after_frame (length bytes) s ≡ Ok m → FrameBack e bytes m r
frame_back e [] s m r at h =
    let is : s ≡ m = cc h in
    record {
      next = r;
      gives = λ more. refl;
      at = λ plain. subst (λ (x : Sending). IsAt e x.place x.owed r) is at;
    }
frame_back e (x ∷ xs) s m r at h =
    by_ok (λ t. after_bytes t (length (x ∷ xs))) (after_data s (length (x ∷ xs))) m (framed (length xs) s m h) (λ t announced counted.
    let a = data_head_sent e (length (x ∷ xs)) s t r at announced in
    let in_data = after_plain e t.place t.owed a.next a.at (data_plain s t (length (x ∷ xs)) announced) in
    let b = bytes_sent e (x ∷ xs) t m a.next in_data counted in
    record {
      next = b.next;
      gives = λ more.
          ap (λ (w : List ℕ). run r ((w ++ (x ∷ xs)) ++ more)) (some_head (length xs))
          ∙ ap (run r) (append_assoc (data_head (length (x ∷ xs))) (x ∷ xs) more)
          ∙ a.gives ((x ∷ xs) ++ more)
          ∙ b.gives more;
      at = after_plain e m.place m.owed b.next b.at;
    })

-- ---- one call

-- the reader goes on to a message
ends_on : (e : Endpoint) (call : Call) (fin : Bool) (s : Sending) (new : Half) (r next : Reader)
    → ((more : List ℕ) → run r (wire_in call ++ more) ≡ preceded (items_in e.max_section call) (run next more))
    → AtPlain e s next → IsLast fin s new → IsReadBack e call new r
ends_on e call fin s new r next gives at (last, ends, is) =
    let b = end_back e fin s last next at ends in
    subst (λ (h : Half). IsReadBack e call h r) (sym is) (record {
      next = b.next;
      gives = λ more. gives more ∙ ap (preceded (items_in e.max_section call)) (b.gives more);
      at = λ plain. b.at (not_true (is_head last.place) plain);
    })

-- what is queued for a message is what its reader is at
begun : (e : Endpoint) (h : Half) (s : Sending) (r : Reader) → IsReadTo e h r → IsMessage h s → IsAt e s.place s.owed r
begun e half.None s r at is = absurd is
begun e half.Idle s r at (id, peer, is) = subst (λ (x : Sending). IsAt e x.place x.owed r) (sym is) at
begun e (half.Asked asked) s r at (id, peer, is) = subst (λ (x : Sending). IsAt e x.place x.owed r) (sym is) at
begun e (half.Message first) s r at is = subst (λ (x : Sending). IsAt e x.place x.owed r) (sym is) at
begun e half.Raw s r at is = absurd at

part_back : (e : Endpoint) (call : Call) (bytes : List ℕ) (fin : Bool) (s : Sending) (new : Half) (r : Reader) → IsAt e s.place s.owed r
    → wire_in call ≡ part_head (length bytes) ++ bytes → items_in e.max_section call ≡ map Byte bytes
    → after_part (length bytes) fin s ≡ Ok new → IsReadBack e call new r
part_back e call bytes fin s new r at wire items h =
    by_ok as_message (sending (and_then (ends_if fin) (after_frame (length bytes) s))) new h (λ last one made.
    by_ok (ends_if fin) (after_frame (length bytes) s) last (sent_ok (and_then (ends_if fin) (after_frame (length bytes) s)) last one) (λ m frame ends.
    let a = frame_back e bytes s m r at frame in
    let is : new ≡ half.Message last = cc made in
    ends_on e call fin m new r a.next
    (λ more. ap (λ (w : List ℕ). run r (w ++ more)) wire ∙ a.gives more ∙ ap (λ (i : List Item). preceded i (run a.next more)) (sym items))
    a.at (last, ends, is)))

-- nothing is said, and the reader stays
stays_at : (e : Endpoint) (call : Call) (h : Half) (r : Reader) → wire_in call ≡ [] → items_in e.max_section call ≡ [] → IsReadTo e h r → IsReadBack e call h r
stays_at e call h r wire items at = record {
  next = r;
  gives = λ more. ap (λ (w : List ℕ). run r (w ++ more)) wire ∙ ap (λ (i : List Item). preceded i (run r more)) (sym items);
  at = λ plain. at;
}

says_back : (e : Endpoint) (x : Said) (room fin : Bool) (old new : Half) (r : Reader) → IsReadTo e old r → HalfGoes (Says x room fin) old new → IsReadBack e (Says x room fin) new r
says_back e (Headers section) room fin old new r at (fields, s, next, begins, leads, last) =
    let a = head_sent e section fields s next r (begun e old s r at begins) leads in
    ends_on e (Says (Headers section) room fin) fin next new r a.next a.gives (after_plain e next.place next.owed a.next a.at) last
says_back e (Data bytes) room fin half.None new r at goes = absurd goes
says_back e (Data bytes) room fin half.Idle new r at goes = absurd goes
says_back e (Data bytes) room fin (half.Asked asked) new r at goes = absurd goes
says_back e (Data bytes) room fin (half.Message s) new r at goes = part_back e (Says (Data bytes) room fin) bytes fin s new r at refl refl goes
says_back e (Data bytes) room fin half.Raw new r at goes = absurd goes
says_back e (said.Trailers section) room true half.None new r at goes = absurd goes
says_back e (said.Trailers section) room true half.Idle new r at goes = absurd goes
says_back e (said.Trailers section) room true (half.Asked asked) new r at goes = absurd goes
says_back e (said.Trailers section) room true (half.Message s) new r at (fields, next, leads, last) =
    let a = tail_sent e section fields s next r at leads in
    ends_on e (Says (said.Trailers section) room true) true next new r a.next a.gives (after_plain e next.place next.owed a.next a.at) last
says_back e (said.Trailers section) room true half.Raw new r at goes = absurd goes
says_back e (said.Trailers section) room false old new r at goes = absurd goes
says_back e Drain room false half.None new r at goes = absurd goes
says_back e Drain room false half.Idle new r at goes = absurd goes
says_back e Drain room false (half.Asked asked) new r at goes = absurd goes
says_back e Drain room false (half.Message s) new r at (in_it, is) =
    let a = drain_sent e s s r at in_it refl in
    subst (λ (h : Half). IsReadBack e (Says Drain room false) h r) (sym is) (record {
      next = a.next;
      gives = a.gives;
      at = λ plain. after_plain e s.place s.owed a.next a.at (not_true (is_head s.place) plain);
    })
says_back e Drain room false half.Raw new r at goes = absurd goes
says_back e Drain room true old new r at goes = absurd goes
says_back e (Close code reason) room true half.None new r at goes = absurd goes
says_back e (Close code reason) room true half.Idle new r at goes = absurd goes
says_back e (Close code reason) room true (half.Asked asked) new r at goes = absurd goes
says_back e (Close code reason) room true (half.Message s) new r at (last, closes, is) =
    let a = close_sent e code reason s last r at closes in
    subst (λ (h : Half). IsReadBack e (Says (Close code reason) room true) h r) (sym is) (record {
      next = a.next;
      gives = a.gives;
      at = λ plain. after_plain e last.place last.owed a.next a.at (not_true (is_head last.place) plain);
    })
says_back e (Close code reason) room true half.Raw new r at goes = absurd goes
says_back e (Close code reason) room false old new r at goes = absurd goes
says_back e (Bytes bytes) room fin half.None new r at goes = absurd goes
says_back e (Bytes bytes) room fin half.Idle new r at goes = absurd goes
says_back e (Bytes bytes) room fin (half.Asked asked) new r at goes = absurd goes
says_back e (Bytes bytes) room fin (half.Message s) new r at goes = absurd goes
says_back e (Bytes bytes) room fin half.Raw new r at goes = absurd at

ends_read : (e : Endpoint) (old new : Half) (r : Reader) → IsReadTo e old r → HalfGoes Ends old new → IsReadBack e Ends new r
ends_read e half.None new r at goes = absurd cc
ends_read e half.Idle new r at goes = absurd cc
ends_read e (half.Asked asked) new r at goes = absurd cc
ends_read e (half.Message s) new r at goes = part_back e Ends [] true s new r at refl refl goes
ends_read e half.Raw new r at goes = absurd at

-- ---- a half that turns

opened_read : (e : Endpoint) (s : Sending) (v : Result Sending SendError) (r : Reader) → placed s (opens s.place) ≡ v → IsAt e s.place s.owed r → IsReadBack e Turns (opened s v) r
opened_read e s (Ok next) r is at =
    let a = sent.connected e s next r at is in
    record { next = a.next; gives = a.gives; at = λ plain. after_plain e next.place next.owed a.next a.at (not_true (is_head next.place) plain) }
opened_read e s (Err x) r is at = stays_at e Turns (half.Message s) r refl refl at

asked_read : (e : Endpoint) (h : Half) (r : Reader) (asked : Asked) → IsReadTo e h r → IsReadBack e Turns (asked_half asked h) r
asked_read e half.None r asked at = stays_at e Turns half.None r refl refl at
asked_read e half.Idle r asked at = stays_at e Turns (half.Asked asked) r refl refl at
asked_read e (half.Asked other) r asked at = stays_at e Turns (half.Asked other) r refl refl at
asked_read e (half.Message s) r asked at = stays_at e Turns (half.Message s) r refl refl at
asked_read e half.Raw r asked at = absurd at

raw_read : (e : Endpoint) (h : Half) (r : Reader) → IsReadTo e h r → IsReadBack e Turns (raw_half h) r
raw_read e half.None r at = stays_at e Turns half.None r refl refl at
raw_read e half.Idle r at = record { next = r; gives = λ more. refl; at = λ plain. absurd cc }
raw_read e (half.Asked asked) r at = stays_at e Turns (half.Asked asked) r refl refl at
raw_read e (half.Message s) r at = stays_at e Turns (half.Message s) r refl refl at
raw_read e half.Raw r at = absurd at

connect_read : (e : Endpoint) (h : Half) (r : Reader) → IsReadTo e h r → IsReadBack e Turns (connected h) r
connect_read e half.None r at = stays_at e Turns half.None r refl refl at
connect_read e half.Idle r at = stays_at e Turns half.Idle r refl refl at
connect_read e (half.Asked asked) r at = stays_at e Turns (half.Asked asked) r refl refl at
connect_read e (half.Message s) r at = opened_read e s (placed s (opens s.place)) r refl at
connect_read e half.Raw r at = absurd at

turns_read : (e : Endpoint) (old new : Half) (r : Reader) → IsReadTo e old r → Turned old new → IsReadBack e Turns new r
turns_read e old new r at (inl (asked, is)) = subst (λ (h : Half). IsReadBack e Turns h r) (sym is) (asked_read e old r asked at)
turns_read e old new r at (inr (inl is)) = subst (λ (h : Half). IsReadBack e Turns h r) (sym is) (raw_read e old r at)
turns_read e old new r at (inr (inr is)) = subst (λ (h : Half). IsReadBack e Turns h r) (sym is) (connect_read e old r at)

-- ---- all calls

pub call_read : (e : Endpoint) (call : Call) (w v : Writing) (r : Reader) → IsReadTo e w.half r → Calls call w v → IsReadBack e call v.half r
call_read e (Says x room fin) w v r at does = says_back e x room fin w.half v.half r at does.half
call_read e Ends w v r at does = ends_read e w.half v.half r at does.half
call_read e (Cuts code size) w v r at does = subst (λ (h : Half). IsReadBack e (Cuts code size) h r) (sym does.half) (stays_at e (Cuts code size) w.half r refl refl at)
call_read e Turns w v r at does = turns_read e w.half v.half r at does.half
call_read e (Takes step) w v r at does = subst (λ (h : Half). IsReadBack e (Takes step) h r) (sym (does.half).1) (stays_at e (Takes step) w.half r refl refl at)

wires : (call : Call) (calls : List Call) → all_wire (call ∷ calls) ≡ wire_in call ++ all_wire calls
wires (Says x room fin) calls = refl
wires Ends calls = refl
wires (Cuts code size) calls = refl
wires Turns calls = refl
wires (Takes step) calls = refl

items : (limit : ℕ) (call : Call) (calls : List Call) → items_in limit call ++ all_items limit calls ≡ all_items limit (call ∷ calls)
items limit (Says x room fin) calls = refl
items limit Ends calls = refl
items limit (Cuts code size) calls = refl
items limit Turns calls = refl
items limit (Takes step) calls = refl

abbrev gives_of : List Item → Reader → Run
gives_of all next = record { items = all; reader = next; left = [] }

pub all_read : (e : Endpoint) (calls : List Call) (w v : Writing) (r : Reader) → IsReadTo e w.half r → PlainCalls calls w v → AreReadBack e calls v.half r
all_read e [] w v r at same = record {
  next = r;
  gives = run_none r;
  at = subst (λ (x : Writing). IsReadTo e x.half r) (sym same) at;
}
all_read e (call ∷ calls) w v r at (mid, one, plain, others) =
    let a = call_read e call w mid r at one in
    let b = all_read e calls mid v a.next (a.at plain) others in
    record {
      next = b.next;
      gives = ap (run r) (wires call calls)
          ∙ a.gives (all_wire calls)
          ∙ ap (preceded (items_in e.max_section call)) b.gives
          ∙ ap (λ (i : List Item). gives_of i b.next) (items e.max_section call calls);
      at = b.at;
    }
