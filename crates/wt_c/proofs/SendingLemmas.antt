-- What is sent: structs of no state, fields as a list, and bytes that fit.
use Rattle.std.proofs.Common.{◌≡◌, ◌≢◌, ℕ, ◌+◌, ◌-◌, ◌<◌, ◌≤◌, ◌^◌, ◌/◌, ◌++◌, List, [], ◌∷◌, length, Bool, true, false, not, Option, Some, None, Result, Ok, Err, refl, sym, ap, subst, ◌∙◌, arith, replicate, length-append}
use Rattle.std.specs.List.{flat_map}
use Rattle.std.proofs.lemmas.Bool.{lt-ltb, le-ltb}
use Rattle.wtp_core.specs.Varint.{shortest}
use Rattle.wtp_core.proofs.LeastLemmas.{at_most_8}
use Rattle.wtp_fields.specs.FieldList.{list_size, Reaches}
use Rattle.wtp_fields.proofs.FieldListWriting.{list_again, one_list}
use Rattle.wtp_frames.specs.declared.endpoint.Side.{Side}
use Rattle.wtp_frames.specs.declared.endpoint.Side.TheVariants as side
use Rattle.wtp_frames.specs.Words.{side_number, flag_number, optional_words}
use Rattle.wtp_qpack.specs.Field.{Field, IsOctets, AreOctets}
use Rattle.wtp_qpack.specs.FieldLine.{shortest_line}
use Rattle.wtp_qpack.specs.FieldSection.{shortest_section}
use Rattle.wtp_sending.specs.declared.control.ControlSending.{ControlSending}
use Rattle.wtp_sending.specs.declared.error.SendError.{SendError}
use Rattle.wtp_sending.specs.declared.error.SendError.TheVariants as error
use Rattle.wtp_sending.specs.declared.message.Sending.{Sending}
use Rattle.wtp_sending.specs.Control.{goaway_bytes, after_goaway}
use Rattle.wtp_sending.specs.Message.{data_head, after_data}
use Rattle.wtp_sending.specs.Session.{in_session, uni_head, bi_head, datagram_head, drain_wire}
use Rattle.wtp_sending.specs.Words.{sending_words, control_words, IsOfRequest, IsGoAway, settled_number}
use Rattle.wtp_sending.specs.Writing.{Fails}
use Rattle.wtp_webtransport.specs.declared.connection.Connection.{Connection}
use Rattle.wt_c.specs.declared.connections.WtConnection.{WtConnection}
use Rattle.wt_c.specs.declared.fields.WtField.{WtField}
use Rattle.wt_c.specs.declared.sending.WtSending.{WtSending}
use Rattle.wt_c.specs.declared.sending.control.WtControl.{WtControl}
use Rattle.wt_c.specs.Connections.{HasConnection}
use Rattle.wt_c.specs.Fields.{AreWithin}
use Rattle.wt_c.specs.Sending.{HasSending, IsNoSending, HasControl, IsNoControl, may_begin, payload_verdict, settled_unless}
use Rattle.wt_c.specs.Texts.{lines_in}

-- ---- structs of no state

pub no_words : (w : WtSending) → ((s : Sending) → IsOfRequest s.id → ¬ (sending_words s ≡ w.words)) → IsNoSending w
no_words w none s of e = none s of (ap (λ (v : WtSending). v.words) e)

pub no_zeros : (w : WtSending) → ¬ (w.reserved ≡ replicate 5 0) → IsNoSending w
no_zeros w other s of e = other (sym (ap (λ (v : WtSending). v.reserved) e))

pub no_control_words : (w : WtControl) → ((c : ControlSending) → IsGoAway c.goaway → ¬ (control_words c ≡ w.words)) → IsNoControl w
no_control_words w none c of e = none c of (ap (λ (v : WtControl). v.words) e)

pub no_control_zeros : (w : WtControl) → ¬ (w.reserved ≡ replicate 5 0) → IsNoControl w
no_control_zeros w other c of e = other (sym (ap (λ (v : WtControl). v.reserved) e))

-- ---- what the words of a connection say

side_words : (c : Connection) (w : WtConnection) → HasConnection c w → side_number c.endpoint.side ≡ w.words.endpoint.side
side_words c w has = ap (λ (v : WtConnection). v.words.endpoint.side) has

client_at : (s : Side) → side_number s ≡ 0 → s ≡ side.Client
client_at side.Client e = refl
client_at side.Server e = absurd (cc e)

server_at : (s : Side) → side_number s ≢ 0 → s ≡ side.Server
server_at side.Client other = absurd (other refl)
server_at side.Server other = refl

pub client_is : (c : Connection) (w : WtConnection) → HasConnection c w → w.words.endpoint.side ≡ 0 → c.endpoint.side ≡ side.Client
client_is c w has e = client_at c.endpoint.side (side_words c w has ∙ e)

pub server_is : (c : Connection) (w : WtConnection) → HasConnection c w → w.words.endpoint.side ≢ 0 → c.endpoint.side ≡ side.Server
server_is c w has other = server_at c.endpoint.side (λ e. other (sym (side_words c w has) ∙ e))

flag_off : (b : Bool) → flag_number b ≡ 0 → b ≡ false
flag_off true e = absurd (cc e)
flag_off false e = refl

flag_on : (b : Bool) → flag_number b ≢ 0 → b ≡ true
flag_on true other = refl
flag_on false other = absurd (other refl)

pub not_over : (c : Connection) (w : WtConnection) → HasConnection c w → w.words.over ≡ 0 → c.over ≡ false
not_over c w has e = flag_off c.over (ap (λ (v : WtConnection). v.words.over) has ∙ e)

pub over_is : (c : Connection) (w : WtConnection) → HasConnection c w → w.words.over ≢ 0 → c.over ≡ true
over_is c w has other = flag_on c.over (λ e. other (sym (ap (λ (v : WtConnection). v.words.over) has) ∙ e))

present : (c : Connection) (w : WtConnection) → HasConnection c w → (optional_words c.goaway).present ≡ w.words.goaway.present
present c w has = ap (λ (v : WtConnection). v.words.goaway.present) has

may_at : (o : Option ℕ) (over : Bool) → (optional_words o).present ≡ 0 → over ≡ false → may_begin o over ≡ true
may_at None over e off = rw off refl
may_at (Some id) over e off = absurd (cc e)

came_at : (o : Option ℕ) (over : Bool) → (optional_words o).present ≢ 0 → may_begin o over ≡ false
came_at None over other = absurd (other refl)
came_at (Some id) over other = refl

over_at : (o : Option ℕ) (over : Bool) → over ≡ true → may_begin o over ≡ false
over_at None over on = rw on refl
over_at (Some id) over on = refl

pub may_is : (c : Connection) (w : WtConnection) → HasConnection c w → w.words.goaway.present ≡ 0 → w.words.over ≡ 0 → may_begin c.goaway c.over ≡ true
may_is c w has none off = may_at c.goaway c.over (present c w has ∙ none) (not_over c w has off)

pub goaway_came : (c : Connection) (w : WtConnection) → HasConnection c w → w.words.goaway.present ≢ 0 → may_begin c.goaway c.over ≡ false
goaway_came c w has other = came_at c.goaway c.over (λ e. other (sym (present c w has) ∙ e))

pub is_over : (c : Connection) (w : WtConnection) → HasConnection c w → w.words.over ≢ 0 → may_begin c.goaway c.over ≡ false
is_over c w has other = over_at c.goaway c.over (over_is c w has other)

-- ---- fields as a list

-- the bytes followed by the lines of the fields in `left` are the section of all fields
pub record IsEncoding (texts out : List ℕ) (left all : List WtField) : Type 0 where
  pub so_far : out ++ flat_map shortest_line (lines_in texts left) ≡ shortest_section (lines_in texts all)
  pub within : AreWithin (length texts) left
  pub octets : AreOctets (lines_in texts left) → AreOctets (lines_in texts all)

pub decoded : (lines list : List Field) → AreOctets lines → Reaches (2 ^ 64 - 1) (shortest_section lines) list [] → list ≡ lines
decoded lines list octets reached = one_list (2 ^ 64 - 1) (list_size lines) (shortest_section lines) list lines reached (list_again (list_size lines) lines octets (omega arith))

-- ---- bytes that fit

-- a call that allocates nothing, into room that suffices, fails for its verdict alone
fails : {S : Type 0} (verdict : Result S SendError) (room : List ℕ) (n : ℕ) (e : SendError) → n ≤ length room → Fails verdict false (Some room) n e → verdict ≡ Err e
fails verdict room n error.EndOfBuffer fits f = absurd (omega (arith, fits, f.1))
fails verdict room n error.Memory fits f = absurd (cc f.2)
fails verdict room n error.Unexpected fits f = f
fails verdict room n error.DataMissing fits f = f
fails verdict room n error.DataExceeded fits f = f
fails verdict room n error.EmptyData fits f = f
fails verdict room n error.TooLarge fits f = f
fails verdict room n error.TooManyInterim fits f = f
fails verdict room n error.InvalidId fits f = f
fails verdict room n error.IdRises fits f = f
fails verdict room n error.Unsupported fits f = f
fails verdict room n (error.Malformed rule) fits f = f

two_fit : (a b : ℕ) (room : List ℕ) → length room ≡ 24 → length (shortest a ++ shortest b) ≤ length room
two_fit a b room is = omega (arith, is, length-append (shortest a) (shortest b), at_most_8 a, at_most_8 b)

pub data_fails : (s : Sending) (n : ℕ) (room : List ℕ) (e : SendError) → length room ≡ 24 → Fails (after_data s n) false (Some room) (length (data_head n)) e → after_data s n ≡ Err e
data_fails s n room e is f = fails (after_data s n) room (length (data_head n)) e (two_fit 0 n room is) f

three_fit : (a b d : ℕ) (room : List ℕ) → length room ≡ 24 → length (shortest a ++ (shortest b ++ shortest d)) ≤ length room
three_fit a b d room is = omega (arith, is, length-append (shortest a) (shortest b ++ shortest d), length-append (shortest b) (shortest d), at_most_8 a, at_most_8 b, at_most_8 d)

pub goaway_fails : (c : ControlSending) (id : ℕ) (room : List ℕ) (e : SendError) → length room ≡ 24 → Fails (after_goaway c id) false (Some room) (length (goaway_bytes id)) e → after_goaway c id ≡ Err e
goaway_fails c id room e is f = fails (after_goaway c id) room (length (goaway_bytes id)) e (three_fit 0x07 (length (shortest id)) id room is) f

drain_size : length drain_wire ≡ 7
unfolding shortest
drain_size = refl

pub uni_fails : (s : Sending) (room : List ℕ) (e : SendError) → length room ≡ 24 → Fails (in_session s.place) false (Some room) (length (uni_head s.id)) e → in_session s.place ≡ Err e
uni_fails s room e is f = fails (in_session s.place) room (length (uni_head s.id)) e (two_fit 0x54 s.id room is) f

pub bi_fails : (s : Sending) (room : List ℕ) (e : SendError) → length room ≡ 24 → Fails (in_session s.place) false (Some room) (length (bi_head s.id)) e → in_session s.place ≡ Err e
bi_fails s room e is f = fails (in_session s.place) room (length (bi_head s.id)) e (two_fit 0x41 s.id room is) f

pub datagram_fails : (s : Sending) (room : List ℕ) (e : SendError) → length room ≡ 24 → Fails (in_session s.place) false (Some room) (length (datagram_head s.id)) e → in_session s.place ≡ Err e
datagram_fails s room e is f = fails (in_session s.place) room (length (datagram_head s.id)) e (omega (arith, is, at_most_8 (s.id / 4))) f

pub drain_fails : (s : Sending) (room : List ℕ) (e : SendError) → length room ≡ 24 → Fails (in_session s.place) false (Some room) (length drain_wire) e → in_session s.place ≡ Err e
drain_fails s room e is f = fails (in_session s.place) room (length drain_wire) e (omega (arith, is, drain_size)) f

-- ---- SETTINGS

settled_words : (c : ControlSending) (w : WtControl) → HasControl c w → settled_number c.settled ≡ w.words.settled
settled_words c w has = ap (λ (v : WtControl). v.words.settled) has

settled_on : (b : Bool) → settled_number b ≡ 2 → b ≡ true
settled_on true e = refl
settled_on false e = absurd (cc e)

settled_off : (b : Bool) → settled_number b ≢ 2 → b ≡ false
settled_off true other = absurd (other refl)
settled_off false other = refl

pub settled_before : (c : ControlSending) (w : WtControl) (payload : List ℕ) → HasControl c w → w.words.settled ≡ 2 → payload_verdict c payload ≡ settled_unless c (Some error.Unexpected)
settled_before c w payload has e = rw (settled_on c.settled (settled_words c w has ∙ e)) refl

pub settings_large : (c : ControlSending) (w : WtControl) (payload : List ℕ) → HasControl c w → w.words.settled ≢ 2 → 4096 < length payload → payload_verdict c payload ≡ settled_unless c (Some error.TooLarge)
settings_large c w payload has other large = rw (settled_off c.settled (λ e. other (sym (settled_words c w has) ∙ e)), lt-ltb 4096 (length payload) large) refl

pub settings_fit : (c : ControlSending) (w : WtControl) (payload : List ℕ) → HasControl c w → w.words.settled ≢ 2 → length payload ≤ 4096 → payload_verdict c payload ≡ settled_unless c None
settings_fit c w payload has other small = rw (settled_off c.settled (λ e. other (sym (settled_words c w has) ∙ e)), le-ltb 4096 (length payload) small) refl

pub settles : (c : ControlSending) (w : WtControl) → HasControl c w → HasControl (record c { settled = true }) (record w { words = record w.words { settled = 2 } })
settles c w has = ap (λ (v : WtControl). record v { words = record v.words { settled = 2 } }) has
