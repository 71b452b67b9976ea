-- Tables in memory of the caller: their bytes, those of none, and a table that is put to its place.
use Rattle.std.proofs.Common.{◌≡◌, ◌≢◌, ◌==◌, ℕ, Bool, false, ◌+◌, ◌-◌, ◌^◌, ◌<◌, ◌≤◌, List, [], ◌∷◌, ◌++◌, length, drop, Option, Some, None, zero, suc, ◌⊎◌, inl, inr, refl, sym, ap, subst, ◌∙◌, arith, append_assoc, append-nil, length-append, length-drop}
use Rattle.std.proofs.lemmas.List.{drop_at}
use Rattle.wtp_dynamic_decoder.specs.Decoder.{Decoder, told}
use Rattle.wtp_dynamic.specs.Stored.{word}
use Rattle.wtp_dynamic_decoder.specs.Stored.{decoder_bytes, most_stored, IsDecoder, IsStored, IsNone}
use Rattle.wtp_dynamic.proofs.Storing.{word_size, word_same, same_parts}
use Rattle.wtp_dynamic_decoder.proofs.Kept.{one_decoder}
use Rattle.wtp_webtransport.specs.declared.unacknowledged.Unacknowledged.{Unacknowledged}
use Rattle.wtp_webtransport.specs.Unacknowledged.{due_on}
use Rattle.wtp_webtransport.specs.Tables.{KeepsLimits, acknowledged_by}
use Rattle.wt_c.specs.declared.connections.table.TableCall.{TableCall}
use Rattle.wt_c.specs.declared.connections.table.TableCall.TheVariants as call
use Rattle.wt_c.specs.Output.{WritesPrefix, TooShort}
use Rattle.wt_c.specs.Tables.{due_flag, due_bytes, IsStreamId, table_bytes, room_for, IsCount, IsTable, IsNoTable, PutsTable, HasTableBy, IsStoredBy, LeavesTableBy, change_of, WritesDue, LacksRoom}

-- ---- the words in front

words_length : (i j : ℕ) → length (word i ++ word j) ≡ 16
words_length i j = omega (arith, length-append (word i) (word j), word_size i, word_size j)

due_length : (due : Option Unacknowledged) → length (due_bytes due) ≡ 16
due_length None = words_length 0 0
due_length (Some u) = words_length (due_flag u.cancelled) u.required

words_same : (i j m n : ℕ) (a b : List ℕ) → i < 2 ^ 64 → j < 2 ^ 64 → m < 2 ^ 64 → n < 2 ^ 64 → (word i ++ word j) ++ a ≡ (word m ++ word n) ++ b → (i ≡ m) × ((j ≡ n) × (a ≡ b))
words_same i j m n a b fi fj fm fn e =
    let one = word_same i m (word j ++ a) (word n ++ b) fi fm (sym (append_assoc (word i) (word j) a) ∙ e ∙ append_assoc (word m) (word n) b) in
    (one.0, word_same j n a b fj fn one.1)

flag_fits : (o : Option ℕ) → IsStreamId o → due_flag o < 2 ^ 64
flag_fits None f = omega arith
flag_fits (Some id) f = omega (arith, f)

flag_some : (o : Option ℕ) → 0 < due_flag o
flag_some None = omega arith
flag_some (Some id) = omega arith

flag_same : (a b : Option ℕ) → due_flag a ≡ due_flag b → a ≡ b
flag_same None None e = refl
flag_same None (Some id) e = absurd (omega (arith, e))
flag_same (Some id) None e = absurd (omega (arith, e))
flag_same (Some m) (Some n) e = ap (λ (k : ℕ). Some k) (omega (arith, e))

due_same : (due other : Option Unacknowledged) (a b : List ℕ) → IsCount due → IsCount other → due_bytes due ++ a ≡ due_bytes other ++ b → (due ≡ other) × (a ≡ b)
due_same None None a b f g e = (refl, (words_same 0 0 0 0 a b (omega arith) (omega arith) (omega arith) (omega arith) e).1.1)
due_same None (Some u) a b f g e = absurd (omega (arith, flag_some u.cancelled, (words_same 0 0 (due_flag u.cancelled) u.required a b (omega arith) (omega arith) (flag_fits u.cancelled g.1) g.0 e).0))
due_same (Some u) None a b f g e = absurd (omega (arith, flag_some u.cancelled, (words_same (due_flag u.cancelled) u.required 0 0 a b (flag_fits u.cancelled f.1) f.0 (omega arith) (omega arith) e).0))
due_same (Some u) (Some v) a b f g e =
    let same = words_same (due_flag u.cancelled) u.required (due_flag v.cancelled) v.required a b (flag_fits u.cancelled f.1) f.0 (flag_fits v.cancelled g.1) g.0 e in (
      ap (λ (n : ℕ). Some (record { required = n; cancelled = u.cancelled })) same.1.0
          ∙ ap (λ (o : Option ℕ). Some (record { required = v.required; cancelled = o })) (flag_same u.cancelled v.cancelled same.0),
      same.1.1,
    )

-- the words of none, and of a section
due_parts : (due : Option Unacknowledged) (flag number : ℕ) → IsCount due → flag < 2 ^ 64 → number < 2 ^ 64 → due_bytes due ≡ word flag ++ word number → ((flag ≡ 0) × (number ≡ 0)) ⊎ ((o : Option ℕ) × IsStreamId o × (due_flag o ≡ flag))
due_parts None flag number fits f g e =
    let same = words_same 0 0 flag number [] [] (omega arith) (omega arith) f g (ap (λ (z : List ℕ). z ++ []) e) in
    inl (sym same.0, sym same.1.0)
due_parts (Some u) flag number fits f g e =
    let same = words_same (due_flag u.cancelled) u.required flag number [] [] (flag_fits u.cancelled fits.1) fits.0 f g (ap (λ (z : List ℕ). z ++ []) e) in
    inr (u.cancelled, fits.1, same.0)

-- two words that are none of what is to be acknowledged
pub no_number : (flag number : ℕ) → flag < 2 ^ 64 → number < 2 ^ 64 → flag ≡ 0 → ¬ (number ≡ 0) → (due : Option Unacknowledged) → IsCount due → ¬ (due_bytes due ≡ word flag ++ word number)
no_number flag number f g at some due fits e = elim (due_parts due flag number fits f g e) [
  | inl none ↦ some none.1
  | inr other ↦ omega (arith, flag_some other.0, other.2, at)
]

no_id : (o : Option ℕ) (flag : ℕ) → IsStreamId o → due_flag o ≡ flag → ¬ (flag ≡ 1) → ¬ (flag - 2 < 2 ^ 62) → ⊥
no_id None flag fits e one large = one (sym e)
no_id (Some id) flag fits e one large = large (omega (arith, fits, e))

pub no_stream : (flag number : ℕ) → flag < 2 ^ 64 → number < 2 ^ 64 → ¬ (flag ≡ 0) → ¬ (flag ≡ 1) → ¬ (flag - 2 < 2 ^ 62) → (due : Option Unacknowledged) → IsCount due → ¬ (due_bytes due ≡ word flag ++ word number)
no_stream flag number f g some one large due fits e = elim (due_parts due flag number fits f g e) [
  | inl none ↦ some none.0
  | inr other ↦ no_id other.0 flag other.1 other.2 one large
]

-- the words of a section whose stream was not the one that was cancelled
pub with_stream : (flag number id : ℕ) → ¬ (flag ≡ 0) → ¬ (flag ≡ 1) → id ≡ flag - 2 → word (2 + id) ++ word number ≡ word flag ++ word number
with_stream flag number id some one is = ap (λ (n : ℕ). word n ++ word number) (more_than_one flag id some one is)
  where
    more_than_one : (flag id : ℕ) → ¬ (flag ≡ 0) → ¬ (flag ≡ 1) → id ≡ flag - 2 → 2 + id ≡ flag
    more_than_one zero id none one is = absurd (none refl)
    more_than_one (suc zero) id none one is = absurd (one refl)
    more_than_one (suc (suc n)) id none one is = omega (arith, is)

pub ruleset dues = (no_number, with_stream)

-- ---- bytes that are read

pub after_due : (bytes x rest : List ℕ) (flag number : ℕ) (due : Option Unacknowledged) → bytes ≡ word flag ++ x → x ≡ word number ++ rest → due_bytes due ≡ word flag ++ word number → bytes ≡ due_bytes due ++ rest
after_due bytes x rest flag number due one two words =
    one ∙ ap (λ (z : List ℕ). word flag ++ z) two ∙ sym (append_assoc (word flag) (word number) rest) ∙ ap (λ (z : List ℕ). z ++ rest) (sym words)

behind : (bytes rest : List ℕ) (due other : Option Unacknowledged) (d : Decoder) → bytes ≡ due_bytes due ++ rest → IsCount due → IsTable d other bytes → (other ≡ due) × IsStored d rest
behind bytes rest due other d e fits is =
    let parts = due_same other due (decoder_bytes d ++ is.rest) rest is.count fits (sym (append_assoc (due_bytes other) (decoder_bytes d) is.rest) ∙ sym is.bytes_are ∙ e) in
    (parts.0, record { is = is.is; rest = is.rest; bytes_are = sym parts.1 })

pub no_words : (bytes : List ℕ) → length bytes < 16 → IsNoTable bytes
no_words bytes short = record { none = λ d due is. omega (arith, short, is.room) }

pub no_second : (bytes x : List ℕ) (flag : ℕ) → bytes ≡ word flag ++ x → length x < 8 → IsNoTable bytes
no_second bytes x flag e short = no_words bytes (omega (arith, short, ap (λ (z : List ℕ). length z) e, length-append (word flag) x, word_size flag))

pub no_count : (bytes x rest : List ℕ) (flag number : ℕ) → bytes ≡ word flag ++ x → x ≡ word number ++ rest → ((due : Option Unacknowledged) → IsCount due → ¬ (due_bytes due ≡ word flag ++ word number)) → IsNoTable bytes
no_count bytes x rest flag number one two none = record {
  none = λ d due is. none due is.count (same_parts (due_bytes due) (word flag ++ word number) (decoder_bytes d ++ is.rest) rest (due_length due ∙ sym (words_length flag number))
      (sym (append_assoc (due_bytes due) (decoder_bytes d) is.rest) ∙ sym is.bytes_are ∙ one ∙ ap (λ (z : List ℕ). word flag ++ z) two ∙ sym (append_assoc (word flag) (word number) rest))).0;
}

pub no_decoder : (bytes rest : List ℕ) (due : Option Unacknowledged) → bytes ≡ due_bytes due ++ rest → IsCount due → IsNone rest → IsNoTable bytes
no_decoder bytes rest due e fits none = record { none = λ d other is. none d (behind bytes rest due other d e fits is).1 }

pub no_room : (bytes rest : List ℕ) (due : Option Unacknowledged) (d : Decoder) → bytes ≡ due_bytes due ++ rest → IsCount due → IsStored d rest → length bytes < room_for d.table.limit → IsNoTable bytes
no_room bytes rest due d e fits stored short = record {
  none = λ f other is. omega (arith, short, is.room, ap (λ (x : Decoder). x.table.limit) (one_decoder d f rest stored (behind bytes rest due other f e fits is).1));
}

pub one_table : (bytes rest : List ℕ) (due : Option Unacknowledged) (d : Decoder) → bytes ≡ due_bytes due ++ rest → IsCount due → IsStored d rest → room_for d.table.limit ≤ length bytes → IsTable d due bytes
one_table bytes rest due d e fits stored room = record {
  is = stored.is;
  count = fits;
  room = room;
  rest = stored.rest;
  bytes_are = e ∙ ap (λ (z : List ℕ). due_bytes due ++ z) stored.bytes_are ∙ sym (append_assoc (due_bytes due) (decoder_bytes d) stored.rest);
}

-- ---- bytes that are written

pub stored_is : (d : Decoder) (due : Option Unacknowledged) (z a b rest bytes : List ℕ) (flag number : ℕ) → z ≡ [] → a ≡ z ++ word flag → b ≡ a ++ word number → bytes ≡ b ++ rest → due_bytes due ≡ word flag ++ word number
    → IsCount due → rest ≡ decoder_bytes d → length rest < most_stored d.table.limit → (d.waiting ≡ [] → d.most ≡ 0 → IsDecoder d) → IsStoredBy (Some d) due bytes
stored_is d due z a b rest bytes flag number none one two three words fits are few is =
    let first : a ≡ word flag = one ∙ ap (λ (x : List ℕ). x ++ word flag) none in
    let all : bytes ≡ due_bytes due ++ rest = three ∙ ap (λ (x : List ℕ). x ++ rest) (two ∙ ap (λ (x : List ℕ). x ++ word number) first ∙ sym words) in (
      all ∙ ap (λ (z : List ℕ). due_bytes due ++ z) are,
      fits,
      omega (arith, ap (λ (z : List ℕ). length z) all, length-append (due_bytes due) rest, due_length due, few),
      is,
    )

pub puts_table : (d : Decoder) (due : Option Unacknowledged) (old bytes new : List ℕ) → IsStoredBy (Some d) due bytes → d.waiting ≡ [] → d.most ≡ 0 → room_for d.table.limit ≤ length old → new ≡ bytes ++ drop (length bytes) old → PutsTable d due old new
puts_table d due old bytes new (are, fits, few, is) waiting most room e = record {
  is = record {
    is = is waiting most;
    count = fits;
    room = omega (arith, ap (λ (z : List ℕ). length z) e, length-append bytes (drop (length bytes) old), length-drop (length bytes) old, few, room);
    rest = drop (length bytes) old;
    bytes_are = e ∙ ap (λ (z : List ℕ). z ++ drop (length bytes) old) are;
  };
  rest_is = rw (sym are, e) (drop_at bytes (drop (length bytes) old) (length bytes) refl);
}

-- ---- what is due

-- an instruction that is due changes no limit of a table
abbrev HasSame : Decoder → Decoder → Type 0
HasSame e d = (e.table.limit ≡ d.table.limit) × ((e.waiting ≡ []) × (e.most ≡ d.most))

acknowledged_same : (d : Decoder) (o : Option ℕ) → d.waiting ≡ [] → HasSame (acknowledged_by d o) d
acknowledged_same d None w = (refl, (w, refl))
acknowledged_same d (Some n) w = (refl, (w, refl))

pub call_limits : (c : TableCall) (d : Decoder) (due : Option Unacknowledged) → d.waiting ≡ [] → HasSame (change_of c d due).1 d
call_limits (call.Acknowledge id) d due w = acknowledged_same d (due_on due id) w
call_limits call.Increment d due w = (refl, (w, refl))
call_limits (call.Cancel id) d due w = (refl, (rw w refl, refl))

pub changed_is : (c : TableCall) (d e : Decoder) (due dues : Option Unacknowledged) (old bytes new : List ℕ) → IsTable d due old → e ≡ (change_of c d due).1 → dues ≡ (change_of c d due).2 → IsStoredBy (Some e) dues bytes
    → new ≡ bytes ++ drop (length bytes) old → PutsTable (change_of c d due).1 (change_of c d due).2 old new
changed_is c d e due dues old bytes new is same read stored put =
    let limits = call_limits c d due is.is.waiting in
    puts_table (change_of c d due).1 (change_of c d due).2 old bytes new (rw (sym same, sym read) stored) limits.1.0 (limits.1.1 ∙ is.is.most) (rw limits.0 is.room) put

pub changed_fits : (c : TableCall) (d e : Decoder) (due dues : Option Unacknowledged) (old bytes : List ℕ) → IsTable d due old → e ≡ (change_of c d due).1 → IsStoredBy (Some e) dues bytes → length bytes ≤ length old
changed_fits c d e due dues old bytes is same stored =
    let limits = call_limits c d due is.is.waiting in
    omega (arith, stored.2, is.room, ap (λ (x : Decoder). x.table.limit) same, limits.0)

pub writes_due : (c : TableCall) (d e : Decoder) (due dues : Option Unacknowledged) (old bytes new out out_after said : List ℕ) (used : ℕ) → IsTable d due old → said ≡ told [] (change_of c d due).0
    → e ≡ (change_of c d due).1 → dues ≡ (change_of c d due).2 → IsStoredBy (Some e) dues bytes → new ≡ bytes ++ drop (length bytes) old → WritesPrefix said out out_after used
    → WritesDue (change_of c) old new out out_after used
writes_due c d e due dues old bytes new out out_after said used is say same read stored put written = record {
  d = d;
  due = due;
  is = is;
  written = rw (sym say) written;
  after = changed_is c d e due dues old bytes new is same read stored put;
}

pub lacks_room : (c : TableCall) (d : Decoder) (due : Option Unacknowledged) (old out out_after said : List ℕ) (needed : ℕ) → IsTable d due old → said ≡ told [] (change_of c d due).0 → TooShort said out out_after needed
    → LacksRoom (change_of c) old out out_after needed
lacks_room c d due old out out_after said needed is say short = record { d = d; due = due; is = is; short = rw (sym say) short }

-- ---- the table of a connection

-- a call with a table
pub not_empty : (bytes : List ℕ) (none : Bool) → none ≡ (length bytes == 0) → none ≡ false → bytes ≢ []
not_empty [] none e f = λ z. absurd (cc (sym f ∙ e))
not_empty (b ∷ bytes) none e f = λ z. omega (arith, ap (λ (x : List ℕ). length x) z)

pub leaves_table : (x y : Option Decoder) (due dues : Option Unacknowledged) (old bytes new : List ℕ) → HasTableBy x due old → KeepsLimits x y → IsStoredBy y dues bytes → new ≡ bytes ++ drop (length bytes) old → LeavesTableBy y dues old new
leaves_table None None due dues old bytes new has keeps stored e = rw (e, stored) refl
leaves_table None (Some f) due dues old bytes new has keeps stored e = absurd (cc keeps)
leaves_table (Some d) None due dues old bytes new has keeps stored e = absurd keeps
leaves_table (Some d) (Some f) due dues old bytes new has keeps stored e =
    puts_table f dues old bytes new stored (keeps.waiting ∙ has.is.waiting) (keeps.most ∙ has.is.most) (rw keeps.limit has.room) e

pub table_fits : (x y : Option Decoder) (due dues : Option Unacknowledged) (old bytes : List ℕ) → HasTableBy x due old → KeepsLimits x y → IsStoredBy y dues bytes → length bytes ≤ length old
table_fits None None due dues old bytes has keeps stored = rw stored (omega arith)
table_fits None (Some f) due dues old bytes has keeps stored = absurd (cc keeps)
table_fits (Some d) None due dues old bytes has keeps stored = absurd keeps
table_fits (Some d) (Some f) due dues old bytes has keeps stored = omega (arith, stored.2, has.room, keeps.limit)

-- without a table nothing is put
pub none_put : (old bytes new : List ℕ) → old ≡ [] → length bytes ≤ length old → new ≡ bytes ++ drop (length bytes) old → new ≡ old
none_put [] [] new e fits put = put
none_put [] (b ∷ bytes) new e fits put = absurd (omega (arith, fits))
none_put (a ∷ old) bytes new e fits put = absurd (cc e)

-- memory is needed for a table alone
pub table_there : (x y : Option Decoder) (due : Option Unacknowledged) (old : List ℕ) → HasTableBy x due old → KeepsLimits x y → y ≢ None → old ≢ []
table_there None y due old has keeps some = λ e. some keeps
table_there (Some d) y due old has keeps some = λ e. omega (arith, has.room, ap (λ (z : List ℕ). length z) e)
