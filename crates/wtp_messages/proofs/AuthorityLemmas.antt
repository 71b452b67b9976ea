-- Authorities of the grammar pass the test, and texts that pass it are of the grammar.
use Rattle.std.proofs.Common.{◌≡◌, ◌==◌, ℕ, zero, suc, ◌≤◌, ◌<◌, nat_lt, Bool, true, false, not, ◌&&◌, ◌||◌, List, [], ◌∷◌, ◌++◌, length, Option, Some, None, refl, sym, ap, subst, ◌∙◌, arith, eqb-true, lt-ltb, ltb-true, ne_eqb, codes}
use Rattle.std.proofs.lemmas.Bool.{and_from, and_parts, or_from, or_cases, or_left, or_right, false≢true}
use Rattle.std.specs.List.{list_all, list_any}
use mathlib.Core.Logic.{⊎_elim}
use Rattle.wtp_fields.specs.FieldWriting.{is_upper, is_alphanumeric}
use Rattle.wtp_messages.specs.Length.{is_digit}
use Rattle.wtp_messages.specs.Authority.{Part, Plain, Encoded, Host, Name, Version6, Later, part_then, parts_then, port_bytes, host_then, ValidPart, ValidParts, ValidHost, ValidPort, IsAuthority, is_plain_byte, is_hex, is_v, is_literal_byte, is_port_after, starts_with_hex, is_name_byte, is_name_rest, is_literal_rest, is_literal, is_authority}

-- ---- bytes

other_by : (v : Bool) (test : ℕ → Bool) (n b : ℕ) → (b == n) ≡ v → test n ≡ false → test b ≡ true → v ≡ false
other_by false test n b e none some = refl
other_by true test n b e none some = sym some ∙ ap test (eqb-true b n e) ∙ none

-- a byte that passes a test is none that does not
pub other : (test : ℕ → Bool) (n b : ℕ) → test n ≡ false → test b ≡ true → (b == n) ≡ false
other test n b none some = other_by (b == n) test n b refl none some

-- one of these marks passes each test that all of them pass
pub mark_passes : (test : ℕ → Bool) (marks : List ℕ) (b : ℕ) → list_all test marks ≡ true → list_any (λ mark. mark == b) marks ≡ true → test b ≡ true
mark_passes test [] b all h = absurd (false≢true h)
mark_passes test (mark ∷ marks) b all h = ⊎_elim
    (λ e. subst (λ x. test x ≡ true) (eqb-true mark b e) (and_parts _ _ all).0)
    (λ r. mark_passes test marks b (and_parts _ _ all).1 r)
    (or_cases (mark == b) (list_any (λ m. m == b) marks) h)

-- the byte is no control character and no space
abbrev pub is_visible : ℕ → Bool
is_visible b = nat_lt 32 b && not (b == 127)

between : (low high b : ℕ) → 32 ≤ low → high ≤ 127 → (nat_lt low b && nat_lt b high) ≡ true → is_visible b ≡ true
between low high b l h e =
    let above : low < b = ltb-true low b (and_parts (nat_lt low b) (nat_lt b high) e).0 in
    let below : b < high = ltb-true b high (and_parts (nat_lt low b) (nat_lt b high) e).1 in
    and_from _ _ (lt-ltb 32 b (omega (arith, above, l))) (ap not (ne_eqb b 127 (omega (arith, below, h))))

pub alphanumeric_visible : (b : ℕ) → is_alphanumeric b ≡ true → is_visible b ≡ true
alphanumeric_visible b h = ⊎_elim
    (λ letter. ⊎_elim (between 64 91 b (omega arith) (omega arith)) (between 96 123 b (omega arith) (omega arith)) (or_cases _ _ letter))
    (between 47 58 b (omega arith) (omega arith))
    (or_cases _ _ h)

pub plain_visible : (b : ℕ) → is_plain_byte b ≡ true → is_visible b ≡ true
plain_visible b h = ⊎_elim (alphanumeric_visible b) (mark_passes is_visible (codes "-._~!$&'()*+,;=") b refl) (or_cases _ _ h)

within : (low high more b : ℕ) → high ≤ more → (nat_lt low b && nat_lt b high) ≡ true → (nat_lt low b && nat_lt b more) ≡ true
within low high more b h e =
    let below : b < high = ltb-true b high (and_parts (nat_lt low b) (nat_lt b high) e).1 in
    and_from _ _ (and_parts _ _ e).0 (lt-ltb b more (omega (arith, below, h)))

hex_plain : (b : ℕ) → is_hex b ≡ true → is_plain_byte b ≡ true
hex_plain b h = or_left (is_alphanumeric b) _ (⊎_elim
    (λ e. ⊎_elim
    (λ digit. or_right (is_upper b || (nat_lt 96 b && nat_lt b 123)) _ digit)
    (λ upper. or_left (is_upper b || (nat_lt 96 b && nat_lt b 123)) _ (or_left (is_upper b) _ (within 64 71 91 b (omega arith) upper)))
    (or_cases _ _ e))
    (λ lower. or_left (is_upper b || (nat_lt 96 b && nat_lt b 123)) _ (or_right (is_upper b) _ (within 96 103 123 b (omega arith) lower)))
    (or_cases _ _ h))

no_bracket : (later : Bool) → is_literal_byte later 93 ≡ false
no_bracket true = refl
no_bracket false = refl

-- ---- texts of the grammar pass

port_after : (must : Bool) (port : Option (List ℕ)) → ValidPort must port → is_port_after must (port_bytes port) ≡ true
port_after must None v = ap not v
port_after must (Some digits) v = and_from (list_all is_digit digits) _ v.0 v.1

port_rest : (must : Bool) (port : Option (List ℕ)) → ValidPort must port → is_name_rest must (port_bytes port) ≡ true
port_rest must None v = ap not v
port_rest must (Some digits) v = and_from (list_all is_digit digits) _ v.0 v.1

byte_passes : (must : Bool) (byte : ℕ) (rest : List ℕ) → is_plain_byte byte ≡ true → is_name_rest must rest ≡ true → is_name_rest must (byte ∷ rest) ≡ true
byte_passes must byte rest v h = rw (other is_plain_byte 58 byte refl v) (and_from _ _ (or_left (is_plain_byte byte) _ v) h)

encoded_rest : (must : Bool) (a b : ℕ) (rest : List ℕ) → (is_hex a ≡ true) × (is_hex b ≡ true) → is_name_rest must rest ≡ true → (is_name_byte 37 (a ∷ b ∷ rest) && is_name_rest must (a ∷ b ∷ rest)) ≡ true
encoded_rest must a b rest v h =
    and_from (is_hex a && is_hex b) _ (and_from (is_hex a) _ v.0 v.1)
    (byte_passes must a (b ∷ rest) (hex_plain a v.0) (byte_passes must b rest (hex_plain b v.1) h))

part_passes : (must : Bool) (part : Part) (rest : List ℕ) → ValidPart part → is_name_rest must rest ≡ true → is_name_rest must (part_then part rest) ≡ true
part_passes must (Plain byte) rest v h = byte_passes must byte rest v h
part_passes must (Encoded a b) rest v h = encoded_rest must a b rest v h

parts_pass : (must : Bool) (parts : List Part) (rest : List ℕ) → ValidParts parts → is_name_rest must rest ≡ true → is_name_rest must (parts_then parts rest) ≡ true
parts_pass must [] rest v h = h
parts_pass must (part ∷ parts) rest v h = part_passes must part (parts_then parts rest) v.0 (parts_pass must parts rest v.1 h)

first_passes : (must : Bool) (part : Part) (rest : List ℕ) → ValidPart part → is_name_rest must rest ≡ true → is_authority must (part_then part rest) ≡ true
first_passes must (Plain byte) rest v h = rw (other is_plain_byte 91 byte refl v) (and_from _ _ (or_left (is_plain_byte byte) _ v) h)
first_passes must (Encoded a b) rest v h = encoded_rest must a b rest v h

literal_passes : (later must : Bool) (bytes rest : List ℕ) → list_all (is_literal_byte later) bytes ≡ true → is_port_after must rest ≡ true → is_literal_rest later must (bytes ++ 93 ∷ rest) ≡ true
literal_passes later must [] rest v h = h
literal_passes later must (byte ∷ bytes) rest v h =
    rw (other (is_literal_byte later) 93 byte (no_bracket later) (and_parts _ _ v).0)
    (and_from _ _ (and_parts _ _ v).0 (literal_passes later must bytes rest (and_parts _ _ v).1 h))

host_passes : (must : Bool) (host : Host) (port : Option (List ℕ)) → ValidHost host → ValidPort must port → is_authority must (host_then host (port_bytes port)) ≡ true
host_passes must (Name part parts) port v p = first_passes must part _ v.0 (parts_pass must parts _ v.1 (port_rest must port p))
host_passes must (Version6 first others) port v p =
    rw (or_from _ _ (other (is_literal_byte false) 118 first refl v.0) (other (is_literal_byte false) 86 first refl v.0))
    (and_from _ _ v.0 (literal_passes false must others _ v.1 (port_after must port p)))
host_passes must (Later first others) port v p = rw v.0 (literal_passes true must others _ v.1 (port_after must port p))

pub authority_passes : (must : Bool) (text : List ℕ) → IsAuthority must text → is_authority must text ≡ true
authority_passes must text is =
    subst (λ (t : List ℕ). is_authority must t ≡ true) is.bytes (host_passes must is.authority.host is.authority.port is.host is.port)

-- ---- texts that pass are of the grammar

record IsRest (must : Bool) (text : List ℕ) : Type 0 where
  parts : List Part
  port : Option (List ℕ)
  valid : ValidParts parts
  ends : ValidPort must port
  bytes : parts_then parts (port_bytes port) ≡ text

no_port : (must : Bool) → not must ≡ true → must ≡ false
no_port true h = absurd (false≢true h)
no_port false h = refl

peeled : (must : Bool) (byte : ℕ) (rest : List ℕ) → is_plain_byte byte ≡ true → is_name_rest must (byte ∷ rest) ≡ true → is_name_rest must rest ≡ true
peeled must byte rest v h = (and_parts (is_name_byte byte rest) _ (rw (other is_plain_byte 58 byte refl v) at h)).1

with_encoded : (must : Bool) (n byte : ℕ) (others : List ℕ) → ((t : List ℕ) → length t ≤ n → is_name_rest must t ≡ true → IsRest must t) → length others ≤ n
    → (byte == 37 && starts_with_hex others) ≡ true → is_name_rest must others ≡ true → IsRest must (byte ∷ others)
with_encoded must n byte [] ih few e h = absurd (false≢true (and_parts (byte == 37) _ e).1)
with_encoded must n byte (a ∷ []) ih few e h = absurd (false≢true (and_parts (byte == 37) _ e).1)
with_encoded must n byte (a ∷ b ∷ rest) ih few e h =
    let hex = and_parts (is_hex a) (is_hex b) (and_parts (byte == 37) _ e).1 in
    let i = ih rest (omega (arith, few)) (peeled must b rest (hex_plain b hex.1) (peeled must a (b ∷ rest) (hex_plain a hex.0) h)) in
    record {
      parts = Encoded a b ∷ i.parts;
      port = i.port;
      valid = (hex, i.valid);
      ends = i.ends;
      bytes = ap (λ (t : List ℕ). 37 ∷ a ∷ b ∷ t) i.bytes ∙ ap (λ (x : ℕ). x ∷ a ∷ b ∷ rest) (sym (eqb-true byte 37 (and_parts (byte == 37) _ e).0));
    }

with_byte : (v : Bool) (must : Bool) (n byte : ℕ) (others : List ℕ) → (byte == 58) ≡ v → ((t : List ℕ) → length t ≤ n → is_name_rest must t ≡ true → IsRest must t) → length others ≤ n
    → is_name_rest must (byte ∷ others) ≡ true → IsRest must (byte ∷ others)
with_byte true must n byte others e ih few h =
    let port = and_parts (list_all is_digit others) _ (rw e at h) in
    record { parts = []; port = Some others; valid = tt; ends = port; bytes = ap (λ (x : ℕ). x ∷ others) (sym (eqb-true byte 58 e)) }
with_byte false must n byte others e ih few h =
    let both = and_parts (is_name_byte byte others) _ (rw e at h) in
    ⊎_elim
    (λ plain. let i = ih others few both.1 in record { parts = Plain byte ∷ i.parts; port = i.port; valid = (plain, i.valid); ends = i.ends; bytes = ap (λ (t : List ℕ). byte ∷ t) i.bytes })
    (λ encoded. with_encoded must n byte others ih few encoded both.1)
    (or_cases (is_plain_byte byte) _ both.0)

rest_found : (n : ℕ) (must : Bool) (text : List ℕ) → length text ≤ n → is_name_rest must text ≡ true → IsRest must text
rest_found n must [] few h = record { parts = []; port = None; valid = tt; ends = no_port must h; bytes = refl }
rest_found zero must (byte ∷ others) few h = absurd (omega (arith, few))
rest_found (suc n) must (byte ∷ others) few h = with_byte (byte == 58) must n byte others refl (rest_found n must) (omega (arith, few)) h

record IsLiteral (later must : Bool) (text : List ℕ) : Type 0 where
  others : List ℕ
  port : Option (List ℕ)
  valid : list_all (is_literal_byte later) others ≡ true
  ends : ValidPort must port
  bytes : others ++ 93 ∷ port_bytes port ≡ text

record IsPortAfter (must : Bool) (text : List ℕ) : Type 0 where
  port : Option (List ℕ)
  ends : ValidPort must port
  bytes : port_bytes port ≡ text

port_found : (must : Bool) (text : List ℕ) → is_port_after must text ≡ true → IsPortAfter must text
port_found must [] h = record { port = None; ends = no_port must h; bytes = refl }
port_found must (first ∷ others) h =
    let both = and_parts (first == 58) _ h in
    record { port = Some others; ends = and_parts (list_all is_digit others) _ both.1; bytes = ap (λ (x : ℕ). x ∷ others) (sym (eqb-true first 58 both.0)) }

with_literal : (v later must : Bool) (byte : ℕ) (others : List ℕ) → (byte == 93) ≡ v → (is_literal_rest later must others ≡ true → IsLiteral later must others)
    → is_literal_rest later must (byte ∷ others) ≡ true → IsLiteral later must (byte ∷ others)
with_literal true later must byte others e ih h =
    let p = port_found must others (rw e at h) in
    record { others = []; port = p.port; valid = refl; ends = p.ends; bytes = ap (λ (t : List ℕ). 93 ∷ t) p.bytes ∙ ap (λ (x : ℕ). x ∷ others) (sym (eqb-true byte 93 e)) }
with_literal false later must byte others e ih h =
    let both = and_parts (is_literal_byte later byte) _ (rw e at h) in
    let i = ih both.1 in
    record { others = byte ∷ i.others; port = i.port; valid = and_from _ _ both.0 i.valid; ends = i.ends; bytes = ap (λ (t : List ℕ). byte ∷ t) i.bytes }

literal_found : (later must : Bool) (text : List ℕ) → is_literal_rest later must text ≡ true → IsLiteral later must text
literal_found later must [] h = absurd (false≢true h)
literal_found later must (byte ∷ others) h = with_literal (byte == 93) later must byte others refl (literal_found later must others) h

bracketed : (v must : Bool) (byte : ℕ) (others : List ℕ) → is_v byte ≡ v → is_literal must (byte ∷ others) ≡ true → IsAuthority must (91 ∷ byte ∷ others)
bracketed true must byte others e h =
    let l = literal_found true must others (rw e at h) in
    record { authority = record { host = Later byte l.others; port = l.port }; host = (e, l.valid); port = l.ends; bytes = ap (λ (t : List ℕ). 91 ∷ byte ∷ t) l.bytes }
bracketed false must byte others e h =
    let both = and_parts (is_literal_byte false byte) _ (rw e at h) in
    let l = literal_found false must others both.1 in
    record { authority = record { host = Version6 byte l.others; port = l.port }; host = (both.0, l.valid); port = l.ends; bytes = ap (λ (t : List ℕ). 91 ∷ byte ∷ t) l.bytes }

after_bracket : (must : Bool) (others : List ℕ) → is_literal must others ≡ true → IsAuthority must (91 ∷ others)
after_bracket must [] h = absurd (false≢true h)
after_bracket must (byte ∷ others) h = bracketed (is_v byte) must byte others refl h

-- a name is not empty
named : (must : Bool) (byte : ℕ) (others : List ℕ) (parts : List Part) (port : Option (List ℕ)) → (byte == 58) ≡ false → ValidParts parts → ValidPort must port → parts_then parts (port_bytes port) ≡ byte ∷ others → IsAuthority must (byte ∷ others)
named must byte others [] None e v p bytes = absurd (cc (bytes))
named must byte others [] (Some digits) e v p bytes = absurd (false≢true (sym e ∙ (let same : 58 ≡ byte = cc (bytes) in ap (λ (x : ℕ). x == 58) (sym same))))
named must byte others (part ∷ parts) port e v p bytes = record { authority = record { host = Name part parts; port = port }; host = v; port = p; bytes = bytes }

no_colon : (byte : ℕ) (others : List ℕ) → is_name_byte byte others ≡ true → (byte == 58) ≡ false
no_colon byte others h = ⊎_elim (other is_plain_byte 58 byte refl) (λ e. other (λ (x : ℕ). x == 37) 58 byte refl (and_parts (byte == 37) _ e).0) (or_cases (is_plain_byte byte) _ h)

with_first : (v must : Bool) (byte : ℕ) (others : List ℕ) → (byte == 91) ≡ v → is_authority must (byte ∷ others) ≡ true → IsAuthority must (byte ∷ others)
with_first true must byte others e h =
    subst (λ (x : ℕ). IsAuthority must (x ∷ others)) (sym (eqb-true byte 91 e)) (after_bracket must others (rw e at h))
with_first false must byte others e h =
    let both = and_parts (is_name_byte byte others) _ (rw e at h) in
    let colon = no_colon byte others both.0 in
    let r = rest_found (suc (length others)) must (byte ∷ others) (omega arith) (rw colon (and_from _ _ both.0 both.1)) in
    named must byte others r.parts r.port colon r.valid r.ends r.bytes

pub authority_found : (must : Bool) (text : List ℕ) → is_authority must text ≡ true → IsAuthority must text
authority_found must [] h = absurd (false≢true h)
authority_found must (byte ∷ others) h = with_first (byte == 91) must byte others refl h

-- ---- an authority is a valid value

part_visible : (part : Part) (rest : List ℕ) → ValidPart part → list_all is_visible rest ≡ true → list_all is_visible (part_then part rest) ≡ true
part_visible (Plain byte) rest v h = and_from _ _ (plain_visible byte v) h
part_visible (Encoded a b) rest v h = and_from (is_visible a) _ (plain_visible a (hex_plain a v.0)) (and_from (is_visible b) _ (plain_visible b (hex_plain b v.1)) h)

parts_visible : (parts : List Part) (rest : List ℕ) → ValidParts parts → list_all is_visible rest ≡ true → list_all is_visible (parts_then parts rest) ≡ true
parts_visible [] rest v h = h
parts_visible (part ∷ parts) rest v h = part_visible part _ v.0 (parts_visible parts rest v.1 h)

pub digits_visible : (text : List ℕ) → list_all is_digit text ≡ true → list_all is_visible text ≡ true
digits_visible [] h = refl
digits_visible (digit ∷ text) h = and_from _ _ (between 47 58 digit (omega arith) (omega arith) (and_parts _ _ h).0) (digits_visible text (and_parts _ _ h).1)

port_visible : (must : Bool) (port : Option (List ℕ)) → ValidPort must port → list_all is_visible (port_bytes port) ≡ true
port_visible must None v = refl
port_visible must (Some digits) v = digits_visible digits v.0

literal_byte_visible : (later : Bool) (byte : ℕ) → is_literal_byte later byte ≡ true → is_visible byte ≡ true
literal_byte_visible true byte h = ⊎_elim (plain_visible byte) (λ e. subst (λ (x : ℕ). is_visible x ≡ true) (sym (eqb-true byte 58 e)) refl) (or_cases _ _ h)
literal_byte_visible false byte h = ⊎_elim
    (λ x. ⊎_elim (λ e. plain_visible byte (hex_plain byte e)) (λ e. subst (λ (x : ℕ). is_visible x ≡ true) (sym (eqb-true byte 58 e)) refl) (or_cases _ _ x))
    (λ e. subst (λ (x : ℕ). is_visible x ≡ true) (sym (eqb-true byte 46 e)) refl)
    (or_cases _ _ h)

v_visible : (byte : ℕ) → is_v byte ≡ true → is_visible byte ≡ true
v_visible byte h = ⊎_elim (λ e. subst (λ (x : ℕ). is_visible x ≡ true) (sym (eqb-true byte 118 e)) refl) (λ e. subst (λ (x : ℕ). is_visible x ≡ true) (sym (eqb-true byte 86 e)) refl) (or_cases _ _ h)

literal_visible : (later : Bool) (bytes rest : List ℕ) → list_all (is_literal_byte later) bytes ≡ true → list_all is_visible rest ≡ true → list_all is_visible (bytes ++ 93 ∷ rest) ≡ true
literal_visible later [] rest v h = h
literal_visible later (byte ∷ bytes) rest v h = and_from _ _ (literal_byte_visible later byte (and_parts _ _ v).0) (literal_visible later bytes rest (and_parts _ _ v).1 h)

host_visible : (host : Host) (rest : List ℕ) → ValidHost host → list_all is_visible rest ≡ true → list_all is_visible (host_then host rest) ≡ true
host_visible (Name part parts) rest v h = part_visible part _ v.0 (parts_visible parts rest v.1 h)
host_visible (Version6 first others) rest v h = and_from _ _ (literal_byte_visible false first v.0) (literal_visible false others rest v.1 h)
host_visible (Later first others) rest v h = and_from _ _ (v_visible first v.0) (literal_visible true others rest v.1 h)

pub authority_visible : (must : Bool) (text : List ℕ) → IsAuthority must text → list_all is_visible text ≡ true
authority_visible must text is = subst (λ (t : List ℕ). list_all is_visible t ≡ true) is.bytes (host_visible is.authority.host _ is.host (port_visible must is.authority.port is.port))
