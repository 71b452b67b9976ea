-- Messages that break a rule are well formed in no case.
use Rattle.std.proofs.Common.{◌≡◌, ◌==◌, ℕ, suc, ◌-◌, ◌<◌, ◌≤◌, nat_lt, Bool, true, false, not, ◌||◌, cond, if◌then◌else◌, List, [], ◌∷◌, ◌++◌, map, filter, length, length-append, slice_get, Option, Some, None, is_some, refl, sym, ap, subst, ◌∙◌, arith, eq-eqb, ne_eqb, lt-ltb, le-ltb, codes, bytes_eq}
use Rattle.std.proofs.lemmas.Bool.{and_from, and_left, and_right, or_from, or_parts, or_cases, or_left, or_right, false≢true, false_from_ne_true}
use Rattle.std.proofs.lemmas.Slice.Eq.{bytes_eq-Decides}
use Rattle.std.specs.List.{list_all, list_any}
use Rattle.std.specs.Str.{str_eq_ignore_ascii_case}
use mathlib.Core.Logic.{◌⊎◌, inl, inr, ⊎_elim}
use Rattle.wtp_qpack.specs.Field.{Field, field_value}
use Rattle.wtp_fields.specs.FieldWriting.{is_upper, is_tchar, is_blank, is_blank_at, is_value_byte, is_field_value}
use Rattle.wtp_fields.specs.FieldList.{has_name, values_of}
use Rattle.wtp_fields.specs.FieldMessages.{three_digits}
use Rattle.wtp_messages.specs.declared.section.SectionKind.{SectionKind}
use Rattle.wtp_messages.specs.declared.section.SectionKind.TheVariants as section
use Rattle.wtp_messages.specs.declared.malformed.Malformed.{Malformed}
use Rattle.wtp_messages.specs.declared.malformed.Malformed.TheVariants.{InvalidName, InvalidValue, ConnectionField, InvalidTe, UnknownPseudoHeader, LatePseudoHeader, RepeatedPseudoHeader, MissingMethod, InvalidMethod, MissingScheme, InvalidScheme, MissingPath, InvalidPath, MissingAuthority, InvalidAuthority, ConnectWithTarget, UnexpectedProtocol, InvalidProtocol, ContentField, MissingStatus, InvalidStatus, UnexpectedStatus}
use Rattle.wtp_messages.specs.declared.response.Asked.{Asked}
use Rattle.wtp_messages.specs.declared.response.Asked.TheVariants as asked
use Rattle.wtp_messages.specs.Names.{starts_with, is_some_text, is_pseudo, is_field_name, is_whole_token, is_one_of, has_field, is_and, is_and_not}
use Rattle.wtp_messages.specs.Authority.{IsAuthority, ValidPort, is_authority}
use Rattle.wtp_messages.specs.Section.{pseudo_names, are_pseudo_first, is_repeated, line_breaks, whole_breaks, section_breaks, IsSection}
use Rattle.wtp_messages.specs.Request.{scheme_of, protocol_of, authority_of, host_of, is_path_byte, is_path, is_options, is_http, is_connect, is_plain_connect, asks_for_session, has_scheme, is_scheme, needs_authority, has_no_authority, has_bad_authority, differ, head_breaks, request_breaks, IsWellFormed}
use Rattle.wtp_messages.specs.Response.{status_of, status_in, is_status, is_success, is_unexpected, is_status_text, kind_if, opens_tunnel, section_kind, status_breaks, response_breaks}
use Rattle.wtp_messages.specs.Broken.{RefusesLine, IsControl, IsBlank, Has, Lacks, IsConnect, IsHttp, IsForSession, NeedsAuthority, IsRefused, IsWellFormedResponse, IsRefusedResponse}
use Rattle.wtp_messages.proofs.AuthorityLemmas.{authority_found}
use Rattle.wtp_messages.proofs.NameLemmas.{found_name}
use Rattle.wtp_messages.proofs.FieldLemmas.{no_value}
use Rattle.wtp_messages.proofs.RequestLemmas.{by_head}
use Rattle.wtp_messages.proofs.ResponseLemmas.{by_status}

both : {A : Type 0} (b : Bool) → b ≡ true → b ≡ false → A
both b t f = absurd (false≢true (sym f ∙ t))

-- ---- lists

any_at : {X : Type 0} (test : X → Bool) (before : List X) (x : X) (after : List X) → test x ≡ true → list_any test (before ++ x ∷ after) ≡ true
any_at test [] x after h = or_left (test x) _ h
any_at test (y ∷ before) x after h = or_right (test y) _ (any_at test before x after h)

pub all_at : {X : Type 0} (test : X → Bool) (before : List X) (x : X) (after : List X) → test x ≡ false → list_all test (before ++ x ∷ after) ≡ false
all_at test [] x after h = and_left (test x) _ h
all_at test (y ∷ before) x after h = and_right (test y) _ (all_at test before x after h)

-- ---- lines

unfolded : (kind : SectionKind) (fields : List Field) (rule : Malformed) → IsSection kind fields → (list_any (line_breaks kind rule) fields || whole_breaks kind fields rule) ≡ false
unfolding section_breaks
unfolded kind fields rule h = h rule

refuses : (kind : SectionKind) (rule : Malformed) (name value : List ℕ) → line_breaks kind rule (name, value) ≡ true → RefusesLine kind name value
refuses kind rule name value h before after is =
    both _ (any_at (line_breaks kind rule) before (name, value) after h) (or_parts _ _ (unfolded kind (before ++ (name, value) ∷ after) rule is)).0

pub refuses_whole : (kind : SectionKind) (fields : List Field) (rule : Malformed) → whole_breaks kind fields rule ≡ true → IsSection kind fields → ⊥
refuses_whole kind fields rule h is = both _ h (or_parts _ _ (unfolded kind fields rule is)).1

bad_name : (kind : SectionKind) (name value : List ℕ) → starts_with 58 name ≡ false → is_field_name name ≡ false → RefusesLine kind name value
bad_name kind name value s h = refuses kind InvalidName name value (and_from _ _ (ap not s) (ap not h))

pub empty_name : (kind : SectionKind) (value : List ℕ) → RefusesLine kind [] value
empty_name kind value = bad_name kind [] value refl refl

pub no_token : (kind : SectionKind) (name value : List ℕ) → starts_with 58 name ≡ false → list_all is_tchar name ≡ false → RefusesLine kind name value
no_token kind name value s h = bad_name kind name value s (and_left _ _ (and_right (is_some_text name) _ h))

-- none of the names that fail a test is a name that passes it
none_is_by : (v : Bool) (test : List ℕ → Bool) (one name : List ℕ) → bytes_eq name one ≡ v → test one ≡ false → test name ≡ true → v ≡ false
none_is_by false test one name e none some = refl
none_is_by true test one name e none some = sym some ∙ ap test ((bytes_eq-Decides name one).0 e) ∙ none

none_is : (test : List ℕ → Bool) (names : List (List ℕ)) (name : List ℕ) → list_any test names ≡ false → test name ≡ true → is_one_of names name ≡ false
none_is test [] name none some = refl
none_is test (one ∷ names) name none some =
    or_from _ _ (none_is_by (bytes_eq name one) test one name refl (or_parts (test one) _ none).0 some) (none_is test names name (or_parts (test one) _ none).1 some)

no_upper : (kind : SectionKind) → list_any (list_any is_upper) (pseudo_names kind) ≡ false
no_upper section.Request = refl
no_upper section.Response = refl
no_upper section.Tunnel = refl
no_upper section.Trailers = refl

unknown : (kind : SectionKind) (name value : List ℕ) → starts_with 58 name ≡ true → is_one_of (pseudo_names kind) name ≡ false → RefusesLine kind name value
unknown kind name value s h = refuses kind UnknownPseudoHeader name value (and_from _ _ s (ap not h))

upper_by : (v : Bool) (kind : SectionKind) (name value : List ℕ) → starts_with 58 name ≡ v → list_any is_upper name ≡ true → RefusesLine kind name value
upper_by true kind name value s h = unknown kind name value s (none_is (list_any is_upper) (pseudo_names kind) name (no_upper kind) h)
upper_by false kind name value s h = bad_name kind name value s (and_right (is_whole_token name) _ (ap not h))

pub upper_case : (kind : SectionKind) (name value : List ℕ) → list_any is_upper name ≡ true → RefusesLine kind name value
upper_case kind name value h = upper_by (starts_with 58 name) kind name value refl h

bad_value : (kind : SectionKind) (name value : List ℕ) → is_field_value value ≡ false → RefusesLine kind name value
bad_value kind name value h = refuses kind InvalidValue name value (ap not h)

no_value_byte : (byte : ℕ) → IsControl byte → is_value_byte byte ≡ false
no_value_byte byte (inl (low, tab)) = or_from _ _ (ne_eqb byte 9 tab) (and_left _ _ (le-ltb 31 byte (omega (arith, low))))
no_value_byte byte (inr e) = subst (λ (x : ℕ). is_value_byte x ≡ false) (sym e) refl

pub control : (kind : SectionKind) (name front back : List ℕ) (byte : ℕ) → IsControl byte → RefusesLine kind name (front ++ byte ∷ back)
control kind name front back byte h = bad_value kind name (front ++ byte ∷ back) (and_left _ _ (all_at is_value_byte front byte back (no_value_byte byte h)))

blank_byte : (byte : ℕ) → IsBlank byte → is_blank byte ≡ true
blank_byte byte (inl e) = or_left (byte == 32) _ (eq-eqb byte 32 e)
blank_byte byte (inr e) = or_right (byte == 32) _ (eq-eqb byte 9 e)

pub blank_first : (kind : SectionKind) (name others : List ℕ) (byte : ℕ) → IsBlank byte → RefusesLine kind name (byte ∷ others)
blank_first kind name others byte h = bad_value kind name (byte ∷ others) (and_right (list_all is_value_byte (byte ∷ others)) _ (and_left _ _ (ap not (blank_byte byte h))))

get_last : (front : List ℕ) (byte : ℕ) → slice_get (front ++ byte ∷ []) (length front) ≡ Some byte
get_last [] byte = refl
get_last (x ∷ front) byte = get_last front byte

last_place : (front : List ℕ) (byte : ℕ) → length (front ++ byte ∷ []) - 1 ≡ length front
last_place front byte = let one : length (byte ∷ []) ≡ 1 = refl in omega (arith, one, length-append front (byte ∷ []))

pub blank_last : (kind : SectionKind) (name front : List ℕ) (byte : ℕ) → IsBlank byte → RefusesLine kind name (front ++ byte ∷ [])
blank_last kind name front byte h =
    let value = front ++ byte ∷ [] in
    let at : slice_get value (length value - 1) ≡ Some byte = ap (λ (i : ℕ). slice_get value i) (last_place front byte) ∙ get_last front byte in
    bad_value kind name value (and_right (list_all is_value_byte value) _ (and_right (not (is_blank_at (slice_get value 0))) _ (ap (λ (o : Option ℕ). not (is_blank_at o)) at ∙ ap not (blank_byte byte h))))

pub connection : (kind : SectionKind) (value : List ℕ) → RefusesLine kind (codes "connection") value
connection kind value = refuses kind ConnectionField (codes "connection") value refl

pub keep_alive : (kind : SectionKind) (value : List ℕ) → RefusesLine kind (codes "keep-alive") value
keep_alive kind value = refuses kind ConnectionField (codes "keep-alive") value refl

pub proxy_connection : (kind : SectionKind) (value : List ℕ) → RefusesLine kind (codes "proxy-connection") value
proxy_connection kind value = refuses kind ConnectionField (codes "proxy-connection") value refl

pub transfer_encoding : (kind : SectionKind) (value : List ℕ) → RefusesLine kind (codes "transfer-encoding") value
transfer_encoding kind value = refuses kind ConnectionField (codes "transfer-encoding") value refl

pub upgrade : (kind : SectionKind) (value : List ℕ) → RefusesLine kind (codes "upgrade") value
upgrade kind value = refuses kind ConnectionField (codes "upgrade") value refl

pub te : (value : List ℕ) → str_eq_ignore_ascii_case value (codes "trailers") ≡ false → RefusesLine section.Request (codes "te") value
te value h = refuses section.Request InvalidTe (codes "te") value (ap not h)

pub te_elsewhere : (kind : SectionKind) (value : List ℕ) → (kind ≡ section.Request → ⊥) → RefusesLine kind (codes "te") value
te_elsewhere section.Request value h = absurd (h refl)
te_elsewhere section.Response value h = refuses section.Response InvalidTe (codes "te") value refl
te_elsewhere section.Tunnel value h = refuses section.Tunnel InvalidTe (codes "te") value refl
te_elsewhere section.Trailers value h = refuses section.Trailers InvalidTe (codes "te") value refl

differ_from : (name one : List ℕ) → (name ≡ one → ⊥) → bytes_eq name one ≡ false
differ_from name one h = false_from_ne_true (bytes_eq name one) (λ e. h ((bytes_eq-Decides name one).0 e))

pub unknown_in_request : (name value : List ℕ) → starts_with 58 name ≡ true → (name ≡ codes ":method" → ⊥) → (name ≡ codes ":scheme" → ⊥) → (name ≡ codes ":authority" → ⊥) → (name ≡ codes ":path" → ⊥) → (name ≡ codes ":protocol" → ⊥) → RefusesLine section.Request name value
unknown_in_request name value s m c a p t =
    unknown section.Request name value s (or_from _ _ (differ_from name _ m) (or_from _ _ (differ_from name _ c) (or_from _ _ (differ_from name _ a) (or_from _ _ (differ_from name _ p) (or_from _ _ (differ_from name _ t) refl)))))

pub unknown_in_response : (name value : List ℕ) → starts_with 58 name ≡ true → (name ≡ codes ":status" → ⊥) → RefusesLine section.Response name value
unknown_in_response name value s h = unknown section.Response name value s (or_from _ _ (differ_from name _ h) refl)

pub unknown_in_tunnel : (name value : List ℕ) → starts_with 58 name ≡ true → (name ≡ codes ":status" → ⊥) → RefusesLine section.Tunnel name value
unknown_in_tunnel name value s h = unknown section.Tunnel name value s (or_from _ _ (differ_from name _ h) refl)

pub pseudo_in_trailers : (name value : List ℕ) → starts_with 58 name ≡ true → RefusesLine section.Trailers name value
pseudo_in_trailers name value s = unknown section.Trailers name value s refl

-- ---- whole sections

none_before : (before rest : List Field) → list_all (λ (x : Field). not (is_pseudo x)) rest ≡ false → list_all (λ (x : Field). not (is_pseudo x)) (before ++ rest) ≡ false
none_before [] rest h = h
none_before (x ∷ before) rest h = and_right (not (is_pseudo x)) _ (none_before before rest h)

not_first_by : (v : Bool) (before rest : List Field) → are_pseudo_first rest ≡ false → list_all (λ (x : Field). not (is_pseudo x)) rest ≡ false → are_pseudo_first (before ++ rest) ≡ false
    → (if v then are_pseudo_first (before ++ rest) else list_all (λ (x : Field). not (is_pseudo x)) (before ++ rest)) ≡ false
not_first_by true before rest a b h = h
not_first_by false before rest a b h = none_before before rest b

not_first : (before rest : List Field) → are_pseudo_first rest ≡ false → list_all (λ (x : Field). not (is_pseudo x)) rest ≡ false → are_pseudo_first (before ++ rest) ≡ false
not_first [] rest a b = a
not_first (x ∷ before) rest a b = not_first_by (is_pseudo x) before rest a b (not_first before rest a b)

pub late : (kind : SectionKind) (before between after : List Field) (field pseudo : Field) → is_pseudo field ≡ false → is_pseudo pseudo ≡ true
    → IsSection kind (before ++ field ∷ (between ++ pseudo ∷ after)) → ⊥
late kind before between after field pseudo f p =
    let none : list_all (λ (x : Field). not (is_pseudo x)) (between ++ pseudo ∷ after) ≡ false = all_at (λ (x : Field). not (is_pseudo x)) between pseudo after (ap not p) in
    let rest = field ∷ (between ++ pseudo ∷ after) in
    let first : are_pseudo_first rest ≡ false = ap (λ (b : Bool). if b then are_pseudo_first (between ++ pseudo ∷ after) else list_all (λ (x : Field). not (is_pseudo x)) (between ++ pseudo ∷ after)) f ∙ none in
    refuses_whole kind (before ++ rest) LatePseudoHeader (ap not (not_first before rest first (and_right (not (is_pseudo field)) _ none)))

at_least_by : (v : Bool) (n : ℕ) (x : Field) (fields : List Field) → n ≤ length (map (λ (f : Field). f.1) fields) → n ≤ length (map (λ (f : Field). f.1) (cond v (x ∷ fields) fields))
at_least_by true n x fields h = omega (arith, h)
at_least_by false n x fields h = h

at_least : (n : ℕ) (name : List ℕ) (before rest : List Field) → n ≤ length (values_of name rest) → n ≤ length (values_of name (before ++ rest))
at_least n name [] rest h = h
at_least n name (x ∷ before) rest h = at_least_by (has_name name x) n x (filter (has_name name) (before ++ rest)) (at_least n name before rest h)

one_more : (n : ℕ) (name value : List ℕ) (fields : List Field) → n ≤ length (values_of name fields) → suc n ≤ length (values_of name ((name, value) ∷ fields))
one_more n name value fields h =
    let same : bytes_eq name name ≡ true = (bytes_eq-Decides name name).1 refl in
    let is : length (values_of name ((name, value) ∷ fields)) ≡ suc (length (values_of name fields)) = ap (λ (b : Bool). length (map (λ (f : Field). f.1) (cond b ((name, value) ∷ filter (has_name name) fields) (filter (has_name name) fields)))) same in
    omega (arith, is, h)

twice : (name : List ℕ) (before between after : List Field) (v w : List ℕ) → is_repeated (before ++ (name, v) ∷ (between ++ (name, w) ∷ after)) name ≡ true
twice name before between after v w =
    let last : 1 ≤ length (values_of name ((name, w) ∷ after)) = one_more 0 name w after (omega arith) in
    let more : 1 ≤ length (values_of name (between ++ (name, w) ∷ after)) = at_least 1 name between ((name, w) ∷ after) last in
    let two : 2 ≤ length (values_of name ((name, v) ∷ (between ++ (name, w) ∷ after))) = one_more 1 name v (between ++ (name, w) ∷ after) more in
    let all : 2 ≤ length (values_of name (before ++ (name, v) ∷ (between ++ (name, w) ∷ after))) = at_least 2 name before ((name, v) ∷ (between ++ (name, w) ∷ after)) two in
    lt-ltb 1 (length (values_of name (before ++ (name, v) ∷ (between ++ (name, w) ∷ after)))) (omega (arith, all))

any_named : (test : List ℕ → Bool) (names : List (List ℕ)) (name : List ℕ) → is_one_of names name ≡ true → test name ≡ true → list_any test names ≡ true
any_named test [] name h t = absurd (false≢true h)
any_named test (one ∷ names) name h t = ⊎_elim
    (λ e. or_left (test one) _ (subst (λ (x : List ℕ). test x ≡ true) ((bytes_eq-Decides name one).0 e) t))
    (λ r. or_right (test one) _ (any_named test names name r t))
    (or_cases (bytes_eq name one) _ h)

repeated_by : (b : Bool) (kind : SectionKind) (name : List ℕ) (before between after : List Field) (v w : List ℕ) → is_one_of (pseudo_names kind) name ≡ b → starts_with 58 name ≡ true
    → IsSection kind (before ++ (name, v) ∷ (between ++ (name, w) ∷ after)) → ⊥
repeated_by true kind name before between after v w e s =
    refuses_whole kind (before ++ (name, v) ∷ (between ++ (name, w) ∷ after)) RepeatedPseudoHeader (any_named (is_repeated (before ++ (name, v) ∷ (between ++ (name, w) ∷ after))) (pseudo_names kind) name e (twice name before between after v w))
repeated_by false kind name before between after v w e s = unknown kind name v s e before (between ++ (name, w) ∷ after)

pub repeated : (kind : SectionKind) (name : List ℕ) (before between after : List Field) (v w : List ℕ) → starts_with 58 name ≡ true
    → IsSection kind (before ++ (name, v) ∷ (between ++ (name, w) ∷ after)) → ⊥
repeated kind name before between after v w s = repeated_by (is_one_of (pseudo_names kind) name) kind name before between after v w refl s

-- ---- requests

pub request_section : (extended : Bool) (fields : List Field) → IsWellFormed extended fields → IsSection section.Request fields
unfolding request_breaks
request_section extended fields h rule = (or_parts _ _ (h rule)).0

head_refused : (extended : Bool) (fields : List Field) (rule : Malformed) → head_breaks extended fields rule ≡ true → IsWellFormed extended fields → ⊥
head_refused extended fields rule h is = both _ (by_head extended fields rule h) (is rule)

missing : (name : List ℕ) (fields : List Field) → Lacks name fields → not (is_some (field_value name fields)) ≡ true
missing name fields h = ap (λ (o : Option (List ℕ)). not (is_some o)) (no_value name fields h)

has : (name value : List ℕ) (fields : List Field) → Has name value fields → is_and (λ (v : List ℕ). bytes_eq v value) (field_value name fields) ≡ true
has name value fields h = ap (is_and (λ (v : List ℕ). bytes_eq v value)) h ∙ (bytes_eq-Decides value value).1 refl

has_no : (name value : List ℕ) (fields : List Field) (o : Option (List ℕ)) → field_value name fields ≡ o → (Has name value fields → ⊥) → is_and (λ (v : List ℕ). bytes_eq v value) (field_value name fields) ≡ false
has_no name value fields None e h = ap (is_and (λ (v : List ℕ). bytes_eq v value)) e
has_no name value fields (Some text) e h =
    ap (is_and (λ (v : List ℕ). bytes_eq v value)) e ∙ differ_from text value (λ same. h (e ∙ ap Some same))

not_connect : (fields : List Field) → (IsConnect fields → ⊥) → is_connect fields ≡ false
not_connect fields h = has_no (codes ":method") (codes "CONNECT") fields (field_value (codes ":method") fields) refl h

no_plain : (fields : List Field) → (IsConnect fields → ⊥) → is_plain_connect fields ≡ false
no_plain fields h = and_left _ _ (not_connect fields h)

with_protocol : (fields : List Field) → has_field (codes ":protocol") fields ≡ true → is_some (protocol_of fields) ≡ true
with_protocol fields h = found_name (codes ":protocol") fields ∙ h

no_plain_extended : (fields : List Field) → has_field (codes ":protocol") fields ≡ true → is_plain_connect fields ≡ false
no_plain_extended fields h = and_right (is_connect fields) _ (ap not (with_protocol fields h))

plain : (fields : List Field) → IsConnect fields → Lacks (codes ":protocol") fields → is_plain_connect fields ≡ true
plain fields c l = and_from _ _ (has (codes ":method") (codes "CONNECT") fields c) (missing (codes ":protocol") fields l)

http : (fields : List Field) → IsHttp fields → is_http fields ≡ true
http fields (inl e) = or_left (has_scheme (codes "http") fields) _ (ap (is_and (λ (v : List ℕ). str_eq_ignore_ascii_case v (codes "http"))) e)
http fields (inr e) = or_right (has_scheme (codes "http") fields) _ (ap (is_and (λ (v : List ℕ). str_eq_ignore_ascii_case v (codes "https"))) e)

needs : (fields : List Field) → NeedsAuthority fields → needs_authority fields ≡ true
needs fields (inl c) = or_left (is_connect fields) _ (has (codes ":method") (codes "CONNECT") fields c)
needs fields (inr h) = or_right (is_connect fields) _ (http fields h)

session : (fields : List Field) → IsForSession fields → asks_for_session fields ≡ true
session fields h = has (codes ":protocol") (codes "webtransport") fields h

-- the value of a field fails a test
fails : (test : List ℕ → Bool) (name value : List ℕ) (fields : List Field) → Has name value fields → test value ≡ false → is_and_not test (field_value name fields) ≡ true
fails test name value fields e h = ap (is_and_not test) e ∙ ap not h

pub no_method : (fields : List Field) → Lacks (codes ":method") fields → IsRefused fields
no_method fields h extended = head_refused extended fields MissingMethod (missing (codes ":method") fields h)

pub method : (fields : List Field) (value : List ℕ) → Has (codes ":method") value fields → is_whole_token value ≡ false → IsRefused fields
method fields value e h extended = head_refused extended fields InvalidMethod (fails is_whole_token (codes ":method") value fields e h)

pub no_scheme : (fields : List Field) → (IsConnect fields → ⊥) → Lacks (codes ":scheme") fields → IsRefused fields
no_scheme fields c h extended = head_refused extended fields MissingScheme (and_from _ _ (ap not (no_plain fields c)) (missing (codes ":scheme") fields h))

pub no_scheme_extended : (fields : List Field) → has_field (codes ":protocol") fields ≡ true → Lacks (codes ":scheme") fields → IsRefused fields
no_scheme_extended fields c h extended = head_refused extended fields MissingScheme (and_from _ _ (ap not (no_plain_extended fields c)) (missing (codes ":scheme") fields h))

pub no_path : (fields : List Field) → (IsConnect fields → ⊥) → Lacks (codes ":path") fields → IsRefused fields
no_path fields c h extended = head_refused extended fields MissingPath (and_from _ _ (ap not (no_plain fields c)) (missing (codes ":path") fields h))

pub no_path_extended : (fields : List Field) → has_field (codes ":protocol") fields ≡ true → Lacks (codes ":path") fields → IsRefused fields
no_path_extended fields c h extended = head_refused extended fields MissingPath (and_from _ _ (ap not (no_plain_extended fields c)) (missing (codes ":path") fields h))

pub scheme : (fields : List Field) (value : List ℕ) → Has (codes ":scheme") value fields → is_scheme value ≡ false → IsRefused fields
scheme fields value e h extended = head_refused extended fields InvalidScheme (or_left (is_and_not is_scheme (scheme_of fields)) _ (fails is_scheme (codes ":scheme") value fields e h))

pub session_scheme : (fields : List Field) (value : List ℕ) → IsForSession fields → Has (codes ":scheme") value fields → str_eq_ignore_ascii_case value (codes "https") ≡ false → IsRefused fields
session_scheme fields value s e h extended =
    head_refused extended fields InvalidScheme (or_right (is_and_not is_scheme (scheme_of fields)) _ (and_from _ _ (session fields s) (ap not (ap (is_and (λ (v : List ℕ). str_eq_ignore_ascii_case v (codes "https"))) e ∙ h))))

bad_path : (fields : List Field) (value : List ℕ) → IsHttp fields → Has (codes ":path") value fields → is_path (is_options fields) value ≡ false → IsRefused fields
bad_path fields value s e h extended = head_refused extended fields InvalidPath (and_from _ _ (http fields s) (fails (is_path (is_options fields)) (codes ":path") value fields e h))

pub no_slash : (fields : List Field) (value : List ℕ) → IsHttp fields → Has (codes ":path") value fields → starts_with 47 value ≡ false → (value ≡ codes "*" → ⊥) → IsRefused fields
no_slash fields value s e h n = bad_path fields value s e (or_from _ _ (and_left _ _ h) (and_right (is_options fields) _ (differ_from value (codes "*") n)))

pub path_byte : (fields : List Field) (value : List ℕ) → IsHttp fields → Has (codes ":path") value fields → list_all is_path_byte value ≡ false → (value ≡ codes "*" → ⊥) → IsRefused fields
path_byte fields value s e h n = bad_path fields value s e (or_from _ _ (and_right (starts_with 47 value) _ h) (and_right (is_options fields) _ (differ_from value (codes "*") n)))

pub asterisk : (fields : List Field) → IsHttp fields → Has (codes ":path") (codes "*") fields → (Has (codes ":method") (codes "OPTIONS") fields → ⊥) → IsRefused fields
asterisk fields s e h =
    bad_path fields (codes "*") s e (ap (λ (b : Bool). is_path b (codes "*")) (has_no (codes ":method") (codes "OPTIONS") fields (field_value (codes ":method") fields) refl h))

pub no_authority : (fields : List Field) → NeedsAuthority fields → Lacks (codes ":authority") fields → Lacks (codes "host") fields → IsRefused fields
no_authority fields n a h extended =
    head_refused extended fields MissingAuthority (and_from _ _ (needs fields n) (or_left (has_no_authority fields || is_and_not is_some_text (authority_of fields)) _ (or_left (has_no_authority fields) _ (and_from _ _ (missing (codes ":authority") fields a) (or_right (is_plain_connect fields) _ (ap not h))))))

pub host_of_tunnel : (fields : List Field) → IsConnect fields → Lacks (codes ":protocol") fields → Lacks (codes ":authority") fields → IsRefused fields
host_of_tunnel fields c p a extended =
    head_refused extended fields MissingAuthority (and_from _ _ (needs fields (inl c)) (or_left (has_no_authority fields || is_and_not is_some_text (authority_of fields)) _ (or_left (has_no_authority fields) _ (and_from _ _ (missing (codes ":authority") fields a) (or_left (is_plain_connect fields) _ (plain fields c p))))))

-- which port must be there does not matter to a text that is no authority at all
no_authority_at_all : (must : Bool) (text : List ℕ) → (IsAuthority must text → ⊥) → is_authority must text ≡ false
no_authority_at_all must text h = false_from_ne_true (is_authority must text) (λ e. h (authority_found must text e))

invalid : (fields : List Field) → NeedsAuthority fields → has_bad_authority fields ≡ true → IsRefused fields
invalid fields n h extended = head_refused extended fields InvalidAuthority (and_from _ _ (needs fields n) h)

-- one of four tests succeeds
first_of : (a b c d : Bool) → a ≡ true → (a || b || c || d) ≡ true
first_of a b c d h = or_left (a || b || c) d (or_left (a || b) c (or_left a b h))

second_of : (a b c d : Bool) → b ≡ true → (a || b || c || d) ≡ true
second_of a b c d h = or_left (a || b || c) d (or_left (a || b) c (or_right a b h))

third_of : (a b c d : Bool) → c ≡ true → (a || b || c || d) ≡ true
third_of a b c d h = or_left (a || b || c) d (or_right (a || b) c h)

last_of : (a b c d : Bool) → d ≡ true → (a || b || c || d) ≡ true
last_of a b c d h = or_right (a || b || c) d h

looser : (must : Bool) (port : Option (List ℕ)) → ValidPort must port → ValidPort false port
looser must None h = refl
looser must (Some digits) h = (h.0, refl)

loosened : (must : Bool) (text : List ℕ) → IsAuthority must text → IsAuthority false text
loosened must text h = record { authority = h.authority; host = h.host; port = looser must h.authority.port h.port; bytes = h.bytes }

wrong_value : (name value : List ℕ) (fields : List Field) → Has name value fields → (IsAuthority false value → ⊥) → is_and_not (is_authority (is_plain_connect fields)) (field_value name fields) ≡ true
wrong_value name value fields e h =
    fails (is_authority (is_plain_connect fields)) name value fields e (no_authority_at_all (is_plain_connect fields) value (λ is. h (loosened (is_plain_connect fields) value is)))

pub authority : (fields : List Field) (value : List ℕ) → NeedsAuthority fields → Has (codes ":authority") value fields → (IsAuthority false value → ⊥) → IsRefused fields
authority fields value n e h =
    invalid fields n (second_of (nat_lt 1 (length (values_of (codes "host") fields))) (is_and_not (is_authority (is_plain_connect fields)) (authority_of fields)) (is_and_not (is_authority (is_plain_connect fields)) (host_of fields)) (differ (authority_of fields) (host_of fields)) (wrong_value (codes ":authority") value fields e h))

pub host : (fields : List Field) (value : List ℕ) → NeedsAuthority fields → Has (codes "host") value fields → (IsAuthority false value → ⊥) → IsRefused fields
host fields value n e h =
    invalid fields n (third_of (nat_lt 1 (length (values_of (codes "host") fields))) (is_and_not (is_authority (is_plain_connect fields)) (authority_of fields)) (is_and_not (is_authority (is_plain_connect fields)) (host_of fields)) (differ (authority_of fields) (host_of fields)) (wrong_value (codes "host") value fields e h))

pub no_port : (fields : List Field) (value : List ℕ) → IsConnect fields → Lacks (codes ":protocol") fields → Has (codes ":authority") value fields → (IsAuthority true value → ⊥) → IsRefused fields
no_port fields value c p e h =
    let is : is_and_not (is_authority (is_plain_connect fields)) (authority_of fields) ≡ true = ap (λ (b : Bool). is_and_not (is_authority b) (authority_of fields)) (plain fields c p) ∙ fails (is_authority true) (codes ":authority") value fields e (no_authority_at_all true value h) in
    invalid fields (inl c) (second_of (nat_lt 1 (length (values_of (codes "host") fields))) (is_and_not (is_authority (is_plain_connect fields)) (authority_of fields)) (is_and_not (is_authority (is_plain_connect fields)) (host_of fields)) (differ (authority_of fields) (host_of fields)) is)

pub two_hosts : (before between after : List Field) (v w : List ℕ) → NeedsAuthority (before ++ (codes "host", v) ∷ (between ++ (codes "host", w) ∷ after)) → IsRefused (before ++ (codes "host", v) ∷ (between ++ (codes "host", w) ∷ after))
two_hosts before between after v w n =
    let fields = before ++ (codes "host", v) ∷ (between ++ (codes "host", w) ∷ after) in
    invalid fields n (first_of (nat_lt 1 (length (values_of (codes "host") fields))) (is_and_not (is_authority (is_plain_connect fields)) (authority_of fields)) (is_and_not (is_authority (is_plain_connect fields)) (host_of fields)) (differ (authority_of fields) (host_of fields)) (twice (codes "host") before between after v w))

pub another_host : (fields : List Field) (v w : List ℕ) → NeedsAuthority fields → Has (codes ":authority") v fields → Has (codes "host") w fields → str_eq_ignore_ascii_case v w ≡ false → IsRefused fields
another_host fields v w n a h e =
    let is : differ (authority_of fields) (host_of fields) ≡ true = ap (λ (o : Option (List ℕ)). differ o (host_of fields)) a ∙ ap (differ (Some v)) h ∙ ap not e in
    invalid fields n (last_of (nat_lt 1 (length (values_of (codes "host") fields))) (is_and_not (is_authority (is_plain_connect fields)) (authority_of fields)) (is_and_not (is_authority (is_plain_connect fields)) (host_of fields)) (differ (authority_of fields) (host_of fields)) is)

pub tunnel_scheme : (fields : List Field) → IsConnect fields → Lacks (codes ":protocol") fields → has_field (codes ":scheme") fields ≡ true → IsRefused fields
tunnel_scheme fields c p h extended = head_refused extended fields ConnectWithTarget (and_from _ _ (plain fields c p) (or_left (is_some (scheme_of fields)) _ (found_name (codes ":scheme") fields ∙ h)))

pub tunnel_path : (fields : List Field) → IsConnect fields → Lacks (codes ":protocol") fields → has_field (codes ":path") fields ≡ true → IsRefused fields
tunnel_path fields c p h extended = head_refused extended fields ConnectWithTarget (and_from _ _ (plain fields c p) (or_right (is_some (scheme_of fields)) _ (found_name (codes ":path") fields ∙ h)))

pub protocol_without_connect : (fields : List Field) → has_field (codes ":protocol") fields ≡ true → (IsConnect fields → ⊥) → IsRefused fields
protocol_without_connect fields h c extended = head_refused extended fields UnexpectedProtocol (and_from _ _ (with_protocol fields h) (ap not (and_right extended _ (not_connect fields c))))

pub protocol_not_allowed : (fields : List Field) → has_field (codes ":protocol") fields ≡ true → IsWellFormed false fields → ⊥
protocol_not_allowed fields h = head_refused false fields UnexpectedProtocol (and_from _ _ (with_protocol fields h) refl)

pub protocol : (fields : List Field) (value : List ℕ) → Has (codes ":protocol") value fields → is_whole_token value ≡ false → IsRefused fields
protocol fields value e h extended = head_refused extended fields InvalidProtocol (fails is_whole_token (codes ":protocol") value fields e h)

pub session_length : (fields : List Field) → IsForSession fields → has_field (codes "content-length") fields ≡ true → IsRefused fields
session_length fields s h extended = head_refused extended fields ContentField (and_from _ _ (session fields s) (or_left (has_field (codes "content-length") fields) _ h))

pub session_type : (fields : List Field) → IsForSession fields → has_field (codes "content-type") fields ≡ true → IsRefused fields
session_type fields s h extended = head_refused extended fields ContentField (and_from _ _ (session fields s) (or_right (has_field (codes "content-length") fields) _ h))

-- ---- responses

section_of_response : (kind : Asked) (fields : List Field) → IsWellFormedResponse kind fields → IsSection (section_kind kind fields) fields
unfolding response_breaks
section_of_response kind fields h rule = (or_parts _ _ (h rule)).0

either : (b : Bool) (fields : List Field) → IsSection (kind_if b) fields → IsSection section.Response fields ⊎ IsSection section.Tunnel fields
either true fields h = inr h
either false fields h = inl h

pub response_section : (kind : Asked) (fields : List Field) → IsWellFormedResponse kind fields → IsSection section.Response fields ⊎ IsSection section.Tunnel fields
response_section kind fields h = either (opens_tunnel kind fields) fields (section_of_response kind fields h)

response_refused : (kind : Asked) (fields : List Field) (rule : Malformed) → status_breaks kind fields rule ≡ true → IsRefusedResponse kind fields
response_refused kind fields rule h is = both _ (by_status kind fields rule h) (is rule)

pub no_status : (kind : Asked) (fields : List Field) → Lacks (codes ":status") fields → IsRefusedResponse kind fields
no_status kind fields h = response_refused kind fields MissingStatus (missing (codes ":status") fields h)

pub no_digits : (kind : Asked) (fields : List Field) (text : List ℕ) → Has (codes ":status") text fields → three_digits text ≡ None → IsRefusedResponse kind fields
no_digits kind fields text e h = response_refused kind fields InvalidStatus (fails is_status_text (codes ":status") text fields e (ap is_status h))

pub low_status : (kind : Asked) (fields : List Field) (text : List ℕ) (code : ℕ) → Has (codes ":status") text fields → three_digits text ≡ Some code → code < 100 → IsRefusedResponse kind fields
low_status kind fields text code e h low = response_refused kind fields InvalidStatus (fails is_status_text (codes ":status") text fields e (ap is_status h ∙ and_left _ _ (le-ltb 99 code (omega (arith, low)))))

pub switching : (kind : Asked) (fields : List Field) → Has (codes ":status") (codes "101") fields → IsRefusedResponse kind fields
switching kind fields e = response_refused kind fields InvalidStatus (fails is_status_text (codes ":status") (codes "101") fields e refl)

session_status : (fields : List Field) (text : List ℕ) (code : ℕ) → Has (codes ":status") text fields → three_digits text ≡ Some code → is_success (Some code) ≡ true → is_unexpected (Some code) ≡ true → IsRefusedResponse asked.Session fields
session_status fields text code e h s u =
    let is : status_of fields ≡ Some code = ap status_in e ∙ h in
    response_refused asked.Session fields UnexpectedStatus (and_from (is_success (status_of fields)) _ (ap is_success is ∙ s) (ap is_unexpected is ∙ u))

pub session_204 : (fields : List Field) → Has (codes ":status") (codes "204") fields → IsRefusedResponse asked.Session fields
session_204 fields e = session_status fields (codes "204") 204 e refl refl refl

pub session_205 : (fields : List Field) → Has (codes ":status") (codes "205") fields → IsRefusedResponse asked.Session fields
session_205 fields e = session_status fields (codes "205") 205 e refl refl refl

pub session_206 : (fields : List Field) → Has (codes ":status") (codes "206") fields → IsRefusedResponse asked.Session fields
session_206 fields e = session_status fields (codes "206") 206 e refl refl refl

accepted : (fields : List Field) (text : List ℕ) (code : ℕ) → Has (codes ":status") text fields → three_digits text ≡ Some code → 200 ≤ code → code < 300 → is_success (status_of fields) ≡ true
accepted fields text code e h low high = ap is_success (ap status_in e ∙ h) ∙ and_from _ _ (lt-ltb 199 code (omega (arith, low))) (lt-ltb code 300 high)

pub accepted_length : (fields : List Field) (text : List ℕ) (code : ℕ) → Has (codes ":status") text fields → three_digits text ≡ Some code → 200 ≤ code → code < 300 → has_field (codes "content-length") fields ≡ true → IsRefusedResponse asked.Session fields
accepted_length fields text code e h low high f = response_refused asked.Session fields ContentField (and_from (is_success (status_of fields)) _ (accepted fields text code e h low high) (or_left (has_field (codes "content-length") fields) _ f))

pub accepted_type : (fields : List Field) (text : List ℕ) (code : ℕ) → Has (codes ":status") text fields → three_digits text ≡ Some code → 200 ≤ code → code < 300 → has_field (codes "content-type") fields ≡ true → IsRefusedResponse asked.Session fields
accepted_type fields text code e h low high f = response_refused asked.Session fields ContentField (and_from (is_success (status_of fields)) _ (accepted fields text code e h low high) (or_right (has_field (codes "content-length") fields) _ f))
