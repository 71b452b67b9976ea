-- Messages of plain fields break no rule.
use Rattle.std.proofs.Common.{◌≡◌, ◌==◌, ℕ, ◌<◌, ◌≤◌, nat_lt, Bool, true, false, not, ◌&&◌, ◌||◌, if◌then◌else◌, List, [], ◌∷◌, Option, Some, None, is_some, Ok, Err, refl, sym, ap, ◌∙◌, arith, lt-ltb, ne_eqb, le-ltb, codes, bytes_eq}
use Rattle.std.proofs.lemmas.Bool.{and_from, and_parts, and_left, and_right, or_from, or_left, false≢true, false_from_ne_true}
use Rattle.std.proofs.lemmas.Slice.Eq.{bytes_eq-Decides}
use Rattle.std.proofs.Common.{◌++◌}
use Rattle.std.specs.List.{list_all}
use Rattle.wtp_qpack.specs.Field.{Field}
use Rattle.wtp_fields.specs.FieldWriting.{is_tchar, is_field_value}
use Rattle.wtp_fields.specs.FieldMessages.{three_digits}
use Rattle.wtp_messages.specs.declared.section.SectionKind.TheVariants as section
use Rattle.wtp_messages.specs.declared.malformed.Malformed.{Malformed}
use Rattle.wtp_messages.specs.declared.request.Request.{Request}
use Rattle.wtp_messages.specs.declared.response.Asked.{Asked}
use Rattle.wtp_messages.specs.declared.response.Asked.TheVariants as asked
use Rattle.wtp_messages.specs.declared.response.Response.{Response}
use Rattle.wtp_messages.specs.Names.{starts_with, is_some_text, is_whole_token, is_and, is_and_not}
use Rattle.wtp_messages.specs.Authority.{IsAuthority, is_authority}
use Rattle.wtp_messages.specs.Length.{content_length}
use Rattle.wtp_messages.specs.Content.{content_of}
use Rattle.wtp_messages.specs.Section.{line_breaks, IsSection}
use Rattle.wtp_messages.specs.Request.{is_path_byte, is_path, is_options, is_http, is_plain_connect, asks_for_session, is_scheme, differ, IsWellFormed, IsRequest}
use Rattle.wtp_messages.specs.Response.{is_status, is_unexpected, kind_if, opens_tunnel, expected, HasNoContent, IsResponse, response_breaks, is_success, has_no_content}
use Rattle.wtp_messages.specs.Plain.{is_plain, IsNumber, request_list, session_list, tunnel_list, response_list, IsTarget, IsMethod, Says, ReadsRequest, IsStatus, IsAnswer, SaysStatus, ReadsResponse, browser_fields, session_fields}
use Rattle.wtp_messages.proofs.AuthorityLemmas.{other, is_visible, authority_visible, authority_passes, digits_visible, authority_found}
use Rattle.wtp_messages.proofs.RequestLemmas.{well_formed}
use Rattle.wtp_messages.proofs.ResponseLemmas.{status_by_rows, well_formed as response_well_formed}
use Rattle.wtp_messages.proofs.FieldLemmas.{Rest, absent, all_pass, counted_rest, never, nothing, once_with, path_visible, plain_first, plain_lines, plain_rest, pseudo_line, section_holds, tchar_visible, visible_value}

-- ---- requests

method_line : (rule : Malformed) (method : List ℕ) → list_all is_tchar method ≡ true → line_breaks section.Request rule (codes ":method", method) ≡ false
method_line rule method h = pseudo_line section.Request rule (codes ":method") method refl refl refl refl (visible_value method (all_pass is_tchar is_visible tchar_visible method h))

scheme_line : (rule : Malformed) → line_breaks section.Request rule (codes ":scheme", codes "https") ≡ false
scheme_line rule = pseudo_line section.Request rule (codes ":scheme") (codes "https") refl refl refl refl refl

authority_line : (rule : Malformed) (must : Bool) (authority : List ℕ) → IsAuthority must authority → line_breaks section.Request rule (codes ":authority", authority) ≡ false
authority_line rule must authority h = pseudo_line section.Request rule (codes ":authority") authority refl refl refl refl (visible_value authority (authority_visible must authority h))

path_line : (rule : Malformed) (path : List ℕ) → list_all is_path_byte path ≡ true → line_breaks section.Request rule (codes ":path", path) ≡ false
path_line rule path h = pseudo_line section.Request rule (codes ":path") path refl refl refl refl (visible_value path (all_pass is_path_byte is_visible path_visible path h))

protocol_line : (rule : Malformed) → line_breaks section.Request rule (codes ":protocol", codes "webtransport") ≡ false
protocol_line rule = pseudo_line section.Request rule (codes ":protocol") (codes "webtransport") refl refl refl refl refl

some_authority : (must : Bool) (text : List ℕ) → is_authority must text ≡ true → is_some_text text ≡ true
some_authority must [] h = absurd (false≢true h)
some_authority must (b ∷ text) h = refl

reads : (extended : Bool) (fields : List Field) (says : Request → Type 0) → IsWellFormed extended fields → ((q : Request) → IsRequest extended fields q → says q) → ReadsRequest extended fields says
reads extended fields says whole tells (Ok q) is = tells q is
reads extended fields says whole tells (Err rule) is = absurd (false≢true (sym (whole rule) ∙ is))

same_text : (a b : List ℕ) → ◌≡◌ {A = Option (List ℕ)} (Some a) (Some b) → b ≡ a
same_text a b h = cc

request_section : (counted : Bool) (method authority path : List ℕ) (others : List Field) (o : Option ℕ) → IsMethod method → IsTarget authority path → Rest counted others o → IsSection section.Request (request_list method authority path others)
request_section counted method authority path others o m t x =
    let token = and_parts (is_some_text method) _ m.token in
    let h = x.free in
    section_holds section.Request (request_list method authority path others)
    (λ rule. or_from _ _ (method_line rule method token.1) (or_from _ _ (scheme_line rule) (or_from _ _ (authority_line rule false authority t.host) (or_from _ _ (path_line rule path t.bytes) (plain_lines counted section.Request rule others h)))))
    (plain_first counted others h)
    (or_from _ _ (once_with counted (codes ":method") method others refl h) (or_from _ _ (once_with counted (codes ":scheme") (codes "https") others refl h) (or_from _ _ (once_with counted (codes ":authority") authority others refl h) (or_from _ _ (once_with counted (codes ":path") path others refl h) (or_from _ _ (never counted (codes ":protocol") others refl h) refl)))))
    x.agree

request_well_formed : (extended counted : Bool) (method authority path : List ℕ) (others : List Field) (o : Option ℕ) → IsMethod method → IsTarget authority path → Rest counted others o → IsWellFormed extended (request_list method authority path others)
request_well_formed extended counted method authority path others o m t x =
    let fields = request_list method authority path others in
    let h = x.free in
    let protocol = nothing counted (codes ":protocol") others refl h in
    let host = nothing counted (codes "host") others refl h in
    let connect : bytes_eq method (codes "CONNECT") ≡ false = false_from_ne_true _ (λ e. m.other ((bytes_eq-Decides method (codes "CONNECT")).0 e)) in
    let plain : is_plain_connect fields ≡ false = and_left _ _ connect in
    let asks : asks_for_session fields ≡ false = ap (is_and (λ (v : List ℕ). bytes_eq v (codes "webtransport"))) protocol in
    let passes : is_authority false authority ≡ true = authority_passes false authority t.host in
    well_formed extended fields (request_section counted method authority path others o m t x)
    (record {
      some = refl;
      valid = ap not m.token;
      expected = and_left _ _ (ap is_some protocol);
      protocol = ap (is_and_not is_whole_token) protocol;
    })
    (record {
      scheme = and_right _ _ refl;
      is_scheme = refl;
      path = and_right _ _ refl;
      is_path = and_right (is_http fields) _ (ap not (or_left (starts_with 47 path && list_all is_path_byte path) (is_options fields && bytes_eq path (codes "*")) (and_from _ _ t.slash t.bytes)));
      connect = and_left _ _ plain;
    })
    (record {
      some = and_right _ _ (or_from _ _ (or_from _ _ refl (ap not (some_authority false authority passes))) (ap (is_and_not is_some_text) host));
      valid = and_right _ _ (or_from _ _ (or_from _ _ (or_from _ _ (never counted (codes "host") others refl h) (ap (λ (b : Bool). not (is_authority b authority)) plain ∙ ap not passes)) (ap (is_and_not (is_authority (is_plain_connect fields))) host)) (ap (differ (Some authority)) host));
    })
    (record { https = and_left _ _ asks; none = and_left _ _ asks })

request_said : (extended counted : Bool) (method authority path : List ℕ) (others : List Field) (o : Option ℕ) → IsMethod method → IsTarget authority path → Rest counted others o
    → ReadsRequest extended (request_list method authority path others) (Says method (Some (codes "https")) authority (Some path) None o)
request_said extended counted method authority path others o m t x =
    let h = x.free in
    reads extended (request_list method authority path others) (Says method (Some (codes "https")) authority (Some path) None o) (request_well_formed extended counted method authority path others o m t x)
    (λ q is. record {
      method = same_text method q.method.now is.method;
      scheme = sym is.scheme;
      authority = sym is.authority;
      path = sym is.path;
      protocol = sym is.protocol ∙ nothing counted (codes ":protocol") others refl h;
      content = sym is.content ∙ ap content_of x.length;
    })

session_section : (authority path : List ℕ) (others : List Field) → IsTarget authority path → Rest false others None → IsSection section.Request (session_list authority path others)
session_section authority path others t x =
    let h = x.free in
    section_holds section.Request (session_list authority path others)
    (λ rule. or_from _ _ (method_line rule (codes "CONNECT") refl) (or_from _ _ (scheme_line rule) (or_from _ _ (protocol_line rule) (or_from _ _ (authority_line rule false authority t.host) (or_from _ _ (path_line rule path t.bytes) (plain_lines false section.Request rule others h))))))
    (plain_first false others h)
    (or_from _ _ (once_with false (codes ":method") (codes "CONNECT") others refl h) (or_from _ _ (once_with false (codes ":scheme") (codes "https") others refl h) (or_from _ _ (once_with false (codes ":authority") authority others refl h) (or_from _ _ (once_with false (codes ":path") path others refl h) (or_from _ _ (once_with false (codes ":protocol") (codes "webtransport") others refl h) refl)))))
    x.agree

session_well_formed : (authority path : List ℕ) (others : List Field) → IsTarget authority path → Rest false others None → IsWellFormed true (session_list authority path others)
session_well_formed authority path others t x =
    let fields = session_list authority path others in
    let h = x.free in
    let host = nothing false (codes "host") others refl h in
    let passes : is_authority false authority ≡ true = authority_passes false authority t.host in
    well_formed true fields (session_section authority path others t x)
    (record { some = refl; valid = refl; expected = refl; protocol = refl })
    (record {
      scheme = refl;
      is_scheme = refl;
      path = refl;
      is_path = and_right (is_http fields) _ (ap not (or_left (starts_with 47 path && list_all is_path_byte path) (is_options fields && bytes_eq path (codes "*")) (and_from _ _ t.slash t.bytes)));
      connect = refl;
    })
    (record {
      some = or_from _ _ (or_from _ _ refl (ap not (some_authority false authority passes))) (ap (is_and_not is_some_text) host);
      valid = or_from _ _ (or_from _ _ (or_from _ _ (never false (codes "host") others refl h) (ap not passes)) (ap (is_and_not (is_authority false)) host)) (ap (differ (Some authority)) host);
    })
    (record {
      https = refl;
      none = or_from _ _ (absent false (codes "content-length") others refl h) (absent false (codes "content-type") others refl h);
    })

pub session_read : (authority path : List ℕ) (others : List Field) → IsTarget authority path → list_all is_plain others ≡ true
    → ReadsRequest true (session_list authority path others) (Says (codes "CONNECT") (Some (codes "https")) authority (Some path) (Some (codes "webtransport")) None)
session_read authority path others t h =
    let x = plain_rest others h in
    reads true (session_list authority path others) (Says (codes "CONNECT") (Some (codes "https")) authority (Some path) (Some (codes "webtransport")) None) (session_well_formed authority path others t x)
    (λ q is. record {
      method = same_text (codes "CONNECT") q.method.now is.method;
      scheme = sym is.scheme;
      authority = sym is.authority;
      path = sym is.path;
      protocol = sym is.protocol;
      content = sym is.content ∙ ap content_of x.length;
    })

tunnel_section : (counted : Bool) (authority : List ℕ) (others : List Field) (o : Option ℕ) → IsAuthority true authority → Rest counted others o → IsSection section.Request (tunnel_list authority others)
tunnel_section counted authority others o a x =
    let h = x.free in
    section_holds section.Request (tunnel_list authority others)
    (λ rule. or_from _ _ (method_line rule (codes "CONNECT") refl) (or_from _ _ (authority_line rule true authority a) (plain_lines counted section.Request rule others h)))
    (plain_first counted others h)
    (or_from _ _ (once_with counted (codes ":method") (codes "CONNECT") others refl h) (or_from _ _ (never counted (codes ":scheme") others refl h) (or_from _ _ (once_with counted (codes ":authority") authority others refl h) (or_from _ _ (never counted (codes ":path") others refl h) (or_from _ _ (never counted (codes ":protocol") others refl h) refl)))))
    x.agree

tunnel_well_formed : (extended : Bool) (counted : Bool) (authority : List ℕ) (others : List Field) (o : Option ℕ) → IsAuthority true authority → Rest counted others o → IsWellFormed extended (tunnel_list authority others)
tunnel_well_formed extended counted authority others o a x =
    let h = x.free in
    let fields = tunnel_list authority others in
    let protocol = nothing counted (codes ":protocol") others refl h in
    let scheme = nothing counted (codes ":scheme") others refl h in
    let path = nothing counted (codes ":path") others refl h in
    let host = nothing counted (codes "host") others refl h in
    let plain : is_plain_connect fields ≡ true = ap (λ (o : Option (List ℕ)). not (is_some o)) protocol in
    let asks : asks_for_session fields ≡ false = ap (is_and (λ (v : List ℕ). bytes_eq v (codes "webtransport"))) protocol in
    let passes : is_authority true authority ≡ true = authority_passes true authority a in
    well_formed extended fields (tunnel_section counted authority others o a x)
    (record {
      some = refl;
      valid = refl;
      expected = and_left _ _ (ap is_some protocol);
      protocol = ap (is_and_not is_whole_token) protocol;
    })
    (record {
      scheme = and_left _ _ (ap not plain);
      is_scheme = ap (is_and_not is_scheme) scheme;
      path = and_left _ _ (ap not plain);
      is_path = and_right _ _ (ap (is_and_not (is_path (is_options fields))) path);
      connect = and_right _ _ (or_from _ _ (ap is_some scheme) (ap is_some path));
    })
    (record {
      some = or_from _ _ (or_from _ _ refl (ap not (some_authority true authority passes))) (ap (is_and_not is_some_text) host);
      valid = or_from _ _ (or_from _ _ (or_from _ _ (never counted (codes "host") others refl h) (ap (λ (b : Bool). not (is_authority b authority)) plain ∙ ap not passes)) (ap (is_and_not (is_authority (is_plain_connect fields))) host)) (ap (differ (Some authority)) host);
    })
    (record { https = and_left _ _ asks; none = and_left _ _ asks })

pub tunnel_read : (extended : Bool) (authority : List ℕ) (others : List Field) → IsAuthority true authority → list_all is_plain others ≡ true
    → ReadsRequest extended (tunnel_list authority others) (Says (codes "CONNECT") None authority None None None)
tunnel_read extended authority others a h =
    let x = plain_rest others h in
    reads extended (tunnel_list authority others) (Says (codes "CONNECT") None authority None None None) (tunnel_well_formed extended false authority others None a x)
    (λ q is. record {
      method = same_text (codes "CONNECT") q.method.now is.method;
      scheme = sym is.scheme ∙ nothing false (codes ":scheme") others refl h;
      authority = sym is.authority;
      path = sym is.path ∙ nothing false (codes ":path") others refl h;
      protocol = sym is.protocol ∙ nothing false (codes ":protocol") others refl h;
      content = sym is.content ∙ ap content_of x.length;
    })

-- ---- responses

response_section : (success counted : Bool) (text : List ℕ) (others : List Field) (o : Option ℕ) → is_field_value text ≡ true → Rest counted others o → IsSection (kind_if success) (response_list text others)
response_section true counted text others o v x =
    let h = x.free in
    section_holds section.Tunnel (response_list text others)
    (λ rule. or_from _ _ (pseudo_line section.Tunnel rule (codes ":status") text refl refl refl refl v) (plain_lines counted section.Tunnel rule others h))
    (plain_first counted others h)
    (or_from _ _ (once_with counted (codes ":status") text others refl h) refl)
    x.agree
response_section false counted text others o v x =
    let h = x.free in
    section_holds section.Response (response_list text others)
    (λ rule. or_from _ _ (pseudo_line section.Response rule (codes ":status") text refl refl refl refl v) (plain_lines counted section.Response rule others h))
    (plain_first counted others h)
    (or_from _ _ (once_with counted (codes ":status") text others refl h) refl)
    x.agree

not_any : (code a b c : ℕ) → (code ≡ a → ⊥) × (code ≡ b → ⊥) × (code ≡ c → ⊥) → (code == a || code == b || code == c) ≡ false
not_any code a b c h = or_from _ _ (or_from _ _ (ne_eqb code a h.0) (ne_eqb code b h.1)) (ne_eqb code c h.2)

status_valid : (code : ℕ) → 100 ≤ code → (code ≡ 101 → ⊥) → is_status (Some code) ≡ true
status_valid code low other = and_from _ _ (lt-ltb 99 code (omega (arith, low))) (ap not (ne_eqb code 101 other))

accepts_nothing : (kind : Asked) (text : List ℕ) (code : ℕ) (others : List Field) → three_digits text ≡ Some code → IsAnswer kind code → (kind ≡ asked.Session → list_all is_plain others ≡ true) → HasNoContent kind (response_list text others)
accepts_nothing asked.Head text code others e a h = record { status = refl; none = refl }
accepts_nothing asked.Connect text code others e a h = record { status = refl; none = refl }
accepts_nothing asked.Session text code others e a h = record {
  status = and_right _ _ (ap is_unexpected e ∙ not_any code 204 205 206 a);
  none = and_right _ _ (or_from _ _ (absent false (codes "content-length") others refl (h refl)) (absent false (codes "content-type") others refl (h refl)));
}
accepts_nothing asked.Other text code others e a h = record { status = refl; none = refl }

response_holds : (kind : Asked) (counted : Bool) (text : List ℕ) (code : ℕ) (others : List Field) (o : Option ℕ) → IsStatus text code → IsAnswer kind code → Rest counted others o → (kind ≡ asked.Session → list_all is_plain others ≡ true) → (rule : Malformed) → response_breaks kind (response_list text others) rule ≡ false
response_holds kind counted text code others o s a x h =
    let fields = response_list text others in
    response_well_formed kind fields (response_section (opens_tunnel kind fields) counted text others o (visible_value text (digits_visible text s.digits)) x)
    (status_by_rows kind fields refl (ap not (ap is_status s.is ∙ status_valid code s.low s.other)) (accepts_nothing kind text code others s.is a h))

same_number : (a b : ℕ) → ◌≡◌ {A = Option ℕ} (Some a) (Some b) → b ≡ a
same_number a b h = cc

response_said : (kind : Asked) (counted : Bool) (text : List ℕ) (code : ℕ) (others : List Field) (o : Option ℕ) → IsStatus text code → Rest counted others o → (q : Response) → IsResponse kind (response_list text others) q → SaysStatus kind code o q
response_said kind counted text code others o s x q is =
    let same : q.status ≡ code = same_number code q.status (sym s.is ∙ is.status) in
    record {
      status = same;
      content = sym is.content ∙ ap (λ (n : ℕ). content_of (expected kind n (content_length (response_list text others)))) same
          ∙ ap (λ (o : Option ℕ). content_of (expected kind code o)) x.length;
    }

response_of : (kind : Asked) (counted : Bool) (text : List ℕ) (code : ℕ) (others : List Field) (o : Option ℕ) → IsStatus text code → IsAnswer kind code → Rest counted others o → (kind ≡ asked.Session → list_all is_plain others ≡ true) → ReadsResponse kind (response_list text others) (SaysStatus kind code o)
response_of kind counted text code others o s a x h (Ok q) is = response_said kind counted text code others o s x q is
response_of kind counted text code others o s a x h (Err rule) is = absurd (false≢true (sym (response_holds kind counted text code others o s a x h rule) ∙ is))

pub response_read : (kind : Asked) (text : List ℕ) (code : ℕ) (others : List Field) → IsStatus text code → IsAnswer kind code → list_all is_plain others ≡ true → ReadsResponse kind (response_list text others) (SaysStatus kind code None)
response_read kind text code others s a h = response_of kind false text code others None s a (plain_rest others h) (λ e. h)

-- ---- with a length

pub request_read : (extended : Bool) (method authority path : List ℕ) (others : List Field) → IsMethod method → IsTarget authority path → list_all is_plain others ≡ true
    → ReadsRequest extended (request_list method authority path others) (Says method (Some (codes "https")) authority (Some path) None None)
request_read extended method authority path others m t h = request_said extended false method authority path others None m t (plain_rest others h)

pub request_with_length : (extended : Bool) (method authority path digits : List ℕ) (n : ℕ) (before after : List Field) → IsMethod method → IsTarget authority path → IsNumber digits n → list_all is_plain before ≡ true → list_all is_plain after ≡ true
    → ReadsRequest extended (request_list method authority path (before ++ (codes "content-length", digits) ∷ after)) (Says method (Some (codes "https")) authority (Some path) None (Some n))
request_with_length extended method authority path digits n before after m t h b a =
    request_said extended true method authority path (before ++ (codes "content-length", digits) ∷ after) (Some n) m t (counted_rest before after digits n b a h)

pub response_with_length : (kind : Asked) (text digits : List ℕ) (code n : ℕ) (before after : List Field) → (kind ≡ asked.Session → ⊥) → IsStatus text code → IsNumber digits n → list_all is_plain before ≡ true → list_all is_plain after ≡ true
    → ReadsResponse kind (response_list text (before ++ (codes "content-length", digits) ∷ after)) (SaysStatus kind code (Some n))
response_with_length asked.Session text digits code n before after k s h b a = absurd (k refl)
response_with_length asked.Head text digits code n before after k s h b a = response_of asked.Head true text code (before ++ (codes "content-length", digits) ∷ after) (Some n) s tt (counted_rest before after digits n b a h) (λ e. absurd (k e))
response_with_length asked.Connect text digits code n before after k s h b a = response_of asked.Connect true text code (before ++ (codes "content-length", digits) ∷ after) (Some n) s tt (counted_rest before after digits n b a h) (λ e. absurd (k e))
response_with_length asked.Other text digits code n before after k s h b a = response_of asked.Other true text code (before ++ (codes "content-length", digits) ∷ after) (Some n) s tt (counted_rest before after digits n b a h) (λ e. absurd (k e))

-- ---- worked messages

pub worked_request : ReadsRequest false (request_list (codes "GET") (codes "localhost:4433") (codes "/a?b=%20") browser_fields) (Says (codes "GET") (Some (codes "https")) (codes "localhost:4433") (Some (codes "/a?b=%20")) None None)
worked_request = request_read false (codes "GET") (codes "localhost:4433") (codes "/a?b=%20") browser_fields
    (record { token = refl; other = λ e. cc e })
    (record { host = authority_found false (codes "localhost:4433") refl; slash = refl; bytes = refl })
    refl

pub worked_session : ReadsRequest true (session_list (codes "[::1]:4433") (codes "/chat") session_fields) (Says (codes "CONNECT") (Some (codes "https")) (codes "[::1]:4433") (Some (codes "/chat")) (Some (codes "webtransport")) None)
worked_session = session_read (codes "[::1]:4433") (codes "/chat") session_fields
    (record { host = authority_found false (codes "[::1]:4433") refl; slash = refl; bytes = refl })
    refl

pub worked_tunnel : ReadsRequest false (tunnel_list (codes "example.com:443") browser_fields) (Says (codes "CONNECT") None (codes "example.com:443") None None None)
worked_tunnel = tunnel_read false (codes "example.com:443") browser_fields (authority_found true (codes "example.com:443") refl) refl

pub worked_response : ReadsResponse asked.Other (response_list (codes "200") browser_fields) (SaysStatus asked.Other 200 None)
worked_response = response_read asked.Other (codes "200") 200 browser_fields (record { digits = refl; is = refl; low = omega arith; other = λ e. omega (arith, e) }) tt refl

-- ---- content of responses

expected_tunnel : (b none : Bool) (announced : Option ℕ) → b ≡ true → (if b then None else if none then Some 0 else announced) ≡ None
expected_tunnel b none announced h = rw h refl

success : (code : ℕ) → 200 ≤ code → code < 300 → is_success (Some code) ≡ true
success code low high = and_from _ _ (lt-ltb 199 code (omega (arith, low))) (lt-ltb code 300 high)

pub content_of_tunnel : (code : ℕ) (announced : Option ℕ) → 200 ≤ code → code < 300 → expected asked.Connect code announced ≡ None
content_of_tunnel code announced low high = expected_tunnel (is_success (Some code)) (has_no_content code) announced (success code low high)

pub content_of_session : (code : ℕ) (announced : Option ℕ) → 200 ≤ code → code < 300 → expected asked.Session code announced ≡ None
content_of_session code announced low high = expected_tunnel (is_success (Some code)) (has_no_content code) announced (success code low high)

pub content_of_head : (code : ℕ) (announced : Option ℕ) → expected asked.Head code announced ≡ Some 0
content_of_head code announced = refl

no_content_by : (success none : Bool) (announced : Option ℕ) → success ≡ false → none ≡ true → (if success then None else if none then Some 0 else announced) ≡ Some 0
no_content_by success none announced s n = rw (s, n) refl

interim_by : (kind : Asked) (code : ℕ) (announced : Option ℕ) → is_success (Some code) ≡ false → has_no_content code ≡ true → expected kind code announced ≡ Some 0
interim_by asked.Head code announced s n = refl
interim_by asked.Connect code announced s n = no_content_by (is_success (Some code)) (has_no_content code) announced s n
interim_by asked.Session code announced s n = no_content_by (is_success (Some code)) (has_no_content code) announced s n
interim_by asked.Other code announced s n = rw n refl

pub content_of_interim : (kind : Asked) (code : ℕ) (announced : Option ℕ) → code < 200 → expected kind code announced ≡ Some 0
content_of_interim kind code announced low =
    interim_by kind code announced (and_left _ _ (le-ltb 199 code (omega (arith, low)))) (or_left (nat_lt code 200 || code == 204) _ (or_left (nat_lt code 200) _ (lt-ltb code 200 low)))

pub content_of_204 : (announced : Option ℕ) → expected asked.Other 204 announced ≡ Some 0
content_of_204 announced = refl

pub content_of_304 : (kind : Asked) (announced : Option ℕ) → expected kind 304 announced ≡ Some 0
content_of_304 kind announced = interim_by kind 304 announced refl refl

announced_by : (b : Bool) (announced : Option ℕ) → b ≡ false → (if b then Some 0 else announced) ≡ announced
announced_by b announced h = rw h refl

pub content_announced : (code : ℕ) (announced : Option ℕ) → 200 ≤ code → (code ≡ 204 → ⊥) → (code ≡ 304 → ⊥) → expected asked.Other code announced ≡ announced
content_announced code announced low a b =
    announced_by (has_no_content code) announced (or_from _ _ (or_from _ _ (le-ltb code 200 low) (ne_eqb code 204 a)) (ne_eqb code 304 b))
