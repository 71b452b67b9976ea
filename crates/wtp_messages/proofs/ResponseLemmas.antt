-- Responses whose rules were checked one by one.
use Rattle.std.proofs.Common.{◌≡◌, ℕ, Bool, true, false, ◌||◌, if◌then◌else◌, List, Option, Some, None, refl, ap, ◌∙◌, is_some, Result, Ok, Err, MatchResult}
use Rattle.std.specs.Result.{IsErrAnd}
use Rattle.wtp_qpack.specs.Field.{Field}
use Rattle.wtp_messages.specs.declared.response.Asked.{Asked}
use Rattle.wtp_messages.specs.declared.response.Asked.TheVariants as asked
use Rattle.wtp_messages.specs.declared.response.Response.{Response}
use Rattle.wtp_messages.specs.declared.malformed.Malformed.{Malformed}
use Rattle.wtp_messages.specs.declared.malformed.Malformed.TheVariants.{InvalidName, InvalidValue, ConnectionField, InvalidTe, UnknownPseudoHeader, LatePseudoHeader, RepeatedPseudoHeader, InvalidContentLength, MissingMethod, InvalidMethod, MissingScheme, InvalidScheme, MissingPath, InvalidPath, MissingAuthority, InvalidAuthority, ConnectWithTarget, UnexpectedProtocol, InvalidProtocol, ContentField, MissingStatus, InvalidStatus, UnexpectedStatus, ContentTooLong, ContentTooShort, MissingHead}
use Rattle.wtp_messages.specs.Names.{is_and_not}
use Rattle.wtp_messages.specs.Length.{content_length}
use Rattle.wtp_messages.specs.Section.{section_breaks, announced, IsSection}
use Rattle.wtp_messages.specs.Response.{status_text, is_status_text, status_breaks, response_breaks, status_of, is_success, has_no_content, kind_if, section_kind, expected, HasNoContent, IsResponse}

-- the rules of responses, one by one
pub status_by_rows : (kind : Asked) (fields : List Field) → is_some (status_text fields) ≡ true → is_and_not is_status_text (status_text fields) ≡ false
    → HasNoContent kind fields → (rule : Malformed) → status_breaks kind fields rule ≡ false
status_by_rows kind fields some valid session InvalidName = refl
status_by_rows kind fields some valid session InvalidValue = refl
status_by_rows kind fields some valid session ConnectionField = refl
status_by_rows kind fields some valid session InvalidTe = refl
status_by_rows kind fields some valid session UnknownPseudoHeader = refl
status_by_rows kind fields some valid session LatePseudoHeader = refl
status_by_rows kind fields some valid session RepeatedPseudoHeader = refl
status_by_rows kind fields some valid session InvalidContentLength = refl
status_by_rows kind fields some valid session MissingMethod = refl
status_by_rows kind fields some valid session InvalidMethod = refl
status_by_rows kind fields some valid session MissingScheme = refl
status_by_rows kind fields some valid session InvalidScheme = refl
status_by_rows kind fields some valid session MissingPath = refl
status_by_rows kind fields some valid session InvalidPath = refl
status_by_rows kind fields some valid session MissingAuthority = refl
status_by_rows kind fields some valid session InvalidAuthority = refl
status_by_rows kind fields some valid session ConnectWithTarget = refl
status_by_rows kind fields some valid session UnexpectedProtocol = refl
status_by_rows kind fields some valid session InvalidProtocol = refl
status_by_rows kind fields some valid session ContentField = session.none
status_by_rows kind fields some valid session MissingStatus = rw some refl
status_by_rows kind fields some valid session InvalidStatus = valid
status_by_rows kind fields some valid session UnexpectedStatus = session.status
status_by_rows kind fields some valid session MissingHead = refl
status_by_rows kind fields some valid session ContentTooLong = refl
status_by_rows kind fields some valid session ContentTooShort = refl

-- no rule is broken
pub well_formed : (kind : Asked) (fields : List Field) → IsSection (section_kind kind fields) fields → ((rule : Malformed) → status_breaks kind fields rule ≡ false) → (rule : Malformed) → response_breaks kind fields rule ≡ false
unfolding response_breaks
well_formed kind fields whole rows rule = rw (whole rule, rows rule) refl

or_true : (b c : Bool) → c ≡ true → (b || c) ≡ true
or_true true c e = refl
or_true false c e = e

-- a rule of every section is broken
pub by_section : (kind : Asked) (fields : List Field) (rule : Malformed) → section_breaks (section_kind kind fields) fields rule ≡ true → response_breaks kind fields rule ≡ true
unfolding response_breaks
by_section kind fields rule e = rw e refl

-- a rule of responses is broken
pub by_status : (kind : Asked) (fields : List Field) (rule : Malformed) → status_breaks kind fields rule ≡ true → response_breaks kind fields rule ≡ true
unfolding response_breaks
by_status kind fields rule e = or_true (section_breaks (section_kind kind fields) fields rule) (status_breaks kind fields rule) e

-- the error of a response
pub response_error : (kind : Asked) (fields : List Field) (rule : Malformed) (result : Result Response Malformed) → IsErrAnd result (λ e. e ≡ rule) → response_breaks kind fields rule ≡ true
    → MatchResult result (IsResponse kind fields) (λ rule. response_breaks kind fields rule ≡ true)
response_error kind fields rule (Ok x) is e = absurd is
response_error kind fields rule (Err x) is e = rw is e

-- ---- content

-- with success or without it
tunnel_length : (none success : Bool) (fields : List Field)
    → (if success then None else if none then Some 0 else announced (kind_if success) fields)
    ≡ (if success then None else if none then Some 0 else content_length fields)
tunnel_length none true fields = refl
tunnel_length true false fields = refl
tunnel_length false false fields = refl

-- the length that its section announces is that of a content-length, as far as it matters
pub as_announced : (kind : Asked) (fields : List Field) (status : ℕ)
    → status_of fields ≡ Some status
    → expected kind status (announced (section_kind kind fields) fields)
    ≡ expected kind status (content_length fields)
as_announced asked.Head fields status e = refl
as_announced asked.Connect fields status e =
    ap (λ (s : Option ℕ). expected asked.Connect status (announced (kind_if (is_success s)) fields)) e
    ∙ tunnel_length (has_no_content status) (is_success (Some status)) fields
as_announced asked.Session fields status e = refl
as_announced asked.Other fields status e = refl
