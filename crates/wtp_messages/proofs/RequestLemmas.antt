-- Requests whose rules were checked one by one.
use Rattle.std.proofs.Common.{◌≡◌, Bool, true, false, ◌||◌, List, refl, Result, Ok, Err, MatchResult}
use Rattle.std.specs.Result.{IsErrAnd}
use Rattle.wtp_qpack.specs.Field.{Field}
use Rattle.wtp_messages.specs.declared.section.SectionKind.TheVariants as section
use Rattle.wtp_messages.specs.declared.request.Request.{Request}
use Rattle.wtp_messages.specs.declared.malformed.Malformed.{Malformed}
use Rattle.wtp_messages.specs.declared.malformed.Malformed.TheVariants.{InvalidName, InvalidValue, ConnectionField, InvalidTe, UnknownPseudoHeader, LatePseudoHeader, RepeatedPseudoHeader, InvalidContentLength, MissingMethod, InvalidMethod, MissingScheme, InvalidScheme, MissingPath, InvalidPath, MissingAuthority, InvalidAuthority, ConnectWithTarget, UnexpectedProtocol, InvalidProtocol, ContentField, MissingStatus, InvalidStatus, UnexpectedStatus, ContentTooLong, ContentTooShort, MissingHead}
use Rattle.wtp_messages.specs.Section.{section_breaks, IsSection}
use Rattle.wtp_messages.specs.Request.{head_breaks, request_breaks, HasMethod, HasTarget, HasAuthority, HasNoContentField, IsWellFormed, IsRequest}

-- the rules of requests, one by one
pub head_by_rows : (extended : Bool) (fields : List Field) → HasMethod extended fields → HasTarget extended fields → HasAuthority extended fields → HasNoContentField extended fields
    → (rule : Malformed) → head_breaks extended fields rule ≡ false
head_by_rows extended fields method target authority session InvalidName = refl
head_by_rows extended fields method target authority session InvalidValue = refl
head_by_rows extended fields method target authority session ConnectionField = refl
head_by_rows extended fields method target authority session InvalidTe = refl
head_by_rows extended fields method target authority session UnknownPseudoHeader = refl
head_by_rows extended fields method target authority session LatePseudoHeader = refl
head_by_rows extended fields method target authority session RepeatedPseudoHeader = refl
head_by_rows extended fields method target authority session InvalidContentLength = refl
head_by_rows extended fields method target authority session MissingMethod = method.some
head_by_rows extended fields method target authority session InvalidMethod = method.valid
head_by_rows extended fields method target authority session MissingScheme = target.scheme
head_by_rows extended fields method target authority session InvalidScheme = rw (target.is_scheme, session.https) refl
head_by_rows extended fields method target authority session MissingPath = target.path
head_by_rows extended fields method target authority session InvalidPath = target.is_path
head_by_rows extended fields method target authority session MissingAuthority = authority.some
head_by_rows extended fields method target authority session InvalidAuthority = authority.valid
head_by_rows extended fields method target authority session ConnectWithTarget = target.connect
head_by_rows extended fields method target authority session UnexpectedProtocol = method.expected
head_by_rows extended fields method target authority session InvalidProtocol = method.protocol
head_by_rows extended fields method target authority session ContentField = session.none
head_by_rows extended fields method target authority session MissingStatus = refl
head_by_rows extended fields method target authority session InvalidStatus = refl
head_by_rows extended fields method target authority session UnexpectedStatus = refl
head_by_rows extended fields method target authority session MissingHead = refl
head_by_rows extended fields method target authority session ContentTooLong = refl
head_by_rows extended fields method target authority session ContentTooShort = refl

-- no rule is broken
pub well_formed : (extended : Bool) (fields : List Field) → IsSection section.Request fields → HasMethod extended fields → HasTarget extended fields → HasAuthority extended fields → HasNoContentField extended fields
    → IsWellFormed extended fields
unfolding request_breaks
well_formed extended fields whole method target authority session rule = rw (whole rule, head_by_rows extended fields method target authority session rule) refl

or_true : (b c : Bool) → c ≡ true → (b || c) ≡ true
or_true true c e = refl
or_true false c e = e

-- a rule of every section is broken
pub by_section : (extended : Bool) (fields : List Field) (rule : Malformed) → section_breaks section.Request fields rule ≡ true → request_breaks extended fields rule ≡ true
unfolding request_breaks
by_section extended fields rule e = rw e refl

-- a rule of requests is broken
pub by_head : (extended : Bool) (fields : List Field) (rule : Malformed) → head_breaks extended fields rule ≡ true → request_breaks extended fields rule ≡ true
unfolding request_breaks
by_head extended fields rule e = or_true (section_breaks section.Request fields rule) (head_breaks extended fields rule) e

-- the error of a request
pub request_error : (extended : Bool) (fields : List Field) (rule : Malformed) (result : Result Request Malformed) → IsErrAnd result (λ e. e ≡ rule) → request_breaks extended fields rule ≡ true
    → MatchResult result (IsRequest extended fields) (λ rule. request_breaks extended fields rule ≡ true)
request_error extended fields rule (Ok x) is e = absurd is
request_error extended fields rule (Err x) is e = rw is e
