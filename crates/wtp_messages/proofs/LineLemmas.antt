-- Lines that are checked one by one.
use Rattle.std.proofs.Common.{◌≡◌, Bool, true, false, List, ◌∷◌, refl, sym, ◌∙◌, ◌&&◌, not, ℕ, Option, None, Result, Ok, Err, MatchResult}
use Rattle.std.specs.Bool.{⊤}
use Rattle.std.specs.List.{list_any}
use Rattle.std.specs.Result.{IsErrAnd}
use Rattle.wtp_qpack.specs.Field.{Field}
use Rattle.wtp_messages.specs.declared.section.SectionKind.{SectionKind}
use Rattle.wtp_messages.specs.declared.section.SectionKind.TheVariants as section
use Rattle.wtp_messages.specs.declared.malformed.Malformed.{Malformed}
use Rattle.wtp_messages.specs.declared.malformed.Malformed.TheVariants.{InvalidName, InvalidValue, ConnectionField, InvalidTe, UnknownPseudoHeader, LatePseudoHeader, RepeatedPseudoHeader, InvalidContentLength, MissingMethod, InvalidMethod, MissingScheme, InvalidScheme, MissingPath, InvalidPath, MissingAuthority, InvalidAuthority, ConnectWithTarget, UnexpectedProtocol, InvalidProtocol, ContentField, MissingStatus, InvalidStatus, UnexpectedStatus, ContentTooLong, ContentTooShort, MissingHead}
use Rattle.wtp_messages.specs.Length.{lengths_of, all_agree, content_length}
use Rattle.wtp_messages.specs.Section.{line_breaks, whole_breaks, announces, announced, are_pseudo_first, is_repeated, pseudo_names, section_breaks, IsSection}

-- a line that does not pass a test is left out
pub without_line : {X : Type 0} (test : X → Bool) (line : X) (lines : List X) (all : Bool) → test line ≡ false → list_any test (line ∷ lines) ≡ all → list_any test lines ≡ all
without_line test line lines all e h = rw e at h

-- one that does makes the test of the list succeed
pub with_line : {X : Type 0} (test : X → Bool) (line : X) (lines : List X) (all : Bool) → test line ≡ true → list_any test (line ∷ lines) ≡ all → all ≡ true
with_line test line lines all e h = sym (rw e at h)

-- the error of a line
pub line_error : (kind : SectionKind) (fields : List Field) (rule : Malformed) (result : Result ⊤ Malformed) → IsErrAnd result (λ e. e ≡ rule) → list_any (line_breaks kind rule) fields ≡ true
    → MatchResult result (λ _. (rule : Malformed) → list_any (line_breaks kind rule) fields ≡ false) (λ rule. list_any (line_breaks kind rule) fields ≡ true)
line_error kind fields rule (Ok x) is e = absurd is
line_error kind fields rule (Err x) is e = rw is e

-- the rules of a whole section, one by one
pub whole_by_rows : (kind : SectionKind) (fields : List Field) → are_pseudo_first fields ≡ true → list_any (is_repeated fields) (pseudo_names kind) ≡ false → (announces kind && not (all_agree (lengths_of fields))) ≡ false
    → (rule : Malformed) → whole_breaks kind fields rule ≡ false
whole_by_rows kind fields first once length InvalidName = refl
whole_by_rows kind fields first once length InvalidValue = refl
whole_by_rows kind fields first once length ConnectionField = refl
whole_by_rows kind fields first once length InvalidTe = refl
whole_by_rows kind fields first once length UnknownPseudoHeader = refl
whole_by_rows kind fields first once length LatePseudoHeader = rw first refl
whole_by_rows kind fields first once length RepeatedPseudoHeader = once
whole_by_rows kind fields first once length InvalidContentLength = length
whole_by_rows kind fields first once length MissingMethod = refl
whole_by_rows kind fields first once length InvalidMethod = refl
whole_by_rows kind fields first once length MissingScheme = refl
whole_by_rows kind fields first once length InvalidScheme = refl
whole_by_rows kind fields first once length MissingPath = refl
whole_by_rows kind fields first once length InvalidPath = refl
whole_by_rows kind fields first once length MissingAuthority = refl
whole_by_rows kind fields first once length InvalidAuthority = refl
whole_by_rows kind fields first once length ConnectWithTarget = refl
whole_by_rows kind fields first once length UnexpectedProtocol = refl
whole_by_rows kind fields first once length InvalidProtocol = refl
whole_by_rows kind fields first once length ContentField = refl
whole_by_rows kind fields first once length MissingStatus = refl
whole_by_rows kind fields first once length InvalidStatus = refl
whole_by_rows kind fields first once length UnexpectedStatus = refl
whole_by_rows kind fields first once length MissingHead = refl
whole_by_rows kind fields first once length ContentTooLong = refl
whole_by_rows kind fields first once length ContentTooShort = refl

-- no rule of a section is broken
pub no_rule : (kind : SectionKind) (fields : List Field) → ((rule : Malformed) → list_any (line_breaks kind rule) fields ≡ false) → ((rule : Malformed) → whole_breaks kind fields rule ≡ false) → IsSection kind fields
unfolding section_breaks
no_rule kind fields lines whole rule = rw (lines rule, whole rule) refl

-- the error of a section
pub section_error : (kind : SectionKind) (fields : List Field) (rule : Malformed) (result : Result (Option ℕ) Malformed) → IsErrAnd result (λ e. e ≡ rule) → list_any (line_breaks kind rule) fields ≡ true
    → MatchResult result (λ length. IsSection kind fields × (length ≡ announced kind fields)) (λ rule. section_breaks kind fields rule ≡ true)
unfolding section_breaks
section_error kind fields rule (Ok x) is e = absurd is
section_error kind fields rule (Err x) is e = rw (is, e) refl

-- the end of a section: its length, or the error of it
announced_is : (kind : SectionKind) (fields : List Field) → announces kind ≡ true → announced kind fields ≡ content_length fields
announced_is section.Request fields e = refl
announced_is section.Response fields e = refl
announced_is section.Tunnel fields e = absurd (cc)
announced_is section.Trailers fields e = absurd (cc)

announced_none : (kind : SectionKind) (fields : List Field) → announces kind ≡ false → None ≡ announced kind fields
announced_none section.Request fields e = absurd (cc)
announced_none section.Response fields e = absurd (cc)
announced_none section.Tunnel fields e = refl
announced_none section.Trailers fields e = refl

-- a section that announces nothing
pub no_length : (kind : SectionKind) (fields : List Field) → ((rule : Malformed) → list_any (line_breaks kind rule) fields ≡ false)
    → are_pseudo_first fields ≡ true → list_any (is_repeated fields) (pseudo_names kind) ≡ false → announces kind ≡ false
    → IsSection kind fields × (None ≡ announced kind fields)
no_length kind fields lines first once e = (no_rule kind fields lines (whole_by_rows kind fields first once (rw e refl)), announced_none kind fields e)

pub length_found : (kind : SectionKind) (fields : List Field) (result : Result (Option ℕ) Malformed) → ((rule : Malformed) → list_any (line_breaks kind rule) fields ≡ false)
    → are_pseudo_first fields ≡ true → list_any (is_repeated fields) (pseudo_names kind) ≡ false → announces kind ≡ true
    → MatchResult result (λ length. (all_agree (lengths_of fields) ≡ true) × (length ≡ content_length fields)) (λ rule. (rule ≡ InvalidContentLength) × (all_agree (lengths_of fields) ≡ false))
    → MatchResult result (λ length. IsSection kind fields × (length ≡ announced kind fields)) (λ rule. section_breaks kind fields rule ≡ true)
unfolding section_breaks
length_found kind fields (Ok length) lines first once a found = (no_rule kind fields lines (whole_by_rows kind fields first once (rw (a, found.0) refl)), found.1 ∙ sym (announced_is kind fields a))
length_found kind fields (Err rule) lines first once a found = rw (found.0, lines InvalidContentLength, a, found.1) refl
