-- The fields of a section that is decoded under a limit are its lines.
use Rattle.std.proofs.Common.{◌≡◌, ℕ, ◌⊎◌, List, [], ◌∷◌, inl, inr, Option, Some, None, Err}
use Rattle.std.specs.Prelude.{codes}
use Rattle.std.specs.List.{AllByRecursion}
use Rattle.std.specs.Str.{bytes_eq}
use Rattle.std.proofs.lemmas.Bool.{cases_Bool}
use Rattle.wtp_fields.specs.declared.qpack.DecodingError.{DecodingError}
use Rattle.wtp_fields.specs.declared.session.HeadersParseError.{HeadersParseError}
use Rattle.wtp_fields.specs.declared.session.HeadersParseError.TheVariants as is
use Rattle.wtp_fields.specs.Field.{Field, last_value}
use Rattle.wtp_fields.specs.FieldMessages.{request_fault}
use Rattle.wtp_fields.specs.SessionRequest.{fault_unless, fault_without, first_fault}
use Rattle.wtp_fields.specs.FieldSection.{after_prefix}
use Rattle.wtp_fields.specs.FieldList as list
use Rattle.wt_c.specs.RequestFaults.{IsRequestFault}
use Rattle.wt_c.specs.Fields.{AreLinesOf, HasFaultyLine, HasSectionFault, HasStoredLine}

pub all_lines : (limit : ℕ) (section : List ℕ) (m : List Field) → list.Reaches limit section m [] → AreLinesOf section m
all_lines limit section m h = record { start = h.start; prefix = h.prefix; are = h.are }

pub faulty_line : (limit : ℕ) (section : List ℕ) (fault : DecodingError) → list.HasFaultyLine limit section fault → HasFaultyLine section
faulty_line limit section fault h = record {
  start = h.reached.start;
  lines = h.fields;
  rest = h.rest;
  error = fault;
  prefix = h.reached.prefix;
  are = h.reached.are;
  some = h.some;
  fault = h.is;
}

pub section_fault : (limit : ℕ) (section : List ℕ) (fault : DecodingError) → (after_prefix section ≡ Err fault) ⊎ list.HasFaultyLine limit section fault → HasSectionFault section
section_fault limit section fault (inl e) = inl (fault, e)
section_fault limit section fault (inr h) = inr (faulty_line limit section fault h)

pub large_line : (limit : ℕ) (section : List ℕ) → list.ExceedsLimit limit section → HasStoredLine section
large_line limit section h = record { start = h.reached.start; lines = h.fields; rest = h.rest; prefix = h.reached.prefix; are = h.reached.are; needs = inr (h.field, h.behind, h.is) }

pub stored_line : (limit : ℕ) (section : List ℕ) → list.NeedsMemory limit section → HasStoredLine section
stored_line limit section h = record {
  start = h.reached.start;
  lines = h.fields;
  rest = h.rest;
  prefix = h.reached.prefix;
  are = h.reached.are;
  needs = elim h.needs [ inl coded ↦ inl coded | inr fits ↦ inr (fits.field, fits.behind, fits.is) ];
}

pub ruleset decoded = (all_lines, section_fault, large_line, stored_line)

-- ---- the errors of a request

abbrev IsNoOtherFault : Option HeadersParseError → Type 0
IsNoOtherFault None = Unit {0}
IsNoOtherFault (Some fault) = IsRequestFault fault

first_is : (faults : List (Option HeadersParseError)) → AllByRecursion IsNoOtherFault faults → IsNoOtherFault (first_fault faults)
first_is [] h = tt
first_is (Some fault ∷ faults) h = h.0
first_is (None ∷ faults) h = first_is faults h.1

unless_is : (text : List ℕ) (missing other : HeadersParseError) (v : Option (List ℕ)) → IsRequestFault missing → IsRequestFault other → IsNoOtherFault (fault_unless text missing other v)
unless_is text missing other None a b = a
unless_is text missing other (Some value) a b = elim (cases_Bool (bytes_eq value text)) [ inl t ↦ rw t tt | inr t ↦ rw t b ]

without_is : (missing : HeadersParseError) (v : Option (List ℕ)) → IsRequestFault missing → IsNoOtherFault (fault_without missing v)
without_is missing None a = a
without_is missing (Some value) a = tt

request_is : (m : List Field) → IsNoOtherFault (request_fault m)
unfolding request_fault
request_is m =
    let a = unless_is (codes "CONNECT") is.MissingMethod is.MethodNotConnect (last_value (codes ":method") m) (λ e. cc) (λ e. cc) in
    let b = unless_is (codes "https") is.MissingScheme is.SchemeNotHttps (last_value (codes ":scheme") m) (λ e. cc) (λ e. cc) in
    let d = unless_is (codes "webtransport") is.MissingProtocol is.ProtocolNotWebTransport (last_value (codes ":protocol") m) (λ e. cc) (λ e. cc) in
    let f = without_is is.MissingAuthority (last_value (codes ":authority") m) (λ e. cc) in
    let g = without_is is.MissingPath (last_value (codes ":path") m) (λ e. cc) in
    first_is (
    fault_unless (codes "CONNECT") is.MissingMethod is.MethodNotConnect (last_value (codes ":method") m)
    ∷ fault_unless (codes "https") is.MissingScheme is.SchemeNotHttps (last_value (codes ":scheme") m)
    ∷ fault_unless (codes "webtransport") is.MissingProtocol is.ProtocolNotWebTransport (last_value (codes ":protocol") m)
    ∷ fault_without is.MissingAuthority (last_value (codes ":authority") m)
    ∷ fault_without is.MissingPath (last_value (codes ":path") m)
    ∷ []) (a, (b, (d, (f, (g, tt)))))

pub request_faults : (m : List Field) (fault : HeadersParseError) → request_fault m ≡ Some fault → IsRequestFault fault
request_faults m fault e = let h : IsNoOtherFault (request_fault m) = request_is m in rw e at h
